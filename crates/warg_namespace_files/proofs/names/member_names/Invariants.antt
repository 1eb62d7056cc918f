-- what is found so far, with what is left, is what is meant
use Rattle.std.proofs.Common.{◌≡◌, [], bytes_eq, option_map, drop}
use Rattle.indexmap.specs.IndexMap.{insert_all}
use Rattle.json.specs.Value.{members_view}
use Rattle.warg_namespace_files.specs.NamespaceFile.{texts_of}
use Rattle.warg_namespace_files.proofs.names.member_names.Given as goal

abbrev pub invariant-loop-member : goal.invariant-loop-member
invariant-loop-member l =
    option_map (insert_all bytes_eq l.names.entries) (texts_of (members_view (drop l.member-index l.member-items)))
    ≡ option_map (insert_all bytes_eq []) (texts_of (members_view l.member-items))
