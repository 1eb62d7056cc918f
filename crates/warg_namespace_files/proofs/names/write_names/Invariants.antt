-- what was written, and what is left, are the whole, in which no namespace stands twice
use Rattle.std.proofs.Common.{◌≡◌, [], ◌++◌, bytes_eq}
use Rattle.std.specs.List.{IsDistinct}
use Rattle.std.specs.Map.{keys_of}
use Rattle.json.specs.Json.{object}
use Rattle.json.specs.Tree.{json_tokens, members_tokens}
use Rattle.warg_namespace_files.specs.NamespaceFile.{members_of}
use Rattle.warg_namespace_files.proofs.names.write_names.Given as goal

abbrev pub invariant-loop-namespace : goal.invariant-loop-namespace
invariant-loop-namespace l =
    (l.writer.tokens ++ members_tokens (members_of l.namespace-iterator) ≡ json_tokens (object (members_of l.names.entries)))
    × (l.writer.before ≡ [])
    × IsDistinct bytes_eq (keys_of l.names.entries)
