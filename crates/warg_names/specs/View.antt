-- What clauses see of imports: plain values.
use Rattle.std.specs.Prelude.{List, map, option_map}
use Rattle.semver.specs.Parse.{Held}
use Rattle.semver.specs.declared.VersionReq.{VersionReq}
use Rattle.semver.specs.Identifiers.{parts_of, comparator_view}
use Rattle.warg_names.specs.Import.{KindTree, Locked, Unlocked, Interface, ImportTree}
use Rattle.warg_names.specs.declared.import.Import.{Import}
use Rattle.warg_names.specs.declared.import.ImportKind.{ImportKind}
use Rattle.warg_names.specs.declared.import.ImportKind.TheVariants as kind

abbrev pub kind_tree : ImportKind → KindTree
kind_tree (kind.Locked integrity) = Locked integrity
kind_tree kind.Unlocked = Unlocked
kind_tree (kind.Interface version) = Interface version

abbrev pub requirement_view : VersionReq → List Held
requirement_view req = map comparator_view req.comparators.items

abbrev pub import_tree : Import → ImportTree
import_tree i = record { name = i.name; requirement = requirement_view i.req; kind = kind_tree i.kind; exact = option_map parts_of i.exact }
