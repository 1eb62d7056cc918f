-- What stands in an entity, instances gone into.
use Rattle.std.specs.Prelude.{List, [], map}
use Rattle.comp_entity.specs.Entity.{EntityTree, Entries}
use Rattle.comp_entity.specs.Places.{Path, leaves_of, leaves_in}
use Rattle.compose_left.specs.Spots.{named_by}
use Rattle.compose_needs.specs.declared.leaves.Leaf.{Leaf}
use Rattle.compose_needs.specs.Mentioned.{mentioned}

abbrev pub leaf_of : Path × EntityTree → Leaf
leaf_of x = record { path = x.0; named = named_by x.1; mentioned = mentioned x.1 }

abbrev pub leaves_from : Path → EntityTree → List Leaf
leaves_from path e = map leaf_of (leaves_of path e)

abbrev pub leaves_among : Path → Entries → List Leaf
leaves_among path es = map leaf_of (leaves_in path es)

abbrev pub leaves_at : EntityTree → List Leaf
leaves_at e = leaves_from [] e
