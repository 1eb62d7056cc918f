-- What a set of things holds.
use Rattle.std.specs.Prelude.{◌≡◌, List}
use Rattle.std.specs.BTreeSet.{BTreeSet, contains}
use Rattle.compose_left.specs.declared.spots.Thing.{Thing}
use Rattle.compose_left.specs.Wired.{thing_cmp}
use Rattle.compose_needs.specs.Mentioned.{has}

abbrev pub Things : Type 0
Things = List Thing

-- a set of these things
abbrev pub Holds : BTreeSet Thing → List Thing → Type 0
Holds set ts = (t : Thing) → contains thing_cmp set t ≡ has ts t
