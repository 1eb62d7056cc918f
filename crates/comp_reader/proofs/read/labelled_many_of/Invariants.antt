use Rattle.std.proofs.Common.{◌≡◌, ◌-◌, ℕ, List, []}
use Rattle.comp_format.specs.Vectors.{labelled_at}
use Rattle.comp_reader.proofs.LabelLaws.{HasLabels}
use Rattle.comp_reader.proofs.ManyLaws.{with_front}
use Rattle.comp_reader.proofs.read.labelled_many_of.Given as goal

abbrev pub invariant-loop : goal.invariant-loop
invariant-loop g l =
    (labels : List (List ℕ)) × HasLabels labels l.seen
    × (with_front l.values.items (labelled_at g.T.Labelled.behind_at labels (l.count - l.counter) l.rest) ≡ labelled_at g.T.Labelled.behind_at [] l.count l.bytes)
