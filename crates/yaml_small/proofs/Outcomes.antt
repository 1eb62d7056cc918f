-- Each text is emitted to the stream's end or refused.
use Rattle.std.proofs.Common.{ℕ, ◌⊎◌, List, Option, inl, inr}
use Rattle.yaml_small.specs.declared.event.Event.{Event}
use Rattle.yaml_small.specs.Trees.{Tree}
use Rattle.yaml_small.specs.Scalars.{Fault}
use Rattle.yaml_small.specs.Grammar.{Carried}
use Rattle.yaml_small.specs.Stream.{Emits, Refuses}
use Rattle.yaml_small.proofs.Ends.{text_outcome}
use Rattle.yaml_small.specs.FoundTextLaws.{found}

pub emitted_or_refused : (text : List ℕ) → ((es : List Event) × Emits text es) ⊎ ((fault : Fault) × Refuses text fault)
emitted_or_refused text =
    let o = text_outcome text in
    elim (o.ending) [
      | inl end ↦ inl (o.events, (o.state, o.runs, end))
      | inr (fault, stop) ↦ inr (fault, (o.events, (o.state, (o.runs, stop))))
    ]

pub not_carried_refused : (text : List ℕ) → ((o : Option Tree) → Carried text o → ⊥) → (fault : Fault) × Refuses text fault
not_carried_refused text none =
    elim (emitted_or_refused text) [
      | inl (es, emits) ↦ let f = found text es emits in absurd (none f.tree f.carried)
      | inr refused ↦ refused
    ]
