use Rattle.std.proofs.Common.{rules, ◌≡◌, List, ℕ, length, subst, sym, ap, arith, inl, inr}
use Rattle.std.proofs.lemmas.Bool.{cases_lt}
use Rattle.comp_format.specs.Sections.{SectionsForm}
use Rattle.comp_reader.specs.declared.places.ItemPlace.{ItemPlace}
use Rattle.comp_reader.specs.Places.{InSection, StandsAt}
use Rattle.comp_reader.proofs.ItemLaws.{memory_is}
use Rattle.comp_reader.proofs.PlaceLaws.{stands, behind_header}
use Rattle.comp_reader.proofs.places.item_place.Goals as goal

pub returns-in-Ok-clause-found : goal.returns-in-Ok-clause-found
returns-in-Ok-clause-found c = λ items reads lt.
    let there = stands c.args.bytes.now items c.args.number reads lt in
    let place : ItemPlace = record { section = c.saturating_sub.result; item = c.saturating_sub-in-Ok.result } in
    let once : StandsAt c.args.number c.args.bytes.now there.0 → place ≡ there.0 = search rules in
    subst (StandsAt c.args.number c.args.bytes.now) (sym (once there.1)) there.1

pub returns-in-Err-clause-only : goal.returns-in-Err-clause-only
returns-in-Err-clause-only c = λ items reads.
    memory_is c.in-Err.error c.placed-in-Err.result c.placed-in-Err.ensures (elim (cases_lt c.args.number (length items)) [
      | inl lt ↦
          let there = stands c.args.bytes.now items c.args.number reads lt in
          let h = there.1 in
          let same = behind_header c.args.bytes.now h.sections c.in-Some.sections.now h.headed c.in-Some.ensures.cases.1 in
          c.in-Err.ensures.found h.this h.within h.section h.content h.behind h.item (subst (λ (sections : List ℕ). InSection c.args.number sections h.this h.within h.section) same h.in_section) h.framed h.of_content h.item_first
      | inr le ↦
          let same = behind_header c.args.bytes.now reads.2.0 c.in-Some.sections.now reads.2.1 c.in-Some.ensures.cases.1 in
          c.in-Err.ensures.behind reads.0 (subst (λ (sections : List ℕ). SectionsForm reads.0 sections) same reads.2.2) (omega (arith, le, ap length reads.1))
    ])
