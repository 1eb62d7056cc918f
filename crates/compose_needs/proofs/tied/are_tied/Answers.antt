use Rattle.std.proofs.Common.{◌++◌, sym, ap, subst, ◌∙◌, take}
use Rattle.std.specs.List.{list_all}
use Rattle.compose_needs.specs.Seen.{Holds}
use Rattle.compose_needs.specs.Mentioned.{has}
use Rattle.compose_needs.specs.Tied.{named_in}
use Rattle.compose_needs.proofs.SeenLaws.{named_more, tied_fails, tied_passes}
use Rattle.compose_needs.proofs.tied.are_tied.Goals as goal

pub loop-place-preserved : goal.loop-place-preserved
loop-place-preserved c = record {
  seen = λ s h.
      subst (λ ts. Holds c.note_named.new.seen ts)
      (ap (λ ts. (s ++ named_in (take c.loop-place.place-index c.args.places.now)) ++ ts) c.as_slice.ensures ∙ sym (named_more s c.args.places.now c.loop-place.place-index c.place-item.result c.loop-place-test.true c.place-item.is))
      (c.in_ok-note_named.ensures (s ++ named_in (take c.loop-place.place-index c.args.places.now)) (c.loop-place.invariant.seen s h));
  tied = λ s h.
      let before = s ++ named_in (take c.loop-place.place-index c.args.places.now) in
      tied_passes before _ c.args.places.now c.loop-place.place-index c.place-item.result _ c.loop-place-test.true c.place-item.is
      (named_more s c.args.places.now c.loop-place.place-index c.place-item.result c.loop-place-test.true c.place-item.is)
      (sym (c.all_seen.ensures (before ++ c.as_slice.result.now) (c.in_ok-note_named.ensures before (c.loop-place.invariant.seen s h)) ∙ (λ k. list_all (has (before ++ c.as_slice.ensures k)) (c.as_slice-in-loop-place.ensures k))) ∙ c.if-not-all_seen.false)
      (c.loop-place.invariant.tied s h);
}

pub returns-then-not-all_seen-clause-tied : goal.returns-then-not-all_seen-clause-tied
returns-then-not-all_seen-clause-tied c = λ s h.
    let before = s ++ named_in (take c.loop-place.place-index c.args.places.now) in
    tied_fails before c.args.places.now c.loop-place.place-index c.place-item.result _ c.loop-place-test.true c.place-item.is
    (sym (c.all_seen.ensures (before ++ c.as_slice.result.now) (c.in_ok-note_named.ensures before (c.loop-place.invariant.seen s h)) ∙ (λ k. list_all (has (before ++ c.as_slice.ensures k)) (c.as_slice-in-loop-place.ensures k))) ∙ c.if-not-all_seen.true)
    (c.loop-place.invariant.tied s h)
