use Rattle.std.proofs.Common.{◌≡◌, ◌∷◌, [], length, map, sym, ap, subst, ◌∙◌, append_assoc, append-nil, arith}
use Rattle.std.specs.List.{All}
use Rattle.std.specs.Vec.Iter.{into_iter_items}
use Rattle.warg_info.specs.Info.{IsSoundPackage}
use Rattle.warg_page.specs.Steps.{AreGood, IsGood}
use Rattle.warg_store.specs.Held.{named_info}
use Rattle.warg_fetch.proofs.GroupLaws.{filed_of, nothing_left, one_more_each, one_more_filed}
use Rattle.warg_fetch.proofs.group.each_filed.Goals as goal

pub loop-info-preserved : goal.loop-info-preserved
loop-info-preserved c =
    let at = c.loop-info in
    let i = c.in-Some.info in
    let f = c.in_ok-filed.field-0 in
    let steps : into_iter_items at.info-iterator ≡ i ∷ into_iter_items c.next.new.self = c.in-Some.ensures.steps.0 in
    let gone = c.in-Some.ensures.steps.1 in
    let short = ap length steps in
    let was = at.invariant.counted in record {
      in_order = append_assoc at.yielded (i ∷ []) _ ∙ rw (← steps) at.invariant.in_order;
      counted = omega arith;
      filed = one_more_filed _ _ at.all.items _ at.yielded f i c.in_ok-push.ensures.items at.invariant.filed c.in_ok-filed.ensures.filed;
      sound = one_more_each IsSoundPackage at.yielded at.all.items _ i f c.in_ok-push.ensures.items at.invariant.sound c.in_ok-filed.ensures.sound;
      good = λ accepts. one_more_each (IsGood accepts) at.yielded at.all.items _ i f c.in_ok-push.ensures.items (at.invariant.good accepts) (c.in_ok-filed.ensures.good accepts);
    }

pub returns-clause-filed : goal.returns-clause-filed
returns-clause-filed c =
    let at = c.loop-info in
    let empty : into_iter_items at.info-iterator ≡ [] = nothing_left _ (sym at.invariant.counted ∙ c.in-None.ensures.steps.0) in
    let all = sym (append-nil at.yielded) ∙ rw empty at at.invariant.in_order ∙ c.into_iter-info-iterator.ensures.into_iter_gives.0 in
    subst (λ l. map named_info at.all.items ≡ map (filed_of c.args.registry.now c.args.checkpoint) l) all at.invariant.filed

pub returns-clause-sound : goal.returns-clause-sound
returns-clause-sound c =
    let at = c.loop-info in
    let empty : into_iter_items at.info-iterator ≡ [] = nothing_left _ (sym at.invariant.counted ∙ c.in-None.ensures.steps.0) in
    let all = sym (append-nil at.yielded) ∙ rw empty at at.invariant.in_order ∙ c.into_iter-info-iterator.ensures.into_iter_gives.0 in
    subst (λ l. All IsSoundPackage l → All IsSoundPackage at.all.items) all at.invariant.sound

pub returns-clause-good : goal.returns-clause-good
returns-clause-good c = λ accepts.
    let at = c.loop-info in
    let empty : into_iter_items at.info-iterator ≡ [] = nothing_left _ (sym at.invariant.counted ∙ c.in-None.ensures.steps.0) in
    let all = sym (append-nil at.yielded) ∙ rw empty at at.invariant.in_order ∙ c.into_iter-info-iterator.ensures.into_iter_gives.0 in
    subst (λ l. AreGood accepts l → AreGood accepts at.all.items) all (at.invariant.good accepts)
