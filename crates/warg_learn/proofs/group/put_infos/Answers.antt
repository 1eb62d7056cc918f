use Rattle.std.proofs.Common.{◌≡◌, ◌∷◌, [], ◌++◌, length, map, All, refl, sym, ap, subst, ◌∙◌, append_assoc, append-nil, arith}
use Rattle.std.specs.Vec.Iter.{into_iter_items}
use Rattle.warg_info.specs.Info.{IsSoundPackage}
use Rattle.warg_page.specs.Views.{package_view}
use Rattle.warg_learn.specs.Gathered.{AreFound}
use Rattle.warg_learn.proofs.GroupLaws.{nothing_left, put_more}
use Rattle.warg_learn.proofs.group.put_infos.Goals as goal

pub loop-info-preserved : goal.loop-info-preserved
loop-info-preserved c =
    let at = c.loop-info in
    let info = c.in-Some.info in
    let steps : into_iter_items at.info-iterator ≡ info ∷ into_iter_items c.next.new.self = c.in-Some.ensures.steps.0 in record {
      in_order = append_assoc at.yielded (info ∷ []) _ ∙ rw (← steps) at.invariant.in_order;
      counted =
          let was = at.invariant.counted in
          let gone = c.in-Some.ensures.steps.1 in
          let short = ap length steps in
          omega arith;
      found = λ logs had sound.
          put_more logs at.yielded (into_iter_items c.next.new.self) _ info (rw steps at (sym at.invariant.in_order)) sound
          _ _ info.name refl (at.invariant.found logs had sound) c.in_ok-put_info.ensures.0;
    }

pub returns : goal.returns
returns c =
    let at = c.loop-info in
    let empty : into_iter_items at.info-iterator ≡ [] = nothing_left _ (sym at.invariant.counted ∙ c.in-None.ensures.steps.0) in
    let gives = c.into_iter-info-iterator.ensures.into_iter_gives.0 in
    let all = sym (append-nil at.yielded) ∙ rw empty at at.invariant.in_order ∙ gives in
    record { found = λ logs had sound. subst (λ l. AreFound (map package_view l ++ logs) at.found) all (at.invariant.found logs had (subst (All IsSoundPackage) (sym gives) sound)) }
