use Rattle.std.proofs.Common.{◌≡◌, ◌∷◌, [], length, map, All, sym, ap, subst, ◌∙◌, append_assoc, append-nil, arith}
use Rattle.std.proofs.lemmas.List.Elements.{All-push}
use Rattle.std.specs.Vec.Iter.{into_iter_items}
use Rattle.warg_info.specs.Info.{IsSoundPackage}
use Rattle.warg_page.specs.Steps.{IsGood}
use Rattle.warg_page.specs.Views.{package_view}
use Rattle.warg_learn.specs.Groups.{without_logs}
use Rattle.warg_learn.proofs.GroupLaws.{nothing_left, unlogged_more}
use Rattle.warg_fetch.specs.StoredLaws.{new_is_good}
use Rattle.warg_learn.proofs.group.new_packages.Goals as goal

pub loop-name-preserved : goal.loop-name-preserved
loop-name-preserved c =
    let at = c.loop-name in
    let name = c.in-Some.name in
    let info = c.new.result in
    let steps : into_iter_items at.name-iterator ≡ name ∷ into_iter_items c.next.new.self = c.in-Some.ensures.steps.0 in record {
      in_order = append_assoc at.yielded (name ∷ []) _ ∙ rw (← steps) at.invariant.in_order;
      counted =
          let was = at.invariant.counted in
          let gone = c.in-Some.ensures.steps.1 in
          let short = ap length steps in
          omega arith;
      empty = ap (map package_view) c.in_ok-push.ensures.items ∙ unlogged_more at.yielded at.infos.items name info at.invariant.empty c.new.ensures.name c.new.ensures.empty;
      sound = subst (All IsSoundPackage) (sym c.in_ok-push.ensures.items) (All-push IsSoundPackage at.infos.items info at.invariant.sound c.new.ensures.sound);
      good = λ accepts. subst (All (IsGood accepts)) (sym c.in_ok-push.ensures.items) (All-push (IsGood accepts) at.infos.items info (at.invariant.good accepts) (new_is_good accepts info c.new.ensures.sound c.new.ensures.empty));
    }

pub returns-clause-empty : goal.returns-clause-empty
returns-clause-empty c =
    let at = c.loop-name in
    let none = c.in-None.ensures.steps in
    let empty : into_iter_items at.name-iterator ≡ [] = nothing_left _ (sym at.invariant.counted ∙ none.0) in
    let all = sym (append-nil at.yielded) ∙ rw empty at at.invariant.in_order ∙ c.into_iter-name-iterator.ensures.into_iter_gives.0 in
    at.invariant.empty ∙ ap without_logs all
