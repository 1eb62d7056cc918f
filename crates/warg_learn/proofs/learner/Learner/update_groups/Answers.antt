use Rattle.std.proofs.Common.{◌++◌, [], map, sym, ap, subst, ◌∙◌}
use Rattle.std.proofs.lemmas.List.{map-append}
use Rattle.std.proofs.lemmas.Result.{err_from_is_err_and}
use Rattle.warg_page.specs.Views.{package_view}
use Rattle.warg_learn.specs.Gathered.{AreFound}
use Rattle.warg_learn.specs.Groups.{proved_logs}
use Rattle.warg_learn.specs.Seen.{seen, tells}
use Rattle.warg_learn.proofs.GroupLaws.{found_among, group_at, none_found, none_left, swapped}
use Rattle.warg_learn.proofs.GroupSteps.{all_taken, logs_more, none_taken, taken_forgotten, taken_known, taken_more, taken_own, taken_refused}
use Rattle.warg_learn.proofs.learner.Learner.update_groups.Goals as goal

pub loop-registry-init : goal.loop-registry-init
loop-registry-init g c = ([], none_found [] _ c.new-found.ensures.empty, none_taken _ _ _)

pub returns-in_err-infos-clause-refused : goal.returns-in_err-infos-clause-refused
returns-in_err-infos-clause-refused g c =
    let q = err_from_is_err_and c.from_residual.result c.from_residual.ensures.1 in
    let at = c.loop-registry in
    let last = ap (map group_at) c.in-Some.ensures.entries ∙ map-append group_at c.pop.new.self.entries _ in
    rw (q.1, q.2) (taken_refused _ _ _ _ _ _ _ _ at.invariant.0 _ _ at.invariant.2 last c.in_err-infos.ensures.refused)

pub returns-in_err-infos-clause-own : goal.returns-in_err-infos-clause-own
returns-in_err-infos-clause-own g c = λ known k.
    let at = c.loop-registry in
    let tell = tells g.V.Verifier.good g.L.Link.told g.L.Link.faults g.R.RegistryStorage.told g.R.RegistryStorage.faults g.C.ContentStorage.told g.C.ContentStorage.faults g.N.NamespaceMapStorage.told g.N.NamespaceMapStorage.faults in
    taken_own _ _ _ _ (seen tell c.update_group.new.self) _ at.invariant.0 known k at.invariant.2 c.in_err-infos.ensures.refused.own

pub returns-in_err-put_infos-clause-refused : goal.returns-in_err-put_infos-clause-refused
returns-in_err-put_infos-clause-refused g c =
    let q = err_from_is_err_and c.from_residual-in_err-put_infos.result c.from_residual-in_err-put_infos.ensures.1 in
    let at = c.loop-registry in
    let last = ap (map group_at) c.in-Some.ensures.entries ∙ map-append group_at c.pop.new.self.entries _ in
    let one = c.in_ok-infos.ensures.learnt in
    rw (q.1, q.2) (taken_forgotten _ _ _ _ _ _ _ (taken_more _ _ _ _ _ _ _ at.invariant.0 _ one.0 at.invariant.2 last one.2))

pub returns-in_err-put_infos-clause-own : goal.returns-in_err-put_infos-clause-own
returns-in_err-put_infos-clause-own g c = λ known k.
    let at = c.loop-registry in
    let last = ap (map group_at) c.in-Some.ensures.entries ∙ map-append group_at c.pop.new.self.entries _ in
    let one = c.in_ok-infos.ensures.learnt in
    taken_known _ _ _ _ _ _ known k (taken_more _ _ _ _ _ _ _ at.invariant.0 _ one.0 at.invariant.2 last one.2)

pub loop-registry-preserved : goal.loop-registry-preserved
loop-registry-preserved g c =
    let at = c.loop-registry in
    let last = ap (map group_at) c.in-Some.ensures.entries ∙ map-append group_at c.pop.new.self.entries _ in
    let one = c.in_ok-infos.ensures.learnt in (
      _,
      subst (λ logs. AreFound logs c.put_infos.new.found) (ap (λ l. proved_logs at.invariant.0 ++ l) (sym one.1) ∙ logs_more at.invariant.0 one.0)
          (found_among (map package_view c.in_ok-infos.infos.items ++ proved_logs at.invariant.0) (proved_logs at.invariant.0 ++ map package_view c.in_ok-infos.infos.items) _
          (swapped (map package_view c.in_ok-infos.infos.items) (proved_logs at.invariant.0))
          (c.in_ok-put_infos.ensures.found (proved_logs at.invariant.0) at.invariant.1 c.in_ok-infos.ensures.sound)),
      taken_more _ _ _ _ _ _ _ at.invariant.0 _ one.0 at.invariant.2 last one.2,
    )

pub returns-clause-learnt : goal.returns-clause-learnt
returns-clause-learnt g c =
    let at = c.loop-registry in
    (at.invariant.0, at.invariant.1, all_taken _ _ _ _ _ _ at.invariant.2 (ap (map group_at) (none_left _ _ c.pop.ensures.found c.in_default.is)))

pub returns-clause-own : goal.returns-clause-own
returns-clause-own g c = λ known k. taken_known _ _ _ _ _ _ known k c.loop-registry.invariant.2
