-- Four paths are taken.
use Rattle.std.proofs.Common.{false, refl, inl, inr}
use Rattle.std.proofs.lemmas.Result.{on_ok_weaker}
use Rattle.warg_registry_files.specs.Resets.{MayGo}
use Rattle.warg_registry_files.specs.Shown.{place_view}
use Rattle.warg_registry_files.proofs.ResetLaws.{home_gone, others_none, taken_goes}
use Rattle.warg_registry_files.proofs.storage.FileSystemRegistryStorage.take_home.Goals as goal

pub returns-in_err-checkpoint-clause-others : goal.returns-in_err-checkpoint-clause-others
returns-in_err-checkpoint-clause-others g c = others_none _ _ (MayGo (place_view c.args.self.now.place) false) refl

pub returns-in_err-operator-clause-others : goal.returns-in_err-operator-clause-others
returns-in_err-operator-clause-others g c = others_none _ _ (MayGo (place_view c.args.self.now.place) false) refl

pub returns-in_err-publish-clause-others : goal.returns-in_err-publish-clause-others
returns-in_err-publish-clause-others g c = others_none _ _ (MayGo (place_view c.args.self.now.place) false) refl

pub returns-in_err-packages-clause-others : goal.returns-in_err-packages-clause-others
returns-in_err-packages-clause-others g c = others_none _ _ (MayGo (place_view c.args.self.now.place) false) refl

pub returns-in_err-take-clause-others : goal.returns-in_err-take-clause-others
returns-in_err-take-clause-others g c = let place = place_view c.args.self.now.place in taken_goes place false _ _ _ c.in_ok-checkpoint.checkpoint (inl c.in_ok-checkpoint.ensures.path) (others_none _ _ (MayGo place false) refl) c.take.ensures.others

pub returns-in_err-take-2-clause-others : goal.returns-in_err-take-2-clause-others
returns-in_err-take-2-clause-others g c =
    let place = place_view c.args.self.now.place in
    taken_goes place false _ _ _ c.in_ok-operator.operator (inr (inl c.in_ok-operator.ensures.path)) (taken_goes place false _ _ _ c.in_ok-checkpoint.checkpoint (inl c.in_ok-checkpoint.ensures.path) (others_none _ _ (MayGo place false) refl) c.take.ensures.others) c.take-2.ensures.others

pub returns-in_err-take-3-clause-others : goal.returns-in_err-take-3-clause-others
returns-in_err-take-3-clause-others g c =
    let place = place_view c.args.self.now.place in
    taken_goes place false _ _ _ c.in_ok-publish.publish (inr (inr (inl c.in_ok-publish.ensures))) (taken_goes place false _ _ _ c.in_ok-operator.operator (inr (inl c.in_ok-operator.ensures.path)) (taken_goes place false _ _ _ c.in_ok-checkpoint.checkpoint (inl c.in_ok-checkpoint.ensures.path) (others_none _ _ (MayGo place false) refl) c.take.ensures.others) c.take-2.ensures.others) c.take-3.ensures.others

pub returns-clause-others : goal.returns-clause-others
returns-clause-others g c =
    let place = place_view c.args.self.now.place in
    taken_goes place false _ _ _ c.in_ok-packages.packages (inr (inr (inr c.in_ok-packages.ensures))) (taken_goes place false _ _ _ c.in_ok-publish.publish (inr (inr (inl c.in_ok-publish.ensures))) (taken_goes place false _ _ _ c.in_ok-operator.operator (inr (inl c.in_ok-operator.ensures.path)) (taken_goes place false _ _ _ c.in_ok-checkpoint.checkpoint (inl c.in_ok-checkpoint.ensures.path) (others_none _ _ (MayGo place false) refl) c.take.ensures.others) c.take-2.ensures.others) c.take-3.ensures.others) c.take-4.ensures.others

pub returns-clause-gone : goal.returns-clause-gone
returns-clause-gone g c =
    on_ok_weaker c.take-4.result
    (home_gone (place_view c.args.self.now.place) _ _ _ _ _ c.in_ok-checkpoint.checkpoint c.in_ok-operator.operator c.in_ok-publish.publish c.in_ok-packages.packages c.in_ok-checkpoint.ensures.path c.in_ok-operator.ensures.path c.in_ok-publish.ensures c.in_ok-packages.ensures
    c.take.ensures.others c.take-2.ensures.others c.take-3.ensures.others c.take-4.ensures.others c.in_ok-take.ensures.gone c.in_ok-take-2.ensures.gone c.in_ok-take-3.ensures.gone)
    c.take-4.ensures.gone
