use Rattle.std.proofs.Common.{[], ◌∷◌, ◌++◌, map, sym, ap, ◌∙◌, inr}
use Rattle.std.proofs.lemmas.List.Elements.{All-nil, All-push}
use Rattle.std.proofs.lemmas.Result.{IfOk-weaker, IfErr-weaker}
use Rattle.warg_hash.specs.Hash.{package_log_id}
use Rattle.warg_info.specs.Info.{IsSoundPackage}
use Rattle.warg_page.specs.Steps.{IsGood, id_of}
use Rattle.warg_assemble.specs.Parts.{start_of}
use Rattle.warg_fetch.specs.Stored.{registry_for}
use Rattle.warg_fetch.specs.StoredLaws.{knows_still, own_still, later_start, new_is_good, tells_then}
use Rattle.warg_fetch.proofs.UpdateSteps.{by_both, new_start}
use Rattle.warg_fetch.proofs.start.load_start.Goals as goal

pub returns-clause-kept : goal.returns-clause-kept
returns-clause-kept g c = tells_then _ _ _ c.registry_for.ensures.kept c.start_of.ensures.kept

pub returns-clause-begins : goal.returns-clause-begins
returns-clause-begins g c = by_both c.start_of.result _ _ _ (λ start is begins known knows.
    begins known (knows_still known _ _ knows c.registry_for.ensures.kept)
    ∙ new_start known _ c.args.name.now _ c.new.result (c.in_ok-push.ensures.items ∙ ap (λ l. l ++ c.new.result ∷ []) c.new-packages.ensures.items) (c.new.ensures.name ∙ c.in_ok-try_clone.ensures) c.new.ensures.empty
    ∙ ap (λ q. start_of known q c.args.name.now) (sym is)) c.start_of.ensures.registry c.start_of.ensures.begins

pub returns-clause-good : goal.returns-clause-good
returns-clause-good g c = IfOk-weaker c.start_of.result _ _ (λ start h accepts own. h accepts (own_still accepts _ _ own c.registry_for.ensures.kept)
    (rw (c.in_ok-push.ensures.items, c.new-packages.ensures.items) (All-push (IsGood accepts) [] c.new.result (All-nil (IsGood accepts)) (new_is_good accepts c.new.result c.new.ensures.sound c.new.ensures.empty)))) c.start_of.ensures.good

pub returns-clause-sound : goal.returns-clause-sound
returns-clause-sound g c = IfOk-weaker c.start_of.result _ _ (λ start h.
    h (rw (c.in_ok-push.ensures.items, c.new-packages.ensures.items) (All-push IsSoundPackage [] c.new.result (All-nil IsSoundPackage) c.new.ensures.sound))) c.start_of.ensures.sound

pub returns-clause-ids : goal.returns-clause-ids
returns-clause-ids g c = IfOk-weaker c.start_of.result _ _ (λ start same.
    rw same (ap (map id_of) (c.in_ok-push.ensures.items ∙ ap (λ l. l ++ c.new.result ∷ []) c.new-packages.ensures.items)
    ∙ ap (λ n. package_log_id n ∷ []) (c.new.ensures.name ∙ c.in_ok-try_clone.ensures))) c.start_of.ensures.packages

pub returns-clause-fault : goal.returns-clause-fault
returns-clause-fault g c = IfErr-weaker c.start_of.result _ _ (λ e h known knows names. inr (later_start e _ _ _ _ _ _ _ (c.in_ok-registry.ensures.found known knows names ∙ ap (registry_for known) c.namespace.ensures.value) c.in_ok-registry.ensures.registries_never_fall c.registry_for.ensures.kept h)) c.start_of.ensures.fault
