use Rattle.std.proofs.Common.{rules}
use Rattle.std.proofs.lemmas.Map.Made.{filter_same_pairs}
use Rattle.warg_store.specs.Held.{is_package, is_reset}
use Rattle.warg_store.proofs.ResetLaws.{without_slots, stays_registry, packages_together}
use Rattle.warg_store.proofs.resets.reset_packages.Goals as goal

pub returns : goal.returns
returns g c =
    without_slots is_package g.T.Stored.seen (λ p. is_reset c.args.all p.0) (λ p. stays_registry c.args.all p.0) (packages_together c.args.all) _ _
    (filter_same_pairs _ (λ e. stays_registry c.args.all e.0.0) _ (λ k v b w f' t. search rules) _ _ c.retain.ensures.filtered)
