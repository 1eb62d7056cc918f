use Rattle.std.proofs.Common.{rules}
use Rattle.std.proofs.lemmas.Map.Made.{filter_same_pairs}
use Rattle.warg_store.specs.Held.{is_registry, is_reset}
use Rattle.warg_store.proofs.ResetLaws.{without_slots, stays_registry, registries_together}
use Rattle.warg_store.proofs.resets.reset_registries.Goals as goal

pub returns : goal.returns
returns g c =
    without_slots is_registry g.T.Stored.seen (is_reset c.args.all) (stays_registry c.args.all) (registries_together c.args.all) _ _
    (filter_same_pairs _ (λ e. stays_registry c.args.all e.0) _ (λ k v b w f' t. search rules) _ _ c.retain.ensures.filtered)
