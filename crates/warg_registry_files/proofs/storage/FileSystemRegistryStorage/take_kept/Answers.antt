-- A file that is kept of a registry may go.
use Rattle.std.proofs.Common.{◌≡◌, true, refl, subst}
use Rattle.std.proofs.lemmas.Result.{on_ok_weaker}
use Rattle.warg_registry_files.specs.Resets.{IsKept, MayGo, is_at}
use Rattle.warg_registry_files.specs.Shown.{place_view}
use Rattle.warg_registry_files.proofs.ResetLaws.{kept_gone, others_may, others_none}
use Rattle.warg_registry_files.proofs.storage.FileSystemRegistryStorage.take_kept.Goals as goal

pub returns-then-not-is_kept-clause-others : goal.returns-then-not-is_kept-clause-others
returns-then-not-is_kept-clause-others g c = others_none _ _ (MayGo (place_view c.args.self.now.place) true) refl

pub returns-clause-others : goal.returns-clause-others
returns-clause-others g c =
    let place = place_view c.args.self.now.place in
    let kept : IsKept place c.args.path.now = subst (IsKept place) c.as_str.ensures (c.is_kept.ensures.kept c.if-not-is_kept.false) in
    others_may _ _ (MayGo place true) (λ q. is_at c.args.path.now q ≡ true) (λ q at. (c.args.path.now, kept, at)) c.take.ensures.others

pub returns-clause-gone : goal.returns-clause-gone
returns-clause-gone g c = on_ok_weaker c.take.result (kept_gone (place_view c.args.self.now.place) _ _ c.args.path.now) c.take.ensures.gone
