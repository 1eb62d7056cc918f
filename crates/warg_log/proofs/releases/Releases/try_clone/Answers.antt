use Rattle.std.proofs.Common.{ℕ, List, Option, sym, ap, subst, ◌∙◌}
use Rattle.semver.specs.Identifiers.{parts_of}
use Rattle.semver.specs.Parse.{Parts}
use Rattle.warg_log.specs.Places.{place_of, versions_of, release_views, AreDistinct}
use Rattle.warg_log.proofs.Copying.{fresh_before}
use Rattle.warg_log.proofs.releases.Releases.try_clone.Goals as goal

pub push-requires : goal.push-requires
push-requires c =
    let distinct = subst (λ rs. AreDistinct (versions_of (release_views rs))) (sym c.as_slice-releases.ensures.value) c.self.invariant.distinct in
    ap (λ (rs : List (Parts × Option (List ℕ))). place_of (parts_of c.release-item.result.version) (versions_of rs)) c.loop-release.invariant
    ∙ fresh_before c.as_slice-releases.result.now c.loop-release.release-index c.release-item.result distinct c.loop-release-test.true c.release-item.is
