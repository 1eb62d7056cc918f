use Rattle.std.proofs.Common.{ap, ◌∙◌}
use Rattle.semver.specs.Identifiers.{parts_of}
use Rattle.warg_log.specs.Places.{place_of, versions_of}
use Rattle.warg_log.proofs.VersionKeys.{get_by-version}
use Rattle.warg_log.proofs.releases.Releases.place.Goals as goal

pub returns : goal.returns
returns c =
    c.copied.ensures ∙ c.get.ensures.value ∙ get_by-version c.args.version.now c.self.inside.places ∙ c.self.invariant.placed c.args.version.now
    ∙ ap (λ rs. place_of (parts_of c.args.version.now) (versions_of rs)) c.self.view_is
