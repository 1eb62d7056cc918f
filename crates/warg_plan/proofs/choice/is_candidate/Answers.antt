use Rattle.std.proofs.Common.{refl, ◌∙◌}
use Rattle.semver.proofs.EvalViews.{matches_all-views}
use Rattle.semver.specs.Identifiers.{parts_of}
use Rattle.warg_plan.proofs.choice.is_candidate.Goals as goal

pub returns : goal.returns
returns c =
    let meets = c.matches-meets.ensures ∙ matches_all-views c.args.import.now.req.comparators.items c.args.release.now.version in
    let digest = c.has_digest-has_content.ensures (parts_of c.args.release.now.version) in
    c.hold.ensures ∙ rw (c.in-Some.is, meets, c.has_version-is_exact.ensures, digest) refl
