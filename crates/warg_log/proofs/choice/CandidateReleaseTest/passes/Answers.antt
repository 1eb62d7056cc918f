use Rattle.std.proofs.Common.{Some, refl, ◌∙◌}
use Rattle.semver.proofs.EvalViews.{matches_all-views}
use Rattle.semver.specs.Identifiers.{parts_of}
use Rattle.warg_log.proofs.choice.CandidateReleaseTest.passes.Goals as goal

pub returns : goal.returns
returns c =
    let meets = c.matches-meets.ensures ∙ matches_all-views c.args.self.now.req.now.comparators.items c.args.release.now.version in
    let exact = c.is_exact-is_exact.ensures (Some c.in-Some.content) in
    let content = c.is_content-has_content.ensures (parts_of c.args.release.now.version) in
    c.hold.ensures ∙ rw (c.in-Some.is, meets, exact, content) refl
