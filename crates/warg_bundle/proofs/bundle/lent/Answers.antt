use Rattle.std.proofs.Common.{◌≡◌, ◌∙◌, ℕ, List, Some, ap, cond}
use Rattle.std.specs.Prelude.{bytes_eq}
use Rattle.compose_bundle.specs.Bundled.{content_in}
use Rattle.indexmap.specs.IndexMap.{get}
use Rattle.warg_plan.specs.View.{content_view, facts_view}
use Rattle.warg_bundle.proofs.LentLaws.{lends, lent_next}
use Rattle.warg_bundle.proofs.bundle.lent.Goals as goal

pub loop-release-preserved : goal.loop-release-preserved
loop-release-preserved c =
    let release = c.release-item.result in
    let content = c.in-Ok.content in
    let bytes = c.as_slice.result in
    let old = c.loop-release.contents in
    let new = c.insert.new.self in
    let updates : (q : List ℕ) → content_in new q ≡ cond (bytes_eq release.name.now q) (Some content.now.bytes.items) (content_in old q) = λ q.
    lends (get bytes_eq old) (get bytes_eq new) c.in_ok-name.name bytes (λ q. c.in_ok-insert-in-Ok.ensures.updates.0 q) q
    ∙ ap (λ (name : List ℕ). cond (bytes_eq name q) (Some bytes.now) (content_in old q)) c.in_ok-name.ensures
    ∙ ap (λ (bs : List ℕ). cond (bytes_eq release.name.now q) (Some bs) (content_in old q)) c.as_slice.ensures.value in
    lent_next (facts_view c.args.facts.now) c.args.asked.now c.loop-release.release-index release (content_view content.now) (content_in old) (content_in new) c.loop-release-test.true c.release-item.is c.requires c.in-Ok.ensures updates c.loop-release.invariant
