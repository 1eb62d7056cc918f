use Rattle.std.proofs.Common.{refl, sym}
use Rattle.warg_plan.specs.View.{content_view}
use Rattle.warg_learn.proofs.ContentLaws.{content_learnt, content_unread, rest_by}
use Rattle.warg_learn.proofs.learner.Learner.load_content.Goals as goal

pub returns-in-Ok-clause-learnt : goal.returns-in-Ok-clause-learnt
returns-in-Ok-clause-learnt g c =
    let fetch = c.fetch_content.ensures in
    let got = c.in_ok-bytes.ensures in
    content_learnt _ _ _ _ _ c.in-Some.registry.now _ (content_view c.in-Ok.content) c.in_ok-bytes.bytes.items
    (record {
      rest = rest_by _ _ refl refl refl refl refl fetch.link_never_falls refl fetch.contents_never_fall refl;
      under = sym c.in-Some.ensures.value;
      digest_is = got.digest;
      fetched = rw c.as_ref.ensures.value at got.fetched;
      kept = got.kept;
    })
    c.in-Ok.ensures.bytes refl refl c.in-Ok.ensures.read

pub returns-in-Err-clause-refused : goal.returns-in-Err-clause-refused
returns-in-Err-clause-refused g c =
    let fetch = c.fetch_content.ensures in
    let got = c.in_ok-bytes.ensures in
    content_unread _ _ _ _ _ c.in-Some.registry.now _ _ c.in_ok-bytes.bytes.items c.in-Err.refusal
    (record {
      rest = rest_by _ _ refl refl refl refl refl fetch.link_never_falls refl fetch.contents_never_fall refl;
      under = sym c.in-Some.ensures.value;
      digest_is = got.digest;
      fetched = rw c.as_ref.ensures.value at got.fetched;
      kept = got.kept;
    })
    c.in-Err.ensures.refused
