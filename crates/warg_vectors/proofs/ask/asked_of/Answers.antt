use Rattle.std.proofs.Common.{◌≡◌, ◌∙◌, ℕ, List, Some, rules, sym, ap}
use Rattle.warg_names.specs.Cut.{behind}
use Rattle.warg_vectors.specs.Asked.{asked_at, asked_by, home, path_asked, body_asked, meant_asked}
use Rattle.warg_vectors.specs.AskViews.{ask_view}
use Rattle.warg_vectors.proofs.ListLaws.{when-ok}
use Rattle.warg_vectors.proofs.ask.asked_of.Goals as goal

pub returns-in-Get : goal.returns-in-Get
returns-in-Get c =
    let request = c.args.request.now in
    let path = c.in-Some.path.now in
    let url : c.as_str.result.now ≡ request.url = search rules in
    let at : behind home request.url ≡ Some path = ap (behind home) (sym url) ∙ sym c.in-Some.ensures in
    when-ok (λ asked. ask_view asked ≡ path_asked path) (λ asked. ask_view asked ≡ asked_by request) c.get_asked.result
    (λ asked is. is ∙ sym (λ k. asked_at (c.in-Get.is k) (at k) request.body)) c.get_asked.ensures

pub returns-in-Post : goal.returns-in-Post
returns-in-Post c =
    let request = c.args.request.now in
    let path = c.in-Some.path.now in
    let url : c.as_str.result.now ≡ request.url = search rules in
    let at : behind home request.url ≡ Some path = ap (behind home) (sym url) ∙ sym c.in-Some.ensures in
    let body : c.as_slice.result.now ≡ request.body = search rules in
    when-ok (λ asked. ask_view asked ≡ meant_asked (body_asked path c.as_slice.result.now)) (λ asked. ask_view asked ≡ asked_by request) c.post_asked.result
    (λ asked is. is ∙ ap (λ (b : List ℕ). meant_asked (body_asked path b)) body ∙ sym (λ k. asked_at (c.in-Post.is k) (at k) request.body)) c.post_asked.ensures
