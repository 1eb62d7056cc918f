use Rattle.std.proofs.Common.{inl, inr, Err, List, map, refl, subst, sym, ◌∙◌, ap, ℕ}
use Rattle.std.proofs.lemmas.Result.{err_from_is_err_and}
use Rattle.comp_format.specs.Items.{item_tree}
use Rattle.comp_format.specs.declared.types.Item.{Item}
use Rattle.compose_bundle.specs.Bundled.{content_in}
use Rattle.compose_bundle.specs.declared.error.BundleError.{BundleError as Unbundled}
use Rattle.warg_names.specs.Import.{ImportTree}
use Rattle.warg_plan.specs.View.{facts_view}
use Rattle.warg_plan.specs.Walk.{nothing_known}
use Rattle.warg_bundle.specs.Asked.{releases_asked}
use Rattle.warg_bundle.specs.Contents.{IsAnswered, IsUnanswered, contents_of}
use Rattle.warg_bundle.specs.Lent.{AreLent, AskFor}
use Rattle.warg_bundle.specs.View.{asked_view, imports_of}
use Rattle.warg_bundle.proofs.BundleLaws.{bundled_contents, large_contents, learnt_components, lent_components, same_contents}
use Rattle.warg_bundle.proofs.LentLaws.{they_ask}
use Rattle.warg_bundle.proofs.bundle.bundle_releases.Goals as goal

-- the contents are not learnt
pub returns-in_err-learn_releases-clause-cause : goal.returns-in_err-learn_releases-clause-cause
returns-in_err-learn_releases-clause-cause g c =
    let items = map item_tree c.in_ok-items.items.items in
    let named = c.in_ok-asked.ensures ∙ ap (λ (is : List Item). releases_asked (map item_tree is)) c.deref.ensures.value in
    let imports = ap imports_of c.deref-2.ensures.value ∙ same_contents items c.in_ok-asked.asked.items named in
    let q = err_from_is_err_and c.from_residual-in_err-learn_releases.result c.from_residual-in_err-learn_releases.ensures.1 in
    rw (q.1, q.2) (inr (record {
      items = items;
      read = c.in_ok-items.ensures.found;
      cause = subst (λ (is : List ImportTree). IsUnanswered g.A.Learn.teaches (λ f. contents_of f is) g.A.Learn.Learns g.A.Learn.Refuses nothing_known (g.A.Learn.told c.args.learner.now) (g.A.Learn.told c.learn_releases.new.learner) c.in_err-learn_releases.field-0.0) imports c.in_err-learn_releases.ensures.refused;
    }))

-- each name asks for what stands beside it
pub lent-requires : goal.lent-requires
lent-requires g c =
    let items = map item_tree c.in_ok-items.items.items in
    let named = c.in_ok-asked.ensures ∙ ap (λ (is : List Item). releases_asked (map item_tree is)) c.deref.ensures.value in
    subst AskFor (sym (ap (map asked_view) c.deref-3.ensures.value ∙ named)) (they_ask items)

-- there is no memory for the contents
pub returns-in_err-contents-clause-cause : goal.returns-in_err-contents-clause-cause
returns-in_err-contents-clause-cause g c =
    let items = map item_tree c.in_ok-items.items.items in
    let named = c.in_ok-asked.ensures ∙ ap (λ (is : List Item). releases_asked (map item_tree is)) c.deref.ensures.value in
    let imports = ap imports_of c.deref-2.ensures.value ∙ same_contents items c.in_ok-asked.asked.items named in
    let learnt = c.in_ok-learn_releases.ensures.learnt in
    let answered = subst (λ (is : List ImportTree). IsAnswered g.A.Learn.teaches (λ f. contents_of f is) g.A.Learn.Learns nothing_known (g.A.Learn.told c.args.learner.now) (facts_view c.learn_releases.new.facts) (g.A.Learn.told c.learn_releases.new.learner) learnt.0) imports learnt.1 in
    let q = err_from_is_err_and c.from_residual-in_err-contents.result c.from_residual-in_err-contents.ensures.1 in
    rw (q.1, q.2) (inr (record {
      items = items;
      read = c.in_ok-items.ensures.found;
      cause = record { facts = facts_view c.learn_releases.new.facts; between = _; learnt = answered.learnt; last = inl refl };
    }))

-- what is lent are components
pub bundle-requires : goal.bundle-requires
bundle-requires g c =
    let learnt = c.in_ok-learn_releases.ensures.learnt in
    let are = learnt_components g.A.Learn.teaches g.A.Learn.Learns (λ f. contents_of f (imports_of c.deref-2.result.now)) c.requires.components (facts_view c.learn_releases.new.facts) _ _ learnt.1.learnt in
    lent_components (facts_view c.learn_releases.new.facts) (map asked_view c.deref-3.result.now) (content_in c.in_ok-contents.contents) are c.in_ok-contents.ensures

pub returns-in-Ok-clause-bundled : goal.returns-in-Ok-clause-bundled
returns-in-Ok-clause-bundled g c =
    let items = map item_tree c.in_ok-items.items.items in
    let named = c.in_ok-asked.ensures ∙ ap (λ (is : List Item). releases_asked (map item_tree is)) c.deref.ensures.value in
    let imports = ap imports_of c.deref-2.ensures.value ∙ same_contents items c.in_ok-asked.asked.items named in
    let learnt = c.in_ok-learn_releases.ensures.learnt in
    let f = facts_view c.learn_releases.new.facts in
    let lent = subst (λ (asked : List (List ℕ × ImportTree)). AreLent f asked (content_in c.in_ok-contents.contents)) (ap (map asked_view) c.deref-3.ensures.value ∙ named) c.in_ok-contents.ensures in
    record {
      items = items;
      read = c.in_ok-items.ensures.found;
      facts = f;
      contents = learnt.0;
      learnt = subst (λ (is : List ImportTree). IsAnswered g.A.Learn.teaches (λ f. contents_of f is) g.A.Learn.Learns nothing_known (g.A.Learn.told c.args.learner.now) f (g.A.Learn.told c.learn_releases.new.learner) learnt.0) imports learnt.1;
      bundled = bundled_contents f items (content_in c.in_ok-contents.contents) lent c.args.bytes.now c.in_ok-items.ensures.found c.one_reading.ensures c.in-Ok.out.items c.in-Ok.ensures.bundled;
    }

pub returns-in-Err-TooLarge-clause-cause : goal.returns-in-Err-TooLarge-clause-cause
returns-in-Err-TooLarge-clause-cause g c =
    let items = map item_tree c.in_ok-items.items.items in
    let named = c.in_ok-asked.ensures ∙ ap (λ (is : List Item). releases_asked (map item_tree is)) c.deref.ensures.value in
    let imports = ap imports_of c.deref-2.ensures.value ∙ same_contents items c.in_ok-asked.asked.items named in
    let learnt = c.in_ok-learn_releases.ensures.learnt in
    let f = facts_view c.learn_releases.new.facts in
    let lent = subst (λ (asked : List (List ℕ × ImportTree)). AreLent f asked (content_in c.in_ok-contents.contents)) (ap (map asked_view) c.deref-3.ensures.value ∙ named) c.in_ok-contents.ensures in
    inr (record {
      items = items;
      read = c.in_ok-items.ensures.found;
      cause = record {
        facts = f;
        contents = learnt.0;
        learnt = subst (λ (is : List ImportTree). IsAnswered g.A.Learn.teaches (λ f. contents_of f is) g.A.Learn.Learns nothing_known (g.A.Learn.told c.args.learner.now) f (g.A.Learn.told c.learn_releases.new.learner) learnt.0) imports learnt.1;
        large = large_contents f items (content_in c.in_ok-contents.contents) lent c.args.bytes.now c.in_ok-items.ensures.found c.one_reading.ensures c.in-Err-TooLarge.number (c.in-Err-TooLarge.ensures.too_large c.in-Err-TooLarge.number (ap (λ (e : Unbundled). Err e) c.in-Err-TooLarge.field-0-is));
      };
    })

-- the bytes were read, so there is no memory
pub returns : goal.returns
returns g c =
    let items = map item_tree c.in_ok-items.items.items in
    let named = c.in_ok-asked.ensures ∙ ap (λ (is : List Item). releases_asked (map item_tree is)) c.deref.ensures.value in
    let imports = ap imports_of c.deref-2.ensures.value ∙ same_contents items c.in_ok-asked.asked.items named in
    let learnt = c.in_ok-learn_releases.ensures.learnt in
    let answered = subst (λ (is : List ImportTree). IsAnswered g.A.Learn.teaches (λ f. contents_of f is) g.A.Learn.Learns nothing_known (g.A.Learn.told c.args.learner.now) (facts_view c.learn_releases.new.facts) (g.A.Learn.told c.learn_releases.new.learner) learnt.0) imports learnt.1 in
    record {
      bundled = record {};
      cause = inr (record {
        items = items;
        read = c.in_ok-items.ensures.found;
        cause = record { facts = facts_view c.learn_releases.new.facts; between = _; learnt = answered.learnt; last = inl refl };
      });
    }
