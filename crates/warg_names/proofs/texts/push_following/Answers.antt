use Rattle.std.proofs.Common.{◌++◌, ◌∷◌, [], map, take, sym, ap, ◌∙◌, codes}
use Rattle.std.specs.Prelude.{string_bytes}
use Rattle.std.proofs.lemmas.List.{append-nil, map_more}
use Rattle.semver.specs.Identifiers.{comparator_view}
use Rattle.warg_names.specs.Texts.{following, comparator_text}
use Rattle.warg_names.proofs.Following.{following_push, in_a_row}
use Rattle.warg_names.proofs.texts.push_following.Goals as goal

pub loop-comparator-init : goal.loop-comparator-init
unfolding following
loop-comparator-init c = sym (append-nil (string_bytes c.args.text.now))

pub loop-comparator-preserved : goal.loop-comparator-preserved
loop-comparator-preserved c =
    let cs = c.args.comparators.now in
    let i = c.loop-comparator.comparator-index in
    let item = comparator_view c.comparator-item.result in
    let before = map comparator_view (take i cs) in
    let old = string_bytes c.args.text.now in
    let grown = map_more comparator_view cs i c.comparator-item.result c.loop-comparator-test.true ∙ ap (λ x. map comparator_view (take i cs) ++ comparator_view x ∷ []) (sym c.comparator-item.is) in
    c.in_ok-push_comparator.ensures
    ∙ ap (λ t. t ++ comparator_text item) (c.in_ok-push_str.ensures.bytes ∙ ap (λ t. t ++ codes " ") c.loop-comparator.invariant)
    ∙ in_a_row old (following before) (codes " ") (comparator_text item)
    ∙ ap (λ t. old ++ t) (sym (following_push before item))
    ∙ ap (λ t. old ++ following t) (sym grown)
