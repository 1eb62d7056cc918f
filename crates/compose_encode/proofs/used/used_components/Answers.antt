use Rattle.std.proofs.Common.{rules, ◌≡◌, ◌∙◌, ◌+◌, ◌++◌, ◌∷◌, [], cond, ◌<◌, ◌^◌, length, sym, ap, subst, arith}
use Rattle.std.specs.Prelude.{filter, slice_index}
use Rattle.std.specs.BTreeSet.{contains}
use Rattle.std.specs.List.{range_with_len}
use Rattle.std.specs.Ordering.{nat_cmp}
use Rattle.std.proofs.lemmas.List.{length-append, length-map}
use Rattle.compose_agree.specs.Order.{has}
use Rattle.compose_check.specs.Composition.{component_tree, composition_tree}
use Rattle.compose_image.specs.Imports.{is_used}
use Rattle.compose_encode.proofs.ListLaws.{known_more, passing_more, rank_passing, small_more}
use Rattle.compose_encode.proofs.used.used_components.Goals as goal

pub loop-number-preserved : goal.loop-number-preserved
loop-number-preserved c =
    let k = c.loop-number.number-counter in
    let p = is_used (composition_tree c.args.composition.now) in
    let found : c.contains.result ≡ contains nat_cmp c.in_ok-made.made k = search rules in
    let is : c.contains.result ≡ p k = found ∙ c.in_ok-made.ensures k ∙ ap (λ ns. has ns k) c.deref.ensures.value in
    let old = c.loop-number.invariant in
    record {
      numbers = c.in_ok-add_number.ensures.numbers ∙ ap (λ ns. ns ++ cond c.contains.result (k ∷ []) []) old.numbers ∙ sym (passing_more p k c.contains.result is);
      ranks = λ n lt.
          ap (λ rs. slice_index rs n) c.in_ok-add_number.ensures.ranks
          ∙ known_more c.loop-number.used.ranks.items k (length c.loop-number.used.numbers.items) (λ n. length (filter p (range_with_len 0 n))) old.count old.ranks (ap length old.numbers) n lt;
      small = λ n. subst (λ rs. slice_index rs n < 2 ^ 63) (sym c.in_ok-add_number.ensures.ranks) (small_more c.loop-number.used.ranks.items (length c.loop-number.used.numbers.items) (2 ^ 63) old.small c.add_number.ensures.small (omega arith) n);
      count = ap length c.in_ok-add_number.ensures.ranks ∙ length-append c.loop-number.used.ranks.items (length c.loop-number.used.numbers.items ∷ []) ∙ ap (λ n. n + 1) old.count;
    }

pub returns : goal.returns
returns c =
    let k = c.loop-number.number-counter in
    let p = is_used (composition_tree c.args.composition.now) in
    let all = length-map c.args.composition.now.components.items component_tree in
    let at : k ≡ length (composition_tree c.args.composition.now).components = omega (arith, all) in
    let old = c.loop-number.invariant in
    record {
      numbers = old.numbers ∙ ap (λ n. filter p (range_with_len 0 n)) at;
      ranks = λ n lt e. old.ranks n (omega (arith, lt, at)) ∙ sym (rank_passing p (length (composition_tree c.args.composition.now).components) n lt e);
      small = old.small;
    }
