use Rattle.std.proofs.Common.{rules, ◌≡◌, ◌+◌, ◌++◌, ◌∷◌, [], length, map, sym, ap, subst, ◌∙◌, arith, take}
use Rattle.std.specs.List.{AllByRecursion}
use Rattle.compose_order.specs.Agreed.{numbers_needed}
use Rattle.compose_order.specs.Known.{IsKnown, known_left}
use Rattle.compose_needs.specs.Lefts.{lefts_of}
use Rattle.compose_order.proofs.ListLaws.{all_taken, each_at, front_more, items_of, length-of-mapped, mapped_at, mapped_push}
use Rattle.std.proofs.lemmas.List.{length-append, map-append}
use Rattle.compose_order.proofs.needs.all_needs.Goals as goal

pub numbers_needed-requires : goal.numbers_needed-requires
numbers_needed-requires c = each_at IsKnown c.as_slice-list.result.now c.loop-known.known-index c.known-item.result (subst (λ ks. AllByRecursion IsKnown ks) (sym c.as_slice-list.ensures.value) c.requires) c.loop-known-test.true c.known-item.is

pub loop-known-preserved : goal.loop-known-preserved
loop-known-preserved c =
    let pushed : c.push.new.self.items ≡ c.loop-known.needs.items ++ c.in_ok-numbers_needed.field-0 ∷ [] = search rules in
    record {
      count = ap length pushed ∙ length-append c.loop-known.needs.items (c.in_ok-numbers_needed.field-0 ∷ []) ∙ ap (λ n. n + 1) c.loop-known.invariant.count;
      needs = λ w ls o k.
          let here = mapped_at known_left c.as_slice-list.result.now ls c.loop-known.known-index c.known-item.result (ap (λ ks. map known_left ks) c.as_slice-list.ensures.value ∙ k.lefts) c.loop-known-test.true c.known-item.is in
          mapped_push items_of c.loop-known.needs.items c.push.new.self.items c.in_ok-numbers_needed.field-0 _ _ pushed (c.loop-known.invariant.needs w ls o k) (c.in_ok-numbers_needed.ensures w ls o k)
          ∙ sym (ap (λ ms. map (numbers_needed (lefts_of w) ls) ms) (front_more ls c.loop-known.known-index (known_left c.known-item.result) here)
          ∙ map-append (numbers_needed (lefts_of w) ls) (take c.loop-known.known-index ls) (known_left c.known-item.result ∷ []));
    }

pub returns-clause-needs : goal.returns-clause-needs
returns-clause-needs c = λ w ls o k.
    c.loop-known.invariant.needs w ls o k
    ∙ ap (λ ms. map (numbers_needed (lefts_of w) ls) ms) (all_taken ls c.loop-known.known-index
    (let e = c.loop-known-test.false in let same = sym (length-of-mapped known_left c.as_slice-list.result.now ls (ap (λ ks. map known_left ks) c.as_slice-list.ensures.value ∙ k.lefts)) in omega (arith, e, same)))
