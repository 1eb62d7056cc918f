use Rattle.std.proofs.Common.{◌≡◌, ◌≢◌, ◌++◌, ◌∷◌, [], ◌+◌, List, ℕ, Bool, true, false, Some, take, map, length, refl, rules, sym, ◌∙◌, ap, subst}
use Rattle.std.specs.Prelude.{slice_get, option_map, not}
use Rattle.std.proofs.lemmas.List.{take_more, take-map, map_push}
use Rattle.std.proofs.lemmas.Option.{slice_get-map, slice_get_read}
use Rattle.warg_page.specs.Steps.{id_of, AreDistinct}
use Rattle.warg_page.proofs.DistinctLaws.{distinct-push, twice-behind, any-place}
use Rattle.warg_page.proofs.PlaceLaws.{goes-last, absent-from}
use Rattle.warg_page.proofs.ids.log_ids.Goals as goal

told-new : (a b : Bool) → a ≡ not b → a ≡ true → b ≡ false
told-new a true is new = absurd cc
told-new a false is new = refl

told-known : (a b : Bool) → a ≡ not b → a ≡ false → b ≡ true
told-known a true is known = refl
told-known a false is known = absurd cc

pub returns-then-not-added-clause-err : goal.returns-then-not-added-clause-err
returns-then-not-added-clause-err c =
    let n = c.loop-package.package-index in
    let ps = c.args.packages.now in
    let p = c.package-item.result in
    let id = c.package_log-id.result in
    let keys = map id_of ps in
    let there : slice_get keys n ≡ Some id = slice_get-map id_of ps n ∙ ap (option_map id_of) (slice_get_read ps (length ps) n p refl c.loop-package-test.true c.package-item.is) ∙ ap (λ (k : List ℕ). Some k) (sym c.package_log-id.ensures) in
    let was : c.loop-package.ids.keys ≡ take n keys = c.loop-package.invariant.in_order ∙ sym (take-map id_of n ps) in
    let place = any-place _ c.loop-package.ids.keys id (λ x e. search rules) (told-known c.in_ok-added.added _ c.in_ok-added.ensures.added c.if-not-added.true) in
    twice-behind keys n id place.0 there (subst (λ (l : List (List ℕ)). slice_get l place.0 ≡ Some id) was place.1)

pub loop-package-preserved : goal.loop-package-preserved
loop-package-preserved c =
    let n = c.loop-package.package-index in
    let ps = c.args.packages.now in
    let p = c.package-item.result in
    let id = c.package_log-id.result in
    let keys = c.loop-package.ids.keys in
    let absent : (i : ℕ) → slice_get keys i ≢ Some id = absent-from _ keys id (search rules) (told-new c.in_ok-added.added _ c.in_ok-added.ensures.added c.if-not-added.false) in
    let pushed : c.insert.new.self.keys ≡ keys ++ id ∷ [] = goes-last _ keys c.insert.new.self.keys id (λ x e. search rules) absent c.in_ok-added.ensures.keys in
    let more : take (n + 1) ps ≡ take n ps ++ p ∷ [] = search (rules, take_more) in
    record {
      in_order = pushed ∙ ap (λ (l : List (List ℕ)). l ++ id ∷ []) c.loop-package.invariant.in_order
          ∙ ap (λ (k : List ℕ). map id_of (take n ps) ++ k ∷ []) c.package_log-id.ensures
          ∙ sym (ap (map id_of) more ∙ map_push id_of (take n ps) p);
      distinct = subst AreDistinct (sym pushed) (distinct-push keys id c.loop-package.invariant.distinct absent);
    }
