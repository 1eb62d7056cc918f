-- What is behind things that stand one after the other.
use Rattle.std.proofs.Common.{◌≡◌, ◌<◌, ◌+◌, ℕ, Bool, false, List, ◌∷◌, drop, get_or, length, Option, Some, None, sym, ap, ◌∙◌}
use Rattle.std.specs.Prelude.{◌&&◌, option_and_then}
use Rattle.std.proofs.lemmas.List.{at_drop_more}
use Rattle.comp_entity.specs.Entity.{Entries}
use Rattle.compose_naming.specs.Bits.{Scope, behind_all, closed, opened}
use Rattle.compose_naming.specs.Scopes.{behind_sides}

module _ {X : Type 0} (F : List X → List Scope → Option (List Scope)) (f : X → List Scope → Option (List Scope))
    (step : (x : X) (xs : List X) (s : List Scope) → F (x ∷ xs) s ≡ option_and_then (F xs) (f x s)) where
  pub one_passed : (xs : List X) (i : ℕ) (x : X) (s t : List Scope) (all : Option (List Scope)) → i < length xs
      → x ≡ get_or xs i x → f x s ≡ Some t → F (drop i xs) s ≡ all → F (drop (i + 1) xs) t ≡ all
  one_passed xs i x s t all lt is passed h =
      sym (ap (λ F. F s) (at_drop_more F xs i x lt) ∙ ap (λ y. F (y ∷ drop (i + 1) xs) s) (sym is)
      ∙ step x (drop (i + 1) xs) s ∙ ap (option_and_then (F (drop (i + 1) xs))) passed) ∙ h

  pub one_failed : (xs : List X) (i : ℕ) (x : X) (s : List Scope) (all : Option (List Scope)) → i < length xs
      → x ≡ get_or xs i x → f x s ≡ None → F (drop i xs) s ≡ all → all ≡ None
  one_failed xs i x s all lt is failed h =
      sym h ∙ ap (λ F. F s) (at_drop_more F xs i x lt) ∙ ap (λ y. F (y ∷ drop (i + 1) xs) s) (sym is)
      ∙ step x (drop (i + 1) xs) s ∙ ap (option_and_then (F (drop (i + 1) xs))) failed

pub one_lacks : {X : Type 0} (F : List X → Bool) (f : X → Bool) → ((x : X) (xs : List X) → F (x ∷ xs) ≡ (f x && F xs))
    → (xs : List X) (i : ℕ) (x : X) → i < length xs → x ≡ get_or xs i x → f x ≡ false → F (drop i xs) ≡ F xs
    → false ≡ F xs
one_lacks F f step xs i x lt is lacks h =
    sym (sym h ∙ at_drop_more F xs i x lt ∙ ap (λ y. F (y ∷ drop (i + 1) xs)) (sym is) ∙ step x (drop (i + 1) xs)
    ∙ ap (λ b. b && F (drop (i + 1) xs)) lacks)

-- ---- within a scope of their own

pub inner_passes : (es : Entries) (s inner passed : List Scope) (all : Option (List Scope)) → inner ≡ opened 1 ∷ s
    → behind_all es inner ≡ Some passed → closed passed ≡ all
    → option_and_then closed (behind_all es (opened 1 ∷ s)) ≡ all
inner_passes es s inner passed all is h leave =
    ap (λ t. option_and_then closed (behind_all es t)) (sym is) ∙ ap (option_and_then closed) h ∙ leave

pub inner_fails : (es : Entries) (s inner : List Scope) → inner ≡ opened 1 ∷ s → behind_all es inner ≡ None
    → option_and_then closed (behind_all es (opened 1 ∷ s)) ≡ None
inner_fails es s inner is h = ap (λ t. option_and_then closed (behind_all es t)) (sym is) ∙ ap (option_and_then closed) h

pub sides_pass : (is es : Entries) (s inner imported exported : List Scope) (all : Option (List Scope))
    → inner ≡ opened 2 ∷ s → behind_all is inner ≡ Some imported → behind_all es imported ≡ Some exported
    → closed exported ≡ all → behind_sides (record { imports = is; exports = es }) s ≡ all
sides_pass is es s inner imported exported all same imports exports leave =
    ap (λ t. option_and_then closed (option_and_then (behind_all es) (behind_all is t))) (sym same)
    ∙ ap (λ o. option_and_then closed (option_and_then (behind_all es) o)) imports
    ∙ ap (option_and_then closed) exports ∙ leave
