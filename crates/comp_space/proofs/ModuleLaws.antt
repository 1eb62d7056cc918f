-- Laws of declarations of core modules that are read one by one.
use Rattle.std.specs.Prelude.{◌≡◌, ℕ, Bool, true, false, if◌then◌else◌, zero, suc, ◌<◌, List, [], ◌∷◌, ◌++◌, map, length, take, slice_index_or, Result, Ok, Err, refl}
use Rattle.std.proofs.Common.{◌∙◌, ap, arith}
use Rattle.warg_values.specs.Reading.{◌>>=◌}
use Rattle.warg_values.specs.ReadingLaws.{bind_ok, ok_is}
use Rattle.comp_format.specs.CoreTypes.{ModuleDeclTree, module_decls}
use Rattle.comp_entity.specs.Bounds.{ShapeFault, TooDeep, TooBig, Bounds, kept, is_within, depth_of, entity_nodes}
use Rattle.comp_entity.specs.Entity.{EntityTree}
use Rattle.comp_scope.specs.CoreScopes.{ModuleScope, module_of, with_module_decl}
use Rattle.comp_scope.specs.Spaces.{KnownCoreType}
use Rattle.comp_space.specs.StandingLaws.{bind_end, then_first}

module _ {X : Type 0} (f : X → ModuleDeclTree) (b : Bounds) (scopes : List (List KnownCoreType)) where
  abbrev declares : ModuleScope → List X → Result ModuleScope ShapeFault
  declares m xs = module_of b scopes m (module_decls (map f xs))

  pub declares_push : (m : ModuleScope) (xs : List X) (x : X) → declares m (xs ++ x ∷ []) ≡ (declares m xs >>= λ n. with_module_decl b scopes n (f x))
  unfolding module_of
  declares_push m [] x = bind_end (with_module_decl b scopes m (f x))
  declares_push m (y ∷ xs) x = then_first (with_module_decl b scopes m (f y)) (λ n. declares n (xs ++ x ∷ [])) (λ n. declares n xs) (λ n. with_module_decl b scopes n (f x)) (λ n. declares_push n xs x)

  pub declares_fails : (m n : ModuleScope) (xs : List X) (i : ℕ) (d : X) (fault : ShapeFault) → i < length xs → declares m (take i xs) ≡ Ok n → with_module_decl b scopes n (f (slice_index_or xs i d)) ≡ Err fault → declares m xs ≡ Err fault
  unfolding module_of
  declares_fails m n [] i d fault lt e g = absurd (omega (arith, lt))
  declares_fails m n (x ∷ xs) zero d fault lt e g = ap (λ r. r >>= λ next. declares next xs) (ap (λ k. with_module_decl b scopes k (f x)) (ok_is m n e) ∙ g)
  declares_fails m n (x ∷ xs) (suc i) d fault lt e g =
      let a = bind_ok (with_module_decl b scopes m (f x)) _ _ e in
      ap (λ r. r >>= λ next. declares next xs) a.1 ∙ declares_fails a.0 n xs i d fault (omega (arith, lt)) a.2 g

-- what keeps the bounds
bounds_kept : {X : Type 0} (deep large : Bool) (x : X) → (if deep then (if large then Ok x else Err TooBig) else Err TooDeep) ≡ ((if deep then (if large then Ok (tt {0}) else Err TooBig) else Err TooDeep) >>= λ u. Ok x)
bounds_kept true true x = refl
bounds_kept true false x = refl
bounds_kept false large x = refl

pub kept_is : {X : Type 0} (b : Bounds) (e : EntityTree) (x : X) → kept b e x ≡ (kept b e (tt {0}) >>= λ u. Ok x)
kept_is b e x = bounds_kept (is_within b.depth (depth_of e)) (is_within b.nodes (entity_nodes e)) x
