-- Laws of types that are scopes of declarations, which are read one by one.
use Rattle.std.specs.Prelude.{◌≡◌, ℕ, zero, suc, ◌<◌, Bool, true, false, cond, List, [], ◌∷◌, ◌++◌, map, length, take, slice_index_or, Result, Ok, Err, refl}
use Rattle.std.proofs.Common.{sym, ◌∙◌, ap, arith}
use Rattle.warg_values.specs.Reading.{◌>>=◌}
use Rattle.warg_values.specs.ReadingLaws.{bind_ok, ok_is}
use Rattle.comp_define.specs.ScopeTypes.{type_of_scope, declared_type}
use Rattle.comp_entity.specs.Bounds.{ShapeFault, TooDeep, bounded, is_within}
use Rattle.comp_format.specs.declared.types.Decl.{Decl}
use Rattle.comp_format.specs.Definitions as tree
use Rattle.comp_format.specs.Definitions.{Decls, decls_of}
use Rattle.comp_format.specs.Views.{decl_tree}
use Rattle.comp_scope.specs.Spaces.{Spaces, Known, nothing_known, added}
use Rattle.comp_scope.specs.Types.{opened_scope, with_type, with_decls, with_decl}
use Rattle.comp_space.specs.StandingLaws.{bind_end, then_first}

-- ---- one scope more

pub opened : {X : Type 0} (ss : List Spaces) (n : ℕ) (r : Result X ShapeFault) → n ≡ length ss → is_within bounded.scopes (suc n) ≡ true → opened_scope bounded ss r ≡ r
opened ss n r many within = ap (λ k. cond (is_within bounded.scopes (suc k)) r (Err TooDeep)) (sym many) ∙ ap (λ b. cond b r (Err TooDeep)) within

pub not_opened : {X : Type 0} (ss : List Spaces) (n : ℕ) (r : Result X ShapeFault) → n ≡ length ss → is_within bounded.scopes (suc n) ≡ false → opened_scope bounded ss r ≡ Err TooDeep
not_opened ss n r many past = ap (λ k. cond (is_within bounded.scopes (suc k)) r (Err TooDeep)) (sym many) ∙ ap (λ b. cond b r (Err TooDeep)) past

-- the type is known before it is put behind the others
then_added : (b : Bool) (is_closed : Bool) (s : Spaces) (r : Result Known ShapeFault) → cond b (r >>= λ k. added bounded s (type_of_scope is_closed k) true) (Err TooDeep) ≡ (cond b (r >>= λ k. Ok (type_of_scope is_closed k)) (Err TooDeep) >>= λ e. added bounded s e true)
then_added true is_closed s r = then_first r _ (λ k. Ok (type_of_scope is_closed k)) (λ e. added bounded s e true) (λ k. refl)
then_added false is_closed s r = refl

pub component_added : (ss : List Spaces) (s : Spaces) (ds : Decls) → with_type bounded ss s (tree.Component ds) ≡ (declared_type bounded (s ∷ ss) true ds >>= λ e. added bounded s e true)
unfolding with_type
component_added ss s ds = then_added (is_within bounded.scopes (suc (length (s ∷ ss)))) true s (with_decls bounded (s ∷ ss) (nothing_known true) ds)

pub instance_added : (ss : List Spaces) (s : Spaces) (ds : Decls) → with_type bounded ss s (tree.Instance ds) ≡ (declared_type bounded (s ∷ ss) false ds >>= λ e. added bounded s e true)
unfolding with_type
instance_added ss s ds = then_added (is_within bounded.scopes (suc (length (s ∷ ss)))) false s (with_decls bounded (s ∷ ss) (nothing_known false) ds)

-- ---- one declaration more

module _ (ss : List Spaces) where
  abbrev pub declares : Known → List Decl → Result Known ShapeFault
  declares k ds = with_decls bounded ss k (decls_of (map decl_tree ds))

  pub declares_push : (k : Known) (ds : List Decl) (d : Decl) → declares k (ds ++ d ∷ []) ≡ (declares k ds >>= λ next. with_decl bounded ss next (decl_tree d))
  unfolding with_decls
  declares_push k [] d = bind_end (with_decl bounded ss k (decl_tree d))
  declares_push k (e ∷ ds) d = then_first (with_decl bounded ss k (decl_tree e)) (λ next. declares next (ds ++ d ∷ [])) (λ next. declares next ds) (λ next. with_decl bounded ss next (decl_tree d)) (λ next. declares_push next ds d)

  pub declares_fails : (k next : Known) (ds : List Decl) (i : ℕ) (d : Decl) (fault : ShapeFault) → i < length ds → declares k (take i ds) ≡ Ok next → with_decl bounded ss next (decl_tree (slice_index_or ds i d)) ≡ Err fault → declares k ds ≡ Err fault
  unfolding with_decls
  declares_fails k next [] i d fault lt e f = absurd (omega (arith, lt))
  declares_fails k next (x ∷ ds) zero d fault lt e f = ap (λ r. r >>= λ next. declares next ds) (ap (λ k. with_decl bounded ss k (decl_tree x)) (ok_is k next e) ∙ f)
  declares_fails k next (x ∷ ds) (suc i) d fault lt e f =
      let a = bind_ok (with_decl bounded ss k (decl_tree x)) _ _ e in
      ap (λ r. r >>= λ next. declares next ds) a.1 ∙ declares_fails a.0 next ds i d fault (omega (arith, lt)) a.2 f
