-- The declarations of the outermost scope read as the items of a component do.
use Rattle.std.proofs.Common.{◌≡◌, ℕ, Bool, true, false, cond, List, [], ◌∷◌, ◌++◌, Ok, Err, refl, sym, ap, subst, ◌∙◌}
use Rattle.std.specs.Prelude.{Result}
use Rattle.warg_values.specs.Reading.{◌>>=◌}
use Rattle.comp_format.specs.Items.{CoreTy}
use Rattle.comp_format.specs.Definitions as tree
use Rattle.comp_format.specs.Definitions.{DeclTree, Decls}
use Rattle.comp_format.specs.declared.types.TypeRef.{TypeRef}
use Rattle.comp_entity.specs.Bounds.{Bounds, unbounded, ShapeFault, Index}
use Rattle.comp_scope.specs.Spaces.{Spaces, Known, Standing, nothing_known, is_taken, with_core_type}
use Rattle.comp_scope.specs.CoreScopes.{core_type_of}
use Rattle.comp_scope.specs.Aliases.{core_scopes}
use Rattle.comp_scope.specs.Types.{with_decls, with_decl, with_spaces}
use Rattle.comp_scope.specs.Descriptions.{described, new_brought, new_made, with_brought, with_made, with_import, with_export, imported, declared_export}
use Rattle.comp_scope.specs.Shape.{spaces_after, after, after_parts}
use Rattle.compose_writing.specs.Scopes.{WrittenScope}
use Rattle.compose_meaning.specs.Meaning.{Meaning}
use Rattle.compose_meaning.specs.Keeps.{Keeps}
use Rattle.compose_meaning.specs.Items.{parts_for}

pub bound : {A B F P : Type 0} (r : Result A F) (f : A → Result B F) (y : B) → (r >>= f) ≡ Ok y → ((x : A) → r ≡ Ok x → f x ≡ Ok y → P) → P
bound (Ok x) f y h then = then x refl h
bound (Err e) f y h then = absurd cc

abbrev pub as_result : {A : Type 0} → A → Result A ShapeFault
as_result x = Ok x

pub same_ok : {A : Type 0} (x y : A) → as_result x ≡ as_result y → x ≡ y
same_ok x y h = ap (value x) h
  where
    value : {A : Type 0} → A → Result A ShapeFault → A
    value z (Ok x) = x
    value z (Err e) = z

HasEntry : List (List ℕ × Standing) → Type 0
HasEntry [] = ⊥
HasEntry (e ∷ es) = Unit {0}

entry_last : (es : List (List ℕ × Standing)) (e : List ℕ × Standing) → HasEntry (es ++ e ∷ [])
unfolding HasEntry
entry_last [] e = tt
entry_last (x ∷ es) e = tt

spaces_exports : (r : Result Spaces ShapeFault) (n next : Known) → (r >>= λ s. Ok (with_spaces n s)) ≡ Ok next → next.exports ≡ n.exports
spaces_exports r n next h = bound r (λ s. Ok (with_spaces n s)) next h (λ s a b. ap (λ (k : Known). k.exports) (sym (same_ok _ _ b)))

imported_exports : (b : Bounds) (n next : Known) (name : List ℕ) (ref : TypeRef) → imported b n name ref ≡ Ok next → next.exports ≡ n.exports
unfolding imported
imported_exports b n next name ref h = one (is_taken name n.imports) h
  where
    one : (t : Bool) → cond t (Err Index) (described n.spaces (new_brought n.spaces) ref >>= λ d. with_brought b n.spaces d >>= λ spaces. Ok (with_import n name d.standing spaces)) ≡ Ok next → next.exports ≡ n.exports
    one true h = absurd cc
    one false h = bound (described n.spaces (new_brought n.spaces) ref) _ next h (λ d a c. bound (with_brought b n.spaces d) _ next c (λ s e f. ap (λ (k : Known). k.exports) (sym (same_ok _ _ f))))

exported_entry : (b : Bounds) (n next : Known) (name : List ℕ) (ref : TypeRef) → declared_export b n name ref ≡ Ok next → HasEntry next.exports
unfolding declared_export
exported_entry b n next name ref h = one (is_taken name n.exports) h
  where
    one : (t : Bool) → cond t (Err Index) (described n.spaces (new_made n.spaces) ref >>= λ d. with_made b n.spaces d >>= λ spaces. Ok (with_export n name d.standing spaces)) ≡ Ok next → HasEntry next.exports
    one true h = absurd cc
    one false h = bound (described n.spaces (new_made n.spaces) ref) _ next h (λ d a c. bound (with_made b n.spaces d) _ next c (λ s e f.
        subst (λ (k : Known). HasEntry k.exports) (same_ok _ _ f) (entry_last n.exports (name, d.standing))))

core_exports : (b : Bounds) (outer : List Spaces) (n next : Known) (t : _) → with_decl b outer n (tree.CoreTy t) ≡ Ok next → next.exports ≡ n.exports
unfolding with_decls
core_exports b outer n next t h = bound (core_type_of b (core_scopes (n.spaces ∷ outer)) t) _ next h (λ s a c. ap (λ (k : Known). k.exports) (sym (same_ok _ _ c)))

-- exports stay
decl_keeps : (b : Bounds) (outer : List Spaces) (n next : Known) (d : DeclTree) → with_decl b outer n d ≡ Ok next → HasEntry n.exports → HasEntry next.exports
unfolding with_decls
decl_keeps b outer n next (tree.CoreTy t) h e = subst HasEntry (sym (core_exports b outer n next t h)) e
decl_keeps b outer n next (tree.Ty t) h e = subst HasEntry (sym (spaces_exports _ n next h)) e
decl_keeps b outer n next (tree.Aliased a) h e = subst HasEntry (sym (spaces_exports _ n next h)) e
decl_keeps b outer n next (tree.Import name ref) h e = subst HasEntry (sym (imported_exports b n next name ref h)) e
decl_keeps b outer n next (tree.Export name ref) h e = exported_entry b n next name ref h

decls_keep : (b : Bounds) (outer : List Spaces) (n k : Known) (ds : Decls) → with_decls b outer n ds ≡ Ok k → HasEntry n.exports → HasEntry k.exports
unfolding with_decls
decls_keep b outer n k tree.none h e = subst (λ (k : Known). HasEntry k.exports) (same_ok _ _ h) e
decls_keep b outer n k (tree.more d ds) h e = bound (with_decl b outer n d) _ k h (λ next a c. decls_keep b outer next k ds c (decl_keeps b outer n next d a e))

-- declarations that export nothing read as items
core_as_item : (b : Bounds) (outer : List Spaces) (n : Known) (t : _) → with_decl b outer n (tree.CoreTy t) ≡ (spaces_after b outer n.spaces (CoreTy t) >>= λ s. Ok (with_spaces n s))
unfolding with_decls spaces_after
core_as_item b outer n t = one (core_type_of b (core_scopes (n.spaces ∷ outer)) t)
  where
    one : (r : Result _ ShapeFault) → (r >>= λ t. Ok (with_spaces n (with_core_type n.spaces t))) ≡ ((r >>= λ t. Ok (with_core_type n.spaces t)) >>= λ s. Ok (with_spaces n s))
    one (Ok t) = refl
    one (Err e) = refl

pub as_items : (b : Bounds) (outer : List Spaces) (n k : Known) (ds : Decls) → with_decls b outer n ds ≡ Ok k → k.exports ≡ [] → after_parts b outer n (parts_for ds) ≡ Ok k
unfolding with_decls spaces_after after after_parts HasEntry
as_items b outer n k tree.none h none = h
as_items b outer n k (tree.more (tree.CoreTy t) ds) h none = bound (with_decl b outer n (tree.CoreTy t)) _ k h (λ next a c. ap (λ (r : Result Known ShapeFault). r >>= λ next. after_parts b outer next (parts_for ds)) (sym (core_as_item b outer n t) ∙ a) ∙ as_items b outer next k ds c none)
as_items b outer n k (tree.more (tree.Ty t) ds) h none = bound (with_decl b outer n (tree.Ty t)) _ k h (λ next a c. ap (λ (r : Result Known ShapeFault). r >>= λ next. after_parts b outer next (parts_for ds)) a ∙ as_items b outer next k ds c none)
as_items b outer n k (tree.more (tree.Aliased t) ds) h none = bound (with_decl b outer n (tree.Aliased t)) _ k h (λ next a c. ap (λ (r : Result Known ShapeFault). r >>= λ next. after_parts b outer next (parts_for ds)) a ∙ as_items b outer next k ds c none)
as_items b outer n k (tree.more (tree.Import name ref) ds) h none = bound (with_decl b outer n (tree.Import name ref)) _ k h (λ next a c. ap (λ (r : Result Known ShapeFault). r >>= λ next. after_parts b outer next (parts_for ds)) a ∙ as_items b outer next k ds c none)
as_items b outer n k (tree.more (tree.Export name ref) ds) h none = bound (with_decl b outer n (tree.Export name ref)) _ k h (λ next a c. no_entry_left (subst HasEntry none (decls_keep b outer next k ds c (exported_entry b n next name ref a))))
  where
    no_entry_left : {P : Type 0} → HasEntry [] → P
    no_entry_left e = elim e [ ]

-- the items of the outermost scope
pub keeps_items : (mean : Meaning) (m : WrittenScope) (k : Known) → Keeps mean m k → after_parts unbounded [] (nothing_known true) (parts_for m.decls) ≡ Ok k
keeps_items mean m k h = as_items unbounded [] (nothing_known true) k m.decls (ap (λ b. with_decls unbounded [] (nothing_known b) m.decls) (sym h.is_component) ∙ h.stands.reads [] tt) h.exports
