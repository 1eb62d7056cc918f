-- Imports, found by their names, one more each time.
use Rattle.std.proofs.Common.{◌≡◌, ◌∙◌, ℕ, Bool, true, false, cond, List, [], ◌∷◌, ◌++◌, Option, Some, None, refl, sym, ap}
use Rattle.std.specs.Prelude.{bytes_eq, is_some}
use Rattle.std.specs.Option.{option_or}
use Rattle.std.specs.Ordering.{is_eq}
use Rattle.std.specs.List.{AllByRecursion}
use Rattle.std.specs.BTreeMap.{BTreeMap, Updates, get}
use Rattle.std.specs.Cmp.Lexicographic.{nat_list_eq_equiv, same_text, texts_ties}
use Rattle.std.proofs.lemmas.List.{append_assoc}
use Rattle.comp_encoder.specs.Writing.{described_sort, numbered}
use Rattle.comp_format.specs.declared.types.TypeRef.{TypeRef}
use Rattle.comp_format.specs.Items.{ItemTree, Custom, CoreModule, CoreMade, CoreTy, Component, Instance, Aliased, Ty, Canonical, Import, Export}
use Rattle.compose_left.specs.Merged.{name_cmp}
use Rattle.compose_writing.specs.Scopes.{WrittenScope}
use Rattle.compose_meaning.specs.Items.{items_for}
use Rattle.compose_image.specs.Additions.{IsNoImport}
use Rattle.compose_imports.specs.Begun.{IsImportedAt}
use Rattle.compose_imports.specs.Imported.{FindsImports, found_import}
use Rattle.warg_values.specs.declared.text.Text.{Text}

abbrev Index : Type 0
Index = Option ℕ

-- what stands in front, with one item of what stands behind
moved : (name : List ℕ) (found : Index) (front : List ItemTree) (x : ItemTree) (xs ys : List ItemTree)
    → option_or found (found_import name ((front ++ x ∷ []) ++ xs) ys)
    ≡ option_or found (found_import name (front ++ x ∷ xs) ys)
moved name found front x xs ys =
    ap (λ zs. option_or found (found_import name zs ys)) (append_assoc front (x ∷ []) xs)

found_append : (name : List ℕ) (front xs ys : List ItemTree)
    → found_import name front (xs ++ ys)
    ≡ option_or (found_import name front xs) (found_import name (front ++ xs) ys)
unfolding found_import
found_append name front [] ys = ap (λ zs. found_import name zs ys) (sym (nothing_behind front))
  where
    nothing_behind : (zs : List ItemTree) → zs ++ [] ≡ zs
    nothing_behind [] = refl
    nothing_behind (z ∷ zs) = ap (λ us. z ∷ us) (nothing_behind zs)
found_append name front (Import i ∷ xs) ys =
    one (bytes_eq name i.name)
    (found_append name (front ++ Import i ∷ []) xs ys ∙ moved name _ front (Import i) xs ys)
  where
    one : (b : Bool)
        → found_import name (front ++ Import i ∷ []) (xs ++ ys)
        ≡ option_or (found_import name (front ++ Import i ∷ []) xs) (found_import name (front ++ Import i ∷ xs) ys)
        → cond b (Some (numbered (described_sort i.ty) front)) (found_import name (front ++ Import i ∷ []) (xs ++ ys))
        ≡ option_or
        (cond b (Some (numbered (described_sort i.ty) front)) (found_import name (front ++ Import i ∷ []) xs))
        (found_import name (front ++ Import i ∷ xs) ys)
    one true h = refl
    one false h = h
found_append name front (Custom n bytes ∷ xs) ys =
    found_append name (front ++ Custom n bytes ∷ []) xs ys ∙ moved name _ front (Custom n bytes) xs ys
found_append name front (CoreModule bytes ∷ xs) ys =
    found_append name (front ++ CoreModule bytes ∷ []) xs ys ∙ moved name _ front (CoreModule bytes) xs ys
found_append name front (CoreMade x ∷ xs) ys =
    found_append name (front ++ CoreMade x ∷ []) xs ys ∙ moved name _ front (CoreMade x) xs ys
found_append name front (CoreTy x ∷ xs) ys =
    found_append name (front ++ CoreTy x ∷ []) xs ys ∙ moved name _ front (CoreTy x) xs ys
found_append name front (Component bytes ∷ xs) ys =
    found_append name (front ++ Component bytes ∷ []) xs ys ∙ moved name _ front (Component bytes) xs ys
found_append name front (Instance x ∷ xs) ys =
    found_append name (front ++ Instance x ∷ []) xs ys ∙ moved name _ front (Instance x) xs ys
found_append name front (Aliased x ∷ xs) ys =
    found_append name (front ++ Aliased x ∷ []) xs ys ∙ moved name _ front (Aliased x) xs ys
found_append name front (Ty x ∷ xs) ys =
    found_append name (front ++ Ty x ∷ []) xs ys ∙ moved name _ front (Ty x) xs ys
found_append name front (Canonical x ∷ xs) ys =
    found_append name (front ++ Canonical x ∷ []) xs ys ∙ moved name _ front (Canonical x) xs ys
found_append name front (Export x ∷ xs) ys =
    found_append name (front ++ Export x ∷ []) xs ys ∙ moved name _ front (Export x) xs ys

found_nowhere : (name : List ℕ) (front xs : List ItemTree) → AllByRecursion IsNoImport xs
    → found_import name front xs ≡ None
unfolding found_import
found_nowhere name front [] h = refl
found_nowhere name front (Import i ∷ xs) h = absurd h.0
found_nowhere name front (Custom n bytes ∷ xs) h = found_nowhere name _ xs h.1
found_nowhere name front (CoreModule bytes ∷ xs) h = found_nowhere name _ xs h.1
found_nowhere name front (CoreMade x ∷ xs) h = found_nowhere name _ xs h.1
found_nowhere name front (CoreTy x ∷ xs) h = found_nowhere name _ xs h.1
found_nowhere name front (Component bytes ∷ xs) h = found_nowhere name _ xs h.1
found_nowhere name front (Instance x ∷ xs) h = found_nowhere name _ xs h.1
found_nowhere name front (Aliased x ∷ xs) h = found_nowhere name _ xs h.1
found_nowhere name front (Ty x ∷ xs) h = found_nowhere name _ xs h.1
found_nowhere name front (Canonical x ∷ xs) h = found_nowhere name _ xs h.1
found_nowhere name front (Export x ∷ xs) h = found_nowhere name _ xs h.1

or_none : (o : Index) → option_or o None ≡ o
or_none None = refl
or_none (Some n) = refl

-- one import behind what it needs
module _ (items needs : List ItemTree) (name : List ℕ) (ty : TypeRef) (none : AllByRecursion IsNoImport needs) where
  abbrev behind : List ItemTree
  behind = items ++ needs ++ Import (record { name = name; ty = ty }) ∷ []

  abbrev place : ℕ
  place = numbered (described_sort ty) (items ++ needs)

  found_more : (q : List ℕ) → found_import q [] behind
      ≡ option_or (found_import q [] items) (cond (bytes_eq q name) (Some place) None)
  unfolding found_import
  found_more q =
      found_append q [] (items ++ needs) (Import (record { name = name; ty = ty }) ∷ [])
      ∙ ap (λ o. option_or o (cond (bytes_eq q name) (Some place) None))
      (found_append q [] items needs ∙ ap (option_or (found_import q [] items)) (found_nowhere q items needs none)
      ∙ or_none (found_import q [] items))

name_ties : (k q : List ℕ) → bytes_eq q k ≡ is_eq (name_cmp k q)
name_ties k q = nat_list_eq_equiv.symm q k ∙ texts_ties k q

module _ (m : WrittenScope) (next : List WrittenScope) (name : List ℕ) (index : ℕ) (at : IsImportedAt m next name index) where
  abbrev before : List ItemTree
  before = items_for m.decls

  found_now : (q : List ℕ) → found_import q [] (items_for at.scope.decls)
      ≡ option_or (found_import q [] before) (cond (bytes_eq q name) (Some index) None)
  found_now q =
      ap (found_import q []) at.items
      ∙ found_more before at.needs name at.ty at.no_import q
      ∙ ap (λ i. option_or (found_import q [] before) (cond (bytes_eq q name) (Some i) None)) (sym at.index_is)

  -- its name is found
  pub import_there : (names : BTreeMap Text ℕ) → FindsImports names before → is_some (get name_cmp names name) ≡ true
      → FindsImports names (items_for at.scope.decls)
  import_there names f there q =
      f q ∙ one (bytes_eq q name) refl (found_import q [] before) refl ∙ sym (found_now q)
    where
      one : (b : Bool) → bytes_eq q name ≡ b → (o : Index) → found_import q [] before ≡ o
          → o ≡ option_or o (cond b (Some index) None)
      one b e (Some k) h = refl
      one false e None h = refl
      one true e None h =
          let none : is_some (get name_cmp names name) ≡ false =
          ap (λ (j : List ℕ). is_some (get name_cmp names j)) (sym (same_text q name (sym e)))
          ∙ ap (λ (o : Index). is_some o) (f q ∙ h) in
          let bad : true ≡ false = sym there ∙ none in
          absurd cc

  -- it is not found
  pub import_added : (old new : BTreeMap Text ℕ) (key : List ℕ) → FindsImports old before → key ≡ name
      → get name_cmp old name ≡ None → Updates name_cmp old new key (Some index)
      → FindsImports new (items_for at.scope.decls)
  import_added old new key f is absent u q =
      u.0 q ∙ (λ i. cond (sym (name_ties (is i) q) i) (Some index) (get name_cmp old q))
      ∙ one (bytes_eq q name) refl ∙ sym (found_now q)
    where
      one : (b : Bool) → bytes_eq q name ≡ b → cond b (Some index) (get name_cmp old q)
          ≡ option_or (found_import q [] before) (cond b (Some index) None)
      one true e =
          let gone : found_import q [] before ≡ None =
          sym (f q) ∙ ap (λ (j : List ℕ). get name_cmp old j) (same_text q name (sym e)) ∙ absent in
          ap (λ o. option_or o (Some index)) (sym gone)
      one false e = f q ∙ sym (or_none (found_import q [] before))
