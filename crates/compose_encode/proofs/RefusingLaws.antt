-- The first of what is found for some numbers.
use Rattle.std.proofs.Common.{◌≡◌, ◌∙◌, ◌+◌, ◌<◌, ◌≤◌, ℕ, zero, suc, Bool, true, false, cond, List, [], ◌∷◌, ◌++◌, length, map, take, get_or, Option, Some, None, refl, sym, ap, arith}
use Rattle.std.specs.Prelude.{◌||◌, bytes_eq, option_and_then, option_map, slice_get, if◌then◌else◌}
use Rattle.std.specs.Borrow.{Bor}
use Rattle.std.specs.Option.{option_or}
use Rattle.std.specs.Ordering.{is_eq}
use Rattle.std.specs.BTreeSet.{BTreeSet, Updates, contains}
use Rattle.std.specs.Cmp.Lexicographic.{nat_list_eq_equiv, texts_ties}
use Rattle.std.proofs.lemmas.List.{map-append, take_all, take_more}
use Rattle.std.proofs.lemmas.List.Folds.{list_any-append}
use Rattle.compose_component.specs.declared.component.Component.{Component}
use Rattle.compose_left.specs.Merged.{name_cmp}
use Rattle.compose_order.specs.Known.{left_tree}
use Rattle.compose_order.specs.Needs.{LeftTree}
use Rattle.compose_order.specs.declared.left.LeftImport.{LeftImport}
use Rattle.compose_check.specs.Composition.{ComponentTree, component_tree, composition_tree}
use Rattle.compose_check.specs.declared.composition.Composition.{Composition}
use Rattle.compose_encode.specs.Refusing.{HoldsNames, first_of, has_name, name_left}
use Rattle.compose_encode.proofs.LookLaws.{get_map, get_there}
use Rattle.warg_values.specs.declared.text.Text.{Text}

abbrev pub Found : Type 0
Found = Option (List ℕ)

pub or_none : (a b : Found) → option_or a b ≡ None → (a ≡ None) × (b ≡ None)
or_none None b e = (refl, e)
or_none (Some x) b e = absurd cc

module _ (f : ℕ → Found) where
  pub first_more : (ns : List ℕ) (i : ℕ) → i < length ns → first_of f (take i ns) ≡ None → f (get_or ns i 0) ≡ None
      → first_of f (take (i + 1) ns) ≡ None
  first_more ns i lt none here = ap (first_of f) (take_more ns i 0 lt) ∙ behind (take i ns) none
    where
      behind : (xs : List ℕ) → first_of f xs ≡ None → first_of f (xs ++ get_or ns i 0 ∷ []) ≡ None
      behind [] e = ap (λ o. option_or o None) here
      behind (x ∷ xs) e =
          let p = or_none (f x) (first_of f xs) e in
          ap (λ o. option_or o (first_of f (xs ++ get_or ns i 0 ∷ []))) p.0 ∙ behind xs p.1

  pub first_found : (ns : List ℕ) (i : ℕ) (name : List ℕ) → i < length ns → first_of f (take i ns) ≡ None
      → f (get_or ns i 0) ≡ Some name → first_of f ns ≡ Some name
  first_found [] i name lt none here = absurd (omega (arith, lt))
  first_found (n ∷ ns) zero name lt none here = ap (λ o. option_or o (first_of f ns)) here
  first_found (n ∷ ns) (suc i) name lt none here =
      let p = or_none (f n) (first_of f (take i ns)) none in
      ap (λ o. option_or o (first_of f ns)) p.0 ∙ first_found ns i name (omega (arith, lt)) p.1 here

  pub first_none : (ns : List ℕ) (i : ℕ) → length ns ≤ i → first_of f (take i ns) ≡ None → first_of f ns ≡ None
  first_none ns i le none = ap (first_of f) (sym (take_all i ns le)) ∙ none

-- ---- the component of a number

get_past : {X : Type 0} (xs : List X) (n : ℕ) → length xs ≤ n → slice_get xs n ≡ None
get_past [] n le = refl
get_past (x ∷ xs) zero le = absurd (omega (arith, le))
get_past (x ∷ xs) (suc n) le = get_past xs n (omega (arith, le))

pub there_is_none : (k : Composition) (n : ℕ) (g : ComponentTree → Found) → length k.components.items ≤ n
    → option_and_then g (slice_get (composition_tree k).components n) ≡ None
there_is_none k n g le =
    ap (option_and_then g)
    (get_map component_tree k.components.items n ∙ ap (option_map component_tree) (get_past k.components.items n le))

pub there_is_one : (k : Composition) (n : ℕ) (r : Bor Component) (g : ComponentTree → Found)
    → n < length k.components.items → r ≡ get_or k.components.items n r
    → option_and_then g (slice_get (composition_tree k).components n) ≡ g (component_tree r)
there_is_one k n r g lt is =
    ap (option_and_then g)
    (get_map component_tree k.components.items n
    ∙ ap (option_map component_tree) (get_there k.components.items n r lt ∙ ap (λ (x : Bor Component). Some x) (sym is)))

-- ---- names

or_last : (a b : Bool) → cond a true b ≡ (b || (a || false))
or_last true true = refl
or_last true false = refl
or_last false true = refl
or_last false false = refl

-- one name more
pub names_more : (old new : BTreeSet Text) (lefts : List LeftImport) (i : ℕ) (l : LeftImport) (key : List ℕ)
    → i < length lefts → l ≡ get_or lefts i l → key ≡ l.name
    → HoldsNames old (map left_tree (take i lefts)) → Updates name_cmp old new key true
    → HoldsNames new (map left_tree (take (i + 1) lefts))
names_more old new lefts i l key lt is key_is h u name =
    u.0 name ∙ (λ j. cond (ties j) true (h name j))
    ∙ or_last (bytes_eq name l.name) (has_name (map left_tree (take i lefts)) name)
    ∙ sym (list_any-append (λ (x : LeftTree). bytes_eq name x.name) (map left_tree (take i lefts)) (left_tree l ∷ []))
    ∙ ap (λ ls. has_name ls name)
    (sym (map-append left_tree (take i lefts) (l ∷ []))
    ∙ ap (λ (x : LeftImport). map left_tree (take i lefts ++ x ∷ [])) is
    ∙ ap (map left_tree) (sym (take_more lefts i l lt)))
  where
    ties : is_eq (name_cmp key name) ≡ bytes_eq name l.name
    ties =
        sym (texts_ties key name) ∙ sym (nat_list_eq_equiv.symm name key) ∙ ap (bytes_eq name) key_is

pub clash_is : (ls : List LeftTree) (k : ComponentTree) (names : BTreeSet Text) (key : List ℕ) (b : Bool) → key ≡ k.name
    → HoldsNames names ls → contains name_cmp names key ≡ b → name_left ls k ≡ (if b then Some key else None)
clash_is ls k names key b is h e =
    ap (λ (t : Bool). if t then Some k.name else None) (ap (has_name ls) (sym is) ∙ sym (h key) ∙ e)
    ∙ ap (λ (n : List ℕ). if b then Some n else None) (sym is)
