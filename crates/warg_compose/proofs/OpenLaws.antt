-- The imports of a lock that stand for no release are what is left open.
use Rattle.std.proofs.Common.{◌≡◌, ◌∙◌, sym, ap, refl, ℕ, Bool, true, false, cond, not, List, [], ◌∷◌, ◌++◌, map}
use Rattle.std.specs.Prelude.{filter}
use Rattle.std.specs.List.{AllByRecursion}
use Rattle.comp_format.specs.Items.{ItemTree, Import}
use Rattle.comp_format.specs.declared.types.Sort.{Sort}
use Rattle.compose_check.specs.Composition.{ComponentTree, CompositionTree}
use Rattle.compose_image.specs.Imports.{component_import, import_in, imports_in, imports_of, name_and_sort, used_components}
use Rattle.compose_naming.specs.Settled.{settled}
use Rattle.compose_order.specs.Needs.{LeftTree}
use Rattle.warg_compose.specs.Left.{is_release, open_in, open_names}

abbrev left_name : LeftTree → List ℕ
left_name l = l.name

abbrev unreleased : List (List ℕ) → List (List ℕ)
unreleased ns = filter (λ n. not (is_release n)) ns

abbrev first : List ℕ × Sort → List ℕ
first e = e.0

-- ---- the names among items

kept_both : (p : List ℕ → Bool) (xs ys : List (List ℕ)) → filter p (xs ++ ys) ≡ filter p xs ++ filter p ys
kept_both p [] ys = refl
kept_both p (x ∷ xs) ys = by (p x) (kept_both p xs ys)
  where
    by : (b : Bool) → filter p (xs ++ ys) ≡ filter p xs ++ filter p ys → cond b (x ∷ filter p (xs ++ ys)) (filter p (xs ++ ys)) ≡ cond b (x ∷ filter p xs) (filter p xs) ++ filter p ys
    by true e = ap (λ zs. x ∷ zs) e
    by false e = e

map_both : (xs ys : List (List ℕ × Sort)) → map first (xs ++ ys) ≡ map first xs ++ map first ys
map_both [] ys = refl
map_both (x ∷ xs) ys = ap (λ zs. first x ∷ zs) (map_both xs ys)

one_name : (item : ItemTree) → open_in item ≡ unreleased (map first (import_in item))
one_name (Import i) = by (is_release i.name)
  where
    by : (b : Bool) → cond b [] (i.name ∷ []) ≡ cond (not b) (i.name ∷ []) []
    by true = refl
    by false = refl
one_name _ = refl

names_are : (items : List ItemTree) → open_names items ≡ unreleased (map first (imports_in items))
names_are [] = refl
names_are (x ∷ xs) =
    (λ i. one_name x i ++ names_are xs i)
    ∙ sym (kept_both (λ n. not (is_release n)) (map first (import_in x)) (map first (imports_in xs)))
    ∙ ap unreleased (sym (map_both (import_in x) (imports_in xs)))

-- ---- the names of imports

named : (ls : List LeftTree) → map first (map name_and_sort ls) ≡ map left_name ls
named [] = refl
named (l ∷ ls) = ap (λ ns. l.name ∷ ns) (named ls)

names_both : (xs ys : List LeftTree) → map left_name (xs ++ ys) ≡ map left_name xs ++ map left_name ys
names_both [] ys = refl
names_both (x ∷ xs) ys = ap (λ zs. x.name ∷ zs) (names_both xs ys)

settled_names : (ls : List LeftTree) → map left_name (map settled ls) ≡ map left_name ls
settled_names [] = refl
settled_names (l ∷ ls) = ap (λ ns. l.name ∷ ns) (settled_names ls)

none_left : (ks : List ComponentTree) → AllByRecursion (λ (k : ComponentTree). is_release k.name ≡ true) ks → unreleased (map left_name (map component_import ks)) ≡ []
none_left [] all = refl
none_left (k ∷ ks) all = ap (λ b. cond (not b) (k.name ∷ unreleased (map left_name (map component_import ks))) (unreleased (map left_name (map component_import ks)))) all.0 ∙ none_left ks all.1

all_left : (ls : List LeftTree) → AllByRecursion (λ (l : LeftTree). is_release l.name ≡ false) ls → unreleased (map left_name ls) ≡ map left_name ls
all_left [] all = refl
all_left (l ∷ ls) all = ap (λ b. cond (not b) (l.name ∷ unreleased (map left_name ls)) (unreleased (map left_name ls))) all.0 ∙ ap (λ ns. l.name ∷ ns) (all_left ls all.1)

pub left_are : (c : CompositionTree) (lefts : List LeftTree) (items : List ItemTree) → imports_in items ≡ map name_and_sort (imports_of c false lefts)
    → AllByRecursion (λ (k : ComponentTree). is_release k.name ≡ true) (used_components c) → AllByRecursion (λ (l : LeftTree). is_release l.name ≡ false) lefts
    → open_names items ≡ map left_name lefts
left_are c lefts items imports released unlocked =
    names_are items
    ∙ ap (λ es. unreleased (map first es)) imports
    ∙ ap unreleased (named (imports_of c false lefts) ∙ names_both (map component_import (used_components c)) (map settled lefts))
    ∙ kept_both (λ n. not (is_release n)) (map left_name (map component_import (used_components c))) (map left_name (map settled lefts))
    ∙ (λ i. none_left (used_components c) released i ++ unreleased (settled_names lefts i))
    ∙ all_left lefts unlocked
