-- What is named at paths, one more each time.
use Rattle.std.proofs.Common.{◌≡◌, ◌<◌, ◌+◌, ℕ, Bool, true, false, cond, List, [], ◌∷◌, ◌++◌, get_or, length, take, Option, Some, None, refl, sym, ap, ◌∙◌}
use Rattle.std.specs.Prelude.{find, is_some, option_and_then, option_map}
use Rattle.std.specs.Option.{option_or}
use Rattle.std.specs.Ordering.{is_eq}
use Rattle.std.specs.BTreeMap.{BTreeMap, Updates, get}
use Rattle.std.proofs.lemmas.List.{take_more}
use Rattle.std.proofs.lemmas.List.Folds.{find-append}
use Rattle.compose_left.specs.Origins.{same_path}
use Rattle.compose_left.specs.declared.path.Path.{Path}
use Rattle.compose_left.specs.declared.spots.Thing.{Thing}
use Rattle.compose_needs.specs.declared.leaves.Leaf.{Leaf}
use Rattle.compose_order.specs.Known.{NamePath, path_cmp}
use Rattle.compose_naming.specs.Bits.{bit_at, bit_in, is_at, Scope, type_named}
use Rattle.compose_naming.specs.Scopes.{FindsPlaces, named_of}
use Rattle.compose_naming.proofs.PathLaws.{path_ties, same_paths}

named_or : (a b : Option Leaf) → option_map named_of (option_or a b) ≡ option_or (option_map named_of a) (option_map named_of b)
named_or None b = refl
named_or (Some x) b = refl

find_one : (leaf : Leaf) (path : NamePath)
    → option_map named_of (find (is_at path) (leaf ∷ [])) ≡ cond (same_path leaf.path path) (Some leaf.named) None
find_one leaf path = one (same_path leaf.path path)
  where
    one : (b : Bool) → option_map named_of (cond b (Some leaf) None) ≡ cond b (Some leaf.named) None
    one true = refl
    one false = refl

found_push : (leaves : List Leaf) (leaf : Leaf) (path : NamePath)
    → option_map named_of (find (is_at path) (leaves ++ leaf ∷ []))
    ≡ option_or (option_map named_of (find (is_at path) leaves)) (cond (same_path leaf.path path) (Some leaf.named) None)
found_push leaves leaf path =
    ap (option_map named_of) (find-append (is_at path) leaves (leaf ∷ []))
    ∙ named_or (find (is_at path) leaves) (find (is_at path) (leaf ∷ []))
    ∙ ap (option_or (option_map named_of (find (is_at path) leaves))) (find_one leaf path)

or_none : (o : Option (Option Thing)) → o ≡ option_or o None
or_none None = refl
or_none (Some x) = refl

-- a path at which nothing stood
pub place_added : (old new : BTreeMap Path (Option Thing)) (leaves : List Leaf) (leaf : Leaf) (key : NamePath)
    → key ≡ leaf.path → is_some (get path_cmp old leaf.path) ≡ false → Updates path_cmp old new key (Some leaf.named)
    → FindsPlaces old leaves → FindsPlaces new (leaves ++ leaf ∷ [])
place_added old new leaves leaf key is none u h path =
    u.0 path ∙ (λ i. cond (is_eq (path_cmp (is i) path)) (Some leaf.named) (get path_cmp old path))
    ∙ one (is_eq (path_cmp leaf.path path)) refl ∙ sym (found_push leaves leaf path)
  where
    nothing : (o : Option (Option Thing)) → is_some o ≡ false → o ≡ None
    nothing None e = refl
    nothing (Some x) e = absurd cc

    one : (b : Bool) → is_eq (path_cmp leaf.path path) ≡ b → cond b (Some leaf.named) (get path_cmp old path)
        ≡ option_or (option_map named_of (find (is_at path) leaves)) (cond (same_path leaf.path path) (Some leaf.named) None)
    one true e =
        let here : same_path leaf.path path ≡ true = path_ties leaf.path path ∙ e in
        let gone : option_map named_of (find (is_at path) leaves) ≡ None =
        sym (h path) ∙ ap (get path_cmp old) (sym (same_paths leaf.path path here)) ∙ nothing (get path_cmp old leaf.path) none in
        sym ((λ i. option_or (gone i) (cond (here i) (Some leaf.named) None)))
    one false e =
        let apart : same_path leaf.path path ≡ false = path_ties leaf.path path ∙ e in
        h path ∙ or_none (option_map named_of (find (is_at path) leaves))
        ∙ (λ i. option_or (option_map named_of (find (is_at path) leaves)) (cond (sym apart i) (Some leaf.named) None))

-- a path at which something stood
pub place_there : (m : BTreeMap Path (Option Thing)) (leaves : List Leaf) (leaf : Leaf)
    → is_some (get path_cmp m leaf.path) ≡ true → FindsPlaces m leaves → FindsPlaces m (leaves ++ leaf ∷ [])
place_there m leaves leaf there h path =
    h path ∙ one (option_map named_of (find (is_at path) leaves)) refl (same_path leaf.path path) refl
    ∙ sym (found_push leaves leaf path)
  where
    one : (o : Option (Option Thing)) → option_map named_of (find (is_at path) leaves) ≡ o → (b : Bool)
        → same_path leaf.path path ≡ b → o ≡ option_or o (cond b (Some leaf.named) None)
    one (Some x) f b e = refl
    one None f false e = refl
    one None f true e =
        let none : is_some (get path_cmp m leaf.path) ≡ false =
        ap (λ p. is_some (get path_cmp m p)) (same_paths leaf.path path e) ∙ ap (λ (o : Option (Option Thing)). is_some o) (h path ∙ f) in
        let bad : true ≡ false = sym there ∙ none in
        absurd cc

pub places_step : (m : BTreeMap Path (Option Thing)) (leaves : List Leaf) (i : ℕ) (leaf : Leaf) → i < length leaves
    → leaf ≡ get_or leaves i leaf → FindsPlaces m (take i leaves ++ leaf ∷ []) → FindsPlaces m (take (i + 1) leaves)
places_step m leaves i leaf lt is h path =
    h path ∙ ap (λ ls. option_map named_of (find (is_at path) ls))
    (ap (λ (x : Leaf). take i leaves ++ x ∷ []) is ∙ sym (take_more leaves i leaf lt))

-- ---- bits at paths

pub bit_found : (m : BTreeMap Path (Option Thing)) (leaves : List Leaf) (scopes : List Scope) (path : NamePath)
    (o : Option (Option Thing)) → FindsPlaces m leaves → get path_cmp m path ≡ o
    → option_and_then (bit_in scopes) (option_and_then type_named o) ≡ bit_at leaves scopes path
bit_found m leaves scopes path o h is =
    ap (λ o. option_and_then (bit_in scopes) (option_and_then type_named o)) (sym is ∙ h path)
    ∙ ap (option_and_then (bit_in scopes)) (one (find (is_at path) leaves))
  where
    one : (o : Option Leaf) → option_and_then type_named (option_map named_of o) ≡ option_and_then (λ (leaf : Leaf). type_named leaf.named) o
    one None = refl
    one (Some leaf) = refl
