-- What those that need an import name there, one more each time.
use Rattle.std.proofs.Common.{◌≡◌, ℕ, suc, Bool, true, false, cond, List, [], ◌∷◌, ◌++◌, ◌+◌, ◌<◌, length, map, take, get_or, Option, Some, None, refl, sym, ap, ◌∙◌}
use Rattle.std.specs.Prelude.{filter, find, is_some, option_map, bytes_eq, Vec}
use Rattle.std.specs.Option.{option_or}
use Rattle.std.specs.Ordering.{is_eq, nat_cmp}
use Rattle.std.specs.BTreeMap.{BTreeMap, Updates, get}
use Rattle.std.specs.BTreeSet.{Updates as SetUpdates}
use Rattle.std.specs.Global.{Global}
use Rattle.std.specs.Cmp.Lexicographic.{slice_cmp, lists_ties, texts_ties, nat_list_eq_equiv, same_text}
use Rattle.std.proofs.lemmas.Bool.{and_parts}
use Rattle.std.proofs.lemmas.List.{map-append, take_more}
use Rattle.std.proofs.lemmas.List.Folds.{find-append}
use Rattle.warg_values.specs.declared.text.Text.{Text}
use Rattle.compose_left.specs.declared.path.Path.{Path}
use Rattle.compose_left.specs.declared.spots.Spot.{Spot}
use Rattle.compose_left.specs.declared.spots.Thing.{Thing}
use Rattle.compose_left.specs.Origins.{same_path, same_thing}
use Rattle.compose_left.specs.Merged.{name_cmp}
use Rattle.compose_left.specs.Wired.{thing_cmp}
use Rattle.compose_order.specs.Known.{AreCalls, FindsImports, path_cmp, things_at, things_in}
use Rattle.compose_order.specs.Needs.{LeftTree, called_at, is_at, place_named, thing_of}
use Rattle.compose_needs.specs.Mentioned.{has}
use Rattle.compose_order.specs.declared.calls.Calls.{Calls}
use Rattle.compose_needs.specs.declared.leaves.Leaf.{Leaf}
use Rattle.compose_needs.specs.ThingLaws.{has_push, holds_more, same_things, thing_ties}

path_ties : (a b : List (List ℕ)) → same_path a b ≡ is_eq (path_cmp a b)
path_ties a b = lists_ties (slice_cmp nat_cmp) texts_ties a b

filter_push : {X : Type 0} (p : X → Bool) (xs : List X) (x : X) → filter p (xs ++ x ∷ []) ≡ filter p xs ++ cond (p x) (x ∷ []) []
filter_push p [] x = one (p x)
  where
    one : (b : Bool) → cond b (x ∷ []) [] ≡ cond b (x ∷ []) []
    one b = refl
filter_push p (y ∷ xs) x = one (p y) (filter_push p xs x)
  where
    one : (b : Bool) → filter p (xs ++ x ∷ []) ≡ filter p xs ++ cond (p x) (x ∷ []) [] → cond b (y ∷ filter p (xs ++ x ∷ [])) (filter p (xs ++ x ∷ [])) ≡ cond b (y ∷ filter p xs) (filter p xs) ++ cond (p x) (x ∷ []) []
    one true h = ap (λ (zs : List _). y ∷ zs) h
    one false h = h

no_more : (ts : List Thing) → ts ++ [] ≡ ts
no_more [] = refl
no_more (t ∷ ts) = ap (λ us. t ∷ us) (no_more ts)

called_push : (xs : List Spot) (x : Spot) (p : List (List ℕ)) → called_at (xs ++ x ∷ []) p ≡ cond (same_path x.path p) (called_at xs p ++ x.what ∷ []) (called_at xs p)
called_push xs x p = ap (map thing_of) (filter_push (is_at p) xs x) ∙ map-append thing_of (filter (is_at p) xs) (cond (same_path x.path p) (x ∷ []) []) ∙ one (same_path x.path p)
  where
    one : (b : Bool) → called_at xs p ++ map thing_of (cond b (x ∷ []) []) ≡ cond b (called_at xs p ++ x.what ∷ []) (called_at xs p)
    one true = refl
    one false = no_more (called_at xs p)

-- one call more
pub calls_more : (old new : Calls) (xs : List Spot) (x : Spot) → AreCalls old xs → SetUpdates thing_cmp old.all new.all x.what true
    → ((p : List (List ℕ)) → things_at new.paths p ≡ cond (is_eq (path_cmp x.path p)) (things_at old.paths p ++ x.what ∷ []) (things_at old.paths p)) → AreCalls new (xs ++ x ∷ [])
calls_more old new xs x h all paths = record {
  all = λ t. holds_more old.all new.all (map thing_of xs) x.what h.all all t ∙ ap (λ ts. has ts t) (sym (map-append thing_of xs (x ∷ [])));
  paths = λ p. paths p ∙ (λ i. cond (sym (path_ties x.path p) i) (h.paths p i ++ x.what ∷ []) (h.paths p i)) ∙ sym (called_push xs x p);
}

-- ---- maps from paths

same_paths : (a b : List (List ℕ)) → same_path a b ≡ true → a ≡ b
same_paths [] [] e = refl
same_paths [] (y ∷ b) e = absurd cc
same_paths (x ∷ a) [] e = absurd cc
same_paths (x ∷ a) (y ∷ b) e = let parts = and_parts (bytes_eq x y) (same_path a b) e in λ i. same_text x y (sym parts.0) i ∷ same_paths a b parts.1 i

-- one thing more at a path
pub put_more : (old mid new : BTreeMap Path (Vec Thing Global)) (key path : List (List ℕ)) (things : Vec Thing Global) (x : Thing) → key ≡ path
    → ((p : List (List ℕ)) → things_at mid p ≡ cond (is_eq (path_cmp path p)) [] (things_at old p)) → things.items ≡ things_at old path ++ x ∷ [] → Updates path_cmp mid new key (Some things)
    → (p : List (List ℕ)) → things_at new p ≡ cond (is_eq (path_cmp path p)) (things_at old p ++ x ∷ []) (things_at old p)
put_more old mid new key path things x is taken put u p = ap (λ o. things_in o) (u.0 p ∙ (λ i. cond (is_eq (path_cmp (is i) p)) (Some things) (get path_cmp mid p))) ∙ one (is_eq (path_cmp path p)) refl
  where
    one : (b : Bool) → is_eq (path_cmp path p) ≡ b → things_in (cond b (Some things) (get path_cmp mid p)) ≡ cond b (things_at old p ++ x ∷ []) (things_at old p)
    one true e = put ∙ ap (λ q. things_at old q ++ x ∷ []) (same_paths path p (path_ties path p ∙ e))
    one false e = taken p ∙ (λ i. cond (e i) [] (things_at old p))

-- ---- imports by their names

place_push : (q : List ℕ) (ls : List LeftTree) (x : LeftTree) → place_named (ls ++ x ∷ []) q ≡ option_or (place_named ls q) (cond (bytes_eq q x.name) (Some (length ls)) None)
place_push q [] x = refl
place_push q (l ∷ ls) x = ap (λ (r : Option ℕ). cond (bytes_eq q l.name) (Some 0) (option_map suc r)) (place_push q ls x) ∙ one (bytes_eq q l.name) (place_named ls q) (bytes_eq q x.name)
  where
    one : (b : Bool) (o : Option ℕ) (c : Bool) → cond b (Some 0) (option_map suc (option_or o (cond c (Some (length ls)) None))) ≡ option_or (cond b (Some 0) (option_map suc o)) (cond c (Some (suc (length ls))) None)
    one true o c = refl
    one false (Some k) c = refl
    one false None true = refl
    one false None false = refl

name_ties : (k q : List ℕ) → bytes_eq q k ≡ is_eq (name_cmp k q)
name_ties k q = nat_list_eq_equiv.symm q k ∙ texts_ties k q

or_nothing : (o : Option ℕ) → o ≡ option_or o None
or_nothing None = refl
or_nothing (Some k) = refl

pub import_added : (m n : BTreeMap Text ℕ) (ls : List LeftTree) (x : LeftTree) (key : List ℕ) (place : ℕ) → FindsImports m ls → key ≡ x.name → get name_cmp m x.name ≡ None → place ≡ length ls → Updates name_cmp m n key (Some place) → FindsImports n (ls ++ x ∷ [])
import_added m n ls x key place f is absent at u q =
    u.0 q ∙ (λ i. cond (sym (name_ties (is i) q) i) (Some (at i)) (get name_cmp m q)) ∙ one (bytes_eq q x.name) refl ∙ sym (place_push q ls x)
  where
    one : (b : Bool) → bytes_eq q x.name ≡ b → cond (bytes_eq q x.name) (Some (length ls)) (get name_cmp m q) ≡ option_or (place_named ls q) (cond (bytes_eq q x.name) (Some (length ls)) None)
    one true e =
        let gone : place_named ls q ≡ None = sym (f q) ∙ ap (λ (j : List ℕ). get name_cmp m j) (same_text q x.name (sym e)) ∙ absent in
        (λ i. cond (e i) (Some (length ls)) (get name_cmp m q)) ∙ sym (λ i. option_or (gone i) (cond (e i) (Some (length ls)) None))
    one false e = (λ i. cond (e i) (Some (length ls)) (get name_cmp m q)) ∙ f q ∙ or_nothing (place_named ls q) ∙ (λ i. option_or (place_named ls q) (cond (sym e i) (Some (length ls)) None))

pub import_there : (m : BTreeMap Text ℕ) (ls : List LeftTree) (x : LeftTree) → FindsImports m ls → is_some (get name_cmp m x.name) ≡ true → FindsImports m (ls ++ x ∷ [])
import_there m ls x f there q = f q ∙ one (bytes_eq q x.name) refl (place_named ls q) refl ∙ sym (place_push q ls x)
  where
    one : (b : Bool) → bytes_eq q x.name ≡ b → (o : Option ℕ) → place_named ls q ≡ o → o ≡ option_or o (cond b (Some (length ls)) None)
    one b e (Some k) h = refl
    one false e None h = refl
    one true e None h = absurd (let bad : is_some (get name_cmp m x.name) ≡ false = ap (λ (j : List ℕ). is_some (get name_cmp m j)) (sym (same_text q x.name (sym e))) ∙ ap (λ (o : Option ℕ). is_some o) (f q ∙ h) in (let worse : true ≡ false = sym there ∙ bad in cc))
