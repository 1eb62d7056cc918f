-- Exports found by their names, and what is added to them.
use Rattle.std.proofs.Common.{◌≡◌, ℕ, zero, suc, ◌+◌, ◌<◌, ◌≤◌, Bool, true, false, cond, List, [], ◌∷◌, ◌++◌, length, take, Option, Some, None, refl, sym, ap, ◌∙◌, arith, slice_index_or, append_assoc}
use Rattle.std.specs.Prelude.{option_map, is_some, is_none, not, filter, bytes_eq}
use Rattle.std.specs.Option.{option_or}
use Rattle.std.specs.BTreeMap.{BTreeMap, get, Updates}
use Rattle.std.specs.Cmp.Lexicographic.{texts_ties, nat_list_eq_equiv, same_text}
use Rattle.std.specs.Ordering.{is_eq}
use Rattle.std.proofs.lemmas.List.{take_more, map-append}
use Rattle.std.proofs.lemmas.Option.{same_Some}
use Rattle.warg_values.specs.declared.text.Text.{Text}
use Rattle.comp_entity.specs.declared.entity.Entity.{Entity}
use Rattle.comp_entity.specs.Entity.{EntityTree, IsInstance, entry}
use Rattle.comp_entity.specs.Fits.{under}
use Rattle.comp_entity.specs.Names.{entity_by}
use Rattle.comp_entity.specs.NameLaws.{entity_kept}
use Rattle.compose_left.specs.Renaming.{no_change}
use Rattle.comp_entity.specs.Views.{entity_tree, entries_of, named_entities}
use Rattle.compose_left.specs.Merging.{is_absent, followed_by, new_in, union}
use Rattle.compose_left.specs.Merged.{name_cmp, name_place, FindsNames, absent_from}
use Rattle.compose_left.proofs.NumberLaws.{key_or, map_cond, or_none}

suc_is : (o : Option ℕ) (k : ℕ) → option_map suc o ≡ Some k → (j : ℕ) × (o ≡ Some j) × (suc j ≡ k)
suc_is None k e = absurd cc
suc_is (Some j) k e = (j, refl, same_Some (suc j) k e)

pub place_below : (name : List ℕ) (xs : List (List ℕ × Entity)) (k : ℕ) → name_place name (named_entities xs) ≡ Some k → k < length xs
place_below name [] k e = absurd cc
place_below name (x ∷ xs) k e = one (bytes_eq name x.0) e (place_below name xs)
  where
    one : (b : Bool) → cond b (Some 0) (option_map suc (name_place name (named_entities xs))) ≡ Some k → ((j : ℕ) → name_place name (named_entities xs) ≡ Some j → j < length xs) → k < suc (length xs)
    one true e rest = let z = same_Some 0 k e in omega (arith, z)
    one false e rest = let s = suc_is (name_place name (named_entities xs)) k e in let lt = rest s.0 s.1 in let is = s.2 in omega (arith, lt, is)

pub under_place : (name : List ℕ) (xs : List (List ℕ × Entity)) (k : ℕ) (x : List ℕ × Entity) → name_place name (named_entities xs) ≡ Some k → x ≡ slice_index_or xs k x → under name (entries_of (named_entities xs)) ≡ Some (entity_tree x.1, true)
under_place name [] k x e is = absurd cc
under_place name (y ∷ xs) k x e is = one (bytes_eq name y.0) e (under_place name xs)
  where
    here : (k : ℕ) → 0 ≡ k → x ≡ slice_index_or (y ∷ xs) k x → y ≡ x
    here zero z is = sym is
    here (suc k) z is = absurd (omega (arith, z))

    there : (j k : ℕ) → suc j ≡ k → x ≡ slice_index_or (y ∷ xs) k x → x ≡ slice_index_or xs j x
    there j zero z is = absurd (omega (arith, z))
    there j (suc k) z is = let same : k ≡ j = omega (arith, z) in is ∙ ap (λ (i : ℕ). slice_index_or xs i x) same

    one : (b : Bool) → cond b (Some 0) (option_map suc (name_place name (named_entities xs))) ≡ Some k
        → ((j : ℕ) (z : List ℕ × Entity) → name_place name (named_entities xs) ≡ Some j → z ≡ slice_index_or xs j z → under name (entries_of (named_entities xs)) ≡ Some (entity_tree z.1, true))
        → cond b (Some (entity_tree y.1, true)) (under name (entries_of (named_entities xs))) ≡ Some (entity_tree x.1, true)
    one true e rest = ap (λ (z : List ℕ × Entity). Some (entity_tree z.1, true)) (here k (same_Some 0 k e) is)
    one false e rest = let s = suc_is (name_place name (named_entities xs)) k e in rest s.0 x s.1 (there s.0 k s.2 is)

pub under_none : (name : List ℕ) (es : List (List ℕ × EntityTree)) → name_place name es ≡ None → under name (entries_of es) ≡ None
under_none name [] e = refl
under_none name (x ∷ es) e = one (bytes_eq name x.0) (name_place name es) refl e (under_none name es)
  where
    one : (b : Bool) (o : Option ℕ) → name_place name es ≡ o → cond b (Some 0) (option_map suc o) ≡ None → (name_place name es ≡ None → under name (entries_of es) ≡ None) → cond b (Some (x.1, true)) (under name (entries_of es)) ≡ None
    one true o h e rest = absurd cc
    one false None h e rest = rest h
    one false (Some k) h e rest = absurd cc

place_push : (q : List ℕ) (es : List (List ℕ × EntityTree)) (x : List ℕ × EntityTree) → name_place q (es ++ x ∷ []) ≡ option_or (name_place q es) (cond (bytes_eq q x.0) (Some (length es)) None)
place_push q [] x = refl
place_push q (e ∷ es) x =
    ap (λ (r : Option ℕ). cond (bytes_eq q e.0) (Some 0) (option_map suc r)) (place_push q es x)
    ∙ key_or (bytes_eq q e.0) (name_place q es) (cond (bytes_eq q x.0) (Some (length es)) None)
    ∙ ap (λ (r : Option ℕ). option_or (cond (bytes_eq q e.0) (Some 0) (option_map suc (name_place q es))) r) (map_cond (bytes_eq q x.0) (length es))

text_is : (a b : List ℕ) → bytes_eq a b ≡ true → a ≡ b
text_is a b e = same_text a b (sym e)

ties : (k q : List ℕ) → bytes_eq q k ≡ is_eq (name_cmp k q)
ties k q = nat_list_eq_equiv.symm q k ∙ texts_ties k q

pub name_added : (m n : BTreeMap Text ℕ) (es : List (List ℕ × EntityTree)) (x : List ℕ × EntityTree) (key : List ℕ) (place : ℕ) → FindsNames m es → key ≡ x.0 → get name_cmp m x.0 ≡ None → place ≡ length es → Updates name_cmp m n key (Some place) → FindsNames n (es ++ x ∷ [])
name_added m n es x key place f is absent at u q =
    u.0 q ∙ (λ i. cond (sym (ties (is i) q) i) (Some (at i)) (get name_cmp m q)) ∙ one (bytes_eq q x.0) refl ∙ sym (place_push q es x)
  where
    one : (b : Bool) → bytes_eq q x.0 ≡ b → cond (bytes_eq q x.0) (Some (length es)) (get name_cmp m q) ≡ option_or (name_place q es) (cond (bytes_eq q x.0) (Some (length es)) None)
    one true e =
        let gone : name_place q es ≡ None = sym (f q) ∙ ap (λ (j : List ℕ). get name_cmp m j) (text_is q x.0 e) ∙ absent in
        (λ i. cond (e i) (Some (length es)) (get name_cmp m q)) ∙ sym (λ i. option_or (gone i) (cond (e i) (Some (length es)) None))
    one false e = (λ i. cond (e i) (Some (length es)) (get name_cmp m q)) ∙ f q ∙ sym (or_none (name_place q es)) ∙ (λ i. option_or (name_place q es) (cond (sym e i) (Some (length es)) None))

pub name_there : (m : BTreeMap Text ℕ) (es : List (List ℕ × EntityTree)) (x : List ℕ × EntityTree) → FindsNames m es → is_none (get name_cmp m x.0) ≡ false → FindsNames m (es ++ x ∷ [])
name_there m es x f there q = f q ∙ one (bytes_eq q x.0) refl (name_place q es) refl ∙ sym (place_push q es x)
  where
    one : (b : Bool) → bytes_eq q x.0 ≡ b → (o : Option ℕ) → name_place q es ≡ o → o ≡ option_or o (cond b (Some (length es)) None)
    one b e (Some k) h = refl
    one false e None h = refl
    one true e None h = absurd (let bad : is_none (get name_cmp m x.0) ≡ true = ap (λ (j : List ℕ). is_none (get name_cmp m j)) (sym (text_is q x.0 e)) ∙ ap (λ (o : Option ℕ). is_none o) (f q ∙ h) in (let worse : false ≡ true = sym there ∙ bad in cc))

-- one export more of those that are asked for
pub named_more : (xs : List (List ℕ × Entity)) (i : ℕ) (x : List ℕ × Entity) → i < length xs → x ≡ slice_index_or xs i x → named_entities (take (i + 1) xs) ≡ named_entities (take i xs) ++ (x.0, entity_tree x.1) ∷ []
named_more xs i x lt is = ap named_entities (take_more xs i x lt ∙ ap (λ (y : List ℕ × Entity). take i xs ++ y ∷ []) (sym is)) ∙ map-append (λ (e : List ℕ × Entity). (e.0, entity_tree e.1)) (take i xs) (x ∷ [])

filter_push : {X : Type 0} (p : X → Bool) (xs : List X) (x : X) → filter p (xs ++ x ∷ []) ≡ filter p xs ++ cond (p x) (x ∷ []) []
filter_push p [] x = one (p x)
  where
    one : (b : Bool) → cond b (x ∷ []) [] ≡ cond b (x ∷ []) []
    one b = refl
filter_push p (y ∷ xs) x = one (p y) (filter_push p xs x)
  where
    one : (b : Bool) → filter p (xs ++ x ∷ []) ≡ filter p xs ++ cond (p x) (x ∷ []) [] → cond b (y ∷ filter p (xs ++ x ∷ [])) (filter p (xs ++ x ∷ [])) ≡ cond b (y ∷ filter p xs) (filter p xs) ++ cond (p x) (x ∷ []) []
    one true h = ap (λ (zs : List _). y ∷ zs) h
    one false h = h

absent_more : (es fs : List (List ℕ × EntityTree)) (x : List ℕ × EntityTree) (b : Bool) → is_none (name_place x.0 es) ≡ b → absent_from es (fs ++ x ∷ []) ≡ absent_from es fs ++ cond b (x ∷ []) []
absent_more es fs x b e = filter_push (λ (f : List ℕ × EntityTree). is_none (name_place f.0 es)) fs x ∙ (λ i. absent_from es fs ++ cond (e i) (x ∷ []) [])

-- exports that were added so far, and one more
pub added_more : (es new : List (List ℕ × EntityTree)) (xs : List (List ℕ × Entity)) (i : ℕ) (x : List ℕ × Entity) (b : Bool) → i < length xs → x ≡ slice_index_or xs i x → is_none (name_place x.0 es) ≡ b
    → new ≡ es ++ absent_from es (named_entities (take i xs)) → new ++ cond b ((x.0, entity_tree x.1) ∷ []) [] ≡ es ++ absent_from es (named_entities (take (i + 1) xs))
added_more es new xs i x b lt is e h =
    ap (λ (ns : List (List ℕ × EntityTree)). ns ++ cond b ((x.0, entity_tree x.1) ∷ []) []) h
    ∙ append_assoc es (absent_from es (named_entities (take i xs))) (cond b ((x.0, entity_tree x.1) ∷ []) [])
    ∙ ap (λ (ns : List (List ℕ × EntityTree)). es ++ ns) (sym (absent_more es (named_entities (take i xs)) (x.0, entity_tree x.1) b e) ∙ ap (absent_from es) (sym (named_more xs i x lt is)))

followed_is : (es fs : List (List ℕ × EntityTree)) → entries_of (es ++ fs) ≡ followed_by (entries_of es) (entries_of fs)
followed_is [] fs = refl
followed_is (e ∷ es) fs = ap (entry e.0 e.1 true) (followed_is es fs)

absent_is : (name : List ℕ) (es : List (List ℕ × EntityTree)) → is_absent name (entries_of es) ≡ is_none (name_place name es)
absent_is name [] = refl
absent_is name (e ∷ es) = one (bytes_eq name e.0) (name_place name es) refl (absent_is name es)
  where
    one : (b : Bool) (o : Option ℕ) → name_place name es ≡ o → not (is_some (under name (entries_of es))) ≡ is_none (name_place name es) → not (is_some (cond b (Some (e.1, true)) (under name (entries_of es)))) ≡ is_none (cond b (Some 0) (option_map suc o))
    one true o h r = refl
    one false None h r = r ∙ ap (λ (o : Option ℕ). is_none o) h
    one false (Some k) h r = r ∙ ap (λ (o : Option ℕ). is_none o) h

new_is : (es fs : List (List ℕ × EntityTree)) → new_in (entries_of es) (entries_of fs) ≡ entries_of (absent_from es fs)
new_is es [] = refl
new_is es (f ∷ fs) =
    (λ i. cond (absent_is f.0 es i) (entry f.0 f.1 true (new_is es fs i)) (new_is es fs i)) ∙ one (is_none (name_place f.0 es))
  where
    one : (b : Bool) → cond b (entry f.0 f.1 true (entries_of (absent_from es fs))) (entries_of (absent_from es fs)) ≡ entries_of (cond b (f ∷ absent_from es fs) (absent_from es fs))
    one true = refl
    one false = refl

pub union_is : (es fs new : List (List ℕ × EntityTree)) → new ≡ es ++ absent_from es fs → IsInstance (entries_of new) ≡ union (IsInstance (entries_of es)) (IsInstance (entries_of fs))
union_is es fs new e = ap IsInstance (ap entries_of e ∙ followed_is es (absent_from es fs) ∙ ap (followed_by (entries_of es)) (sym (new_is es fs)))

pub copied : (e : EntityTree) → entity_by no_change 0 e ≡ e
copied e = entity_kept no_change (record { resource = λ d n. refl; place = λ d n. refl; mark = λ m. refl }) 0 e

pub named_count : (xs : List (List ℕ × Entity)) (i : ℕ) → i ≤ length xs → i ≡ length (named_entities (take i xs))
named_count xs zero le = refl
named_count [] (suc i) le = absurd (omega (arith, le))
named_count (x ∷ xs) (suc i) le = ap suc (named_count xs i (omega (arith, le)))

pub front_is : (xs old : List (List ℕ × Entity)) (rest : List (List ℕ × EntityTree)) (n : ℕ) → named_entities xs ≡ named_entities old ++ rest → n ≡ length old → named_entities (take n xs) ≡ named_entities old
front_is xs [] rest zero e is = refl
front_is xs [] rest (suc n) e is = absurd (omega (arith, is))
front_is xs (o ∷ old) rest zero e is = absurd (omega (arith, is))
front_is [] (o ∷ old) rest (suc n) e is = absurd cc
front_is (x ∷ xs) (o ∷ old) rest (suc n) e is =
    let head : (x.0, entity_tree x.1) ≡ (o.0, entity_tree o.1) = cc in
    let tail : named_entities xs ≡ named_entities old ++ rest = cc in
    λ i. head i ∷ front_is xs old rest n tail (omega (arith, is)) i

pub named_push : (old new : List (List ℕ × Entity)) (x : List ℕ × Entity) (name : List ℕ) (e : EntityTree) → new ≡ old ++ x ∷ [] → x.0 ≡ name → entity_tree x.1 ≡ e → named_entities new ≡ named_entities old ++ (name, e) ∷ []
named_push old new x name e is n t = ap named_entities is ∙ map-append (λ (e : List ℕ × Entity). (e.0, entity_tree e.1)) old (x ∷ []) ∙ (λ i. named_entities old ++ (n i, t i) ∷ [])
