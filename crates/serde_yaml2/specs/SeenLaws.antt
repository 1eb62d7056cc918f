-- Values that are seen alike are written alike.
use Rattle.std.proofs.Common.{◌≡◌, ℕ, List, [], ◌∷◌, map, Option, Some, None, option_map, refl, sym, ap, ap₂, ◌∙◌}
use Rattle.yaml_text.specs.Written as spec
use Rattle.yaml_text.specs.Written.{Written, Elements, Members, elements_of, members_of}
use Rattle.yaml_read.specs.Entries.{seen_entry}
use Rattle.serde_yaml2.specs.Values.{optional, list_of, map_of, pair_of, triple_of}

-- what is written is a function of what is seen
pub alike : {S : Type 0} (written : S → Written) (x y : S) → x ≡ y → written x ≡ written y
alike written x y e = ap written e

some_is : {A : Type 0} (x y : A) → Some x ≡ Some y → x ≡ y
some_is x y h = cc

none_some : {A : Type 0} (x : A) → None ≡ Some x → ⊥
none_some x h = cc

module _ {X S : Type 0} (written : X → Written) (seen : X → S) (law : (x y : X) → seen x ≡ seen y → written x ≡ written y) where
  pub option_alike : (x y : Option X) → option_map seen x ≡ option_map seen y → optional written x ≡ optional written y
  option_alike None None e = refl
  option_alike None (Some y) e = absurd (none_some (seen y) e)
  option_alike (Some x) None e = absurd (none_some (seen x) (sym e))
  option_alike (Some x) (Some y) e = law x y (some_is (seen x) (seen y) e)

  first_of : (s t : S) (ss ts : List S) → s ∷ ss ≡ t ∷ ts → s ≡ t
  first_of s t ss ts e = cc

  rest_of : (s t : S) (ss ts : List S) → s ∷ ss ≡ t ∷ ts → ss ≡ ts
  rest_of s t ss ts e = cc

  items_alike : (xs ys : List X) → map seen xs ≡ map seen ys → map written xs ≡ map written ys
  items_alike [] [] e = refl
  items_alike [] (y ∷ ys) e = absurd cc
  items_alike (x ∷ xs) [] e = absurd cc
  items_alike (x ∷ xs) (y ∷ ys) e =
      ap₂ (λ (w : Written) (ws : List Written). w ∷ ws) (law x y (first_of (seen x) (seen y) (map seen xs) (map seen ys) e))
      (items_alike xs ys (rest_of (seen x) (seen y) (map seen xs) (map seen ys) e))

  pub list_alike : (xs ys : List X) → map seen xs ≡ map seen ys → list_of written xs ≡ list_of written ys
  list_alike xs ys e = ap (λ (ws : List Written). spec.list (elements_of ws)) (items_alike xs ys e)

  nil_cons : (p : List ℕ × S) (ps : List (List ℕ × S)) → [] ≡ p ∷ ps → ⊥
  nil_cons p ps e = cc

  entry_is : (p q : List ℕ × S) (ps qs : List (List ℕ × S)) → p ∷ ps ≡ q ∷ qs → p ≡ q
  entry_is p q ps qs e = cc

  others_are : (p q : List ℕ × S) (ps qs : List (List ℕ × S)) → p ∷ ps ≡ q ∷ qs → ps ≡ qs
  others_are p q ps qs e = cc

  entries_alike : (es fs : List (List ℕ × X)) → map (seen_entry seen) es ≡ map (seen_entry seen) fs → map (seen_entry written) es ≡ map (seen_entry written) fs
  entries_alike [] [] e = refl
  entries_alike [] (y ∷ fs) e = absurd (nil_cons (y.0, seen y.1) (map (seen_entry seen) fs) e)
  entries_alike (x ∷ es) [] e = absurd (nil_cons (x.0, seen x.1) (map (seen_entry seen) es) (sym e))
  entries_alike (x ∷ es) (y ∷ fs) e =
      let p : List ℕ × S = seen_entry seen x in
      let q : List ℕ × S = seen_entry seen y in
      let same : p ≡ q = entry_is p q (map (seen_entry seen) es) (map (seen_entry seen) fs) e in
      ap₂ (λ (w : List ℕ × Written) (ws : List (List ℕ × Written)). w ∷ ws)
      (ap₂ (λ (key : List ℕ) (w : Written). (key, w)) (ap (λ (r : List ℕ × S). r.0) same) (law x.1 y.1 (ap (λ (r : List ℕ × S). r.1) same)))
      (entries_alike es fs (others_are p q (map (seen_entry seen) es) (map (seen_entry seen) fs) e))

  pub map_alike : (es fs : List (List ℕ × X)) → map (seen_entry seen) es ≡ map (seen_entry seen) fs → map_of written es ≡ map_of written fs
  map_alike es fs e = ap (λ (ws : List (List ℕ × Written)). spec.map (members_of ws)) (entries_alike es fs e)

-- tuples, by their parts
pub pair_alike : {A B S T : Type 0} (first : A → Written) (second : B → Written) (seen : A → S) (saw : B → T) → ((x y : A) → seen x ≡ seen y → first x ≡ first y) → ((x y : B) → saw x ≡ saw y → second x ≡ second y)
    → (p q : A × B) → ◌≡◌ {A = S × T} (seen p.0, saw p.1) (seen q.0, saw q.1) → pair_of (first p.0) (second p.1) ≡ pair_of (first q.0) (second q.1)
pair_alike {A} {B} {S} {T} first second seen saw law rule p q e =
    ap₂ pair_of (law p.0 q.0 (ap (λ (r : S × T). r.0) e)) (rule p.1 q.1 (ap (λ (r : S × T). r.1) e))

pub triple_alike : {A B C S T U : Type 0} (first : A → Written) (second : B → Written) (third : C → Written) (seen : A → S) (saw : B → T) (sees : C → U) → ((x y : A) → seen x ≡ seen y → first x ≡ first y)
    → ((x y : B) → saw x ≡ saw y → second x ≡ second y) → ((x y : C) → sees x ≡ sees y → third x ≡ third y)
    → (p q : A × B × C) → ◌≡◌ {A = S × T × U} (seen p.0, saw p.1, sees p.2) (seen q.0, saw q.1, sees q.2) → triple_of (first p.0) (second p.1) (third p.2) ≡ triple_of (first q.0) (second q.1) (third q.2)
triple_alike {A} {B} {C} {S} {T} {U} first second third seen saw sees law rule norm p q e =
    by_parts (first p.0) (first q.0) (second p.1) (second q.1) (third p.2) (third q.2) (law p.0 q.0 (ap (λ (r : S × T × U). r.0) e)) (rule p.1 q.1 (ap (λ (r : S × T × U). r.1) e)) (norm p.2 q.2 (ap (λ (r : S × T × U). r.2) e))
  where
    by_parts : (u v w x y z : Written) → u ≡ v → w ≡ x → y ≡ z → triple_of u w y ≡ triple_of v x z
    by_parts u v w x y z e f g = ap (λ (a : Written). triple_of a w y) e ∙ ap (λ (a : Written). triple_of v a y) f ∙ ap (triple_of v x) g
