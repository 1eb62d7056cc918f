-- Laws on the entries of maps: on values that are seen in another way, on what is looked up, and on entries by their numbers.
use Rattle.std.proofs.Common.{◌≡◌, ℕ, zero, suc, ◌<◌, ◌+◌, Bool, true, false, ◌||◌, cond, List, [], ◌∷◌, ◌++◌, length, drop, map, slice_get, add-one, arith, Some, None, option_map, is_some, refl, sym, ap, ◌∙◌, bytes_eq}
use Rattle.std.specs.List.{list_any}
use Rattle.std.specs.Option.{option_or}
use Rattle.std.specs.Map.{lookup, keys_of}
use Rattle.std.proofs.lemmas.Slice.Eq.{bytes_eq-Decides}
use Rattle.std.proofs.lemmas.Bool.{false≢true}
use Rattle.indexmap.specs.IndexMap.{insert_entry}
use Rattle.yaml_read.specs.Entries.{seen_entry}
use Rattle.compose_config.specs.Plan.{Instance, instance_named}

module _ {K V W : Type 0} (g : V → W) where
  abbrev pub mapped : K × V → K × W
  mapped e = (e.0, g e.1)

  pub lookup_mapped : (t : K → Bool) (es : List (K × V)) → lookup t (map (λ (e : K × V). (e.0, g e.1)) es) ≡ option_map g (lookup t es)
  lookup_mapped t [] = refl
  lookup_mapped t (e ∷ es) = by (t e.0) (lookup_mapped t es)
    where
      by : (b : Bool) → lookup t (map (λ (e : K × V). (e.0, g e.1)) es) ≡ option_map g (lookup t es) → cond b (Some (g e.1)) (lookup t (map (λ (e : K × V). (e.0, g e.1)) es)) ≡ option_map g (cond b (Some e.1) (lookup t es))
      by true later = refl
      by false later = later

  pub insert_mapped : (eq : K → K → Bool) (es : List (K × V)) (k : K) (v : V) → map (λ (e : K × V). (e.0, g e.1)) (insert_entry eq es k v) ≡ insert_entry eq (map (λ (e : K × V). (e.0, g e.1)) es) k (g v)
  insert_mapped eq [] k v = refl
  insert_mapped eq (e ∷ es) k v = by (eq k e.0) (insert_mapped eq es k v)
    where
      by : (b : Bool) → map (λ (e : K × V). (e.0, g e.1)) (insert_entry eq es k v) ≡ insert_entry eq (map (λ (e : K × V). (e.0, g e.1)) es) k (g v) → map (λ (e : K × V). (e.0, g e.1)) (cond b ((e.0, v) ∷ es) (e ∷ insert_entry eq es k v)) ≡ cond b ((e.0, g v) ∷ map (λ (e : K × V). (e.0, g e.1)) es) ((e.0, g e.1) ∷ insert_entry eq (map (λ (e : K × V). (e.0, g e.1)) es) k (g v))
      by true later = refl
      by false later = ap (λ l. (e.0, g e.1) ∷ l) later

-- ---- what is looked up

pub bytes_turned : (a b : List ℕ) → bytes_eq a b ≡ bytes_eq b a
bytes_turned a b = by (bytes_eq a b) (bytes_eq b a) refl refl
  where
    by : (x y : Bool) → bytes_eq a b ≡ x → bytes_eq b a ≡ y → x ≡ y
    by true true p q = refl
    by false false p q = refl
    by true false p q = absurd (false≢true (sym q ∙ ((bytes_eq-Decides b a).1 (sym ((bytes_eq-Decides a b).0 p)))))
    by false true p q = absurd (false≢true (sym p ∙ ((bytes_eq-Decides a b).1 (sym ((bytes_eq-Decides b a).0 q)))))

-- the instance of a name is what a map has at it
pub instance_is : {V : Type 0} (f : V → Instance) (es : List (List ℕ × V)) (name : List ℕ) → instance_named (map (seen_entry f) es) name ≡ option_map f (lookup (bytes_eq name) es)
instance_is f [] name = refl
instance_is {V} f (e ∷ es) name = ap (λ b. cond b (Some (f e.1)) (instance_named (map (seen_entry f) es) name)) (bytes_turned e.0 name) ∙ by (bytes_eq name e.0) (instance_is f es name)
  where
    by : (b : Bool) → instance_named (map (seen_entry f) es) name ≡ option_map f (lookup (bytes_eq name) es) → cond b (Some (f e.1)) (instance_named (map (seen_entry f) es) name) ≡ option_map f (cond b (Some e.1) (lookup (bytes_eq name) es))
    by true later = refl
    by false later = later

-- what is looked up is there where its key is
pub lookup_there : {K V : Type 0} (t : K → Bool) (es : List (K × V)) → is_some (lookup t es) ≡ list_any t (keys_of es)
lookup_there t [] = refl
lookup_there {K} {V} t (e ∷ es) = by (t e.0) (lookup_there t es)
  where
    by : (b : Bool) → is_some (lookup t es) ≡ list_any t (keys_of es) → is_some (cond b (Some e.1) (lookup t es)) ≡ (b || list_any t (keys_of es))
    by true later = refl
    by false later = later

-- a new key goes last
pub insert_new : {K V : Type 0} (eq : K → K → Bool) (es : List (K × V)) (k : K) (v : V) → list_any (eq k) (keys_of es) ≡ false → insert_entry eq es k v ≡ es ++ (k, v) ∷ []
insert_new eq [] k v h = refl
insert_new {K} {V} eq (e ∷ es) k v h = by (eq k e.0) h (insert_new eq es k v)
  where
    by : (b : Bool) → (b || list_any (eq k) (keys_of es)) ≡ false → (list_any (eq k) (keys_of es) ≡ false → insert_entry eq es k v ≡ es ++ (k, v) ∷ []) → cond b ((e.0, v) ∷ es) (e ∷ insert_entry eq es k v) ≡ e ∷ es ++ (k, v) ∷ []
    by true h later = absurd cc
    by false h later = ap (λ l. e ∷ l) (later h)

-- what is looked up behind a list
pub lookup_behind : {K V : Type 0} (t : K → Bool) (es : List (K × V)) (k : K) (v : V) → lookup t (es ++ (k, v) ∷ []) ≡ option_or (lookup t es) (cond (t k) (Some v) None)
lookup_behind t [] k v = refl
lookup_behind {K} {V} t (e ∷ es) k v = by (t e.0) (lookup_behind t es k v)
  where
    by : (b : Bool) → lookup t (es ++ (k, v) ∷ []) ≡ option_or (lookup t es) (cond (t k) (Some v) None) → cond b (Some e.1) (lookup t (es ++ (k, v) ∷ [])) ≡ option_or (cond b (Some e.1) (lookup t es)) (cond (t k) (Some v) None)
    by true later = refl
    by false later = later

-- a key that is looked up in vain goes last
pub insert_absent : {K V : Type 0} (eq : K → K → Bool) (es : List (K × V)) (k : K) (v : V) → lookup (eq k) es ≡ None → insert_entry eq es k v ≡ es ++ (k, v) ∷ []
insert_absent eq es k v none = insert_new eq es k v (sym (lookup_there (eq k) es) ∙ ap is_some none)

-- ---- entries by their numbers

none_some : {A : Type 0} (x : A) → None ≡ Some x → ⊥
none_some x h = cc

-- each number below their length has an entry
pub none_there : {A : Type 0} (es : List A) (i : ℕ) → i < length es → slice_get es i ≡ None → ⊥
none_there [] i less h = omega arith
none_there (x ∷ es) zero less h = none_some x (sym h)
none_there (x ∷ es) (suc i) less h = none_there es i (omega arith) h

some_is : {A : Type 0} (x y : A) → Some x ≡ Some y → x ≡ y
some_is x y e = cc

drop_suc : {A : Type 0} (es : List A) (i : ℕ) (e : A) → slice_get es i ≡ Some e → drop i es ≡ e ∷ drop (suc i) es
drop_suc [] i e h = absurd cc
drop_suc (x ∷ es) zero e h = ap (λ y. y ∷ es) (some_is x e h)
drop_suc (x ∷ es) (suc i) e h = drop_suc es i e h

-- the entries from one of them on
pub drop_at : {A : Type 0} (es : List A) (i : ℕ) (e : A) → slice_get es i ≡ Some e → drop i es ≡ e ∷ drop (i + 1) es
drop_at es i e h = drop_suc es i e h ∙ ap (λ n. e ∷ drop n es) (sym (add-one i))
