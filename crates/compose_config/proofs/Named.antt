-- The search for an entry by its name.
use Rattle.std.proofs.Common.{◌≡◌, ℕ, zero, suc, ◌+◌, ◌≤◌, List, [], ◌∷◌, length, drop, map, slice_get, true, false, cond, Some, None, refl, ap, bytes_eq, add-one}
use Rattle.std.proofs.lemmas.List.{drop_all}
use Rattle.yaml_read.specs.Entries.{seen_entry}
use Rattle.compose_config.specs.Plan.{Name, Instance, instance_named}

some_is : {A : Type 0} (x y : A) → Some x ≡ Some y → x ≡ y
some_is x y h = cc

none_some : {A : Type 0} (x : A) → None ≡ Some x → ⊥
none_some x h = cc

-- the entries from one of them on
from_here : {V : Type 0} (f : V → Instance) (es : List (Name × V)) (i : ℕ) (e : Name × V) (name : Name) → slice_get es i ≡ Some e
    → instance_named (map (seen_entry f) (drop i es)) name ≡ cond (bytes_eq e.0 name) (Some (f e.1)) (instance_named (map (seen_entry f) (drop (suc i) es)) name)
from_here f [] i e name h = absurd (none_some e h)
from_here {V} f (x ∷ es) zero e name h = ap (λ (y : Name × V). cond (bytes_eq y.0 name) (Some (f y.1)) (instance_named (map (seen_entry f) es) name)) (some_is x e h)
from_here f (x ∷ es) (suc i) e name h = from_here f es i e name h

pub found_here : {V : Type 0} (f : V → Instance) (es : List (Name × V)) (i : ℕ) (e : Name × V) (name : Name) → slice_get es i ≡ Some e → bytes_eq e.0 name ≡ true
    → Some (f e.1) ≡ instance_named (map (seen_entry f) (drop i es)) name
found_here f es i e name h is = rw (from_here f es i e name h, is) refl

pub next_here : {V : Type 0} (f : V → Instance) (es : List (Name × V)) (i : ℕ) (e : Name × V) (name : Name) → slice_get es i ≡ Some e → bytes_eq e.0 name ≡ false
    → instance_named (map (seen_entry f) (drop (i + 1) es)) name ≡ instance_named (map (seen_entry f) (drop i es)) name
next_here f es i e name h is = rw (from_here f es i e name h, is, add-one i) refl

pub at_end : {V : Type 0} (f : V → Instance) (es : List (Name × V)) (i : ℕ) (name : Name) → length es ≤ i → instance_named (map (seen_entry f) (drop i es)) name ≡ None
at_end f es i name le = rw (drop_all i es le) refl
