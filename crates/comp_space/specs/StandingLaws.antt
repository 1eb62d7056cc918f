-- Laws of what indices stand for, also in a table that has grown.
use Rattle.std.specs.Prelude.{◌≡◌, ℕ, zero, suc, ◌<◌, Bool, true, false, ◌&&◌, List, [], ◌∷◌, ◌++◌, map, length, Some, None, Result, Ok, Err, refl}
use Rattle.std.proofs.Common.{sym, ◌∙◌, ap, subst}
use Rattle.std.proofs.lemmas.Result.{err_from_is_err_and}
use Rattle.std.specs.Prelude.{IsErrAnd, OnErr}
use Rattle.warg_values.specs.Reading.{◌>>=◌}
use Rattle.warg_values.specs.ReadingLaws.{ok_is}
use Rattle.comp_entity.specs.Entity.{Name, ValueTree, Primitive, TupleOf, RecordOf, VariantOf, ListOf, FlagsOf, EnumOf, OptionOf, ResultOf, Own, Borrow, Value, Resource, Func, Instance, Component, EntityTree, IsType, IsFunc, IsInstance, IsComponent, IsModule, IsOwnModule}
use Rattle.comp_entity.specs.Bounds.{ShapeFault, Index}
use Rattle.comp_scope.specs.Spaces.{at_index, item_or_fault, is_named}
use Rattle.comp_scope.specs.Spaces as scope
use Rattle.comp_scope.specs.Values.{as_value, as_resource}
use Rattle.comp_space.specs.declared.error.ScopeError.{ScopeError}
use Rattle.comp_space.specs.declared.error.ScopeError.TheVariants as errors
use Rattle.comp_space.specs.declared.standing.Standing.{Standing}
use Rattle.warg_values.specs.Answers.{Gives}
use Rattle.comp_space.specs.Faults.{fault_of, Fails, Found, Finds}
use Rattle.comp_space.specs.Heads.{is_value_head, has_name}
use Rattle.comp_space.specs.Standings.{Shows, Pairwise, AllShow, AreThere}
use Rattle.comp_table.specs.declared.head.Head.{Head}
use Rattle.comp_table.specs.declared.head.Head.TheVariants as head
use Rattle.comp_table.specs.Plain.{plain_value, plain_entity}
use Rattle.comp_table.specs.StandLaws.{stands_kept}
use Rattle.comp_table.specs.Trees.{PlainTree, Stands, Extends, IsBelow, tree_at, root}

abbrev failed : {A F : Type 0} → F → Result A F
failed fault = Err fault

pub same_fault : {A F : Type 0} (x y : F) → failed {A = A} x ≡ failed y → x ≡ y
same_fault x y e = cc

-- a reading that goes on
pub bind_end : {A F : Type 0} (r : Result A F) → (r >>= λ x. Ok x) ≡ r
bind_end (Ok x) = refl
bind_end (Err e) = refl

pub then_first : {A B C F : Type 0} (r : Result A F) (g : A → Result C F) (h : A → Result B F) (k : B → Result C F) → ((x : A) → g x ≡ (h x >>= k)) → (r >>= g) ≡ ((r >>= h) >>= k)
then_first (Ok x) g h k e = e x
then_first (Err f) g h k e = refl

-- a fault ends a reading
pub fails_bind : {A B : Type 0} (given : Result A ShapeFault) (next : A → Result B ShapeFault) (error : ScopeError) → Fails error given → Fails error (given >>= next)
fails_bind given next errors.Index h = ap (λ r. r >>= next) h
fails_bind given next errors.DoesNotFit h = ap (λ r. r >>= next) h
fails_bind given next errors.TooDeep h = ap (λ r. r >>= next) h
fails_bind given next errors.TooBig h = ap (λ r. r >>= next) h
fails_bind given next errors.Memory h = tt

-- the value that was found is another one
pub finds_map : {X A B : Type 0} (R : X → A → Type 0) (Q : X → B → Type 0) (next : A → B) (answer : Result X ScopeError) (given : Result A ShapeFault) → ((x : X) (a : A) → R x a → Q x (next a)) → Finds R answer given → Finds Q answer (given >>= λ a. Ok (next a))
finds_map R Q next (Ok x) given k h = record { value = next h.value; given_is = ap (λ r. r >>= λ a. Ok (next a)) h.given_is; shown = k x h.value h.shown }
finds_map R Q next (Err e) given k h = fails_bind given (λ a. Ok (next a)) e h

-- an error is handed on
pub passed_on : {X Y : Type 0} (R : X → Y → Type 0) (answer : Result X ScopeError) (error : ScopeError) (given : Result Y ShapeFault) → IsErrAnd answer (λ e. e ≡ error) → Fails error given → Finds R answer given
passed_on R answer error given gives h = let p = err_from_is_err_and answer gives in rw (p.1, p.2) h

pub passed_on_as : {X Y : Type 0} (view : X → Y) (answer : Result X ScopeError) (error : ScopeError) (given : Result Y ShapeFault) → IsErrAnd answer (λ e. e ≡ error) → Fails error given → Gives fault_of view answer given
passed_on_as view answer error given gives h = let p = err_from_is_err_and answer gives in rw (p.1, p.2) h

-- a value goes on
pub found_bind : {X A Z B : Type 0} (R : X → A → Type 0) (Q : Z → B → Type 0) (x : X) (given : Result A ShapeFault) (next : A → Result B ShapeFault) (answer : Result Z ScopeError) → (f : Found R x given) → Finds Q answer (next f.value) → Finds Q answer (given >>= next)
found_bind R Q x given next answer f h = subst (λ r. Finds Q answer (r >>= next)) (sym f.given_is) h

pub fails_same : {A B : Type 0} (f : Result A ShapeFault) (g : Result B ShapeFault) (error : ScopeError) → ((fault : ShapeFault) → f ≡ Err fault → g ≡ Err fault) → Fails error f → Fails error g
fails_same f g errors.Index k h = k _ h
fails_same f g errors.DoesNotFit k h = k _ h
fails_same f g errors.TooDeep k h = k _ h
fails_same f g errors.TooBig k h = k _ h
fails_same f g errors.Memory k h = tt

pub shows_kept : {Y : Type 0} (plain : Y → PlainTree) (ts us : List PlainTree) → Extends ts us → (x : Standing) (y : Y × Bool) → Shows plain ts x y → Shows plain us x y
shows_kept plain ts us grown x y s = record { stands = stands_kept ts us grown x.number (plain y.0) s.stands; named_is = s.named_is }

pub pairwise_kept : {X Y : Type 0} (R Q : X → Y → Type 0) → ((x : X) (y : Y) → R x y → Q x y) → (xs : List X) (ys : List Y) → Pairwise R xs ys → Pairwise Q xs ys
pairwise_kept R Q k [] [] a = tt
pairwise_kept R Q k [] (y ∷ ys) a = absurd a
pairwise_kept R Q k (x ∷ xs) [] a = absurd a
pairwise_kept R Q k (x ∷ xs) (y ∷ ys) a = (k x y a.0, pairwise_kept R Q k xs ys a.1)

pub pairwise_push : {X Y : Type 0} (R : X → Y → Type 0) (xs : List X) (ys : List Y) (x : X) (y : Y) → Pairwise R xs ys → R x y → Pairwise R (xs ++ x ∷ []) (ys ++ y ∷ [])
pairwise_push R [] [] x y a r = (r, tt)
pairwise_push R [] (w ∷ ys) x y a r = absurd a
pairwise_push R (v ∷ xs) [] x y a r = absurd a
pairwise_push R (v ∷ xs) (w ∷ ys) x y a r = (a.0, pairwise_push R xs ys x y a.1 r)

-- what stands at an index
pub pairwise_at : {X Y : Type 0} (R : X → Y → Type 0) (xs : List X) (ys : List Y) (i : ℕ) (x : X) → Pairwise R xs ys → at_index xs i ≡ Ok x → Found R x (at_index ys i)
pairwise_at R [] ys i x a e = absurd cc
pairwise_at R (w ∷ xs) [] i x a e = absurd a
pairwise_at R (w ∷ xs) (y ∷ ys) zero x a e = record { value = y; given_is = refl; shown = subst (λ v. R v y) (ok_is w x e) a.0 }
pairwise_at R (w ∷ xs) (y ∷ ys) (suc i) x a e = pairwise_at R xs ys i x a.1 e

pub pairwise_fails : {X Y : Type 0} (R : X → Y → Type 0) (xs : List X) (ys : List Y) (i : ℕ) (fault : ShapeFault) → Pairwise R xs ys → at_index xs i ≡ Err fault → at_index ys i ≡ Err fault
pairwise_fails R [] [] i fault a e = ap Err (same_fault Index fault e)
pairwise_fails R [] (y ∷ ys) i fault a e = absurd a
pairwise_fails R (x ∷ xs) [] i fault a e = absurd a
pairwise_fails R (x ∷ xs) (y ∷ ys) zero fault a e = absurd cc
pairwise_fails R (x ∷ xs) (y ∷ ys) (suc i) fault a e = pairwise_fails R xs ys i fault a.1 e

pub all_show_kept : (ts us : List PlainTree) → Extends ts us → (xs : List Standing) (es : List scope.Standing) → AllShow ts xs es → AllShow us xs es
all_show_kept ts us grown xs es a = pairwise_kept (Shows plain_entity ts) (Shows plain_entity us) (shows_kept plain_entity ts us grown) xs es a

pub all_are_there : (ts : List PlainTree) (xs : List Standing) (es : List scope.Standing) → AllShow ts xs es → AreThere ts xs
all_are_there ts [] [] a = tt
all_are_there ts [] (e ∷ es) a = absurd a
all_are_there ts (x ∷ xs) [] a = absurd a
all_are_there ts (x ∷ xs) (e ∷ es) a = (a.0.stands.there, all_are_there ts xs es a.1)

pub below_push : (k : ℕ) (ns : List ℕ) (n : ℕ) → IsBelow k ns → n < k → IsBelow k (ns ++ n ∷ [])
below_push k [] n b lt = (lt, tt)
below_push k (m ∷ ns) n b lt = (b.0, below_push k ns n b.1 lt)

-- numbers stand for something as long as the table only grows
below_longer : (k l : ℕ) (ns : List ℕ) → ((n : ℕ) → n < k → n < l) → IsBelow k ns → IsBelow l ns
below_longer k l [] more b = tt
below_longer k l (n ∷ ns) more b = (more n b.0, below_longer k l ns more b.1)

pub number_kept : (ts us : List PlainTree) → Extends ts us → (n : ℕ) → n < length ts → n < length us
number_kept ts us grown n lt = (stands_kept ts us grown n (tree_at ts n) (record { there = lt; tree_is = refl })).there

pub numbers_kept : (ts us : List PlainTree) → Extends ts us → (ns : List ℕ) → IsBelow (length ts) ns → IsBelow (length us) ns
numbers_kept ts us grown ns b = below_longer (length ts) (length us) ns (number_kept ts us grown) b

pub there_kept : (ts us : List PlainTree) → Extends ts us → (xs : List Standing) → AreThere ts xs → AreThere us xs
there_kept ts us grown xs b = below_longer (length ts) (length us) (map (λ s. s.number) xs) (number_kept ts us grown) b

pub at_found : (ts : List PlainTree) (xs : List Standing) (es : List scope.Standing) (i : ℕ) (x : Standing) → AllShow ts xs es → at_index xs i ≡ Ok x → Found (Shows plain_entity ts) x (at_index es i)
at_found ts xs es i x a e = pairwise_at (Shows plain_entity ts) xs es i x a e

pub at_fails : (ts : List PlainTree) (xs : List Standing) (es : List scope.Standing) (i : ℕ) (fault : ShapeFault) → AllShow ts xs es → at_index xs i ≡ Err fault → at_index es i ≡ Err fault
at_fails ts xs es i fault a e = pairwise_fails (Shows plain_entity ts) xs es i fault a e

there_at : (k : ℕ) (xs : List Standing) (i : ℕ) (x : Standing) → IsBelow k (map (λ s. s.number) xs) → at_index xs i ≡ Ok x → x.number < k
there_at k [] i x b e = absurd cc
there_at k (y ∷ xs) zero x b e = subst (λ (w : Standing). w.number < k) (ok_is y x e) b.0
there_at k (y ∷ xs) (suc i) x b e = there_at k xs i x b.1 e

pub number_there : (ts : List PlainTree) (xs : List Standing) (i : ℕ) (x : Standing) → AreThere ts xs → at_index xs i ≡ Ok x → x.number < length ts
number_there ts xs i x b e = there_at (length ts) xs i x b e

-- the head tells what an entity is
pub is_value_at : (t : ValueTree) → is_value_head (root (plain_value t)) ≡ true
is_value_at (Primitive p) = refl
is_value_at (TupleOf parts) = refl
is_value_at (RecordOf place fields) = refl
is_value_at (VariantOf place cases) = refl
is_value_at (ListOf t) = refl
is_value_at (FlagsOf place labels) = refl
is_value_at (EnumOf place labels) = refl
is_value_at (OptionOf t) = refl
is_value_at (ResultOf ok err) = refl
is_value_at (Own r) = refl
is_value_at (Borrow r) = refl

has_name_at : (t : ValueTree) → has_name (root (plain_value t)) ≡ is_named t
has_name_at (Primitive p) = refl
has_name_at (TupleOf parts) = refl
has_name_at (RecordOf None fields) = refl
has_name_at (RecordOf (Some n) fields) = refl
has_name_at (VariantOf None cases) = refl
has_name_at (VariantOf (Some n) cases) = refl
has_name_at (ListOf t) = refl
has_name_at (FlagsOf None labels) = refl
has_name_at (FlagsOf (Some n) labels) = refl
has_name_at (EnumOf None labels) = refl
has_name_at (EnumOf (Some n) labels) = refl
has_name_at (OptionOf t) = refl
has_name_at (ResultOf ok err) = refl
has_name_at (Own r) = refl
has_name_at (Borrow r) = refl

-- a value type is one, and nothing else is
pub value_found : (ts : List PlainTree) (n : ℕ) (b : Bool) (h : Head) (e : EntityTree) → h ≡ root (tree_at ts n) → Stands ts n (plain_entity e) → is_value_head h ≡ true → Found (Shows plain_value ts) (record { number = n; named = b && has_name h }) (as_value (e, b))
value_found ts n b h (IsType (Value t)) is s v = record {
  value = (t, b && is_named t);
  given_is = refl;
  shown = record { stands = s; named_is = ap (λ c. b && c) (ap has_name (is ∙ ap root s.tree_is) ∙ has_name_at t) };
}
value_found ts n b h (IsType (Resource r)) is s v = absurd (let no = sym v ∙ ap is_value_head (is ∙ ap root s.tree_is) in cc)
value_found ts n b h (IsType (Func f)) is s v = absurd (let no = sym v ∙ ap is_value_head (is ∙ ap root s.tree_is) in cc)
value_found ts n b h (IsType (Instance es)) is s v = absurd (let no = sym v ∙ ap is_value_head (is ∙ ap root s.tree_is) in cc)
value_found ts n b h (IsType (Component is' es)) is s v = absurd (let no = sym v ∙ ap is_value_head (is ∙ ap root s.tree_is) in cc)
value_found ts n b h (IsFunc f) is s v = absurd (let no = sym v ∙ ap is_value_head (is ∙ ap root s.tree_is) in cc)
value_found ts n b h (IsInstance es) is s v = absurd (let no = sym v ∙ ap is_value_head (is ∙ ap root s.tree_is) in cc)
value_found ts n b h (IsComponent is' es) is s v = absurd (let no = sym v ∙ ap is_value_head (is ∙ ap root s.tree_is) in cc)
value_found ts n b h (IsModule m) is s v = absurd (let no = sym v ∙ ap is_value_head (is ∙ ap root s.tree_is) in cc)
value_found ts n b h IsOwnModule is s v = absurd (let no = sym v ∙ ap is_value_head (is ∙ ap root s.tree_is) in cc)

pub no_value : (ts : List PlainTree) (n : ℕ) (b : Bool) (h : Head) (e : EntityTree) → h ≡ root (tree_at ts n) → Stands ts n (plain_entity e) → is_value_head h ≡ false → as_value (e, b) ≡ Err Index
no_value ts n b h (IsType (Value t)) is s v = absurd (let no = sym v ∙ ap is_value_head (is ∙ ap root s.tree_is) ∙ is_value_at t in cc)
no_value ts n b h (IsType (Resource r)) is s v = refl
no_value ts n b h (IsType (Func f)) is s v = refl
no_value ts n b h (IsType (Instance es)) is s v = refl
no_value ts n b h (IsType (Component is' es)) is s v = refl
no_value ts n b h (IsFunc f) is s v = refl
no_value ts n b h (IsInstance es) is s v = refl
no_value ts n b h (IsComponent is' es) is s v = refl
no_value ts n b h (IsModule m) is s v = refl
no_value ts n b h IsOwnModule is s v = refl

same_resource : (q r : Name) → head.Resource q ≡ head.Resource r → q ≡ r
same_resource q r e = cc

pub resource_found : (ts : List PlainTree) (n : ℕ) (b : Bool) (h : Head) (r : Name) (e : EntityTree) → h ≡ root (tree_at ts n) → h ≡ head.Resource r → Stands ts n (plain_entity e) → as_resource (e, b) ≡ Ok (r, b)
resource_found ts n b h r (IsType (Value t)) is s v = absurd (let no = sym (is_value_at t) ∙ ap is_value_head (sym (is ∙ ap root v.tree_is) ∙ s) in cc)
resource_found ts n b h r (IsType (Resource q)) is s v = ap (λ x. Ok (x, b)) (same_resource q r (sym (is ∙ ap root v.tree_is) ∙ s))
resource_found ts n b h r (IsType (Func f)) is s v = absurd (let no = sym (is ∙ ap root v.tree_is) ∙ s in cc)
resource_found ts n b h r (IsType (Instance es)) is s v = absurd (let no = sym (is ∙ ap root v.tree_is) ∙ s in cc)
resource_found ts n b h r (IsType (Component is' es)) is s v = absurd (let no = sym (is ∙ ap root v.tree_is) ∙ s in cc)
resource_found ts n b h r (IsFunc f) is s v = absurd (let no = sym (is ∙ ap root v.tree_is) ∙ s in cc)
resource_found ts n b h r (IsInstance es) is s v = absurd (let no = sym (is ∙ ap root v.tree_is) ∙ s in cc)
resource_found ts n b h r (IsComponent is' es) is s v = absurd (let no = sym (is ∙ ap root v.tree_is) ∙ s in cc)
resource_found ts n b h r (IsModule m) is s v = absurd (let no = sym (is ∙ ap root v.tree_is) ∙ s in cc)
resource_found ts n b h r IsOwnModule is s v = absurd (let no = sym (is ∙ ap root v.tree_is) ∙ s in cc)

pub on_err_always : {T E P : Type 0} (r : Result T E) → P → OnErr r P
on_err_always (Ok x) p = tt
on_err_always (Err e) p = p
