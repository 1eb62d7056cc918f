-- Where all that an entity mentions is known, or brought by itself, something is written for it.
use Rattle.std.proofs.Common.{◌≡◌, ◌<◌, ◌||◌, ◌&&◌, ◌-◌, ℕ, Bool, true, false, List, [], ◌∷◌, ◌++◌, Option, Some, None, length, refl, sym, ap, ◌∙◌, arith}
use Rattle.std.specs.Prelude.{flat_map, option_map, option_and_then, is_some, nat_lt, if◌then◌else◌}
use Rattle.std.proofs.lemmas.Bool.{le-ltb}
use Rattle.std.proofs.lemmas.Grind.{flat_map-append}
use Rattle.std.proofs.lemmas.List.{append-nil}
use Rattle.std.proofs.lemmas.Option.{option_and_then_some}
use Rattle.comp_format.specs.declared.types.TypeRef.{TypeRef}
use Rattle.comp_format.specs.declared.types.TypeRef.TheVariants as description
use Rattle.comp_format.specs.CoreTypes as core
use Rattle.comp_format.specs.Definitions as tree
use Rattle.comp_format.specs.Definitions.{TypeTree, DeclTree, Decls}
use Rattle.comp_entity.specs.Entity.{Name, ValueTree, FuncTree, TypeShapeTree, Value, Resource, Func, Instance, Component, EntityTree, IsType, IsFunc, IsInstance, IsComponent, IsModule, IsOwnModule, Entries, no_entry, entry}
use Rattle.comp_entity.specs.Names.{Mention, OfResource, OfPlace, in_value, in_func}
use Rattle.comp_entity.specs.Fits.{place_of}
use Rattle.comp_entity.specs.Places.{Path, leaves_of, leaves_in, names_itself, named_value}
use Rattle.compose_writing.specs.Keys.{InInstance, KnownThings, name_outside, mention_outside, holds_there, from_within}
use Rattle.compose_writing.specs.Scopes.{WrittenScope, opened, Wrote, wrote_as, declared, add_core_type, on_top, closed, knows, type_index}
use Rattle.compose_writing.specs.WriteModules.{write_module}
use Rattle.compose_writing.specs.WriteValues.{write_defined, write_func, write_own}
use Rattle.compose_writing.specs.WriteEntities.{counted, leaf_known, note_all, note_here, noted, with_named, then_decls, write_resource, write_place, write_named, write_entity, write_type, write_entries, write_instance, write_component}
use Rattle.compose_writing.specs.Conditions.{KeepsForm, KeepsType, KeepsEntries, with_these, all_known, unnamed, if_all, if_scope, known_behind, type_known_behind, entries_known_behind, is_known, are_known, sides_known}
use Rattle.compose_writing.proofs.ValueLaws.{both, name_of, names_of, known_by, knows_is, Writes, writes_as, writes_top, writes_type, index_writes, defined_type, defined_writes, func_writes}
use Rattle.compose_writing.proofs.KnownLaws.{never, tail_of, Covers, Noted, noted_less, all_noted, all_here}

-- ---- what is known behind an entity

abbrev some_or : {A : Type 0} → A → Option A → A
some_or d None = d
some_or d (Some x) = x

some_is : {A : Type 0} (x y : A) → Some x ≡ Some y → x ≡ y
some_is x y h = ap (some_or x) h

all_of : (known : Mention → Bool) (xs : List (ℕ × Mention)) (f next : Mention → Bool) → if_all known xs f ≡ Some next → (all_known known xs ≡ true) × (f ≡ next)
all_of known xs f next h = by (all_known known xs) refl h
  where
    by : (b : Bool) → all_known known xs ≡ b → (if b then Some f else None) ≡ Some next → (all_known known xs ≡ true) × (f ≡ next)
    by true e h = (e, some_is f next h)
    by false e h = absurd cc

scope_of : (known next : Mention → Bool) (within : Option (Mention → Bool)) → if_scope known within ≡ Some next → (inner : Mention → Bool) × (within ≡ Some inner) × (known ≡ next)
scope_of known next None h = absurd cc
scope_of known next (Some inner) h = (inner, refl, some_is known next h)

both_are : (a b : Bool) → a ≡ true → b ≡ true → a && b ≡ true
both_are a b h k = ap (λ x. x && b) h ∙ k

covered : (known : Mention → Bool) (ns : List (ℕ × KnownThings)) (xs : List (ℕ × Mention)) → Covers known ns → all_known known xs ≡ true → all_known (known_by ns) xs ≡ true
covered known ns [] covers h = refl
covered known ns (x ∷ xs) covers h =
    let h = both (known x.1) (all_known known xs) h in
    both_are (known_by ns x.1) (all_known (known_by ns) xs) (covers x.1 h.0) (covered known ns xs covers h.1)

either_none : (a : Bool) → a ≡ true → a || false ≡ true
either_none a h = ap (λ a. a || false) h

-- What is known behind a type is known before it, or the type brings it.
same_known : (known next : Mention → Bool) → known ≡ next → (key : Mention) → next key ≡ true → with_these known [] key ≡ true
same_known known next is key h = either_none (known key) (ap (λ f. f key) is ∙ h)

type_brings : (t : TypeShapeTree) (known next : Mention → Bool) → type_known_behind known t ≡ Some next → (key : Mention) → next key ≡ true → with_these known (names_itself (IsType t)) key ≡ true
type_brings (Value t) known next h key k = ap (λ f. f key) (all_of known (in_value 0 (unnamed t)) (with_these known (named_value (place_of t))) next h).1 ∙ k
type_brings (Resource r) known next h key k = ap (λ f. f key) (some_is (with_these known (OfResource r ∷ [])) next h) ∙ k
type_brings (Func f) known next h key k = same_known known next (all_of known (in_func 0 f) known next h).1 key k
type_brings (Instance es) known next h key k = same_known known next (scope_of known next (entries_known_behind (from_within 1 known) es) h).2 key k
type_brings (Component is es) known next h key k =
    same_known known next (scope_of known next (option_and_then (λ next. entries_known_behind next es) (entries_known_behind (from_within 2 known) is)) h).2 key k

-- ---- what is noted at the leaves of an instance

note_both : (xs ys : KnownThings) (ms : List WrittenScope) → note_all (xs ++ ys) ms ≡ note_all ys (note_all xs ms)
unfolding note_all
note_both [] ys ms = refl
note_both (x ∷ xs) ys ms = note_both xs ys _

-- what an entity that is no instance brings
leaf_noted : (e : EntityTree) (path : Path) (index : ℕ) (known next : Mention → Bool) (ns : List (ℕ × KnownThings)) (ms : List WrittenScope)
    → ((key : Mention) → next key ≡ true → with_these known (names_itself e) key ≡ true) → Noted known ns ms → Noted next ns (note_all (leaf_known index (path, e) ++ []) ms)
leaf_noted e path index known next ns ms brings n =
    rw (append-nil (leaf_known index (path, e)))
    (noted_less (with_these known (names_itself e)) next ns (note_all (leaf_known index (path, e)) ms) brings (all_noted (names_itself e) known ns (InInstance index path) ms n))

mutual
  unfolding note_all

  leaves_noted : (e : EntityTree) (path : Path) (index : ℕ) (known next : Mention → Bool) (ns : List (ℕ × KnownThings)) (ms : List WrittenScope) → known_behind known e ≡ Some next → Noted known ns ms
      → Noted next ns (note_all (flat_map (leaf_known index) (leaves_of path e)) ms)
  leaves_noted (IsType t) path index known next ns ms h n = leaf_noted (IsType t) path index known next ns ms (type_brings t known next h) n
  leaves_noted (IsFunc f) path index known next ns ms h n = leaf_noted (IsFunc f) path index known next ns ms (same_known known next (all_of known (in_func 0 f) known next h).1) n
  leaves_noted (IsInstance es) path index known next ns ms h n = inner_noted es path index known next ns ms h n
  leaves_noted (IsComponent is es) path index known next ns ms h n =
      leaf_noted (IsComponent is es) path index known next ns ms (same_known known next (scope_of known next (option_and_then (λ next. entries_known_behind next es) (entries_known_behind (from_within 2 known) is)) h).2) n
  leaves_noted (IsModule m) path index known next ns ms h n = leaf_noted (IsModule m) path index known next ns ms (same_known known next (some_is known next h)) n
  leaves_noted IsOwnModule path index known next ns ms h n = absurd cc

  inner_noted : (es : Entries) (path : Path) (index : ℕ) (known next : Mention → Bool) (ns : List (ℕ × KnownThings)) (ms : List WrittenScope) → entries_known_behind known es ≡ Some next → Noted known ns ms
      → Noted next ns (note_all (flat_map (leaf_known index) (leaves_in path es)) ms)
  inner_noted no_entry path index known next ns ms h n = noted_less known next ns ms (λ key k. ap (λ f. f key) (some_is known next h) ∙ k) n
  inner_noted (entry name e mark es) path index known next ns ms h n =
      option_and_then_some (λ next. entries_known_behind next es) (known_behind known e) next h (λ behind is later.
      let own = flat_map (leaf_known index) (leaves_of (path ++ name ∷ []) e) in
      let rest = flat_map (leaf_known index) (leaves_in path es) in
      rw (flat_map-append (leaf_known index) (leaves_of (path ++ name ∷ []) e) (leaves_in path es), note_both own rest ms)
      (inner_noted es path index behind next ns (note_all own ms) later (leaves_noted e (path ++ name ∷ []) index known behind ns ms is n)))

-- ---- an import or export that is declared and noted

counted_names : (ty : TypeRef) (m : WrittenScope) → name_of (counted ty m) ≡ name_of m
counted_names (description.Module i) m = refl
counted_names (description.Func i) m = refl
counted_names (description.TyEqual i) m = refl
counted_names description.TyFresh m = refl
counted_names (description.Component i) m = refl
counted_names (description.Instance i) m = refl

module _ (item : List ℕ → TypeRef → DeclTree) (name : List ℕ) (ty : TypeRef) where
  here_noted : (e : EntityTree) (index : ℕ) (known next : Mention → Bool) (ns : List (ℕ × KnownThings)) (ms : List WrittenScope)
      → ((key : Mention) → next key ≡ true → with_these known (names_itself e) key ≡ true) → Noted known ns ms → Noted next ns (note_here (names_itself e) index ms)
  here_noted e index known next ns ms brings n =
      noted_less (with_these known (names_itself e)) next ns (note_here (names_itself e) index ms) brings (all_here (names_itself e) known ns index ms n)

  entity_noted : (e : EntityTree) (m : WrittenScope) (known next : Mention → Bool) (ns : List (ℕ × KnownThings)) (ms : List WrittenScope) → known_behind known e ≡ Some next → Noted known ns ms → Noted next ns (noted e m ms)
  entity_noted (IsType t) m known next ns ms h n = here_noted (IsType t) m.types known next ns ms (type_brings t known next h) n
  entity_noted (IsFunc f) m known next ns ms h n = here_noted (IsFunc f) m.types known next ns ms (same_known known next (all_of known (in_func 0 f) known next h).1) n
  entity_noted (IsInstance es) m known next ns ms h n = inner_noted es [] m.instances known next ns ms h n
  entity_noted (IsComponent is es) m known next ns ms h n =
      here_noted (IsComponent is es) m.types known next ns ms (same_known known next (scope_of known next (option_and_then (λ next. entries_known_behind next es) (entries_known_behind (from_within 2 known) is)) h).2) n
  entity_noted (IsModule x) m known next ns ms h n = here_noted (IsModule x) m.types known next ns ms (same_known known next (some_is known next h)) n
  entity_noted IsOwnModule m known next ns ms h n = absurd cc

  named_noted : (e : EntityTree) (known next : Mention → Bool) (ns : List (ℕ × KnownThings)) (ms : List WrittenScope) → known_behind known e ≡ Some next → Noted known ns ms → Noted next ns (with_named item name e ty ms)
  unfolding with_named
  named_noted e known next ns [] h n = never n.top ns n.names
  named_noted e known next ns (m ∷ ms) h n =
      entity_noted e m known next ns (counted ty (declared (item name ty) m) ∷ ms) h
      (record { top = n.top; names = ap (λ x. x ∷ names_of ms) (counted_names ty (declared (item name ty) m)) ∙ n.names; covers = n.covers })

-- ---- scopes that open and close

within_covers : (width : ℕ) (known : Mention → Bool) (ns : List (ℕ × KnownThings)) → Covers known ns → Covers (from_within width known) ((width, []) ∷ ns)
within_covers width known ns covers key h = outside (mention_outside width key) h
  where
    outside : (o : Option Mention) → holds_there known o ≡ true → holds_there (known_by ns) o ≡ true
    outside None h = absurd cc
    outside (Some k) h = covers k h

name_itself : (n : Name) → name_outside 0 n ≡ Some n
name_itself n =
    let not_below : nat_lt n.out 0 ≡ false = le-ltb n.out 0 (omega arith) in
    let same : n.out - 0 ≡ n.out = omega arith in
    ap (λ b. if b then None else Some (record { out = n.out - 0; number = n.number })) not_below ∙ ap (λ out. Some (record { out = out; number = n.number })) same

itself_outside : (key : Mention) → mention_outside 0 key ≡ Some key
itself_outside (OfResource n) = ap (option_map OfResource) (name_itself n)
itself_outside (OfPlace n) = ap (option_map OfPlace) (name_itself n)

instance_covers : (known : Mention → Bool) (ns : List (ℕ × KnownThings)) → Covers known ns → Covers known ((0, []) ∷ ns)
instance_covers known ns covers key h = ap (holds_there (known_by ns)) (itself_outside key) ∙ covers key h

-- Some scopes are written, around which are the others as they were, and this is known in them.
pub record Enters (known : Mention → Bool) (ns : List (ℕ × KnownThings)) (w : Option (List WrittenScope)) : Type 0 where
  pub given : List WrittenScope
  pub is : w ≡ Some given
  pub noted : Noted known ns given

closes : (known : Mention → Bool) (ns : List (ℕ × KnownThings)) (w : Option (List WrittenScope)) → Enters known ns w → Writes ns (option_and_then closed w)
unfolding closed
closes known ns w h = ends h.given h.is h.noted
  where
    ends : (ms : List WrittenScope) → w ≡ Some ms → Noted known ns ms → Writes ns (option_and_then closed w)
    ends [] is n = never n.top ns n.names
    ends (m ∷ ms) is n = record { given = (ms, m.decls); is = ap (option_and_then closed) is; names = ap tail_of n.names }

then_scope : (type_of : Decls → TypeTree) (known : Mention → Bool) (n : ℕ × KnownThings) (ns : List (ℕ × KnownThings)) (w : Option (List WrittenScope)) → Enters known (n ∷ ns) w → Writes (n ∷ ns) (then_decls type_of w)
then_scope type_of known n ns w h =
    writes_type n ns (wrote_as type_of (option_and_then closed w)) (writes_as type_of (n ∷ ns) (option_and_then closed w) (closes known (n ∷ ns) w h))

-- exports behind imports
sides_write : (is es : Entries) (known next : Mention → Bool) (ns : List (ℕ × KnownThings)) (ms : List WrittenScope) → option_and_then (λ next. entries_known_behind next es) (entries_known_behind known is) ≡ Some next
    → ((mid : Mention → Bool) → entries_known_behind known is ≡ Some mid → Enters mid ns (write_entries tree.Import is ms))
    → ((mid : Mention → Bool) (ms : List WrittenScope) → Noted mid ns ms → entries_known_behind mid es ≡ Some next → Enters next ns (write_entries tree.Export es ms))
    → Enters next ns (option_and_then (write_entries tree.Export es) (write_entries tree.Import is ms))
sides_write is es known next ns ms h imports exports =
    option_and_then_some (λ next. entries_known_behind next es) (entries_known_behind known is) next h (λ mid first later.
    let inner = imports mid first in
    let outer = exports mid inner.given inner.noted later in
    record { given = outer.given; is = ap (option_and_then (write_entries tree.Export es)) inner.is ∙ outer.is; noted = outer.noted })

instance_noted : (known : Mention → Bool) (ns : List (ℕ × KnownThings)) (ms : List WrittenScope) → names_of ms ≡ ns → Covers known ns → Noted known ns (opened 0 ∷ ms)
instance_noted known ns ms is covers = record { top = (0, []); names = ap (λ ns. (0, []) ∷ ns) is; covers = instance_covers known ns covers }

component_noted : (known : Mention → Bool) (ns : List (ℕ × KnownThings)) (ms : List WrittenScope) → names_of ms ≡ ns → Covers known ns → Noted (from_within 2 known) ns (opened 2 ∷ ms)
component_noted known ns ms is covers = record { top = (2, []); names = ap (λ ns. (2, []) ∷ ns) is; covers = within_covers 2 known ns covers }

-- ---- entities

module _ (known : Mention → Bool) (n : ℕ × KnownThings) (ns : List (ℕ × KnownThings)) (ms : List WrittenScope) (is : names_of ms ≡ n ∷ ns) (covers : Covers known (n ∷ ns)) where
  own_writes : (t : ValueTree) → all_known known (in_value 0 (unnamed t)) ≡ true → KeepsType (Value t) → Writes (n ∷ ns) (write_own t ms)
  own_writes t h k = defined_type n ns (write_defined t ms) (defined_writes n ns t ms is (covered known (n ∷ ns) (in_value 0 (unnamed t)) covers h) k)

  known_writes : (key : Mention) → knows ms key ≡ true → Writes (n ∷ ns) (type_index key ms)
  known_writes key h = index_writes n ns key ms is (sym (knows_is ms key ∙ ap (λ ns. known_by ns key) is) ∙ h)

  named_writes : (p : Option Name) (t : ValueTree) → all_known known (in_value 0 (unnamed t)) ≡ true → KeepsType (Value t) → Writes (n ∷ ns) (write_named p t ms)
  named_writes None t h k = own_writes t h k
  named_writes (Some p) t h k = place_writes (knows ms (OfPlace p)) refl
    where
      place_writes : (b : Bool) → knows ms (OfPlace p) ≡ b → Writes (n ∷ ns) (write_place p b t ms)
      place_writes true e = known_writes (OfPlace p) e
      place_writes false e = own_writes t h k

  resource_writes : (r : Name) (b : Bool) → knows ms (OfResource r) ≡ b → Writes (n ∷ ns) (write_resource r b ms)
  resource_writes r true e = writes_as description.TyEqual (n ∷ ns) (type_index (OfResource r) ms) (known_writes (OfResource r) e)
  resource_writes r false e = record { given = (ms, description.TyFresh); is = refl; names = is }

  value_writes : (f : FuncTree) (next : Mention → Bool) → if_all known (in_func 0 f) known ≡ Some next → KeepsType (Func f) → Writes (n ∷ ns) (write_func f ms)
  value_writes f next h k = func_writes n ns f ms is (covered known (n ∷ ns) (in_func 0 f) covers (all_of known (in_func 0 f) known next h).0) k

mutual
  unfolding write_entity

  pub entity_writes : (e : EntityTree) (known next : Mention → Bool) (n : ℕ × KnownThings) (ns : List (ℕ × KnownThings)) (ms : List WrittenScope) → names_of ms ≡ n ∷ ns → Covers known (n ∷ ns) → known_behind known e ≡ Some next → KeepsForm e → Writes (n ∷ ns) (write_entity e ms)
  entity_writes (IsType t) known next n ns ms is covers h k = type_writes t known next n ns ms is covers h k
  entity_writes (IsFunc f) known next n ns ms is covers h k = writes_as description.Func (n ∷ ns) (write_func f ms) (value_writes known n ns ms is covers f next h k)
  entity_writes (IsInstance es) known next n ns ms is covers h k =
      writes_as description.Instance (n ∷ ns) (then_decls tree.Instance (write_entries tree.Export es (opened 0 ∷ ms)))
      (then_scope tree.Instance next n ns (write_entries tree.Export es (opened 0 ∷ ms))
      (entries_write es tree.Export known next (n ∷ ns) (opened 0 ∷ ms) (instance_noted known (n ∷ ns) ms is covers) h k))
  entity_writes (IsComponent is es) known next n ns ms at covers h k =
      let inner = scope_of known next (option_and_then (λ next. entries_known_behind next es) (entries_known_behind (from_within 2 known) is)) h in
      writes_as description.Component (n ∷ ns) (then_decls tree.Component (option_and_then (write_entries tree.Export es) (write_entries tree.Import is (opened 2 ∷ ms))))
      (then_scope tree.Component inner.0 n ns (option_and_then (write_entries tree.Export es) (write_entries tree.Import is (opened 2 ∷ ms)))
      (sides_write is es (from_within 2 known) inner.0 (n ∷ ns) (opened 2 ∷ ms) inner.1
      (λ mid first. entries_write is tree.Import (from_within 2 known) mid (n ∷ ns) (opened 2 ∷ ms) (component_noted known (n ∷ ns) ms at covers) first k.0)
      (λ mid ms around later. entries_write es tree.Export mid inner.0 (n ∷ ns) ms around later k.1)))
  entity_writes (IsModule m) known next n ns ms is covers h k =
      writes_as description.Module (n ∷ ns) (on_top (add_core_type (core.Module (write_module m))) ms) (writes_top (add_core_type (core.Module (write_module m))) n ns ms (λ m. refl) is)
  entity_writes IsOwnModule known next n ns ms is covers h k = absurd k

  type_writes : (t : TypeShapeTree) (known next : Mention → Bool) (n : ℕ × KnownThings) (ns : List (ℕ × KnownThings)) (ms : List WrittenScope) → names_of ms ≡ n ∷ ns → Covers known (n ∷ ns) → type_known_behind known t ≡ Some next → KeepsType t → Writes (n ∷ ns) (write_type t ms)
  type_writes (Value t) known next n ns ms is covers h k =
      writes_as description.TyEqual (n ∷ ns) (write_named (place_of t) t ms)
      (named_writes known n ns ms is covers (place_of t) t (all_of known (in_value 0 (unnamed t)) (with_these known (named_value (place_of t))) next h).0 k)
  type_writes (Resource r) known next n ns ms is covers h k = resource_writes known n ns ms is covers r (knows ms (OfResource r)) refl
  type_writes (Func f) known next n ns ms is covers h k = writes_as description.TyEqual (n ∷ ns) (write_func f ms) (value_writes known n ns ms is covers f next h k)
  type_writes (Instance es) known next n ns ms is covers h k =
      let inner = scope_of known next (entries_known_behind (from_within 1 known) es) h in
      writes_as description.TyEqual (n ∷ ns) (then_decls tree.Instance (write_entries tree.Export es (opened 1 ∷ ms)))
      (then_scope tree.Instance inner.0 n ns (write_entries tree.Export es (opened 1 ∷ ms))
      (entries_write es tree.Export (from_within 1 known) inner.0 (n ∷ ns) (opened 1 ∷ ms) (record { top = (1, []); names = ap (λ ns. (1, []) ∷ ns) is; covers = within_covers 1 known (n ∷ ns) covers }) inner.1 k))
  type_writes (Component is es) known next n ns ms at covers h k =
      let inner = scope_of known next (option_and_then (λ next. entries_known_behind next es) (entries_known_behind (from_within 2 known) is)) h in
      writes_as description.TyEqual (n ∷ ns) (then_decls tree.Component (option_and_then (write_entries tree.Export es) (write_entries tree.Import is (opened 2 ∷ ms))))
      (then_scope tree.Component inner.0 n ns (option_and_then (write_entries tree.Export es) (write_entries tree.Import is (opened 2 ∷ ms)))
      (sides_write is es (from_within 2 known) inner.0 (n ∷ ns) (opened 2 ∷ ms) inner.1
      (λ mid first. entries_write is tree.Import (from_within 2 known) mid (n ∷ ns) (opened 2 ∷ ms) (component_noted known (n ∷ ns) ms at covers) first k.0)
      (λ mid ms around later. entries_write es tree.Export mid inner.0 (n ∷ ns) ms around later k.1)))

  pub entries_write : (es : Entries) (item : List ℕ → TypeRef → DeclTree) (known next : Mention → Bool) (ns : List (ℕ × KnownThings)) (ms : List WrittenScope) → Noted known ns ms → entries_known_behind known es ≡ Some next → KeepsEntries es → Enters next ns (write_entries item es ms)
  entries_write no_entry item known next ns ms around h k =
      record { given = ms; is = refl; noted = noted_less known next ns ms (λ key l. ap (λ f. f key) (some_is known next h) ∙ l) around }
  entries_write (entry name e mark es) item known next ns ms around h k =
      option_and_then_some (λ next. entries_known_behind next es) (known_behind known e) next h (λ mid first later.
      let w = entity_writes e known mid around.top ns ms around.names around.covers first k.1 in
      let named = named_noted item name w.given.1 e known mid ns w.given.0 first (record { top = around.top; names = w.names; covers = around.covers }) in
      let rest = entries_write es item mid next ns (with_named item name e w.given.1 w.given.0) named later k.2 in
      record { given = rest.given; is = ap (option_and_then (λ x. write_entries item es (with_named item name e x.1 x.0))) w.is ∙ rest.is; noted = rest.noted })

-- ---- from the scopes themselves

there_is : {X : Type 0} (ns : List (ℕ × KnownThings)) (w : Wrote X) → Writes ns w → (x : List WrittenScope × X) × (w ≡ Some x)
there_is ns w h = (h.given, h.is)

known_here : (ms : List WrittenScope) → Covers (knows ms) (names_of ms)
known_here ms key h = sym (knows_is ms key) ∙ h

some_of : (o : Option (Mention → Bool)) → is_some o ≡ true → (next : Mention → Bool) × (o ≡ Some next)
some_of None h = absurd cc
some_of (Some next) h = (next, refl)

pub entity_possible : (e : EntityTree) (ms : List WrittenScope) → 0 < length ms → is_known (knows ms) e ≡ true → KeepsForm e → (x : List WrittenScope × TypeRef) × (write_entity e ms ≡ Some x)
entity_possible e [] there h k = absurd (omega (arith, there))
entity_possible e (m ∷ ms) there h k =
    let next = some_of (known_behind (knows (m ∷ ms)) e) h in
    there_is (names_of (m ∷ ms)) (write_entity e (m ∷ ms)) (entity_writes e (knows (m ∷ ms)) next.0 (name_of m) (names_of ms) (m ∷ ms) refl (known_here (m ∷ ms)) next.1 k)

pub instance_possible : (es : Entries) (ms : List WrittenScope) → are_known (knows ms) es ≡ true → KeepsEntries es → (x : List WrittenScope × Decls) × (write_instance es ms ≡ Some x)
instance_possible es ms h k =
    let next = some_of (entries_known_behind (knows ms) es) h in
    let ns = names_of ms in
    there_is ns (write_instance es ms) (closes next.0 ns (write_entries tree.Export es (opened 0 ∷ ms))
    (entries_write es tree.Export (knows ms) next.0 ns (opened 0 ∷ ms) (instance_noted (knows ms) ns ms refl (known_here ms)) next.1 k))

pub component_possible : (is es : Entries) (ms : List WrittenScope) → sides_known (knows ms) is es ≡ true → KeepsEntries is → KeepsEntries es → (x : List WrittenScope × Decls) × (write_component is es ms ≡ Some x)
component_possible is es ms h k l =
    let next = some_of (option_and_then (λ next. entries_known_behind next es) (entries_known_behind (from_within 2 (knows ms)) is)) h in
    let ns = names_of ms in
    there_is ns (write_component is es ms) (closes next.0 ns (option_and_then (write_entries tree.Export es) (write_entries tree.Import is (opened 2 ∷ ms)))
    (sides_write is es (from_within 2 (knows ms)) next.0 ns (opened 2 ∷ ms) next.1
    (λ mid first. entries_write is tree.Import (from_within 2 (knows ms)) mid ns (opened 2 ∷ ms) (component_noted (knows ms) ns ms refl (known_here ms)) first k)
    (λ mid ms around later. entries_write es tree.Export mid next.0 ns ms around later l)))
