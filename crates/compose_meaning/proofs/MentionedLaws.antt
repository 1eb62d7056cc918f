-- An entity that mentions what is known, and what it brings, mentions nothing that is new behind it.
use Rattle.std.proofs.Common.{◌≡◌, ◌⊎◌, inl, inr, ℕ, suc, ◌+◌, ◌-◌, Bool, true, false, cond, ◌&&◌, List, [], ◌∷◌, ◌++◌, Option, Some, None, refl, sym, ap, subst, ◌∙◌, arith}
use Rattle.std.specs.Prelude.{nat_le, nat_lt, option_map, option_and_then, ◌==◌}
use Rattle.std.specs.List.{list_any}
use Rattle.std.proofs.lemmas.Option.{option_and_then_some, same_Some}
use Rattle.comp_entity.specs.Entity.{Name, made, ValueTree, Primitive, TupleOf, RecordOf, VariantOf, ListOf, FlagsOf, EnumOf, OptionOf, ResultOf, Own, Borrow, Value, Resource, Func, Instance, Component, EntityTree, IsType, IsFunc, IsInstance, IsComponent, IsModule, IsOwnModule, Entries, no_entry, entry}
use Rattle.comp_entity.specs.Names.{deeper, outside, Mention, OfResource, OfPlace, at_place, in_value, in_cases, in_func, in_entity, in_entries}
use Rattle.comp_entity.specs.Fits.{place_of}
use Rattle.comp_entity.specs.Places.{same_mention, named_value}
use Rattle.compose_writing.specs.Keys.{holds_there, from_within}
use Rattle.compose_writing.specs.Conditions.{with_these, all_known, unnamed, if_all, if_scope, known_behind, entries_known_behind}
use Rattle.compose_meaning.specs.Meaning.{Meaning}
use Rattle.compose_meaning.specs.Readable.{SpotKind, Importing, Exporting, new_name, Spot, is_new, within, in_instance_type, in_component_type, first_spot, exports_spot, brought_keys, keys_among, behind, behind_all, HasMeaning, HaveMeaning}
use Rattle.compose_meaning.proofs.ListLaws.{Each, each_both, each_then, or_left, or_right, or_none, and_left, and_right}
use Rattle.compose_meaning.proofs.NoteLaws.{mention_is}
use Rattle.compose_meaning.proofs.OlderLaws.{either_known}
use Rattle.compose_meaning.proofs.ApartLaws.{known_behind as all_known_behind, no_resource, or_false}
use Rattle.compose_meaning.proofs.ShiftLaws.{value_shift, func_shift, entries_shift}

-- a resource that is mentioned so deep is of a scope within, or known
abbrev pub KnownAt : (Mention → Bool) → ℕ × Mention → Type 0
KnownAt known (d, OfResource r) = (nat_lt r.out d ≡ true) ⊎ (known (OfResource (record { out = r.out - d; number = r.number })) ≡ true)
KnownAt known (d, OfPlace n) = Unit {0}

-- ---- mentions of values and functions

all_each : (known : Mention → Bool) (ms : List (ℕ × Mention)) → all_known known ms ≡ true → Each (λ m. known m.1 ≡ true) ms
all_each known [] h = tt
all_each known (m ∷ ms) h = (and_left (known m.1) (all_known known ms) h, all_each known ms (and_right (known m.1) (all_known known ms) h))

known_here : (known : Mention → Bool) (m : Mention) → known m ≡ true → KnownAt known (0, m)
known_here known (OfResource r) h = let back : r.out - 0 ≡ r.out = omega arith in inr (ap (λ o. known (OfResource (record { out = o; number = r.number }))) back ∙ h)
known_here known (OfPlace n) h = tt

func_known : (known : Mention → Bool) (f : _) → all_known known (in_func 0 f) ≡ true → Each (KnownAt known) (in_func 0 f)
func_known known f h = func_shift 0 0 (λ m. known m.1 ≡ true) (KnownAt known) (known_here known) f (all_each known (in_func 0 f) h)

place_known : (known : Mention → Bool) (p : Option Name) → Each (KnownAt known) (at_place 0 p)
place_known known None = tt
place_known known (Some n) = (tt, tt)

value_known : (known : Mention → Bool) (t : ValueTree) → all_known known (in_value 0 (unnamed t)) ≡ true → Each (KnownAt known) (in_value 0 t)
value_known known t h = named t (value_shift 0 0 (λ m. known m.1 ≡ true) (KnownAt known) (known_here known) (unnamed t) (all_each known (in_value 0 (unnamed t)) h))
  where
    named : (t : ValueTree) → Each (KnownAt known) (in_value 0 (unnamed t)) → Each (KnownAt known) (in_value 0 t)
    named (Primitive p) h = h
    named (TupleOf parts) h = h
    named (RecordOf p fields) h = each_both (KnownAt known) (at_place 0 p) (in_cases 0 fields) (place_known known p) h
    named (VariantOf p cases) h = each_both (KnownAt known) (at_place 0 p) (in_cases 0 cases) (place_known known p) h
    named (ListOf t) h = h
    named (FlagsOf p labels) h = place_known known p
    named (EnumOf p labels) h = place_known known p
    named (OptionOf t) h = h
    named (ResultOf ok err) h = h
    named (Own r) h = h
    named (Borrow r) h = h

-- ---- more is known

more_known : (known later : Mention → Bool) → ((key : Mention) → known key ≡ true → later key ≡ true) → (m : ℕ × Mention) → KnownAt known m → KnownAt later m
more_known known later f (d, OfResource r) (inl h) = inl h
more_known known later f (d, OfResource r) (inr h) = inr (f _ h)
more_known known later f (d, OfPlace n) h = tt

none_more : (known : Mention → Bool) → known ≡ with_these known []
none_more known = λ i key. or_none (known key) i

-- ---- no resource of a scope around is brought

abbrev OwnOr : ℕ → (Mention → Bool) → (Mention → Bool) → Type 0
OwnOr w around known = (x : Name) → known (OfResource x) ≡ true → (nat_lt x.out w ≡ true) ⊎ (from_within w around (OfResource x) ≡ true)

-- what is new is of the scope itself
abbrev MeansOwn : ℕ → Meaning → SpotKind → Type 0
MeansOwn w mean side = (r : Name) (n : ℕ) → mean.resource r ≡ new_name side n → nat_lt r.out w ≡ true

out_of : (side : SpotKind) (n : ℕ) → (new_name side n).out ≡ (new_name side 0).out
out_of Importing n = refl
out_of Exporting n = refl

new_named : (side : SpotKind) (x : Name) → (x.out == (new_name side 0).out) ≡ true → x ≡ new_name side x.number
new_named Importing x h = let out : x.out ≡ 1 = grind (arith, h) in λ i. record { out = out i; number = x.number }
new_named Exporting x h = let out : x.out ≡ 0 = grind (arith, h) in λ i. record { out = out i; number = x.number }

own_within : (w : ℕ) (mean : Meaning) (p : Spot) → MeansOwn w mean p.side → MeansOwn w (within p mean) Exporting
own_within w mean p own r n same = one (is_new p x) refl same
  where
    x : Name
    x = mean.resource r

    one : (b : Bool) → is_new p x ≡ b → cond b (made (x.number - p.resources)) (deeper 1 x) ≡ made n → nat_lt r.out w ≡ true
    one true is same = own r x.number (new_named p.side x (and_left (x.out == (new_name p.side 0).out) (nat_le p.resources x.number) is))
    one false is same = let zero : x.out + 1 ≡ 0 = ap (λ (y : Name). y.out) same in absurd (grind (arith, zero))

own_scope : (w : ℕ) (mean : Name → Name) (side : SpotKind) → nat_lt (new_name side 0).out w ≡ true → (r : Name) (n : ℕ) → outside mean w r ≡ new_name side n → nat_lt r.out w ≡ true
own_scope w mean side less r n same = one (nat_lt r.out w) refl same
  where
    one : (b : Bool) → nat_lt r.out w ≡ b → cond b r (deeper w (mean (record r { out = r.out - w }))) ≡ new_name side n → nat_lt r.out w ≡ true
    one true is same = is
    one false is same =
        let m : Name = mean (record r { out = r.out - w }) in
        let out : m.out + w ≡ (new_name side 0).out = ap (λ (y : Name). y.out) same ∙ out_of side n in
        absurd (grind (arith, out, less))

no_keys : (w : ℕ) (around : Mention → Bool) (mean : Meaning) (p : Spot) (name : List ℕ) (e : EntityTree) → ((r : Name) → list_any (λ k. same_mention k (OfResource r)) (brought_keys e) ≡ false) → OwnOr w around p.known → OwnOr w around (behind mean p name e).known
no_keys w around mean p name e none own x h = own x (or_false (p.known (OfResource x)) (list_any (λ k. same_mention k (OfResource x)) (brought_keys e)) (none x) h)

fresh_own : (w : ℕ) (around : Mention → Bool) (mean : Meaning) (p : Spot) (r x : Name) → MeansOwn w mean p.side → (p.known (OfResource r) ≡ false → mean.resource r ≡ new_name p.side p.resources) → OwnOr w around p.known → same_mention (OfResource r) (OfResource x) ≡ true
    → (b : Bool) → p.known (OfResource r) ≡ b → (nat_lt x.out w ≡ true) ⊎ (from_within w around (OfResource x) ≡ true)
fresh_own w around mean p r x means fresh own same b is = subst (λ key. Goal key) (mention_is (OfResource r) (OfResource x) same) (one b is)
  where
    Goal : Mention → Type 0
    Goal (OfResource y) = (nat_lt y.out w ≡ true) ⊎ (from_within w around (OfResource y) ≡ true)
    Goal (OfPlace y) = Unit {0}

    one : (b : Bool) → p.known (OfResource r) ≡ b → (nat_lt r.out w ≡ true) ⊎ (from_within w around (OfResource r) ≡ true)
    one true is = own r is
    one false is = inl (means r p.resources (fresh is))

mutual
  unfolding behind_all

  own_behind : (w : ℕ) (around : Mention → Bool) (mean : Meaning) (p : Spot) (name : List ℕ) (e : EntityTree) → MeansOwn w mean p.side → HasMeaning mean p e → OwnOr w around p.known → OwnOr w around (behind mean p name e).known
  own_behind w around mean p name (IsType (Value t)) means has own = no_keys w around mean p name (IsType (Value t)) (no_resource (place_of t)) own
  own_behind w around mean p name (IsType (Resource r)) means has own = λ x h. either_known (p.known (OfResource x)) (list_any (λ k. same_mention k (OfResource x)) (OfResource r ∷ [])) h (λ known. own x known)
      (λ new. fresh_own w around mean p r x means has.1 own (or_none (same_mention (OfResource r) (OfResource x)) ∙ new) (p.known (OfResource r)) refl)
  own_behind w around mean p name (IsType (Func f)) means has own = no_keys w around mean p name (IsType (Func f)) (λ r. refl) own
  own_behind w around mean p name (IsType (Instance es)) means has own = no_keys w around mean p name (IsType (Instance es)) (λ r. refl) own
  own_behind w around mean p name (IsType (Component is es)) means has own = no_keys w around mean p name (IsType (Component is es)) (λ r. refl) own
  own_behind w around mean p name (IsFunc f) means has own = no_keys w around mean p name (IsFunc f) (λ r. refl) own
  own_behind w around mean p name (IsInstance es) means has own = λ x h. own_all w around (within p mean) (first_spot Exporting p.known) es (own_within w mean p means) has own x
      (all_known_behind (within p mean) (first_spot Exporting p.known) es (OfResource x) ∙ h)
  own_behind w around mean p name (IsComponent is es) means has own = no_keys w around mean p name (IsComponent is es) (λ r. refl) own
  own_behind w around mean p name (IsModule m) means has own = no_keys w around mean p name (IsModule m) (λ r. refl) own
  own_behind w around mean p name IsOwnModule means has own = no_keys w around mean p name IsOwnModule (λ r. refl) own

  own_all : (w : ℕ) (around : Mention → Bool) (mean : Meaning) (p : Spot) (es : Entries) → MeansOwn w mean p.side → HaveMeaning mean p es → OwnOr w around p.known → OwnOr w around (behind_all mean p es).known
  own_all w around mean p no_entry means have own = own
  own_all w around mean p (entry name e mark es) means have own = own_all w around mean (behind mean p name e) es means have.2 (own_behind w around mean p name e means have.1 own)

-- ---- what is mentioned is known behind it

if_all_some : (known : Mention → Bool) (ms : List (ℕ × Mention)) (n next : Mention → Bool) → if_all known ms n ≡ Some next → (all_known known ms ≡ true) × (next ≡ n)
if_all_some known ms n next h = one (all_known known ms) h
  where
    one : (b : Bool) → cond b (Some n) None ≡ Some next → (b ≡ true) × (next ≡ n)
    one true h = (refl, sym (same_Some _ _ h))
    one false h = absurd cc

if_scope_some : {P : Type 0} (known : Mention → Bool) (o : Option (Mention → Bool)) (next : Mention → Bool) → if_scope known o ≡ Some next → ((y : Mention → Bool) → o ≡ Some y → next ≡ known → P) → P
if_scope_some known None next h then = absurd cc
if_scope_some known (Some y) next h then = then y refl (sym (same_Some _ _ h))

pub record Mentions (mean : Meaning) (p : Spot) (name : List ℕ) (e : EntityTree) (next : Mention → Bool) : Type 0 where
  pub is : next ≡ (behind mean p name e).known
  pub each : Each (KnownAt (behind mean p name e).known) (in_entity 0 e)

-- so many scopes within
from_scope : (w : ℕ) (known end : Mention → Bool) (es : Entries) → OwnOr w known end → Each (KnownAt end) (in_entries 0 es) → Each (KnownAt known) (in_entries w es)
from_scope w known end es own each = entries_shift (KnownAt end) (KnownAt known) (λ d e. e ≡ d + w) (λ d e g. one_more d e g) goes 0 w none_more_deep es each
  where
    one_more : (d e : ℕ) → e ≡ d + w → suc e ≡ suc d + w
    one_more d e h = omega (arith, h)

    none_more_deep : w ≡ 0 + w
    none_more_deep = omega arith

    outside_is : (n : Name) (e : ℕ) (r : Name) (b : Bool) → n.out - w ≡ r.out - e → n.number ≡ r.number → holds_there known (option_map OfResource (cond b None (Some (record { out = n.out - w; number = n.number })))) ≡ true
        → known (OfResource (record { out = r.out - e; number = r.number })) ≡ true
    outside_is n e r true out number h = absurd cc
    outside_is n e r false out number h = ap known (λ i. OfResource (record { out = sym out i; number = sym number i })) ∙ h

    goes : (d e : ℕ) → e ≡ d + w → (m : Mention) → KnownAt end (d, m) → KnownAt known (e, m)
    goes d e g (OfResource r) (inl lt) = inl (grind (arith, lt, g))
    goes d e g (OfResource r) (inr h) = one (own (record { out = r.out - d; number = r.number }) h)
      where
        one : (nat_lt (r.out - d) w ≡ true) ⊎ (from_within w known (OfResource (record { out = r.out - d; number = r.number })) ≡ true) → KnownAt known (e, OfResource r)
        one (inl lt) = inl (grind (arith, lt, g))
        one (inr at) = let n : Name = record { out = r.out - d; number = r.number } in let out : r.out - d - w ≡ r.out - e = grind (arith, g) in
            inr (outside_is n e r (nat_lt n.out w) out refl at)
    goes d e g (OfPlace n) h = tt

type_mentions : (mean : Meaning) (p : Spot) (name : List ℕ) (e : EntityTree) (next : Mention → Bool) → brought_keys e ≡ [] → next ≡ p.known → Each (KnownAt p.known) (in_entity 0 e) → Mentions mean p name e next
type_mentions mean p name e next none is each = record {
  is = is ∙ none_more p.known ∙ ap (with_these p.known) (sym none);
  each = each_then (KnownAt p.known) (KnownAt (behind mean p name e).known) (more_known p.known (behind mean p name e).known (λ key h. or_left (p.known key) (list_any (λ k. same_mention k key) (brought_keys e)) h)) (in_entity 0 e) each;
}

self_mention : (r : Name) → same_mention (OfResource r) (OfResource r) ≡ true
self_mention r = λ i. eq r.out i && eq r.number i
  where
    eq : (n : ℕ) → (n == n) ≡ true
    eq n = grind arith

-- the sides of a component
sides_mention : (mean own : Meaning) (p : Spot) (is es : Entries) (next : Mention → Bool)
    → HaveMeaning (in_component_type own mean) (first_spot Importing (from_within 2 p.known)) is → HaveMeaning (in_component_type own mean) (exports_spot (in_component_type own mean) (first_spot Importing (from_within 2 p.known)) is) es
    → option_and_then (λ next. entries_known_behind next es) (entries_known_behind (from_within 2 p.known) is) ≡ Some next
    → ((z : Mention → Bool) → entries_known_behind (from_within 2 p.known) is ≡ Some z → (z ≡ (behind_all (in_component_type own mean) (first_spot Importing (from_within 2 p.known)) is).known) × Each (KnownAt (behind_all (in_component_type own mean) (first_spot Importing (from_within 2 p.known)) is).known) (in_entries 0 is))
    → ((z : Mention → Bool) → entries_known_behind (exports_spot (in_component_type own mean) (first_spot Importing (from_within 2 p.known)) is).known es ≡ Some z
    → (z ≡ (behind_all (in_component_type own mean) (exports_spot (in_component_type own mean) (first_spot Importing (from_within 2 p.known)) is) es).known) × Each (KnownAt (behind_all (in_component_type own mean) (exports_spot (in_component_type own mean) (first_spot Importing (from_within 2 p.known)) is) es).known) (in_entries 0 es))
    → Each (KnownAt p.known) (in_entries 2 is ++ in_entries 2 es)
sides_mention mean own p is es next has_is has_es h imports exports = option_and_then_some (λ next. entries_known_behind next es) (entries_known_behind (from_within 2 p.known) is) next h (λ z a b.
    let first = imports z a in
    let second = exports next (ap (λ known. entries_known_behind known es) (sym first.0) ∙ b) in
    let inner = in_component_type own mean in
    let start = first_spot Importing (from_within 2 p.known) in
    let own_first = own_all 2 p.known inner start is (own_scope 2 mean.resource Importing refl) has_is (λ x h. inr h) in
    each_both (KnownAt p.known) (in_entries 2 is) (in_entries 2 es)
    (from_scope 2 p.known (behind_all inner start is).known is own_first first.1)
    (from_scope 2 p.known (behind_all inner (exports_spot inner start is) es).known es (own_all 2 p.known inner (exports_spot inner start is) es (own_scope 2 mean.resource Exporting refl) has_es own_first) second.1))

instance_mentions : (mean : Meaning) (p : Spot) (name : List ℕ) (es : Entries) (next : Mention → Bool) → (next ≡ (behind_all (within p mean) (first_spot Exporting p.known) es).known) × Each (KnownAt (behind_all (within p mean) (first_spot Exporting p.known) es).known) (in_entries 0 es)
    → Mentions mean p name (IsInstance es) next
instance_mentions mean p name es next inner = record {
  is = inner.0 ∙ same;
  each = subst (λ known. Each (KnownAt known) (in_entries 0 es)) same inner.1;
}
  where
    same : (behind_all (within p mean) (first_spot Exporting p.known) es).known ≡ (behind mean p name (IsInstance es)).known
    same = λ i key. all_known_behind (within p mean) (first_spot Exporting p.known) es key i

mutual
  unfolding behind_all

  pub entity_mentions : (mean : Meaning) (p : Spot) (name : List ℕ) (e : EntityTree) (next : Mention → Bool) → HasMeaning mean p e → known_behind p.known e ≡ Some next → Mentions mean p name e next
  entity_mentions mean p name (IsType (Value t)) next has h =
      let all = if_all_some p.known (in_value 0 (unnamed t)) (with_these p.known (named_value (place_of t))) next h in
      record {
        is = all.1;
        each = each_then (KnownAt p.known) (KnownAt (behind mean p name (IsType (Value t))).known) (more_known p.known (behind mean p name (IsType (Value t))).known (λ key h. or_left (p.known key) (list_any (λ k. same_mention k key) (named_value (place_of t))) h)) (in_value 0 t) (value_known p.known t all.0);
      }
  entity_mentions mean p name (IsType (Resource r)) next has h = record {
    is = sym (same_Some _ _ h);
    each = (known_here (behind mean p name (IsType (Resource r))).known (OfResource r) (or_right (p.known (OfResource r)) (list_any (λ k. same_mention k (OfResource r)) (OfResource r ∷ [])) (or_left (same_mention (OfResource r) (OfResource r)) false (self_mention r))), tt);
  }
  entity_mentions mean p name (IsType (Func f)) next has h = let all = if_all_some p.known (in_func 0 f) p.known next h in type_mentions mean p name (IsType (Func f)) next refl all.1 (func_known p.known f all.0)
  entity_mentions mean p name (IsType (Instance es)) next has h = if_scope_some p.known (entries_known_behind (from_within 1 p.known) es) next h (λ y a b.
      let inner = entries_mention (in_instance_type has.0 mean) (first_spot Exporting (from_within 1 p.known)) es y has.1 a in
      type_mentions mean p name (IsType (Instance es)) next refl b
      (from_scope 1 p.known (behind_all (in_instance_type has.0 mean) (first_spot Exporting (from_within 1 p.known)) es).known es
      (own_all 1 p.known (in_instance_type has.0 mean) (first_spot Exporting (from_within 1 p.known)) es (own_scope 1 mean.resource Exporting refl) has.1 (λ x h. inr h)) inner.1))
  entity_mentions mean p name (IsType (Component is es)) next has h = if_scope_some p.known (option_and_then (λ next. entries_known_behind next es) (entries_known_behind (from_within 2 p.known) is)) next h (λ y a b.
      type_mentions mean p name (IsType (Component is es)) next refl b (sides_mention mean has.0 p is es y has.1 has.2 a
      (λ z c. entries_mention (in_component_type has.0 mean) (first_spot Importing (from_within 2 p.known)) is z has.1 c)
      (λ z c. entries_mention (in_component_type has.0 mean) (exports_spot (in_component_type has.0 mean) (first_spot Importing (from_within 2 p.known)) is) es z has.2 c)))
  entity_mentions mean p name (IsFunc f) next has h = let all = if_all_some p.known (in_func 0 f) p.known next h in type_mentions mean p name (IsFunc f) next refl all.1 (func_known p.known f all.0)
  entity_mentions mean p name (IsInstance es) next has h = instance_mentions mean p name es next (entries_mention (within p mean) (first_spot Exporting p.known) es next has h)
  entity_mentions mean p name (IsComponent is es) next has h = if_scope_some p.known (option_and_then (λ next. entries_known_behind next es) (entries_known_behind (from_within 2 p.known) is)) next h (λ y a b.
      type_mentions mean p name (IsComponent is es) next refl b (sides_mention mean has.0 p is es y has.1 has.2 a
      (λ z c. entries_mention (in_component_type has.0 mean) (first_spot Importing (from_within 2 p.known)) is z has.1 c)
      (λ z c. entries_mention (in_component_type has.0 mean) (exports_spot (in_component_type has.0 mean) (first_spot Importing (from_within 2 p.known)) is) es z has.2 c)))
  entity_mentions mean p name (IsModule m) next has h = type_mentions mean p name (IsModule m) next refl (sym (same_Some _ _ h)) tt
  entity_mentions mean p name IsOwnModule next has h = elim has [ ]

  pub entries_mention : (mean : Meaning) (p : Spot) (es : Entries) (next : Mention → Bool) → HaveMeaning mean p es → entries_known_behind p.known es ≡ Some next → (next ≡ (behind_all mean p es).known) × Each (KnownAt (behind_all mean p es).known) (in_entries 0 es)
  entries_mention mean p no_entry next have h = (sym (same_Some _ _ h), tt)
  entries_mention mean p (entry name e mark es) next have h = option_and_then_some (λ next. entries_known_behind next es) (known_behind p.known e) next h (λ y a b.
      let one = entity_mentions mean p name e y have.1 a in
      let others = entries_mention mean (behind mean p name e) es next have.2 (ap (λ known. entries_known_behind known es) (sym one.is) ∙ b) in (
        others.0,
        each_both (KnownAt (behind_all mean (behind mean p name e) es).known) (in_entity 0 e) (in_entries 0 es)
            (each_then (KnownAt (behind mean p name e).known) (KnownAt (behind_all mean (behind mean p name e) es).known) (more_known (behind mean p name e).known (behind_all mean (behind mean p name e) es).known (λ key h. all_known_behind mean (behind mean p name e) es key ∙ or_left ((behind mean p name e).known key) (list_any (λ k. same_mention k key) (keys_among es)) h)) (in_entity 0 e) one.each)
            others.1,
      ))
