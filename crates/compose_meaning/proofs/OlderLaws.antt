-- What is known mentions no resource that is new, also behind what was written.
use Rattle.std.proofs.Common.{◌≡◌, ℕ, suc, ◌+◌, ◌-◌, Bool, true, false, cond, ◌&&◌, ◌||◌, List, [], ◌∷◌, ◌++◌, Option, Some, None, refl, sym, ap, subst, ◌∙◌, arith}
use Rattle.std.specs.Prelude.{nat_le, nat_lt, flat_map, max, ◌==◌}
use Rattle.std.specs.List.{list_any, fold}
use Rattle.std.proofs.lemmas.Option.{option_and_then_some}
use Rattle.comp_format.specs.declared.types.ValType.{ValType}
use Rattle.comp_format.specs.declared.types.ValType.TheVariants as value
use Rattle.comp_format.specs.declared.types.DefinedType.{DefinedType}
use Rattle.comp_format.specs.declared.types.DefinedType.TheVariants as defined
use Rattle.comp_format.specs.declared.types.TypeRef.{TypeRef}
use Rattle.comp_format.specs.declared.types.TypeRef.TheVariants as description
use Rattle.comp_format.specs.Definitions as tree
use Rattle.comp_entity.specs.Entity.{Name, made, ValueTree, Primitive, TupleOf, RecordOf, VariantOf, ListOf, FlagsOf, EnumOf, OptionOf, ResultOf, Own, Borrow, ValueTrees, none, more, Cases, no_case, labelled, Payload, absent, present, Value, Resource, Func, Instance, Component, EntityTree, IsType, IsFunc, IsInstance, IsComponent, IsModule, IsOwnModule, Entries, no_entry, entry}
use Rattle.comp_entity.specs.Names.{Change, changing, deeper, outside, place_by, value_by, without_places, Mention, OfResource, OfPlace, in_value, in_values, in_cases, in_payload, in_type, in_entity, in_entries, entity_by, entries_by, resource_at, beyond}
use Rattle.comp_entity.specs.NameLaws.{value_twice}
use Rattle.comp_entity.specs.Fits.{place_of}
use Rattle.comp_entity.specs.Places.{Path, same_mention, names_itself, named_value, leaves_of, leaves_in}
use Rattle.comp_scope.specs.Spaces.{Known}
use Rattle.compose_writing.specs.Keys.{mention_outside, holds_there, from_within}
use Rattle.compose_writing.specs.Scopes.{WrittenScope, wrote_as, knows, type_index, standing}
use Rattle.compose_writing.specs.WriteValues.{then_defined, named_part, write_defined, write_parts, write_fields, write_cases, write_payload, write_value}
use Rattle.compose_writing.specs.WriteEntities.{write_place, write_named, write_entity}
use Rattle.compose_meaning.specs.Meaning.{Meaning, placing, placed_value, placed_entries, named_type, named_bit, meant, IsNamed, OneTree, OneTrees, OneTreeCases, OneTreePayload}
use Rattle.compose_meaning.specs.Stands.{inward, further_out, Kept}
use Rattle.compose_meaning.specs.Readable.{SpotKind, Importing, Exporting, new_name, Spot, is_new, inside, within, first_spot, in_instance_type, in_component_type, meaning_within, exports_spot, brought_keys, new_resources, behind, behind_all, IsOlder, AreOlder, HasMeaning}
use Rattle.compose_meaning.proofs.LeafKeyLaws.{all_keys_are as keys_are_among}
use Rattle.compose_meaning.proofs.ListLaws.{wrote_some, and_right, Each, each_always, each_both, each_left, each_right, each_then}
use Rattle.compose_meaning.proofs.NameLaws.{here, placing_twice}
use Rattle.compose_meaning.proofs.KnownLaws.{standing_reach, mention_back}
use Rattle.compose_meaning.proofs.NoteLaws.{mention_is, knows_same}
use Rattle.compose_meaning.proofs.OpenLaws.{reach_knows, Shifts, inward_none}
use Rattle.compose_meaning.proofs.ScopeLaws.{resource_in, tree_in}
use Rattle.compose_meaning.proofs.CountLaws.{entries_alike}
use Rattle.compose_meaning.proofs.MentionLaws.{value_alike, value_each}
use Rattle.compose_meaning.proofs.ShowsLaws.{NamedBy, IsOrderly, AreOrderly}
use Rattle.compose_meaning.proofs.ValueLaws.{plain_value, plain_values, plain_cases, plain_payload, Ready, Written, still_ready, value_reads, payload_reads}

-- ---- what is known means the same within an instance's type

pub inside_old : (p : Spot) (n : Name) → is_new p n ≡ false → inside p n ≡ deeper 1 n
inside_old p n h = ap (λ b. cond b (made (n.number - p.resources)) (deeper 1 n)) h

old_value : (mean : Meaning) (p : Spot) (t : ValueTree) → Each (IsOlder mean p) (in_value 0 t) → value_by (placing (deeper 1)) 0 (placed_value mean t) ≡ placed_value (within p mean) t
old_value mean p t h =
    value_twice (placing (deeper 1)) (placing mean.resource) (placing (λ n. deeper 1 (mean.resource n))) (placing_twice (deeper 1) mean.resource (λ n. deeper 1 (mean.resource n)) (λ n. refl)) 0 t
    ∙ value_alike 0 (placing (λ n. deeper 1 (mean.resource n))) (placing (λ n. inside p (mean.resource n))) (IsOlder mean p) (λ r old. here (λ n. deeper 1 (mean.resource n)) r ∙ sym (inside_old p (mean.resource r) old) ∙ sym (here (λ n. inside p (mean.resource n)) r)) place t h
  where
    place : (o : Option Name) → place_by (placing (λ n. deeper 1 (mean.resource n))) 0 o ≡ place_by (placing (λ n. inside p (mean.resource n))) 0 o
    place None = refl
    place (Some n) = refl

pub within_shifts : (p : Spot) (mean : Meaning) (known : Mention → Bool) → ((key : Mention) → known key ≡ p.known key) → AreOlder mean p → Shifts 1 known (meant mean) (further_out 0 (meant (within p mean)))
within_shifts p mean known same older key h = (agrees key (sym (same key) ∙ h) ∙ ap (λ key. (meant (within p mean) key).entity) (sym (inward_none key)), bits key ∙ ap (named_bit (within p mean)) (sym (inward_none key)))
  where
    bits : (key : Mention) → named_bit mean key ≡ named_bit (within p mean) key
    bits (OfResource n) = refl
    bits (OfPlace n) = refl

    agrees : (key : Mention) → p.known key ≡ true → entity_by (placing (deeper 1)) 0 (meant mean key).entity ≡ (meant (within p mean) key).entity
    agrees (OfResource r) known = ap (λ r. IsType (Resource r)) (here (deeper 1) (outside mean.resource 0 r) ∙ ap (deeper 1) (here mean.resource r) ∙ sym (inside_old p (mean.resource r) (older (OfResource r) known).0) ∙ sym (here (λ n. inside p (mean.resource n)) r))
    agrees (OfPlace n) known = ap (λ t. IsType (Value t)) (old_value mean p (mean.tree n) (older (OfPlace n) known))

-- ---- what is written mentions what is known

type_known : (key : Mention) (ms : List WrittenScope) (x : List WrittenScope × ℕ) → type_index key ms ≡ Some x → knows ms key ≡ true
unfolding type_index
type_known key ms x h = option_and_then_some _ (standing ms key) x h (λ y a b. reach_knows ms key y.1.0 (standing_reach key ms y a))

module _ (mean : Meaning) (p : Spot) (older : AreOlder mean p) where
  abbrev pub Old : ValueTree → Type 0
  Old t = Each (IsOlder mean p) (in_value 0 (plain_value t))

  -- scopes in which just what is known at the spot is known
  pub record Here (ms : List WrittenScope) (ks : List Known) : Type 0 where
    pub kept : Kept 0 (meant mean) ms ks
    pub ready : Ready mean ms ks
    pub same : (key : Mention) → knows ms key ≡ p.known key

  here_on : (ms later : List WrittenScope) (ks : List Known) (Q : List Known → Type 0) → Here ms ks → (w : Written mean ks ms later Q) → Here later w.scopes
  here_on ms later ks Q h w = record { kept = w.kept; ready = still_ready mean ks ms later Q h.ready w; same = λ key. knows_same ms later key w.same ∙ h.same key }

  resource_old : (r : Name) (ms : List WrittenScope) (ks : List Known) (x : List WrittenScope × ℕ) → Here ms ks → type_index (OfResource r) ms ≡ Some x → is_new p (mean.resource r) ≡ false
  resource_old r ms ks x at h = (older (OfResource r) (sym (at.same (OfResource r)) ∙ type_known (OfResource r) ms x h)).0

  named_old : (t : ValueTree) (o : Option Name) (ms : List WrittenScope) (ks : List Known) (x : List WrittenScope × ValType) → Here ms ks → IsNamed mean t o → ((y : List WrittenScope × DefinedType) → write_defined t ms ≡ Some y → Old t) → named_part o (write_defined t ms) ms ≡ Some x → Old t
  named_old t (Some n) ms ks x at named own h = wrote_some value.Index (type_index (OfPlace n) ms) x h (λ y a b.
      subst (λ (t : ValueTree). Each (IsOlder mean p) (in_value 0 t)) (sym named.1) (older (OfPlace n) (sym (at.same (OfPlace n)) ∙ type_known (OfPlace n) ms y a)))
  named_old t None ms ks x at named own h = wrote_some value.Index (then_defined (write_defined t ms)) x h (λ y a b. option_and_then_some _ (wrote_as tree.Defined (write_defined t ms)) y a (λ z c d. wrote_some tree.Defined (write_defined t ms) z c (λ u e f. own u e)))

  part_old : (t : ValueTree) (ms : List WrittenScope) (ks : List Known) (x : List WrittenScope × ValType) → Here ms ks → OneTree mean t → ((y : List WrittenScope × DefinedType) → write_defined t ms ≡ Some y → Old t) → write_value t ms ≡ Some x → Old t
  part_old (Primitive q) ms ks x at one own h = tt
  part_old (TupleOf parts) ms ks x at one own h = named_old (TupleOf parts) None ms ks x at tt own h
  part_old (RecordOf q fields) ms ks x at one own h = named_old (RecordOf q fields) q ms ks x at one.0 own h
  part_old (VariantOf q cases) ms ks x at one own h = named_old (VariantOf q cases) q ms ks x at one.0 own h
  part_old (ListOf t) ms ks x at one own h = named_old (ListOf t) None ms ks x at tt own h
  part_old (FlagsOf q labels) ms ks x at one own h = named_old (FlagsOf q labels) q ms ks x at one own h
  part_old (EnumOf q labels) ms ks x at one own h = named_old (EnumOf q labels) q ms ks x at one own h
  part_old (OptionOf t) ms ks x at one own h = named_old (OptionOf t) None ms ks x at tt own h
  part_old (ResultOf ok err) ms ks x at one own h = named_old (ResultOf ok err) None ms ks x at tt own h
  part_old (Own r) ms ks x at one own h = named_old (Own r) None ms ks x at tt own h
  part_old (Borrow r) ms ks x at one own h = named_old (Borrow r) None ms ks x at tt own h

  mutual
    unfolding write_defined

    pub defined_old : (t : ValueTree) (ms : List WrittenScope) (ks : List Known) (x : List WrittenScope × DefinedType) → Here ms ks → OneTree mean t → write_defined t ms ≡ Some x → Old t
    defined_old (Primitive q) ms ks x at one h = tt
    defined_old (TupleOf parts) ms ks x at one h = wrote_some defined.TupleOf (write_parts parts ms) x h (λ y a b. parts_old parts ms ks y at one a)
    defined_old (RecordOf None fields) ms ks x at one h = wrote_some defined.RecordOf (write_fields fields ms) x h (λ y a b. fields_old fields ms ks y at one.1 a)
    defined_old (RecordOf (Some n) fields) ms ks x at one h = wrote_some defined.RecordOf (write_fields fields ms) x h (λ y a b. fields_old fields ms ks y at one.1 a)
    defined_old (VariantOf None cases) ms ks x at one h = wrote_some defined.VariantOf (write_cases cases ms) x h (λ y a b. cases_old cases ms ks y at one.1 a)
    defined_old (VariantOf (Some n) cases) ms ks x at one h = wrote_some defined.VariantOf (write_cases cases ms) x h (λ y a b. cases_old cases ms ks y at one.1 a)
    defined_old (ListOf t) ms ks x at one h = wrote_some defined.ListOf (write_value t ms) x h (λ y a b. part_old t ms ks y at one (λ z c. defined_old t ms ks z at one c) a)
    defined_old (FlagsOf None labels) ms ks x at one h = tt
    defined_old (FlagsOf (Some n) labels) ms ks x at one h = tt
    defined_old (EnumOf None labels) ms ks x at one h = tt
    defined_old (EnumOf (Some n) labels) ms ks x at one h = tt
    defined_old (OptionOf t) ms ks x at one h = wrote_some defined.OptionOf (write_value t ms) x h (λ y a b. part_old t ms ks y at one (λ z c. defined_old t ms ks z at one c) a)
    defined_old (ResultOf ok err) ms ks x at one h = option_and_then_some _ (write_payload ok ms) x h (λ y a b. wrote_some (defined.ResultOf y.1) (write_payload err y.0) x b (λ z c d.
        let w = payload_reads mean ok ms ks y at.kept at.ready one.0 a in
        each_both (IsOlder mean p) (in_payload 0 (plain_payload ok)) (in_payload 0 (plain_payload err)) (payload_old ok ms ks y at one.0 a) (payload_old err y.0 w.scopes z (here_on ms y.0 ks _ at w) one.1 c)))
    defined_old (Own r) ms ks x at one h = wrote_some defined.Own (type_index (OfResource r) ms) x h (λ y a b. (resource_old r ms ks y at a, tt))
    defined_old (Borrow r) ms ks x at one h = wrote_some defined.Borrow (type_index (OfResource r) ms) x h (λ y a b. (resource_old r ms ks y at a, tt))

    parts_old : (ts : ValueTrees) (ms : List WrittenScope) (ks : List Known) (x : List WrittenScope × List ValType) → Here ms ks → OneTrees mean ts → write_parts ts ms ≡ Some x → Each (IsOlder mean p) (in_values 0 (plain_values ts))
    parts_old none ms ks x at one h = tt
    parts_old (more t ts) ms ks x at one h = option_and_then_some _ (write_value t ms) x h (λ y a b. wrote_some (λ us. y.1 ∷ us) (write_parts ts y.0) x b (λ z c d.
        let w = value_reads mean t ms ks y at.kept at.ready one.0 a in
        each_both (IsOlder mean p) (in_value 0 (plain_value t)) (in_values 0 (plain_values ts)) (part_old t ms ks y at one.0 (λ z c. defined_old t ms ks z at one.0 c) a) (parts_old ts y.0 w.scopes z (here_on ms y.0 ks _ at w) one.1 c)))

    fields_old : (cs : Cases) (ms : List WrittenScope) (ks : List Known) (x : List WrittenScope × List (List ℕ × ValType)) → Here ms ks → OneTreeCases mean cs → write_fields cs ms ≡ Some x → Each (IsOlder mean p) (in_cases 0 (plain_cases cs))
    fields_old no_case ms ks x at one h = tt
    fields_old (labelled label absent cs) ms ks x at one h = absurd cc
    fields_old (labelled label (present t) cs) ms ks x at one h = option_and_then_some _ (write_value t ms) x h (λ y a b. wrote_some (λ us. (label, y.1) ∷ us) (write_fields cs y.0) x b (λ z c d.
        let w = value_reads mean t ms ks y at.kept at.ready one.0 a in
        each_both (IsOlder mean p) (in_value 0 (plain_value t)) (in_cases 0 (plain_cases cs)) (part_old t ms ks y at one.0 (λ z c. defined_old t ms ks z at one.0 c) a) (fields_old cs y.0 w.scopes z (here_on ms y.0 ks _ at w) one.1 c)))

    cases_old : (cs : Cases) (ms : List WrittenScope) (ks : List Known) (x : List WrittenScope × List (List ℕ × Option ValType)) → Here ms ks → OneTreeCases mean cs → write_cases cs ms ≡ Some x → Each (IsOlder mean p) (in_cases 0 (plain_cases cs))
    cases_old no_case ms ks x at one h = tt
    cases_old (labelled label q cs) ms ks x at one h = option_and_then_some _ (write_payload q ms) x h (λ y a b. wrote_some (λ us. (label, y.1) ∷ us) (write_cases cs y.0) x b (λ z c d.
        let w = payload_reads mean q ms ks y at.kept at.ready one.0 a in
        each_both (IsOlder mean p) (in_payload 0 (plain_payload q)) (in_cases 0 (plain_cases cs)) (payload_old q ms ks y at one.0 a) (cases_old cs y.0 w.scopes z (here_on ms y.0 ks _ at w) one.1 c)))

    payload_old : (q : Payload) (ms : List WrittenScope) (ks : List Known) (x : List WrittenScope × Option ValType) → Here ms ks → OneTreePayload mean q → write_payload q ms ≡ Some x → Each (IsOlder mean p) (in_payload 0 (plain_payload q))
    payload_old absent ms ks x at one h = tt
    payload_old (present t) ms ks x at one h = wrote_some Some (write_value t ms) x h (λ y a b. part_old t ms ks y at one (λ z c. defined_old t ms ks z at one c) a)

-- ---- what is brought

-- what a mention is of mentions this alone
abbrev pub KeyEach : Meaning → (ℕ × Mention → Type 0) → Mention → Type 0
KeyEach mean Q key = Each Q (in_type 0 (named_type mean key))

-- what holds of all mentions of an entity, in other names, holds of what its keys mention
module _ (mean : Meaning) (c : Change) (P Q : ℕ × Mention → Type 0) (resource : (r : Name) → P (0, OfResource (c.resource 0 r)) → Q (0, OfResource r)) (free : (n : Name) → Q (0, OfPlace n)) where
  leaf_keys : (e : EntityTree) → Each P (in_entity 0 (entity_by c 0 e)) → IsOrderly mean.may_mention mean.tree e → Each (KeyEach mean Q) (names_itself e)
  leaf_keys (IsType (Value t)) h o = one (place_of t) o
    where
      one : (o : Option Name) → NamedBy mean.may_mention mean.tree t o → Each (KeyEach mean Q) (named_value o)
      one None o = tt
      one (Some n) o = (subst (λ (t : ValueTree). Each Q (in_value 0 t)) o.1 (value_each 0 c without_places P Q resource free t h), tt)
  leaf_keys (IsType (Resource r)) h o = ((resource r h.0, tt), tt)
  leaf_keys (IsType (Func f)) h o = tt
  leaf_keys (IsType (Instance es)) h o = tt
  leaf_keys (IsType (Component is es)) h o = tt
  leaf_keys (IsFunc f) h o = tt
  leaf_keys (IsInstance es) h o = tt
  leaf_keys (IsComponent is es) h o = tt
  leaf_keys (IsModule m) h o = tt
  leaf_keys IsOwnModule h o = tt

  abbrev LeafKeys : Path × EntityTree → Type 0
  LeafKeys leaf = Each (KeyEach mean Q) (names_itself leaf.1)

  mutual
    leaves_keys : (e : EntityTree) (path : Path) → Each P (in_entity 0 (entity_by c 0 e)) → IsOrderly mean.may_mention mean.tree e → Each LeafKeys (leaves_of path e)
    leaves_keys (IsType t) path h o = (leaf_keys (IsType t) h o, tt)
    leaves_keys (IsFunc f) path h o = (tt, tt)
    leaves_keys (IsInstance es) path h o = all_leaves_keys es path [] h o
    leaves_keys (IsComponent is es) path h o = (tt, tt)
    leaves_keys (IsModule m) path h o = (tt, tt)
    leaves_keys IsOwnModule path h o = (tt, tt)

    all_leaves_keys : (es : Entries) (path : Path) (names : List (List ℕ)) → Each P (in_entries 0 (entries_by c 0 es)) → AreOrderly mean.may_mention mean.tree names es → Each LeafKeys (leaves_in path es)
    all_leaves_keys no_entry path names h o = tt
    all_leaves_keys (entry name e mark es) path names h o =
        each_both LeafKeys (leaves_of (path ++ name ∷ []) e) (leaves_in path es)
        (leaves_keys e (path ++ name ∷ []) (each_left P (in_entity 0 (entity_by c 0 e)) (in_entries 0 (entries_by c 0 es)) h) o.1)
        (all_leaves_keys es path (names ++ name ∷ []) (each_right P (in_entity 0 (entity_by c 0 e)) (in_entries 0 (entries_by c 0 es)) h) o.2)

  keys_of : (ls : List (Path × EntityTree)) → Each LeafKeys ls → Each (KeyEach mean Q) (flat_map (λ (leaf : Path × EntityTree). names_itself leaf.1) ls)
  keys_of [] h = tt
  keys_of (leaf ∷ ls) h = each_both (KeyEach mean Q) (names_itself leaf.1) (flat_map (λ (leaf : Path × EntityTree). names_itself leaf.1) ls) h.0 (keys_of ls h.1)

  pub brought_each : (e : EntityTree) → Each P (in_entity 0 (entity_by c 0 e)) → IsOrderly mean.may_mention mean.tree e → Each (KeyEach mean Q) (brought_keys e)
  brought_each (IsType t) h o = leaf_keys (IsType t) h o
  brought_each (IsFunc f) h o = tt
  brought_each (IsInstance es) h o = subst (Each (KeyEach mean Q)) (keys_are_among es []) (keys_of (leaves_in [] es) (all_leaves_keys es [] [] h o))
  brought_each (IsComponent is es) h o = tt
  brought_each (IsModule m) h o = tt
  brought_each IsOwnModule h o = tt

-- ---- numbers below one more than the largest

abbrev pub below : ℕ → ℕ × Mention → Type 0
below most m = Each (λ n. nat_le most n ≡ false) (resource_at 0 m)

larger : (ns : List ℕ) (most : ℕ) → (nat_le most (fold (λ most n. max most (suc n)) most ns) ≡ true) × Each (λ n. nat_le (fold (λ most n. max most (suc n)) most ns) n ≡ false) ns
larger [] most = (grind arith, tt)
larger (n ∷ ns) most =
    let rest = larger ns (max most (suc n)) in
    let top : ℕ = fold (λ most n. max most (suc n)) (max most (suc n)) ns in
    (grind (arith, rest.0), (grind (arith, rest.0), rest.1))

split_numbers : (Q : ℕ → Type 0) (ms : List (ℕ × Mention)) → Each Q (flat_map (resource_at 0) ms) → Each (λ m. Each Q (resource_at 0 m)) ms
split_numbers Q [] h = tt
split_numbers Q (m ∷ ms) h = (each_left Q (resource_at 0 m) (flat_map (resource_at 0) ms) h, split_numbers Q ms (each_right Q (resource_at 0 m) (flat_map (resource_at 0) ms) h))

pub beyond_all : (ms : List (ℕ × Mention)) → Each (below (beyond (flat_map (resource_at 0) ms))) ms
beyond_all ms = split_numbers (λ n. nat_le (beyond (flat_map (resource_at 0) ms)) n ≡ false) ms (larger (flat_map (resource_at 0) ms) 0).1

-- ---- older than what is new later on

no_and : (b : Bool) → (b && false) ≡ false
no_and true = refl
no_and false = refl

pub more_old : (out r x : ℕ) (n : Name) → ((n.out == out) && nat_le r n.number) ≡ false → ((n.out == out) && nat_le (r + x) n.number) ≡ false
more_old out r x n h = one (n.out == out) h
  where
    one : (b : Bool) → (b && nat_le r n.number) ≡ false → (b && nat_le (r + x) n.number) ≡ false
    one false h = refl
    one true h = grind (arith, h)

more_older : (mean : Meaning) (p : Spot) (name : List ℕ) (e : EntityTree) (m : ℕ × Mention) → IsOlder mean p m → IsOlder mean (behind mean p name e) m
more_older mean p name e (d, OfResource r) h = more_old (new_name p.side 0).out p.resources (new_resources mean p e) (mean.resource r) h
more_older mean p name e (d, OfPlace n) h = tt

-- what an instance brings is older than what is new behind it
pub instance_old : (mean : Meaning) (p : Spot) (name : List ℕ) (es : Entries) (r : Name) → below (new_resources mean p (IsInstance es)) (0, OfResource (outside (within p mean).resource 0 r)) → is_new (behind mean p name (IsInstance es)) (mean.resource r) ≡ false
instance_old mean p name es r h = one (is_new p (mean.resource r)) refl
  where
    most : ℕ
    most = new_resources mean p (IsInstance es)

    x : Name
    x = mean.resource r

    one : (b : Bool) → is_new p x ≡ b → is_new (behind mean p name (IsInstance es)) x ≡ false
    one false is = more_old (new_name p.side 0).out p.resources most x is
    one true is =
        let there : outside (within p mean).resource 0 r ≡ made (x.number - p.resources) = here (λ n. inside p (mean.resource n)) r ∙ ap (λ b. cond b (made (x.number - p.resources)) (deeper 1 x)) is in
        let less : nat_le most (x.number - p.resources) ≡ false = (subst (λ n. below most (0, OfResource n)) there h).0 in
        let from : nat_le p.resources x.number ≡ true = and_right (x.out == (new_name p.side 0).out) (nat_le p.resources x.number) is in
        let past : nat_le (p.resources + most) x.number ≡ false = grind (arith, less, from) in
        ap (λ b. (x.out == (new_name p.side 0).out) && b) past ∙ no_and (x.out == (new_name p.side 0).out)

-- each thing that an entity brings
value_keys_old : (mean : Meaning) (p : Spot) (older : AreOlder mean p) (t : ValueTree) (o : Option Name) (ms : List WrittenScope) (ks : List Known) (x : List WrittenScope × ℕ) → place_of t ≡ o → Here mean p older ms ks → OneTree mean t → NamedBy mean.may_mention mean.tree t o
    → write_named o t ms ≡ Some x → Each (KeyEach mean (IsOlder mean p)) (named_value o)
value_keys_old mean p older t None ms ks x place at one named h = tt
value_keys_old mean p older t (Some n) ms ks x place at one named h = (either (knows ms (OfPlace n)) refl h, tt)
  where
    either : (b : Bool) → knows ms (OfPlace n) ≡ b → write_place n b t ms ≡ Some x → KeyEach mean (IsOlder mean p) (OfPlace n)
    either true is h = older (OfPlace n) (sym (at.same (OfPlace n)) ∙ is)
    either false is h = option_and_then_some _ (wrote_as tree.Defined (write_defined t ms)) x h (λ z c d. wrote_some tree.Defined (write_defined t ms) z c (λ u e f.
        subst (λ (t : ValueTree). Each (IsOlder mean p) (in_value 0 t)) named.1 (defined_old mean p older t ms ks u at one e)))

fresh_old : (side : SpotKind) (n : ℕ) → (((new_name side n).out == (new_name side 0).out) && nat_le (n + 1) (new_name side n).number) ≡ false
fresh_old Importing n = grind arith
fresh_old Exporting n = grind arith

-- a resource is older than what is new behind it
pub resource_behind : (mean : Meaning) (p : Spot) (name : List ℕ) (r : Name) → (p.known (OfResource r) ≡ true → is_new p (mean.resource r) ≡ false) → (p.known (OfResource r) ≡ false → mean.resource r ≡ new_name p.side p.resources)
    → is_new (behind mean p name (IsType (Resource r))) (mean.resource r) ≡ false
resource_behind mean p name r older fresh = one (p.known (OfResource r)) refl
  where
    one : (b : Bool) → p.known (OfResource r) ≡ b → is_new (behind mean p name (IsType (Resource r))) (mean.resource r) ≡ false
    one true is = more_old (new_name p.side 0).out p.resources (new_resources mean p (IsType (Resource r))) (mean.resource r) (older is)
    one false is = ap (λ b. ((mean.resource r).out == (new_name p.side 0).out) && nat_le (p.resources + cond b 0 1) (mean.resource r).number) is
        ∙ ap (λ (n : Name). (n.out == (new_name p.side 0).out) && nat_le (p.resources + 1) n.number) (fresh is) ∙ fresh_old p.side p.resources

pub entity_old : (mean : Meaning) (p : Spot) (name : List ℕ) (e : EntityTree) (ms : List WrittenScope) (ks : List Known) (x : List WrittenScope × TypeRef) (older : AreOlder mean p) → Here mean p older ms ks → HasMeaning mean p e → IsOrderly mean.may_mention mean.tree e → write_entity e ms ≡ Some x
    → Each (KeyEach mean (IsOlder mean (behind mean p name e))) (brought_keys e)
unfolding write_entity
entity_old mean p name (IsType (Value t)) ms ks x older at has orderly h = wrote_some description.TyEqual (write_named (place_of t) t ms) x h (λ y a b.
    each_then (KeyEach mean (IsOlder mean p)) (KeyEach mean (IsOlder mean (behind mean p name (IsType (Value t))))) (λ key. each_then (IsOlder mean p) (IsOlder mean (behind mean p name (IsType (Value t)))) (λ m. more_older mean p name (IsType (Value t)) m) (in_type 0 (named_type mean key)))
    (named_value (place_of t)) (value_keys_old mean p older t (place_of t) ms ks y refl at has.0 orderly a))
entity_old mean p name (IsType (Resource r)) ms ks x older at has orderly h = ((resource_behind mean p name r (λ known. (older (OfResource r) known).0) has.1, tt), tt)
entity_old mean p name (IsType (Func f)) ms ks x older at has orderly h = tt
entity_old mean p name (IsType (Instance es)) ms ks x older at has orderly h = tt
entity_old mean p name (IsType (Component is es)) ms ks x older at has orderly h = tt
entity_old mean p name (IsFunc f) ms ks x older at has orderly h = tt
entity_old mean p name (IsInstance es) ms ks x older at has orderly h =
    brought_each mean (placing (within p mean).resource) (below (new_resources mean p (IsInstance es))) (IsOlder mean (behind mean p name (IsInstance es))) (instance_old mean p name es) (λ n. tt) (IsInstance es)
    (beyond_all (in_entries 0 (placed_entries (within p mean) es))) orderly
entity_old mean p name (IsComponent is es) ms ks x older at has orderly h = tt
entity_old mean p name (IsModule m) ms ks x older at has orderly h = tt
entity_old mean p name IsOwnModule ms ks x older at has orderly h = tt

-- one of the keys
pub each_any : (P : Mention → Type 0) (keys : List Mention) (key : Mention) → Each P keys → list_any (λ k. same_mention k key) keys ≡ true → P key
each_any P [] key each h = absurd cc
each_any P (k ∷ keys) key each h = one (same_mention k key) refl (λ h. each_any P keys key each.1 h) h
  where
    one : (b : Bool) → same_mention k key ≡ b → (list_any (λ k. same_mention k key) keys ≡ true → P key) → (b || list_any (λ k. same_mention k key) keys) ≡ true → P key
    one true is rest h = subst P (mention_is k key is) each.0
    one false is rest h = rest h

pub either_known : {P : Type 0} (a b : Bool) → (a || b) ≡ true → (a ≡ true → P) → (b ≡ true → P) → P
either_known true b h f g = f refl
either_known false b h f g = g h

pub old_behind : (mean : Meaning) (p : Spot) (name : List ℕ) (e : EntityTree) → AreOlder mean p → Each (KeyEach mean (IsOlder mean (behind mean p name e))) (brought_keys e) → AreOlder mean (behind mean p name e)
old_behind mean p name e older each key h = either_known (p.known key) (list_any (λ k. same_mention k key) (brought_keys e)) h
    (λ known. each_then (IsOlder mean p) (IsOlder mean (behind mean p name e)) (λ m. more_older mean p name e m) (in_type 0 (named_type mean key)) (older key known))
    (λ new. each_any (KeyEach mean (IsOlder mean (behind mean p name e))) (brought_keys e) key each new)

-- ---- at the begin of a scope

-- what was older, is of a scope around
pub within_mention : (mean : Meaning) (p : Spot) (m : ℕ × Mention) → IsOlder mean p m → IsOlder (within p mean) (first_spot Exporting p.known) m
within_mention mean p (d, OfResource r) h = ap (λ (n : Name). (n.out == 0) && nat_le 0 n.number) (inside_old p (mean.resource r) h) ∙ one_in (mean.resource r)
  where
    one_in : (n : Name) → ((n.out + 1 == 0) && nat_le 0 n.number) ≡ false
    one_in n = grind arith
within_mention mean p (d, OfPlace n) h = tt

pub within_older : (mean : Meaning) (p : Spot) → AreOlder mean p → AreOlder (within p mean) (first_spot Exporting p.known)
within_older mean p older (OfResource r) h = each_then (IsOlder mean p) (IsOlder (within p mean) (first_spot Exporting p.known)) (λ m. within_mention mean p m) ((0, OfResource r) ∷ []) (older (OfResource r) h)
within_older mean p older (OfPlace n) h = each_then (IsOlder mean p) (IsOlder (within p mean) (first_spot Exporting p.known)) (λ m. within_mention mean p m) (in_value 0 (mean.tree n)) (older (OfPlace n) h)

-- within a type that is a scope of names, names of scopes around it are of no scope of its own
pub scope_older : (is_component : Bool) (w : ℕ) (own mean : Meaning) (side : SpotKind) (known : Mention → Bool) → ((n : Name) → is_new (first_spot side known) (deeper w n) ≡ false)
    → AreOlder (meaning_within is_component w own mean) (first_spot side (from_within w known))
scope_older is_component w own mean side known past key h = one (mention_outside w key) refl h
  where
    inner : Meaning
    inner = meaning_within is_component w own mean

    Old : ℕ × Mention → Type 0
    Old m = IsOlder inner (first_spot side (from_within w known)) m

    two : (other : Mention) → KeyEach inner Old (inward w other)
    two (OfResource n) = (ap (is_new (first_spot side known)) (resource_in is_component w own mean n) ∙ past (mean.resource n), tt)
    two (OfPlace n) = subst (λ (t : ValueTree). Each Old (in_value 0 t)) (sym (tree_in is_component w own mean n))
        (value_each 0 (changing (deeper w) (deeper w)) (changing (deeper w) (deeper w)) (λ m. Unit {0}) Old
        (λ r u. ap (λ m. is_new (first_spot side known) (inner.resource m)) (here (deeper w) r) ∙ ap (is_new (first_spot side known)) (resource_in is_component w own mean r) ∙ past (mean.resource r)) (λ m. tt) (mean.tree n)
        (each_always (λ m. Unit {0}) (λ m. tt) (in_value 0 (value_by (changing (deeper w) (deeper w)) 0 (mean.tree n)))))

    one : (o : Option Mention) → mention_outside w key ≡ o → holds_there known o ≡ true → KeyEach inner Old key
    one None is h = absurd cc
    one (Some other) is h = subst (KeyEach inner Old) (mention_back w key other is) (two other)

pub instance_type_older : (own mean : Meaning) (known : Mention → Bool) → AreOlder (in_instance_type own mean) (first_spot Exporting (from_within 1 known))
instance_type_older own mean known = scope_older false 1 own mean Exporting known past
  where
    past : (n : Name) → ((n.out + 1 == 0) && nat_le 0 n.number) ≡ false
    past n = grind arith

pub component_older : (own mean : Meaning) (side : SpotKind) (known : Mention → Bool) → AreOlder (in_component_type own mean) (first_spot side (from_within 2 known))
component_older own mean Importing known = scope_older true 2 own mean Importing known past
  where
    past : (n : Name) → ((n.out + 2 == 1) && nat_le 0 n.number) ≡ false
    past n = grind arith
component_older own mean Exporting known = scope_older true 2 own mean Exporting known past
  where
    past : (n : Name) → ((n.out + 2 == 0) && nat_le 0 n.number) ≡ false
    past n = grind arith

-- ---- behind the imports of a component

-- what is not made is nothing new in an export
not_made : (own mean : Meaning) (known : Mention → Bool) (r : Name) → below 0 (0, OfResource r) → is_new (first_spot Exporting known) ((in_component_type own mean).resource r) ≡ false
not_made own mean known r h = one (r.out == 0) (nat_lt r.out 2) refl refl
  where
    one : (a b : Bool) → (r.out == 0) ≡ a → nat_lt r.out 2 ≡ b → is_new (first_spot Exporting known) (cond b r (deeper 2 (mean.resource (record r { out = r.out - 2 })))) ≡ false
    one true b first lt =
        let numbers : resource_at 0 (0, OfResource r) ≡ r.number ∷ [] = ap (λ c. cond c (r.number ∷ []) []) (zero_plus r.out first) in
        let never : nat_le 0 r.number ≡ false = (subst (λ ns. Each (λ n. nat_le 0 n ≡ false) ns) numbers h).0 in
        absurd (grind (arith, never))
      where
        zero_plus : (m : ℕ) → (m == 0) ≡ true → (m == 0 + 0) ≡ true
        zero_plus m h = h
    one false true first lt = ap (λ b. b && nat_le 0 r.number) first
    one false false first lt =
        let m : Name = mean.resource (record r { out = r.out - 2 }) in
        past m
      where
        past : (m : Name) → ((m.out + 2 == 0) && nat_le 0 m.number) ≡ false
        past m = grind arith

abbrev NoneMade : Meaning → (Mention → Bool) → Type 0
NoneMade inner known = (key : Mention) → known key ≡ true → KeyEach inner (IsOlder inner (first_spot Exporting known)) key

none_made_behind : (own mean : Meaning) (p : Spot) (is : Entries) (names : List (List ℕ)) → NoneMade (in_component_type own mean) p.known → Each (below 0) (in_entries 0 (entries_by without_places 0 is))
    → AreOrderly (in_component_type own mean).may_mention (in_component_type own mean).tree names is → NoneMade (in_component_type own mean) (behind_all (in_component_type own mean) p is).known
unfolding behind_all
none_made_behind own mean p no_entry names made low o = made
none_made_behind own mean p (entry name e mark is) names made each o =
    none_made_behind own mean (behind (in_component_type own mean) p name e) is (names ++ name ∷ [])
    (λ key h. either_known (p.known key) (list_any (λ k. same_mention k key) (brought_keys e)) h
    (λ known. made key known)
    (λ new. each_any (KeyEach (in_component_type own mean) (IsOlder (in_component_type own mean) (first_spot Exporting p.known))) (brought_keys e) key
    (brought_each (in_component_type own mean) without_places (below 0) (IsOlder (in_component_type own mean) (first_spot Exporting p.known)) (λ r low. not_made own mean p.known r low) (λ n. tt) e
    (each_left (below 0) (in_entity 0 (entity_by without_places 0 e)) (in_entries 0 (entries_by without_places 0 is)) each) o.1) new))
    (each_right (below 0) (in_entity 0 (entity_by without_places 0 e)) (in_entries 0 (entries_by without_places 0 is)) each) o.2

pub exports_older : (own mean : Meaning) (known : Mention → Bool) (is : Entries) → AreOrderly (in_component_type own mean).may_mention (in_component_type own mean).tree [] is → flat_map (resource_at 0) (in_entries 0 is) ≡ []
    → AreOlder (in_component_type own mean) (exports_spot (in_component_type own mean) (first_spot Importing (from_within 2 known)) is)
exports_older own mean known is orderly first =
    none_made_behind own mean (first_spot Importing (from_within 2 known)) is [] (component_older own mean Exporting known)
    (split_numbers (λ n. nat_le 0 n ≡ false) (in_entries 0 (entries_by without_places 0 is))
    (subst (λ ns. Each (λ n. nat_le 0 n ≡ false) ns) (sym (entries_alike 0 without_places (λ d n. refl) 0 is ∙ first)) tt)) orderly
