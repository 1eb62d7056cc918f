-- Value types and functions that mention nothing but what scopes know are written, and the scopes know what they did.
use Rattle.std.proofs.Common.{◌≡◌, ◌||◌, ◌&&◌, ℕ, zero, suc, Bool, true, false, List, [], ◌∷◌, ◌++◌, map, Option, Some, None, refl, sym, ap, ◌∙◌}
use Rattle.std.specs.Prelude.{flat_map, option_and_then, option_to_list, is_some, IfSome}
use Rattle.std.specs.List.{AllByRecursion}
use Rattle.std.proofs.lemmas.List.Folds.{list_all-append}
use Rattle.std.proofs.lemmas.List.Elements.{recursion_from_All}
use Rattle.comp_format.specs.declared.types.ValType.TheVariants as value
use Rattle.comp_format.specs.declared.types.DefinedType.{DefinedType}
use Rattle.comp_format.specs.declared.types.DefinedType.TheVariants as defined
use Rattle.comp_format.specs.Definitions as tree
use Rattle.comp_format.specs.Definitions.{TypeTree}
use Rattle.comp_entity.specs.Entity.{Name, ValueTree, Primitive, TupleOf, RecordOf, VariantOf, ListOf, FlagsOf, EnumOf, OptionOf, ResultOf, Own, Borrow, ValueTrees, none, more, Cases, no_case, labelled, Payload, absent, present, FuncTree}
use Rattle.comp_entity.specs.Names.{Mention, OfResource, OfPlace, in_value, in_values, in_cases, in_payload, in_func, at_place}
use Rattle.comp_entity.specs.Places.{Path}
use Rattle.compose_writing.specs.Keys.{At, Index, InInstance, KnownThings, known_at, mention_outside, holds_there, from_within}
use Rattle.compose_writing.specs.Scopes.{WrittenScope, Wrote, wrote_as, add_type, add_instance, on_top, then_type, knows, along, index_in, stood, standing, brought, type_index}
use Rattle.compose_writing.specs.WriteValues.{then_defined, named_part, as_part, write_defined, write_parts, write_fields, write_cases, write_payload, write_params, write_result, write_func}
use Rattle.compose_writing.specs.Conditions.{KeepsValue, KeepsValues, KeepsCases, KeepsPayload, KeepsFunc, AreFields, all_known, unnamed}

-- ---- what scopes are called and know, without what is declared in them

abbrev pub name_of : WrittenScope → ℕ × KnownThings
name_of m = (m.width, m.known)

abbrev pub names_of : List WrittenScope → List (ℕ × KnownThings)
names_of ms = map name_of ms

abbrev pub known_by : List (ℕ × KnownThings) → Mention → Bool
known_by [] key = false
known_by (n ∷ ns) key = is_some (known_at n.1 key) || from_within n.0 (known_by ns) key

there : (f g : Mention → Bool) → ((key : Mention) → f key ≡ g key) → (o : Option Mention) → holds_there f o ≡ holds_there g o
there f g h None = refl
there f g h (Some key) = h key

pub knows_is : (ms : List WrittenScope) (key : Mention) → knows ms key ≡ known_by (names_of ms) key
unfolding knows
knows_is [] key = refl
knows_is (m ∷ ms) key = ap (λ b. is_some (known_at m.known key) || b) (there (knows ms) (known_by (names_of ms)) (knows_is ms) (mention_outside m.width key))

-- Something is written, and the scopes are called and know what they did.
pub record Writes {X : Type 0} (ns : List (ℕ × KnownThings)) (w : Wrote X) : Type 0 where
  pub given : List WrittenScope × X
  pub is : w ≡ Some given
  pub names : names_of given.0 ≡ ns

pub writes_as : {X Y : Type 0} (f : X → Y) (ns : List (ℕ × KnownThings)) (w : Wrote X) → Writes ns w → Writes ns (wrote_as f w)
writes_as f ns w h = record { given = (h.given.0, f h.given.1); is = ap (wrote_as f) h.is; names = h.names }

pub writes_then : {X Y : Type 0} (f : List WrittenScope × X → Wrote Y) (ns : List (ℕ × KnownThings)) (w : Wrote X) → Writes ns w → ((x : List WrittenScope × X) → names_of x.0 ≡ ns → Writes ns (f x)) → Writes ns (option_and_then f w)
writes_then f ns w h next = record { given = (next h.given h.names).given; is = ap (option_and_then f) h.is ∙ (next h.given h.names).is; names = (next h.given h.names).names }

pub writes_top : (f : WrittenScope → WrittenScope × ℕ) (n : ℕ × KnownThings) (ns : List (ℕ × KnownThings)) (ms : List WrittenScope) → ((m : WrittenScope) → name_of (f m).0 ≡ name_of m) → names_of ms ≡ n ∷ ns → Writes (n ∷ ns) (on_top f ms)
unfolding on_top
writes_top f n ns [] keeps is = absurd cc
writes_top f n ns (m ∷ ms) keeps is = record { given = ((f m).0 ∷ ms, (f m).1); is = refl; names = ap (λ x. x ∷ names_of ms) (keeps m) ∙ is }

pub writes_type : (n : ℕ × KnownThings) (ns : List (ℕ × KnownThings)) (w : Wrote TypeTree) → Writes (n ∷ ns) w → Writes (n ∷ ns) (then_type w)
writes_type n ns w h = writes_then (λ x. on_top (add_type x.1) x.0) (n ∷ ns) w h (λ x is. writes_top (add_type x.1) n ns x.0 (λ m. refl) is)

-- ---- a type that is known has an index

along_names : (from : ℕ) (path : Path) (m : WrittenScope) → name_of (along from path m).0 ≡ name_of m
unfolding along
along_names from [] m = refl
along_names from (name ∷ []) m = refl
along_names from (name ∷ next ∷ names) m = along_names (add_instance from name m).1 (next ∷ names) (add_instance from name m).0

index_names : (at : At) (m : WrittenScope) → name_of (index_in at m).0 ≡ name_of m
index_names (Index i) m = refl
index_names (InInstance from path) m = along_names from path m

stood_writes : (m : WrittenScope) (ms : List WrittenScope) (outer : Option Mention) (at : Option At) → is_some at || holds_there (knows ms) outer ≡ true
    → ((key : Mention) → knows ms key ≡ true → Writes (names_of ms) (standing ms key)) → Writes (names_of (m ∷ ms)) (stood m ms (option_and_then (standing ms) outer) at)
stood_writes m ms outer (Some at) h further = record { given = ((index_in at m).0 ∷ ms, (0, (index_in at m).1)); is = refl; names = ap (λ x. x ∷ names_of ms) (index_names at m) }
stood_writes m ms None None h further = absurd cc
stood_writes m ms (Some key) None h further =
    let w = further key h in
    record { given = (m ∷ w.given.0, (suc w.given.1.0, w.given.1.1)); is = ap (λ x. stood m ms x None) w.is; names = ap (λ x. name_of m ∷ x) w.names }

standing_writes : (ms : List WrittenScope) (key : Mention) → knows ms key ≡ true → Writes (names_of ms) (standing ms key)
unfolding standing knows
standing_writes [] key h = absurd cc
standing_writes (m ∷ ms) key h = stood_writes m ms (mention_outside m.width key) (known_at m.known key) h (standing_writes ms)

pub both : (a b : Bool) → a && b ≡ true → (a ≡ true) × (b ≡ true)
both true b h = (refl, h)
both false b h = absurd cc

module _ (n : ℕ × KnownThings) (ns : List (ℕ × KnownThings)) where
  brought_writes : (ms : List WrittenScope) (up i : ℕ) → names_of ms ≡ n ∷ ns → Writes (n ∷ ns) (brought ms up i)
  unfolding brought
  brought_writes ms zero i is = record { given = (ms, i); is = refl; names = is }
  brought_writes ms (suc up) i is = writes_top _ n ns ms (λ m. refl) is

  pub index_writes : (key : Mention) (ms : List WrittenScope) → names_of ms ≡ n ∷ ns → known_by (n ∷ ns) key ≡ true → Writes (n ∷ ns) (type_index key ms)
  unfolding type_index
  index_writes key ms is h =
      let w = standing_writes ms key (knows_is ms key ∙ ap (λ x. known_by x key) is ∙ h) in
      writes_then (λ x. brought x.0 x.1.0 x.1.1) (n ∷ ns) (standing ms key) (record { given = w.given; is = w.is; names = w.names ∙ is })
      (λ x at. brought_writes x.0 x.1.0 x.1.1 at)

  -- ---- value types

  abbrev Knows : List (ℕ × Mention) → Type 0
  Knows xs = all_known (known_by (n ∷ ns)) xs ≡ true

  first_known : (xs ys : List (ℕ × Mention)) → Knows (xs ++ ys) → Knows xs
  first_known xs ys h = (both (all_known (known_by (n ∷ ns)) xs) (all_known (known_by (n ∷ ns)) ys) (sym (list_all-append (λ m. known_by (n ∷ ns) m.1) xs ys) ∙ h)).0

  then_known : (xs ys : List (ℕ × Mention)) → Knows (xs ++ ys) → Knows ys
  then_known xs ys h = (both (all_known (known_by (n ∷ ns)) xs) (all_known (known_by (n ∷ ns)) ys) (sym (list_all-append (λ m. known_by (n ∷ ns) m.1) xs ys) ∙ h)).1

  one_known : (d : ℕ) (key : Mention) (xs : List (ℕ × Mention)) → Knows ((d, key) ∷ xs) → known_by (n ∷ ns) key ≡ true
  one_known d key xs h = (both (known_by (n ∷ ns) key) (all_known (known_by (n ∷ ns)) xs) h).0

  pub defined_type : (w : Wrote DefinedType) → Writes (n ∷ ns) w → Writes (n ∷ ns) (then_defined w)
  defined_type w h = writes_type n ns (wrote_as tree.Defined w) (writes_as tree.Defined (n ∷ ns) w h)

  own_part : (t : ValueTree) (ms : List WrittenScope) → Writes (n ∷ ns) (write_defined t ms) → Writes (n ∷ ns) (named_part None (write_defined t ms) ms)
  own_part t ms h = writes_as value.Index (n ∷ ns) (then_defined (write_defined t ms)) (defined_type (write_defined t ms) h)

  place_part : (p : Option Name) (xs : List (ℕ × Mention)) (w : Wrote DefinedType) (ms : List WrittenScope) → names_of ms ≡ n ∷ ns → Knows (at_place 0 p ++ xs) → (Knows xs → Writes (n ∷ ns) w) → Writes (n ∷ ns) (named_part p w ms)
  place_part None xs w ms is h own = writes_as value.Index (n ∷ ns) (then_defined w) (defined_type w (own h))
  place_part (Some p) xs w ms is h own = writes_as value.Index (n ∷ ns) (type_index (OfPlace p) ms) (index_writes (OfPlace p) ms is (one_known 0 (OfPlace p) xs h))

  -- a part of another type, where the type itself can be written
  part_writes : (t : ValueTree) (ms : List WrittenScope) → names_of ms ≡ n ∷ ns → Knows (in_value 0 t) → (Knows (in_value 0 (unnamed t)) → Writes (n ∷ ns) (write_defined t ms)) → Writes (n ∷ ns) (as_part t (write_defined t ms) ms)
  part_writes (Primitive p) ms is h own = record { given = (ms, value.Primitive p); is = refl; names = is }
  part_writes (TupleOf ts) ms is h own = own_part (TupleOf ts) ms (own h)
  part_writes (RecordOf p cs) ms is h own = place_part p (in_cases 0 cs) (write_defined (RecordOf p cs) ms) ms is h own
  part_writes (VariantOf p cs) ms is h own = place_part p (in_cases 0 cs) (write_defined (VariantOf p cs) ms) ms is h own
  part_writes (ListOf t) ms is h own = own_part (ListOf t) ms (own h)
  part_writes (FlagsOf p ls) ms is h own = place_part p [] (write_defined (FlagsOf p ls) ms) ms is (no_more p h) own
    where
      no_more : (p : Option Name) → Knows (at_place 0 p) → Knows (at_place 0 p ++ [])
      no_more None h = h
      no_more (Some p) h = h
  part_writes (EnumOf p ls) ms is h own = place_part p [] (write_defined (EnumOf p ls) ms) ms is (no_more p h) own
    where
      no_more : (p : Option Name) → Knows (at_place 0 p) → Knows (at_place 0 p ++ [])
      no_more None h = h
      no_more (Some p) h = h
  part_writes (OptionOf t) ms is h own = own_part (OptionOf t) ms (own h)
  part_writes (ResultOf ok err) ms is h own = own_part (ResultOf ok err) ms (own h)
  part_writes (Own r) ms is h own = own_part (Own r) ms (own h)
  part_writes (Borrow r) ms is h own = own_part (Borrow r) ms (own h)

  mutual
    unfolding write_defined

    pub defined_writes : (t : ValueTree) (ms : List WrittenScope) → names_of ms ≡ n ∷ ns → Knows (in_value 0 (unnamed t)) → KeepsValue t → Writes (n ∷ ns) (write_defined t ms)
    defined_writes (Primitive p) ms is h k = record { given = (ms, defined.Primitive p); is = refl; names = is }
    defined_writes (TupleOf ts) ms is h k = writes_as defined.TupleOf (n ∷ ns) (write_parts ts ms) (parts_write ts ms is h k.1)
    defined_writes (RecordOf p cs) ms is h k = writes_as defined.RecordOf (n ∷ ns) (write_fields cs ms) (fields_write cs ms is h k.1 k.2)
    defined_writes (VariantOf p cs) ms is h k = writes_as defined.VariantOf (n ∷ ns) (write_cases cs ms) (cases_write cs ms is h k.1)
    defined_writes (ListOf t) ms is h k = writes_as defined.ListOf (n ∷ ns) (as_part t (write_defined t ms) ms) (part_writes t ms is h (λ own. defined_writes t ms is own k))
    defined_writes (FlagsOf p ls) ms is h k = record { given = (ms, defined.FlagsOf ls); is = refl; names = is }
    defined_writes (EnumOf p ls) ms is h k = record { given = (ms, defined.EnumOf ls); is = refl; names = is }
    defined_writes (OptionOf t) ms is h k = writes_as defined.OptionOf (n ∷ ns) (as_part t (write_defined t ms) ms) (part_writes t ms is h (λ own. defined_writes t ms is own k))
    defined_writes (ResultOf ok err) ms is h k =
        writes_then (λ x. wrote_as (defined.ResultOf x.1) (write_payload err x.0)) (n ∷ ns) (write_payload ok ms) (payload_writes ok ms is (first_known (in_payload 0 ok) (in_payload 0 err) h) k.0)
        (λ x at. writes_as (defined.ResultOf x.1) (n ∷ ns) (write_payload err x.0) (payload_writes err x.0 at (then_known (in_payload 0 ok) (in_payload 0 err) h) k.1))
    defined_writes (Own r) ms is h k = writes_as defined.Own (n ∷ ns) (type_index (OfResource r) ms) (index_writes (OfResource r) ms is (one_known 0 (OfResource r) [] h))
    defined_writes (Borrow r) ms is h k = writes_as defined.Borrow (n ∷ ns) (type_index (OfResource r) ms) (index_writes (OfResource r) ms is (one_known 0 (OfResource r) [] h))

    parts_write : (ts : ValueTrees) (ms : List WrittenScope) → names_of ms ≡ n ∷ ns → Knows (in_values 0 ts) → KeepsValues ts → Writes (n ∷ ns) (write_parts ts ms)
    parts_write none ms is h k = record { given = (ms, []); is = refl; names = is }
    parts_write (more t ts) ms is h k =
        writes_then (λ x. wrote_as (λ us. x.1 ∷ us) (write_parts ts x.0)) (n ∷ ns) (as_part t (write_defined t ms) ms)
        (part_writes t ms is (first_known (in_value 0 t) (in_values 0 ts) h) (λ own. defined_writes t ms is own k.0))
        (λ x at. writes_as (λ us. x.1 ∷ us) (n ∷ ns) (write_parts ts x.0) (parts_write ts x.0 at (then_known (in_value 0 t) (in_values 0 ts) h) k.1))

    fields_write : (cs : Cases) (ms : List WrittenScope) → names_of ms ≡ n ∷ ns → Knows (in_cases 0 cs) → AreFields cs → KeepsCases cs → Writes (n ∷ ns) (write_fields cs ms)
    fields_write no_case ms is h f k = record { given = (ms, []); is = refl; names = is }
    fields_write (labelled label absent cs) ms is h f k = absurd f.0
    fields_write (labelled label (present t) cs) ms is h f k =
        writes_then (λ x. wrote_as (λ us. (label, x.1) ∷ us) (write_fields cs x.0)) (n ∷ ns) (as_part t (write_defined t ms) ms)
        (part_writes t ms is (first_known (in_value 0 t) (in_cases 0 cs) h) (λ own. defined_writes t ms is own k.0))
        (λ x at. writes_as (λ us. (label, x.1) ∷ us) (n ∷ ns) (write_fields cs x.0) (fields_write cs x.0 at (then_known (in_value 0 t) (in_cases 0 cs) h) f.1 k.1))

    cases_write : (cs : Cases) (ms : List WrittenScope) → names_of ms ≡ n ∷ ns → Knows (in_cases 0 cs) → KeepsCases cs → Writes (n ∷ ns) (write_cases cs ms)
    cases_write no_case ms is h k = record { given = (ms, []); is = refl; names = is }
    cases_write (labelled label payload cs) ms is h k =
        writes_then (λ x. wrote_as (λ us. (label, x.1) ∷ us) (write_cases cs x.0)) (n ∷ ns) (write_payload payload ms)
        (payload_writes payload ms is (first_known (in_payload 0 payload) (in_cases 0 cs) h) k.0)
        (λ x at. writes_as (λ us. (label, x.1) ∷ us) (n ∷ ns) (write_cases cs x.0) (cases_write cs x.0 at (then_known (in_payload 0 payload) (in_cases 0 cs) h) k.1))

    payload_writes : (p : Payload) (ms : List WrittenScope) → names_of ms ≡ n ∷ ns → Knows (in_payload 0 p) → KeepsPayload p → Writes (n ∷ ns) (write_payload p ms)
    payload_writes absent ms is h k = record { given = (ms, None); is = refl; names = is }
    payload_writes (present t) ms is h k = writes_as Some (n ∷ ns) (as_part t (write_defined t ms) ms) (part_writes t ms is h (λ own. defined_writes t ms is own k))

  -- ---- functions

  params_write : (ps : List (List ℕ × ValueTree)) (ms : List WrittenScope) → names_of ms ≡ n ∷ ns → Knows (flat_map (λ p. in_value 0 p.1) ps) → AllByRecursion (λ p. KeepsValue p.1) ps → Writes (n ∷ ns) (write_params ps ms)
  unfolding write_params
  params_write [] ms is h k = record { given = (ms, []); is = refl; names = is }
  params_write (p ∷ ps) ms is h k =
      writes_then (λ x. wrote_as (λ us. (p.0, x.1) ∷ us) (write_params ps x.0)) (n ∷ ns) (as_part p.1 (write_defined p.1 ms) ms)
      (part_writes p.1 ms is (first_known (in_value 0 p.1) (flat_map (λ p. in_value 0 p.1) ps) h) (λ own. defined_writes p.1 ms is own k.0))
      (λ x at. writes_as (λ us. (p.0, x.1) ∷ us) (n ∷ ns) (write_params ps x.0) (params_write ps x.0 at (then_known (in_value 0 p.1) (flat_map (λ p. in_value 0 p.1) ps) h) k.1))

  result_writes : (r : Option ValueTree) (ms : List WrittenScope) → names_of ms ≡ n ∷ ns → Knows (flat_map (in_value 0) (option_to_list r)) → IfSome r KeepsValue → Writes (n ∷ ns) (write_result r ms)
  unfolding write_result
  result_writes None ms is h k = record { given = (ms, None); is = refl; names = is }
  result_writes (Some t) ms is h k = writes_as Some (n ∷ ns) (as_part t (write_defined t ms) ms) (part_writes t ms is (first_known (in_value 0 t) [] h) (λ own. defined_writes t ms is own k))

  pub func_writes : (f : FuncTree) (ms : List WrittenScope) → names_of ms ≡ n ∷ ns → Knows (in_func 0 f) → KeepsFunc f → Writes (n ∷ ns) (write_func f ms)
  unfolding write_func
  func_writes f ms is h k =
      let ps = flat_map (λ (p : List ℕ × ValueTree). in_value 0 p.1) f.params in
      let r = flat_map (in_value 0) (option_to_list f.result) in
      writes_type n ns (option_and_then (λ ps. wrote_as (λ r. tree.Func (record { params = ps.1; result = r })) (write_result f.result ps.0)) (write_params f.params ms))
      (writes_then (λ ps. wrote_as (λ r. tree.Func (record { params = ps.1; result = r })) (write_result f.result ps.0)) (n ∷ ns) (write_params f.params ms)
      (params_write f.params ms is (first_known ps r h) (recursion_from_All (λ p. KeepsValue p.1) f.params k.1))
      (λ x at. writes_as (λ r. tree.Func (record { params = x.1; result = r })) (n ∷ ns) (write_result f.result x.0) (result_writes f.result x.0 at (then_known ps r h) k.2)))
