-- Worked rows of the naming bits of left imports.
use Rattle.std.proofs.Common.{◌≡◌, ℕ, Bool, List, [], ◌∷◌, Option, Some, None, refl, true, false}
use Rattle.std.specs.Prelude.{is_some}
use Rattle.comp_format.specs.declared.types.Primitive.TheVariants as primitive
use Rattle.comp_entity.specs.Entity.{made, brought, Name, ValueTree, Primitive, EnumOf, RecordOf, ListOf, labelled, no_case, present, Value, Component, EntityTree, IsType, IsFunc, IsInstance, IsComponent, Entries, no_entry, entry}
use Rattle.compose_left.specs.Spots.{named_type, spots_in}
use Rattle.compose_left.specs.declared.spots.Spot.{Spot}
use Rattle.compose_order.specs.Needs.{LeftTree}
use Rattle.compose_naming.specs.Bits.{behind_lefts, outermost}

abbrev m : List ℕ
m = 0x6d ∷ []

abbrev n : List ℕ
n = 0x6e ∷ []

abbrev left_import : List ℕ → EntityTree → LeftTree
left_import name e = record { name = name; entity = e; calls = spots_in 0 name [] e }

abbrev takes : ValueTree → EntityTree
takes t = IsFunc (record { params = (0x78 ∷ [], t) ∷ []; result = None })

abbrev a_type : ValueTree → EntityTree
a_type t = IsType (Value t)

-- whether each function of some imports has the naming bit
abbrev have_bits : List LeftTree → Bool
have_bits ls = is_some (behind_lefts ls outermost)

-- a record of an enum, which a place named or none did
abbrev plain : ValueTree
plain = RecordOf (Some (made 1)) (labelled (0x66 ∷ []) (present (EnumOf None ((0x61 ∷ []) ∷ []))) no_case)

abbrev enum : ValueTree
enum = EnumOf (Some (made 2)) ((0x61 ∷ []) ∷ [])

abbrev named : ValueTree
named = RecordOf (Some (made 1)) (labelled (0x66 ∷ []) (present enum) no_case)

-- what two need is merged: the first knows no name of the enum, and the other has a function over the record
abbrev merged_first : LeftTree
merged_first = record (left_import m (IsInstance (entry (0x72 ∷ []) (a_type plain) true (entry (0x65 ∷ []) (a_type enum) true (entry (0x66 ∷ []) (takes named) true no_entry))))) {
  calls = spots_in 0 m [] (IsInstance (entry (0x72 ∷ []) (a_type plain) true (entry (0x65 ∷ []) (a_type enum) true no_entry)));
}

merged_row : have_bits (merged_first ∷ []) ≡ false
merged_row = refl

-- with the other in front the function is written
abbrev merged_last : LeftTree
merged_last = left_import m (IsInstance (entry (0x65 ∷ []) (a_type enum) true (entry (0x72 ∷ []) (a_type named) true (entry (0x66 ∷ []) (takes named) true no_entry))))

merged_last_row : have_bits (merged_last ∷ []) ≡ true
merged_last_row = refl

-- along a wire: m brings both, and n has the function
abbrev wired_types : LeftTree
wired_types = left_import m (IsInstance (entry (0x72 ∷ []) (a_type plain) true (entry (0x65 ∷ []) (a_type enum) true no_entry)))

abbrev wired_api : LeftTree
wired_api = left_import n (IsInstance (entry (0x66 ∷ []) (takes named) true no_entry))

wired_row : have_bits (wired_types ∷ wired_api ∷ []) ≡ false
wired_row = refl

wired_types_row : have_bits (wired_types ∷ []) ≡ true
wired_types_row = refl

-- where n, in which they stand with names, is written first, m brings what is known
abbrev again : LeftTree
again = left_import n (IsInstance (entry (0x65 ∷ []) (a_type enum) true (entry (0x72 ∷ []) (a_type named) true no_entry)))

abbrev after_types : LeftTree
after_types = left_import m (IsInstance (entry (0x72 ∷ []) (a_type plain) true (entry (0x66 ∷ []) (takes named) true no_entry)))

first_row : have_bits (again ∷ after_types ∷ []) ≡ true
first_row = refl

last_row : have_bits (after_types ∷ again ∷ []) ≡ false
last_row = refl

-- ---- a part whose place lacks the bit

abbrev record_of : Option Name → ValueTree → ValueTree
record_of place v = RecordOf place (labelled (0x78 ∷ []) (present v) no_case)

abbrev bool : ValueTree
bool = Primitive primitive.Bool

-- 1 is a record of a record without a name; 2, as another need has it, a record of 1; and a function takes 2, as a third one has
-- that: all that it mentions has a name
abbrev through : ValueTree → LeftTree
through taken = left_import m (IsInstance
    (entry (0x61 ∷ []) (a_type (record_of (Some (made 1)) (record_of None bool))) true
    (entry (0x62 ∷ []) (a_type (record_of (Some (made 2)) (record_of (Some (made 1)) (record_of (Some (made 3)) bool)))) true
    (entry (0x63 ∷ []) (a_type (record_of (Some (made 3)) bool)) true
    (entry (0x64 ∷ []) (a_type (record_of (Some (made 4)) (record_of (Some (made 3)) bool))) true
    (entry (0x66 ∷ []) (takes taken) true no_entry))))))

through_row : have_bits (through (record_of (Some (made 2)) (record_of (Some (made 4)) (record_of (Some (made 3)) bool))) ∷ []) ≡ false
through_row = refl

beside_row : have_bits (through (record_of (Some (made 4)) (record_of (Some (made 3)) bool)) ∷ []) ≡ true
beside_row = refl

-- ---- one type by two numbers

-- at one place stand 1 and 2
abbrev called_too : ℕ → Spot
called_too number = record { number = 0; name = m; path = (0x72 ∷ []) ∷ []; what = named_type (made number) }

abbrev by_two : ValueTree → LeftTree
by_two t = record (left_import m (IsInstance (entry (0x65 ∷ []) (a_type (EnumOf (Some (made 3)) ((0x61 ∷ []) ∷ []))) true (entry (0x72 ∷ []) (a_type t) true no_entry)))) {
  calls = called_too 1 ∷ called_too 2 ∷ [];
}

two_row : have_bits (by_two (record_of (Some (made 1)) (EnumOf (Some (made 3)) ((0x61 ∷ []) ∷ []))) ∷ left_import n (IsInstance (entry (0x66 ∷ []) (takes (record_of (Some (made 2)) bool)) true no_entry)) ∷ []) ≡ true
two_row = refl

none_row : have_bits (by_two (record_of (Some (made 1)) (EnumOf None ((0x61 ∷ []) ∷ []))) ∷ left_import n (IsInstance (entry (0x66 ∷ []) (takes (record_of (Some (made 2)) bool)) true no_entry)) ∷ []) ≡ false
none_row = refl

-- ---- within components

-- a component imports a record of the outer 1, and a function of that
abbrev outer : ℕ → Name
outer k = record { out = 2; number = k }

abbrev inner_entries : Entries
inner_entries =
    entry (0x72 ∷ []) (a_type (record_of (Some (brought 0)) (record_of (Some (outer 1)) bool))) true
    (entry (0x66 ∷ []) (takes (ListOf (record_of (Some (brought 0)) (record_of (Some (outer 1)) bool)))) true no_entry)

abbrev holding : ValueTree → EntityTree → LeftTree
holding t e = left_import m (IsInstance (entry (0x61 ∷ []) (a_type t) true (entry (0x63 ∷ []) e true no_entry)))

component_row : have_bits (holding (record_of (Some (made 1)) bool) (IsComponent inner_entries no_entry) ∷ []) ≡ true
component_row = refl

component_type_row : have_bits (holding (record_of (Some (made 1)) bool) (IsType (Component inner_entries no_entry)) ∷ []) ≡ true
component_type_row = refl

nameless_row : have_bits (holding (record_of (Some (made 1)) (record_of None bool)) (IsComponent inner_entries no_entry) ∷ []) ≡ false
nameless_row = refl
