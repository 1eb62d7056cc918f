-- Small left imports as they are written: two instances that call one named type by two numbers, and imports of which one
-- place is called by numbers of two types.
use Rattle.std.proofs.Common.{◌≡◌, ℕ, List, [], ◌∷◌, Option, Some, None, refl, sym, subst, ◌∙◌, true, false}
use Rattle.std.proofs.lemmas.Option.{same_Some}
use Rattle.comp_entity.specs.Entity.{Name, made, brought, ValueTree, RecordOf, FlagsOf, EnumOf, no_case, labelled, present, Value, EntityTree, IsType, IsFunc, IsInstance, no_entry, entry, ShapeTree}
use Rattle.comp_coherence.specs.Coherence.{Coheres, Names}
use Rattle.compose_left.specs.Origins.{origin_within}
use Rattle.compose_left.specs.Spots.{named_type}
use Rattle.compose_left.specs.Wiring.{Wiring}
use Rattle.compose_left.specs.declared.spots.Spot.{Spot}
use Rattle.compose_needs.specs.Mentioned.{has}
use Rattle.compose_order.specs.Needs.{LeftTree}
use Rattle.compose_check.specs.Open.{lefts}
use Rattle.compose_origins.specs.Placed.{CallsOneType}
use Rattle.compose_naming.specs.Settled.{names_of, settled}
use Rattle.compose_known.specs.InOrder.{IsInOrder}
use Rattle.compose_meaning.specs.Meaning.{Meaning, own_bit, params_bit}
use Rattle.compose_settled.specs.ReadBack.{AreReadable, first_import}
use Rattle.compose_settled.specs.Written.{HasImportsInOrder, IsWrittenInOrder}

abbrev t : List ℕ
t = 0x74 ∷ []

abbrev p : List ℕ
p = 0x70 ∷ []

abbrev r : List ℕ
r = 0x72 ∷ []

abbrev f : List ℕ
f = 0x66 ∷ []

abbrev g : List ℕ
g = 0x67 ∷ []

abbrev letters : Option Name → ValueTree
letters n = EnumOf n ((0x65 ∷ []) ∷ [])

abbrev bits : Option Name → ValueTree
bits n = FlagsOf n ((0x65 ∷ []) ∷ [])

abbrev a_type : ValueTree → EntityTree
a_type v = IsType (Value v)

abbrev takes : ValueTree → EntityTree
takes v = IsFunc (record { params = (0x78 ∷ [], v) ∷ []; result = None })

-- ---- one type by two numbers

-- it imports t with an enum r, and p with that enum as r and a function f of it
abbrev shape_a : ShapeTree
shape_a = record {
  imports =
      (t, IsInstance (entry r (a_type (letters (Some (brought 0)))) true no_entry))
      ∷ (p, IsInstance (entry r (a_type (letters (Some (brought 0)))) true (entry f (takes (letters (Some (brought 0)))) true no_entry)))
      ∷ [];
  exports = [];
}

-- it imports p with an enum r, and a function g of it
abbrev shape_b : ShapeTree
shape_b = record {
  imports = (p, IsInstance (entry r (a_type (letters (Some (brought 0)))) true (entry g (takes (letters (Some (brought 0)))) true no_entry))) ∷ [];
  exports = [];
}

abbrev two : Wiring
two = record { shapes = shape_a ∷ shape_b ∷ []; wires = [] }

abbrev called : List ℕ → List ℕ → ℕ → Spot
called name export n = record { number = 0; name = name; path = export ∷ []; what = named_type (made n) }

abbrev left_t : LeftTree
left_t = record { name = t; entity = IsInstance (entry r (a_type (letters (Some (made 2)))) true no_entry); calls = called t r 2 ∷ [] }

-- p, where g takes the enum by this number
abbrev left_p : ℕ → LeftTree
left_p n = record {
  name = p;
  entity = IsInstance (entry r (a_type (letters (Some (made 2)))) true (entry f (takes (letters (Some (made 2)))) true (entry g (takes (letters (Some (made n)))) true no_entry)));
  calls = called p r 2 ∷ called p r 5 ∷ [];
}

lefts_row : lefts two ≡ left_t ∷ left_p 5 ∷ []
unfolding origin_within
lefts_row = refl

names_row : names_of (left_p 5) ≡ (made 2, made 2) ∷ (made 5, made 2) ∷ []
names_row = refl

-- it is written by the number of t's enum alone
settled_row : (settled (left_p 5)).entity ≡ (left_p 2).entity
settled_row = refl

abbrev one_type : Names
one_type = record { resource = λ n. true; tree = λ n. Some (letters None) }

coheres_row : Coheres one_type (settled (left_p 5)).entity
coheres_row = (refl, (((refl, tt), tt), (((refl, tt), tt), tt)))

shapes_row : HasImportsInOrder shape_a
shapes_row = (((λ n named. refl), tt), (((λ n named. refl), (tt, tt)), tt))

order_row : IsWrittenInOrder (left_p 5)
order_row = ((λ n named. refl), (tt, (tt, tt)))

-- ---- what is written for both reads back

abbrev means : Meaning
means = record { may_mention = λ key. true; resource = λ n. n; tree = λ n. letters None; bit = λ n. true }

readable_row : AreReadable means first_import (settled left_t ∷ settled (left_p 5) ∷ [])
unfolding own_bit params_bit
readable_row = (
  record {
    meaning = (refl, ((refl, refl), (λ unknown. refl)), tt);
    apart = refl;
    called = ((λ kind new. record { ty = letters (Some (made 2)); place = made 2; there = refl; named = refl; tree = refl; bit = refl }), tt);
  },
  (
    record {
      meaning = (refl, ((refl, refl), (λ unknown. refl)), (refl, ((((refl, refl), tt), tt), refl), (refl, ((((refl, refl), tt), tt), refl), tt)));
      apart = refl;
      called = (
        (λ kind new. record { ty = letters (Some (made 2)); place = made 2; there = refl; named = refl; tree = refl; bit = refl }),
        ((λ kind new. record { ty = letters (Some (made 2)); place = made 2; there = refl; named = refl; tree = refl; bit = refl }), tt),
      );
    },
    tt,
  ),
)

-- ---- two types called at one place

-- a function of flags, which by their number are called where the enum stands
abbrev of_two_types : LeftTree
of_two_types = record {
  name = p;
  entity = IsInstance (entry r (a_type (letters (Some (made 2)))) true (entry g (takes (bits (Some (made 5)))) true no_entry));
  calls = called p r 2 ∷ called p r 5 ∷ [];
}

-- as it is written it coheres with no names
incoherent : (names : Names) → Coheres names (settled of_two_types).entity → ⊥
incoherent names h = different (sym h.0 ∙ h.1.0.0.0)
  where
    different : Some (letters None) ≡ Some (bits None) → ⊥
    different e = absurd cc

-- a record with a field of an enum, whose number is called where the enum stands
abbrev within_itself : LeftTree
within_itself = record {
  name = p;
  entity = IsInstance (entry r (a_type (letters (Some (made 2)))) true (entry f (a_type (RecordOf (Some (made 5)) (labelled (0x78 ∷ []) (present (letters (Some (made 2)))) no_case))) true no_entry));
  calls = called p r 2 ∷ called p r 5 ∷ called p f 5 ∷ [];
}

-- it stands in order, and as it is written it does not
ordered : IsInOrder within_itself.entity
ordered = ((λ n named. refl), ((λ n named. subst (λ n. has (named_type (made 2) ∷ []) (named_type n) ≡ false) (same_Some (made 5) n named) refl), tt))

unordered : IsWrittenInOrder within_itself → ⊥
unordered h = no (h.1.0 (made 2) refl)
  where
    no : true ≡ false → ⊥
    no e = absurd cc

-- its calls are not of one type
not_one : (names : Names) → Coheres names within_itself.entity → CallsOneType names within_itself → ⊥
not_one names h k = different (sym h.0 ∙ sym (k.0.1.0 refl (named_type (made 2)) refl) ∙ h.1.0.0)
  where
    different : Some (letters None) ≡ Some (RecordOf None (labelled (0x78 ∷ []) (present (letters None)) no_case)) → ⊥
    different e = absurd cc
