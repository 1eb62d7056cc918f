-- Worked rows of what imports need.
use Rattle.std.proofs.Common.{◌≡◌, ℕ, List, [], ◌∷◌, Some, None, refl, true, false}
use Rattle.std.specs.Prelude.{◌==◌, if◌then◌else◌}
use Rattle.comp_entity.specs.Entity.{made, ValueTree, EnumOf, Own, Value, Resource, EntityTree, IsType, IsFunc, IsInstance, no_entry, entry}
use Rattle.compose_left.specs.Spots.{spots_in}
use Rattle.compose_agree.specs.Order.{IsOrder, all_of, is_ready}
use Rattle.compose_needs.specs.Lefts.{Lefts}
use Rattle.compose_order.specs.Agreed.{HasNoPlace, all_needs}
use Rattle.compose_order.specs.Needs.{LeftTree, is_brought, needs}

abbrev m : List ℕ
m = 0x6d ∷ []

abbrev n : List ℕ
n = 0x6e ∷ []

abbrev left_import : List ℕ → EntityTree → LeftTree
left_import name e = record { name = name; entity = e; calls = spots_in 0 name [] e }

-- all comes from m
abbrev of_m : Lefts
of_m k = Some m

abbrev t_of : ℕ → ValueTree
t_of k = EnumOf (Some (made k)) ((0x65 ∷ []) ∷ [])

abbrev takes : ValueTree → EntityTree
takes t = IsFunc (record { params = (0x78 ∷ [], t) ∷ []; result = None })

abbrev a_type : ValueTree → EntityTree
a_type t = IsType (Value t)

-- m exports an enum t
abbrev giving : LeftTree
giving = left_import m (IsInstance (entry (0x74 ∷ []) (a_type (t_of 1)) true no_entry))

-- n mentions it in f, and exports it again afterwards
abbrev later : LeftTree
later = left_import n (IsInstance (entry (0x66 ∷ []) (takes (t_of 1)) true (entry (0x74 ∷ []) (a_type (t_of 1)) true no_entry)))

later_row : is_brought of_m later ≡ false
later_row = refl

-- or before: then it needs nothing of m
abbrev earlier : LeftTree
earlier = left_import n (IsInstance (entry (0x74 ∷ []) (a_type (t_of 1)) true (entry (0x66 ∷ []) (takes (t_of 1)) true no_entry)))

earlier_row : is_brought of_m earlier ≡ true
earlier_row = refl

again_row : needs of_m earlier ≡ []
again_row = refl

-- n only mentions it
abbrev mentioning : LeftTree
mentioning = left_import n (IsInstance (entry (0x66 ∷ []) (takes (t_of 1)) true no_entry))

needs_row : needs of_m mentioning ≡ m ∷ []
needs_row = refl

order_row : IsOrder (is_ready (all_needs of_m (mentioning ∷ giving ∷ []))) (all_of (all_needs of_m (mentioning ∷ giving ∷ []))) (1 ∷ 0 ∷ [])
order_row = (0 ∷ [], [], refl, (refl, tt), refl, ([], [], refl, tt, refl, refl))

-- m mentions n's enum, and n m's: m has no place
abbrev of_both : Lefts
of_both k = if k == 1 then Some m else Some n

abbrev first_of_two : LeftTree
first_of_two = left_import m (IsInstance (entry (0x74 ∷ []) (a_type (t_of 1)) true (entry (0x66 ∷ []) (takes (t_of 2)) true no_entry)))

abbrev other_of_two : LeftTree
other_of_two = left_import n (IsInstance (entry (0x75 ∷ []) (a_type (t_of 2)) true (entry (0x67 ∷ []) (takes (t_of 1)) true no_entry)))

circle_row : HasNoPlace of_both (first_of_two ∷ other_of_two ∷ []) m
circle_row = record {
  brought = (refl, (refl, tt));
  number = 0;
  stuck = record { taken = []; rest = 1 ∷ []; takes = refl; none = (refl, (refl, tt)) };
  named = record { import = first_of_two; there = refl; named = refl };
}

-- ---- resources

-- an instance makes the resource
abbrev of_none : Lefts
of_none k = None

abbrev handing : EntityTree
handing = IsFunc (record { params = []; result = Some (Own (made 0)) })

abbrev again : LeftTree
again = left_import n (IsInstance (entry (0x72 ∷ []) (IsType (Resource (made 0))) true (entry (0x66 ∷ []) handing true no_entry)))

-- exported again, it is still not brought
made_row : is_brought of_none again ≡ false
made_row = refl
