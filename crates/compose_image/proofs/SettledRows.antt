-- Left imports that several instances need, each with numbers of its own: the names by which they are written.
use Rattle.std.proofs.Common.{◌≡◌, ℕ, List, [], ◌∷◌, Some, None, true, refl}
use Rattle.std.specs.Prelude.{codes}
use Rattle.comp_entity.specs.Entity.{Name, made, ValueTree, EnumOf, Value, EntityTree, IsType, IsFunc, IsInstance, entry, no_entry}
use Rattle.compose_left.specs.declared.spots.Spot.{Spot}
use Rattle.compose_order.specs.Needs.{LeftTree}
use Rattle.compose_naming.specs.Settled.{names_of, settled}

abbrev letters : Name → ValueTree
letters n = EnumOf (Some n) (codes "e" ∷ [])

abbrev a_type : ℕ → EntityTree
a_type n = IsType (Value (letters (made n)))

abbrev takes : ℕ → EntityTree
takes n = IsFunc (record { params = (codes "x", letters (made n)) ∷ []; result = None })

-- an enum r, another one s, and a function of each
abbrev of_numbers : (r f s g : ℕ) → EntityTree
of_numbers r f s g =
    IsInstance (entry (codes "r") (a_type r) true (entry (codes "f") (takes f) true (entry (codes "s") (a_type s) true
    (entry (codes "g") (takes g) true no_entry))))

abbrev called : List ℕ → ℕ → Spot
called name n = record {
  number = 0;
  name = codes "p";
  path = name ∷ [];
  what = record { is_type = true; out = 0; number = n };
}

-- r is called by 2 and by 5, and s by 9 and by 5, each mentioned by the second of them
abbrev needed : LeftTree
needed = record {
  name = codes "p";
  entity = of_numbers 2 5 9 5;
  calls = called (codes "r") 2 ∷ called (codes "s") 9 ∷ called (codes "r") 5 ∷ called (codes "s") 5 ∷ [];
}

names_row : names_of needed ≡ (made 2, made 2) ∷ (made 5, made 2) ∷ (made 9, made 9) ∷ (made 5, made 9) ∷ []
names_row = refl

-- what was called before is written as it was
settled_row : settled needed ≡ record needed { entity = of_numbers 2 2 9 2 }
settled_row = refl
