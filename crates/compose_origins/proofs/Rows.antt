-- Small compositions in which one number stands for one type, and some in which it does not.
use Rattle.std.proofs.Common.{◌≡◌, ℕ, List, [], ◌∷◌, Option, Some, None, refl, sym, ◌∙◌}
use Rattle.comp_format.specs.declared.types.Primitive.{Primitive as PrimitiveType}
use Rattle.comp_format.specs.declared.types.Primitive.TheVariants as primitive
use Rattle.comp_entity.specs.Entity.{Name, made, brought, ValueTree, Primitive, RecordOf, no_case, labelled, present, Value, EntityTree, IsType, IsFunc, ShapeTree}
use Rattle.compose_left.specs.Origins.{of_type, origin_within}
use Rattle.compose_left.specs.Spots.{named_type}
use Rattle.compose_left.specs.Wiring.{Wiring}
use Rattle.compose_origins.specs.Named.{ImportsBring, IsWellNamed}
use Rattle.compose_origins.specs.Placed.{OneTypeEach}

-- a record of one field, which a place named
abbrev record_of : Option Name → PrimitiveType → ValueTree
record_of place p = RecordOf place (labelled (97 ∷ []) (present (Primitive p)) no_case)

abbrev type_of : Name → PrimitiveType → List ℕ × EntityTree
type_of n p = (98 ∷ [], IsType (Value (record_of (Some n) p)))

-- one that exports such a record as a type, and one that imports it, and a function of it
abbrev giver : PrimitiveType → ShapeTree
giver p = record { imports = []; exports = type_of (made 0) p ∷ [] }

abbrev taker : PrimitiveType → ShapeTree
taker p = record {
  imports = type_of (brought 0) p ∷ (99 ∷ [], IsFunc (record { params = (97 ∷ [], record_of (Some (brought 0)) p) ∷ []; result = None })) ∷ [];
  exports = [];
}

giver_named : IsWellNamed (giver primitive.Bool)
giver_named = record {
  coherent = record { tree = λ n. Some (record_of None primitive.Bool); imports = tt; exports = ((refl, (tt, tt)), tt) };
  imports_brought = tt;
  exports_brought = (((λ is. absurd cc), tt), tt);
  imports_apart = tt;
  exports_apart = (refl, tt, tt);
}

first_spot : ImportsBring (taker primitive.Bool) (named_type (brought 0))
first_spot = (record { number = 0; name = 98 ∷ []; path = []; what = named_type (brought 0) }, refl)

taker_named : IsWellNamed (taker primitive.Bool)
taker_named = record {
  coherent = record {
    tree = λ n. Some (record_of None primitive.Bool);
    imports = ((refl, (tt, tt)), ((((refl, (tt, tt)), tt), tt), tt));
    exports = tt;
  };
  imports_brought = (((λ is. first_spot), tt), (((λ is. first_spot), tt), tt));
  exports_brought = tt;
  imports_apart = (tt, (tt, tt));
  exports_apart = tt;
}

abbrev joined : PrimitiveType → PrimitiveType → Wiring
joined p q = record { shapes = giver p ∷ taker q ∷ []; wires = record { source = 0; export = Some 0; target = 1; import = 0 } ∷ [] }

-- what the wire joins has one number
one_number : of_type (joined primitive.Bool primitive.Bool) 1 (brought 0) ≡ of_type (joined primitive.Bool primitive.Bool) 0 (made 0)
unfolding origin_within
one_number = refl

-- where a wire does not fit, one number has two types
unfit : OneTypeEach (joined primitive.Bool primitive.U8) → ⊥
unfolding origin_within
unfit h =
    let both : Some (record_of None primitive.Bool) ≡ Some (record_of None primitive.U8) = sym (h.exports 0 (giver primitive.Bool) refl).0.0 ∙ (h.imports 1 (taker primitive.U8) refl).0.0 in
    absurd cc

-- where two needs of one left import differ, it has too
disagreeing : OneTypeEach (record { shapes = taker primitive.Bool ∷ taker primitive.U8 ∷ []; wires = [] }) → ⊥
unfolding origin_within
disagreeing h =
    let both : Some (record_of None primitive.Bool) ≡ Some (record_of None primitive.U8) = sym (h.imports 0 (taker primitive.Bool) refl).0.0 ∙ (h.imports 1 (taker primitive.U8) refl).0.0 in
    absurd cc

-- a shape that mentions a type that its imports do not bring, under a number that it gives to another
abbrev not_brought : ShapeTree
not_brought = record { imports = (99 ∷ [], IsFunc (record { params = (97 ∷ [], record_of (Some (brought 0)) primitive.U8) ∷ []; result = None })) ∷ []; exports = type_of (made 0) primitive.Bool ∷ [] }

two_types : OneTypeEach (record { shapes = not_brought ∷ []; wires = [] }) → ⊥
unfolding origin_within
two_types h =
    let both : Some (record_of None primitive.Bool) ≡ Some (record_of None primitive.U8) = sym (h.exports 0 not_brought refl).0.0 ∙ (h.imports 0 not_brought refl).0.0.0.0 in
    absurd cc
