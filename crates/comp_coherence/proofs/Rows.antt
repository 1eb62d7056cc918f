-- Small shapes in which one name stands for one type, and one in which it does not.
use Rattle.std.proofs.Common.{◌≡◌, true, [], ◌∷◌, Option, Some, None, refl, sym, ◌∙◌}
use Rattle.comp_format.specs.declared.types.Primitive.TheVariants as primitive
use Rattle.comp_format.specs.declared.types.Primitive.{Primitive as PrimitiveType}
use Rattle.comp_entity.specs.Entity.{Name, made, brought, ValueTree, Primitive, RecordOf, no_case, labelled, present, Value, Resource, Instance, IsType, IsFunc, no_entry, entry, ShapeTree}
use Rattle.comp_coherence.specs.Coherence.{IsCoherent}
use Rattle.comp_coherence.specs.NamedTypes.{named_in}

-- a record of one field, which a place named
abbrev record_of : Option Name → PrimitiveType → ValueTree
record_of place p = RecordOf place (labelled (97 ∷ []) (present (Primitive p)) no_case)

-- an import of the record, and one of a function of it
abbrev two_mentions : PrimitiveType → PrimitiveType → ShapeTree
two_mentions p q = record {
  imports =
      (98 ∷ [], IsType (Value (record_of (Some (brought 0)) p)))
      ∷ (99 ∷ [], IsFunc (record { params = (97 ∷ [], record_of (Some (brought 0)) q) ∷ []; result = None })) ∷ [];
  exports = [];
}

one_record : IsCoherent (two_mentions primitive.Bool primitive.Bool)
one_record = record {
  tree = λ n. Some (record_of None primitive.Bool);
  imports = ((refl, (tt, tt)), ((((refl, (tt, tt)), tt), tt), tt));
  exports = tt;
}

two_records : IsCoherent (two_mentions primitive.Bool primitive.U8) → ⊥
two_records h =
    let both : Some (record_of None primitive.Bool) ≡ Some (record_of None primitive.U8) = sym h.imports.0.0 ∙ h.imports.1.0.0.0.0 in
    absurd cc

-- within a type of instances the first name that is made is another one than around it
abbrev own_names : ShapeTree
own_names = record {
  imports =
      (98 ∷ [], IsType (Value (record_of (Some (made 0)) primitive.Bool)))
      ∷ (99 ∷ [], IsType (Instance (entry (97 ∷ []) (IsType (Value (record_of (Some (made 0)) primitive.U8))) true no_entry))) ∷ [];
  exports = [];
}

each_its_own : IsCoherent own_names
each_its_own = record {
  tree = λ n. Some (record_of None primitive.Bool);
  imports = ((refl, (tt, tt)), (((λ n. Some (record_of None primitive.U8)), ((refl, (tt, tt)), tt)), tt));
  exports = tt;
}

-- what is mentioned there, and how deep
mentions : named_in own_names
    ≡ record { depth = 0; place = made 0; tree = record_of (Some (made 0)) primitive.Bool }
    ∷ record { depth = 1; place = made 0; tree = record_of (Some (made 0)) primitive.U8 } ∷ []
mentions = refl

-- a shape that mentions a resource of a scope around the component
from_around : IsCoherent (record { imports = (98 ∷ [], IsType (Resource (record { out = 2; number = 0 }))) ∷ []; exports = [] }) → ⊥
from_around h = absurd cc
