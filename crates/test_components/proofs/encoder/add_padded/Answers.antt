use Rattle.std.proofs.Common.{[], ◌∷◌, refl, arith, inl, inr}
use Rattle.comp_format.specs.declared.types.Primitive.TheVariants as primitive
use Rattle.comp_format.specs.declared.types.DefinedType.TheVariants as defined
use Rattle.comp_format.specs.Definitions as tree
use Rattle.comp_format.specs.Items.{Ty}
use Rattle.comp_format.specs.Sections.{Types}
use Rattle.test_components.proofs.encoder.add_padded.Goals as goal

-- two types, behind their number in two bytes
pub raw_section-requires : goal.raw_section-requires
raw_section-requires c = (
  Ty (tree.Defined (defined.Primitive primitive.Bool)) ∷ Ty (tree.Defined (defined.Primitive primitive.S8)) ∷ [],
  record {
    section = Types (tree.Defined (defined.Primitive primitive.Bool) ∷ tree.Defined (defined.Primitive primitive.S8) ∷ []);
    id_is = refl;
    items_are = refl;
    form = (
      0x7f ∷ 0x7e ∷ [],
      record { form = inr (omega arith, 0, refl, inl (omega arith, refl, refl)); fits = omega arith },
      (0x7e ∷ [], refl, ([], refl, refl)),
    );
  },
)
