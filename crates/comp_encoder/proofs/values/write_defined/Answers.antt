use Rattle.std.proofs.Common.{List, ℕ, All, Option, subst}
use Rattle.std.specs.Str.{IsUtf8}
use Rattle.comp_format.specs.declared.types.ValType.{ValType}
use Rattle.comp_encoder.specs.Texts.{HasText}
use Rattle.comp_encoder.proofs.values.write_defined.Goals as goal

pub returns-in_ok-write_vector-in-RecordOf-clause-texts : goal.returns-in_ok-write_vector-in-RecordOf-clause-texts
returns-in_ok-write_vector-in-RecordOf-clause-texts c = rw c.in-RecordOf.is (subst (λ (xs : List (List ℕ × ValType)). All HasText xs) c.as_slice.ensures c.in_ok-write_vector-in-RecordOf.ensures.texts)

pub returns-in_ok-write_vector-in-VariantOf-clause-texts : goal.returns-in_ok-write_vector-in-VariantOf-clause-texts
returns-in_ok-write_vector-in-VariantOf-clause-texts c = rw c.in-VariantOf.is (subst (λ (xs : List (List ℕ × Option ValType)). All HasText xs) c.as_slice-in-VariantOf.ensures c.in_ok-write_vector-in-VariantOf.ensures.texts)

pub returns-in_ok-write_vector-in-FlagsOf-clause-texts : goal.returns-in_ok-write_vector-in-FlagsOf-clause-texts
returns-in_ok-write_vector-in-FlagsOf-clause-texts c = rw c.in-FlagsOf.is (subst (λ (xs : List (List ℕ)). All IsUtf8 xs) c.as_slice-in-FlagsOf.ensures c.in_ok-write_vector-in-FlagsOf.ensures.texts)

pub returns-in_ok-write_vector-in-EnumOf-clause-texts : goal.returns-in_ok-write_vector-in-EnumOf-clause-texts
returns-in_ok-write_vector-in-EnumOf-clause-texts c = rw c.in-EnumOf.is (subst (λ (xs : List (List ℕ)). All IsUtf8 xs) c.as_slice-in-EnumOf.ensures c.in_ok-write_vector-in-EnumOf.ensures.texts)
