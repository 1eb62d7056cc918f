use Rattle.std.proofs.Common.{List, ℕ, All, subst}
use Rattle.comp_format.specs.declared.types.ValType.{ValType}
use Rattle.comp_encoder.specs.Texts.{HasText}
use Rattle.comp_encoder.proofs.values.write_func.Goals as goal

pub returns-clause-texts : goal.returns-clause-texts
returns-clause-texts c = subst (λ (xs : List (List ℕ × ValType)). All HasText xs) c.as_slice.ensures c.in_ok-write_vector.ensures.texts
