-- Digits that decode to an id, but not to themselves, are of none.
use Rattle.std.proofs.Common.{sym, ap, ◌∙◌}
use Rattle.hex.specs.Hex.{encode_lower}
use Rattle.warg_registry_files.proofs.BackLaws.{no_id, not_digits, other_digits}
use Rattle.warg_registry_files.proofs.KeyLaws.{differ}
use Rattle.warg_registry_files.proofs.paths.id_of.Goals as goal

pub returns-in-Err : goal.returns-in-Err
returns-in-Err c = not_digits c.args.digits.now c.in-Err.error (no_id c.args.digits.now c.in-Err.error c.in-Err.ensures.err (c.wants_memory.ensures c.if-wants_memory.false))

pub returns : goal.returns
returns c =
    other_digits c.args.digits.now c.in-Ok.id.items c.in-Ok.ensures.ok
    (λ e. differ c.as_str.result.now c.args.digits.now (sym c.eq.ensures ∙ c.if-eq.false) (c.as_str.ensures.value ∙ c.in_ok-written.ensures ∙ ap encode_lower c.as_slice.ensures.value ∙ e))
