use Rattle.std.proofs.Common.{rules}
use Rattle.test_types.proofs.FormLaws.{func_parts}
use Rattle.test_types.proofs.form.keeps_func.Goals as goal

pub returns : goal.returns
returns c = λ t. func_parts c.args.func.now (rw c.deref.ensures.value at (c.are_labelled.ensures (search rules))) (rw c.deref-2.ensures.value at (c.keep_fields.ensures (search rules))) (c.keeps_held.ensures t)
