use Rattle.std.proofs.Common.{rules}
use Rattle.test_types.proofs.form.keeps_module.Goals as goal

pub returns : goal.returns
returns c = λ t. record {
  imports = rw c.as_slice.ensures at (c.keep_core_imports.ensures (search rules));
  exports = rw c.as_slice-2.ensures at (c.keep_core_exports.ensures t);
}
