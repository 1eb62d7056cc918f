use Rattle.std.proofs.Common.{subst}
use Rattle.std.specs.Prelude.{IsUtf8}
use Rattle.warg_reply.proofs.bodies.has_form.Goals as goal

pub returns : goal.returns
returns c = (c.key_texts_are_tested.ensures c.args.signature.now (subst IsUtf8 c.as_str-text.ensures.value c.as_str-text.utf8)).1 c.as_str-text.ensures.form
