use Rattle.std.proofs.Common.{IsUtf8, subst}
use Rattle.warg_record.specs.KeyLaws.{is_key_text-sound}
use Rattle.warg_record.proofs.key.Signature.as_str.Goals as goal

pub returns-clause-form : goal.returns-clause-form
returns-clause-form c = rw (← c.self.view_is) (is_key_text-sound c.self.inside.text (subst IsUtf8 c.as_str.ensures c.as_str.utf8) c.self.invariant)
