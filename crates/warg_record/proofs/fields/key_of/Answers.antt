use Rattle.warg_record.specs.TextLaws.{key_of-none}
use Rattle.warg_record.proofs.fields.key_of.Goals as goal

pub returns-in-Err-Form : goal.returns-in-Err-Form
returns-in-Err-Form c =
    key_of-none c.args.bytes.now c.in_ok-text.text.now c.in_ok-text.ensures (c.new.ensures.form (cc (c.in-Err-Form.is, c.in-Err-Form.field-0-is)))
