use Rattle.std.proofs.Common.{◌≡◌, Some}
use Rattle.warg_record.specs.Reading as reading
use Rattle.warg_record.specs.Reading.{hash_of}
use Rattle.warg_hash.specs.HashLaws.{digest_of-again, digest_of-none}
use Rattle.warg_record.proofs.fields.hash_of.Goals as goal

pub returns-in-Ok : goal.returns-in-Ok
unfolding hash_of
returns-in-Ok c =
    let read : reading.text_of c.args.bytes.now ≡ Some c.in_ok-text.text.now = c.in_ok-text.ensures in
    rw read (digest_of-again c.in_ok-text.text.now _ c.in-Ok.ensures.ok)

pub returns-in-Err-Form : goal.returns-in-Err-Form
unfolding hash_of
returns-in-Err-Form c =
    let read : reading.text_of c.args.bytes.now ≡ Some c.in_ok-text.text.now = c.in_ok-text.ensures in
    rw read (digest_of-none c.in_ok-text.text.now (c.from_text.ensures.form (cc (c.in-Err-Form.is, c.in-Err-Form.field-0-is))))
