use Rattle.std.proofs.Common.{refl}
use Rattle.std.proofs.lemmas.Str.{is_utf8-from_IsUtf8}
use Rattle.warg_json.proofs.JsonLaws.{no_json}
use Rattle.warg_json.proofs.reply.value_in_bytes.Goals as goal

pub returns-in-Ok : goal.returns-in-Ok
returns-in-Ok c = rw (is_utf8-from_IsUtf8 c.args.bytes.now c.in-Ok.ensures.ok.0, c.in-Ok.ensures.ok.1) refl

pub returns-else-is_memory : goal.returns-else-is_memory
returns-else-is_memory c = rw (no_json c.args.bytes.now (c.in-Err.ensures.err (λ m. absurd (cc (c.if-is_memory.false, c.is_memory.ensures.1 m))))) refl
