-- What readers of JSON answer, beside what the value means.
use Rattle.std.specs.Prelude.{◌≡◌, Result, Ok, Err}
use Rattle.warg_exchange.specs.Body.{Meaning, Unexpected, NoHash}
use Rattle.warg_exchange.specs.Replies.{ReplyFault, NoMeaning, Refused}
use Rattle.warg_json.specs.declared.error.BodyError.{BodyError}
use Rattle.warg_json.specs.declared.error.BodyError.TheVariants as error
use Rattle.warg_json.specs.declared.reply.ReplyError.{ReplyError}
use Rattle.warg_json.specs.declared.reply.ReplyError.TheVariants as reply

-- An error tells why the value has no meaning. Want of memory tells nothing.
abbrev pub BodyFails : {Y : Type 0} → BodyError → Meaning Y → Type 0
BodyFails error.Unexpected meaning = meaning ≡ Err Unexpected
BodyFails (error.NoHash text) meaning = meaning ≡ Err (NoHash text)
BodyFails error.Memory meaning = Unit {0}

-- What was read, seen by view, is what the value means.
abbrev pub BodyGives : {X Y : Type 0} → (X → Y) → Result X BodyError → Meaning Y → Type 0
BodyGives view (Ok x) meaning = meaning ≡ Ok (view x)
BodyGives view (Err e) meaning = BodyFails e meaning

-- ---- replies

-- An error tells why the reply gives no value. Want of memory tells nothing.
abbrev pub ReplyFails : {Y : Type 0} → ReplyError → Result Y ReplyFault → Type 0
ReplyFails (reply.NoMeaning error.Unexpected) said = said ≡ Err (NoMeaning Unexpected)
ReplyFails (reply.NoMeaning (error.NoHash text)) said = said ≡ Err (NoMeaning (NoHash text))
ReplyFails (reply.NoMeaning error.Memory) said = Unit {0}
ReplyFails (reply.Refused e) said = said ≡ Err (Refused e)

-- What was read, seen by view, is what the reply says.
abbrev pub ReplyGives : {X Y : Type 0} → (X → Y) → Result X ReplyError → Result Y ReplyFault → Type 0
ReplyGives view (Ok x) said = said ≡ Ok (view x)
ReplyGives view (Err e) said = ReplyFails e said
