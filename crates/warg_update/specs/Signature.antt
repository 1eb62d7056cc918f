-- Why no key of an operator's log signed a checkpoint.
use Rattle.std.specs.Prelude.{◌≡◌, ℕ, List, false, Some, None}
use Rattle.warg_log.specs.Rules.{Accepts, entries_of}
use Rattle.warg_log.specs.History.{key_with}
use Rattle.warg_exchange.specs.declared.checkpoint.SignedCheckpoint.{SignedCheckpoint}
use Rattle.warg_info.specs.Kept.{Kept, signed_log}
use Rattle.warg_update.specs.Proved.{checkpoint_text}
use Rattle.warg_update.specs.declared.signature.SignatureError.{SignatureError}
use Rattle.warg_update.specs.declared.signature.SignatureError.TheVariants as error

-- the log has no key of this id; or the key's signature is not that of the checkpoint. Want of memory says nothing
abbrev pub IsSignatureFault : SignatureError → Accepts → List Kept → SignedCheckpoint → Type 0
IsSignatureFault (error.UnknownKey key_id) accepts operator c =
    (key_id ≡ c.key_id) × (key_with c.key_id (entries_of (signed_log operator)) ≡ None)
IsSignatureFault error.BadSignature accepts operator c =
    (key : List ℕ) × (key_with c.key_id (entries_of (signed_log operator)) ≡ Some key)
    × (accepts key (checkpoint_text c.contents) c.signature ≡ false)
IsSignatureFault error.Memory accepts operator c = Unit {0}
