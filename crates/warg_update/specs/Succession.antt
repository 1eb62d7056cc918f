-- How a checkpoint stands to the stored one.
use Rattle.std.specs.Prelude.{◌≡◌, ◌⊎◌, ◌<◌, Option, Some, None}
use Rattle.warg_exchange.specs.declared.checkpoint.Checkpoint.{Checkpoint}
use Rattle.warg_exchange.specs.declared.checkpoint.SignedCheckpoint.{SignedCheckpoint}
use Rattle.warg_update.specs.Proved.{AreSettled}
use Rattle.warg_update.specs.declared.succession.Succession.{Succession}
use Rattle.warg_update.specs.declared.succession.Succession.TheVariants as how

-- a checkpoint may follow the stored one: none is stored, or one of the same length and roots, or a shorter one
abbrev pub MayFollow : Option SignedCheckpoint → Checkpoint → Type 0
MayFollow None new = Unit {0}
MayFollow (Some old) new = AreSettled old.contents new ⊎ (old.contents.log_length < new.log_length)

abbrev pub StandsTo : Option SignedCheckpoint → Checkpoint → Succession → Type 0
StandsTo None new how.Settled = Unit {0}
StandsTo None new (how.Longer from) = ⊥
StandsTo None new (how.Rewound from to) = ⊥
StandsTo None new (how.Changed log_length) = ⊥
StandsTo (Some old) new how.Settled = AreSettled old.contents new
StandsTo (Some old) new (how.Longer from) = (from ≡ old.contents) × (from.log_length < new.log_length)
StandsTo (Some old) new (how.Rewound from to) =
    (from ≡ old.contents.log_length) × (to ≡ new.log_length) × (to < from)
StandsTo (Some old) new (how.Changed log_length) =
    (log_length ≡ new.log_length) × (old.contents.log_length ≡ log_length) × ¬ AreSettled old.contents new
