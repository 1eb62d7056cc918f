-- The breaches that errors name.
use Rattle.std.specs.Prelude.{◌≡◌, Option, Some, Bool, true, false}
use Rattle.semver.specs.Identifiers.{parts_of}
use Rattle.warg_log.specs.declared.error.ValidationError.{ValidationError}
use Rattle.warg_log.specs.declared.error.ValidationError.TheVariants as error
use Rattle.warg_log.specs.Rules.{Breach, ProtocolVersion, PreviousRecord, TimeLower, FirstEntryNotInit, UnknownKey, BadSignature, InitAgain, HashAlgorithm, Unpermitted, ReleaseAgain, YankUnreleased, YankYanked, NamespaceTaken}

-- the error is this breach, with its values; want of memory says nothing
abbrev pub IsBreach : ValidationError → Option Breach → Type 0
IsBreach (error.ProtocolVersion version) breach = breach ≡ Some (ProtocolVersion version)
IsBreach (error.PreviousRecord expected found) breach = breach ≡ Some (PreviousRecord expected found)
IsBreach (error.TimeLower head time) breach = breach ≡ Some (TimeLower head time)
IsBreach error.FirstEntryNotInit breach = breach ≡ Some FirstEntryNotInit
IsBreach (error.UnknownKey key_id) breach = breach ≡ Some (UnknownKey key_id)
IsBreach (error.BadSignature key_id) breach = breach ≡ Some (BadSignature key_id)
IsBreach error.InitAgain breach = breach ≡ Some InitAgain
IsBreach (error.HashAlgorithm found) breach = breach ≡ Some (HashAlgorithm found)
IsBreach (error.Unpermitted key_id permission) breach = breach ≡ Some (Unpermitted key_id permission.now)
IsBreach (error.ReleaseAgain version) breach = breach ≡ Some (ReleaseAgain (parts_of version))
IsBreach (error.YankUnreleased version) breach = breach ≡ Some (YankUnreleased (parts_of version))
IsBreach (error.YankYanked version) breach = breach ≡ Some (YankYanked (parts_of version))
IsBreach (error.NamespaceTaken namespace) breach = breach ≡ Some (NamespaceTaken namespace)
IsBreach error.Memory breach = Unit {0}

abbrev pub wants_memory : ValidationError → Bool
wants_memory error.Memory = true
wants_memory _ = false
