-- The rules of a log, in order: the first that fails names the breach, with the values that differ.
use Rattle.std.specs.Prelude.{ℕ, ◌==◌, ◌&&◌, ◌||◌, nat_lt, not, Bool, true, false, if◌then◌else◌, List, [], ◌∷◌, ◌++◌, bytes_eq, codes, is_some, Option, Some, None, option_map, option_and_then}
use Rattle.std.specs.Option.{option_eq, option_or}
use Rattle.std.specs.List.{flat_map}
use Rattle.warg_values.specs.declared.moment.Moment.{Moment}
use Rattle.semver.specs.Parse.{Parts}
use Rattle.sha2.specs.Sha256.{sha256}
use Rattle.warg_record.specs.Record.{Kind, Package, Operator, PlainEntry, Init, GrantFlat, RevokeFlat, Release, Yank, DefineNamespace, ImportNamespace}
use Rattle.warg_record.specs.Envelope.{Signed}
use Rattle.warg_log.specs.declared.head.Head.{Head}
use Rattle.warg_log.specs.History.{key_with, has_id, holds, is_released, is_yanked, namespace_of, last_or}

-- the entries of a list of records, in order
abbrev pub entries_of : List Signed → List PlainEntry
entries_of log = flat_map (λ s. s.rec.entries) log

abbrev pub head_from : Signed → Head
head_from s = record { digest = sha256 s.contents; time = s.rec.time }

-- the head of a log: the last record's id and time, where there is a record
abbrev pub head_of : List Signed → Option Head
head_of [] = None
head_of (s ∷ log) = Some (head_from (last_or s log))

-- what is wrong with a record, with the values that differ
pub data Breach : Type 0 where
  ProtocolVersion : ℕ → Breach
  PreviousRecord : Option (List ℕ) → Option (List ℕ) → Breach
  TimeLower : Moment → Moment → Breach
  FirstEntryNotInit : Breach
  UnknownKey : List ℕ → Breach
  BadSignature : List ℕ → Breach
  InitAgain : Breach
  HashAlgorithm : List ℕ → Breach
  Unpermitted : List ℕ → List ℕ → Breach
  ReleaseAgain : Parts → Breach
  YankUnreleased : Parts → Breach
  YankYanked : Parts → Breach
  NamespaceTaken : List ℕ → Breach

-- a rule: the breach where it is broken, else what the next rules find
abbrev pub broken : Bool → Breach → Option Breach → Option Breach
broken b breach next = if b then Some breach else next

-- ---- the record

-- whether one moment is before another
abbrev pub is_before : Moment → Moment → Bool
is_before a b = nat_lt a.seconds b.seconds || (a.seconds == b.seconds && nat_lt a.nanos b.nanos)

-- the id of the head
abbrev pub head_id : Option Head → Option (List ℕ)
head_id head = option_map (λ (h : Head). h.digest) head

abbrev pub is_earlier : Moment → Option Head → Bool
is_earlier time None = false
is_earlier time (Some head) = is_before time head.time

-- the time of the head, or the record's own where there is no head
abbrev pub head_time : Moment → Option Head → Moment
head_time time None = time
head_time time (Some head) = head.time

-- the key of the entry that opens a log, where that is Init
abbrev pub opening_key : List PlainEntry → Option (List ℕ)
opening_key [] = None
opening_key (Init key algorithm ∷ entries) = Some key
opening_key (_ ∷ entries) = None

-- the key that signs a record: in a log's first record Init's, where the id is that key's; later a known key
abbrev pub signer_key : List Signed → Signed → Option (List ℕ)
signer_key [] s = option_and_then (λ key. if has_id s.key_id key then Some key else None) (opening_key s.rec.entries)
signer_key (r ∷ log) s = key_with s.key_id (entries_of (r ∷ log))

-- whether a log's first record does not begin with Init
abbrev pub lacks_init : List Signed → Signed → Bool
lacks_init [] s = not (is_some (opening_key s.rec.entries))
lacks_init (r ∷ log) s = false

-- the text that is signed: the purpose, and the record's message
abbrev pub signature_prefix : Kind → List ℕ
signature_prefix Package = codes "WARG-PACKAGE-RECORD-SIGNATURE-V0:"
signature_prefix Operator = codes "WARG-OPERATOR-RECORD-SIGNATURE-V0:"

abbrev pub signed_text : Kind → List ℕ → List ℕ
signed_text kind contents = signature_prefix kind ++ contents

-- which keys, texts and signatures go together
abbrev pub Accepts : Type 0
Accepts = List ℕ → List ℕ → List ℕ → Bool

-- any do
abbrev pub any_signature : Accepts
any_signature key text signature = true

-- the signature's rule
abbrev pub signature_breach : Kind → Accepts → Signed → Option (List ℕ) → Option Breach
signature_breach kind accepts s None = Some (UnknownKey s.key_id)
signature_breach kind accepts s (Some key) = broken (not (accepts key (signed_text kind s.contents) s.signature)) (BadSignature s.key_id) None

-- the rules of the record against the head, then others
abbrev pub head_rules : Option Head → Signed → Option Breach → Option Breach
head_rules head s next =
    broken (not (s.rec.version == 0)) (ProtocolVersion s.rec.version)
    (broken (not (option_eq bytes_eq (head_id head) s.rec.prev)) (PreviousRecord (head_id head) s.rec.prev)
    (broken (is_earlier s.rec.time head) (TimeLower (head_time s.rec.time head) s.rec.time) next))

-- the rules of the record itself, by the head, whether Init is lacking, and the signer's key
abbrev pub record_rules : Kind → Accepts → Option Head → Bool → Option (List ℕ) → Signed → Option Breach
record_rules kind accepts head lacks signer s = head_rules head s (broken lacks FirstEntryNotInit (signature_breach kind accepts s signer))

abbrev pub record_breach : Kind → Accepts → List Signed → Signed → Option Breach
record_breach kind accepts log s = record_rules kind accepts (head_of log) (lacks_init log s) (signer_key log s) s

-- ---- each entry, after the entries before it

-- the permission that is asked of the signer
abbrev pub unpermitted : Kind → List ℕ → List PlainEntry → List ℕ → Option Breach → Option Breach
unpermitted kind signer past permission next = broken (not (holds kind signer permission past)) (Unpermitted signer permission) next

-- each of these permissions, in order
abbrev pub each_unpermitted : Kind → List ℕ → List PlainEntry → List (List ℕ) → Option Breach
each_unpermitted kind signer past [] = None
each_unpermitted kind signer past (permission ∷ permissions) = unpermitted kind signer past permission (each_unpermitted kind signer past permissions)

-- the rules of an entry, which opens the log or does not
abbrev pub entry_breach : Kind → List ℕ → Bool → List PlainEntry → PlainEntry → Option Breach
entry_breach kind signer opens past (Init key algorithm) =
    broken (not opens) InitAgain (broken (not (bytes_eq algorithm (codes "sha256"))) (HashAlgorithm algorithm) None)
entry_breach kind signer opens past (GrantFlat key permissions) = each_unpermitted kind signer past permissions
entry_breach kind signer opens past (RevokeFlat key_id permissions) = each_unpermitted kind signer past permissions
entry_breach kind signer opens past (Release version content) =
    unpermitted kind signer past (codes "release") (broken (is_released version past) (ReleaseAgain version) None)
entry_breach kind signer opens past (Yank version) =
    unpermitted kind signer past (codes "yank")
    (broken (not (is_released version past)) (YankUnreleased version) (broken (is_yanked version past) (YankYanked version) None))
entry_breach kind signer opens past (DefineNamespace namespace) =
    unpermitted kind signer past (codes "defineNamespace") (broken (is_some (namespace_of namespace past)) (NamespaceTaken namespace) None)
entry_breach kind signer opens past (ImportNamespace namespace registry) =
    unpermitted kind signer past (codes "importNamespace") (broken (is_some (namespace_of namespace past)) (NamespaceTaken namespace) None)

-- the first entry that breaks a rule, each judged after the entries before it
abbrev pub entries_breach : Kind → List ℕ → Bool → List PlainEntry → List PlainEntry → Option Breach
entries_breach kind signer opens past [] = None
entries_breach kind signer opens past (e ∷ entries) =
    option_or (entry_breach kind signer opens past e) (entries_breach kind signer false (past ++ e ∷ []) entries)

-- whether a record after these is a log's first
abbrev pub is_first : List Signed → Bool
is_first [] = true
is_first (r ∷ log) = false

-- the first rule that a record breaks after these records
abbrev pub breach_of : Kind → Accepts → List Signed → Signed → Option Breach
breach_of kind accepts log s =
    option_or (record_breach kind accepts log s) (entries_breach kind s.key_id (is_first log) (entries_of log) s.rec.entries)
