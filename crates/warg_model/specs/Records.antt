-- Records as a registry of one key makes them: of one entry each, in the second of their place in the registry's list.
use Rattle.std.specs.Prelude.{ℕ, ◌&&◌, if◌then◌else◌, List, [], ◌∷◌, bytes_eq}
use Rattle.sha2.specs.Sha256.{sha256}
use Rattle.warg_record.specs.Record.{PlainEntry, PlainRecord, record_text}
use Rattle.warg_record.specs.Envelope.{Signed}
use Rattle.warg_log.specs.Rules.{Accepts, head_id, head_of}
use Rattle.warg_model.specs.declared.key.SigningKey.{SigningKey}

-- which keys, texts and signatures go together, where one key has one signature for each text
abbrev pub accepted_by : SigningKey → Accepts
accepted_by k key text signature = bytes_eq key k.key && bytes_eq signature k.signature

-- the record of an entry at a place of the registry's list, behind the records of its log
abbrev pub record_at : ℕ → List Signed → PlainEntry → PlainRecord
record_at place log entry = record {
  prev = head_id (head_of log);
  version = 0;
  time = record { seconds = place; nanos = 0 };
  entries = entry ∷ [];
}

-- a record as the key signs it
abbrev pub signed_by : SigningKey → PlainRecord → Signed
signed_by k r = record { rec = r; contents = record_text r; key_id = sha256 k.key; signature = k.signature }

-- the records of the log with this id, among records of several logs
unfoldable pub records_of : List ℕ → List (List ℕ × Signed) → List Signed
records_of id [] = []
records_of id (e ∷ entries) = if bytes_eq e.0 id then e.1 ∷ records_of id entries else records_of id entries
