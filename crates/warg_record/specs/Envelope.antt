-- Envelopes: a record's contents, the id of the key that signed them, and the signature.
use Rattle.std.specs.Prelude.{◌≡◌, ℕ, List}
use Rattle.warg_hash.specs.Hash.{IsHashText}
use Rattle.warg_record.specs.Key.{IsKeyText}
use Rattle.warg_record.specs.Record.{Kind, PlainRecord, IsRecord, record_text}

-- the contents are the message of this record, which has the form of such a log's records
pub record IsMessageOf (kind : Kind) (contents : List ℕ) (r : PlainRecord) : Type 0 where
  pub form : IsRecord kind r
  pub text : contents ≡ record_text r

-- an envelope: a record with its message, the id of the key that signed it, and the text of the signature
pub record Signed : Type 0 where
  pub rec : PlainRecord
  pub contents : List ℕ
  pub key_id : List ℕ
  pub signature : List ℕ

-- the contents, the text of a key's id and that of a signature are read as this envelope
pub record IsEnvelopeOf (kind : Kind) (contents key_id signature : List ℕ) (s : Signed) : Type 0 where
  pub message : IsMessageOf kind contents s.rec
  pub same_contents : s.contents ≡ contents
  pub key : IsHashText key_id s.key_id
  pub same_signature : s.signature ≡ signature
  pub key_text : IsKeyText signature
