-- Records that are written are read as they were.
use Rattle.std.proofs.Common.{◌≡◌, ◌≤◌, false, List, [], ◌∷◌, ◌++◌, map, Some, refl, sym, arith}
use Rattle.std.specs.Prelude.{Ok}
use Rattle.std.specs.List.{AllByRecursion}
use Rattle.std.proofs.Math.Nat.{max-le}
use Rattle.serde_json.specs.Data.{array, items_depth}
use Rattle.serde_json.specs.View.{items_of}
use Rattle.serde_json.specs.Written.{items_have_float}
use Rattle.warg_hash.specs.Hash.{hash_text}
use Rattle.warg_record.specs.Record.{Kind}
use Rattle.warg_log.specs.Lawful.{AreRead, IsLawful}
use Rattle.warg_log.specs.Rules.{any_signature}
use Rattle.warg_exchange.specs.declared.logs.PublishedRecord.{PublishedRecord}
use Rattle.warg_exchange.specs.Body.{each_item, list_in}
use Rattle.warg_exchange.specs.Replies.{published_in}
use Rattle.warg_info.specs.Kept.{Kept, AreKeptAs, Ascends, signed_log}
use Rattle.warg_info_text.specs.StoredLogs.{log_in}
use Rattle.warg_info_text.specs.StoredTexts.{kept_data}
use Rattle.warg_info_text.specs.Writable.{IsWritable}
use Rattle.warg_info_text.proofs.ReplayLaws.{TestsKeys, replay_is_read}

-- a record that is kept, as it is published
abbrev pub published_of : Kept → PublishedRecord
published_of k = record {
  content_bytes = k.signed.contents;
  key_id = hash_text k.signed.key_id;
  signature = k.signed.signature;
  registry_index = k.registry_index;
  fetch_token = k.fetch_token;
}

pub record_read : (k : Kept) → IsWritable k → published_in (kept_data k) ≡ Ok (published_of k)
unfolding published_in
record_read k is = rw (is.contents) refl

records_read : (ks : List Kept) → AllByRecursion IsWritable ks → each_item published_in (items_of (map kept_data ks)) ≡ Ok (map published_of ks)
unfolding each_item
records_read [] is = refl
records_read (k ∷ ks) is = rw (record_read k is.0, records_read ks is.1) refl

pub list_read : (ks : List Kept) → AllByRecursion IsWritable ks → list_in published_in (array (items_of (map kept_data ks))) ≡ Ok (map published_of ks)
list_read ks is = records_read ks is

pub records_no_float : (ks : List Kept) → items_have_float (items_of (map kept_data ks)) ≡ false
records_no_float [] = refl
records_no_float (k ∷ ks) = records_no_float ks

pub records_nest : (ks : List Kept) → items_depth (items_of (map kept_data ks)) ≤ 1
records_nest [] = omega arith
records_nest (k ∷ ks) = max-le (omega arith) (records_nest ks)

-- ---- the log

as_kept : (kind : Kind) (ks : List Kept) → AllByRecursion IsWritable ks → AreRead kind (signed_log ks) → AreKeptAs kind (map published_of ks) ks
as_kept kind [] is read = tt
as_kept kind (k ∷ ks) is read = (
  record {
    short = read.0.short;
    envelope = record {
      message = read.0.message;
      same_contents = refl;
      key = (is.0.key_id, refl);
      same_signature = refl;
      key_text = is.0.signature;
    };
    registry_index = refl;
    fetch_token = refl;
  },
  as_kept kind ks is.1 read.1,
)

pub log_reads_back : TestsKeys → (kind : Kind) (ks : List Kept) → AllByRecursion IsWritable ks → AreRead kind (signed_log ks) → Ascends ks → IsLawful kind any_signature (signed_log ks) → log_in kind (map published_of ks) ≡ Some ks
log_reads_back keys kind ks is read above lawful = sym (replay_is_read keys kind (map published_of ks) ks (as_kept kind ks is read) above lawful)

-- ---- one more

pub all_push : {X : Type 0} (P : X → Type 0) (xs : List X) (x : X) → AllByRecursion P xs → P x → AllByRecursion P (xs ++ x ∷ [])
all_push P [] x all here = (here, tt)
all_push P (y ∷ xs) x all here = (all.0, all_push P xs x all.1 here)
