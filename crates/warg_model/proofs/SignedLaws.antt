-- That a registry's checkpoint is signed, where its key's signatures are accepted.
use Rattle.std.proofs.Common.{◌≡◌, ◌<◌, ◌∷◌, ◌++◌, [], List, ℕ, zero, suc, Bool, true, Option, Some, None, IfSome, ◌∙◌, ap, subst, map, take, arith}
use Rattle.std.specs.Prelude.{cond, find}
use Rattle.std.specs.List.{AllByRecursion, filter_map}
use Rattle.sha2.specs.Sha256.{sha256}
use Rattle.warg_hash.specs.Hash.{operator_log_id}
use Rattle.warg_record.specs.Record.{Package}
use Rattle.warg_record.specs.Envelope.{Signed}
use Rattle.warg_log.specs.History.{key_with, key_in, has_id}
use Rattle.warg_log.specs.Rules.{Accepts, entries_of, signed_text}
use Rattle.warg_exchange.specs.declared.checkpoint.Checkpoint.{Checkpoint}
use Rattle.warg_exchange.specs.declared.checkpoint.SignedCheckpoint.{SignedCheckpoint}
use Rattle.warg_update.specs.Proved.{IsSigned, checkpoint_text}
use Rattle.warg_ledger.specs.Registry.{log_below}
use Rattle.warg_model.specs.declared.key.SigningKey.{SigningKey}
use Rattle.warg_model.specs.Records.{record_at, signed_by, records_of}
use Rattle.warg_model.specs.Held.{Held, IsModel, IsLatest, AcceptsSigned, init_of, registry_of}
use Rattle.warg_model.proofs.RecordLaws.{signed-records}
use Rattle.warg_model.proofs.SignatureLaws.{all-behind, all-mapped, all-middle, same-text}

-- the key of an Init that opens a log is known by its id
known-key : (k : SigningKey) (s : Signed) (rest : List Signed) → s ≡ signed_by k (record_at 0 [] (init_of k)) → key_with (sha256 k.key) (entries_of (s ∷ rest)) ≡ Some k.key
known-key k s rest made =
    ap (λ (t : Signed). key_with (sha256 k.key) (entries_of (t ∷ rest))) made
    ∙ ap (λ (b : Bool). cond b (Some k.key) (find (has_id (sha256 k.key)) (filter_map key_in (entries_of rest)))) (same-text (sha256 k.key))

-- the operator's record comes first
pub opening-first : (h : Held) (n : ℕ) → 0 < n → (rest : List Signed) × (records_of operator_log_id (take n (registry_of h).entries) ≡ h.opening ∷ rest)
unfolding records_of
opening-first h zero positive = absurd (omega (arith, positive))
opening-first h (suc n) positive =
    let rest = records_of operator_log_id (take n h.published) in
    (rest, ap (λ (b : Bool). cond b (h.opening ∷ rest) rest) (same-text operator_log_id))

-- the signature of a checkpoint that was made is accepted
checkpoint-accepted : (accepts : Accepts) (h : Held) (before : List Checkpoint) (c : Checkpoint) → AcceptsSigned accepts h → h.checkpoints ≡ before ++ c ∷ [] → accepts h.key.key (checkpoint_text c) h.key.signature ≡ true
checkpoint-accepted accepts h before c own last =
    let Own : List ℕ → Type 0 = λ t. accepts h.key.key t h.key.signature ≡ true in
    let behind = all-behind Own (map (λ e. signed_text Package e.1.contents) h.published) (map checkpoint_text h.checkpoints) own.1 in
    let each = all-mapped Own checkpoint_text h.checkpoints behind in
    all-middle (λ d. Own (checkpoint_text d)) before [] c (subst (AllByRecursion (λ d. Own (checkpoint_text d))) last each)

-- so the last of them is signed
pub latest-signed : (accepts : Accepts) (h : Held) (c : SignedCheckpoint) → IsModel h → AcceptsSigned accepts h → IsLatest h c
    → IsSigned accepts (log_below (registry_of h) c.contents.log_length operator_log_id) c
latest-signed accepts h c model own latest =
    let n = c.contents.log_length in
    let first = opening-first h n latest.is.positive in
    let log = signed-records (registry_of h).token operator_log_id 0 (take n (registry_of h).entries) ∙ first.1 in
    record {
      key = h.key.key;
      known = ap (λ (id : List ℕ). key_with id (entries_of (map (λ k. k.signed) (log_below (registry_of h) n operator_log_id)))) latest.key_id
          ∙ ap (λ (l : List Signed). key_with (sha256 h.key.key) (entries_of l)) log ∙ known-key h.key h.opening first.0 model.opening;
      accepted = ap (accepts h.key.key (checkpoint_text c.contents)) latest.signature ∙ checkpoint-accepted accepts h latest.before c.contents own latest.last;
    }

pub if-latest-signed : (accepts : Accepts) (h : Held) (latest : Option SignedCheckpoint) → IsModel h → AcceptsSigned accepts h → IfSome latest (IsLatest h)
    → IfSome latest (λ c. IsSigned accepts (log_below (registry_of h) c.contents.log_length operator_log_id) c)
if-latest-signed accepts h None model own is = tt
if-latest-signed accepts h (Some c) model own is = latest-signed accepts h c model own is
