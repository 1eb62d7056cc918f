-- Registries with more records, or with a checkpoint, are sound with the hashes that they keep.
use Rattle.std.proofs.Common.{◌≡◌, ◌+◌, ◌∷◌, ◌++◌, [], ℕ, List, Bool, true, false, cond, Option, Some, None, refl, sym, ◌∙◌, ap, subst, map, take, length, append_assoc}
use Rattle.std.specs.Prelude.{IfSome, Result, Ok, Err, OnOk, OnErr}
use Rattle.std.proofs.lemmas.List.{take-append-le}
use Rattle.sha2.specs.Sha256.{sha256}
use Rattle.semver.specs.Parse.{Parts}
use Rattle.warg_hash.specs.Hash.{package_log_id}
use Rattle.warg_record.specs.Record.{PlainEntry, Release, Yank}
use Rattle.warg_record.specs.Envelope.{Signed}
use Rattle.warg_log.specs.Rules.{is_first}
use Rattle.warg_proof.specs.Leaves.{log_entry}
use Rattle.warg_exchange.specs.declared.checkpoint.SignedCheckpoint.{SignedCheckpoint}
use Rattle.warg_prover.specs.Asked.{AreHashesOf}
use Rattle.warg_ledger.specs.Registry.{Registry, heads_before}
use Rattle.warg_model.specs.declared.hashes.RegistryHashes.{RegistryHashes}
use Rattle.warg_model.specs.Hashes.{AreHashesBelow, leaf_of}
use Rattle.warg_model.specs.Records.{record_at, signed_by}
use Rattle.warg_model.specs.Held.{Held, IsModel, IsLatest, StartsAs, registry_of, present, init_of, package_records, with_record, with_release, with_yank, with_checkpoint, checkpoint_by}

-- ---- more records

one-behind : (h : Held) (name : List ℕ) (e : PlainEntry) → StartsAs h (with_record h name e)
one-behind h name e = ((package_log_id name, signed_by h.key (record_at (length h.published + 1) (package_records h name) e)) ∷ [], refl)

starts-twice : (h k l : Held) → StartsAs h k → StartsAs k l → StartsAs h l
starts-twice h k l a b = (
  a.0 ++ b.0,
  b.1 ∙ ap (λ (x : Held). record x { published = x.published ++ b.0 }) a.1
      ∙ ap (λ (l : List (List ℕ × Signed)). record h { published = l }) (append_assoc h.published a.0 b.0),
)

pub release-starts : (h : Held) (name : List ℕ) (version : Parts) (content : List ℕ) → StartsAs h (with_release h name version content)
release-starts h name version content = by-first (is_first (package_records h name))
  where
    by-first : (b : Bool) → StartsAs h (with_record (cond b (with_record h name (init_of h.key)) h) name (Release version content))
    by-first true =
        let k = with_record h name (init_of h.key) in
        starts-twice h k (with_record k name (Release version content)) (one-behind h name (init_of h.key)) (one-behind k name (Release version content))
    by-first false = one-behind h name (Release version content)

pub yank-starts : (h : Held) (name : List ℕ) (version : Parts) → StartsAs h (with_yank h name version)
yank-starts h name version = one-behind h name (Yank version)

-- ---- hashes

hashes-kept : (w v : Registry) (n : ℕ) (g : RegistryHashes) → take n v.entries ≡ take n w.entries → AreHashesBelow w n g → AreHashesBelow v n g
hashes-kept w v n g same is = record {
  leaves = is.leaves ∙ ap (λ (l : List (List ℕ × Signed)). map leaf_of l) (sym same);
  log = subst (λ (l : List (List ℕ × Signed)). AreHashesOf (map (λ e. log_entry e.0 (sha256 e.1.contents)) l) g.log) (sym same) is.log;
  map = is.map ∙ ap (λ (l : List (List ℕ × Signed)). heads_before l []) (sym same);
}

-- the hashes that are kept are those below the last checkpoint
abbrev pub KeepsHashes : Held → Option RegistryHashes → Type 0
KeepsHashes h kept = (c : SignedCheckpoint) → h.latest ≡ Some c → IfSome kept (AreHashesBelow (registry_of h) c.contents.log_length)

pub kept-behind : (h k : Held) (kept : Option RegistryHashes) → StartsAs h k → IsModel h → KeepsHashes h kept → KeepsHashes k kept
kept-behind h k None starts model keeps c is = tt
kept-behind h k (Some g) starts model keeps c is =
    let was : h.latest ≡ Some c = sym (ap (λ (x : Held). x.latest) starts.1) ∙ is in
    let of : IsLatest h c = subst (λ (o : Option SignedCheckpoint). IfSome o (IsLatest h)) was model.latest in
    let n = c.contents.log_length in
    let same : take n (registry_of k).entries ≡ take n (registry_of h).entries =
    ap (λ (x : Held). take n (registry_of x).entries) starts.1 ∙ take-append-le n (registry_of h).entries starts.0 of.is.below in
    hashes-kept (registry_of h) (registry_of k) n g same (keeps c was)

pub kept-same : (h k : Held) (kept : Option RegistryHashes) → k ≡ h → KeepsHashes h kept → KeepsHashes k kept
kept-same h k kept is keeps = subst (λ (x : Held). KeepsHashes x kept) (sym is) keeps

pub kept-grown : (h k : Held) (g : RegistryHashes) → k ≡ with_checkpoint h → AreHashesBelow (registry_of h) (length (registry_of h).entries) g → KeepsHashes k (Some g)
kept-grown h k g is of = subst (λ (x : Held). KeepsHashes x (Some g)) (sym is) (λ c latest. subst (λ (n : ℕ). AreHashesBelow (registry_of h) n g) (ap (λ (s : SignedCheckpoint). s.contents.log_length) (one-is (checkpoint_by h.key (present h)) c latest)) of)
  where
    one-is : (a c : SignedCheckpoint) → Some a ≡ Some c → a ≡ c
    one-is a c e = cc e

-- what a call made of a registry, or left as it was
pub kept-changed : {X E : Type 0} (r : Result X E) (h k l : Held) (kept : Option RegistryHashes) → OnOk r (k ≡ l) → OnErr r (k ≡ h) → StartsAs h l → IsModel h → KeepsHashes h kept → KeepsHashes k kept
kept-changed (Ok x) h k l kept ok err starts model keeps = kept-same l k kept ok (kept-behind h l kept starts model keeps)
kept-changed (Err e) h k l kept ok err starts model keeps = kept-same h k kept err keeps
