-- That the last record of each proved log is in the registry's log and in its map.
use Rattle.std.proofs.Common.{◌≡◌, ◌<◌, ◌⊎◌, ◌∷◌, [], inl, inr, List, ℕ, zero, suc, Option, Some, None, sym, ◌∙◌, ap, length, get_or, arith}
use Rattle.std.specs.Prelude.{Contains, slice_get, option_map, IsSomeAnd}
use Rattle.std.specs.List.{filter_map, cons_option}
use Rattle.std.proofs.lemmas.Option.{slice_get-map}
use Rattle.hex.specs.Hex.{IsBytes}
use Rattle.sha2.specs.Sha256.{sha256}
use Rattle.warg_hash.specs.ByteLaws.{sha256_is_digest}
use Rattle.warg_hash.specs.Hash.{IsDigest}
use Rattle.warg_log.specs.Rules.{Accepts}
use Rattle.warg_proof.specs.Leaves.{log_entry, map_value}
use Rattle.warg_proof.specs.LogProofs.{ProvesInclusion}
use Rattle.warg_proof.specs.LogTree.{root, path_root, inclusion_clash}
use Rattle.warg_proof.specs.MapProofs.{siblings, log_key, ProvesValue}
use Rattle.warg_proof.specs.MapTree.{Entries, IsMap, IsMapClash, value_at, map_root, map_path_root, map_clash}
use Rattle.warg_proof.specs.Merkle.{AreBytes, AreHashes, IsClash}
use Rattle.warg_exchange.specs.declared.exchange.Exchange.{Exchange}
use Rattle.warg_exchange.specs.declared.checkpoint.SignedCheckpoint.{SignedCheckpoint}
use Rattle.warg_exchange.specs.Requests.{Asker}
use Rattle.warg_info.specs.Kept.{Kept, last_kept}
use Rattle.warg_page.specs.Logs.{Logs, head_in, heads_of, index_in, indices_of, leaf_in, leafs_of, logs_by_id}
use Rattle.warg_update.specs.Included.{StandsAt, HasValue}
use Rattle.warg_update.specs.Proved.{Start, Proves}

-- ---- the laws that are used

pub record ShownLaws : Type 0 where
  pub log : (entries : List (List ℕ)) (index : ℕ) (leaf : List ℕ) (path : List (List ℕ)) → AreBytes entries → IsBytes leaf → AreHashes path → path_root index (length entries) leaf path ≡ Some (root entries)
      → (slice_get entries index ≡ Some leaf) ⊎ IsSomeAnd (inclusion_clash entries index leaf path) IsClash
  pub map : (m : Entries) (key value : List ℕ) (siblings : List (List ℕ)) → IsMap m → IsDigest key → IsBytes value → AreHashes siblings → map_path_root key value siblings ≡ Some (map_root m)
      → (value_at m key ≡ Some value) ⊎ IsSomeAnd (map_clash m key value siblings) IsMapClash
  pub entries : (log_id record_id : List ℕ) → IsBytes (log_entry log_id record_id)
  pub values : (record_id : List ℕ) → IsBytes (map_value record_id)

-- ---- where a log's last record stands among the last records

behind : {A : Type 0} (o : Option A) (xs : List A) (at : ℕ) (x : A) → slice_get xs at ≡ Some x → (n : ℕ) × (slice_get (cons_option o xs) n ≡ Some x)
behind None xs at x there = (at, there)
behind (Some y) xs at x there = (suc at, there)

head-at : (ls : List (List ℕ × List Kept)) (l : List ℕ × List Kept) (k : Kept) (i : ℕ) → i < length ls → get_or ls i l ≡ l → last_kept l.1 ≡ Some k → (at : ℕ) × (slice_get (filter_map head_in ls) at ≡ Some (l.0, k))
head-at [] l k i lt is last = absurd (omega (arith, lt))
head-at (x ∷ ls) l k zero lt is last =
    let head : head_in x ≡ Some (l.0, k) = ap head_in is ∙ ap (option_map (λ (j : Kept). (l.0, j))) last in
    (0, ap (λ (o : Option (List ℕ × Kept)). slice_get (cons_option o (filter_map head_in ls)) 0) head)
head-at (x ∷ ls) l k (suc i) lt is last =
    let rest = head-at ls l k i (omega (arith, lt)) is last in
    behind (head_in x) (filter_map head_in ls) rest.0 (l.0, k) rest.1

-- ---- what is shown of it

in-log : ShownLaws → (accepts : Accepts) (a : Asker) (start : Start) (xs : List Exchange) (logs : Logs) (c : SignedCheckpoint) (entries : List (List ℕ)) (h : List ℕ × Kept) (at : ℕ) → Proves accepts a start xs logs c
    → slice_get (heads_of logs) at ≡ Some h → AreBytes entries → length entries ≡ c.contents.log_length → root entries ≡ c.contents.log_root
    → StandsAt entries (index_in h) (log_entry (leaf_in h).log_id (leaf_in h).record_id)
in-log laws accepts a start xs logs c entries h at p there bytes len roots =
    let n = c.contents.log_length in
    let text = log_entry (leaf_in h).log_id (leaf_in h).record_id in
    let index_there : slice_get (indices_of logs) at ≡ Some (index_in h) = slice_get-map index_in (heads_of logs) at ∙ ap (option_map index_in) there in
    let leaf_there : slice_get (leafs_of logs) at ≡ Some (leaf_in h) = slice_get-map leaf_in (heads_of logs) at ∙ ap (option_map leaf_in) there in
    let shown : ProvesInclusion p.asks_inclusion.includes.in_log.bundle at n (index_in h) text c.contents.log_root = p.asks_inclusion.includes.in_log.paths at (index_in h) (leaf_in h) index_there leaf_there in
    let gives : path_root (index_in h) (length entries) text shown.path ≡ Some (root entries) =
    ap (λ (m : ℕ). path_root (index_in h) m text shown.path) len ∙ shown.gives_root ∙ ap (λ (r : List ℕ). Some r) (sym roots) in
    elim (laws.log entries (index_in h) text shown.path bytes (laws.entries (leaf_in h).log_id (leaf_in h).record_id) shown.are_hashes gives) [
      | inl is ↦ inl is
      | inr clash ↦ inr (shown.path, clash)
    ]

in-map : ShownLaws → (accepts : Accepts) (a : Asker) (start : Start) (xs : List Exchange) (logs : Logs) (c : SignedCheckpoint) (m : Entries) (h : List ℕ × Kept) (at : ℕ) → Proves accepts a start xs logs c
    → slice_get (heads_of logs) at ≡ Some h → IsMap m → map_root m ≡ c.contents.map_root → HasValue m (log_key (leaf_in h).log_id) (map_value (leaf_in h).record_id)
in-map laws accepts a start xs logs c m h at p there is_map roots =
    let key = log_key (leaf_in h).log_id in
    let value = map_value (leaf_in h).record_id in
    let index_there : slice_get (indices_of logs) at ≡ Some (index_in h) = slice_get-map index_in (heads_of logs) at ∙ ap (option_map index_in) there in
    let leaf_there : slice_get (leafs_of logs) at ≡ Some (leaf_in h) = slice_get-map leaf_in (heads_of logs) at ∙ ap (option_map leaf_in) there in
    let shown : ProvesValue p.asks_inclusion.includes.in_map.bundle at (leaf_in h).log_id value c.contents.map_root = p.asks_inclusion.includes.in_map.paths at (index_in h) (leaf_in h) index_there leaf_there in
    let gives : map_path_root key value (siblings shown.path) ≡ Some (map_root m) = shown.gives_root ∙ ap (λ (r : List ℕ). Some r) (sym roots) in
    elim (laws.map m key value (siblings shown.path) is_map (sha256_is_digest (leaf_in h).log_id) (laws.values (leaf_in h).record_id) shown.are_hashes gives) [
      | inl is ↦ inl is
      | inr clash ↦ inr (siblings shown.path, clash)
    ]

pub head-in-log : ShownLaws → (accepts : Accepts) (a : Asker) (start : Start) (xs : List Exchange) (logs : Logs) (c : SignedCheckpoint) (entries : List (List ℕ)) (l : List ℕ × List Kept) (k : Kept) → Proves accepts a start xs logs c
    → Contains (logs_by_id logs) l → last_kept l.1 ≡ Some k → AreBytes entries → length entries ≡ c.contents.log_length → root entries ≡ c.contents.log_root
    → StandsAt entries k.registry_index (log_entry l.0 (sha256 k.signed.contents))
head-in-log laws accepts a start xs logs c entries l k p has last bytes len roots =
    let head = head-at (logs_by_id logs) l k has.0 has.1 has.2 last in
    in-log laws accepts a start xs logs c entries (l.0, k) head.0 p head.1 bytes len roots

pub head-in-map : ShownLaws → (accepts : Accepts) (a : Asker) (start : Start) (xs : List Exchange) (logs : Logs) (c : SignedCheckpoint) (m : Entries) (l : List ℕ × List Kept) (k : Kept) → Proves accepts a start xs logs c
    → Contains (logs_by_id logs) l → last_kept l.1 ≡ Some k → IsMap m → map_root m ≡ c.contents.map_root → HasValue m (log_key l.0) (map_value (sha256 k.signed.contents))
head-in-map laws accepts a start xs logs c m l k p has last is_map roots =
    let head = head-at (logs_by_id logs) l k has.0 has.1 has.2 last in
    in-map laws accepts a start xs logs c m (l.0, k) head.0 p head.1 is_map roots
