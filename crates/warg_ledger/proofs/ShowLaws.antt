-- That an honest registry's bundles show what is asked.
use Rattle.std.proofs.Common.{◌≡◌, ◌<◌, ◌≤◌, ◌∷◌, [], List, ℕ, zero, suc, Option, Some, None, refl, sym, ◌∙◌, ap, subst, length, map, take, arith}
use Rattle.std.specs.Prelude.{Contains, slice_get, option_map}
use Rattle.std.specs.List.{AllByRecursion, filter_map, cons_option}
use Rattle.std.proofs.lemmas.List.{length-map, length-take-le, take-map}
use Rattle.std.proofs.lemmas.Option.{slice_get-map}
use Rattle.hex.specs.Hex.{IsBytes}
use Rattle.sha2.specs.Sha256.{sha256}
use Rattle.warg_hash.specs.Hash.{package_log_id}
use Rattle.warg_record.specs.Envelope.{Signed}
use Rattle.warg_log.specs.Rules.{Accepts}
use Rattle.warg_proof.specs.Leaves.{log_entry, map_value}
use Rattle.warg_proof.specs.LogTree.{root}
use Rattle.warg_proof.specs.LogProofs.{LogProofs, ProvesInclusion, ProvesConsistency}
use Rattle.warg_proof.specs.MapProofs.{MapPath, siblings, log_key, ProvesValue}
use Rattle.warg_proof.specs.MapTree.{Entries, IsMap, value_at, map_root}
use Rattle.warg_proof.specs.TrueProofs.{true_siblings}
use Rattle.warg_prover.specs.Asked.{inclusion_in, IsInclusionBundle, IsConsistencyBundle}
use Rattle.warg_prover.specs.Maps.{IsMapBundleOf}
use Rattle.warg_exchange.specs.declared.checkpoint.Checkpoint.{Checkpoint}
use Rattle.warg_exchange.specs.declared.proof.InclusionResponse.{InclusionResponse}
use Rattle.warg_verify.specs.Shown.{InLog, InMap, Includes, Continues}
use Rattle.warg_info.specs.Kept.{Kept, last_kept}
use Rattle.warg_page.specs.Logs.{Logs, head_in, heads_of, index_in, indices_of, leaf_in, leafs_of, logs_by_id}
use Rattle.warg_ledger.specs.Registry.{Registry, IsRegistry, IsCheckpointOf, log_below, entry_texts, heads}
use Rattle.warg_ledger.specs.Replies.{AreWhole, ShowHeads, ShowsGrowth}
use Rattle.warg_ledger.proofs.HeadLaws.{last-value, is-map}
use Rattle.warg_ledger.specs.PlaceLaws.{last_entry}

-- ---- the laws that are used

pub record ProverLaws : Type 0 where
  pub log : (proofs : LogProofs) (entries : List (List ℕ)) (indices : List ℕ) (at index : ℕ) (entry : List ℕ) → IsInclusionBundle proofs entries indices → slice_get indices at ≡ Some index → slice_get entries index ≡ Some entry
      → ProvesInclusion proofs at (length entries) index entry (root entries)
  pub map : (paths : List MapPath) (m : Entries) (logs : List (List ℕ)) (at : ℕ) (log value : List ℕ) → IsMapBundleOf paths m logs → IsMap m → slice_get logs at ≡ Some log → value_at m (log_key log) ≡ Some value
      → ProvesValue paths at log value (map_root m)
  pub growth : (proofs : LogProofs) (entries : List (List ℕ)) (old : ℕ) → IsConsistencyBundle proofs entries old → 0 < old → old ≤ length entries → ProvesConsistency proofs old (length entries) (root (take old entries)) (root entries)
  pub values : (record_id : List ℕ) → IsBytes (map_value record_id)

-- ---- lists

some-is : {A : Type 0} (x y : A) → Some x ≡ Some y → x ≡ y
some-is x y e = cc e

mapped : {A B : Type 0} (f : A → B) (o : Option A) (y : B) → option_map f o ≡ Some y → (x : A) × (o ≡ Some x) × (f x ≡ y)
mapped f None y e = absurd cc
mapped f (Some x) y e = (x, refl, some-is (f x) y e)

-- what stands at a place of a mapped list
mapped-at : {A B : Type 0} (f : A → B) (xs : List A) (at : ℕ) (y : B) → slice_get (map f xs) at ≡ Some y → (x : A) × (slice_get xs at ≡ Some x) × (f x ≡ y)
mapped-at f xs at y there = mapped f (slice_get xs at) y (sym (slice_get-map f xs at) ∙ there)

in-front : {A : Type 0} (x : A) (n : ℕ) (xs : List A) → Contains (take n xs) x → Contains xs x
in-front x zero xs has = let lt = has.1 in absurd (omega (arith, lt))
in-front x (suc n) [] has = let lt = has.1 in absurd (omega (arith, lt))
in-front x (suc n) (y ∷ xs) (zero, lt, is) = (zero, omega arith, is)
in-front x (suc n) (y ∷ xs) (suc i, lt, is) = let rest = in-front x n xs (i, omega (arith, lt), is) in let less = rest.1 in (suc rest.0, omega (arith, less), rest.2)

-- ---- the last records

-- a log's last record stands among the entries, and at the log's key
record IsHead (w : Registry) (n : ℕ) (h : List ℕ × Kept) : Type 0 where
  entry : slice_get (entry_texts w n) (index_in h) ≡ Some (log_entry h.0 (sha256 h.1.signed.contents))
  value : value_at (heads w n) (log_key h.0) ≡ Some (map_value (sha256 h.1.signed.contents))

one-key : (accepts : Accepts) (w : Registry) (n : ℕ) (id : List ℕ) (s : Signed) → IsRegistry accepts w → Contains (take n w.entries) (id, s) → (e : List ℕ × Signed) → Contains (take n w.entries) e → log_key e.0 ≡ log_key id → e.0 ≡ id
one-key accepts w n id s registry has e there same =
    registry.one_key e (id, s) (in-front e n w.entries there) (in-front (id, s) n w.entries has) same

at-some : {A : Type 0} (xs : List A) (i : ℕ) (x : A) → slice_get xs i ≡ Some x → Contains xs x
at-some [] i x there = absurd cc
at-some (y ∷ xs) zero x there = (0, omega arith, some-is y x there)
at-some (y ∷ xs) (suc i) x there = let rest = at-some xs i x there in let less = rest.1 in (suc rest.0, omega (arith, less), rest.2)

is-head : (accepts : Accepts) (w : Registry) (n : ℕ) (id : List ℕ) (k : Kept) → IsRegistry accepts w → last_kept (log_below w n id) ≡ Some k → IsHead w n (id, k)
is-head accepts w n id k registry last =
    let found = last_entry w.token id (take n w.entries) k last in
    let index : k.registry_index ≡ found.at = let i = found.index in omega (arith, i) in
    let f : List ℕ × Signed → List ℕ = λ e. log_entry e.0 (sha256 e.1.contents) in
    record {
      entry = ap (slice_get (entry_texts w n)) index ∙ slice_get-map f (take n w.entries) found.at ∙ ap (option_map f) found.entry;
      value = last-value w.token id (take n w.entries) k (one-key accepts w n id k.signed registry (at-some (take n w.entries) found.at (id, k.signed) found.entry)) last;
    }

head-of : (Q : List ℕ × Kept → Type 0) (P : List ℕ × List Kept → Type 0) → ((l : List ℕ × List Kept) (k : Kept) → P l → last_kept l.1 ≡ Some k → Q (l.0, k)) → (o : Option Kept) (l : List ℕ × List Kept) → P l → last_kept l.1 ≡ o
    → (rest : List (List ℕ × Kept)) (at : ℕ) (h : List ℕ × Kept) → ((i : ℕ) → slice_get rest i ≡ Some h → Q h) → slice_get (cons_option (option_map (λ k. (l.0, k)) o) rest) at ≡ Some h → Q h
head-of Q P each None l is last rest at h others there = others at there
head-of Q P each (Some k) l is last rest zero h others there = subst Q (some-is (l.0, k) h there) (each l k is last)
head-of Q P each (Some k) l is last rest (suc at) h others there = others at there

each-head : (Q : List ℕ × Kept → Type 0) (P : List ℕ × List Kept → Type 0) → ((l : List ℕ × List Kept) (k : Kept) → P l → last_kept l.1 ≡ Some k → Q (l.0, k)) → (ls : List (List ℕ × List Kept)) (at : ℕ) (h : List ℕ × Kept)
    → AllByRecursion P ls → slice_get (filter_map head_in ls) at ≡ Some h → Q h
each-head Q P each [] at h are there = absurd cc
each-head Q P each (l ∷ ls) at h are there = head-of Q P each (last_kept l.1) l are.0 refl (filter_map head_in ls) at h (λ i. each-head Q P each ls i h are.1) there

whole-packages : (w : Registry) (n : ℕ) (packages : List (List ℕ × List Kept)) → AllByRecursion (λ (p : List ℕ × List Kept). p.1 ≡ log_below w n (package_log_id p.0)) packages
    → AllByRecursion (λ (l : List ℕ × List Kept). l.1 ≡ log_below w n l.0) (map (λ (p : List ℕ × List Kept). (package_log_id p.0, p.1)) packages)
whole-packages w n [] are = tt
whole-packages w n (p ∷ packages) are = (are.0, whole-packages w n packages are.1)

whole-heads : (accepts : Accepts) (w : Registry) (n : ℕ) (logs : Logs) (at : ℕ) (h : List ℕ × Kept) → IsRegistry accepts w → AreWhole w n logs → slice_get (heads_of logs) at ≡ Some h → IsHead w n h
whole-heads accepts w n logs at h registry whole there =
    each-head (IsHead w n) (λ (l : List ℕ × List Kept). l.1 ≡ log_below w n l.0) (λ l k is last. is-head accepts w n l.0 k registry (sym (ap last_kept is) ∙ last)) (logs_by_id logs) at h (whole.operator, whole-packages w n logs.packages whole.packages) there

-- ---- the bundles

entries-length : (w : Registry) (n : ℕ) → n ≤ length w.entries → length (entry_texts w n) ≡ n
entries-length w n le = length-map (take n w.entries) (λ e. log_entry e.0 (sha256 e.1.contents)) ∙ length-take-le n w.entries le

pub heads-shown : ProverLaws → (accepts : Accepts) (w : Registry) (c : Checkpoint) (logs : Logs) (bundles : InclusionResponse) → IsRegistry accepts w → IsCheckpointOf w c → AreWhole w c.log_length logs → ShowHeads w c.log_length logs bundles
    → Includes c (indices_of logs) (leafs_of logs) bundles
heads-shown laws accepts w c logs bundles registry is whole shown =
    let n = c.log_length in
    let hs = heads_of logs in
    let counts : length (indices_of logs) ≡ length (leafs_of logs) = length-map hs index_in ∙ sym (length-map hs leaf_in) in
    let few : length (entry_texts w n) ≡ n = entries-length w n is.below in
    record {
      one_index_each = counts;
      in_log = record {
        bundle = shown.log;
        form = (shown.in_log.bundle, shown.log_bytes);
        alone = shown.in_log.consistencies;
        count = ap length shown.in_log.inclusions ∙ length-map (indices_of logs) (inclusion_in (length (entry_texts w n))) ∙ counts;
        paths = λ at index leaf index_there leaf_there.
            let found = mapped-at index_in hs at index index_there in
            let also = mapped-at leaf_in hs at leaf leaf_there in
            let same : also.0 ≡ found.0 = some-is also.0 found.0 (sym also.1 ∙ found.1) in
            let head = whole-heads accepts w n logs at found.0 registry whole found.1 in
            let here : slice_get (entry_texts w n) index ≡ Some (log_entry found.0.0 (sha256 found.0.1.signed.contents)) = ap (slice_get (entry_texts w n)) (sym found.2) ∙ head.entry in
            let proves = laws.log shown.log (entry_texts w n) (indices_of logs) at index (log_entry found.0.0 (sha256 found.0.1.signed.contents)) shown.in_log index_there here in
            let at_length : ProvesInclusion shown.log at n index (log_entry found.0.0 (sha256 found.0.1.signed.contents)) (root (entry_texts w n)) =
            subst (λ (m : ℕ). ProvesInclusion shown.log at m index (log_entry found.0.0 (sha256 found.0.1.signed.contents)) (root (entry_texts w n))) few proves in
            let at_root : ProvesInclusion shown.log at n index (log_entry found.0.0 (sha256 found.0.1.signed.contents)) c.log_root =
            subst (ProvesInclusion shown.log at n index (log_entry found.0.0 (sha256 found.0.1.signed.contents))) (sym is.log_root) at_length in
            subst (InLog shown.log c at index) (ap leaf_in (sym same) ∙ also.2) at_root;
      };
      in_map = record {
        bundle = shown.paths;
        form = (shown.in_map.bundle, shown.map_bytes);
        count = sym (length-map shown.paths siblings) ∙ ap length shown.in_map.truly ∙ length-map (map (λ h. h.0) hs) (λ log. true_siblings (heads w n) (log_key log)) ∙ length-map hs (λ h. h.0) ∙ sym (length-map hs leaf_in);
        paths = λ at index leaf index_there leaf_there.
            let also = mapped-at leaf_in hs at leaf leaf_there in
            let h = also.0 in
            let head = whole-heads accepts w n logs at h registry whole also.1 in
            let id_there : slice_get (map (λ (x : List ℕ × Kept). x.0) hs) at ≡ Some h.0 = slice_get-map (λ (x : List ℕ × Kept). x.0) hs at ∙ ap (option_map (λ (x : List ℕ × Kept). x.0)) also.1 in
            let proves = laws.map shown.paths (heads w n) (map (λ (x : List ℕ × Kept). x.0) hs) at h.0 (map_value (sha256 h.1.signed.contents)) shown.in_map (is-map laws.values (take n w.entries)) id_there head.value in
            let at_root : ProvesValue shown.paths at h.0 (map_value (sha256 h.1.signed.contents)) c.map_root = subst (ProvesValue shown.paths at h.0 (map_value (sha256 h.1.signed.contents))) (sym is.map_root) proves in
            subst (InMap shown.paths c at index) also.2 at_root;
      };
    }

take-less : {A : Type 0} (old new : ℕ) (xs : List A) → old ≤ new → take old (take new xs) ≡ take old xs
take-less zero new xs le = refl
take-less (suc old) zero xs le = absurd (omega (arith, le))
take-less (suc old) (suc new) [] le = refl
take-less {A = A} (suc old) (suc new) (x ∷ xs) le = ap (λ (l : List A). x ∷ l) (take-less old new xs (omega (arith, le)))

pub growth-shown : ProverLaws → (w : Registry) (old new : Checkpoint) (bytes : List ℕ) → IsCheckpointOf w old → IsCheckpointOf w new → old.log_length ≤ new.log_length → ShowsGrowth w old.log_length new.log_length bytes
    → Continues old.log_length new.log_length old.log_root new.log_root bytes
growth-shown laws w old new bytes is_old is_new le shown =
    let n = new.log_length in
    let m = old.log_length in
    let f : List ℕ × Signed → List ℕ = λ e. log_entry e.0 (sha256 e.1.contents) in
    let few : length (entry_texts w n) ≡ n = entries-length w n is_new.below in
    let front : take m (entry_texts w n) ≡ entry_texts w m = take-map f m (take n w.entries) ∙ ap (map f) (take-less m n w.entries le) in
    let proves = laws.growth shown.log (entry_texts w n) m shown.grows is_old.positive (subst (λ (k : ℕ). m ≤ k) (sym few) le) in
    let at_length : ProvesConsistency shown.log m n (root (take m (entry_texts w n))) (root (entry_texts w n)) =
    subst (λ (k : ℕ). ProvesConsistency shown.log m k (root (take m (entry_texts w n))) (root (entry_texts w n))) few proves in
    let at_old : ProvesConsistency shown.log m n old.log_root (root (entry_texts w n)) =
    subst (λ (r : List ℕ). ProvesConsistency shown.log m n r (root (entry_texts w n))) (ap root front ∙ sym is_old.log_root) at_length in
    record {
      bundle = shown.log;
      form = (shown.grows.bundle, shown.log_bytes);
      proves = subst (ProvesConsistency shown.log m n old.log_root) (sym is_new.log_root) at_old;
    }
