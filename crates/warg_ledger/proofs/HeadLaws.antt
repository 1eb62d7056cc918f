-- Where the last records of an honest registry's logs stand in its log and in its map.
use Rattle.std.proofs.Common.{◌≡◌, ◌+◌, ◌∷◌, [], List, ℕ, zero, suc, Bool, true, false, Option, Some, None, refl, sym, ◌∙◌, ap, map, arith}
use Rattle.std.specs.Prelude.{Contains, bytes_eq, cond, option_map}
use Rattle.std.specs.List.{All, AllByRecursion}
use Rattle.std.proofs.lemmas.Slice.Eq.{bytes_eq-Decides}
use Rattle.std.proofs.lemmas.Bool.{false≢true}
use Rattle.hex.specs.Hex.{IsBytes}
use Rattle.sha2.specs.Sha256.{sha256}
use Rattle.warg_hash.specs.ByteLaws.{sha256_is_digest}
use Rattle.warg_hash.specs.Hash.{IsDigest}
use Rattle.warg_record.specs.Envelope.{Signed}
use Rattle.warg_log.specs.History.{last_or}
use Rattle.warg_proof.specs.Leaves.{map_value}
use Rattle.warg_proof.specs.MapProofs.{log_key}
use Rattle.warg_proof.specs.MapTree.{Entries, IsMap, value_at}
use Rattle.warg_info.specs.Kept.{Kept, last_kept}
use Rattle.warg_ledger.specs.Registry.{log_from, heads_before}

-- ---- the value of a log

abbrev value_of : Kept → List ℕ
value_of k = map_value (sha256 k.signed.contents)

further : {A : Type 0} (x y : A) (xs : List A) → Contains xs y → Contains (x ∷ xs) y
further x y xs there = let lt = there.1 in (suc there.0, omega (arith, lt), there.2)

-- with one entry more in front, as the last record so far
value-by-id : (b : Bool) (key v : List ℕ) (k : Kept) (d : Option Kept) (other : Option (List ℕ)) → value_of k ≡ v → other ≡ option_map value_of d → cond b (Some v) other ≡ option_map value_of (cond b (Some k) d)
value-by-id true key v k d other is known = ap (λ (x : List ℕ). Some x) (sym is)
value-by-id false key v k d other is known = known

last-by-id : (b : Bool) (d : Option Kept) (k : Kept) (ks : List Kept) → last_or (cond b (Some k) d) (map (λ j. Some j) ks) ≡ last_or d (map (λ j. Some j) (cond b (k ∷ ks) ks))
last-by-id true d k ks = refl
last-by-id false d k ks = refl

-- the key of an entry is that of the log just where the entry is one of it
same-test : (a id : List ℕ) (b : Bool) → bytes_eq a id ≡ b → (log_key a ≡ log_key id → a ≡ id) → bytes_eq (log_key a) (log_key id) ≡ b
same-test a id true is one = (bytes_eq-Decides (log_key a) (log_key id)).1 (ap log_key ((bytes_eq-Decides a id).0 is))
same-test a id false is one = by_test (bytes_eq (log_key a) (log_key id)) refl
  where
    by_test : (t : Bool) → bytes_eq (log_key a) (log_key id) ≡ t → bytes_eq (log_key a) (log_key id) ≡ false
    by_test true same = absurd (false≢true (sym is ∙ (bytes_eq-Decides a id).1 (one ((bytes_eq-Decides (log_key a) (log_key id)).0 same))))
    by_test false other = other

value-behind : (token : ℕ → List ℕ) (id : List ℕ) (place : ℕ) (entries : List (List ℕ × Signed)) (others : Entries) (d : Option Kept) → ((e : List ℕ × Signed) → Contains entries e → log_key e.0 ≡ log_key id → e.0 ≡ id)
    → value_at others (log_key id) ≡ option_map value_of d → value_at (heads_before entries others) (log_key id) ≡ option_map value_of (last_or d (map (λ j. Some j) (log_from token id place entries)))
unfolding log_from heads_before
value-behind token id place [] others d one known = known
value-behind token id place (e ∷ entries) others d one known =
    let b = bytes_eq e.0 id in
    let k : Kept = record { signed = e.1; registry_index = place; fetch_token = token place } in
    let v = map_value (sha256 e.1.contents) in
    let test : bytes_eq (log_key e.0) (log_key id) ≡ b = same-test e.0 id b refl (one e (0, omega arith, refl)) in
    let next : value_at ((log_key e.0, v) ∷ others) (log_key id) ≡ option_map value_of (cond b (Some k) d) =
    ap (λ (t : Bool). cond t (Some v) (value_at others (log_key id))) test ∙ value-by-id b (log_key id) v k d (value_at others (log_key id)) refl known in
    value-behind token id (place + 1) entries ((log_key e.0, v) ∷ others) (cond b (Some k) d) (λ f there. one f (further e f entries there)) next
    ∙ ap (option_map value_of) (last-by-id b d k (log_from token id (place + 1) entries))

-- the map has the last record of a log at its key
pub last-value : (token : ℕ → List ℕ) (id : List ℕ) (entries : List (List ℕ × Signed)) (k : Kept) → ((e : List ℕ × Signed) → Contains entries e → log_key e.0 ≡ log_key id → e.0 ≡ id)
    → last_kept (log_from token id 0 entries) ≡ Some k → value_at (heads_before entries []) (log_key id) ≡ Some (map_value (sha256 k.signed.contents))
last-value token id entries k one last = value-behind token id 0 entries [] None one refl ∙ ap (option_map value_of) last

-- ---- the map's form

is-map-before : ((record_id : List ℕ) → IsBytes (map_value record_id)) → (entries : List (List ℕ × Signed)) (others : Entries) → AllByRecursion (λ entry. IsDigest entry.0 × IsBytes entry.1) others
    → AllByRecursion (λ entry. IsDigest entry.0 × IsBytes entry.1) (heads_before entries others)
unfolding heads_before
is-map-before values [] others are = are
is-map-before values (e ∷ entries) others are = is-map-before values entries ((log_key e.0, map_value (sha256 e.1.contents)) ∷ others) ((sha256_is_digest e.0, values (sha256 e.1.contents)), are)

by-index : {A : Type 0} (P : A → Type 0) (xs : List A) → AllByRecursion P xs → All P xs
by-index P [] are i d lt = absurd (omega (arith, lt))
by-index P (x ∷ xs) are zero d lt = are.0
by-index P (x ∷ xs) are (suc i) d lt = by-index P xs are.1 i d (omega (arith, lt))

pub is-map : ((record_id : List ℕ) → IsBytes (map_value record_id)) → (entries : List (List ℕ × Signed)) → IsMap (heads_before entries [])
is-map values entries = by-index (λ entry. IsDigest entry.0 × IsBytes entry.1) (heads_before entries []) (is-map-before values entries [] tt)
