-- The map has a value for each log that has a record.
use Rattle.std.proofs.Common.{◌≡◌, ◌∷◌, [], List, ℕ, zero, suc, Bool, true, false, Option, Some, None, refl, sym, ◌∙◌, ap, subst, map}
use Rattle.std.specs.Prelude.{slice_get, bytes_eq, cond, option_map, IsSome}
use Rattle.std.specs.List.{AllByRecursion}
use Rattle.std.proofs.lemmas.Option.{slice_get-map}
use Rattle.sha2.specs.Sha256.{sha256}
use Rattle.warg_record.specs.Envelope.{Signed}
use Rattle.warg_proof.specs.declared.leaf.LogLeaf.{LogLeaf}
use Rattle.warg_proof.specs.Leaves.{map_value}
use Rattle.warg_proof.specs.MapProofs.{log_key}
use Rattle.warg_proof.specs.MapTree.{Entries, value_at}
use Rattle.warg_ledger.specs.Registry.{heads_before}
use Rattle.warg_model.specs.Hashes.{leaf_of, log_at}
use Rattle.warg_model.proofs.SignatureLaws.{same-text}

some-either : (b : Bool) (v : List ℕ) (rest : Option (List ℕ)) → IsSome rest → IsSome (cond b (Some v) rest)
some-either true v rest there = refl
some-either false v rest there = there

some-first : (b : Bool) (v : List ℕ) (rest : Option (List ℕ)) → b ≡ true → IsSome (cond b (Some v) rest)
some-first true v rest is = refl
some-first false v rest is = absurd cc

there-before : (entries : List (List ℕ × Signed)) (others : Entries) (key : List ℕ) → IsSome (value_at others key) → IsSome (value_at (heads_before entries others) key)
unfolding heads_before
there-before [] others key there = there
there-before (e ∷ entries) others key there =
    there-before entries ((log_key e.0, map_value (sha256 e.1.contents)) ∷ others) key (some-either (bytes_eq (log_key e.0) key) (map_value (sha256 e.1.contents)) (value_at others key) there)

there-of : (entries : List (List ℕ × Signed)) (others : Entries) (i : ℕ) (e : List ℕ × Signed) → slice_get entries i ≡ Some e → IsSome (value_at (heads_before entries others) (log_key e.0))
unfolding heads_before
there-of [] others i e at = absurd cc
there-of (f ∷ entries) others zero e at =
    let same : f ≡ e = cc at in
    there-before entries ((log_key f.0, map_value (sha256 f.1.contents)) ∷ others) (log_key e.0)
    (some-first (bytes_eq (log_key f.0) (log_key e.0)) (map_value (sha256 f.1.contents)) (value_at others (log_key e.0)) (ap (λ (g : List ℕ × Signed). bytes_eq (log_key g.0) (log_key e.0)) same ∙ same-text (log_key e.0)))
there-of (f ∷ entries) others (suc i) e at = there-of entries ((log_key f.0, map_value (sha256 f.1.contents)) ∷ others) i e at

id-there : (entries : List (List ℕ × Signed)) (i : ℕ) (id : List ℕ) (found : Option (List ℕ × Signed)) → slice_get entries i ≡ found → option_map (λ (l : LogLeaf). l.log_id) (option_map leaf_of found) ≡ Some id → IsSome (value_at (heads_before entries []) (log_key id))
id-there entries i id None at is = absurd cc
id-there entries i id (Some e) at is = let same : e.0 ≡ id = cc is in subst (λ (k : List ℕ). IsSome (value_at (heads_before entries []) (log_key k))) same (there-of entries [] i e at)

cons-is : {A : Type 0} (x y : A) (xs ys : List A) → x ∷ xs ≡ y ∷ ys → (x ≡ y) × (xs ≡ ys)
cons-is x y xs ys e = (cc e, cc e)

-- of the ids that are found at places
pub ids-there : (entries : List (List ℕ × Signed)) (leaves : List LogLeaf) (indices : List ℕ) (ids : List (List ℕ)) → leaves ≡ map leaf_of entries → map (λ id. Some id) ids ≡ map (log_at leaves) indices → AllByRecursion (λ id. IsSome (value_at (heads_before entries []) (log_key id))) ids
ids-there entries leaves indices [] are found = tt
ids-there entries leaves [] (id ∷ ids) are found = absurd cc
ids-there entries leaves (i ∷ indices) (id ∷ ids) are found =
    let parts = cons-is (Some id) (log_at leaves i) (map (λ id. Some id) ids) (map (log_at leaves) indices) found in
    let at = sym (ap (λ (l : List LogLeaf). option_map (λ (l : LogLeaf). l.log_id) (slice_get l i)) are ∙ ap (option_map (λ (l : LogLeaf). l.log_id)) (slice_get-map leaf_of entries i)) ∙ sym parts.0 in
    (id-there entries i id (slice_get entries i) refl at, ids-there entries leaves indices ids are parts.1)
