-- The last records of a registry's logs stand in its list at their places.
use Rattle.std.proofs.Common.{◌≡◌, ◌∷◌, [], List, ℕ, Option, Some, None, refl, sym, ◌∙◌, ap, map, take, arith}
use Rattle.std.specs.Prelude.{slice_get, option_map}
use Rattle.std.specs.List.{AllByRecursion, filter_map, cons_option}
use Rattle.std.proofs.lemmas.Option.{slice_get-map}
use Rattle.warg_hash.specs.Hash.{package_log_id}
use Rattle.warg_proof.specs.declared.leaf.LogLeaf.{LogLeaf}
use Rattle.warg_info.specs.Kept.{Kept, last_kept}
use Rattle.warg_page.specs.Logs.{Logs, head_in, heads_of, index_in, indices_of, logs_by_id}
use Rattle.warg_ledger.specs.PlaceLaws.{last_entry}
use Rattle.warg_ledger.specs.Registry.{Registry, log_below}
use Rattle.warg_ledger.specs.Replies.{AreWhole}
use Rattle.warg_model.specs.Hashes.{leaf_of, log_at}

-- ---- heads

mapped : {A B : Type 0} (P : B → Type 0) (f : A → B) (xs : List A) → AllByRecursion (λ x. P (f x)) xs → AllByRecursion P (map f xs)
mapped P f [] all = tt
mapped P f (x ∷ xs) all = (all.0, mapped P f xs all.1)

-- the record is an entry of the registry below a length, at its place
abbrev pub IsHeadAt : Registry → ℕ → List ℕ × Kept → Type 0
IsHeadAt w n h = slice_get (take n w.entries) h.1.registry_index ≡ Some (h.0, h.1.signed)

head-at : (w : Registry) (n : ℕ) (id : List ℕ) (k : Kept) → last_kept (log_below w n id) ≡ Some k → IsHeadAt w n (id, k)
head-at w n id k last =
    let entries = take n w.entries in
    let is = last_entry w.token id entries k last in
    let index = is.index in
    let same : k.registry_index ≡ is.at = omega (arith, index) in
    ap (slice_get entries) same ∙ is.entry

heads-at : (w : Registry) (n : ℕ) (ls : List (List ℕ × List Kept)) → AllByRecursion (λ l. l.1 ≡ log_below w n l.0) ls → AllByRecursion (IsHeadAt w n) (filter_map head_in ls)
heads-at w n [] whole = tt
heads-at w n (l ∷ ls) whole = by_last (last_kept l.1) (sym (ap last_kept whole.0)) (heads-at w n ls whole.1)
  where
    by_last : (last : Option Kept) → last_kept (log_below w n l.0) ≡ last → AllByRecursion (IsHeadAt w n) (filter_map head_in ls)
        → AllByRecursion (IsHeadAt w n) (cons_option (option_map (λ k. (l.0, k)) last) (filter_map head_in ls))
    by_last None is rest = rest
    by_last (Some k) is rest = (head-at w n l.0 k is, rest)

-- of whole logs
pub whole-heads-at : (w : Registry) (n : ℕ) (logs : Logs) → AreWhole w n logs → AllByRecursion (IsHeadAt w n) (heads_of logs)
whole-heads-at w n logs whole = heads-at w n (logs_by_id logs) (whole.operator, by-id logs.packages whole.packages)
  where
    by-id : (packages : List (List ℕ × List Kept)) → AllByRecursion (λ (p : List ℕ × List Kept). p.1 ≡ log_below w n (package_log_id p.0)) packages
        → AllByRecursion (λ (l : List ℕ × List Kept). l.1 ≡ log_below w n l.0) (map (λ (p : List ℕ × List Kept). (package_log_id p.0, p.1)) packages)
    by-id packages all = mapped (λ (l : List ℕ × List Kept). l.1 ≡ log_below w n l.0) (λ (p : List ℕ × List Kept). (package_log_id p.0, p.1)) packages all

-- ---- the logs of the heads

-- at its place the log's id is found
ids-at : (w : Registry) (n : ℕ) (leaves : List LogLeaf) (heads : List (List ℕ × Kept)) → leaves ≡ map leaf_of (take n w.entries) → AllByRecursion (IsHeadAt w n) heads → map (λ id. Some id) (map (λ h. h.0) heads) ≡ map (log_at leaves) (map index_in heads)
ids-at w n leaves [] are all = refl
ids-at w n leaves (h ∷ heads) are all =
    let id : LogLeaf → List ℕ = λ l. l.log_id in
    let found : log_at leaves h.1.registry_index ≡ Some h.0 =
    ap (λ (l : List LogLeaf). option_map id (slice_get l h.1.registry_index)) are ∙ ap (option_map id) (slice_get-map leaf_of (take n w.entries) h.1.registry_index ∙ ap (option_map leaf_of) all.0) in
    ap (λ (o : Option (List ℕ)). o ∷ map (λ i. Some i) (map (λ h. h.0) heads)) (sym found) ∙ ap (λ (l : List (Option (List ℕ))). log_at leaves h.1.registry_index ∷ l) (ids-at w n leaves heads are all.1)

bare : List (Option (List ℕ)) → List (List ℕ)
bare os = filter_map (λ o. o) os

bare-some : (ids : List (List ℕ)) → bare (map (λ id. Some id) ids) ≡ ids
unfolding bare
bare-some [] = refl
bare-some (id ∷ ids) = ap (λ (l : List (List ℕ)). id ∷ l) (bare-some ids)

-- the ids that are found at the heads' places are the heads' own
pub head-ids : (w : Registry) (n : ℕ) (logs : Logs) (leaves : List LogLeaf) (indices : List ℕ) (ids : List (List ℕ)) → leaves ≡ map leaf_of (take n w.entries) → AreWhole w n logs → indices_of logs ≡ indices → map (λ id. Some id) ids ≡ map (log_at leaves) indices
    → ids ≡ map (λ h. h.0) (heads_of logs)
head-ids w n logs leaves indices ids are whole asked found =
    let heads = map (λ h. h.0) (heads_of logs) in
    sym (bare-some ids) ∙ ap bare (found ∙ ap (map (log_at leaves)) (sym asked) ∙ sym (ids-at w n leaves (heads_of logs) are (whole-heads-at w n logs whole))) ∙ bare-some heads
