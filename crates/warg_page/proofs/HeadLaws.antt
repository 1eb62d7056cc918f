-- The last record of a log, by the head of the log's state.
use Rattle.std.proofs.Common.{◌≡◌, ◌++◌, ◌∷◌, [], List, ℕ, Option, Some, None, refl, sym, ◌∙◌, ap, map}
use Rattle.std.specs.Prelude.{option_map}
use Rattle.std.specs.List.{filter_map}
use Rattle.std.proofs.lemmas.List.{map_push, map-append}
use Rattle.std.proofs.lemmas.List.Elements.{filter_map-append}
use Rattle.warg_hash.specs.Hash.{operator_log_id, package_log_id}
use Rattle.warg_log.specs.declared.head.Head.{Head}
use Rattle.warg_log.specs.Rules.{head_of, head_from}
use Rattle.warg_log.specs.History.{last_or}
use Rattle.warg_info.specs.Kept.{Kept, signed_log, last_kept}
use Rattle.warg_page.specs.Logs.{heads_of, head_in, index_in, leaf_in, indices_of, leafs_of}

signed_last : (k : Kept) (log : List Kept) → last_or k.signed (signed_log log) ≡ (last_or k log).signed
signed_last k [] = refl
signed_last k (next ∷ log) = signed_last next log

some_last : (k : Kept) (log : List Kept) → last_or (Some k) (map (λ j. Some j) log) ≡ Some (last_or k log)
some_last k [] = refl
some_last k (next ∷ log) = some_last next log

-- the head of a log is made from its last record
head-last : (log : List Kept) → head_of (signed_log log) ≡ option_map (λ (k : Kept). head_from k.signed) (last_kept log)
head-last [] = refl
head-last (k ∷ log) = ap (λ s. Some (head_from s)) (signed_last k log) ∙ ap (option_map (λ (j : Kept). head_from j.signed)) (sym (some_last k log))

leaf_by : (id : List ℕ) (last : Option Kept) (head : Head) → Some head ≡ option_map (λ (k : Kept). head_from k.signed) last
    → map leaf_in (filter_map (λ (last : Option Kept). option_map (λ k. (id, k)) last) (last ∷ [])) ≡ record { log_id = id; record_id = head.digest } ∷ []
leaf_by id None head is = absurd cc
leaf_by id (Some k) head is = let same : head_from k.signed ≡ head = cc in ap (λ (h : Head). record { log_id = id; record_id = h.digest } ∷ []) same

-- the leaf of a log with this head
pub leaf-there : (id : List ℕ) (log : List Kept) (head : Head) → Some head ≡ head_of (signed_log log) → map leaf_in (filter_map head_in ((id, log) ∷ [])) ≡ record { log_id = id; record_id = head.digest } ∷ []
leaf-there id log head is = leaf_by id (last_kept log) head (is ∙ head-last log)

-- one package more
heads-push : (operator : List Kept) (packages : List (List ℕ × List Kept)) (p : List ℕ × List Kept)
    → heads_of (record { operator = operator; packages = packages ++ p ∷ [] }) ≡ heads_of (record { operator = operator; packages = packages }) ++ filter_map head_in ((package_log_id p.0, p.1) ∷ [])
heads-push operator packages p =
    let by_id : List ℕ × List Kept → List ℕ × List Kept = λ q. (package_log_id q.0, q.1) in
    ap (λ (l : List (List ℕ × List Kept)). filter_map head_in ((operator_log_id, operator) ∷ l)) (map_push by_id packages p)
    ∙ filter_map-append head_in ((operator_log_id, operator) ∷ map by_id packages) (by_id p ∷ [])

pub indices-push : (operator : List Kept) (packages : List (List ℕ × List Kept)) (p : List ℕ × List Kept)
    → indices_of (record { operator = operator; packages = packages ++ p ∷ [] }) ≡ indices_of (record { operator = operator; packages = packages }) ++ map index_in (filter_map head_in ((package_log_id p.0, p.1) ∷ []))
indices-push operator packages p = ap (map index_in) (heads-push operator packages p) ∙ map-append index_in (heads_of (record { operator = operator; packages = packages })) (filter_map head_in ((package_log_id p.0, p.1) ∷ []))

pub leafs-push : (operator : List Kept) (packages : List (List ℕ × List Kept)) (p : List ℕ × List Kept)
    → leafs_of (record { operator = operator; packages = packages ++ p ∷ [] }) ≡ leafs_of (record { operator = operator; packages = packages }) ++ map leaf_in (filter_map head_in ((package_log_id p.0, p.1) ∷ []))
leafs-push operator packages p = ap (map leaf_in) (heads-push operator packages p) ∙ map-append leaf_in (heads_of (record { operator = operator; packages = packages })) (filter_map head_in ((package_log_id p.0, p.1) ∷ []))
