-- The tokens of a registry's records are their places in decimal.
use Rattle.std.proofs.Common.{◌≡◌, ◌+◌, ◌∷◌, ◌++◌, [], List, ℕ, Bool, true, false, Option, Some, None, refl, ap, subst, map}
use Rattle.std.specs.Prelude.{bytes_eq, cond, decimal, option_map, IfSome}
use Rattle.std.specs.List.{AllByRecursion}
use Rattle.warg_record.specs.Envelope.{Signed}
use Rattle.warg_log.specs.History.{last_or}
use Rattle.warg_info.specs.Kept.{Kept, last_index, last_token}
use Rattle.warg_ledger.specs.Registry.{log_from}
use Rattle.warg_model.proofs.SignatureLaws.{all-front}

abbrev IsNamed : Kept → Type 0
IsNamed k = k.fetch_token ≡ decimal k.registry_index

all-named : (id : List ℕ) (place : ℕ) (entries : List (List ℕ × Signed)) → AllByRecursion IsNamed (log_from decimal id place entries)
unfolding log_from
all-named id place [] = tt
all-named id place (e ∷ entries) = by_test (bytes_eq e.0 id) (all-named id (place + 1) entries)
  where
    by_test : (b : Bool) → AllByRecursion IsNamed (log_from decimal id (place + 1) entries)
        → AllByRecursion IsNamed (cond b (record { signed = e.1; registry_index = place; fetch_token = decimal place } ∷ log_from decimal id (place + 1) entries) (log_from decimal id (place + 1) entries))
    by_test true rest = (refl, rest)
    by_test false rest = rest

last-named : (d : Option Kept) (ks : List Kept) → IfSome d IsNamed → AllByRecursion IsNamed ks
    → option_map (λ (k : Kept). k.fetch_token) (last_or d (map (λ k. Some k) ks)) ≡ option_map decimal (option_map (λ (k : Kept). k.registry_index) (last_or d (map (λ k. Some k) ks)))
last-named None [] first all = refl
last-named (Some k) [] first all = ap (λ (t : List ℕ). Some t) first
last-named d (k ∷ ks) first all = last-named (Some k) ks all.0 all.1

-- of a beginning of a log
pub token-is-place : (id : List ℕ) (entries : List (List ℕ × Signed)) (before rest : List Kept) → log_from decimal id 0 entries ≡ before ++ rest → last_token before ≡ option_map decimal (last_index before)
token-is-place id entries before rest parts = last-named None before tt (all-front IsNamed before rest (subst (AllByRecursion IsNamed) parts (all-named id 0 entries)))
