-- The last record of a log stands in an honest registry's list at its index.
use Rattle.std.proofs.Common.{◌≡◌, ◌+◌, ◌∷◌, [], List, ℕ, suc, Bool, true, false, Option, Some, None, refl, sym, ◌∙◌, ap, subst, map, arith}
use Rattle.std.specs.Prelude.{slice_get, bytes_eq, cond}
use Rattle.std.specs.List.{AllByRecursion}
use Rattle.std.proofs.lemmas.Slice.Eq.{bytes_eq-Decides}
use Rattle.warg_record.specs.Envelope.{Signed}
use Rattle.warg_log.specs.History.{last_or}
use Rattle.warg_info.specs.Kept.{Kept, last_kept}
use Rattle.warg_ledger.specs.Registry.{log_from}

-- the entry at a place, counted from a first place, is this record of this log
pub record IsEntryOf (id : List ℕ) (place : ℕ) (entries : List (List ℕ × Signed)) (k : Kept) : Type 0 where
  pub at : ℕ
  pub index : k.registry_index ≡ place + at
  pub entry : slice_get entries at ≡ Some (id, k.signed)

entries-further : (id : List ℕ) (place : ℕ) (e : List ℕ × Signed) (entries : List (List ℕ × Signed)) (ks : List Kept) → AllByRecursion (IsEntryOf id (place + 1) entries) ks → AllByRecursion (IsEntryOf id place (e ∷ entries)) ks
entries-further id place e entries [] are = tt
entries-further id place e entries (k ∷ ks) are = let index = are.0.index in (record { at = suc are.0.at; index = omega (arith, index); entry = are.0.entry }, entries-further id place e entries ks are.1)

entry-by-id : (b : Bool) (id : List ℕ) (place : ℕ) (e : List ℕ × Signed) (entries : List (List ℕ × Signed)) (k : Kept) (ks : List Kept) → bytes_eq e.0 id ≡ b → k.registry_index ≡ place → k.signed ≡ e.1
    → AllByRecursion (IsEntryOf id place (e ∷ entries)) ks → AllByRecursion (IsEntryOf id place (e ∷ entries)) (cond b (k ∷ ks) ks)
entry-by-id true id place e entries k ks is index signed rest =
    let same : e.0 ≡ id = (bytes_eq-Decides e.0 id).0 is in (
      record { at = 0; index = omega (arith, index); entry = ap (λ (i : List ℕ). Some (i, e.1)) same ∙ ap (λ (s : Signed). Some (id, s)) (sym signed) },
      rest,
    )
entry-by-id false id place e entries k ks is index signed rest = rest

all-entries : (token : ℕ → List ℕ) (id : List ℕ) (place : ℕ) (entries : List (List ℕ × Signed)) → AllByRecursion (IsEntryOf id place entries) (log_from token id place entries)
unfolding log_from
all-entries token id place [] = tt
all-entries token id place (e ∷ entries) =
    entry-by-id (bytes_eq e.0 id) id place e entries (record { signed = e.1; registry_index = place; fetch_token = token place }) (log_from token id (place + 1) entries) refl refl refl
    (entries-further id place e entries (log_from token id (place + 1) entries) (all-entries token id (place + 1) entries))

last-of : (P : Kept → Type 0) (d : Option Kept) (ks : List Kept) (k : Kept) → ((j : Kept) → d ≡ Some j → P j) → AllByRecursion P ks → last_or d (map (λ j. Some j) ks) ≡ Some k → P k
last-of P d [] k known are last = known k last
last-of P d (x ∷ ks) k known are last = last-of P (Some x) ks k (λ j is. subst P (some-is x j is) are.0) are.1 last
  where
    some-is : (x y : Kept) → Some x ≡ Some y → x ≡ y
    some-is x y e = cc e

none-some : (P : Kept → Type 0) (j : Kept) → None ≡ Some j → P j
none-some P j e = absurd cc

-- the last record of a log stands among the entries, at its index
pub last_entry : (token : ℕ → List ℕ) (id : List ℕ) (entries : List (List ℕ × Signed)) (k : Kept) → last_kept (log_from token id 0 entries) ≡ Some k → IsEntryOf id 0 entries k
last_entry token id entries k last = last-of (IsEntryOf id 0 entries) None (log_from token id 0 entries) k (none-some (IsEntryOf id 0 entries)) (all-entries token id 0 entries) last
