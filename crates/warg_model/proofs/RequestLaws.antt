-- The records of a log that a request asks for.
use Rattle.std.proofs.Common.{◌≡◌, ◌≢◌, ◌<◌, ◌+◌, ◌^◌, ◌∷◌, ◌++◌, [], List, ℕ, zero, suc, Bool, true, false, Option, Some, None, refl, sym, ◌∙◌, ap, subst, map, take, arith}
use Rattle.std.specs.Prelude.{◌&&◌, bytes_eq, cond, decimal, slice_get, option_map, IfSome}
use Rattle.std.specs.List.{AllByRecursion}
use Rattle.std.specs.Str.Parse.{digits_value}
use Rattle.std.proofs.lemmas.Fmt.{decimal_is_IsNumeral}
use Rattle.std.proofs.lemmas.Slice.Eq.{bytes_eq-Decides}
use Rattle.warg_record.specs.Envelope.{Signed}
use Rattle.warg_exchange.specs.declared.logs.PublishedRecord.{PublishedRecord}
use Rattle.warg_log.specs.History.{last_or}
use Rattle.warg_info.specs.Kept.{Kept, is_above, last_index, last_kept, last_token}
use Rattle.warg_ledger.specs.Registry.{log_from, log_below}
use Rattle.warg_model.specs.Held.{Held, registry_of}
use Rattle.warg_model.specs.Pages.{published_at, published_behind, HasRecordAt}
use Rattle.warg_model.proofs.SignatureLaws.{all-front}
use Rattle.warg_model.proofs.TokenLaws.{token-is-place}

abbrev ids : List (List ℕ × Signed) → List (List ℕ)
ids entries = map (λ e. e.0) entries

-- ---- places

pub below : (n : ℕ) (entries : List (List ℕ × Signed)) (place : ℕ) (id : List ℕ) → slice_get (ids (take n entries)) place ≡ Some id → place < n
below zero entries place id there = absurd cc
below (suc n) [] place id there = absurd cc
below (suc n) (e ∷ entries) zero id there = omega arith
below (suc n) (e ∷ entries) (suc place) id there = let rest = below n entries place id there in omega (arith, rest)

pub in-front : (n : ℕ) (entries : List (List ℕ × Signed)) (place : ℕ) → place < n → slice_get (ids (take n entries)) place ≡ slice_get (ids entries) place
in-front zero entries place within = absurd (omega (arith, within))
in-front (suc n) [] place within = refl
in-front (suc n) (e ∷ entries) zero within = refl
in-front (suc n) (e ∷ entries) (suc place) within = in-front n entries place (omega (arith, within))

-- ---- a log that has a record

nonempty : (b : Bool) (k : Kept) (ks : List Kept) → (b ≡ false → ks ≢ []) → cond b (k ∷ ks) ks ≢ []
nonempty true k ks rest none = absurd cc
nonempty false k ks rest none = rest refl none

pub some-record : (token : ℕ → List ℕ) (id : List ℕ) (start : ℕ) (entries : List (List ℕ × Signed)) (place : ℕ) → slice_get (ids entries) place ≡ Some id → log_from token id start entries ≢ []
unfolding log_from
some-record token id start [] place there = absurd cc
some-record token id start (e ∷ entries) zero there =
    let own : e.0 ≡ id = cc in
    let is : bytes_eq e.0 id ≡ true = (bytes_eq-Decides e.0 id).1 own in
    nonempty (bytes_eq e.0 id) (record { signed = e.1; registry_index = start; fetch_token = token start }) (log_from token id (start + 1) entries) (λ other. absurd cc)
some-record token id start (e ∷ entries) (suc place) there =
    nonempty (bytes_eq e.0 id) (record { signed = e.1; registry_index = start; fetch_token = token start }) (log_from token id (start + 1) entries) (λ _. some-record token id (start + 1) entries place there)

none-published : (b c : Bool) (k : Kept) (ks : List Kept) (p : PublishedRecord) (ps : List PublishedRecord) → (ks ≡ [] → ps ≡ []) → cond b (k ∷ ks) ks ≡ [] → cond (b && c) (p ∷ ps) ps ≡ []
none-published true c k ks p ps rest none = absurd cc
none-published false c k ks p ps rest none = rest none

-- of a log without a record nothing is published
pub empty-published : (id : List ℕ) (after : Option ℕ) (start : ℕ) (entries : List (List ℕ × Signed)) → log_from decimal id start entries ≡ [] → published_behind id after start entries ≡ []
unfolding log_from published_behind
empty-published id after start [] none = refl
empty-published id after start (e ∷ entries) none =
    none-published (bytes_eq e.0 id) (is_above start after) (record { signed = e.1; registry_index = start; fetch_token = decimal start }) (log_from decimal id (start + 1) entries) (published_at start e.1) (published_behind id after (start + 1) entries) (empty-published id after (start + 1) entries) none

none-kept : (b : Bool) (k : Kept) (ks : List Kept) (p : PublishedRecord) (ps : List PublishedRecord) → (ps ≡ [] → ks ≡ []) → cond (b && true) (p ∷ ps) ps ≡ [] → cond b (k ∷ ks) ks ≡ []
none-kept true k ks p ps rest none = absurd cc
none-kept false k ks p ps rest none = rest none

-- a log of which nothing is published has no record
pub published-empty : (id : List ℕ) (start : ℕ) (entries : List (List ℕ × Signed)) → published_behind id None start entries ≡ [] → log_from decimal id start entries ≡ []
unfolding log_from published_behind
published-empty id start [] none = refl
published-empty id start (e ∷ entries) none =
    none-kept (bytes_eq e.0 id) (record { signed = e.1; registry_index = start; fetch_token = decimal start }) (log_from decimal id (start + 1) entries) (published_at start e.1) (published_behind id None (start + 1) entries) (published-empty id (start + 1) entries) none

-- ---- the place that a token names

pub decimal-same : (m n : ℕ) → m < 2 ^ 64 → n < 2 ^ 64 → decimal m ≡ decimal n → m ≡ n
decimal-same m n small_m small_n same = sym (decimal_is_IsNumeral m small_m).1 ∙ ap (digits_value 10) same ∙ (decimal_is_IsNumeral n small_n).1

abbrev IsWithin : ℕ → Kept → Type 0
IsWithin n k = k.registry_index < n

all-within : (id : List ℕ) (n start count : ℕ) (entries : List (List ℕ × Signed)) → start + count ≡ n → AllByRecursion (IsWithin n) (log_from decimal id start (take count entries))
unfolding log_from
all-within id n start zero entries is = tt
all-within id n start (suc count) [] is = tt
all-within id n start (suc count) (e ∷ entries) is = by_test (bytes_eq e.0 id) (all-within id n (start + 1) count entries (omega (arith, is)))
  where
    by_test : (b : Bool) → AllByRecursion (IsWithin n) (log_from decimal id (start + 1) (take count entries))
        → AllByRecursion (IsWithin n) (cond b (record { signed = e.1; registry_index = start; fetch_token = decimal start } ∷ log_from decimal id (start + 1) (take count entries)) (log_from decimal id (start + 1) (take count entries)))
    by_test true rest = (omega (arith, is), rest)
    by_test false rest = rest

last-holds : (P : Kept → Type 0) (d : Option Kept) (ks : List Kept) → IfSome d P → AllByRecursion P ks → IfSome (last_or d (map (λ k. Some k) ks)) P
last-holds P d [] first all = first
last-holds P d (k ∷ ks) first all = last-holds P (Some k) ks all.0 all.1

same-place : (n : ℕ) (last : Option Kept) (place : Option ℕ) → n < 2 ^ 64 → IfSome last (IsWithin n) → IfSome place (λ at. at < n) → option_map decimal (option_map (λ (k : Kept). k.registry_index) last) ≡ option_map decimal place
    → option_map (λ (k : Kept). k.registry_index) last ≡ place
same-place n None None small within at same = refl
same-place n None (Some p) small within at same = absurd cc
same-place n (Some k) None small within at same = absurd cc
same-place n (Some k) (Some p) small within at same = let text : decimal k.registry_index ≡ decimal p = cc in ap (λ (m : ℕ). Some m) (decimal-same k.registry_index p (omega (arith, small, within)) (omega (arith, small, at)) text)

place-below : (h : Held) (n : ℕ) (id : List ℕ) (place : Option ℕ) → IfSome place (HasRecordAt (registry_of h) n id) → IfSome place (λ at. at < n)
place-below h n id None there = tt
place-below h n id (Some at) there = below n (registry_of h).entries at id there

-- it is that of the last record of the beginning
pub last-place : (h : Held) (n : ℕ) (id : List ℕ) (before rest : List Kept) (place : Option ℕ) → n < 2 ^ 64 → log_below (registry_of h) n id ≡ before ++ rest → last_token before ≡ option_map decimal place → IfSome place (HasRecordAt (registry_of h) n id)
    → last_index before ≡ place
last-place h n id before rest place small parts named there =
    let entries = (registry_of h).entries in
    let all : AllByRecursion (IsWithin n) before = all-front (IsWithin n) before rest (subst (AllByRecursion (IsWithin n)) parts (all-within id n 0 n entries (omega arith))) in
    same-place n (last_kept before) place small (last-holds (IsWithin n) None before tt all) (place-below h n id place there) (sym (token-is-place id (take n entries) before rest parts) ∙ named)
