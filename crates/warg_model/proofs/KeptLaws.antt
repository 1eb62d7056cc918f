-- What is published of a log behind a beginning of it is the rest of it.
use Rattle.std.proofs.Common.{◌≡◌, ◌≤◌, ◌<◌, ◌+◌, ◌∷◌, ◌++◌, [], List, ℕ, Bool, true, false, Option, Some, None, refl, sym, ◌∙◌, ap, subst, map, arith}
use Rattle.std.specs.Prelude.{◌&&◌, bytes_eq, cond, decimal}
use Rattle.std.specs.List.{AllByRecursion}
use Rattle.std.proofs.lemmas.Bool.{ltb-true, lt-ltb, le-ltb}
use Rattle.warg_hash.specs.Hash.{IsDigest}
use Rattle.warg_record.specs.Key.{IsKeyText}
use Rattle.warg_record.specs.Record.{Kind}
use Rattle.warg_record.specs.Envelope.{Signed}
use Rattle.warg_log.specs.History.{last_or}
use Rattle.warg_log.specs.Lawful.{IsRead}
use Rattle.warg_info.specs.Kept.{Kept, is_above, index_of, last_index, AreAbove, IsKeptAs, AreKeptAs}
use Rattle.warg_ledger.specs.Registry.{log_from}
use Rattle.warg_model.specs.Pages.{published_at, published_behind}

-- ---- the records behind a place

-- those of kept records that stand behind a place
above : Option ℕ → List Kept → List Kept
above after [] = []
above after (k ∷ ks) = cond (is_above k.registry_index after) (k ∷ above after ks) (above after ks)

-- a record can be published: it is read again as it is
pub record IsPublishable (kind : Kind) (s : Signed) : Type 0 where
  pub read : IsRead kind s
  pub key_id : IsDigest s.key_id
  pub signature : IsKeyText s.signature

kept-as : (kind : Kind) (place : ℕ) (s : Signed) → IsPublishable kind s → IsKeptAs kind (published_at place s) (record { signed = s; registry_index = place; fetch_token = decimal place })
kept-as kind place s is = record {
  short = is.read.short;
  envelope = record { message = is.read.message; same_contents = refl; key = (is.key_id, refl); same_signature = refl; key_text = is.signature };
  registry_index = refl;
  fetch_token = refl;
}

-- records of the log can be published
abbrev pub ArePublishable : Kind → List ℕ → List (List ℕ × Signed) → Type 0
ArePublishable kind id entries = AllByRecursion (λ e. bytes_eq e.0 id ≡ true → IsPublishable kind e.1) entries

kept-above : (kind : Kind) (id : List ℕ) (after : Option ℕ) (place : ℕ) (entries : List (List ℕ × Signed)) → ArePublishable kind id entries → AreKeptAs kind (published_behind id after place entries) (above after (log_from decimal id place entries))
unfolding published_behind log_from above
kept-above kind id after place [] are = tt
kept-above kind id after place (e ∷ entries) are = by_tests (bytes_eq e.0 id) (is_above place after) are.0 refl (kept-above kind id after (place + 1) entries are.1)
  where
    by_tests : (b c : Bool) → (b ≡ true → IsPublishable kind e.1) → is_above place after ≡ c → AreKeptAs kind (published_behind id after (place + 1) entries) (above after (log_from decimal id (place + 1) entries))
        → AreKeptAs kind (cond (b && c) (published_at place e.1 ∷ published_behind id after (place + 1) entries) (published_behind id after (place + 1) entries))
        (above after (cond b (record { signed = e.1; registry_index = place; fetch_token = decimal place } ∷ log_from decimal id (place + 1) entries) (log_from decimal id (place + 1) entries)))
    by_tests true true is test rest = rw test (kept-as kind place e.1 (is refl), rest)
    by_tests true false is test rest = rw test rest
    by_tests false c is test rest = rest

-- ---- places ascend

-- the place of the last of these records, or another where there is none
last-place : Option ℕ → List Kept → Option ℕ
last-place before [] = before
last-place before (k ∷ ks) = last-place (Some k.registry_index) ks

last-place-is : (d : Option Kept) (ks : List Kept) → index_of (last_or d (map (λ k. Some k) ks)) ≡ last-place (index_of d) ks
unfolding last-place
last-place-is d [] = refl
last-place-is d (k ∷ ks) = last-place-is (Some k) ks

-- a place is below another, where it is there
IsBelow : Option ℕ → ℕ → Type 0
IsBelow None place = Unit {0}
IsBelow (Some before) place = before < place

below-above : (before : Option ℕ) (place : ℕ) → IsBelow before place → is_above place before ≡ true
unfolding IsBelow
below-above None place below = refl
below-above (Some before) place below = lt-ltb before place below

below-more : (before : Option ℕ) (place : ℕ) → IsBelow before place → IsBelow before (place + 1)
unfolding IsBelow
below-more None place below = tt
below-more (Some before) place below = omega (arith, below)

from-ascends : (id : List ℕ) (before : Option ℕ) (place : ℕ) (entries : List (List ℕ × Signed)) → IsBelow before place → AreAbove before (log_from decimal id place entries)
unfolding log_from IsBelow
from-ascends id before place [] below = tt
from-ascends id before place (e ∷ entries) below = by_test (bytes_eq e.0 id) (from-ascends id (Some place) (place + 1) entries (omega arith)) (from-ascends id before (place + 1) entries (below-more before place below))
  where
    by_test : (b : Bool) → AreAbove (Some place) (log_from decimal id (place + 1) entries) → AreAbove before (log_from decimal id (place + 1) entries)
        → AreAbove before (cond b (record { signed = e.1; registry_index = place; fetch_token = decimal place } ∷ log_from decimal id (place + 1) entries) (log_from decimal id (place + 1) entries))
    by_test true own other = (below-above before place below, own)
    by_test false own other = other

-- ---- a beginning and the rest

above-append : (after : Option ℕ) (xs ys : List Kept) → above after (xs ++ ys) ≡ above after xs ++ above after ys
unfolding above
above-append after [] ys = refl
above-append after (x ∷ xs) ys = by_test (is_above x.registry_index after) (above-append after xs ys)
  where
    by_test : (b : Bool) → above after (xs ++ ys) ≡ above after xs ++ above after ys → cond b (x ∷ above after (xs ++ ys)) (above after (xs ++ ys)) ≡ cond b (x ∷ above after xs) (above after xs) ++ above after ys
    by_test true h = ap (λ (l : List Kept). x ∷ l) h
    by_test false h = h

rest-above : (before : Option ℕ) (xs ys : List Kept) → AreAbove before (xs ++ ys) → AreAbove (last-place before xs) ys
unfolding last-place
rest-above before [] ys are = are
rest-above before (x ∷ xs) ys are = rest-above (Some x.registry_index) xs ys are.1

front-above : (before : Option ℕ) (xs ys : List Kept) → AreAbove before (xs ++ ys) → AreAbove before xs
front-above before [] ys are = tt
front-above before (x ∷ xs) ys are = (are.0, front-above (Some x.registry_index) xs ys are.1)

at-most-last : (a j : ℕ) (ks : List Kept) → AreAbove (Some a) ks → last-place (Some a) ks ≡ Some j → a ≤ j
unfolding last-place
at-most-last a j [] are last = let same : a ≡ j = cc last in omega (arith, same)
at-most-last a j (k ∷ ks) are last = let less = ltb-true a k.registry_index are.0 in let most = at-most-last k.registry_index j ks are.1 last in omega (arith, less, most)

all-above : (j a : ℕ) (ks : List Kept) → j ≤ a → AreAbove (Some a) ks → above (Some j) ks ≡ ks
unfolding above
all-above j a [] most are = refl
all-above j a (k ∷ ks) most are =
    let less = ltb-true a k.registry_index are.0 in
    rw (lt-ltb j k.registry_index (omega (arith, less, most))) (ap (λ (l : List Kept). k ∷ l) (all-above j k.registry_index ks (omega (arith, less, most)) are.1))

none-above : (j : ℕ) (before : Option ℕ) (ks : List Kept) → AreAbove before ks → ((k : Kept) (more : List Kept) → ks ≡ k ∷ more → last-place before ks ≡ Some j) → above (Some j) ks ≡ []
unfolding above last-place
none-above j before [] are last = refl
none-above j before (k ∷ ks) are last =
    let most = at-most-last k.registry_index j ks are.1 (last k ks refl) in
    rw (le-ltb j k.registry_index most) (none-above j (Some k.registry_index) ks are.1 (λ _ _ _. last k ks refl))

none-needed : (ks : List Kept) → above None ks ≡ ks
unfolding above
none-needed [] = refl
none-needed (k ∷ ks) = ap (λ (l : List Kept). k ∷ l) (none-needed ks)

never-none : (a : ℕ) (ks : List Kept) → last-place (Some a) ks ≡ None → ⊥
unfolding last-place
never-none a [] last = absurd cc
never-none a (k ∷ ks) last = never-none k.registry_index ks last

-- behind the last of a beginning stands the rest
rest-by-place : (place : Option ℕ) (before rest : List Kept) → AreAbove None (before ++ rest) → last-place None before ≡ place → above place (before ++ rest) ≡ rest
unfolding last-place above
rest-by-place None [] rest are last = none-needed rest
rest-by-place None (k ∷ before) rest are last = absurd (never-none k.registry_index before last)
rest-by-place (Some j) [] rest are last = absurd cc
rest-by-place (Some j) (k ∷ before) rest are last =
    above-append (Some j) (k ∷ before) rest
    ∙ ap (λ (l : List Kept). l ++ above (Some j) rest) (none-above j None (k ∷ before) (front-above None (k ∷ before) rest are) (λ _ _ _. last))
    ∙ all-above j j rest (omega arith) (subst (λ (o : Option ℕ). AreAbove o rest) last (rest-above None (k ∷ before) rest are))

-- what is published behind a beginning of a log is kept as the rest of it
pub rest-published : (kind : Kind) (id : List ℕ) (after : Option ℕ) (entries : List (List ℕ × Signed)) (before rest : List Kept) → ArePublishable kind id entries → log_from decimal id 0 entries ≡ before ++ rest → last_index before ≡ after
    → AreKeptAs kind (published_behind id after 0 entries) rest
unfolding IsBelow
rest-published kind id after entries before rest are parts last =
    let ascends = subst (AreAbove None) parts (from-ascends id None 0 entries tt) in
    let behind = ap (above after) parts ∙ rest-by-place after before rest ascends (sym (last-place-is None before) ∙ last) in
    subst (AreKeptAs kind (published_behind id after 0 entries)) behind (kept-above kind id after 0 entries are)
