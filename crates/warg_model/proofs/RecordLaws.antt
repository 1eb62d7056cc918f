-- The records of a log among those of several logs.
use Rattle.std.proofs.Common.{◌≡◌, ◌+◌, ◌∷◌, ◌++◌, [], List, ℕ, Bool, true, false, None, ◌<◌, ◌^◌, refl, sym, ◌∙◌, ap, subst, append-nil, arith}
use Rattle.std.specs.Prelude.{bytes_eq, cond, not, IfSome}
use Rattle.std.specs.List.{AllByRecursion}
use Rattle.std.proofs.lemmas.Slice.Eq.{bytes_eq-Decides}
use Rattle.warg_hash.specs.ByteLaws.{sha256_is_digest}
use Rattle.warg_hash.specs.Hash.{IsDigest}
use Rattle.warg_record.specs.Record.{Kind, Package, PlainEntry, IsEntry, IsRecord}
use Rattle.warg_record.specs.Envelope.{Signed}
use Rattle.warg_log.specs.History.{last_or}
use Rattle.warg_log.specs.Lawful.{IsLawful}
use Rattle.warg_log.specs.Rules.{Accepts, breach_of, head_id, head_of}
use Rattle.warg_info.specs.Kept.{Kept, signed_log}
use Rattle.warg_ledger.specs.Registry.{log_from}
use Rattle.warg_model.specs.Records.{record_at, records_of}

-- ---- more records

append-by-test : (b : Bool) (s : Signed) (xs ys zs : List Signed) → xs ≡ ys ++ zs → cond b (s ∷ xs) xs ≡ cond b (s ∷ ys) ys ++ zs
append-by-test true s xs ys zs h = ap (λ (l : List Signed). s ∷ l) h
append-by-test false s xs ys zs h = h

pub records-append : (id : List ℕ) (entries more : List (List ℕ × Signed)) → records_of id (entries ++ more) ≡ records_of id entries ++ records_of id more
unfolding records_of
records-append id [] more = refl
records-append id (e ∷ entries) more = append-by-test (bytes_eq e.0 id) e.1 (records_of id (entries ++ more)) (records_of id entries) (records_of id more) (records-append id entries more)

pub records-none : (id : List ℕ) → records_of id [] ≡ []
unfolding records_of
records-none id = refl

-- one record is of the log with its own id, and of no other
records-one : (id : List ℕ) (e : List ℕ × Signed) → records_of id (e ∷ []) ≡ cond (bytes_eq e.0 id) (e.1 ∷ []) []
unfolding records_of
records-one id e = refl

one-by-test : (b : Bool) (s : Signed) → false ≡ not b → cond b (s ∷ []) [] ≡ s ∷ []
one-by-test true s is = refl
one-by-test false s is = absurd cc

none-by-test : (b : Bool) (s : Signed) → true ≡ not b → cond b (s ∷ []) [] ≡ []
none-by-test true s is = absurd cc
none-by-test false s is = refl

pub own-record : (id : List ℕ) (e : List ℕ × Signed) → false ≡ not (bytes_eq e.0 id) → records_of id (e ∷ []) ≡ e.1 ∷ []
own-record id e is = records-one id e ∙ one-by-test (bytes_eq e.0 id) e.1 is

pub other-record : (id : List ℕ) (e : List ℕ × Signed) (log : List Signed) → true ≡ not (bytes_eq e.0 id) → log ++ records_of id (e ∷ []) ≡ log
other-record id e log is = ap (λ (l : List Signed). log ++ l) (records-one id e ∙ none-by-test (bytes_eq e.0 id) e.1 is) ∙ append-nil log

same-id : (id : List ℕ) → bytes_eq id id ≡ true
same-id id = (bytes_eq-Decides id id).1 refl

-- one more of this log
pub records-more : (id : List ℕ) (entries : List (List ℕ × Signed)) (s : Signed) → records_of id (entries ++ (id, s) ∷ []) ≡ records_of id entries ++ s ∷ []
unfolding records_of
records-more id entries s = records-append id entries ((id, s) ∷ []) ∙ ap (λ (b : Bool). records_of id entries ++ cond b (s ∷ []) []) (same-id id)

-- what holds of all holds of a log's
pub records-all : (P : Signed → Type 0) (id : List ℕ) (entries : List (List ℕ × Signed)) → AllByRecursion (λ e. P e.1) entries → AllByRecursion P (records_of id entries)
unfolding records_of
records-all P id [] all = tt
records-all P id (e ∷ entries) all = by_test (bytes_eq e.0 id) (records_of id entries) (records-all P id entries all.1)
  where
    by_test : (b : Bool) (log : List Signed) → AllByRecursion P log → AllByRecursion P (cond b (e.1 ∷ log) log)
    by_test true log rest = (all.0, rest)
    by_test false log rest = rest

-- ---- lawful logs

-- the law of warg_log: one more record that breaks no rule
abbrev pub GoesOn : Accepts → Type 0
GoesOn accepts = (log : List Signed) (s : Signed) → IsLawful Package accepts log → breach_of Package accepts log s ≡ None → IsLawful Package accepts (log ++ s ∷ [])

-- with one record more, which breaks no rule behind those of its log, each log is lawful
pub each-lawful : (accepts : Accepts) → GoesOn accepts → (entries : List (List ℕ × Signed)) (of : List ℕ) (s : Signed) → ((id : List ℕ) → IsLawful Package accepts (records_of id entries)) → breach_of Package accepts (records_of of entries) s ≡ None
    → (id : List ℕ) → IsLawful Package accepts (records_of id (entries ++ (of, s) ∷ []))
unfolding records_of
each-lawful accepts goes_on entries of s lawful obeys id = subst (IsLawful Package accepts) (sym (records-append id entries ((of, s) ∷ []))) (by_test (bytes_eq of id) refl)
  where
    by_test : (b : Bool) → bytes_eq of id ≡ b → IsLawful Package accepts (records_of id entries ++ cond b (s ∷ []) [])
    by_test true is =
        let same : of ≡ id = (bytes_eq-Decides of id).0 is in
        goes_on (records_of id entries) s (lawful id) (ap (λ (i : List ℕ). breach_of Package accepts (records_of i entries) s) (sym same) ∙ obeys)
    by_test false is = subst (IsLawful Package accepts) (sym (append-nil (records_of id entries))) (lawful id)

-- ---- as they are kept

signed-by-test : (b : Bool) (k : Kept) (ks : List Kept) (ss : List Signed) → signed_log ks ≡ ss → signed_log (cond b (k ∷ ks) ks) ≡ cond b (k.signed ∷ ss) ss
signed-by-test true k ks ss h = ap (λ (l : List Signed). k.signed ∷ l) h
signed-by-test false k ks ss h = h

-- a log that a client keeps has these records
pub signed-records : (token : ℕ → List ℕ) (id : List ℕ) (place : ℕ) (entries : List (List ℕ × Signed)) → signed_log (log_from token id place entries) ≡ records_of id entries
unfolding log_from records_of
signed-records token id place [] = refl
signed-records token id place (e ∷ entries) =
    signed-by-test (bytes_eq e.0 id) (record { signed = e.1; registry_index = place; fetch_token = token place }) (log_from token id (place + 1) entries) (records_of id entries) (signed-records token id (place + 1) entries)

-- ---- their form

head-digest : (log : List Signed) → IfSome (head_id (head_of log)) IsDigest
head-digest [] = tt
head-digest (s ∷ log) = sha256_is_digest (last_or s log).contents

-- a record of an entry of the form has the form
pub record-form : (kind : Kind) (place : ℕ) (log : List Signed) (entry : PlainEntry) → place < 2 ^ 64 → IsEntry kind entry → IsRecord kind (record_at place log entry)
record-form kind place log entry small form = record {
  prev = head-digest log;
  version = omega arith;
  seconds = small;
  nanos = omega arith;
  some_entry = omega arith;
  entries = (form, tt);
}
