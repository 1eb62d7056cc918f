-- Places of a registry's records ascend, so that what an honest page brings is new.
use Rattle.std.proofs.Common.{◌≡◌, ◌<◌, ◌+◌, ◌++◌, ◌∷◌, [], List, ℕ, Bool, true, false, Option, Some, None, refl, sym, ◌∙◌, ap, subst, arith, map}
use Rattle.std.specs.Prelude.{bytes_eq, if◌then◌else◌}
use Rattle.std.proofs.lemmas.Bool.{lt-ltb}
use Rattle.warg_log.specs.History.{last_or}
use Rattle.warg_record.specs.Record.{Kind}
use Rattle.warg_record.specs.Envelope.{Signed}
use Rattle.warg_exchange.specs.declared.logs.PublishedRecord.{PublishedRecord}
use Rattle.warg_info.specs.Kept.{Kept, AreEnvelopes, AreKeptAs, AreAbove, Ascends, is_above, index_of, last_index, new_after, Grows}
use Rattle.warg_ledger.specs.Registry.{log_from}

same-some : (i j : ℕ) → Some i ≡ Some j → i ≡ j
same-some i j e = cc e

above : (last : Option ℕ) (place : ℕ) → ((i : ℕ) → last ≡ Some i → i < place) → is_above place last ≡ true
above None place below = refl
above (Some i) place below = lt-ltb i place (below i refl)

above-by-id : (b : Bool) (k : Kept) (place : ℕ) (ks : List Kept) (last : Option ℕ) → k.registry_index ≡ place → ((i : ℕ) → last ≡ Some i → i < place)
    → ((after : Option ℕ) → ((i : ℕ) → after ≡ Some i → i < place + 1) → AreAbove after ks) → AreAbove last (if b then k ∷ ks else ks)
above-by-id true k place ks last is below rest =
    (ap (λ (n : ℕ). is_above n last) is ∙ above last place below, rest (Some k.registry_index) (λ i e. let same : k.registry_index ≡ i = same-some k.registry_index i e in omega (arith, same, is)))
above-by-id false k place ks last is below rest = rest last (λ i e. let less = below i e in omega (arith, less))

log-above : (token : ℕ → List ℕ) (id : List ℕ) (place : ℕ) (entries : List (List ℕ × Signed)) (last : Option ℕ) → ((i : ℕ) → last ≡ Some i → i < place) → AreAbove last (log_from token id place entries)
unfolding log_from
log-above token id place [] last below = tt
log-above token id place (e ∷ entries) last below =
    above-by-id (bytes_eq e.0 id) (record { signed = e.1; registry_index = place; fetch_token = token place }) place (log_from token id (place + 1) entries) last refl below
    (λ after less. log-above token id (place + 1) entries after less)

pub log-ascends : (token : ℕ → List ℕ) (id : List ℕ) (entries : List (List ℕ × Signed)) → Ascends (log_from token id 0 entries)
log-ascends token id entries = log-above token id 0 entries None (λ i e. absurd cc)

-- ---- parts of an ascending log

some-last : (k : Kept) (log : List Kept) → last_or (Some k) (map (λ j. Some j) log) ≡ Some (last_or k log)
some-last k [] = refl
some-last k (next ∷ log) = some-last next log

behind-last : (k : Kept) (before rest : List Kept) → AreAbove (Some k.registry_index) (before ++ rest) → AreAbove (Some (last_or k before).registry_index) rest
behind-last k [] rest are = are
behind-last k (j ∷ before) rest are = behind-last j before rest are.1

pub behind : (before rest : List Kept) → Ascends (before ++ rest) → AreAbove (last_index before) rest
behind [] rest are = are
behind (k ∷ before) rest are = subst (λ (o : Option Kept). AreAbove (index_of o) rest) (sym (some-last k before)) (behind-last k before rest are.1)

pub front : (last : Option ℕ) (xs ys : List Kept) → AreAbove last (xs ++ ys) → AreAbove last xs
front last [] ys are = tt
front last (x ∷ xs) ys are = (are.0, front (Some x.registry_index) xs ys are.1)

-- ---- records of an ascending log are all new behind what stands before them

pub all-new : (kind : Kind) (ps : List PublishedRecord) (ks : List Kept) (last : Option ℕ) → AreKeptAs kind ps ks → AreAbove last ks → new_after last ps ≡ ps
unfolding new_after
all-new kind [] [] last are is = refl
all-new kind [] (k ∷ ks) last are is = absurd are
all-new kind (p ∷ ps) [] last are is = absurd are
all-new kind (p ∷ ps) (k ∷ ks) last are is =
    let index : k.registry_index ≡ p.registry_index = are.0.registry_index in
    let new : is_above p.registry_index last ≡ true = ap (λ (n : ℕ). is_above n last) (sym index) ∙ is.0 in
    rw new (ap (λ (l : List PublishedRecord). p ∷ l) (all-new kind ps ks (Some p.registry_index) are.1 (subst (λ (n : ℕ). AreAbove (Some n) ks) index is.1)))

envelopes : (kind : Kind) (ps : List PublishedRecord) (ks : List Kept) → AreKeptAs kind ps ks → AreEnvelopes kind ps
envelopes kind [] [] are = tt
envelopes kind [] (k ∷ ks) are = absurd are
envelopes kind (p ∷ ps) [] are = absurd are
envelopes kind (p ∷ ps) (k ∷ ks) are = ((k.signed, are.0.envelope), envelopes kind ps ks are.1)

-- so a log that begins an ascending one grows by just what is published of the rest
pub honest-grows : (kind : Kind) (before next after : List Kept) (ps : List PublishedRecord) → Ascends (before ++ (next ++ after)) → AreKeptAs kind ps next → Grows kind before ps (before ++ next)
honest-grows kind before next after ps ascends are = record {
  read = envelopes kind ps next are;
  more = next;
  kept = subst (λ (l : List PublishedRecord). AreKeptAs kind l next) (sym (all-new kind ps next (last_index before) are (front (last_index before) next after (behind before (next ++ after) ascends)))) are;
  parts = refl;
}
