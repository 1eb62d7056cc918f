-- Logs that begin a registry's, each of which has a record, are not refused.
use Rattle.std.proofs.Common.{◌≡◌, ◌≢◌, ◌+◌, ◌∷◌, ◌++◌, [], ℕ, suc, List, Bool, true, false, cond, Option, Some, None, refl, sym, ◌∙◌, ap, subst, map, take, arith}
use Rattle.std.proofs.lemmas.List.Elements.{All-cons, All-contains, All-contains_itself, All-map}
use Rattle.std.proofs.lemmas.Option.{same_Some}
use Rattle.std.proofs.lemmas.Slice.Eq.{bytes_eq-Decides}
use Rattle.std.specs.Prelude.{All, Contains, IfSome, bytes_eq, option_map, slice_get, slice_index_or}
use Rattle.std.specs.List.{AllByRecursion}
use Rattle.warg_hash.specs.Hash.{operator_log_id, package_log_id}
use Rattle.warg_record.specs.Envelope.{Signed}
use Rattle.warg_exchange.specs.declared.exchange.Reply.{Reply}
use Rattle.warg_exchange.specs.declared.service.ServiceError.{ServiceError}
use Rattle.warg_log.specs.History.{last_or}
use Rattle.warg_info.specs.Kept.{Kept, last_kept, last_token}
use Rattle.warg_page.specs.Logs.{Logs, tokens_of}
use Rattle.warg_ledger.specs.Honest.{HaveRecords}
use Rattle.warg_ledger.specs.Registry.{Registry, log_from, log_below}
use Rattle.warg_model.specs.Pages.{IsLogFault, NameLast, StartsWith}
use Rattle.warg_model.specs.declared.error.LogsError.{LogsError}
use Rattle.warg_model.specs.declared.error.LogsError.TheVariants as error
use Rattle.warg_vectors.specs.Answers.{RefusesLog, IsErrorOf}

-- ---- what the records of a log are called by

-- the record is called as one of the log at a place is, where the first entry has this place
abbrev IsCalled : (ℕ → List ℕ) → List ℕ → ℕ → List (List ℕ × Signed) → Kept → Type 0
IsCalled token id place entries k = (at : ℕ) × (k.fetch_token ≡ token (place + at)) × (slice_get (map (λ e. e.0) entries) at ≡ Some id)

called-further : (token : ℕ → List ℕ) (id : List ℕ) (place : ℕ) (e : List ℕ × Signed) (entries : List (List ℕ × Signed)) (ks : List Kept) → AllByRecursion (IsCalled token id (place + 1) entries) ks → AllByRecursion (IsCalled token id place (e ∷ entries)) ks
called-further token id place e entries [] are = tt
called-further token id place e entries (k ∷ ks) are = ((suc are.0.0, are.0.1 ∙ ap token (omega arith), are.0.2), called-further token id place e entries ks are.1)

called-by-id : (b : Bool) (token : ℕ → List ℕ) (id : List ℕ) (place : ℕ) (e : List ℕ × Signed) (entries : List (List ℕ × Signed)) (ks : List Kept) → bytes_eq e.0 id ≡ b → AllByRecursion (IsCalled token id place (e ∷ entries)) ks
    → AllByRecursion (IsCalled token id place (e ∷ entries)) (cond b (record { signed = e.1; registry_index = place; fetch_token = token place } ∷ ks) ks)
called-by-id true token id place e entries ks is rest = ((0, ap token (omega arith), ap (λ (i : List ℕ). Some i) ((bytes_eq-Decides e.0 id).0 is)), rest)
called-by-id false token id place e entries ks is rest = rest

all-called : (token : ℕ → List ℕ) (id : List ℕ) (place : ℕ) (entries : List (List ℕ × Signed)) → AllByRecursion (IsCalled token id place entries) (log_from token id place entries)
unfolding log_from
all-called token id place [] = tt
all-called token id place (e ∷ entries) =
    let later = log_from token id (place + 1) entries in
    called-by-id (bytes_eq e.0 id) token id place e entries later refl (called-further token id place e entries later (all-called token id (place + 1) entries))

all-front : (P : Kept → Type 0) (front rest : List Kept) → AllByRecursion P (front ++ rest) → AllByRecursion P front
all-front P [] rest all = tt
all-front P (k ∷ front) rest all = (all.0, all-front P front rest all.1)

last-holds : (P : Kept → Type 0) (before : Option Kept) (ks : List Kept) → IfSome before P → AllByRecursion P ks → IfSome (last_or before (map (λ k. Some k) ks)) P
last-holds P before [] first all = first
last-holds P before (k ∷ ks) first all = last-holds P (Some k) ks all.0 all.1

-- ---- a log that is asked for

abbrev Asked : Type 0
Asked = List ℕ × Option (List ℕ)

-- its token names the last record of a beginning of the registry's log, which has one
record IsNamed (w : Registry) (n : ℕ) (a : Asked) : Type 0 where
  log : List Kept
  begins : StartsWith (log_below w n a.0) log
  named : a.1 ≡ last_token log
  some : log_below w n a.0 ≢ []

last-called : (w : Registry) (n : ℕ) (a : Asked) (named : IsNamed w n a) → IfSome (last_kept named.log) (IsCalled w.token a.0 0 (take n w.entries))
last-called w n a named =
    let P : Kept → Type 0 = IsCalled w.token a.0 0 (take n w.entries) in
    last-holds P None named.log tt (all-front P named.log named.begins.0 (subst (AllByRecursion P) named.begins.1 (all-called w.token a.0 0 (take n w.entries))))

token-names : (w : Registry) (n : ℕ) (a : Asked) (token : List ℕ) (last : Option Kept) → IfSome last (IsCalled w.token a.0 0 (take n w.entries)) → option_map (λ (k : Kept). k.fetch_token) last ≡ Some token
    → IsLogFault w n a (error.FetchTokenNotFound token) → ⊥
token-names w n a token None called is fault = absurd cc
token-names w n a token (Some k) called is fault =
    let same : k.fetch_token ≡ token = same_Some k.fetch_token token is in
    fault.1 called.0 called.2 (sym same ∙ called.1 ∙ ap w.token (omega arith))

no-fault : (w : Registry) (n : ℕ) (a : Asked) (fault : LogsError) (e : ServiceError) → IsNamed w n a → IsLogFault w n a fault → IsErrorOf fault e → ⊥
no-fault w n a (error.LogNotFound id) e named fault of_fault = named.some (ap (log_below w n) fault.0 ∙ fault.2)
no-fault w n a (error.FetchTokenNotFound token) e named fault of_fault = token-names w n a token (last_kept named.log) (last-called w n a named) (sym named.named ∙ fault.0) fault
no-fault w n a error.Memory e named fault of_fault = of_fault

-- ---- all of them

all-from : {X : Type 0} (P : X → Type 0) (xs : List X) → ((x : X) → Contains xs x → P x) → All P xs
all-from P xs holds k d lt = holds (slice_index_or xs k d) (All-contains_itself xs k d lt)

module _ (w : Registry) (n : ℕ) (operator : Option (List ℕ)) (packages : List Asked) (logs : Logs) (names : NameLast w n operator packages logs) (have : HaveRecords w n logs) where
  package-named : (p : List ℕ × List Kept) → Contains logs.packages p → IsNamed w n (package_log_id p.0, last_token p.1)
  package-named p there = record { log = p.1; begins = names.packages_begin p.0 p.1 there; named = refl; some = have.packages p.0 p.1 there }

  tokens-named : All (IsNamed w n) (tokens_of logs.packages)
  tokens-named = All-map (IsNamed w n) (λ (p : List ℕ × List Kept). (package_log_id p.0, last_token p.1)) logs.packages (all-from (λ p. IsNamed w n (package_log_id p.0, last_token p.1)) logs.packages package-named)

  all-named : All (IsNamed w n) ((operator_log_id, operator) ∷ packages)
  all-named =
      All-cons (IsNamed w n) (operator_log_id, operator) packages
      (record { log = logs.operator; begins = names.operator_begins; named = names.operator_token; some = have.operator })
      (all-from (IsNamed w n) packages (λ a there. All-contains (IsNamed w n) (tokens_of logs.packages) a tokens-named ((names.package_tokens a).1 there)))

  pub never-refused : (reply : Reply) → RefusesLog w n ((operator_log_id, operator) ∷ packages) reply → ⊥
  never-refused reply r = no-fault w n r.log r.fault r.error (All-contains (IsNamed w n) ((operator_log_id, operator) ∷ packages) r.log all-named r.stands) r.is r.of_fault
