-- That a registry of one key is a registry, by the signatures that are listed of it.
use Rattle.std.proofs.Common.{◌≡◌, ◌≢◌, ◌∷◌, ◌++◌, [], inl, inr, List, ℕ, Bool, true, false, None, refl, sym, ◌∙◌, ap, subst, map, take, drop}
use Rattle.std.specs.Prelude.{◌↔◌, bytes_eq, cond}
use Rattle.std.specs.List.{AllByRecursion}
use Rattle.std.specs.List.Sorted.{IsPermutation}
use Rattle.std.proofs.lemmas.List.{take-append-drop, map-append}
use Rattle.std.proofs.lemmas.Slice.Eq.{bytes_eq-Decides}
use Rattle.warg_hash.specs.Hash.{operator_log_id, package_log_id}
use Rattle.warg_record.specs.Record.{Kind, Package, Operator}
use Rattle.warg_record.specs.Envelope.{Signed}
use Rattle.warg_log.specs.Lawful.{IsLawful}
use Rattle.warg_log.specs.Rules.{Accepts, breach_of, signed_text}
use Rattle.warg_info.specs.Info.{IsLawfulLog}
use Rattle.warg_update.specs.Proved.{checkpoint_text}
use Rattle.warg_ledger.specs.Registry.{Registry, IsRegistry, log_below}
use Rattle.warg_model.specs.Records.{accepted_by, records_of}
use Rattle.warg_model.specs.Signatures.{signature_on, accepted_of}
use Rattle.warg_model.specs.Held.{Held, IsModel, IsPackageLogId, HasNoClash, AcceptsSigned, registry_of, signed_texts, signatures_of}
use Rattle.warg_model.proofs.RecordLaws.{records-append, records-all, signed-records}
use Rattle.warg_model.proofs.SignatureLaws.{Lists, Passes, lawful-keeps, all-listed, permuted-listed, listed-among, own-passes, all-weaker, all-mapped, all-front}

-- ---- the laws of warg_log that are used

pub record LogLaws : Type 0 where
  pub none : (kind : Kind) (accepts : Accepts) → IsLawful kind accepts []
  pub more : (kind : Kind) (accepts : Accepts) (log : List Signed) (s : Signed) → IsLawful kind accepts (log ++ s ∷ []) ↔ (IsLawful kind accepts log × (breach_of kind accepts log s ≡ None))
  pub front : (kind : Kind) (accepts : Accepts) (log more : List Signed) → IsLawful kind accepts (log ++ more) → IsLawful kind accepts log

-- ---- below a length

below-lawful : LogLaws → (kind : Kind) (accepts : Accepts) (w : Registry) (n : ℕ) (id : List ℕ) → IsLawful kind accepts (records_of id w.entries) → IsLawfulLog kind accepts (log_below w n id)
below-lawful laws kind accepts w n id whole =
    let front = records_of id (take n w.entries) in
    let parts : records_of id w.entries ≡ front ++ records_of id (drop n w.entries) = ap (records_of id) (sym (take-append-drop n w.entries)) ∙ records-append id (take n w.entries) (drop n w.entries) in
    subst (IsLawful kind accepts) (sym (signed-records w.token id 0 (take n w.entries))) (laws.front kind accepts front (records_of id (drop n w.entries)) (subst (IsLawful kind accepts) parts whole))

-- ---- the records of each log

by-other-id : (b : Bool) (s : Signed) (log : List Signed) → b ≡ false → cond b (s ∷ log) log ≡ log
by-other-id true s log is = absurd cc
by-other-id false s log is = refl

other-id : (a b : List ℕ) → a ≢ b → bytes_eq a b ≡ false
other-id a b other = by_test (bytes_eq a b) refl
  where
    by_test : (t : Bool) → bytes_eq a b ≡ t → bytes_eq a b ≡ false
    by_test true is = absurd (other ((bytes_eq-Decides a b).0 is))
    by_test false is = is

-- a package's log has no record of the operator's
package-alone : (h : Held) (name : List ℕ) → package_log_id name ≢ operator_log_id → records_of (package_log_id name) (registry_of h).entries ≡ records_of (package_log_id name) h.published
unfolding records_of
package-alone h name other =
    by-other-id (bytes_eq operator_log_id (package_log_id name)) h.opening (records_of (package_log_id name) h.published) (other-id operator_log_id (package_log_id name) (λ is. other (sym is)))

none-of-packages : (entries : List (List ℕ × Signed)) → ((name : List ℕ) → package_log_id name ≢ operator_log_id) → AllByRecursion (λ e. IsPackageLogId e.0) entries → records_of operator_log_id entries ≡ []
unfolding records_of
none-of-packages [] other ids = refl
none-of-packages (e ∷ entries) other ids =
    by-other-id (bytes_eq e.0 operator_log_id) e.1 (records_of operator_log_id entries) (other-id e.0 operator_log_id (λ is. other ids.0.0 (sym ids.0.1 ∙ is)))
    ∙ none-of-packages entries other ids.1

-- the operator's log has its one record
pub operator-alone : (h : Held) → IsModel h → HasNoClash (registry_of h) → records_of operator_log_id (registry_of h).entries ≡ h.opening ∷ []
unfolding records_of
operator-alone h model apart =
    ap (λ (b : Bool). cond b (h.opening ∷ records_of operator_log_id h.published) (records_of operator_log_id h.published)) ((bytes_eq-Decides operator_log_id operator_log_id).1 refl)
    ∙ ap (λ (l : List Signed). h.opening ∷ l) (none-of-packages h.published apart.one_kind model.ids)

-- ---- signatures

-- each text that was signed is listed, among others, in whatever order
pub texts-listed : (h : Held) (before after listed : List (List ℕ × List ℕ × List ℕ)) → IsPermutation (before ++ (signatures_of h ++ after)) listed → AcceptsSigned (accepted_of listed) h
texts-listed h before after listed same =
    let all = before ++ (signatures_of h ++ after) in
    all-weaker (Lists h.key (signatures_of h)) (Lists h.key listed) (λ t own. permuted-listed h.key t all listed same (listed-among h.key t before (signatures_of h) after own)) (signed_texts h) (all-listed h.key (signed_texts h))

packages-pass : (h : Held) (accepts : Accepts) → AcceptsSigned accepts h → AllByRecursion (λ e. Passes Package (accepted_by h.key) accepts e.1) h.published
packages-pass h accepts own =
    let text : List ℕ × Signed → List ℕ = λ e. signed_text Package e.1.contents in
    let Own : List ℕ → Type 0 = λ t. accepts h.key.key t h.key.signature ≡ true in
    let all = all-mapped Own text h.published (all-front Own (map text h.published) (map checkpoint_text h.checkpoints) own.1) in
    all-weaker (λ e. Own (text e)) (λ e. Passes Package (accepted_by h.key) accepts e.1) (λ e. own-passes Package h.key accepts e.1) h.published all

-- ---- the registry

operator-lawful : LogLaws → (h : Held) (accepts : Accepts) → IsModel h → AcceptsSigned accepts h → HasNoClash (registry_of h) → IsLawful Operator accepts (records_of operator_log_id (registry_of h).entries)
operator-lawful laws h accepts model own apart =
    let obeys = (laws.more Operator (accepted_by h.key) [] h.opening).1 (laws.none Operator (accepted_by h.key), model.obeys) in
    subst (IsLawful Operator accepts) (sym (operator-alone h model apart))
    (lawful-keeps Operator (accepted_by h.key) accepts (h.opening ∷ []) (own-passes Operator h.key accepts h.opening own.0, tt) obeys)

package-lawful : (h : Held) (accepts : Accepts) (name : List ℕ) → IsModel h → AcceptsSigned accepts h → HasNoClash (registry_of h)
    → IsLawful Package accepts (records_of (package_log_id name) (registry_of h).entries)
package-lawful h accepts name model own apart =
    let id = package_log_id name in
    subst (IsLawful Package accepts) (sym (package-alone h name (apart.one_kind name)))
    (lawful-keeps Package (accepted_by h.key) accepts (records_of id h.published) (records-all (Passes Package (accepted_by h.key) accepts) id h.published (packages-pass h accepts own)) (model.lawful id))

pub the-registry : LogLaws → (h : Held) (accepts : Accepts) → IsModel h → AcceptsSigned accepts h → HasNoClash (registry_of h) → IsRegistry accepts (registry_of h)
the-registry laws h accepts model own apart = record {
  lawful = λ kind id n is. elim is [
    | inl of ↦ rw (of.0, of.1) (below-lawful laws Operator accepts (registry_of h) n operator_log_id (operator-lawful laws h accepts model own apart))
    | inr of ↦ rw (of.0, of.2) (below-lawful laws Package accepts (registry_of h) n (package_log_id of.1) (package-lawful h accepts of.1 model own apart))
  ];
  one_key = apart.one_key;
}

-- ---- the list of signatures

map-twice : {A B C : Type 0} (f : A → B) (g : B → C) (xs : List A) → map g (map f xs) ≡ map (λ x. g (f x)) xs
map-twice f g [] = refl
map-twice {C = C} f g (x ∷ xs) = ap (λ (l : List C). g (f x) ∷ l) (map-twice f g xs)

-- the signatures of the operator's record, of the packages' records, and of the checkpoints, one list behind the other
pub signatures-in-turn : (h : Held) (none first second last : List (List ℕ × List ℕ × List ℕ)) (x : List ℕ × List ℕ × List ℕ) → none ≡ [] → first ≡ none ++ x ∷ [] → x ≡ signature_on h.key (signed_text Operator h.opening.contents)
    → second ≡ first ++ map (λ e. signature_on h.key (signed_text Package e.1.contents)) h.published → last ≡ second ++ map (λ c. signature_on h.key (checkpoint_text c)) h.checkpoints → last ≡ signatures_of h
signatures-in-turn h none first second last x is_none is_first is is_second is_last =
    let Triples = List (List ℕ × List ℕ × List ℕ) in
    let sign = signature_on h.key in
    let text : List ℕ × Signed → List ℕ = λ e. signed_text Package e.1.contents in
    let records = map (λ e. sign (text e)) h.published in
    let checkpoints = map (λ c. sign (checkpoint_text c)) h.checkpoints in
    let opening = sign (signed_text Operator h.opening.contents) in
    let begins : first ≡ opening ∷ [] = is_first ∙ ap (λ (l : Triples). l ++ x ∷ []) is_none ∙ ap (λ (t : List ℕ × List ℕ × List ℕ). t ∷ []) is in
    let parts : signatures_of h ≡ opening ∷ (records ++ checkpoints) =
    ap (λ (l : Triples). opening ∷ l) (map-append sign (map text h.published) (map checkpoint_text h.checkpoints) ∙ ap (λ (l : Triples). l ++ map sign (map checkpoint_text h.checkpoints)) (map-twice text sign h.published)
    ∙ ap (λ (l : Triples). records ++ l) (map-twice checkpoint_text sign h.checkpoints)) in
    is_last ∙ ap (λ (l : Triples). l ++ checkpoints) (is_second ∙ ap (λ (l : Triples). l ++ records) begins) ∙ sym parts
