-- What a registry publishes of a log behind a beginning of it.
use Rattle.std.proofs.Common.{◌≡◌, ◌≢◌, ◌∷◌, ◌++◌, [], inl, inr, List, ℕ, zero, suc, true, false, Option, refl, sym, ◌∙◌, ap, subst, take, append-nil}
use Rattle.std.specs.Prelude.{bytes_eq}
use Rattle.std.specs.List.{AllByRecursion}
use Rattle.std.proofs.lemmas.Slice.Eq.{bytes_eq-Decides}
use Rattle.sha2.specs.Sha256.{sha256}
use Rattle.warg_hash.specs.ByteLaws.{sha256_is_digest}
use Rattle.warg_hash.specs.Hash.{IsDigest, operator_log_id, package_log_id}
use Rattle.warg_record.specs.Key.{IsKeyText}
use Rattle.warg_record.specs.Record.{Kind, Package, Operator}
use Rattle.warg_record.specs.Envelope.{Signed}
use Rattle.warg_log.specs.Lawful.{IsRead}
use Rattle.warg_info.specs.Kept.{Kept, last_index}
use Rattle.warg_ledger.specs.Registry.{IsLogId, BringsBehind, log_below}
use Rattle.warg_model.specs.declared.key.SigningKey.{SigningKey}
use Rattle.warg_model.specs.Held.{Held, IsModel, IsOwn, IsPackageLogId, HasNoClash, registry_of}
use Rattle.warg_model.specs.Pages.{published_behind}
use Rattle.warg_model.proofs.KeptLaws.{IsPublishable, ArePublishable, rest-published}

all-taken : {A : Type 0} (P : A → Type 0) (n : ℕ) (xs : List A) → AllByRecursion P xs → AllByRecursion P (take n xs)
all-taken P zero xs all = tt
all-taken P (suc n) [] all = tt
all-taken P (suc n) (x ∷ xs) all = (all.0, all-taken P n xs all.1)

own-publishable : (kind : Kind) (k : SigningKey) (s : Signed) → IsRead kind s → s.key_id ≡ sha256 k.key → s.signature ≡ k.signature → IsKeyText k.signature → IsPublishable kind s
own-publishable kind k s read key_id signature text = record { read = read; key_id = subst IsDigest (sym key_id) (sha256_is_digest k.key); signature = subst IsKeyText (sym signature) text }

packages-publishable : (k : SigningKey) (id : List ℕ) (entries : List (List ℕ × Signed)) → IsKeyText k.signature → AllByRecursion (λ e. IsRead Package e.1) entries → AllByRecursion (λ e. IsOwn k e.1) entries → ArePublishable Package id entries
packages-publishable k id [] text read own = tt
packages-publishable k id (e ∷ entries) text read own = ((λ _. own-publishable Package k e.1 read.0 own.0.key_id own.0.signature text), packages-publishable k id entries text read.1 own.1)

none-of-operator : (entries : List (List ℕ × Signed)) → ((name : List ℕ) → package_log_id name ≢ operator_log_id) → AllByRecursion (λ e. IsPackageLogId e.0) entries → ArePublishable Operator operator_log_id entries
none-of-operator [] other ids = tt
none-of-operator (e ∷ entries) other ids = ((λ is. absurd (other ids.0.0 (sym ids.0.1 ∙ (bytes_eq-Decides e.0 operator_log_id).0 is))), none-of-operator entries other ids.1)

operator-publishable : (h : Held) → IsModel h → HasNoClash (registry_of h) → ArePublishable Operator operator_log_id (registry_of h).entries
operator-publishable h model apart =
    ((λ _. own-publishable Operator h.key h.opening model.opening_is_read (ap (λ (s : Signed). s.key_id) model.opening) (ap (λ (s : Signed). s.signature) model.opening) model.signature_text), none-of-operator h.published apart.one_kind model.ids)

package-publishable : (h : Held) (name : List ℕ) → IsModel h → HasNoClash (registry_of h) → ArePublishable Package (package_log_id name) (registry_of h).entries
package-publishable h name model apart =
    ((λ is. absurd (apart.one_kind name (sym ((bytes_eq-Decides operator_log_id (package_log_id name)).0 is)))), packages-publishable h.key (package_log_id name) h.published model.signature_text model.each_is_read model.each_is_own)

of-kind : (h : Held) (kind same : Kind) (id own : List ℕ) → kind ≡ same → id ≡ own → ArePublishable same own (registry_of h).entries → ArePublishable kind id (registry_of h).entries
of-kind h kind same id own is is_id are =
    let entries = (registry_of h).entries in
    subst (λ (k : Kind). ArePublishable k id entries) (sym is) (subst (λ (i : List ℕ). ArePublishable same i entries) (sym is_id) are)

publishable : (h : Held) (kind : Kind) (id : List ℕ) → IsModel h → HasNoClash (registry_of h) → IsLogId kind id → ArePublishable kind id (registry_of h).entries
publishable h kind id model apart is = elim is [
  | inl of ↦ of-kind h kind Operator id operator_log_id of.0 of.1 (operator-publishable h model apart)
  | inr of ↦ of-kind h kind Package id (package_log_id of.1) of.0 of.2 (package-publishable h of.1 model apart)
]

-- it is all that there is of the log behind the beginning
pub brings-behind : (h : Held) (kind : Kind) (id : List ℕ) (n : ℕ) (after : Option ℕ) (before rest : List Kept) → IsModel h → HasNoClash (registry_of h) → IsLogId kind id → log_below (registry_of h) n id ≡ before ++ rest → last_index before ≡ after
    → BringsBehind kind (log_below (registry_of h) n id) before (published_behind id after 0 (take n (registry_of h).entries)) false
brings-behind h kind id n after before rest model apart is parts last = record {
  next = rest;
  after = [];
  parts = parts ∙ ap (λ (l : List Kept). before ++ l) (sym (append-nil rest));
  published = rest-published kind id after (take n (registry_of h).entries) before rest (all-taken (λ e. bytes_eq e.0 id ≡ true → IsPublishable kind e.1) n (registry_of h).entries (publishable h kind id model apart is)) parts last;
  all_of_it = λ _. refl;
}
