-- What an honest registry's page leaves.
use Rattle.std.proofs.Common.{◌≡◌, ◌<◌, ◌++◌, ◌∷◌, [], inl, List, ℕ, Bool, zero, suc, refl, sym, ◌∙◌, ap, subst, length, take, append-nil, arith, get_or}
use Rattle.std.specs.Prelude.{Contains, bytes_eq, if◌then◌else◌}
use Rattle.warg_hash.specs.Hash.{operator_log_id, package_log_id}
use Rattle.warg_record.specs.Record.{Kind, Package, Operator}
use Rattle.warg_log.specs.Rules.{Accepts}
use Rattle.warg_exchange.specs.Views.{Page}
use Rattle.warg_exchange.specs.declared.logs.PublishedRecord.{PublishedRecord}
use Rattle.warg_info.specs.Kept.{Kept, AreKeptAs, AreAbove, Ascends, last_index, new_after, Grows}
use Rattle.warg_page.specs.Logs.{Logs, Brings, LeavesNoneEmpty, brought}
use Rattle.warg_ledger.specs.Registry.{Registry, IsRegistry, log_below, BringsBehind, IsPageOf, Begins}
use Rattle.warg_ledger.proofs.AscendLaws.{log-ascends, behind, front, all-new}
use Rattle.warg_ledger.proofs.TakenLaws.{Laws}
use Rattle.warg_ledger.proofs.PageLaws.{IsTold, goes-on, grown-at, own-list, package-told}

no-more : (kind : Kind) (next : List Kept) → AreKeptAs kind [] next → next ≡ []
no-more kind [] are = refl
no-more kind (k ∷ next) are = absurd are

-- a log behind which nothing is published yet begins the registry's
begins : (kind : Kind) (whole log : List Kept) (more : Bool) → BringsBehind kind whole log [] more → Begins whole log more
begins kind whole log more b = record {
  rest = b.after;
  parts = b.parts ∙ ap (λ (l : List Kept). log ++ (l ++ b.after)) (no-more kind b.next b.published);
  all_of_it = b.all_of_it;
}

-- a log behind all that was published begins the registry's
behind-all : Laws → (kind : Kind) (accepts : Accepts) (whole before after : List Kept) (ps : List PublishedRecord) (more : Bool) → IsTold kind accepts whole → BringsBehind kind whole before ps more → Grows kind before ps after
    → Begins whole after more
behind-all laws kind accepts whole before after ps more told b grows =
    begins kind whole after more (goes-on laws kind accepts whole before after ps [] more told (subst (λ (l : List PublishedRecord). BringsBehind kind whole before l more) (sym (append-nil ps)) b) grows)

pub operator-left : Laws → (accepts : Accepts) (w : Registry) (n : ℕ) (logs : Logs) (page : Page) (after : Logs) → IsRegistry accepts w → IsPageOf w n logs page → Brings logs page after
    → Begins (log_below w n operator_log_id) after.operator page.more
operator-left laws accepts w n logs page after registry is brings =
    let told : IsTold Operator accepts (log_below w n operator_log_id) = record {
      lawful = registry.lawful Operator operator_log_id n (inl (refl, refl));
      ascends = log-ascends w.token operator_log_id (take n w.entries);
    } in
    behind-all laws Operator accepts (log_below w n operator_log_id) logs.operator after.operator page.operator page.more told is.operator_records brings.operator

pub package-left : Laws → (accepts : Accepts) (w : Registry) (n : ℕ) (logs : Logs) (page : Page) (after : Logs) (name : List ℕ) (log : List Kept) → IsRegistry accepts w → IsPageOf w n logs page → Brings logs page after
    → Contains after.packages (name, log) → Begins (log_below w n (package_log_id name)) log page.more
package-left laws accepts w n logs page after name log registry is brings there =
    let grown = grown-at page.packages logs.packages after.packages name log there.0 brings.packages there.1 there.2 in
    behind-all laws Package accepts (log_below w n (package_log_id name)) grown.log log (brought (package_log_id name) page.packages) page.more (package-told accepts w n name registry) (is.package_records name grown.log grown.there) grown.grows

-- ---- no listed log is left empty

first-none : {A : Type 0} (xs ys : List A) → xs ++ ys ≡ [] → xs ≡ []
first-none [] ys e = refl
first-none (x ∷ xs) ys e = absurd cc

rest-none : {A : Type 0} (xs ys : List A) → xs ++ ys ≡ [] → ys ≡ []
rest-none [] ys e = e
rest-none (x ∷ xs) ys e = absurd cc

-- where nothing is brought, no record is listed
none-listed : (id : List ℕ) (records : List PublishedRecord) (listed : List (List ℕ × List PublishedRecord)) (i : ℕ) → i < length listed → get_or listed i (id, records) ≡ (id, records) → brought id listed ≡ [] → records ≡ []
none-listed id records [] i lt is none = absurd (omega (arith, lt))
none-listed id records (l ∷ listed) zero lt is none =
    first-none records (brought id listed) (sym (own-list id records listed) ∙ ap (λ (k : List ℕ × List PublishedRecord). brought id (k ∷ listed)) (sym is) ∙ none)
none-listed id records (l ∷ listed) (suc i) lt is none =
    none-listed id records listed i (omega (arith, lt)) is (rest-none (if bytes_eq l.0 id then l.1 else []) (brought id listed) none)

nothing-published : (kind : Kind) (ps : List PublishedRecord) → AreKeptAs kind ps [] → ps ≡ []
nothing-published kind [] are = refl
nothing-published kind (p ∷ ps) are = absurd are

pub none-left-empty : Laws → (accepts : Accepts) (w : Registry) (n : ℕ) (logs : Logs) (page : Page) (after : Logs) → IsRegistry accepts w → IsPageOf w n logs page → Brings logs page after
    → LeavesNoneEmpty after.packages page.packages
none-left-empty laws accepts w n logs page after registry is brings name records listed there =
    let id = package_log_id name in
    let grown = grown-at page.packages logs.packages after.packages name [] there.0 brings.packages there.1 there.2 in
    let b = is.package_records name grown.log grown.there in
    let ps = brought id page.packages in
    let was_none : grown.log ≡ [] = first-none grown.log grown.grows.more (sym grown.grows.parts) in
    let more_none : grown.grows.more ≡ [] = rest-none grown.log grown.grows.more (sym grown.grows.parts) in
    let above : AreAbove (last_index grown.log) b.next = front (last_index grown.log) b.next b.after (behind grown.log (b.next ++ b.after) (subst Ascends b.parts (log-ascends w.token id (take n w.entries)))) in
    let new : new_after (last_index grown.log) ps ≡ ps = all-new Package ps b.next (last_index grown.log) b.published above in
    let kept : AreKeptAs Package ps [] = subst (λ (l : List Kept). AreKeptAs Package ps l) more_none (subst (λ (l : List PublishedRecord). AreKeptAs Package l grown.grows.more) new grown.grows.kept) in
    let none : records ≡ [] = none-listed id records page.packages listed.0 listed.1 listed.2 (nothing-published Package ps kept) in
    is.some_records name records listed (subst (λ (l : List Kept). Contains logs.packages (name, l)) was_none grown.there) none
