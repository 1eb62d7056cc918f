-- What the update of a package over a link gives, by what its stores hold.
use Rattle.std.proofs.Common.{◌≡◌, ℕ, Bool, List, [], ◌∷◌, map, Result, Ok, Err, IfOk, sym, ap, subst, ◌∙◌}
use Rattle.warg_log.specs.Rules.{Accepts}
use Rattle.warg_exchange.specs.declared.exchange.Exchange.{Exchange}
use Rattle.warg_exchange.specs.declared.checkpoint.SignedCheckpoint.{SignedCheckpoint}
use Rattle.warg_exchange.specs.Requests.{Asker}
use Rattle.warg_info.specs.Info.{package_log}
use Rattle.warg_info.specs.declared.operator.OperatorInfo.{OperatorInfo}
use Rattle.warg_info.specs.declared.package.PackageInfo.{PackageInfo}
use Rattle.warg_api.specs.Link.{Asked}
use Rattle.warg_page.specs.Logs.{Logs}
use Rattle.warg_page.specs.Views.{logs_view, package_view}
use Rattle.warg_session.specs.Proved.{AreAsked, Start, Proves}
use Rattle.warg_session.specs.Recording.{Transcript}
use Rattle.warg_session.specs.Updating.{IsBegun, IsUpdated, IsUpdateRefusal, LeavesPages}
use Rattle.warg_session.specs.declared.error.UpdateRefusal.{UpdateRefusal}
use Rattle.warg_session.specs.declared.error.UpdateRefusal.TheVariants as update
use Rattle.warg_store.specs.declared.error.StoreError.{StoreError}
use Rattle.warg_store.specs.declared.error.StoreError.TheVariants as store
use Rattle.warg_store.specs.Held.{Registry}
use Rattle.warg_assemble.specs.Known.{Known, registry_of}
use Rattle.warg_assemble.specs.Parts.{logs_of, start_of}
use Rattle.warg_fetch.specs.Fetched.{IsFetchFault, IsFetched, IsSingle, update_of}
use Rattle.warg_fetch.specs.Groups.{group_start}
use Rattle.warg_fetch.specs.Refusals.{store_refusal, update_refusal}
use Rattle.warg_fetch.specs.declared.package.PackageUpdate.{PackageUpdate}
use Rattle.warg_fetch.proofs.UpdateLaws.{first_name, proves_one, single_by}

-- ---- refusals

pub store_fault : (e : StoreError) (OfStores : StoreError → Type 0) (OfUpdate : UpdateRefusal → Type 0) → OfStores e → IsFetchFault (store_refusal e) OfStores OfUpdate
store_fault store.Memory OfStores OfUpdate h = record {}
store_fault store.Failed OfStores OfUpdate h = h
store_fault (store.Damaged kind) OfStores OfUpdate h = h
store_fault (store.IncorrectContent digest expected) OfStores OfUpdate h = h

pub update_fault : (e : UpdateRefusal) (OfStores : StoreError → Type 0) (OfUpdate : UpdateRefusal → Type 0) → OfUpdate e → IsFetchFault (update_refusal e) OfStores OfUpdate
update_fault update.Memory OfStores OfUpdate h = record {}
update_fault (update.SameLog id) OfStores OfUpdate h = h
update_fault update.LinkFault OfStores OfUpdate h = h
update_fault update.RoundLimit OfStores OfUpdate h = h
update_fault update.BadHeader OfStores OfUpdate h = h
update_fault (update.Reply e) OfStores OfUpdate h = h

-- ---- the same start, seen by what is known

-- what two clauses say of an answer
pub by_both : {X E : Type 0} (r : Result X E) (P Q R : X → Type 0) → ((x : X) → P x → Q x → R x) → IfOk r P → IfOk r Q → IfOk r R
by_both (Ok x) P Q R both p q = both x p q
by_both (Err e) P Q R both p q = record {}

-- one new package
pub new_start : (known : Known) (r : Registry) (name : List ℕ) (infos : List PackageInfo) (info : PackageInfo) → infos ≡ info ∷ [] → info.name ≡ name → package_log info ≡ [] → group_start known r (map package_view infos) ≡ start_of known r name
new_start known r name infos info one named empty =
    ap (λ l. group_start known r (map package_view l)) one ∙ ap (λ n. group_start known r ((n, package_log info) ∷ [])) named ∙ ap (λ l. group_start known r ((name, l) ∷ [])) empty

start_seen : (known : Known) (r s : Registry) (name : List ℕ) (start : Start) → r ≡ s → start ≡ start_of known r name → start ≡ start_of known s name
start_seen known r s name start is begins = begins ∙ ap (λ q. start_of known q name) is

module _ {T : Type 0} (asker : Registry → Asker) (known : Known) (old now : Transcript T) (r s : Registry) (name : List ℕ) (start : Start) where
  pub begun_by : r ≡ s → start ≡ start_of known r name → IsBegun (asker r) start old now → IsBegun (asker s) (start_of known s name) old now
  begun_by is begins h = subst (λ b. IsBegun (asker s) b old now) (start_seen known r s name start is begins) (subst (λ q. IsBegun (asker q) start old now) is h)

  pub pages_by : (limit left : ℕ) → r ≡ s → LeavesPages (asker r) old now limit left → LeavesPages (asker s) old now limit left
  pages_by limit left is h = subst (λ q. LeavesPages (asker q) old now limit left) is h

  pub cause_by : (e : UpdateRefusal) (ids jds : List (List ℕ)) (accepts : Accepts) (said : Bool → Bool) (limit : ℕ) (Steps : T → Asked → T → Type 0) → ids ≡ jds → r ≡ s → start ≡ start_of known r name
      → IsUpdateRefusal e ids accepts said limit (asker r) start Steps old now → IsUpdateRefusal e jds accepts said limit (asker s) (start_of known s name) Steps old now
  cause_by e ids jds accepts said limit Steps same is begins h =
      subst (λ i. IsUpdateRefusal e i accepts said limit (asker s) (start_of known s name) Steps old now) same
      (subst (λ b. IsUpdateRefusal e ids accepts said limit (asker s) b Steps old now) (start_seen known r s name start is begins) (subst (λ q. IsUpdateRefusal e ids accepts said limit (asker q) start Steps old now) is h))

-- ---- what is proved

-- an update of one package proves the log of one
pub single_updated : (accepts : Accepts) (a : Asker) (known : Known) (r : Registry) (name : List ℕ) (start : Start) (xs : List Exchange) (op : OperatorInfo) (infos : List PackageInfo) (c : SignedCheckpoint)
    → start ≡ start_of known r name → Proves accepts a start xs (logs_view op infos) c → IsSingle infos
single_updated accepts a known r name start xs op infos c begins proves =
    let one = proves_one accepts a start xs (logs_view op infos) c name ([], ap (λ (s : Start). s.logs.packages) begins) proves in
    (single_by infos name one.0 one.1).0

-- of this package
pub name_updated : (accepts : Accepts) (a : Asker) (known : Known) (r : Registry) (name : List ℕ) (start : Start) (xs : List Exchange) (logs : Logs) (c : SignedCheckpoint) (got : PackageUpdate)
    → start ≡ start_of known r name → logs_of (update_of got xs) ≡ logs → Proves accepts a start xs logs c → got.info.name ≡ name
name_updated accepts a known r name start xs logs c got begins same proves =
    let one = proves_one accepts a start xs logs c name ([], ap (λ (s : Start). s.logs.packages) begins) proves in
    ap (λ (l : Logs). first_name l.packages) same ∙ ap first_name one.1

module _ {T : Type 0} (accepts : Accepts) (asker : Registry → Asker) (known : Known) (Steps : T → Asked → T → Type 0) (old now : Transcript T) (r s : Registry) (name : List ℕ) (start : Start) (got : PackageUpdate) where
  -- an update of a package is one by what is known
  pub fetched_by : (op : OperatorInfo) (infos : List PackageInfo) (c : SignedCheckpoint) → r ≡ s → s ≡ registry_of known name → got.info.registry ≡ r → got.checkpoint ≡ c → start ≡ start_of known s name
      → (IsSingle infos → (xs : List Exchange) → logs_of (update_of got xs) ≡ logs_view op infos) → (p : IsUpdated accepts (asker s) start Steps old now (logs_view op infos) c) → IsFetched accepts asker known Steps old now (update_of got p.exchanges)
  fetched_by op infos c copied under registry checkpoint begins logs p =
      let xs = p.exchanges in
      let same = logs (single_updated accepts (asker s) known s name start xs op infos c begins p.proves) xs in
      let named = name_updated accepts (asker s) known s name start xs (logs_view op infos) c got begins same p.proves in
      let is : s ≡ got.info.registry = sym (registry ∙ copied) in
      let seen : start ≡ start_of known got.info.registry got.info.name = begins ∙ ap (λ n. start_of known s n) (sym named) ∙ ap (λ q. start_of known q got.info.name) is in
      record {
        under = sym is ∙ under ∙ ap (registry_of known) (sym named);
        kept = p.kept;
        asked = subst (λ b. AreAsked (asker got.info.registry) b xs) seen (subst (λ q. AreAsked (asker q) start xs) is p.asked);
        proves = subst (λ k. Proves accepts (asker got.info.registry) (start_of known got.info.registry got.info.name) xs (logs_of (update_of got xs)) k) (sym checkpoint)
            (subst (λ l. Proves accepts (asker got.info.registry) (start_of known got.info.registry got.info.name) xs l c) (sym same)
            (subst (λ b. Proves accepts (asker got.info.registry) b xs (logs_view op infos) c) seen (subst (λ q. Proves accepts (asker q) start xs (logs_view op infos) c) is p.proves)));
      }

  -- of this package
  pub named_by : (op : OperatorInfo) (infos : List PackageInfo) (c : SignedCheckpoint) → start ≡ start_of known s name → (IsSingle infos → (xs : List Exchange) → logs_of (update_of got xs) ≡ logs_view op infos)
      → IsUpdated accepts (asker s) start Steps old now (logs_view op infos) c → got.info.name ≡ name
  named_by op infos c begins logs p =
      let same = logs (single_updated accepts (asker s) known s name start p.exchanges op infos c begins p.proves) p.exchanges in
      name_updated accepts (asker s) known s name start p.exchanges (logs_view op infos) c got begins same p.proves
