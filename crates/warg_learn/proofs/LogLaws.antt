-- What the update of a package teaches a learner, and what is left where it teaches nothing.
use Rattle.std.proofs.Common.{◌≡◌, ◌+◌, ◌++◌, ℕ, ◌≤◌, Bool, true, List, Result, Ok, Err, Some, IfSome, IfOk, IfErr, OnOk, OnErr, bytes_eq, cond, refl, sym, ap, subst, ◌∙◌, inl, inr}
use Rattle.std.specs.Map.{lookup}
use Rattle.warg_values.specs.Faults.{Rose}
use Rattle.warg_exchange.specs.declared.exchange.Exchange.{Exchange}
use Rattle.warg_api.specs.Link.{Asked}
use Rattle.warg_session.specs.Pages.{pages_asked}
use Rattle.warg_session.specs.Recording.{AreKept}
use Rattle.warg_session.specs.declared.error.UpdateRefusal.TheVariants as update
use Rattle.warg_info.specs.Info.{package_log}
use Rattle.warg_plan.specs.Keys.{Release}
use Rattle.warg_plan.specs.Known.{with_log}
use Rattle.warg_plan.specs.Walk.{Content, Facts, NeedsLog}
use Rattle.warg_store.specs.Held.{Registry}
use Rattle.warg_assemble.specs.Known.{Known, registry_of}
use Rattle.warg_assemble.specs.Parts.{Part, Update, Updated, known_after, learnt, releases_in, IsUpdate}
use Rattle.warg_fetch.specs.declared.error.FetchError.{FetchError}
use Rattle.warg_fetch.specs.declared.error.FetchError.TheVariants as fetch
use Rattle.warg_fetch.specs.declared.package.PackageUpdate.{PackageUpdate}
use Rattle.warg_fetch.specs.Fetched.{IsPackageFetched, IsSoundUpdate, update_of}
use Rattle.warg_fetch.specs.Kept.{LeavesPackage}
use Rattle.warg_fetch.specs.Stored.{CanBeRead, IsOwnStore, IsReadable, Knows}
use Rattle.warg_learn.specs.Learnt.{IsLearnt}
use Rattle.warg_learn.specs.Packages.{IsUpdatedLog}
use Rattle.warg_learn.specs.Refusals.{fetch_refusal}
use Rattle.warg_learn.specs.Seen.{Seen}
use Rattle.warg_learn.specs.Taught.{ForKnown, IsTaught, IsUnderWay}
use Rattle.warg_learn.specs.Unlearnt.{IsUnlearnt, IsLearnFault, IsUnfetched, IsLogBegun, is_link_fault}
use Rattle.warg_learn.specs.declared.error.LearnError.TheVariants as error
use Rattle.warg_learn.proofs.SeenLaws.{if_some, since, since_is, knows_contents, at_most, noted_first, nothing_begun, same_seen, none_falls}

-- an update is refused by the link where the learner says so
link_fault_by : (E : Type 0) (e : FetchError) → is_link_fault {E = E} (fetch_refusal e) ≡ true → e ≡ fetch.Update update.LinkFault
link_fault_by E (fetch.Update update.LinkFault) h = refl
link_fault_by E (fetch.Update (update.SameLog id)) h = absurd cc
link_fault_by E (fetch.Update update.RoundLimit) h = absurd cc
link_fault_by E (fetch.Update update.BadHeader) h = absurd cc
link_fault_by E (fetch.Update (update.Reply e)) h = absurd cc
link_fault_by E (fetch.Update update.Memory) h = absurd cc
link_fault_by E (fetch.Store e) h = absurd cc
link_fault_by E fetch.Memory h = absurd cc

module _ {T D : Type 0} (Steps : T → Asked → T → Type 0) (old new : Seen T D) (name : List ℕ) where
  abbrev Way : Type 0
  Way = IsUnderWay Steps old new name

  pub under_way : new.accepts ≡ old.accepts → new.asker ≡ old.asker → new.contents ≡ old.contents → new.names ≡ old.names
      → old.faults.link ≤ new.faults.link → old.faults.registries ≤ new.faults.registries → old.faults.contents ≡ new.faults.contents → old.faults.names ≤ new.faults.names
      → ForKnown old (λ known. IsOwnStore old.accepts new.registries) → ForKnown old (λ known. IsLogBegun Steps old new known (NeedsLog name)) → Way
  under_way accepts asker contents names link registries unasked held own begun = record {
    same = record { accepts = accepts; asker = asker };
    never_falls = record { link = link; registries = registries; contents = at_most unasked; names = held };
    contents = contents;
    names = names;
    own = own;
    begun = begun;
  }

  -- what the update of a package has taught, by what it answers
  pub taught_by : (result : Result PackageUpdate FetchError) → Way
      → IfOk result (λ got. ForKnown old (λ known. IsPackageFetched old.accepts old.asker known name old.pages_left Steps old.transcript new.transcript got))
      → IfOk result (λ got. ForKnown old (λ known. (xs : List Exchange) → Knows old.accepts new.registries new.names (known_after known (Updated (update_of got xs)))))
      → OnOk result (ForKnown old (λ known. new.decider ≡ old.decider))
      → OnOk result (IsReadable old.registries → IsReadable new.registries)
      → IfOk result IsSoundUpdate
      → IfOk result (IsTaught Steps old new name)
  taught_by (Ok got) way fetched knows undecided reads sound = record {
    way = way;
    named = λ known k. (fetched known k).named;
    fetched = λ known k. ((fetched known k).exchanges, (fetched known k).fetched);
    knows = knows;
    pages = λ known k. (fetched known k).pages;
    undecided = undecided;
    reads = reads;
    sound = sound.info;
  }
  taught_by (Err e) way fetched knows undecided reads sound = record {}

  module _ {E : Type 0} (said : D → D → Bool → Bool) (Refuses : List ℕ → E → Type 0) where
    cause_by : (known : Known) (e : FetchError) → IsUnfetched Steps old new known said name e → IsLearnFault Steps old new known said Refuses (NeedsLog name) (fetch_refusal e)
    cause_by known (fetch.Store e) h = h
    cause_by known (fetch.Update e) h = h
    cause_by known fetch.Memory h = record {}

    -- a package is not fetched
    pub log_unfetched : (e : FetchError) → Way → new.updated ≡ old.updated → (e ≡ fetch.Update update.LinkFault → Rose old.faults.link new.faults.link) → ForKnown old (λ known. IsUnfetched Steps old new known said name e)
        → ((known : Known) → (k : Knows old.accepts old.registries old.names known) → LeavesPackage old.accepts old.asker known name Steps old.transcript new.transcript new.registries k.registries.held)
        → IsUnlearnt Steps said Refuses old (NeedsLog name) (fetch_refusal e) new
    log_unfetched e way updated rose cause held = record {
      same = way.same;
      never_falls = way.never_falls;
      link_fault = λ h. rose (link_fault_by E e h);
      cause = λ known k. cause_by known e (cause known k.stores);
      leaves = λ known k. record {
        registries = inl (if_some _ old.registries k.stores.registries.held k.stores.registries.tells (held known k.stores));
        contents = way.contents;
        names = way.names;
        updated = updated;
      };
      own = λ known k. way.own known k.stores;
      begun = λ known k. way.begun known k.stores;
    }

    -- the same, by what the update answers
    pub unfetched_by : (result : Result PackageUpdate FetchError) → Way → new.updated ≡ old.updated → ((result ≡ Err (fetch.Update update.LinkFault)) → Rose old.faults.link new.faults.link) → IfErr result (λ e. ForKnown old (λ known. IsUnfetched Steps old new known said name e))
        → OnErr result ((known : Known) → (k : Knows old.accepts old.registries old.names known) → LeavesPackage old.accepts old.asker known name Steps old.transcript new.transcript new.registries k.registries.held)
        → IfErr result (λ e. IsUnlearnt Steps said Refuses old (NeedsLog name) (fetch_refusal e) new)
    unfetched_by (Ok got) way updated rose cause held = record {}
    unfetched_by (Err e) way updated rose cause held = log_unfetched e way updated (λ is. rose (ap (λ e. Err e) is)) cause held

    -- a package is fetched, and there is no memory to say so
    pub log_forgotten : (got : PackageUpdate) → IsTaught Steps old new name got → new.updated ≡ old.updated → IsUnlearnt Steps said Refuses old (NeedsLog name) error.Memory new
    log_forgotten got taught updated = record {
      same = taught.way.same;
      never_falls = taught.way.never_falls;
      link_fault = λ h. absurd cc;
      cause = λ known k. record {};
      leaves = λ known k.
          let f = taught.fetched known k.stores in
          record {
            registries = inr (record {
              update = update_of got f.0;
              named = taught.named known k.stores;
              fetched = f.1;
              knows = subst (λ a. Knows a new.registries new.names (known_after known (Updated (update_of got f.0)))) (sym taught.way.same.accepts) (taught.knows known k.stores f.0);
            });
            contents = taught.way.contents;
            names = taught.way.names;
            updated = updated;
          };
      own = λ known k. taught.way.own known k.stores;
      begun = λ known k. taught.way.begun known k.stores;
    }

  -- ---- what is learnt

  -- an update, with the exchanges since it began
  abbrev pub update_since : PackageUpdate → Update
  update_since got = record (update_of got (since old.transcript new.transcript)) { name = name }

  update_is : (got : PackageUpdate) (xs : List Exchange) → got.info.name ≡ name → since old.transcript new.transcript ≡ xs → update_since got ≡ update_of got xs
  update_is got xs named same = ap (λ n. record (update_of got (since old.transcript new.transcript)) { name = n }) (sym named) ∙ ap (λ xs. update_of got xs) same

  -- what an update teaches is learnt, once the package counts as updated, and the pages as asked for
  pub log_learnt : (Reads : Content → Type 0) (got : PackageUpdate) → IsTaught Steps old new name got → new.pages_left ≡ got.pages_left
      → (before : List (List ℕ × Registry)) → before ≡ old.updated → (key : List ℕ) → key ≡ name
      → ((q : List ℕ) → lookup (λ n. bytes_eq q n) new.updated ≡ cond (bytes_eq key q) (Some got.info.registry) (lookup (λ n. bytes_eq q n) before))
      → IsLearnt Steps Reads old (NeedsLog name) (Updated (update_since got)) new
  log_learnt Reads got taught left before is_before key is_key noted = record {
    same = taught.way.same;
    never_falls = taught.way.never_falls;
    reads = λ all. record { registries = taught.reads all.registries; names = subst (λ o. IfSome o CanBeRead) (sym taught.way.names) all.names };
    content = record {};
    right = λ known k.
        let f = taught.fetched known k.stores in
        let xs = since_is old.transcript new.transcript f.0 f.1.kept.exchanges in
        let is = update_is got f.0 (taught.named known k.stores) xs in
        record {
          serves = (refl, f.1.under ∙ ap (registry_of known) (taught.named known k.stores));
          is = subst (λ u. IsUpdate old.accepts old.asker Reads known u) (sym is) f.1.proves;
          kept = subst (λ xs. AreKept Steps old.transcript xs new.transcript) (sym xs) f.1.kept;
          knows = record {
            stores = subst (λ a. Knows a new.registries new.names (known_after known (Updated (update_since got)))) (sym taught.way.same.accepts)
                (subst (λ u. Knows old.accepts new.registries new.names (known_after known (Updated u))) (sym is) (taught.knows known k.stores f.0));
            contents = knows_contents old.contents new.contents known (known_after known (Updated (update_since got))) taught.way.contents (λ digest. refl) k.contents;
            updated = noted_first old.updated new.updated known.updated name key got.info.registry is_key
                (λ q. noted q ∙ ap (λ us. cond (bytes_eq key q) (Some got.info.registry) (lookup (λ n. bytes_eq q n) us)) is_before) k.updated;
          };
          pages =
              let all : new.transcript.exchanges ≡ old.transcript.exchanges ++ since old.transcript new.transcript = f.1.kept.exchanges ∙ ap (λ xs. old.transcript.exchanges ++ xs) (sym xs) in
              let under : registry_of known name ≡ got.info.registry = sym (f.1.under ∙ ap (registry_of known) (taught.named known k.stores)) in
              ap (λ n. n + pages_asked (old.asker got.info.registry) (since old.transcript new.transcript)) left
              ∙ subst (λ r. got.pages_left + pages_asked (old.asker r) (since old.transcript new.transcript) ≡ old.pages_left) under
              (taught.pages known k.stores (since old.transcript new.transcript) all);
          undecided = taught.undecided known k.stores;
        };
  }

  -- its log is that of an update
  pub log_updated : (Reads : Content → Type 0) (got : PackageUpdate) → IsTaught Steps old new name got → IsLearnt Steps Reads old (NeedsLog name) (Updated (update_since got)) new → IsUpdatedLog Steps Reads old new name got.info
  log_updated Reads got taught learns = record { update = update_since got; has = refl; sound = taught.sound; learnt = learns }

  -- the releases of such a log are a part that is learnt
  pub releases_learnt : (Reads : Content → Type 0) (got : PackageUpdate) (releases : List Release) → releases_in (package_log got.info) ≡ releases → IsLearnt Steps Reads old (NeedsLog name) (Updated (update_since got)) new
      → (lesson : Part) × ((facts : Facts) → learnt facts lesson ≡ with_log facts name releases) × IsLearnt Steps Reads old (NeedsLog name) lesson new
  releases_learnt Reads got releases are learns = (Updated (update_since got), λ facts. ap (with_log facts name) are, learns)

-- what was taught is so still, whatever counts as updated, and however many pages are left
pub taught_still : {T D : Type 0} (Steps : T → Asked → T → Type 0) (old new : Seen T D) (name : List ℕ) (got : PackageUpdate) (updated : List (List ℕ × Registry)) (left : ℕ) → IsTaught Steps old new name got → IsTaught Steps old (record new { updated = updated; pages_left = left }) name got
taught_still Steps old new name got updated left taught =
    let way = taught.way in
    record {
      way = record {
        same = record { accepts = way.same.accepts; asker = way.same.asker };
        never_falls = record { link = way.never_falls.link; registries = way.never_falls.registries; contents = way.never_falls.contents; names = way.never_falls.names };
        contents = way.contents;
        names = way.names;
        own = way.own;
        begun = way.begun;
      };
      named = taught.named;
      fetched = taught.fetched;
      knows = taught.knows;
      pages = taught.pages;
      undecided = taught.undecided;
      reads = taught.reads;
      sound = taught.sound;
    }

-- nothing is asked for a log where there is no memory
pub log_unasked : {T D E : Type 0} (Steps : T → Asked → T → Type 0) (said : D → D → Bool → Bool) (Refuses : List ℕ → E → Type 0) (s : Seen T D) (name : List ℕ) → IsUnlearnt Steps said Refuses s (NeedsLog name) error.Memory s
log_unasked Steps said Refuses s name = record {
  same = same_seen s;
  never_falls = none_falls s;
  link_fault = λ h. absurd cc;
  cause = λ known k. record {};
  leaves = λ known k. record {
    registries = inl (if_some _ s.registries k.stores.registries.held k.stores.registries.tells
        (inl (record { now = k.stores.registries.held; tells = k.stores.registries.tells; same = record { checkpoints = λ r. refl; operators = λ r. refl; packages = λ p. refl; publish = refl } })));
    contents = refl;
    names = refl;
    updated = refl;
  };
  own = λ known k. k.stores.own;
  begun = λ known k. nothing_begun _ _ s.transcript;
}
