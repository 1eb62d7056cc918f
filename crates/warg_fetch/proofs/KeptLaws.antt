-- What is known and what is left once what an update proved was to be kept.
use Rattle.std.proofs.Common.{◌≡◌, ℕ, ◌≤◌, Bool, true, false, cond, List, [], ◌∷◌, Option, Some, None, IfSome, sym, ap, subst, ◌∙◌, inl, inr}
use Rattle.warg_log.specs.Rules.{Accepts}
use Rattle.warg_exchange.specs.declared.exchange.Exchange.{Exchange}
use Rattle.warg_exchange.specs.Requests.{Asker}
use Rattle.warg_api.specs.Link.{Asked}
use Rattle.warg_session.specs.Recording.{Transcript}
use Rattle.warg_session.specs.declared.error.UpdateRefusal.{UpdateRefusal}
use Rattle.warg_store.specs.declared.error.StoreError.{StoreError}
use Rattle.warg_store.specs.declared.error.StoreError.TheVariants as store
use Rattle.warg_store.specs.Entry.{Entry, Whole, Unreadable, IsStoreFault, SameEntries, with_entry}
use Rattle.warg_store.specs.Held.{Registry, Held, SameHeld, Tells, is_registry, is_package, operator_info, package_key}
use Rattle.warg_store.specs.Namespaces.{Names}
use Rattle.warg_assemble.specs.Known.{Known, registry_of}
use Rattle.warg_assemble.specs.Parts.{Updated, known_after}
use Rattle.warg_fetch.specs.Fetched.{IsFetchFault, IsFetched, IsGoodUpdate, IsOpeningFault, Loads, update_of, writes_in}
use Rattle.warg_fetch.specs.Kept.{IsStoresFault, LeavesPackage}
use Rattle.warg_fetch.specs.Refusals.{store_refusal}
use Rattle.warg_fetch.specs.Stored.{CanBeRead, IsOwnStore, IsReadable, Knows}
use Rattle.warg_fetch.specs.WriteLaws.{knows_after, own_after}
use Rattle.warg_fetch.specs.Writes.{Write, OperatorLog, PackageLog, LastCheckpoint, HoldsFront, with_write, without_write, with_writes, writes_of}
use Rattle.warg_fetch.specs.declared.error.FetchError.{FetchError}
use Rattle.warg_fetch.specs.declared.error.FetchError.TheVariants as error
use Rattle.warg_fetch.specs.declared.package.PackageUpdate.{PackageUpdate}
use Rattle.warg_fetch.specs.StoredLaws.{if_some, knows_still, own_still, rose_before}
use Rattle.warg_fetch.proofs.UpdateSteps.{store_fault}

-- ---- writes over the same entries

entries_still : {K X : Type 0} (is_key : K → K → Bool) (now held : K → Entry X) (key : K) (entry : Entry X) → SameEntries now held → SameEntries (with_entry is_key now key entry) (with_entry is_key held key entry)
entries_still is_key now held key entry same k = ap (λ e. cond (is_key key k) entry e) (same k)

pub write_still : (now held : Held) (w : Write) → SameHeld now held → SameHeld (with_write now w) (with_write held w)
write_still now held (OperatorLog r info) same = record {
  checkpoints = same.checkpoints;
  operators = entries_still is_registry now.operators held.operators r (Whole info) same.operators;
  packages = same.packages;
  publish = same.publish;
}
write_still now held (PackageLog r kept) same = record {
  checkpoints = same.checkpoints;
  operators = same.operators;
  packages = entries_still is_package now.packages held.packages (package_key r kept.name) (Whole kept) same.packages;
  publish = same.publish;
}
write_still now held (LastCheckpoint r c) same = record {
  checkpoints = entries_still is_registry now.checkpoints held.checkpoints r (Whole c) same.checkpoints;
  operators = same.operators;
  packages = same.packages;
  publish = same.publish;
}

spoilt_still : (now held : Held) (w : Write) → SameHeld now held → SameHeld (without_write now w) (without_write held w)
spoilt_still now held (OperatorLog r info) same = record {
  checkpoints = same.checkpoints;
  operators = entries_still is_registry now.operators held.operators r Unreadable same.operators;
  packages = same.packages;
  publish = same.publish;
}
spoilt_still now held (PackageLog r kept) same = record {
  checkpoints = same.checkpoints;
  operators = same.operators;
  packages = entries_still is_package now.packages held.packages (package_key r kept.name) Unreadable same.packages;
  publish = same.publish;
}
spoilt_still now held (LastCheckpoint r c) same = record {
  checkpoints = entries_still is_registry now.checkpoints held.checkpoints r Unreadable same.checkpoints;
  operators = same.operators;
  packages = same.packages;
  publish = same.publish;
}

pub tells_same : (told : Option Held) (now held : Held) → SameHeld now held → Tells told now → Tells told held
tells_same told now held same t = record {
  now = t.now;
  tells = t.tells;
  same = record {
    checkpoints = λ r. t.same.checkpoints r ∙ same.checkpoints r;
    operators = λ r. t.same.operators r ∙ same.operators r;
    packages = λ p. t.same.packages p ∙ same.packages p;
    publish = t.same.publish ∙ same.publish;
  };
}

-- a front of the writes is held as well over the same entries
pub front_still : (told : Option Held) (now held : Held) (ws : List Write) → SameHeld now held → HoldsFront told now ws → HoldsFront told held ws
front_still told now held [] same front = tells_same told now held same front
front_still told now held (w ∷ ws) same (inl here) = inl (tells_same told now held same here)
front_still told now held (w ∷ ws) same (inr (inl spoilt)) = inr (inl (tells_same told (without_write now w) (without_write held w) (spoilt_still now held w same) spoilt))
front_still told now held (w ∷ ws) same (inr (inr later)) = inr (inr (front_still told (with_write now w) (with_write held w) ws (write_still now held w same) later))

-- all the writes are a front of them
pub all_front : (told : Option Held) (held : Held) (ws : List Write) → Tells told (with_writes held ws) → HoldsFront told held ws
all_front told held [] all = all
all_front told held (w ∷ ws) all = inr (inr (all_front told (with_write held w) ws all))

pub stored_front : (told new : Option Held) (ws : List Write) → IfSome told (λ held. Tells new (with_writes held ws)) → IfSome told (λ held. HoldsFront new held ws)
stored_front None new ws stored = record {}
stored_front (Some held) new ws stored = all_front new held ws stored

-- ---- what is known, and what is a client's own

module _ (accepts : Accepts) (old loaded new : Option Held) (got : PackageUpdate) (xs : List Exchange) where
  -- the store is still its client's own
  pub own_kept : IsOwnStore accepts old → IfSome old (Tells loaded) → IsGoodUpdate accepts got → writes_in got ≡ writes_of (update_of got xs) → IfSome loaded (λ held. HoldsFront new held (writes_in got)) → IsOwnStore accepts new
  own_kept own kept good writes front =
      let now = own_still accepts old loaded own kept in
      own_after accepts new now.held (update_of got xs) now.own good.operator.lawful good.info.lawful
      (subst (λ ws. HoldsFront new now.held ws) writes (if_some (λ held. HoldsFront new held (writes_in got)) loaded now.held now.tells front))

  -- just what the update teaches is known besides
  pub known_kept : (names later : Option (Entry Names)) (known : Known) → Knows accepts old names known → IfSome old (Tells loaded) → later ≡ names → IsGoodUpdate accepts got → writes_in got ≡ writes_of (update_of got xs)
      → IfSome loaded (λ held. Tells new (with_writes held (writes_in got))) → Knows accepts new later (known_after known (Updated (update_of got xs)))
  known_kept names later known k kept same good writes stored =
      let now = knows_still known old loaded k.registries kept in
      let all = if_some (λ held. Tells new (with_writes held (writes_in got))) loaded now.held now.tells stored in
      record {
        registries = knows_after known loaded new (update_of got xs) now (subst (λ ws. Tells new (with_writes now.held ws)) writes all);
        own = own_kept k.own kept good writes (stored_front loaded new (writes_in got) stored);
        namespaces = record { held = k.namespaces.held; tells = same ∙ k.namespaces.tells; mapped = k.namespaces.mapped };
      }

-- ---- what can be read

pub can_be_with : {X : Type 0} (b : Bool) (x : X) (e : Entry X) → CanBeRead e → CanBeRead (cond b (Whole x) e)
can_be_with true x e h = record {}
can_be_with false x e h = h

-- a store that is asked and then keeps an update can be read still
pub readable_kept : (old loaded new : Option Held) (got : PackageUpdate) → IsReadable old → IfSome old (Tells loaded) → IfSome loaded (λ held. Tells new (with_writes held (writes_in got))) → IsReadable new
readable_kept old loaded new got reads kept stored =
    let t = if_some (Tells loaded) old reads.held reads.tells kept in
    let u = if_some (λ held. Tells new (with_writes held (writes_in got))) loaded t.now t.tells stored in
    record {
      held = u.now;
      tells = u.tells;
      operators = λ r. subst CanBeRead (sym (u.same.operators r))
          (can_be_with (is_registry got.info.registry r) (operator_info got.operator) (t.now.operators r) (subst CanBeRead (sym (t.same.operators r)) (reads.operators r)));
      checkpoints = λ r. subst CanBeRead (sym (u.same.checkpoints r))
          (can_be_with (is_registry got.info.registry r) got.checkpoint (t.now.checkpoints r) (subst CanBeRead (sym (t.same.checkpoints r)) (reads.checkpoints r)));
    }

-- ---- what a refusal leaves, and its cause

-- a store that is refused later is refused since before
pub later_unkept : (e : StoreError) (a b c : ℕ) → a ≤ b → IsStoreFault e b c → IsStoreFault e a c
later_unkept store.Failed a b c le h = rose_before a b c le h
later_unkept (store.Damaged kind) a b c le h = h
later_unkept (store.IncorrectContent found expected) a b c le h = h
later_unkept store.Memory a b c le h = h

module _ {T : Type 0} (accepts : Accepts) (asker : Registry → Asker) (known : Known) (name : List ℕ) (Steps : T → Asked → T → Type 0) (begun now : Transcript T) where
  -- an update that is refused leaves the store as it was
  pub unfetched_leaves : (old new : Option Held) (names : Option (Entry Names)) (k : Knows accepts old names known) → IfSome old (Tells new) → LeavesPackage accepts asker known name Steps begun now new k.registries.held
  unfetched_leaves old new names k kept = inl (if_some (Tells new) old k.registries.held k.registries.tells kept)

  -- an update that is fetched and not kept leaves a front of its writes
  pub unkept_leaves : (old loaded new : Option Held) (names : Option (Entry Names)) (k : Knows accepts old names known) (got : PackageUpdate) → IfSome old (Tells loaded) → got.info.name ≡ name
      → ((xs : List Exchange) × IsFetched accepts asker known Steps begun now (update_of got xs)) → ((xs : List Exchange) → writes_in got ≡ writes_of (update_of got xs)) → IfSome loaded (λ held. HoldsFront new held (writes_in got))
      → LeavesPackage accepts asker known name Steps begun now new k.registries.held
  unkept_leaves old loaded new names k got kept named fetched writes refused =
      let t : Tells loaded k.registries.held = if_some (Tells loaded) old k.registries.held k.registries.tells kept in
      let front : HoldsFront new t.now (writes_in got) = if_some (λ held. HoldsFront new held (writes_in got)) loaded t.now t.tells refused in
      inr (record {
        update = update_of got fetched.0;
        named = named;
        fetched = fetched.1;
        leaves = subst (λ ws. HoldsFront new k.registries.held ws) (writes fetched.0) (front_still new t.now k.registries.held (writes_in got) t.same front);
      })

  -- an update is refused for its cause
  pub unfetched_cause : (e : FetchError) (registries : Loads Held) (names : Loads (Entry Names)) (OfUpdate : UpdateRefusal → Type 0) → IsFetchFault e (λ f. IsOpeningFault f (registry_of known name) registries names) OfUpdate
      → IsFetchFault e (λ f. IsStoresFault accepts asker known name Steps begun now f registries names) OfUpdate
  unfetched_cause (error.Store e) registries names OfUpdate h = inl h
  unfetched_cause (error.Update e) registries names OfUpdate h = h
  unfetched_cause error.Memory registries names OfUpdate h = record {}

  -- an update that is fetched is not kept, since the store failed
  pub unkept_cause : (e : StoreError) (registries : Loads Held) (names : Loads (Entry Names)) (OfUpdate : UpdateRefusal → Type 0) (loaded : ℕ) (got : PackageUpdate) → registries.before ≤ loaded → got.info.name ≡ name
      → ((xs : List Exchange) × IsFetched accepts asker known Steps begun now (update_of got xs)) → IsStoreFault e loaded registries.after
      → IsFetchFault (store_refusal e) (λ f. IsStoresFault accepts asker known name Steps begun now f registries names) OfUpdate
  unkept_cause e registries names OfUpdate loaded got grown named fetched fault = store_fault e (λ f. IsStoresFault accepts asker known name Steps begun now f registries names) OfUpdate
      (inr (record { update = update_of got fetched.0; named = named; fetched = fetched.1; fault = later_unkept e registries.before loaded registries.after grown fault }))
