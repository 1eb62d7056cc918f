-- What the update of a group gives by what its store holds, and what is known and left once it was to be kept.
use Rattle.std.proofs.Common.{◌≡◌, ℕ, ◌≤◌, Bool, List, [], ◌∷◌, ◌++◌, length, map, Option, Some, IfSome, refl, sym, ap, subst, ◌∙◌, inl, inr, arith}
use Rattle.std.specs.List.{All, AllByRecursion}
use Rattle.std.proofs.lemmas.List.{map_push}
use Rattle.std.proofs.lemmas.List.Elements.{All-pop, All-push, recursion_from_All}
use Rattle.warg_hash.specs.Hash.{package_log_id}
use Rattle.warg_log.specs.Rules.{Accepts}
use Rattle.warg_exchange.specs.declared.checkpoint.Checkpoint.{Checkpoint}
use Rattle.warg_exchange.specs.declared.checkpoint.SignedCheckpoint.{SignedCheckpoint}
use Rattle.warg_exchange.specs.declared.exchange.Exchange.{Exchange}
use Rattle.warg_exchange.specs.Requests.{Asker}
use Rattle.warg_info.specs.Info.{operator_log}
use Rattle.warg_info.specs.Kept.{Kept}
use Rattle.warg_info.specs.declared.package.PackageInfo.{PackageInfo}
use Rattle.warg_api.specs.Link.{Asked}
use Rattle.warg_page.specs.Logs.{Logs}
use Rattle.warg_page.specs.Steps.{IsGood, id_of}
use Rattle.warg_page.specs.Views.{package_view}
use Rattle.warg_session.specs.Proved.{AreAsked, Start, Proves}
use Rattle.warg_session.specs.Recording.{Transcript}
use Rattle.warg_session.specs.Updating.{IsBegun, IsUpdated, IsUpdateRefusal, LeavesPages}
use Rattle.warg_session.specs.declared.error.UpdateRefusal.{UpdateRefusal}
use Rattle.warg_store.specs.declared.error.StoreError.{StoreError}
use Rattle.warg_store.specs.Entry.{IsStoreFault}
use Rattle.warg_store.specs.Held.{Registry, Held, NamedInfo, Tells, is_registry, named_info, operator_info}
use Rattle.warg_assemble.specs.Known.{Known}
use Rattle.warg_fetch.specs.Fetched.{IsFetchFault, IsStartFault, Loads}
use Rattle.warg_fetch.specs.Groups.{IsGoodGroup, IsGroupFault, IsGroupFetched, KnowsOwn, LeavesGroup, filed_info, group_of, group_start, group_writes, known_after_group, package_writes, writes_in_group}
use Rattle.warg_fetch.specs.Refusals.{store_refusal}
use Rattle.warg_fetch.specs.Stored.{CanBeRead, IsOwnStore, IsReadable}
use Rattle.warg_fetch.specs.StoredLaws.{if_some, knows_still, own_still}
use Rattle.warg_fetch.specs.WriteLaws.{IsLawfulWrite, checkpoints_after, knows_after_group, operators_after, own_front}
use Rattle.warg_fetch.specs.Writes.{OperatorLog, PackageLog, LastCheckpoint, HoldsFront, with_writes}
use Rattle.warg_fetch.specs.declared.error.FetchError.{FetchError}
use Rattle.warg_fetch.specs.declared.error.FetchError.TheVariants as error
use Rattle.warg_fetch.specs.declared.group.GroupUpdate.{GroupUpdate}
use Rattle.warg_fetch.proofs.KeptLaws.{can_be_with, front_still, later_unkept, stored_front}
use Rattle.warg_fetch.proofs.UpdateSteps.{store_fault}

-- ---- infos under the name of their registry

-- the log that is kept of a package, with its name
abbrev log_of : NamedInfo → List ℕ × List Kept
log_of kept = (kept.name, kept.info.log)

logs_kept : (infos : List PackageInfo) → map log_of (map named_info infos) ≡ map package_view infos
logs_kept [] = refl
logs_kept (i ∷ is) = ap (λ l. package_view i ∷ l) (logs_kept is)

writes_kept : (r : Registry) (infos : List PackageInfo) → map (PackageLog r) (map named_info infos) ≡ package_writes r infos
writes_kept r [] = refl
writes_kept r (i ∷ is) = ap (λ l. PackageLog r (named_info i) ∷ l) (writes_kept r is)

module _ (r : Registry) (c : Checkpoint) where
  abbrev pub filed_of : PackageInfo → NamedInfo
  filed_of info = filed_info r c (package_view info)

  logs_filed : (infos : List PackageInfo) → map log_of (map filed_of infos) ≡ map package_view infos
  logs_filed [] = refl
  logs_filed (i ∷ is) = ap (λ l. package_view i ∷ l) (logs_filed is)

  writes_filed : (infos : List PackageInfo) → map (PackageLog r) (map filed_of infos) ≡ map (λ p. PackageLog r (filed_info r c p)) (map package_view infos)
  writes_filed [] = refl
  writes_filed (i ∷ is) = ap (λ l. PackageLog r (filed_of i) ∷ l) (writes_filed is)

  module _ (filed infos : List PackageInfo) (are : map named_info filed ≡ map filed_of infos) where
    -- their logs are as before
    pub same_logs : map package_view filed ≡ map package_view infos
    same_logs = sym (logs_kept filed) ∙ ap (map log_of) are ∙ logs_filed infos

    -- what is kept of them
    pub filed_writes : package_writes r filed ≡ map (λ p. PackageLog r (filed_info r c p)) (map package_view filed)
    filed_writes = sym (writes_kept r filed) ∙ ap (map (PackageLog r)) are ∙ writes_filed infos ∙ ap (map (λ p. PackageLog r (filed_info r c p))) (sym same_logs)

-- what is kept of a group whose infos are filed is what its update writes
pub group_filed : (got : GroupUpdate) (infos : List PackageInfo) (xs : List Exchange) → got.operator.registry ≡ got.registry → got.operator.checkpoint ≡ Some got.checkpoint.contents
    → map named_info got.packages.items ≡ map (filed_of got.registry got.checkpoint.contents) infos → writes_in_group got ≡ group_writes (group_of got xs)
group_filed got infos xs under at are =
    let r = got.registry in
    let log = operator_log got.operator in
    let behind = LastCheckpoint r got.checkpoint ∷ [] in
    ap (λ q. OperatorLog r (record { registry = q; checkpoint = got.operator.checkpoint; log = log }) ∷ (package_writes r got.packages.items ++ behind)) under
    ∙ ap (λ c. OperatorLog r (record { registry = r; checkpoint = c; log = log }) ∷ (package_writes r got.packages.items ++ behind)) at
    ∙ ap (λ l. OperatorLog r (record { registry = r; checkpoint = Some got.checkpoint.contents; log = log }) ∷ (l ++ behind)) (filed_writes r got.checkpoint.contents got.packages.items infos are)

-- ---- by what is known

-- the ids of the packages' logs
ids_seen : (infos : List PackageInfo) → map id_of infos ≡ map (λ (p : List ℕ × List Kept). package_log_id p.0) (map package_view infos)
ids_seen [] = refl
ids_seen (i ∷ is) = ap (λ l. id_of i ∷ l) (ids_seen is)

module _ {T : Type 0} (asker : Registry → Asker) (old now : Transcript T) (r s : Registry) (start seen : Start) where
  pub begun_as : r ≡ s → start ≡ seen → IsBegun (asker r) start old now → IsBegun (asker s) seen old now
  begun_as is begins h = subst (λ b. IsBegun (asker s) b old now) begins (subst (λ q. IsBegun (asker q) start old now) is h)

  pub pages_as : (limit left : ℕ) → r ≡ s → LeavesPages (asker r) old now limit left → LeavesPages (asker s) old now limit left
  pages_as limit left is h = subst (λ q. LeavesPages (asker q) old now limit left) is h

  pub cause_as : (e : UpdateRefusal) (ids jds : List (List ℕ)) (accepts : Accepts) (said : Bool → Bool) (limit : ℕ) (Steps : T → Asked → T → Type 0) → ids ≡ jds → r ≡ s → start ≡ seen
      → IsUpdateRefusal e ids accepts said limit (asker r) start Steps old now → IsUpdateRefusal e jds accepts said limit (asker s) seen Steps old now
  cause_as e ids jds accepts said limit Steps same is begins h =
      subst (λ i. IsUpdateRefusal e i accepts said limit (asker s) seen Steps old now) same
      (subst (λ b. IsUpdateRefusal e ids accepts said limit (asker s) b Steps old now) begins (subst (λ q. IsUpdateRefusal e ids accepts said limit (asker q) start Steps old now) is h))

module _ {T : Type 0} (accepts : Accepts) (asker : Registry → Asker) (known : Known) (registry : Registry) (packages : List (List ℕ × List Kept)) (Steps : T → Asked → T → Type 0) (begun now : Transcript T) where
  -- an update of the packages is one by what is known
  pub group_fetched : (r : Registry) (start : Start) (logs : Logs) (c : SignedCheckpoint) (got : GroupUpdate) → r ≡ registry → start ≡ group_start known registry packages → got.registry ≡ registry → got.checkpoint ≡ c
      → ((xs : List Exchange) → (group_of got xs).logs ≡ logs) → (p : IsUpdated accepts (asker r) start Steps begun now logs c) → IsGroupFetched accepts asker known registry packages Steps begun now (group_of got p.exchanges)
  group_fetched r start logs c got is begins under checkpoint same p =
      let xs = p.exchanges in
      record {
        under = under;
        kept = p.kept;
        asked = subst (λ b. AreAsked (asker registry) b xs) begins (subst (λ q. AreAsked (asker q) start xs) is p.asked);
        proves = subst (λ k. Proves accepts (asker registry) (group_start known registry packages) xs (group_of got xs).logs k) (sym checkpoint)
            (subst (λ l. Proves accepts (asker registry) (group_start known registry packages) xs l c) (sym (same xs))
            (subst (λ b. Proves accepts (asker registry) b xs logs c) begins (subst (λ q. Proves accepts (asker q) start xs logs c) is p.proves)));
      }

  -- ---- what a refusal leaves, and its cause

  -- an update that is refused leaves the store as it was
  pub unfetched_group : (old new : Option Held) (k : KnowsOwn accepts old known) → IfSome old (Tells new) → LeavesGroup accepts asker known registry packages Steps begun now new k.registries.held
  unfetched_group old new k kept = inl (if_some (Tells new) old k.registries.held k.registries.tells kept)

  -- an update that is fetched and not kept leaves a front of its writes
  pub unkept_group : (old loaded new : Option Held) (k : KnowsOwn accepts old known) (got : GroupUpdate) → IfSome old (Tells loaded)
      → ((xs : List Exchange) × IsGroupFetched accepts asker known registry packages Steps begun now (group_of got xs)) → ((xs : List Exchange) → writes_in_group got ≡ group_writes (group_of got xs)) → IfSome loaded (λ held. HoldsFront new held (writes_in_group got))
      → LeavesGroup accepts asker known registry packages Steps begun now new k.registries.held
  unkept_group old loaded new k got kept fetched writes refused =
      let t : Tells loaded k.registries.held = if_some (Tells loaded) old k.registries.held k.registries.tells kept in
      let front : HoldsFront new t.now (writes_in_group got) = if_some (λ held. HoldsFront new held (writes_in_group got)) loaded t.now t.tells refused in
      inr (record {
        update = group_of got fetched.0;
        fetched = fetched.1;
        leaves = subst (λ ws. HoldsFront new k.registries.held ws) (writes fetched.0) (front_still new t.now k.registries.held (writes_in_group got) t.same front);
      })

  -- an update is refused for its cause
  pub unfetched_fault : (e : FetchError) (said : Bool → Bool) (limit : ℕ) (registries : Loads Held) (infos : List PackageInfo) → packages ≡ map package_view infos
      → IsFetchFault e (λ f. IsStartFault f registry registries) (λ u. IsUpdateRefusal u (map id_of infos) accepts said limit (asker registry) (group_start known registry packages) Steps begun now)
      → IsGroupFault accepts asker known registry packages Steps begun now e said limit registries
  unfetched_fault (error.Store e) said limit registries infos are h = inl h
  unfetched_fault (error.Update e) said limit registries infos are h =
      subst (λ ids. IsUpdateRefusal e ids accepts said limit (asker registry) (group_start known registry packages) Steps begun now)
      (ids_seen infos ∙ ap (map (λ (p : List ℕ × List Kept). package_log_id p.0)) (sym are)) h
  unfetched_fault error.Memory said limit registries infos are h = record {}

  -- an update that is fetched is not kept, since the store failed
  pub unkept_fault : (e : StoreError) (said : Bool → Bool) (limit : ℕ) (registries : Loads Held) (loaded : ℕ) (got : GroupUpdate) → registries.before ≤ loaded
      → ((xs : List Exchange) × IsGroupFetched accepts asker known registry packages Steps begun now (group_of got xs)) → IsStoreFault e loaded registries.after
      → IsGroupFault accepts asker known registry packages Steps begun now (store_refusal e) said limit registries
  unkept_fault e said limit registries loaded got grown fetched fault = store_fault e _ _
      (inr (record { update = group_of got fetched.0; fetched = fetched.1; fault = later_unkept e registries.before loaded registries.after grown fault }))

-- ---- what is known, and what is a client's own

module _ (accepts : Accepts) where
  lawful_writes : (r : Registry) (c : SignedCheckpoint) (infos : List PackageInfo) → AllByRecursion (IsGood accepts) infos → AllByRecursion (IsLawfulWrite accepts) (package_writes r infos ++ LastCheckpoint r c ∷ [])
  lawful_writes r c [] are = (record {}, record {})
  lawful_writes r c (i ∷ is) are = (are.0.lawful, lawful_writes r c is are.1)

  -- the store is still its client's own
  pub group_own : (old loaded new : Option Held) (got : GroupUpdate) → IsOwnStore accepts old → IfSome old (Tells loaded) → IsGoodGroup accepts got → IfSome loaded (λ held. HoldsFront new held (writes_in_group got)) → IsOwnStore accepts new
  group_own old loaded new got own kept good front =
      let now = own_still accepts old loaded own kept in
      own_front accepts new now.held (writes_in_group got) now.own
      (good.operator.lawful, lawful_writes got.registry got.checkpoint got.packages.items (recursion_from_All (IsGood accepts) got.packages.items good.packages))
      (if_some (λ held. HoldsFront new held (writes_in_group got)) loaded now.held now.tells front)

  -- just what the update teaches is known besides
  pub group_known : (old loaded new : Option Held) (got : GroupUpdate) (xs : List Exchange) (known : Known) → KnowsOwn accepts old known → IfSome old (Tells loaded) → IsGoodGroup accepts got → writes_in_group got ≡ group_writes (group_of got xs)
      → IfSome loaded (λ held. Tells new (with_writes held (writes_in_group got))) → KnowsOwn accepts new (known_after_group known (group_of got xs))
  group_known old loaded new got xs known k kept good writes stored =
      let now = knows_still known old loaded k.registries kept in
      let all = if_some (λ held. Tells new (with_writes held (writes_in_group got))) loaded now.held now.tells stored in
      record {
        registries = knows_after_group known loaded new (group_of got xs) now (subst (λ ws. Tells new (with_writes now.held ws)) writes all);
        own = group_own old loaded new got k.own kept good (stored_front loaded new (writes_in_group got) stored);
      }

-- a store that is asked and then keeps an update can be read still
pub group_readable : (old loaded new : Option Held) (got : GroupUpdate) → IsReadable old → IfSome old (Tells loaded) → IfSome loaded (λ held. Tells new (with_writes held (writes_in_group got))) → IsReadable new
group_readable old loaded new got reads kept stored =
    let t = if_some (Tells loaded) old reads.held reads.tells kept in
    let u = if_some (λ held. Tells new (with_writes held (writes_in_group got))) loaded t.now t.tells stored in
    let r = got.registry in
    let info = operator_info got.operator in
    record {
      held = u.now;
      tells = u.tells;
      operators = λ q. subst CanBeRead (sym (u.same.operators q ∙ operators_after r named_info t.now info got.packages.items got.checkpoint q))
          (can_be_with (is_registry r q) info (t.now.operators q) (subst CanBeRead (sym (t.same.operators q)) (reads.operators q)));
      checkpoints = λ q. subst CanBeRead (sym (u.same.checkpoints q ∙ checkpoints_after r named_info t.now info got.packages.items got.checkpoint q))
          (can_be_with (is_registry r q) got.checkpoint (t.now.checkpoints q) (subst CanBeRead (sym (t.same.checkpoints q)) (reads.checkpoints q)));
    }

-- ---- lists that grow by one element each

pub nothing_left : {X : Type 0} (l : List X) → length l ≡ 0 → l ≡ []
nothing_left [] h = refl
nothing_left (x ∷ xs) h = absurd (omega arith)

-- what is true of all of one list is so of all of the other, also with one more in each
pub one_more_each : {X : Type 0} (P : X → Type 0) (xs ys more : List X) (x y : X) → more ≡ ys ++ y ∷ [] → (All P xs → All P ys) → (P x → P y) → All P (xs ++ x ∷ []) → All P more
one_more_each P xs ys more x y is before one all =
    let parts = All-pop P (xs ++ x ∷ []) xs (Some x) refl all in
    subst (All P) (sym is) (All-push P ys y (before parts.0) (one parts.1))

pub one_more_filed : (r : Registry) (c : Checkpoint) (filed more infos : List PackageInfo) (f i : PackageInfo) → more ≡ filed ++ f ∷ [] → map named_info filed ≡ map (filed_of r c) infos → named_info f ≡ filed_of r c i → map named_info more ≡ map (filed_of r c) (infos ++ i ∷ [])
one_more_filed r c filed more infos f i pushed are is =
    ap (map named_info) pushed ∙ map_push named_info filed f ∙ ap (λ l. l ++ named_info f ∷ []) are ∙ ap (λ n. map (filed_of r c) infos ++ n ∷ []) is ∙ sym (map_push (filed_of r c) infos i)
