-- That over a link which gives the replies of a session nothing that comes is refused.
use Rattle.std.proofs.Common.{◌≡◌, ◌≢◌, ◌<◌, ◌∷◌, [], ℕ, zero, suc, arith, List, Bool, true, Option, Some, None, IfSome, inl, inr, refl, sym, ◌∙◌, ap, subst}
use Rattle.std.specs.Prelude.{option_map, slice_get}
use Rattle.sha2.specs.Sha256.{sha256}
use Rattle.comp_entity.specs.Entity.{ShapeTree}
use Rattle.comp_shape.specs.Shape.{HasShape}
use Rattle.comp_shape.specs.Refusal.{IsRefused}
use Rattle.comp_shape.specs.declared.error.ShapeError.{ShapeError}
use Rattle.comp_shape.specs.declared.error.ShapeError.TheVariants as shape
use Rattle.warg_hash.specs.Hash.{package_log_id}
use Rattle.warg_log.specs.Rules.{Accepts}
use Rattle.warg_exchange.specs.declared.exchange.Exchange.{Exchange}
use Rattle.warg_exchange.specs.declared.checkpoint.SignedCheckpoint.{SignedCheckpoint}
use Rattle.warg_exchange.specs.Requests.{Asker}
use Rattle.warg_api.specs.Download.{Downloads, IsDownloadFault}
use Rattle.warg_api.specs.Link.{Asked}
use Rattle.warg_api.specs.declared.error.ClientError.{ClientError}
use Rattle.warg_page.specs.Logs.{Logs}
use Rattle.warg_update.specs.Proved.{Start, Proves}
use Rattle.warg_learn.specs.Recording.{Transcript, IsRecorded}
use Rattle.warg_learn.specs.Updating.{IsUpdateRefusal}
use Rattle.warg_learn.specs.UpdateRefusal.{UpdateRefusal}
use Rattle.warg_learn.specs.UpdateRefusal.TheVariants as update
use Rattle.warg_store.specs.Contents.{Contents}
use Rattle.warg_store.specs.Held.{Registry}
use Rattle.warg_store.specs.declared.error.StoreError.TheVariants as store
use Rattle.warg_plan.specs.Walk.{Stop, NeedsLog, NeedsContent}
use Rattle.warg_assemble.specs.Known.{Known, registry_of}
use Rattle.warg_assemble.specs.Parts.{Update, Load, Part, Updated, Loaded, exchanges_in, start_of, logs_of, Comes, IsUpdate, IsLoad, IsPart}
use Rattle.warg_assemble.specs.Session.{Serves}
use Rattle.warg_learn.specs.FetchError.{FetchError}
use Rattle.warg_learn.specs.FetchError.TheVariants as fetch
use Rattle.warg_learn.specs.LoadError.{LoadError}
use Rattle.warg_learn.specs.LoadError.TheVariants as load
use Rattle.warg_learn.specs.Loaded.{IsLoadRefusal, IsUnstored}
use Rattle.warg_learn.specs.Stored.{KnowsContents}
use Rattle.warg_learn.specs.Seen.{Seen, IsKnown, content_loads}
use Rattle.warg_learn.specs.Unlearnt.{IsUnfetched, IsUnread, IsLearnFault}
use Rattle.warg_learn.specs.declared.error.LearnError.{LearnError}
use Rattle.warg_learn.specs.declared.error.LearnError.TheVariants as error
use Rattle.warg_compose.specs.Read.{IsComponent}
use Rattle.warg_course.specs.Replies.{GivesReplies}
use Rattle.warg_course.specs.Refusals.{IsOwnRefusal, IsOwnFault}
use Rattle.warg_complete.specs.Refusals.{IsOwnUpdateRefusal, IsOwnFetchFault, IsOwnLoadFault, IsOwnLearnFault}
use Rattle.warg_complete.proofs.PartLaws.{PartLaws, comes-once, some-is}

-- that neither an update nor a download is refused for a reply, nor a component
pub record FaultLaws {T : Type 0} (Steps : T → Asked → T → Type 0) : Type 0 where
  pub refused : (accepts : Accepts) (a : Asker) (start : Start) (ys : List Exchange) (logs : Logs) (c : SignedCheckpoint) (ids : List (List ℕ)) (limit : ℕ) (said : Bool → Bool) (e : UpdateRefusal) (begun now : Transcript T)
      → Proves accepts a start ys logs c → GivesReplies Steps begun.link ys → IsUpdateRefusal e ids accepts said limit a start Steps begun now → IsOwnRefusal e ids limit a Steps ys begun.link now.link
  pub whole : (a : Asker) (digest : List ℕ) (ys : List Exchange) (bytes : List ℕ) (e : ClientError) (begun now : Transcript T) → Downloads a digest ys bytes → GivesReplies Steps begun.link ys → now.is_whole ≡ true
      → IsDownloadFault a digest e (IsRecorded Steps) begun now → IsOwnFault e a Steps ys begun.link now.link
  pub read : (e : ShapeError) (bytes : List ℕ) (s : ShapeTree) → IsRefused e bytes → HasShape bytes s → e ≡ shape.Memory

none-some : {X : Type 0} (o : Option X) (x : X) → o ≡ None → o ≡ Some x → ⊥
none-some o x a b = absurd cc

-- of one log none comes twice
none-twice : (id x : List ℕ) (i j : ℕ) → i < j → slice_get (x ∷ []) j ≡ Some id → ⊥
none-twice id x i zero before there = let none : ⊥ = omega (arith, before) in none
none-twice id x i (suc j) before there = absurd cc

module _ {T D : Type 0} (Steps : T → Asked → T → Type 0) (laws : FaultLaws Steps) (old new : Seen T D) (known : Known) where
  -- ---- updates

  own-update : (said : Bool → Bool) (u : Update) (e : UpdateRefusal) → IsUpdate old.accepts old.asker IsComponent known u → GivesReplies Steps old.transcript.link u.exchanges
      → IsUpdateRefusal e (package_log_id u.name ∷ []) old.accepts said old.pages_left (old.asker u.registry) (start_of known u.registry u.name) Steps old.transcript new.transcript → IsOwnUpdateRefusal Steps old new known u e
  own-update said u e right are bad =
      by e (laws.refused old.accepts (old.asker u.registry) (start_of known u.registry u.name) u.exchanges (logs_of u) u.checkpoint (package_log_id u.name ∷ []) old.pages_left said e old.transcript new.transcript right are bad)
    where
      by : (e : UpdateRefusal) → IsOwnRefusal e (package_log_id u.name ∷ []) old.pages_left (old.asker u.registry) Steps u.exchanges old.transcript.link new.transcript.link → IsOwnUpdateRefusal Steps old new known u e
      by (update.SameLog id) own = none-twice id (package_log_id u.name) own.0 own.1 own.2 own.4
      by update.LinkFault own = own
      by update.RoundLimit own = own
      by update.BadHeader own = own
      by (update.Reply e) own = own
      by update.Memory own = tt

  own-fetch : (said : D → D → Bool → Bool) (e : FetchError) (u : Update) → u.registry ≡ registry_of known u.name → IsUpdate old.accepts old.asker IsComponent known u → GivesReplies Steps old.transcript.link u.exchanges
      → IsUnfetched Steps old new known said u.name e → IsOwnFetchFault Steps old new known u e
  own-fetch said (fetch.Store e) u under right are bad = bad
  own-fetch said (fetch.Update e) u under right are bad =
      own-update (said old.decider new.decider) u e right are (subst (λ (r : Registry). IsUpdateRefusal e (package_log_id u.name ∷ []) old.accepts (said old.decider new.decider) old.pages_left (old.asker r) (start_of known r u.name) Steps old.transcript new.transcript) (sym under) bad)
  own-fetch said fetch.Memory u under right are bad = tt

  -- ---- contents

  module _ (one : PartLaws Steps) (l : Load) (right : IsLoad old.accepts old.asker IsComponent known l) (are : GivesReplies Steps old.transcript.link l.exchanges) where
    -- the content comes so, where this is known of its digest
    comes-by : (o : Option (List ℕ)) → known.contents l.digest ≡ o → Comes (old.asker l.registry) o l.digest l.exchanges l.content.bytes
    comes-by o is = subst (λ (o : Option (List ℕ)). Comes (old.asker l.registry) o l.digest l.exchanges l.content.bytes) is right.comes

    -- what is held has the digest
    held-right : (knows : KnowsContents old.contents known) → (found stored : List ℕ) → found ≢ l.digest → knows.held l.digest ≡ Some stored → found ≡ sha256 stored → ⊥
    held-right knows found stored other tells is = by (known.contents l.digest) refl
      where
        by : (o : Option (List ℕ)) → known.contents l.digest ≡ o → ⊥
        by None none = none-some (knows.held l.digest) stored (knows.contents l.digest ∙ none) tells
        by (Some kept) some =
            let same : stored ≡ kept = some-is stored kept (sym tells ∙ knows.contents l.digest ∙ some) in
            other (is ∙ ap sha256 (same ∙ sym (comes-by (Some kept) some).0) ∙ right.digest)

    -- what is downloaded has the digest
    download-right : (found expected : List ℕ) → known.contents l.digest ≡ None
        → IsUnstored (old.asker l.registry) l.digest Steps old.transcript new.transcript (store.IncorrectContent found expected) old.faults.contents new.faults.contents → ⊥
    download-right found expected none bad =
        let same = one.downloaded (old.asker l.registry) l.digest bad.downloaded.exchanges l.exchanges bad.bytes l.content.bytes old.transcript.link new.transcript.link (comes-by None none) are bad.downloaded.kept.passed bad.downloaded.gets in
        bad.fault.2 (bad.fault.0 ∙ ap sha256 same.1 ∙ right.digest ∙ some-is l.digest expected bad.fault.1)

    -- what is not held is not known
    none-known : (knows : KnowsContents old.contents known) → IfSome old.contents (λ (h : Contents). h l.digest ≡ None) → known.contents l.digest ≡ None
    none-known knows none = sym (knows.contents l.digest) ∙ subst (λ (told : Option Contents). IfSome told (λ (h : Contents). h l.digest ≡ None)) knows.tells none

    own-load : KnowsContents old.contents known → (e : LoadError) → IsLoadRefusal (old.asker l.registry) l.digest Steps old.transcript new.transcript e (content_loads old new) → IsOwnLoadFault Steps old new known l e
    own-load knows (load.Store store.Failed) (inl bad) = bad
    own-load knows (load.Store store.Failed) (inr bad) = bad.1.fault
    own-load knows (load.Store (store.Damaged kind)) (inl bad) = bad
    own-load knows (load.Store (store.Damaged kind)) (inr bad) = bad.1.fault
    own-load knows (load.Store (store.IncorrectContent found expected)) (inl bad) =
        let held = subst (λ (told : Option Contents). IfSome (option_map (λ (h : Contents). h l.digest) told) (λ o. (b : List ℕ) × (o ≡ Some b) × (found ≡ sha256 b))) knows.tells bad.2 in
        absurd (held-right knows found held.0 bad.1 held.1 held.2)
    own-load knows (load.Store (store.IncorrectContent found expected)) (inr bad) = absurd (download-right found expected (none-known knows bad.0) bad.1)
    own-load knows (load.Store store.Memory) bad = tt
    own-load knows (load.Call e) bad = laws.whole (old.asker l.registry) l.digest l.exchanges l.content.bytes e old.transcript new.transcript (comes-by None (none-known knows bad.0)) are bad.1.whole bad.1.fault
    own-load knows load.Memory bad = tt

    -- what comes is read
    own-read : (said : D → D → Bool → Bool) (e : ShapeError) → IsUnread Steps old new known {E = ShapeError} said (λ bytes error. IsRefused error bytes) l.digest e l.registry → e ≡ shape.Memory
    own-read said e bad =
        let same = comes-once Steps one (old.asker l.registry) (known.contents l.digest) l.digest bad.fetched.exchanges l.exchanges bad.bytes l.content.bytes old.transcript.link new.transcript.link bad.fetched.comes right.comes bad.fetched.kept.passed are in
        laws.read e l.content.bytes right.reads.tree (subst (λ (b : List ℕ). IsRefused e b) same.1 bad.refused) right.reads.has_shape

  -- ---- parts

  pub own-learn-fault : PartLaws Steps → (said : D → D → Bool → Bool) (stop : Stop) (e : LearnError ShapeError) (p : Part) → IsKnown old known → Serves known stop p → IsPart old.accepts old.asker IsComponent known p
      → GivesReplies Steps old.transcript.link (exchanges_in p) → IsLearnFault Steps old new known {E = ShapeError} said (λ bytes error. IsRefused error bytes) stop e → IsOwnLearnFault Steps old new known p e
  own-learn-fault one said stop error.Memory (Updated u) knows serves right are bad = tt
  own-learn-fault one said stop error.Memory (Loaded l) knows serves right are bad = tt
  own-learn-fault one said (NeedsLog name) (error.Fetch e) (Updated u) knows serves right are bad =
      own-fetch said e u (serves.1 ∙ ap (registry_of known) (sym serves.0)) right are (subst (λ (n : List ℕ). IsUnfetched Steps old new known said n e) (sym serves.0) bad)
  own-learn-fault one said (NeedsLog name) (error.Fetch e) (Loaded l) knows serves right are bad = absurd serves
  own-learn-fault one said (NeedsContent name digest) (error.Load e) (Loaded l) knows serves right are bad =
      let under : bad.registry ≡ l.registry = some-is bad.registry l.registry (sym bad.updated ∙ serves.1) in
      let there = subst (λ (r : Registry). IsLoadRefusal (old.asker r) digest Steps old.transcript new.transcript e (content_loads old new)) under bad.holds in
      own-load one l right are knows.contents e (subst (λ (d : List ℕ). IsLoadRefusal (old.asker l.registry) d Steps old.transcript new.transcript e (content_loads old new)) (sym serves.0) there)
  own-learn-fault one said (NeedsContent name digest) (error.Load e) (Updated u) knows serves right are bad = absurd serves
  own-learn-fault one said (NeedsContent name digest) (error.Content e) (Loaded l) knows serves right are bad =
      let under : bad.registry ≡ l.registry = some-is bad.registry l.registry (sym bad.updated ∙ serves.1) in
      let there = subst (λ (r : Registry). IsUnread Steps old new known {E = ShapeError} said (λ bytes error. IsRefused error bytes) digest e r) under bad.holds in
      own-read one l right are said e (subst (λ (d : List ℕ). IsUnread Steps old new known {E = ShapeError} said (λ bytes error. IsRefused error bytes) d e l.registry) (sym serves.0) there)
  own-learn-fault one said (NeedsContent name digest) (error.Content e) (Updated u) knows serves right are bad = absurd serves
  own-learn-fault one said stop e p knows serves right are bad = absurd bad
