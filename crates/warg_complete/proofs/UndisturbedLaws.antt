-- That where nothing stands in the way of a session, what is no reply's fault is told as want of memory.
use Rattle.std.proofs.Common.{◌≡◌, ◌⊎◌, ◌+◌, ◌<◌, ◌≤◌, ◌++◌, ◌∷◌, [], ℕ, arith, List, true, Option, Some, IfSome, inl, inr, refl, sym, ◌∙◌, ap, subst, append_assoc}
use Rattle.std.specs.List.{AllByRecursion, flat_map}
use Rattle.std.specs.Prelude.{option_map}
use Rattle.comp_shape.specs.declared.error.ShapeError.{ShapeError}
use Rattle.warg_values.specs.Faults.{Rose}
use Rattle.warg_exchange.specs.declared.exchange.Exchange.{Exchange}
use Rattle.warg_exchange.specs.Requests.{Asker}
use Rattle.warg_request.specs.Asking.{CanAsk}
use Rattle.warg_api.specs.Link.{Asked, Exchanges}
use Rattle.warg_api.specs.declared.error.ClientError.{ClientError as CallError}
use Rattle.warg_api.specs.declared.error.ClientError.TheVariants as call
use Rattle.warg_api.specs.declared.error.Other.TheVariants as other
use Rattle.warg_learn.specs.UpdateRefusal.{UpdateRefusal}
use Rattle.warg_learn.specs.UpdateRefusal.TheVariants as update
use Rattle.warg_store.specs.Entry.{Entry, Unreadable, IsLoadFault}
use Rattle.warg_store.specs.Held.{Held, Registry}
use Rattle.warg_store.specs.declared.error.EntryKind.{EntryKind}
use Rattle.warg_store.specs.declared.error.StoreError.{StoreError}
use Rattle.warg_store.specs.declared.error.StoreError.TheVariants as store
use Rattle.warg_plan.specs.Walk.{Facts}
use Rattle.warg_assemble.specs.Known.{Known}
use Rattle.warg_assemble.specs.Parts.{Load, Loaded, Part, Update, Updated, exchanges_in, known_after, learnt}
use Rattle.warg_assemble.specs.Session.{Wanted}
use Rattle.warg_learn.specs.Kept.{IsStoresFault}
use Rattle.warg_learn.specs.Stored.{CanBeRead}
use Rattle.warg_learn.specs.FetchError.{FetchError}
use Rattle.warg_learn.specs.FetchError.TheVariants as fetch
use Rattle.warg_learn.specs.LoadError.{LoadError}
use Rattle.warg_learn.specs.LoadError.TheVariants as load
use Rattle.warg_learn.specs.Search.{AreLearnt}
use Rattle.warg_learn.specs.Learnt.{IsLearnt, pages_of_part}
use Rattle.warg_learn.specs.Seen.{Seen, IsKnown, ReadsStores, registry_loads, name_loads}
use Rattle.warg_learn.specs.Unlearnt.{is_link_fault}
use Rattle.warg_learn.specs.declared.error.LearnError.{LearnError}
use Rattle.warg_learn.specs.declared.error.LearnError.TheVariants as error
use Rattle.warg_compose.specs.Read.{IsComponent}
use Rattle.warg_course.specs.Refusals.{IsUnanswered, IsOwnFault}
use Rattle.warg_error.specs.Calls.{store_refusal}
use Rattle.warg_error.specs.Plans.{learn_refusal, shape_refusal}
use Rattle.warg_error.specs.Updates.{reply_refusal}
use Rattle.warg_error.specs.declared.error.ClientError.TheVariants as told
use Rattle.warg_complete.specs.Refusals.{IsOwnUpdateRefusal, IsOwnFetchFault, IsOwnLoadFault, IsOwnLearnFault}
use Rattle.warg_complete.specs.ExchangeLaws.{exchanges_both}
use Rattle.warg_complete.specs.Undisturbed.{AreSteady, pages_of_parts, registry_in}

-- ---- stores

pub rose_before : (a b c : ℕ) → a ≤ b → Rose b c → Rose a c
rose_before a b c le rose = omega arith

no_unreadable : {X : Type 0} (e : Entry X) → CanBeRead e → e ≡ Unreadable → ⊥
no_unreadable e reads is = subst CanBeRead is reads

-- what can be read is not loaded for want of memory alone, where no call fails
load_short : {X : Type 0} (e : StoreError) (kind : EntryKind) (before after : ℕ) (o : Option (Entry X)) (entry : Entry X) → o ≡ Some entry → CanBeRead entry → (Rose before after → ⊥) → IsLoadFault e kind before after o → e ≡ store.Memory
load_short store.Failed kind before after o entry is reads steady bad = absurd (steady bad)
load_short (store.Damaged damaged) kind before after o entry is reads steady bad = absurd (no_unreadable entry reads (subst (λ o. IfSome o (λ e. e ≡ Unreadable)) is bad.1))
load_short (store.IncorrectContent found expected) kind before after o entry is reads steady bad = absurd bad
load_short store.Memory kind before after o entry is reads steady bad = refl

module _ {T D : Type 0} (Steps : T → Asked → T → Type 0) (old new : Seen T D) (known : Known) where
  -- a fault of the link, which gave no reply
  pub record IsFailed (p : Part) (e : LearnError ShapeError) : Type 0 where
    pub told_so : learn_refusal e ≡ told.LinkFault
    pub counted : is_link_fault e ≡ true
    pub unanswered : IsUnanswered Steps (exchanges_in p) old.transcript.link new.transcript.link

  -- a part is not learnt: for want of memory, or since the link gave no reply
  abbrev pub IsShort : Part → LearnError ShapeError → Type 0
  IsShort p e = (learn_refusal e ≡ told.Memory) ⊎ IsFailed p e

  module _ (steady : AreSteady old new) (knows : IsKnown old known) where
    operator_short : (e : StoreError) (r : Registry) (kind : EntryKind) → IsLoadFault e kind old.faults.registries new.faults.registries (option_map (λ (h : Held). h.operators r) old.registries) → e ≡ store.Memory
    operator_short e r kind bad =
        load_short e kind old.faults.registries new.faults.registries (option_map (λ (h : Held). h.operators r) old.registries) (steady.reads.registries.held.operators r)
        (ap (option_map (λ (h : Held). h.operators r)) steady.reads.registries.tells) (steady.reads.registries.operators r) steady.registries bad

    checkpoint_short : (e : StoreError) (r : Registry) (kind : EntryKind) → IsLoadFault e kind old.faults.registries new.faults.registries (option_map (λ (h : Held). h.checkpoints r) old.registries) → e ≡ store.Memory
    checkpoint_short e r kind bad =
        load_short e kind old.faults.registries new.faults.registries (option_map (λ (h : Held). h.checkpoints r) old.registries) (steady.reads.registries.held.checkpoints r)
        (ap (option_map (λ (h : Held). h.checkpoints r)) steady.reads.registries.tells) (steady.reads.registries.checkpoints r) steady.registries bad

    names_short : (e : StoreError) (kind : EntryKind) → IsLoadFault e kind old.faults.names new.faults.names old.names → e ≡ store.Memory
    names_short e kind bad =
        let held = knows.stores.namespaces in
        load_short e kind old.faults.names new.faults.names old.names held.held held.tells (subst (λ o. IfSome o CanBeRead) held.tells steady.reads.names) steady.names bad

    stores_short : (e : StoreError) (name : List ℕ) → IsStoresFault old.accepts old.asker known name Steps old.transcript new.transcript e (registry_loads old new) (name_loads old new) → e ≡ store.Memory
    stores_short e name (inl (inl (inl bad))) = operator_short e _ _ bad
    stores_short e name (inl (inl (inr bad))) = names_short e _ bad
    stores_short e name (inl (inr (inl bad))) = operator_short e _ _ bad
    stores_short e name (inl (inr (inr bad))) = checkpoint_short e _ _ bad
    stores_short store.Failed name (inr bad) = absurd (steady.registries bad.fault)
    stores_short (store.Damaged kind) name (inr bad) = absurd bad.fault
    stores_short (store.IncorrectContent found expected) name (inr bad) = absurd bad.fault
    stores_short store.Memory name (inr bad) = refl

    -- ---- a part

    update_short : (u : Update) (e : UpdateRefusal) → CanAsk (old.asker u.registry) → pages_of_part old.asker (Updated u) ≤ old.pages_left → IsOwnUpdateRefusal Steps old new known u e → IsShort (Updated u) (error.Fetch (fetch.Update e))
    update_short u (update.SameLog id) can pages own = absurd own
    update_short u update.LinkFault can pages own = inr (record { told_so = refl; counted = refl; unanswered = own })
    update_short u update.RoundLimit can pages own = absurd (none pages own)
      where
        none : pages_of_part old.asker (Updated u) ≤ old.pages_left → old.pages_left < pages_of_part old.asker (Updated u) → ⊥
        none a b = omega (arith, a, b)
    update_short u update.BadHeader can pages own = absurd (own can)
    update_short u (update.Reply e) can pages own = inl (ap reply_refusal own)
    update_short u update.Memory can pages own = inl refl

    fetch_short : (u : Update) (e : FetchError) → CanAsk (old.asker u.registry) → pages_of_part old.asker (Updated u) ≤ old.pages_left → IsOwnFetchFault Steps old new known u e → IsShort (Updated u) (error.Fetch e)
    fetch_short u (fetch.Store e) can pages own = inl (ap store_refusal (stores_short e u.name own))
    fetch_short u (fetch.Update e) can pages own = update_short u e can pages own
    fetch_short u fetch.Memory can pages own = inl refl

    call_short : (l : Load) (e : CallError) → CanAsk (old.asker l.registry) → IsOwnFault e (old.asker l.registry) Steps l.exchanges old.transcript.link new.transcript.link → IsShort (Loaded l) (error.Load (load.Call e))
    call_short l call.Memory can own = inl refl
    call_short l call.LinkFault can own = inr (record { told_so = refl; counted = refl; unanswered = own })
    call_short l (call.Other other.BadHeader) can own = absurd (own can)
    call_short l e can own = absurd own

    load_is_short : (l : Load) (e : LoadError) → CanAsk (old.asker l.registry) → IsOwnLoadFault Steps old new known l e → IsShort (Loaded l) (error.Load e)
    load_is_short l (load.Store store.Failed) can own = absurd (steady.contents own)
    load_is_short l (load.Store (store.Damaged kind)) can own = absurd own
    load_is_short l (load.Store (store.IncorrectContent found expected)) can own = absurd own
    load_is_short l (load.Store store.Memory) can own = inl refl
    load_is_short l (load.Call e) can own = call_short l e can own
    load_is_short l load.Memory can own = inl refl

    pub part_short : (p : Part) (e : LearnError ShapeError) → CanAsk (old.asker (registry_in p)) → pages_of_part old.asker p ≤ old.pages_left → IsOwnLearnFault Steps old new known p e → IsShort p e
    part_short (Updated u) (error.Fetch e) can pages own = fetch_short u e can pages own
    part_short (Updated u) (error.Load e) can pages own = absurd own
    part_short (Updated u) (error.Content e) can pages own = absurd own
    part_short (Updated u) error.Memory can pages own = inl refl
    part_short (Loaded l) (error.Fetch e) can pages own = absurd own
    part_short (Loaded l) (error.Load e) can pages own = load_is_short l e can own
    part_short (Loaded l) (error.Content e) can pages own = inl (ap shape_refusal own)
    part_short (Loaded l) error.Memory can pages own = inl refl

-- ---- parts that were learnt before

pub all_at : {X : Type 0} (P : X → Type 0) (done rest : List X) (x : X) → AllByRecursion P (done ++ x ∷ rest) → P x
all_at P [] rest x all = all.0
all_at P (y ∷ done) rest x all = all_at P done rest x all.1

pub pages_both : (asker : Registry → Asker) (done rest : List Part) → pages_of_parts asker (done ++ rest) ≡ pages_of_parts asker done + pages_of_parts asker rest
pages_both asker [] rest = omega arith
pages_both asker (p ∷ done) rest =
    let more = pages_both asker done rest in
    sum (pages_of_part asker p) (pages_of_parts asker (done ++ rest)) (pages_of_parts asker done) (pages_of_parts asker rest) more
  where
    sum : (a b c d : ℕ) → b ≡ c + d → a + b ≡ (a + c) + d
    sum a b c d e = omega (arith, e)

module _ {T : Type 0} (Steps : T → Asked → T → Type 0) where
  -- a request of a part, behind other parts, is one of all their requests
  pub unanswered_behind : (old mid new : T) (done rest : List Part) (next : Part) → Exchanges Steps old (flat_map exchanges_in done) mid → IsUnanswered Steps (exchanges_in next) mid new
      → IsUnanswered Steps (flat_map exchanges_in (done ++ next ∷ rest)) old new
  unanswered_behind old mid new done rest next passed u = record {
    done = flat_map exchanges_in done ++ u.done;
    next = u.next;
    rest = u.rest ++ flat_map exchanges_in rest;
    in_turn = flat_both done (next ∷ rest) ∙ ap (λ (l : List Exchange). flat_map exchanges_in done ++ (l ++ flat_map exchanges_in rest)) u.in_turn ∙ apart (flat_map exchanges_in done) u.done u.rest (flat_map exchanges_in rest) u.next;
    before = u.before;
    passed = exchanges_both Steps old mid u.before (flat_map exchanges_in done) u.done passed u.passed;
    failed = u.failed;
  }
    where
      flat_both : (done rest : List Part) → flat_map exchanges_in (done ++ rest) ≡ flat_map exchanges_in done ++ flat_map exchanges_in rest
      flat_both [] rest = refl
      flat_both (p ∷ done) rest = ap (λ (l : List Exchange). exchanges_in p ++ l) (flat_both done rest) ∙ sym (append_assoc (exchanges_in p) (flat_map exchanges_in done) (flat_map exchanges_in rest))

      apart : (a b c d : List Exchange) (x : Exchange) → a ++ ((b ++ x ∷ c) ++ d) ≡ (a ++ b) ++ x ∷ (c ++ d)
      apart a b c d x = ap (λ (l : List Exchange). a ++ l) (append_assoc b (x ∷ c) d) ∙ sym (append_assoc a b (x ∷ (c ++ d)))

module _ {T D : Type 0} (Steps : T → Asked → T → Type 0) (w : Wanted) where
  -- what is so after parts that were learnt
  pub record IsBehind (old now : Seen T D) (done : List Part) : Type 0 where
    pub asker : now.asker ≡ old.asker
    pub registries : old.faults.registries ≤ now.faults.registries
    pub contents : old.faults.contents ≤ now.faults.contents
    pub names : old.faults.names ≤ now.faults.names
    pub link : old.faults.link ≤ now.faults.link
    pub reads : ReadsStores old → ReadsStores now
    pub pages : now.pages_left + pages_of_parts old.asker done ≡ old.pages_left
    pub passed : Exchanges Steps old.transcript.link (flat_map exchanges_in done) now.transcript.link

  pub behind : (f : Facts) (old now : Seen T D) (done : List Part) (known : Known) → IsKnown old known → AreLearnt learnt w (IsLearnt Steps IsComponent) f old done now → IsBehind old now done
  unfolding AreLearnt Exchanges
  behind f old now [] known knows are = subst (λ (t : Seen T D). IsBehind old t []) (sym are) (record {
    asker = refl;
    registries = omega arith;
    contents = omega arith;
    names = omega arith;
    link = omega arith;
    reads = λ r. r;
    pages = omega arith;
    passed = refl;
  })
  behind f old now (p ∷ done) known knows are =
      let learns = are.1.learns in
      let right = learns.right known knows in
      let later = behind (learnt f p) are.0 now done (known_after known p) right.knows are.2 in
      record {
        asker = later.asker ∙ learns.same.asker;
        registries = through old.faults.registries are.0.faults.registries now.faults.registries learns.never_falls.registries later.registries;
        contents = through old.faults.contents are.0.faults.contents now.faults.contents learns.never_falls.contents later.contents;
        names = through old.faults.names are.0.faults.names now.faults.names learns.never_falls.names later.names;
        link = through old.faults.link are.0.faults.link now.faults.link learns.never_falls.link later.link;
        reads = λ r. later.reads (learns.reads r);
        pages = sum now.pages_left (pages_of_parts old.asker done) are.0.pages_left (pages_of_part old.asker p) old.pages_left
            (subst (λ (a : Registry → Asker). now.pages_left + pages_of_parts a done ≡ are.0.pages_left) learns.same.asker later.pages) right.pages;
        passed = exchanges_both Steps old.transcript.link are.0.transcript.link now.transcript.link (exchanges_in p) (flat_map exchanges_in done) right.kept.passed later.passed;
      }
    where
      through : (a b c : ℕ) → a ≤ b → b ≤ c → a ≤ c
      through a b c p q = omega (arith, p, q)

      sum : (now done mid p old : ℕ) → now + done ≡ mid → mid + p ≡ old → now + (p + done) ≡ old
      sum now done mid p old a b = omega (arith, a, b)
