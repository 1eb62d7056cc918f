-- What the update of a group teaches a learner, and groups that are updated one after the other.
use Rattle.std.proofs.Common.{◌≡◌, ◌∙◌, ◌++◌, ◌∷◌, [], ◌+◌, ◌≤◌, ◌<◌, ℕ, Bool, List, Option, None, take, get_or, length, IfSome, map, reverse, bytes_eq, refl, sym, ap, subst, inl, inr, append_assoc, append-nil, arith}
use Rattle.std.proofs.lemmas.Grind.{flat_map-append}
use Rattle.std.proofs.lemmas.List.{reverse-append}
use Rattle.std.specs.Map.{lookup}
use Rattle.warg_values.specs.Faults.{Rose}
use Rattle.warg_exchange.specs.declared.exchange.Exchange.{Exchange}
use Rattle.warg_api.specs.Link.{Asked}
use Rattle.warg_info.specs.Kept.{Kept}
use Rattle.warg_page.specs.Views.{package_view}
use Rattle.warg_session.specs.Pages.{pages_asked}
use Rattle.warg_session.specs.Updating.{IsBegun}
use Rattle.warg_session.specs.declared.error.UpdateRefusal.TheVariants as update
use Rattle.warg_store.specs.declared.error.EntryKind.{EntryKind}
use Rattle.warg_store.specs.declared.error.EntryKind.TheVariants as kind
use Rattle.warg_store.specs.declared.error.StoreError.{StoreError}
use Rattle.warg_store.specs.declared.error.StoreError.TheVariants as store
use Rattle.warg_store.specs.Entry.{Entry, IsLoadFault}
use Rattle.warg_store.specs.Held.{Registry, Held}
use Rattle.warg_store.specs.Namespaces.{Names}
use Rattle.warg_assemble.specs.Known.{Known, registry_of}
use Rattle.warg_fetch.specs.declared.error.FetchError.{FetchError}
use Rattle.warg_fetch.specs.declared.error.FetchError.TheVariants as fetch
use Rattle.warg_fetch.specs.declared.group.GroupUpdate.{GroupUpdate}
use Rattle.warg_fetch.specs.Fetched.{IsFetchFault, IsLookupFault, Loads}
use Rattle.warg_fetch.specs.Refusals.{store_refusal}
use Rattle.warg_fetch.specs.StoredLaws.{later_fault, rose_before, tells_then}
use Rattle.warg_fetch.specs.Groups.{Group, IsGroupFault, IsGroupFetched, IsGroupUpdated, KnowsOwn, LeavesGroup, group_of, group_start, known_after_group}
use Rattle.warg_fetch.specs.Stored.{CanBeRead, IsOwnStore, IsReadable}
use Rattle.warg_learn.specs.Groups.{AreGrouped, AreGroupsLearnt, AreGroupsUnlearnt, AreNotGrouped, IsGroupLearnt, IsGroupUnlearnt, joined, proved_logs, without_logs}
use Rattle.warg_learn.specs.Recalled.{AsksStores}
use Rattle.warg_learn.specs.RecalledLaws.{IsAfter, known_still}
use Rattle.warg_learn.specs.Seen.{Seen, IsKnown, name_loads, registry_loads}
use Rattle.warg_learn.proofs.GroupLaws.{grouped_to}
use Rattle.warg_learn.proofs.SeenLaws.{if_some, since, since_is, at_most, knows_contents, nothing_begun, same_seen, none_falls}

abbrev Members : Type 0
Members = Registry × List (List ℕ)

-- what is known of the store of registries
abbrev pub knows_own : {T D : Type 0} (s : Seen T D) (known : Known) → IsKnown s known → KnowsOwn s.accepts s.registries known
knows_own s known k = record { registries = k.stores.registries; own = k.stores.own }

behind : (all left rest taken : List Members) (g : Members) → all ≡ left ++ taken → left ≡ rest ++ g ∷ [] → all ≡ rest ++ (g ∷ taken)
behind all left rest taken g are last = are ∙ ap (λ l. l ++ taken) last ∙ append_assoc rest (g ∷ []) taken

-- ---- groups that are updated one after the other

module _ {T D : Type 0} (Steps : T → Asked → T → Type 0) where
  abbrev Are : Seen T D → Seen T D → List Members → List Group → Type 0
  Are = AreGroupsLearnt Steps

  pub none_learnt : (s : Seen T D) → Are s s [] []
  unfolding AreGroupsLearnt
  none_learnt s = refl

  -- one group more
  pub one_more : (old mid new : Seen T D) (groups : List Members) (us : List Group) (g : Members) (u : Group) → Are old mid groups us → IsGroupLearnt Steps mid g u new → Are old new (groups ++ g ∷ []) (us ++ u ∷ [])
  unfolding AreGroupsLearnt
  one_more old mid new [] [] g u are more = (new, subst (λ s. IsGroupLearnt Steps s g u new) are more, refl)
  one_more old mid new [] (v ∷ vs) g u are more = absurd are
  one_more old mid new (h ∷ hs) [] g u are more = absurd are
  one_more old mid new (h ∷ hs) (v ∷ vs) g u are more = (are.0, are.1, one_more are.0 mid new hs vs g u are.2 more)

  -- after updates something is known still
  pub learnt_known : (old new : Seen T D) (groups : List Members) (us : List Group) (known : Known) → IsKnown old known → Are old new groups us → IsAfter old new
  unfolding AreGroupsLearnt
  learnt_known old new [] [] known knows are = record { known = known; knows = subst (λ s. IsKnown s known) (sym are) knows; accepts = ap (λ (s : Seen T D). s.accepts) are }
  learnt_known old new [] (v ∷ vs) known knows are = absurd are
  learnt_known old new (h ∷ hs) [] known knows are = absurd are
  learnt_known old new (h ∷ hs) (v ∷ vs) known knows are =
      let one = are.1 in
      let all = learnt_known are.0 new hs vs (known_after_group known v) (one.right known knows).knows are.2 in
      record { known = all.known; knows = all.knows; accepts = all.accepts ∙ one.same.accepts }

  -- so is the store of registries its client's own still, also where the next group is not updated
  pub learnt_own : (old new : Seen T D) (groups : List Members) (us : List Group) (known : Known) → IsKnown old known → Are old new groups us → IsOwnStore old.accepts new.registries
  learnt_own old new groups us known knows are =
      let after = learnt_known old new groups us known knows are in
      subst (λ a. IsOwnStore a new.registries) after.accepts after.knows.stores.own

  pub unlearnt_own : (old mid new : Seen T D) (groups : List Members) (us : List Group) (known : Known) → IsKnown old known → Are old mid groups us → ((known : Known) → IsKnown mid known → IsOwnStore mid.accepts new.registries) → IsOwnStore old.accepts new.registries
  unlearnt_own old mid new groups us known knows are own =
      let after = learnt_known old mid groups us known knows are in
      subst (λ a. IsOwnStore a new.registries) after.accepts (own after.known after.knows)

  -- ---- groups that were taken from the end of a list

  -- so far these groups, which stood behind those that are left, are updated
  pub record AreTaken (all : List Members) (old : Seen T D) (left : List Members) (now : Seen T D) (us : List Group) : Type 0 where
    pub taken : List Members
    pub are : all ≡ left ++ taken
    pub learnt : Are old now (reverse taken) us

  pub none_taken : (all : List Members) (s : Seen T D) → AreTaken all s all s []
  none_taken all s = record { taken = []; are = sym (append-nil all); learnt = none_learnt s }

  -- the last of those that are left is updated too
  pub taken_more : (all : List Members) (old mid new : Seen T D) (left rest : List Members) (us : List Group) (g : Members) (u : Group) → AreTaken all old left mid us → left ≡ rest ++ g ∷ [] → IsGroupLearnt Steps mid g u new → AreTaken all old rest new (us ++ u ∷ [])
  taken_more all old mid new left rest us g u t last learns = record {
    taken = g ∷ t.taken;
    are = behind all left rest t.taken g t.are last;
    learnt = subst (λ gs. Are old new gs (us ++ u ∷ [])) (sym (reverse-append (g ∷ []) t.taken)) (one_more old mid new (reverse t.taken) us g u t.learnt learns);
  }

  -- none is left
  pub all_taken : (all : List Members) (old new : Seen T D) (left : List Members) (us : List Group) → AreTaken all old left new us → left ≡ [] → Are old new (reverse all) us
  all_taken all old new left us t none =
      subst (λ gs. Are old new gs us) (ap reverse (sym (t.are ∙ ap (λ l. l ++ t.taken) none))) t.learnt

  -- the store of registries is its client's own still, also where the next group is not updated
  pub taken_known : (all : List Members) (old new : Seen T D) (left : List Members) (us : List Group) (known : Known) → IsKnown old known → AreTaken all old left new us → IsOwnStore old.accepts new.registries
  taken_known all old new left us known knows t = learnt_own old new (reverse t.taken) us known knows t.learnt

  pub taken_own : (all : List Members) (old mid new : Seen T D) (left : List Members) (us : List Group) (known : Known) → IsKnown old known → AreTaken all old left mid us → ((known : Known) → IsKnown mid known → IsOwnStore mid.accepts new.registries) → IsOwnStore old.accepts new.registries
  taken_own all old mid new left us known knows t own = unlearnt_own old mid new (reverse t.taken) us known knows t.learnt own

  module _ (said : D → D → Bool → Bool) where
    -- the last of those that are left is not updated
    pub taken_refused : (all : List Members) (old mid new : Seen T D) (left rest : List Members) (us : List Group) (g : Members) (e : FetchError) → AreTaken all old left mid us → left ≡ rest ++ g ∷ [] → IsGroupUnlearnt Steps said mid g e new → AreGroupsUnlearnt Steps said old new (reverse all) e
    taken_refused all old mid new left rest us g e t last refused = record {
      front = reverse t.taken;
      rest = g ∷ reverse rest;
      are = ap reverse t.are ∙ reverse-append left t.taken ∙ ap (λ gs. reverse t.taken ++ gs) (ap reverse last ∙ reverse-append rest (g ∷ []));
      updates = us;
      before = mid;
      learnt = t.learnt;
      cause = inl (record { group = g; later = reverse rest; are = refl; refused = refused });
    }

    -- there is no memory for what was updated
    pub taken_forgotten : (all : List Members) (old new : Seen T D) (left : List Members) (us : List Group) → AreTaken all old left new us → AreGroupsUnlearnt Steps said old new (reverse all) fetch.Memory
    taken_forgotten all old new left us t = record {
      front = reverse t.taken;
      rest = reverse left;
      are = ap reverse t.are ∙ reverse-append left t.taken;
      updates = us;
      before = new;
      learnt = t.learnt;
      cause = inr (record { told = refl; nothing = refl });
    }

    -- the same behind all groups
    pub all_forgotten : (groups : List Members) (old new : Seen T D) (us : List Group) → Are old new groups us → AreGroupsUnlearnt Steps said old new groups fetch.Memory
    all_forgotten groups old new us are = record {
      front = groups;
      rest = [];
      are = sym (append-nil groups);
      updates = us;
      before = new;
      learnt = are;
      cause = inr (record { told = refl; nothing = refl });
    }

-- the logs of one update more
pub logs_more : (us : List Group) (u : Group) → proved_logs us ++ u.logs.packages ≡ proved_logs (us ++ u ∷ [])
logs_more us u = ap (λ l. proved_logs us ++ l) (sym (append-nil u.logs.packages)) ∙ sym (flat_map-append (λ (g : Group). g.logs.packages) us (u ∷ []))

-- ---- the update of a group

module _ {T D : Type 0} (Steps : T → Asked → T → Type 0) (old new : Seen T D) (group : Members) (packages : List (List ℕ × List Kept)) (empty : packages ≡ without_logs group.1) where
  -- the update, with the exchanges since it began
  abbrev group_since : GroupUpdate → Group
  group_since got = group_of got (since old.transcript new.transcript)

  abbrev Knows : Known → Type 0
  Knows known = KnowsOwn old.accepts old.registries known

  -- what an update of a group teaches
  group_learnt : (got : GroupUpdate) → new.accepts ≡ old.accepts → new.asker ≡ old.asker → new.contents ≡ old.contents → new.names ≡ old.names → new.updated ≡ old.updated → new.pages_left ≡ got.pages_left
      → old.faults.link ≤ new.faults.link → old.faults.registries ≤ new.faults.registries → old.faults.contents ≡ new.faults.contents → old.faults.names ≡ new.faults.names
      → ((known : Known) → Knows known → IsGroupUpdated old.accepts old.asker known group.0 packages Steps old.transcript new.transcript old.pages_left got)
      → ((known : Known) → Knows known → (xs : List Exchange) → KnowsOwn old.accepts new.registries (known_after_group known (group_of got xs)))
      → ((known : Known) → Knows known → new.decider ≡ old.decider)
      → (IsReadable old.registries → IsReadable new.registries)
      → IsGroupLearnt Steps old group (group_since got) new
  group_learnt got accepts asker contents names updated left link registries unasked unnamed fetched knows undecided reads = record {
    same = record { accepts = accepts; asker = asker };
    never_falls = record { link = link; registries = registries; contents = at_most unasked; names = at_most unnamed };
    reads = λ all. record { registries = reads all.registries; names = subst (λ o. IfSome o CanBeRead) (sym names) all.names };
    right = λ known k.
        let own = knows_own old known k in
        let f = fetched known own in
        let xs = since_is old.transcript new.transcript f.exchanges f.fetched.kept.exchanges in
        let now = knows known own (since old.transcript new.transcript) in
        record {
          fetched = subst (λ ps. IsGroupFetched old.accepts old.asker known group.0 ps Steps old.transcript new.transcript (group_since got)) empty
              (subst (λ ys. IsGroupFetched old.accepts old.asker known group.0 packages Steps old.transcript new.transcript (group_of got ys)) (sym xs) f.fetched);
          knows = record {
            stores = record {
              registries = record { held = now.registries.held; tells = now.registries.tells; operator = now.registries.operator; checkpoint = now.registries.checkpoint };
              own = subst (λ a. IsOwnStore a new.registries) (sym accepts) now.own;
              namespaces = record { held = k.stores.namespaces.held; tells = names ∙ k.stores.namespaces.tells; mapped = k.stores.namespaces.mapped };
            };
            contents = knows_contents old.contents new.contents known (known_after_group known (group_since got)) contents (λ digest. refl) k.contents;
            updated = λ n. k.updated n ∙ ap (λ us. lookup (λ m. bytes_eq n m) us) (sym updated);
          };
          pages =
              let all : new.transcript.exchanges ≡ old.transcript.exchanges ++ since old.transcript new.transcript = f.fetched.kept.exchanges ∙ ap (λ xs. old.transcript.exchanges ++ xs) (sym xs) in
              ap (λ n. n + pages_asked (old.asker group.0) (since old.transcript new.transcript)) left
              ∙ f.pages (since old.transcript new.transcript) all;
          undecided = undecided known own;
        };
  }

  pub group_taught : (got : GroupUpdate) → new.accepts ≡ old.accepts → new.asker ≡ old.asker → new.contents ≡ old.contents → new.names ≡ old.names → new.updated ≡ old.updated → new.pages_left ≡ got.pages_left
      → old.faults.link ≤ new.faults.link → old.faults.registries ≤ new.faults.registries → old.faults.contents ≡ new.faults.contents → old.faults.names ≡ new.faults.names
      → ((known : Known) → Knows known → IsGroupUpdated old.accepts old.asker known group.0 packages Steps old.transcript new.transcript old.pages_left got)
      → ((known : Known) → Knows known → (xs : List Exchange) → KnowsOwn old.accepts new.registries (known_after_group known (group_of got xs)))
      → ((known : Known) → Knows known → new.decider ≡ old.decider)
      → (IsReadable old.registries → IsReadable new.registries)
      → (u : Group) × (u.logs.packages ≡ map package_view got.packages.items) × IsGroupLearnt Steps old group u new
  group_taught got accepts asker contents names updated left link registries unasked unnamed fetched knows undecided reads =
      (group_since got, refl, group_learnt got accepts asker contents names updated left link registries unasked unnamed fetched knows undecided reads)

  module _ (said : D → D → Bool → Bool) where
    -- why a group is not updated
    pub group_unlearnt : (e : FetchError) → new.accepts ≡ old.accepts → new.asker ≡ old.asker → new.contents ≡ old.contents → new.names ≡ old.names → new.updated ≡ old.updated
        → old.faults.link ≤ new.faults.link → old.faults.registries ≤ new.faults.registries → old.faults.contents ≡ new.faults.contents → old.faults.names ≡ new.faults.names
        → (e ≡ fetch.Update update.LinkFault → Rose old.faults.link new.faults.link)
        → ((known : Known) → Knows known → IsGroupFault old.accepts old.asker known group.0 packages Steps old.transcript new.transcript e (said old.decider new.decider) old.pages_left (registry_loads old new))
        → ((known : Known) → (k : Knows known) → LeavesGroup old.accepts old.asker known group.0 packages Steps old.transcript new.transcript new.registries k.registries.held)
        → ((known : Known) → Knows known → IsOwnStore old.accepts new.registries)
        → ((known : Known) → Knows known → IsBegun (old.asker group.0) (group_start known group.0 packages) old.transcript new.transcript)
        → IsGroupUnlearnt Steps said old group e new
    group_unlearnt e accepts asker contents names updated link registries unasked unnamed rose cause held own begun = record {
      same = record { accepts = accepts; asker = asker };
      never_falls = record { link = link; registries = registries; contents = at_most unasked; names = at_most unnamed };
      link_fault = rose;
      cause = λ known k. subst (λ ps. IsGroupFault old.accepts old.asker known group.0 ps Steps old.transcript new.transcript e (said old.decider new.decider) old.pages_left (registry_loads old new)) empty (cause known (knows_own old known k));
      leaves = λ known k. if_some _ old.registries k.stores.registries.held k.stores.registries.tells
          (subst (λ ps. LeavesGroup old.accepts old.asker known group.0 ps Steps old.transcript new.transcript new.registries k.stores.registries.held) empty (held known (knows_own old known k)));
      contents = contents;
      names = names;
      updated = updated;
      own = λ known k. own known (knows_own old known k);
      begun = λ known k. subst (λ ps. IsBegun (old.asker group.0) (group_start known group.0 ps) old.transcript new.transcript) empty (begun known (knows_own old known k));
    }

-- nothing is asked for a group where there is no memory
pub group_unasked : {T D : Type 0} (Steps : T → Asked → T → Type 0) (said : D → D → Bool → Bool) (s : Seen T D) (group : Members) → IsGroupUnlearnt Steps said s group fetch.Memory s
group_unasked Steps said s group = record {
  same = same_seen s;
  never_falls = none_falls s;
  link_fault = λ h. absurd cc;
  cause = λ known k. record {};
  leaves = λ known k. if_some _ s.registries k.stores.registries.held k.stores.registries.tells
      (inl (record { now = k.stores.registries.held; tells = k.stores.registries.tells; same = record { checkpoints = λ r. refl; operators = λ r. refl; packages = λ p. refl; publish = refl } }));
  contents = refl;
  names = refl;
  updated = refl;
  own = λ known k. k.stores.own;
  begun = λ known k. nothing_begun _ _ s.transcript;
}

-- ---- stores that are asked which registry has each package

at_least : {a b c : ℕ} → a ≤ b → b ≤ c → a ≤ c
at_least p q = omega arith

-- a store's refusal, as that of a lookup
lookup_fault : (e : StoreError) (registries : Loads Held) (names : Loads (Entry Names)) → IsLookupFault e registries names → IsFetchFault (store_refusal e) (λ e. IsLookupFault e registries names) (λ refusal. ⊥)
lookup_fault store.Failed registries names h = h
lookup_fault (store.Damaged kind) registries names h = h
lookup_fault (store.IncorrectContent digest expected) registries names h = h
lookup_fault store.Memory registries names h = record {}

-- a load that is refused later is refused since before
later_load : {X : Type 0} (e : StoreError) (kind : EntryKind) (a b c : ℕ) (entry : Option (Entry X)) → a ≤ b → IsLoadFault e kind b c entry → IsLoadFault e kind a c entry
later_load store.Failed kind a b c entry le h = rose_before a b c le h
later_load (store.Damaged damaged) kind a b c entry le h = h
later_load (store.IncorrectContent digest expected) kind a b c entry le h = h
later_load store.Memory kind a b c entry le h = h

module _ {T D : Type 0} where
  later_lookup : (e : StoreError) (old mid new : Seen T D) → AsksStores old mid → IsLookupFault e (registry_loads mid new) (name_loads mid new) → IsLookupFault e (registry_loads old new) (name_loads old new)
  later_lookup e old mid new asks (inl h) =
      inl (later_fault (λ (held : Held). held.operators None) e kind.Operator old.faults.registries mid.faults.registries new.faults.registries old.registries mid.registries (λ now held same. same.operators None) asks.never_falls.registries asks.registries h)
  later_lookup e old mid new asks (inr h) =
      inr (subst (λ o. IsLoadFault e kind.Namespaces old.faults.names new.faults.names o) asks.names (later_load e kind.Namespaces old.faults.names mid.faults.names new.faults.names mid.names asks.never_falls.names h))

  -- stores that were asked twice
  pub asks_then : (old mid new : Seen T D) → AsksStores old mid → AsksStores mid new → AsksStores old new
  asks_then old mid new a b = record {
    same = record { accepts = b.same.accepts ∙ a.same.accepts; asker = b.same.asker ∙ a.same.asker };
    never_falls = record {
      link = at_least a.never_falls.link b.never_falls.link;
      registries = at_least a.never_falls.registries b.never_falls.registries;
      contents = at_least a.never_falls.contents b.never_falls.contents;
      names = at_least a.never_falls.names b.never_falls.names;
    };
    transcript = b.transcript ∙ a.transcript;
    registries = tells_then old.registries mid.registries new.registries a.registries b.registries;
    contents = b.contents ∙ a.contents;
    names = b.names ∙ a.names;
    pages_left = b.pages_left ∙ a.pages_left;
    decider = b.decider ∙ a.decider;
  }

  -- one name more is grouped, by the registry that has its package
  pub grouped_more : (old mid new : Seen T D) (names : List (List ℕ)) (at : ℕ) (name : List ℕ) (registry : Registry) (before after : List Members) → at < length names → name ≡ get_or names at name → AreGrouped old mid (take at names) before
      → AsksStores mid new → new.updated ≡ mid.updated → ((known : Known) → IsKnown mid known → registry ≡ registry_of known name) → after ≡ joined registry name before → AreGrouped old new (take (at + 1) names) after
  grouped_more old mid new names at name registry before after lt is are asks updated under more = record {
    asks = asks_then old mid new are.asks asks;
    updated = updated ∙ are.updated;
    are = λ known k. grouped_to (registry_of known) names at name registry before after lt is (under known (known_still old mid known are.asks are.updated k)) (are.are known k) more;
  }

  -- the stores do not give a registry
  pub not_grouped_store : (old mid new : Seen T D) (names : List (List ℕ)) (groups : List Members) (e : StoreError) → AreGrouped old mid names groups → AsksStores mid new → IsLookupFault e (registry_loads mid new) (name_loads mid new) → AreNotGrouped old new (store_refusal e)
  not_grouped_store old mid new names groups e are asks fault = record {
    asks = asks_then old mid new are.asks asks;
    cause = λ known k. lookup_fault e (registry_loads old new) (name_loads old new) (later_lookup e old mid new are.asks fault);
  }

  pub not_grouped_memory : (old new : Seen T D) → AsksStores old new → AreNotGrouped old new fetch.Memory
  not_grouped_memory old new asks = record { asks = asks; cause = λ known k. record {} }

-- the store of registries is its client's own still where it is so by what is known once the packages are grouped
pub own_grouped : {T D : Type 0} (old mid new : Seen T D) (names : List (List ℕ)) (groups : List Members) (known : Known) → IsKnown old known → AreGrouped old mid names groups → ((known : Known) → IsKnown mid known → IsOwnStore mid.accepts new.registries) → IsOwnStore old.accepts new.registries
own_grouped old mid new names groups known k are own =
    subst (λ a. IsOwnStore a new.registries) are.asks.same.accepts (own known (known_still old mid known are.asks are.updated k))
