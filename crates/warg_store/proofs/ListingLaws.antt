-- Lists of packages: one package more, and what slots in memory hold.
use Rattle.std.proofs.Common.{◌≡◌, ◌≢◌, ℕ, zero, suc, Bool, true, false, cond, List, [], ◌∷◌, ◌++◌, get_or, map, All, Contains, Option, Some, None, IfSome, option_map, Vec, Result, IfErr, IsErrAnd, refl, sym, ap, ap₂, subst, ◌∙◌, arith, inl, inr, append_assoc}
use Rattle.std.specs.Cmp.Lexicographic.{nat_list_eq_equiv}
use Rattle.std.specs.Global.{Global}
use Rattle.std.specs.List.{IsDistinct}
use Rattle.std.specs.Map.{keys_of, lookup}
use Rattle.std.specs.Option.{option_map_or}
use Rattle.std.proofs.lemmas.Bool.{cases_Bool}
use Rattle.std.proofs.lemmas.List.{append-nil, map-append}
use Rattle.std.proofs.lemmas.List.Elements.{All-contains, All-contains_itself, All-map, All-weaker, Contains-append_right}
use Rattle.std.proofs.lemmas.Map.Made.{keys_of-map_values}
use Rattle.std.proofs.lemmas.Map.Views.{IfSome-lookup, lookup-from_Contains}
use Rattle.std.proofs.lemmas.Result.{err_from_is_err_and}
use Rattle.warg_hash.specs.Hash.{package_log_id}
use Rattle.warg_info.specs.declared.package.PackageInfo.{PackageInfo}
use Rattle.warg_store.specs.declared.error.EntryKind.TheVariants.{Package as of_package}
use Rattle.warg_store.specs.declared.error.StoreError.{StoreError}
use Rattle.warg_store.specs.declared.error.StoreError.TheVariants as error
use Rattle.warg_store.specs.declared.slots.Slot.{Slot}
use Rattle.warg_store.specs.Entry.{Entry, Absent, Whole, Unreadable, IsLoadFault}
use Rattle.warg_store.specs.Held.{NamedInfo, Package, Registry, is_package, is_registry, named_info}
use Rattle.warg_store.specs.Listed.{AreAllPackages, IsListingFault, entry_under}
use Rattle.warg_store.specs.ListedLaws.{AreGathered, Gathered, all_gathered, gathered_key, gathered_more, gathered_of, package_equiv, package_is, registry_is}
use Rattle.warg_store.specs.Slots.{slot_entry}

-- ---- a list in a map

abbrev pub infos_at : Option (Vec PackageInfo Global) → List PackageInfo
infos_at o = option_map_or (λ list. list.items) o []

-- a list that had one more put behind it
pub pushed_on : (now was : List PackageInfo) (o : Option (Vec PackageInfo Global)) (info : PackageInfo) → now ≡ was ++ info ∷ [] → was ≡ infos_at o → now ≡ infos_at o ++ info ∷ []
pushed_on now was o info is same = is ∙ ap (λ (l : List PackageInfo). l ++ info ∷ []) same

not_empty : {X : Type 0} (xs : List X) (x : X) → xs ++ x ∷ [] ≡ [] → ⊥
not_empty [] x e = cc
not_empty (y ∷ ys) x e = cc

-- one package more in the list of its registry
module _ (old new : Registry → Option (Vec PackageInfo Global)) (key : Registry) (list : Vec PackageInfo Global) (info : PackageInfo) (updates : (r : Registry) → new r ≡ cond (is_registry key r) (Some list) (old r)) (pushed : list.items ≡ infos_at (old key) ++ info ∷ []) where
  new_at : (r : Registry) (b : Bool) → is_registry key r ≡ b → new r ≡ cond b (Some list) (old r)
  new_at r b is = updates r ∙ ap (λ (c : Bool). cond c (Some list) (old r)) is

  pub infos_more : (r : Registry) → infos_at (new r) ≡ infos_at (old r) ++ cond (is_registry key r) (info ∷ []) []
  infos_more r =
      elim (cases_Bool (is_registry key r)) [
        | inl t ↦ ap infos_at (new_at r true t) ∙ pushed ∙ ap (λ (k : Registry). infos_at (old k) ++ info ∷ []) (registry_is key r t) ∙ sym (ap (λ (b : Bool). infos_at (old r) ++ cond b (info ∷ []) []) t)
        | inr f ↦ ap infos_at (new_at r false f) ∙ sym (append-nil (infos_at (old r))) ∙ sym (ap (λ (b : Bool). infos_at (old r) ++ cond b (info ∷ []) []) f)
      ]

  pub some_more : ((r : Registry) → IfSome (old r) (λ l. l.items ≢ [])) → (r : Registry) → IfSome (new r) (λ l. l.items ≢ [])
  some_more had r =
      elim (cases_Bool (is_registry key r)) [
        | inl t ↦ subst (λ (o : Option (Vec PackageInfo Global)). IfSome o (λ l. l.items ≢ [])) (sym (new_at r true t)) (λ e. not_empty (infos_at (old key)) info (sym pushed ∙ e))
        | inr f ↦ subst (λ (o : Option (Vec PackageInfo Global)). IfSome o (λ l. l.items ≢ [])) (sym (new_at r false f)) (had r)
      ]

-- ---- slots that were read

abbrev pub Slots : Type 0
Slots = List (Package × Slot PackageInfo)

-- the entries that slots are
abbrev pub entries_seen : Slots → List (Package × Entry NamedInfo)
entries_seen es = map (λ (e : Package × Slot PackageInfo). (e.0, slot_entry named_info (Some e.1))) es

-- the entries that packages are
abbrev pub entries_gathered : List Gathered → List (Package × Entry NamedInfo)
entries_gathered gs = map (λ (g : Gathered). (gathered_key g, Whole g.1)) gs

-- what slots hold
abbrev pub held_by : Slots → Package → Entry NamedInfo
held_by es p = slot_entry named_info (lookup (is_package p) es)

found : Option (Entry NamedInfo) → Entry NamedInfo
found None = Absent
found (Some e) = e

found_with : (b : Bool) (o p : Option (Slot PackageInfo)) (q : Option (Entry NamedInfo)) → slot_entry named_info p ≡ found q → slot_entry named_info (cond b o p) ≡ found (cond b (option_map (λ (s : Slot PackageInfo). slot_entry named_info (Some s)) o) q)
unfolding found
found_with true None p q is = refl
found_with true (Some s) p q is = refl
found_with false o p q is = is

none_found : slot_entry {X = NamedInfo} named_info None ≡ found None
unfolding found
none_found = refl

seen_at : (es : Slots) (test : Package → Bool) → slot_entry named_info (lookup test es) ≡ found (lookup test (entries_seen es))
seen_at [] test = none_found
seen_at (e ∷ es) test = found_with (test e.0) (Some e.1) (lookup test es) (lookup test (entries_seen es)) (seen_at es test)

keys_gathered : (gs : List Gathered) → keys_of (entries_gathered gs) ≡ map gathered_key gs
keys_gathered [] = refl
keys_gathered (g ∷ gs) = ap (λ ks. gathered_key g ∷ ks) (keys_gathered gs)

entry_gathered : (gs : List Gathered) (g : Gathered) → Contains gs g → Contains (entries_gathered gs) (gathered_key g, Whole g.1)
entry_gathered [] g h = absurd (omega (arith, h.1))
entry_gathered (x ∷ gs) g (zero, lt, is) = (zero, omega arith, ap (λ (y : Gathered). (gathered_key y, Whole y.1)) is)
entry_gathered (x ∷ gs) g (suc k, lt, is) = Contains-append_right ((gathered_key x, Whole x.1) ∷ []) (entries_gathered gs) (gathered_key g, Whole g.1) (entry_gathered gs g (k, omega arith, is))

the_whole : NamedInfo → Entry NamedInfo → NamedInfo
the_whole other Absent = other
the_whole other (Whole info) = info
the_whole other Unreadable = other

gathered_entry : (gs : List Gathered) (p : Package) (info : NamedInfo) → Contains (entries_gathered gs) (p, Whole info) → Contains gs (p.0, info)
unfolding the_whole
gathered_entry [] p info h = absurd (omega (arith, h.1))
gathered_entry (x ∷ gs) p info (zero, lt, is) =
    let r : x.0 ≡ p.0 = ap (λ (e : Package × Entry NamedInfo). e.0.0) is in
    let same : x.1 ≡ info = ap (λ (e : Package × Entry NamedInfo). the_whole info e.1) is in
    (zero, omega arith, (λ i. (r i, same i)))
gathered_entry (x ∷ gs) p info (suc k, lt, is) = Contains-append_right (x ∷ []) gs (p.0, info) (gathered_entry gs p info (k, omega arith, is))

absent_whole : (info : NamedInfo) → Absent ≡ Whole info → ⊥
absent_whole info e = cc

absent_unreadable : ◌≡◌ {A = Entry NamedInfo} Absent Unreadable → ⊥
absent_unreadable e = cc

whole_unreadable : (info : NamedInfo) → Whole info ≡ Unreadable → ⊥
whole_unreadable info e = cc

found_whole : (o : Option (Entry NamedInfo)) (info : NamedInfo) (es : List (Package × Entry NamedInfo)) (p : Package) → found o ≡ Whole info → IfSome o (λ e. Contains es (p, e)) → Contains es (p, Whole info)
unfolding found
found_whole None info es p is h = absurd (absent_whole info is)
found_whole (Some e) info es p is h = subst (λ x. Contains es (p, x)) is h

is_readable : (g : Gathered) → entry_under (gathered_key g).1 (Whole g.1) ≡ Unreadable → ⊥
is_readable g e = whole_unreadable g.1 (sym (ap (λ (b : Bool). cond b (Whole g.1) Unreadable) (nat_list_eq_equiv.refl (package_log_id g.1.name))) ∙ e)

all_readable : (gs : List Gathered) → All (λ (e : Package × Entry NamedInfo). entry_under e.0.1 e.1 ≡ Unreadable → ⊥) (entries_gathered gs)
all_readable gs = All-map (λ (e : Package × Entry NamedInfo). entry_under e.0.1 e.1 ≡ Unreadable → ⊥) (λ (g : Gathered). (gathered_key g, Whole g.1)) gs (λ k d lt. is_readable (get_or gs k d))

found_readable : (o : Option (Entry NamedInfo)) (gs : List Gathered) (p : Package) → IfSome o (λ e. Contains (entries_gathered gs) (p, e)) → entry_under p.1 (found o) ≡ Unreadable → ⊥
unfolding found
found_readable None gs p h = absent_unreadable
found_readable (Some e) gs p h = All-contains (λ (x : Package × Entry NamedInfo). entry_under x.0.1 x.1 ≡ Unreadable → ⊥) (entries_gathered gs) (p, e) (all_readable gs) h

module _ (whole : Slots) (gs : List Gathered) (read : entries_seen whole ≡ entries_gathered gs) (unique : IsDistinct is_package (keys_of whole)) where
  held_is : (p : Package) → held_by whole p ≡ found (lookup (is_package p) (entries_gathered gs))
  held_is p = seen_at whole (is_package p) ∙ ap (λ es. found (lookup (is_package p) es)) read

  keys_are : keys_of whole ≡ keys_of (entries_gathered gs)
  keys_are = sym (keys_of-map_values (λ (s : Slot PackageInfo). slot_entry named_info (Some s)) whole) ∙ ap keys_of read

  stands : (g : Gathered) → Contains gs g → held_by whole (gathered_key g) ≡ Whole g.1
  unfolding found
  stands g h =
      held_is (gathered_key g)
      ∙ ap found (lookup-from_Contains package_equiv (gathered_key g) (Whole g.1) (entries_gathered gs) (subst (IsDistinct is_package) keys_are unique) (entry_gathered gs g h))

  pub slots_gathered : AreGathered (held_by whole) gs
  slots_gathered = record {
    whole = All-weaker (Contains gs) (λ g. held_by whole (gathered_key g) ≡ Whole g.1) stands gs (All-contains_itself gs);
    all = λ p info is. gathered_entry gs p info (found_whole (lookup (is_package p) (entries_gathered gs)) info (entries_gathered gs) p (sym (held_is p) ∙ is) (IfSome-lookup package_is p (entries_gathered gs)));
    readable = λ p. subst (λ e. entry_under p.1 e ≡ Unreadable → ⊥) (sym (held_is p)) (found_readable (lookup (is_package p) (entries_gathered gs)) gs p (IfSome-lookup package_is p (entries_gathered gs)));
    distinct = subst (IsDistinct is_package) (keys_are ∙ keys_gathered gs) unique;
  }

-- ---- slots that are read one by one

pub record SoFar (whole rest : Slots) (listed : Registry → List NamedInfo) : Type 0 where
  pub before : Slots
  pub gathered : List Gathered
  pub split : before ++ rest ≡ whole
  pub unique : IsDistinct is_package (keys_of whole)
  pub read : entries_seen before ≡ entries_gathered gathered
  pub are : (r : Registry) → listed r ≡ gathered_of gathered r

pub none_so_far : (whole : Slots) (listed : Registry → List NamedInfo) → IsDistinct is_package (keys_of whole) → ((r : Registry) → listed r ≡ []) → SoFar whole whole listed
none_so_far whole listed unique none = record { before = []; gathered = []; split = refl; unique = unique; read = refl; are = none }

module _ (whole rest next : Slots) (listed : Registry → List NamedInfo) (key : Package) (slot : Slot PackageInfo) (so_far : SoFar whole rest listed) (left : rest ≡ (key, slot) ∷ next) where
  split_here : so_far.before ++ (key, slot) ∷ next ≡ whole
  split_here = sym (ap (λ l. so_far.before ++ l) left) ∙ so_far.split

  pub one_more : (more : Registry → List NamedInfo) (g : Gathered) → key ≡ gathered_key g → slot_entry named_info (Some slot) ≡ Whole g.1 → ((r : Registry) → more r ≡ listed r ++ cond (is_registry g.0 r) (g.1 ∷ []) []) → SoFar whole next more
  one_more more g is here added = record {
    before = so_far.before ++ (key, slot) ∷ [];
    gathered = so_far.gathered ++ g ∷ [];
    split = append_assoc so_far.before ((key, slot) ∷ []) next ∙ split_here;
    unique = so_far.unique;
    read = map-append _ so_far.before ((key, slot) ∷ []) ∙ ap₂ (λ (a b : List (Package × Entry NamedInfo)). a ++ b) so_far.read (λ i. (is i, here i) ∷ []) ∙ sym (map-append _ so_far.gathered (g ∷ []));
    are = λ r. added r ∙ ap (λ l. l ++ cond (is_registry g.0 r) (g.1 ∷ []) []) (so_far.are r) ∙ sym (gathered_more so_far.gathered g r);
  }

  slot_here : lookup (is_package key) whole ≡ Some slot
  slot_here = lookup-from_Contains package_equiv key slot whole so_far.unique (subst (λ es. Contains es (key, slot)) split_here (Contains-append_right so_far.before ((key, slot) ∷ next) (key, slot) (zero, omega arith, refl)))

  pub one_unreadable : entry_under key.1 (slot_entry named_info (Some slot)) ≡ Unreadable → (p : Package) × (entry_under p.1 (held_by whole p) ≡ Unreadable)
  one_unreadable e = (key, ap (λ o. entry_under key.1 (slot_entry named_info o)) slot_here ∙ e)

pub all_so_far : (whole rest : Slots) (listed : Registry → List NamedInfo) → SoFar whole rest listed → rest ≡ [] → AreAllPackages (held_by whole) listed
all_so_far whole rest listed so_far none =
    let before : so_far.before ≡ whole = sym (append-nil so_far.before) ∙ ap (λ l. so_far.before ++ l) (sym none) ∙ so_far.split in
    all_gathered (held_by whole) so_far.gathered listed (slots_gathered whole so_far.gathered (ap entries_seen (sym before) ∙ so_far.read) so_far.unique) so_far.are

-- ---- refusals

-- an entry that can't be read is one of those of all packages
pub of_one_entry : (e : StoreError) (before after : ℕ) (held : Package → Entry NamedInfo) (entry : Entry NamedInfo) → IsLoadFault e of_package before after (Some entry) → (entry ≡ Unreadable → (p : Package) × (entry_under p.1 (held p) ≡ Unreadable)) → IsListingFault e before after (Some held)
of_one_entry error.Failed before after held entry h is = h
of_one_entry (error.Damaged kind) before after held entry h is = (h.0, is h.1)
of_one_entry (error.IncorrectContent digest expected) before after held entry h is = h
of_one_entry error.Memory before after held entry h is = h

-- a refusal that is handed on
pub handed_on : {X : Type 0} (r : Result X StoreError) (e : StoreError) (P : StoreError → Type 0) → IsErrAnd r (λ d. d ≡ e) → P e → IfErr r P
handed_on r e P gives h = let p = err_from_is_err_and r gives in rw (p.1, p.2) h
