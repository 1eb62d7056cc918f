-- What is left of slots after a reset.
use Rattle.std.proofs.Common.{◌≡◌, ◌&&◌, not, Bool, true, false, true≢false, cond, List, filter, Option, Some, None, is_some, refl, sym, ap, ◌∙◌}
use Rattle.std.specs.Map.{lookup}
use Rattle.std.proofs.lemmas.Map.Entries.{lookup-filter-keys}
use Rattle.warg_store.specs.declared.slots.Slot.{Slot}
use Rattle.warg_store.specs.Entry.{Absent}
use Rattle.warg_store.specs.Held.{Registry, Package, is_registry, is_package, is_reset}
use Rattle.warg_store.specs.Slots.{slot_entry}

-- what a look-up finds among the slots that stay
seen_where : {T X : Type 0} (view : T → X) (gone : Bool) (o : Option (Slot T)) → slot_entry view (cond (not gone) o None) ≡ cond gone Absent (slot_entry view o)
seen_where view true o = refl
seen_where view false o = refl

-- slots without those of some keys, where equal keys go or stay together
pub without_slots : {K T X : Type 0} (eq : K → K → Bool) (view : T → X) (gone stays : K → Bool) → ((k x : K) → eq k x ≡ true → stays x ≡ not (gone k)) → (es kept : List (K × Slot T)) → kept ≡ filter (λ e. stays e.0) es → (k : K) → slot_entry view (lookup (eq k) kept) ≡ cond (gone k) Absent (slot_entry view (lookup (eq k) es))
without_slots eq view gone stays together es kept is k =
    ap (λ es. slot_entry view (lookup (eq k) es)) is
    ∙ ap (slot_entry view) (lookup-filter-keys (eq k) stays (not (gone k)) (together k) es)
    ∙ seen_where view (gone k) (lookup (eq k) es)

-- which registries stay
abbrev pub stays_registry : Bool → Registry → Bool
stays_registry all r = not all && is_some r

pub registries_together : (all : Bool) (k x : Registry) → is_registry k x ≡ true → stays_registry all x ≡ not (is_reset all k)
registries_together true k x same = refl
registries_together false None None same = refl
registries_together false (Some k) (Some x) same = refl
registries_together false None (Some x) same = absurd (true≢false (sym same))
registries_together false (Some k) None same = absurd (true≢false (sym same))

first : (a b : Bool) → (a && b) ≡ true → a ≡ true
first true b both = refl
first false b both = both

pub packages_together : (all : Bool) (k x : Package) → is_package k x ≡ true → stays_registry all x.0 ≡ not (is_reset all k.0)
packages_together all k x same = registries_together all k.0 x.0 (first _ _ same)
