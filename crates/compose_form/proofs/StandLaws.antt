-- What stands in index spaces has the form that writing asks for, but that core modules may have no type.
use Rattle.std.proofs.Common.{◌≡◌, ◌<◌, ℕ, zero, suc, Bool, true, false, List, [], ◌∷◌, ◌++◌, length, Some, Result, Ok, Err}
use Rattle.std.specs.Prelude.{IfOk, if◌then◌else◌}
use Rattle.std.specs.List.{AllByRecursion}
use Rattle.std.specs.Str.{bytes_eq}
use Rattle.std.proofs.lemmas.Bool.{and_parts}
use Rattle.warg_values.specs.Reading.{◌>>=◌}
use Rattle.comp_format.specs.declared.types.CoreSort.TheVariants as core
use Rattle.comp_format.specs.declared.types.Sort.{Sort}
use Rattle.comp_format.specs.declared.types.Sort.TheVariants as sort
use Rattle.comp_entity.specs.Bounds.{ShapeFault, Bounds, TooDeep, TooBig, kept, is_within, depth_of, entity_nodes}
use Rattle.comp_entity.specs.Entity.{EntityTree, IsType, IsFunc, IsInstance, IsComponent, IsModule, IsOwnModule, Entries, no_entry, entry}
use Rattle.comp_entity.specs.Fits.{under}
use Rattle.comp_entity.specs.Names.{Change, Counts, entity_by, entries_by}
use Rattle.comp_scope.specs.Exports.{is_typed, are_typed}
use Rattle.comp_scope.specs.Spaces.{KnownCoreType, OfItem, OfModules, Unknown, CoreCounts, Standing, Spaces, Known, at_index, item_or_fault, standing, placed, added, with_core_type, entries_in}
use Rattle.compose_writing.specs.Conditions.{KeepsCore, KeepsEntries, KeepsForm, KeepsFunc, KeepsModule, KeepsType}
use Rattle.compose_form.proofs.ChangeLaws.{entries_kept, func_kept, type_kept}

-- ---- readings that give what has a property

pub then_ok : {X Y : Type 0} (Q : X → Type 0) (P : Y → Type 0) (r : Result X ShapeFault) (f : X → Result Y ShapeFault) → IfOk r Q → ((x : X) → Q x → IfOk (f x) P) → IfOk (r >>= f) P
then_ok Q P (Ok x) f h next = next x h
then_ok Q P (Err e) f h next = tt

-- a test that refuses, and one that lets pass
pub refused_ok : {Y : Type 0} (P : Y → Type 0) (b : Bool) (e : ShapeFault) (r : Result Y ShapeFault) → IfOk r P → IfOk (if b then Err e else r) P
refused_ok P true e r h = tt
refused_ok P false e r h = h

pub passed_ok : {Y : Type 0} (P : Y → Type 0) (b : Bool) (e : ShapeFault) (r : Result Y ShapeFault) → IfOk r P → IfOk (if b then r else Err e) P
passed_ok P true e r h = h
passed_ok P false e r h = tt

pub kept_ok : {X : Type 0} (P : X → Type 0) (b : Bounds) (e : EntityTree) (x : X) → P x → IfOk (kept b e x) P
kept_ok P b e x h = passed_ok P (is_within b.depth (depth_of e)) TooDeep _ (passed_ok P (is_within b.nodes (entity_nodes e)) TooBig (Ok x) h)

pub index_ok : {X : Type 0} (P : X → Type 0) (xs : List X) (i : ℕ) → AllByRecursion P xs → IfOk (at_index xs i) P
index_ok P [] i h = tt
index_ok P (x ∷ xs) zero h = h.0
index_ok P (x ∷ xs) (suc i) h = index_ok P xs i h.1

pub each_more : {X : Type 0} (P : X → Type 0) (xs : List X) (x : X) → AllByRecursion P xs → P x → AllByRecursion P (xs ++ x ∷ [])
each_more P [] x h p = (p, tt)
each_more P (y ∷ xs) x h p = (h.0, each_more P xs x h.1 p)

-- ---- entities

abbrev mutual
  pub Stands : EntityTree → Type 0
  Stands (IsType t) = KeepsType t
  Stands (IsFunc f) = KeepsFunc f
  Stands (IsInstance es) = AllStand es
  Stands (IsComponent is es) = KeepsEntries is × KeepsEntries es
  Stands (IsModule m) = KeepsModule m
  Stands IsOwnModule = Unit {0}

  pub AllStand : Entries → Type 0
  AllStand no_entry = Unit {0}
  AllStand (entry name e mark es) = (0 < length name) × Stands e × AllStand es

mutual
  pub stands : (e : EntityTree) → KeepsForm e → Stands e
  stands (IsType t) h = h
  stands (IsFunc f) h = h
  stands (IsInstance es) h = all_stand es h
  stands (IsComponent is es) h = h
  stands (IsModule m) h = h
  stands IsOwnModule h = elim h [ ]

  pub all_stand : (es : Entries) → KeepsEntries es → AllStand es
  all_stand no_entry h = tt
  all_stand (entry name e mark es) h = (h.0, stands e h.1, all_stand es h.2)

-- each core module has a type
mutual
  pub typed_keeps : (e : EntityTree) → is_typed e ≡ true → Stands e → KeepsForm e
  typed_keeps (IsType t) typed h = h
  typed_keeps (IsFunc f) typed h = h
  typed_keeps (IsInstance es) typed h = all_typed_keep es typed h
  typed_keeps (IsComponent is es) typed h = h
  typed_keeps (IsModule m) typed h = h
  typed_keeps IsOwnModule typed h = absurd cc

  all_typed_keep : (es : Entries) → are_typed es ≡ true → AllStand es → KeepsEntries es
  all_typed_keep no_entry typed h = tt
  all_typed_keep (entry name e mark es) typed h = let both = and_parts (is_typed e) (are_typed es) typed in (h.0, typed_keeps e both.0 h.1, all_typed_keep es both.1 h.2)

mutual
  pub stands_by : (c : Change) (d : ℕ) (e : EntityTree) → Stands e → Stands (entity_by c d e)
  stands_by c d (IsType t) h = type_kept c d t h
  stands_by c d (IsFunc f) h = func_kept c d f h
  stands_by c d (IsInstance es) h = all_stand_by c d es h
  stands_by c d (IsComponent is es) h = (entries_kept c (suc (suc d)) is h.0, entries_kept c (suc (suc d)) es h.1)
  stands_by c d (IsModule m) h = h
  stands_by c d IsOwnModule h = h

  pub all_stand_by : (c : Change) (d : ℕ) (es : Entries) → AllStand es → AllStand (entries_by c d es)
  all_stand_by c d no_entry h = h
  all_stand_by c d (entry name e mark es) h = (h.0, stands_by c d e h.1, all_stand_by c d es h.2)

-- ---- index spaces

abbrev pub CoreKeeps : KnownCoreType → Type 0
CoreKeeps (OfItem t) = KeepsCore t
CoreKeeps (OfModules m) = KeepsModule m
CoreKeeps Unknown = Unit {0}

abbrev pub StandingKeeps : Standing → Type 0
StandingKeeps st = Stands st.0

abbrev pub AllKeep : List Standing → Type 0
AllKeep xs = AllByRecursion StandingKeeps xs

pub record SpacesKeep (s : Spaces) : Type 0 where
  pub core_types : AllByRecursion CoreKeeps s.core_types
  pub modules : AllKeep s.modules
  pub funcs : AllKeep s.funcs
  pub types : AllKeep s.types
  pub components : AllKeep s.components
  pub instances : AllKeep s.instances

pub recounted : (s : Spaces) (core : CoreCounts) (brought made : Counts) → SpacesKeep s → SpacesKeep (record s { core = core; brought = brought; made = made })
recounted s core brought made h = record { core_types = h.core_types; modules = h.modules; funcs = h.funcs; types = h.types; components = h.components; instances = h.instances }

pub placed_keeps : (s : Spaces) (e : EntityTree) (named : Bool) → SpacesKeep s → Stands e → SpacesKeep (placed s e named)
placed_keeps s (IsType t) named h k = record { core_types = h.core_types; modules = h.modules; funcs = h.funcs; types = each_more StandingKeeps s.types (IsType t, named) h.types k; components = h.components; instances = h.instances }
placed_keeps s (IsFunc f) named h k = record { core_types = h.core_types; modules = h.modules; funcs = each_more StandingKeeps s.funcs (IsFunc f, named) h.funcs k; types = h.types; components = h.components; instances = h.instances }
placed_keeps s (IsInstance es) named h k = record { core_types = h.core_types; modules = h.modules; funcs = h.funcs; types = h.types; components = h.components; instances = each_more StandingKeeps s.instances (IsInstance es, named) h.instances k }
placed_keeps s (IsComponent is es) named h k = record { core_types = h.core_types; modules = h.modules; funcs = h.funcs; types = h.types; components = each_more StandingKeeps s.components (IsComponent is es, named) h.components k; instances = h.instances }
placed_keeps s (IsModule m) named h k = record { core_types = h.core_types; modules = each_more StandingKeeps s.modules (IsModule m, named) h.modules k; funcs = h.funcs; types = h.types; components = h.components; instances = h.instances }
placed_keeps s IsOwnModule named h k = record { core_types = h.core_types; modules = each_more StandingKeeps s.modules (IsOwnModule, named) h.modules k; funcs = h.funcs; types = h.types; components = h.components; instances = h.instances }

pub added_keeps : (b : Bounds) (s : Spaces) (e : EntityTree) (named : Bool) → SpacesKeep s → Stands e → IfOk (added b s e named) SpacesKeep
unfolding added
added_keeps b s e named h k = kept_ok SpacesKeep b e (placed s e named) (placed_keeps s e named h k)

pub core_type_keeps : (s : Spaces) (t : KnownCoreType) → SpacesKeep s → CoreKeeps t → SpacesKeep (with_core_type s t)
core_type_keeps s t h k = record { core_types = each_more CoreKeeps s.core_types t h.core_types k; modules = h.modules; funcs = h.funcs; types = h.types; components = h.components; instances = h.instances }

pub standing_keeps : (s : Spaces) (kind : Sort) (i : ℕ) → SpacesKeep s → IfOk (standing s kind i) StandingKeeps
standing_keeps s (sort.Core core.Module) i h = index_ok StandingKeeps s.modules i h.modules
standing_keeps s (sort.Core core.Func) i h = tt
standing_keeps s (sort.Core core.Table) i h = tt
standing_keeps s (sort.Core core.Memory) i h = tt
standing_keeps s (sort.Core core.Global) i h = tt
standing_keeps s (sort.Core core.Ty) i h = tt
standing_keeps s (sort.Core core.Instance) i h = tt
standing_keeps s sort.Func i h = index_ok StandingKeeps s.funcs i h.funcs
standing_keeps s sort.Ty i h = index_ok StandingKeeps s.types i h.types
standing_keeps s sort.Component i h = index_ok StandingKeeps s.components i h.components
standing_keeps s sort.Instance i h = index_ok StandingKeeps s.instances i h.instances

-- what an instance exports under a name
pub under_keeps : (name : List ℕ) (es : Entries) → AllStand es → IfOk (item_or_fault (under name es)) StandingKeeps
under_keeps name no_entry h = tt
under_keeps name (entry n e mark es) h = one (bytes_eq name n) (under_keeps name es h.2)
  where
    one : (b : Bool) → IfOk (item_or_fault (under name es)) StandingKeeps → IfOk (item_or_fault (if b then Some (e, mark) else under name es)) StandingKeeps
    one true rest = h.1
    one false rest = rest

-- ---- what is known of a scope

abbrev pub EntryKeeps : List ℕ × Standing → Type 0
EntryKeeps e = (0 < length e.0) × KeepsForm e.1.0

pub record KnownKeeps (k : Known) : Type 0 where
  pub spaces : SpacesKeep k.spaces
  pub imports : AllByRecursion EntryKeeps k.imports
  pub exports : AllByRecursion EntryKeeps k.exports

pub entries_keep : (es : List (List ℕ × Standing)) → AllByRecursion EntryKeeps es → KeepsEntries (entries_in es)
entries_keep [] h = tt
entries_keep (e ∷ es) h = (h.0.0, h.0.1, entries_keep es h.1)
