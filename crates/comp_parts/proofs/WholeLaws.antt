-- What may stand in the index spaces of a component: what can lie in memory, and instances in which core modules of the
-- component's own stand.
use Rattle.std.proofs.Common.{◌≡◌, ℕ, zero, suc, Bool, true, false, ◌&&◌, List, [], ◌∷◌, ◌++◌, Result, Ok, Err, Some, refl}
use Rattle.std.specs.Prelude.{IfOk, bytes_eq, if◌then◌else◌}
use Rattle.std.specs.List.{AllByRecursion}
use Rattle.warg_values.specs.Reading.{◌>>=◌}
use Rattle.comp_entity.specs.Entity.{TypeShapeTree, EntityTree, IsType, IsFunc, IsInstance, IsComponent, IsModule, IsOwnModule, Entries, no_entry, entry}
use Rattle.comp_entity.specs.Bounds.{ShapeFault, Bounds, is_within, depth_of, entity_nodes}
use Rattle.comp_entity.specs.Names.{Change, entity_by, entries_by}
use Rattle.comp_entity.specs.Fits.{under}
use Rattle.comp_table.specs.Shown.{IsShownType, IsShown, AreShown}
use Rattle.comp_view.specs.Fields.{FuncHasFields, TypeHasFields, EntityHasFields, EntriesHaveFields}
use Rattle.comp_scope.specs.Spaces.{Spaces, Known, Standing, item_or_fault, at_index, placed, added, entries_in}
use Rattle.comp_scope.specs.Exports.{is_typed, are_typed}
use Rattle.comp_parts.proofs.KeptLaws.{func_kept, type_kept, entries_kept, type_shown, entries_shown}

-- entries, and an entity, that can lie in memory
abbrev pub AllLie : Entries → Type 0
AllLie es = EntriesHaveFields es × AreShown es

abbrev pub Lies : EntityTree → Type 0
Lies e = EntityHasFields e × IsShown e

abbrev pub TypeLies : TypeShapeTree → Type 0
TypeLies t = TypeHasFields t × IsShownType t

abbrev mutual
  pub IsWhole : EntityTree → Type 0
  IsWhole (IsType t) = TypeLies t
  IsWhole (IsFunc f) = FuncHasFields f
  IsWhole (IsInstance es) = AreWhole es
  IsWhole (IsComponent is es) = AllLie is × AllLie es
  IsWhole (IsModule m) = Unit {0}
  IsWhole IsOwnModule = Unit {0}

  pub AreWhole : Entries → Type 0
  AreWhole no_entry = Unit {0}
  AreWhole (entry name e mark es) = IsWhole e × AreWhole es

mutual
  pub lying_whole : (e : EntityTree) → Lies e → IsWhole e
  lying_whole (IsType t) h = h
  lying_whole (IsFunc f) h = h.0
  lying_whole (IsInstance es) h = all_whole es h
  lying_whole (IsComponent is es) h = ((h.0.0, h.1.0), (h.0.1, h.1.1))
  lying_whole (IsModule m) h = tt
  lying_whole IsOwnModule h = tt

  pub all_whole : (es : Entries) → AllLie es → AreWhole es
  all_whole no_entry h = tt
  all_whole (entry name e mark es) h = (lying_whole e (h.0.0, h.1.0), all_whole es (h.0.1, h.1.1))

both_true : (a b : Bool) → (a && b) ≡ true → (a ≡ true) × (b ≡ true)
both_true true b h = (refl, h)
both_true false b h = absurd cc

mutual
  -- what is typed too can lie in memory
  pub typed_lies : (e : EntityTree) → is_typed e ≡ true → IsWhole e → Lies e
  typed_lies (IsType t) typed h = h
  typed_lies (IsFunc f) typed h = (h, tt)
  typed_lies (IsInstance es) typed h = all_typed_lie es typed h
  typed_lies (IsComponent is es) typed h = ((h.0.0, h.1.0), (h.0.1, h.1.1))
  typed_lies (IsModule m) typed h = (tt, tt)
  typed_lies IsOwnModule typed h = absurd cc

  all_typed_lie : (es : Entries) → are_typed es ≡ true → AreWhole es → AllLie es
  all_typed_lie no_entry typed h = (tt, tt)
  all_typed_lie (entry name e mark es) typed h =
      let both = both_true (is_typed e) (are_typed es) typed in
      let first = typed_lies e both.0 h.0 in
      let others = all_typed_lie es both.1 h.1 in
      ((first.0, others.0), (first.1, others.1))

-- in other names
pub all_lie_kept : (c : Change) (d : ℕ) (es : Entries) → AllLie es → AllLie (entries_by c d es)
all_lie_kept c d es h = (entries_kept c d es h.0, entries_shown c d es h.1)

mutual
  pub whole_kept : (c : Change) (d : ℕ) (e : EntityTree) → IsWhole e → IsWhole (entity_by c d e)
  whole_kept c d (IsType t) h = (type_kept c d t h.0, type_shown c d t h.1)
  whole_kept c d (IsFunc f) h = func_kept c d f h
  whole_kept c d (IsInstance es) h = all_whole_kept c d es h
  whole_kept c d (IsComponent is es) h = (all_lie_kept c (suc (suc d)) is h.0, all_lie_kept c (suc (suc d)) es h.1)
  whole_kept c d (IsModule m) h = tt
  whole_kept c d IsOwnModule h = tt

  pub all_whole_kept : (c : Change) (d : ℕ) (es : Entries) → AreWhole es → AreWhole (entries_by c d es)
  all_whole_kept c d no_entry h = tt
  all_whole_kept c d (entry name e mark es) h = (whole_kept c d e h.0, all_whole_kept c d es h.1)

-- what an instance exports under a name
pub under_whole : (name : List ℕ) (es : Entries) → AreWhole es → IfOk (item_or_fault (under name es)) (λ e. IsWhole e.0)
under_whole name no_entry h = tt
under_whole name (entry n e mark es) h = chosen (bytes_eq name n) (under_whole name es h.1)
  where
    chosen : (b : Bool) → IfOk (item_or_fault (under name es)) (λ e. IsWhole e.0) → IfOk (item_or_fault (if b then Some (e, mark) else under name es)) (λ e. IsWhole e.0)
    chosen true others = h.0
    chosen false others = others

-- ---- answers

module _ {X Y : Type 0} where
  pub then_ok : (P : X → Type 0) (Q : Y → Type 0) (r : Result X ShapeFault) (f : X → Result Y ShapeFault) → IfOk r P → ((x : X) → P x → IfOk (f x) Q) → IfOk (r >>= f) Q
  then_ok P Q (Ok x) f h next = next x h
  then_ok P Q (Err fault) f h next = tt

module _ {X : Type 0} where
  pub cond_ok : (P : X → Type 0) (b : Bool) (r : Result X ShapeFault) (fault : ShapeFault) → (b ≡ true → IfOk r P) → IfOk (if b then r else Err fault) P
  cond_ok P true r fault h = h refl
  cond_ok P false r fault h = tt

  pub not_ok : (P : X → Type 0) (b : Bool) (r : Result X ShapeFault) (fault : ShapeFault) → IfOk r P → IfOk (if b then Err fault else r) P
  not_ok P true r fault h = tt
  not_ok P false r fault h = h

  pub at_ok : (P : X → Type 0) (xs : List X) (i : ℕ) → AllByRecursion P xs → IfOk (at_index xs i) P
  at_ok P [] i h = tt
  at_ok P (x ∷ xs) zero h = h.0
  at_ok P (x ∷ xs) (suc i) h = at_ok P xs i h.1

  pub one_more : (P : X → Type 0) (xs : List X) (x : X) → AllByRecursion P xs → P x → AllByRecursion P (xs ++ x ∷ [])
  one_more P [] x h p = (p, tt)
  one_more P (y ∷ ys) x h p = (h.0, one_more P ys x h.1 p)

-- ---- scopes

abbrev pub StandsWhole : Standing → Type 0
StandsWhole e = IsWhole e.0

pub record AreWholeSpaces (s : Spaces) : Type 0 where
  pub modules : AllByRecursion StandsWhole s.modules
  pub funcs : AllByRecursion StandsWhole s.funcs
  pub types : AllByRecursion StandsWhole s.types
  pub components : AllByRecursion StandsWhole s.components
  pub instances : AllByRecursion StandsWhole s.instances

abbrev pub NamedLies : List ℕ × Standing → Type 0
NamedLies e = Lies e.1.0

pub record IsWholeScope (k : Known) : Type 0 where
  pub spaces : AreWholeSpaces k.spaces
  pub imports : AllByRecursion NamedLies k.imports
  pub exports : AllByRecursion NamedLies k.exports

pub placed_whole : (s : Spaces) (e : EntityTree) (named : Bool) → AreWholeSpaces s → IsWhole e → AreWholeSpaces (placed s e named)
placed_whole s (IsType t) named h w = record { modules = h.modules; funcs = h.funcs; types = one_more StandsWhole s.types (IsType t, named) h.types w; components = h.components; instances = h.instances }
placed_whole s (IsFunc f) named h w = record { modules = h.modules; funcs = one_more StandsWhole s.funcs (IsFunc f, named) h.funcs w; types = h.types; components = h.components; instances = h.instances }
placed_whole s (IsInstance es) named h w = record { modules = h.modules; funcs = h.funcs; types = h.types; components = h.components; instances = one_more StandsWhole s.instances (IsInstance es, named) h.instances w }
placed_whole s (IsComponent is es) named h w = record { modules = h.modules; funcs = h.funcs; types = h.types; components = one_more StandsWhole s.components (IsComponent is es, named) h.components w; instances = h.instances }
placed_whole s (IsModule m) named h w = record { modules = one_more StandsWhole s.modules (IsModule m, named) h.modules w; funcs = h.funcs; types = h.types; components = h.components; instances = h.instances }
placed_whole s IsOwnModule named h w = record { modules = one_more StandsWhole s.modules (IsOwnModule, named) h.modules w; funcs = h.funcs; types = h.types; components = h.components; instances = h.instances }

pub added_whole : (b : Bounds) (s : Spaces) (e : EntityTree) (named : Bool) → AreWholeSpaces s → IsWhole e → IfOk (added b s e named) AreWholeSpaces
unfolding added
added_whole b s e named h w =
    cond_ok _ (is_within b.depth (depth_of e)) _ _ (λ _. cond_ok _ (is_within b.nodes (entity_nodes e)) _ _ (λ _. placed_whole s e named h w))

-- the entries of what lies, in order
pub entries_lie : (es : List (List ℕ × Standing)) → AllByRecursion NamedLies es → AllLie (entries_in es)
entries_lie [] h = (tt, tt)
entries_lie (e ∷ es) h =
    let others = entries_lie es h.1 in
    ((h.0.0, others.0), (h.0.1, others.1))

abbrev pub NamedWhole : List ℕ × Standing → Type 0
NamedWhole e = IsWhole e.1.0

pub entries_whole : (es : List (List ℕ × Standing)) → AllByRecursion NamedWhole es → AreWhole (entries_in es)
entries_whole [] h = tt
entries_whole (e ∷ es) h = (h.0, entries_whole es h.1)
