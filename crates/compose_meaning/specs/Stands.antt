-- The invariant of writing: what the declarations of scopes stand for, however the scopes around them grow, and that
-- what each scope knows stands where it is known.
use Rattle.std.specs.Prelude.{◌≡◌, ◌⊎◌, ℕ, zero, suc, ◌+◌, Bool, true, false, List, [], ◌∷◌, length, map, Option, Some, None, Ok, slice_get, option_map, option_and_then}
use Rattle.comp_entity.specs.Entity.{Value, EntityTree, IsType, IsInstance, Entries}
use Rattle.comp_entity.specs.Names.{deeper, Mention, OfResource, OfPlace, mentions_resource}
use Rattle.comp_entity.specs.Fits.{under}
use Rattle.comp_entity.specs.Places.{Path}
use Rattle.comp_entity.specs.Bounds.{unbounded}
use Rattle.comp_scope.specs.Spaces.{KnownCoreType, Spaces, Known, Standing, nothing_known}
use Rattle.comp_scope.specs.Aliases.{width}
use Rattle.comp_scope.specs.Types.{with_decls}
use Rattle.compose_writing.specs.Keys.{At, Index, InInstance, known_at, mention_outside}
use Rattle.compose_writing.specs.Scopes.{WrittenScope}
use Rattle.compose_meaning.specs.Meaning.{Meant, Means}

-- ---- scopes that grow

-- index spaces with more types, core types and instances, where those that were there stand as they did
pub record Grown (s later : Spaces) : Type 0 where
  pub types : (i : ℕ) (e : Standing) → slice_get s.types i ≡ Some e → slice_get later.types i ≡ Some e
  pub instances : (i : ℕ) (e : Standing) → slice_get s.instances i ≡ Some e → slice_get later.instances i ≡ Some e
  pub core_types : (i : ℕ) (t : KnownCoreType) → slice_get s.core_types i ≡ Some t
      → slice_get later.core_types i ≡ Some t
  pub is_closed : later.is_closed ≡ s.is_closed

abbrev pub AllGrown : List Spaces → List Spaces → Type 0
AllGrown [] [] = Unit {0}
AllGrown (s ∷ ss) (t ∷ ts) = Grown s t × AllGrown ss ts
AllGrown [] (t ∷ ts) = ⊥
AllGrown (s ∷ ss) [] = ⊥

-- ---- what is written

abbrev pub spaces_of : List Known → List Spaces
spaces_of ks = map (λ k. k.spaces) ks

-- Within these scopes and any into which they grow, the declarations of a scope stand for this, and the scope counts
-- its types, instances and core types as they are.
pub record Stands (m : WrittenScope) (k : Known) (around : List Spaces) : Type 0 where
  pub reads : (outer : List Spaces) → AllGrown around outer
      → with_decls unbounded outer (nothing_known k.spaces.is_closed) m.decls ≡ Ok k
  pub types : m.types ≡ length k.spaces.types
  pub instances : m.instances ≡ length k.spaces.instances
  pub core_types : m.core_types ≡ length k.spaces.core_types

-- scopes from the innermost
abbrev pub AllStand : List WrittenScope → List Known → Type 0
AllStand [] [] = Unit {0}
AllStand (m ∷ ms) (k ∷ ks) = Stands m k (spaces_of ks) × AllStand ms ks
AllStand [] (k ∷ ks) = ⊥
AllStand (m ∷ ms) [] = ⊥

-- ---- what is known

abbrev pub exports_of : Standing → Option Entries
exports_of (IsInstance es, named) = Some es
exports_of _ = None

-- what stands at the end of a path of names from the exports of an instance
abbrev pub at_path : Path → Entries → Option Standing
at_path [] es = None
at_path (name ∷ []) es = under name es
at_path (name ∷ next ∷ names) es =
    option_and_then (λ s. option_and_then (at_path (next ∷ names)) (exports_of s)) (under name es)

abbrev pub at_place : Spaces → At → Option Standing
at_place s (Index i) = slice_get s.types i
at_place s (InInstance from path) =
    option_and_then (λ i. option_and_then (at_path path) (exports_of i)) (slice_get s.instances from)

-- a mention, as it is made so many scopes further in
abbrev pub inward : ℕ → Mention → Mention
inward width (OfResource n) = OfResource (deeper width n)
inward width (OfPlace n) = OfPlace (deeper width n)

-- what mentions mean, where they are made in a scope further out
abbrev pub further_out : ℕ → (Mention → Meant) → Mention → Meant
further_out width means key = means (inward width key)

-- what a scope knows stands where it is known. The scope is so far out of the one whose names are used.
abbrev pub Knows : ℕ → (Mention → Meant) → WrittenScope → Known → Type 0
Knows distance means m k = (key : Mention) (at : At) → known_at m.known key ≡ Some at
    → (s : Standing) × (at_place k.spaces at ≡ Some s) × Means distance (means key) s

abbrev pub AllKnow : ℕ → (Mention → Meant) → List WrittenScope → List Known → Type 0
AllKnow distance means [] [] = Unit {0}
AllKnow distance means (m ∷ ms) (k ∷ ks) =
    Knows distance means m k × AllKnow (distance + width k.spaces) (further_out m.width means) ms ks
AllKnow distance means [] (k ∷ ks) = ⊥
AllKnow distance means (m ∷ ms) [] = ⊥

-- Scopes that are written stand for these, from the innermost, and know what things mean in the innermost.
pub record Kept (distance : ℕ) (means : Mention → Meant) (ms : List WrittenScope) (ks : List Known) : Type 0 where
  pub stand : AllStand ms ks
  pub know : AllKnow distance means ms ks

-- ---- what may be brought in

-- how many scopes further out a thing is known
abbrev pub reach_in : Option At → Option ℕ → Option ℕ
reach_in (Some at) further = Some 0
reach_in None further = option_map suc further

unfoldable pub reach : List WrittenScope → Mention → Option ℕ
reach [] key = None
reach (m ∷ ms) key = reach_in (known_at m.known key) (option_and_then (reach ms) (mention_outside m.width key))

-- So many scopes out of the innermost, no component and no type of components is left.
abbrev pub StaysWithin : ℕ → List Known → Type 0
StaysWithin zero ks = Unit {0}
StaysWithin (suc up) [] = Unit {0}
StaysWithin (suc up) (k ∷ ks) = (k.spaces.is_closed ≡ false) × StaysWithin up ks

-- a value type that mentions no resource
abbrev pub IsFree : EntityTree → Type 0
IsFree (IsType (Value t)) = mentions_resource (Value t) ≡ false
IsFree _ = ⊥

-- What may be mentioned is known without a component being left, or is a value type that mentions no resource.
abbrev pub MayBring : (Mention → Bool) → (Mention → Meant) → List WrittenScope → List Known → Type 0
MayBring may means ms ks = (key : Mention) (up : ℕ) → may key ≡ true → reach ms key ≡ Some up
    → StaysWithin up ks ⊎ IsFree (means key).entity
