-- The component that a plan makes, and why none is made.
use Rattle.std.specs.Prelude.{◌≡◌, ◌⊎◌, ℕ, ◌<◌, ◌^◌, Bool, true, false, List, map, Option, Some}
use Rattle.compose_bundle.specs.Bundled.{IsBundled}
use Rattle.compose_bundle.specs.Refusing.{IsTooLarge}
use Rattle.compose_bundle.specs.Whole.{IsWholeBundle}
use Rattle.compose_check.specs.Composition.{CompositionTree}
use Rattle.compose_check.specs.declared.error.CheckError.TheVariants as check
use Rattle.compose_encode.specs.Encoded.{IsOfWritten}
use Rattle.compose_encode.specs.Whole.{CanBeEncoded, IsRefusedBy, IsTooLargeIn, IsWhole}
use Rattle.compose_order.specs.Needs.{LeftTree}
use Rattle.warg_plan.specs.Walk.{Entry}
use Rattle.warg_compose.specs.Composed.{IsComposed, content_of, root_of}
use Rattle.warg_compose.specs.Open.{IsAllowed, first_open}
use Rattle.warg_compose.specs.Wired.{AreWired}
use Rattle.warg_compose.specs.declared.lock.Lock.{Lock}
use Rattle.warg_compose.specs.declared.error.ComposeError.{ComposeError}
use Rattle.warg_compose.specs.declared.error.ComposeError.TheVariants as error

-- The lock is a plan's: its composition with its components imported. The wires fit, and what is left open agrees. The
-- names are those of what is left open, in the order in which the lock imports it. The lock has exactly one reading,
-- whose link image is the composition's with the components imported, with what the root exports.
pub record IsPlanLocked (es : List Entry) (left : List (List ℕ)) (lock : List ℕ) : Type 0 where
  pub composition : CompositionTree
  pub composed : IsComposed es composition
  pub locked : IsWhole composition false (root_of es) lock
  pub open_names : left ≡ map (λ (l : LeftTree). l.name) locked.lefts

-- The lock and the names are a plan's, and the bytes are the lock, bundled with the contents of the releases. They have
-- exactly one reading too, whose link image is that of the lock, but with the components defined.
pub record IsPlanLinked (es : List Entry) (left : List (List ℕ)) (lock bytes : List ℕ) : Type 0 where
  pub composition : CompositionTree
  pub composed : IsComposed es composition
  pub locked : IsWhole composition false (root_of es) lock
  pub open_names : left ≡ map (λ (l : LeftTree). l.name) locked.lefts
  pub bundled : IsBundled (content_of es) lock bytes
  pub whole : IsWholeBundle composition (root_of es) locked.order bytes

-- A plan that can be linked: no import is left open that is disallowed, its composition can be encoded with its components
-- imported, each number of that is below 2 ^ 32, and so is each number of what it is bundled as.
pub record IsLinkable (disallow : Bool) (es : List Entry) : Type 0 where
  pub allowed : IsAllowed disallow es
  pub composition : CompositionTree
  pub composed : IsComposed es composition
  pub order : List ℕ
  pub lefts : List LeftTree
  pub possible : CanBeEncoded composition false (root_of es) order lefts
  pub small : (n : ℕ) → IsOfWritten n composition false (root_of es) order lefts → n < 2 ^ 32
  pub bundle_small : (lock : List ℕ) (n : ℕ) → IsWhole composition false (root_of es) lock
      → IsTooLarge n (content_of es) lock → ⊥

-- A plan that can be locked: the same of its lock alone.
pub record IsLockable (disallow : Bool) (es : List Entry) : Type 0 where
  pub allowed : IsAllowed disallow es
  pub composition : CompositionTree
  pub composed : IsComposed es composition
  pub order : List ℕ
  pub lefts : List LeftTree
  pub possible : CanBeEncoded composition false (root_of es) order lefts
  pub small : (n : ℕ) → IsOfWritten n composition false (root_of es) order lefts → n < 2 ^ 32

-- ---- by the composition

-- a composition is that of a plan whose root is this instance
pub record IsOfPlan (c : CompositionTree) (root : Option ℕ) : Type 0 where
  pub entries : List Entry
  pub wired : AreWired entries
  pub composed : IsComposed entries c
  pub rooted : root ≡ root_of entries

-- the lock of a composition, with the names of what is left open
pub record IsLock (c : CompositionTree) (root : Option ℕ) (lock : Lock) : Type 0 where
  pub whole : IsWhole c false root lock.bytes.items
  pub open_names : lock.left.items ≡ map (λ (l : LeftTree). l.name) whole.lefts

-- why there is no lock of a composition
abbrev pub IsUnlocked : CompositionTree → Option ℕ → ComposeError → Type 0
IsUnlocked c root (error.ImportsDisallowed name) = ⊥
IsUnlocked c root (error.Incompatible why) = IsRefusedBy c false root (check.Incompatible why)
IsUnlocked c root (error.TooLarge number) = IsTooLargeIn c false root number
IsUnlocked c root error.Memory = Unit {0}

-- why a lock is not bundled
abbrev pub IsUnbundled : (List ℕ → Option (List ℕ)) → List ℕ → ComposeError → Type 0
IsUnbundled content lock (error.ImportsDisallowed name) = ⊥
IsUnbundled content lock (error.Incompatible why) = ⊥
IsUnbundled content lock (error.TooLarge number) = IsTooLarge number content lock
IsUnbundled content lock error.Memory = Unit {0}

-- ---- refusals, each with what held of those before it

-- an import is left open, of which this is the first, and none may be
pub record IsDisallowed (disallow : Bool) (es : List Entry) (name : List ℕ) : Type 0 where
  pub disallowed : disallow ≡ true
  pub first : first_open es ≡ Some name

-- a number is one of what the lock of a composition is bundled as, and can't be written
pub record IsTooLargeBundled (es : List Entry) (c : CompositionTree) (number : ℕ) : Type 0 where
  pub lock : List ℕ
  pub locked : IsWhole c false (root_of es) lock
  pub large : IsTooLarge number (content_of es) lock

-- for a plan's composition, and what it leaves open may be left open
pub record IsOfComposition (disallow : Bool) (es : List Entry) (P : CompositionTree → Type 0) : Type 0 where
  pub allowed : IsAllowed disallow es
  pub composition : CompositionTree
  pub composed : IsComposed es composition
  pub holds : P composition

-- why a plan is not locked. Want of memory says nothing
abbrev pub IsLockFault : Bool → ComposeError → List Entry → Type 0
IsLockFault disallow (error.ImportsDisallowed name) es = IsDisallowed disallow es name
IsLockFault disallow (error.Incompatible why) es =
    IsOfComposition disallow es (λ c. IsRefusedBy c false (root_of es) (check.Incompatible why))
IsLockFault disallow (error.TooLarge number) es =
    IsOfComposition disallow es (λ c. IsTooLargeIn c false (root_of es) number)
IsLockFault disallow error.Memory es = Unit {0}

-- why a plan is not linked. Want of memory says nothing
abbrev pub IsComposeFault : Bool → ComposeError → List Entry → Type 0
IsComposeFault disallow (error.ImportsDisallowed name) es = IsDisallowed disallow es name
IsComposeFault disallow (error.Incompatible why) es =
    IsOfComposition disallow es (λ c. IsRefusedBy c false (root_of es) (check.Incompatible why))
IsComposeFault disallow (error.TooLarge number) es =
    IsOfComposition disallow es (λ c. IsTooLargeIn c false (root_of es) number ⊎ IsTooLargeBundled es c number)
IsComposeFault disallow error.Memory es = Unit {0}
