-- The plan of the demo world, assembled over its registries.
use Rattle.std.specs.Prelude.{◌≡◌, ◌⊎◌, ℕ, List}
use Rattle.std.specs.List.Sorted.{IsPermutation}
use Rattle.warg_plan.specs.Walk.{Entry}
use Rattle.warg_replay.specs.Anew.{IsAssembledAnew, IsRefusedAnew, accepts_listed}
use Rattle.warg_replay.specs.ClientError.{ClientError}
use Rattle.warg_replay.specs.ClientError.TheVariants as error
use Rattle.warg_vectors.specs.State.{IsSound, world}
use Rattle.warg_vectors.specs.Steps.{IsStep}
use Rattle.warg_vectors.specs.World.{signatures_in}
use Rattle.warg_vectors.specs.declared.registry.ModelRegistry.{ModelRegistry}
use Rattle.warg_demo.specs.World.{demo_registries, demo_text}

-- a public key, the digest of what was signed, and the signature
abbrev pub Listed : Type 0
Listed = List ℕ × List ℕ × List ℕ

-- registries that hold the demo world, and what they have signed, in some order
pub record HoldsDemo (seed count : ℕ) (registries : ModelRegistry) (listed : List Listed) : Type 0 where
  pub holds : world registries ≡ demo_registries seed count
  pub sound : IsSound registries
  pub signed : IsPermutation (signatures_in (demo_registries seed count)) listed

-- By exchanges with registries that hold the demo world, which prove the logs of its packages by what they have signed, these
-- entries are the plan of its text, and these bytes the component of the plan; the lock leaves imports of these names open.
pub record IsDemonstrated (seed count : ℕ) (entries : List Entry) (left : List (List ℕ)) (lock bytes : List ℕ) : Type 0 where
  pub registries : ModelRegistry
  pub listed : List Listed
  pub holds : HoldsDemo seed count registries listed
  pub assembled : IsAssembledAnew IsStep (accepts_listed listed) registries demo_text entries left lock bytes

-- a client that has kept nothing refuses the text over such registries
pub record IsUndemonstrated (seed count : ℕ) (e : ClientError) : Type 0 where
  pub registries : ModelRegistry
  pub listed : List Listed
  pub holds : HoldsDemo seed count registries listed
  pub refused : IsRefusedAnew IsStep (accepts_listed listed) registries e demo_text

-- why nothing is assembled. Want of memory says nothing
abbrev pub IsDemoFault : (seed count : ℕ) → ClientError → Type 0
IsDemoFault seed count e = (e ≡ error.Memory) ⊎ IsUndemonstrated seed count e
