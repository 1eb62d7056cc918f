-- What is assembled over the demo world, and why nothing is.
use Rattle.std.proofs.Common.{◌≡◌, ◌⊎◌, inl, inr, ℕ, List, subst}
use Rattle.warg_plan.specs.Walk.{Entry}
use Rattle.warg_replay.specs.Anew.{IsAnewFault, IsAssembledAnew, IsRefusedAnew, accepts_listed}
use Rattle.warg_replay.specs.ClientError.{ClientError}
use Rattle.warg_vectors.specs.Steps.{IsStep}
use Rattle.warg_vectors.specs.declared.registry.ModelRegistry.{ModelRegistry}
use Rattle.warg_demo.specs.Demonstrated.{HoldsDemo, IsDemoFault, IsDemonstrated, Listed}
use Rattle.warg_demo.specs.World.{demo_text}

module _ (seed count : ℕ) (registries : ModelRegistry) (listed : List Listed) (holds : HoldsDemo seed count registries listed) (text : List ℕ) (is : text ≡ demo_text) where
  pub demonstrated : (entries : List Entry) (left : List (List ℕ)) (lock bytes : List ℕ) → IsAssembledAnew IsStep (accepts_listed listed) registries text entries left lock bytes → IsDemonstrated seed count entries left lock bytes
  demonstrated entries left lock bytes made = record {
    registries = registries;
    listed = listed;
    holds = holds;
    assembled = subst (λ t. IsAssembledAnew IsStep (accepts_listed listed) registries t entries left lock bytes) is made;
  }

  pub undemonstrated : (e : ClientError) → IsAnewFault IsStep (accepts_listed listed) registries e text → IsDemoFault seed count e
  undemonstrated e (inl memory) = inl memory
  undemonstrated e (inr refused) = inr (record {
    registries = registries;
    listed = listed;
    holds = holds;
    refused = subst (λ t. IsRefusedAnew IsStep (accepts_listed listed) registries e t) is refused;
  })
