-- What all registries sign is accepted.
use Rattle.std.proofs.Common.{◌++◌, ℕ, List, [], ◌∷◌, sym, subst, append_assoc}
use Rattle.std.specs.List.{AllByRecursion, flat_map}
use Rattle.std.specs.List.Sorted.{IsPermutation}
use Rattle.warg_model.specs.Held.{Held, AcceptsSigned, signatures_of}
use Rattle.warg_model.specs.Signatures.{accepted_of}
use Rattle.warg_vectors.specs.World.{Named}

abbrev Signatures : Type 0
Signatures = List (List ℕ × List ℕ × List ℕ)

abbrev signed_by_all : List Named → Signatures
signed_by_all registries = flat_map (λ r. signatures_of r.held) registries

module _ (law : (h : Held) (before after listed : Signatures) → IsPermutation (before ++ (signatures_of h ++ after)) listed → AcceptsSigned (accepted_of listed) h) where
  pub each-accepted : (listed before : Signatures) (registries : List Named) → IsPermutation (before ++ signed_by_all registries) listed → AllByRecursion (λ r. AcceptsSigned (accepted_of listed) r.held) registries
  each-accepted listed before [] same = tt
  each-accepted listed before (r ∷ registries) same = (
    law r.held before (signed_by_all registries) listed same,
    each-accepted listed (before ++ signatures_of r.held) registries (subst (λ (l : Signatures). IsPermutation l listed) (sym (append_assoc before (signatures_of r.held) (signed_by_all registries))) same),
  )
