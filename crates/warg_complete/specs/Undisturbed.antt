-- Searches in whose way nothing stands.
use Rattle.std.specs.Prelude.{◌+◌, ◌≤◌, ℕ, List, [], ◌∷◌}
use Rattle.std.specs.List.{AllByRecursion, flat_map}
use Rattle.warg_values.specs.Faults.{Rose}
use Rattle.warg_exchange.specs.Requests.{Asker}
use Rattle.warg_request.specs.Asking.{CanAsk}
use Rattle.warg_api.specs.Link.{Asked}
use Rattle.warg_course.specs.Refusals.{IsUnanswered}
use Rattle.warg_store.specs.Held.{Registry}
use Rattle.warg_assemble.specs.Parts.{Loaded, Part, Updated, exchanges_in}
use Rattle.warg_learn.specs.Learnt.{pages_of_part}
use Rattle.warg_learn.specs.Seen.{Seen, ReadsStores}

-- the registry that a part asks
abbrev pub registry_in : Part → Registry
registry_in (Updated u) = u.registry
registry_in (Loaded l) = l.registry

-- how many pages of logs these parts asked for
abbrev pub pages_of_parts : (Registry → Asker) → List Part → ℕ
pages_of_parts asker [] = 0
pages_of_parts asker (p ∷ ps) = pages_of_part asker p + pages_of_parts asker ps

module _ {T D : Type 0} (old new : Seen T D) where
  -- Between two moments no call of a store failed; and the operators and checkpoints that were held, and the names of
  -- namespaces, can be read.
  pub record AreSteady : Type 0 where
    pub registries : ¬ Rose old.faults.registries new.faults.registries
    pub contents : ¬ Rose old.faults.contents new.faults.contents
    pub names : ¬ Rose old.faults.names new.faults.names
    pub reads : ReadsStores old

module _ {T D : Type 0} (parts : List Part) (old new : Seen T D) where
  -- The stores stand in the way of nothing, and neither does anything else, of what these parts ask: the token and each
  -- registry's name are values of headers, and at least as many pages may be asked for as they ask for.
  pub record IsUndisturbed : Type 0 where
    pub stores : AreSteady old new
    pub can_ask : AllByRecursion (λ p. CanAsk (old.asker (registry_in p))) parts
    pub pages : pages_of_parts old.asker parts ≤ old.pages_left

  -- the link gave no reply to a request of these parts, and has counted that
  pub record IsUnreplied (Steps : T → Asked → T → Type 0) : Type 0 where
    pub unanswered : IsUnanswered Steps (flat_map exchanges_in parts) old.transcript.link new.transcript.link
    pub rose : Rose old.faults.link new.faults.link
