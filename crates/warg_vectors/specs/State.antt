-- What clauses see of registries.
use Rattle.std.specs.Prelude.{◌≡◌, ℕ, List, map, Some, IfSome}
use Rattle.std.specs.List.{AllByRecursion}
use Rattle.sha2.specs.Sha256.{sha256}
use Rattle.warg_exchange.specs.declared.checkpoint.SignedCheckpoint.{SignedCheckpoint}
use Rattle.warg_model.specs.Held.{registry_of}
use Rattle.warg_model.specs.Hashes.{AreHashesBelow}
use Rattle.warg_model.specs.State.{held, IsSound as IsSoundRegistry}
use Rattle.warg_vectors.specs.World.{Named, World}
use Rattle.warg_vectors.specs.declared.registry.NamedRegistry.{NamedRegistry}
use Rattle.warg_vectors.specs.declared.registry.Content.{Content}
use Rattle.warg_vectors.specs.declared.registry.ModelRegistry.{ModelRegistry}

abbrev pub named_view : NamedRegistry → Named
named_view r = record { name = r.name; held = held r.registry }

abbrev pub content_view : Content → List ℕ × List ℕ
content_view c = (c.digest, c.bytes)

-- the registries and the contents
abbrev pub world : ModelRegistry → World
world m = record { registries = map named_view m.registries.items; contents = map content_view m.contents.items }

-- a registry is one of its key, and its hashes are those below its last checkpoint
pub record IsSoundNamed (r : NamedRegistry) : Type 0 where
  pub model : IsSoundRegistry r.registry
  pub hashes : (c : SignedCheckpoint) → (held r.registry).latest ≡ Some c
      → IfSome r.hashes (AreHashesBelow (registry_of (held r.registry)) c.contents.log_length)

-- so is each registry, and each content has its digest
pub record IsSound (m : ModelRegistry) : Type 0 where
  pub registries : AllByRecursion IsSoundNamed m.registries.items
  pub contents : AllByRecursion (λ c. c.digest ≡ sha256 c.bytes) m.contents.items
