-- The growth of a registry by a checkpoint.
use Rattle.std.specs.Prelude.{◌≡◌, [], ◌∷◌, ◌++◌, length}
use Rattle.warg_model.specs.declared.growth.Growth.{Growth}
use Rattle.warg_model.specs.Hashes.{AreHashesBelow}
use Rattle.warg_model.specs.Held.{Held, registry_of, present, checkpoint_by}

-- it has the checkpoint of all records behind those that were made, signed by the key, and their hashes
pub record IsGrowthOf (h : Held) (g : Growth) : Type 0 where
  pub checkpoints : g.checkpoints.items ≡ h.checkpoints ++ present h ∷ []
  pub latest : g.latest ≡ checkpoint_by h.key (present h)
  pub hashes : AreHashesBelow (registry_of h) (length (registry_of h).entries) g.hashes
