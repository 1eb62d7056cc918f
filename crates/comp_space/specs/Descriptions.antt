-- What descriptions describe, by numbers of a table.
use Rattle.std.specs.Prelude.{◌≡◌, ℕ, List, true}
use Rattle.comp_scope.specs.Descriptions as scope
use Rattle.comp_space.specs.declared.descriptions.Described.{Described}
use Rattle.comp_space.specs.SpaceViews.{counts}
use Rattle.comp_space.specs.Standings.{Shows}
use Rattle.comp_table.specs.Plain.{plain_entity}
use Rattle.comp_table.specs.Trees.{PlainTree}

-- the number stands for what is described, and as many names are new
pub record ShowsDescribed (table : List PlainTree) (described : Described) (d : scope.Described) : Type 0 where
  pub standing : Shows plain_entity table described.standing d.standing
  pub brings : counts described.brings ≡ d.brings

-- an entity of this number, which has the naming bit, without new names
abbrev pub plainly : ℕ → Described
plainly number = record { standing = record { number = number; named = true }; brings = record { resources = 0; places = 0 } }
