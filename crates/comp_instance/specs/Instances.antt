-- Instances of components, by numbers of a table.
use Rattle.std.specs.Prelude.{◌≡◌, ℕ, Bool, true, false, List, Result, Ok, Err, if◌then◌else◌}
use Rattle.warg_values.specs.Reading.{◌>>=◌}
use Rattle.comp_entity.specs.Bounds.{ShapeFault, Index, DoesNotFit}
use Rattle.comp_entity.specs.Entity.{Name, EntityTree, IsInstance, IsComponent, Entries}
use Rattle.comp_entity.specs.Fits.{all_stand}
use Rattle.comp_entity.specs.Names.{counts_at, entries_by}
use Rattle.comp_format.specs.declared.types.Arg.{Arg}
use Rattle.comp_instance.specs.declared.instances.NewCounts.{NewCounts}
use Rattle.comp_instance.specs.declared.instances.Sides.{Sides}
use Rattle.comp_instance.specs.declared.instantiating.Instantiating.{Instantiating}
use Rattle.comp_instance.specs.Renamed.{component_place, component_resource}
use Rattle.comp_scope.specs.Descriptions.{Described}
use Rattle.comp_scope.specs.Instances.{arguments_fit, given, instantiating, mentions_of, place_in, resource_in}
use Rattle.comp_scope.specs.Spaces.{Spaces, at_index, counts_sum, entries_in}
use Rattle.comp_space.specs.declared.space.Counts.{Counts}
use Rattle.comp_space.specs.SpaceViews.{counts}
use Rattle.comp_table.specs.declared.head.Head.{Head}
use Rattle.comp_table.specs.declared.head.Head.TheVariants as head
use Rattle.comp_table.specs.Plain.{plain_entity, plain_entries}
use Rattle.comp_table.specs.Trees.{PlainTree, Stands, tree}

abbrev pub is_component : Head → Bool
is_component head.Component = true
is_component _ = false

-- what a component imports, and what it exports
abbrev pub sides_in : EntityTree → Result (Entries × Entries) ShapeFault
sides_in (IsComponent imports exports) = Ok (imports, exports)
sides_in _ = Err Index

-- the numbers stand for these imports and exports, as lists
pub record AreHalves (table : List PlainTree) (sides : Sides) (x : Entries × Entries) : Type 0 where
  pub imports : Stands table sides.imports (tree head.Entries (plain_entries x.0))
  pub exports : Stands table sides.exports (tree head.Entries (plain_entries x.1))

-- the same as the exports of instances
pub record AreSides (table : List PlainTree) (sides : Sides) (x : Entries × Entries) : Type 0 where
  pub imports : Stands table sides.imports (plain_entity (IsInstance x.0))
  pub exports : Stands table sides.exports (plain_entity (IsInstance x.1))

-- as many names a component makes, and as many are new in an instance of it
pub record ShowsNewCounts (new : NewCounts) (imports exports : Entries) : Type 0 where
  pub makes : counts new.makes ≡ counts_at 0 (mentions_of imports exports)
  pub all : counts new.all
      ≡ counts_sum (counts_at 0 (mentions_of imports exports)) (counts_at 1 (mentions_of imports exports))

-- names of a component are called so in a scope in which it is instantiated
pub record ShowsInstantiating (r : Instantiating) (s : Spaces) (makes : Counts) (given asked : Entries) : Type 0 where
  pub resources : (n : Name) → component_resource r n ≡ resource_in s (counts makes) (all_stand given asked) n
  pub places : (n : Name) → component_place r n ≡ place_in s (counts makes) (all_stand given asked) n

-- an instance of a component with these arguments, and how many names are new in it
abbrev pub component_instance : Spaces → Entries → Entries → Entries → Result Described ShapeFault
component_instance s imports exports arguments =
    if arguments_fit (instantiating s imports exports arguments) arguments imports
    then Ok (record {
      standing = (IsInstance (entries_by (instantiating s imports exports arguments) 0 exports), true);
      brings = counts_sum (counts_at 0 (mentions_of imports exports)) (counts_at 1 (mentions_of imports exports));
    })
    else Err DoesNotFit

-- the same of the component of an index
abbrev pub instance_at : Spaces → ℕ → List Arg → Result Described ShapeFault
instance_at s component args =
    at_index s.components component >>= λ c. given s args >>= λ arguments. sides_in c.0 >>= λ sides.
    component_instance s sides.0 sides.1 (entries_in arguments)
