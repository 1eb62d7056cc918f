-- What stands in a scope further out, before it is put into the index spaces of the scope within.
use Rattle.std.specs.Prelude.{◌≡◌, ℕ, Bool, true, false, List, Result, Ok, Err, if◌then◌else◌}
use Rattle.warg_values.specs.Reading.{◌>>=◌}
use Rattle.comp_format.specs.declared.types.CoreSort.TheVariants as core
use Rattle.comp_format.specs.declared.types.Sort.{Sort}
use Rattle.comp_format.specs.declared.types.Sort.TheVariants as sort
use Rattle.comp_entity.specs.Bounds.{ShapeFault, Index}
use Rattle.comp_scope.specs.Aliases as scope
use Rattle.comp_scope.specs.Aliases.{outer_scope, may_pass, from_outside}
use Rattle.comp_scope.specs.Spaces.{Spaces, Standing, standing}
use Rattle.comp_declare.specs.declared.outer.Outer.{Outer}
use Rattle.comp_space.specs.declared.space.Space.{Space}
use Rattle.comp_space.specs.SpaceViews.{ShowsSpaces}
use Rattle.comp_space.specs.Standings.{Pairwise}
use Rattle.comp_table.specs.Trees.{PlainTree}

-- the scopes that are open, from the innermost
abbrev pub AllShowSpaces : List PlainTree → List Space → List Spaces → Type 0
AllShowSpaces table spaces ss = Pairwise (ShowsSpaces table) spaces ss

-- each shows some index spaces
abbrev pub AreSpaces : List PlainTree → List Space → Type 0
AreSpaces table spaces = (ss : List Spaces) × AllShowSpaces table spaces ss

-- how many scopes of names a scope is
abbrev pub width_of : Space → ℕ
width_of space = if space.is_closed then 2 else 1

-- a scope further out, seen from within
pub record ShowsOuter (table : List PlainTree) (outer : Outer) (o : scope.Outer) : Type 0 where
  pub spaces : ShowsSpaces table outer.space.now o.spaces
  pub distance_is : outer.distance ≡ o.distance
  pub leaves_is : outer.leaves_component ≡ o.leaves_component

-- an item of an outer scope in the names of the innermost, with its naming bit
abbrev pub standing_outside : List Spaces → Sort → ℕ → ℕ → Result Standing ShapeFault
standing_outside scopes kind count index =
    outer_scope scopes count >>= λ outer. standing outer.spaces kind index >>= λ e.
    if may_pass outer.leaves_component e.0 then Ok (from_outside outer.distance e.0, e.1) else Err Index

-- core types are of this sort
abbrev pub is_core_type : Sort → Bool
is_core_type (sort.Core core.Ty) = true
is_core_type _ = false
