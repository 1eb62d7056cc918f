-- Laws of resources that a scope makes.
use Rattle.std.specs.Prelude.{◌≡◌, Bool, true, false, cond, List, Result, Ok, Err, refl}
use Rattle.warg_values.specs.Reading.{◌>>=◌}
use Rattle.comp_define.specs.ScopeTypes.{next_resource}
use Rattle.comp_entity.specs.Bounds.{ShapeFault, TooDeep, TooBig, bounded, depth_of, entity_nodes, is_within}
use Rattle.comp_entity.specs.Names as names
use Rattle.comp_scope.specs.Spaces.{Spaces, added, counts_sum, placed}
use Rattle.comp_scope.specs.Types.{with_resource}
use Rattle.comp_space.specs.declared.space.Counts.{Counts}
use Rattle.comp_space.specs.declared.space.Space.{Space}
use Rattle.comp_space.specs.SpaceViews.{ShowsSpaces, counts}
use Rattle.comp_table.specs.Trees.{PlainTree}

-- what a scope has made with one resource more
abbrev pub one_made : Spaces → names.Counts
one_made s = counts_sum s.made (record { resources = 1; places = 0 })

abbrev within_bounds : {X : Type 0} → Bool → Bool → X → Result X ShapeFault
within_bounds deep large x = cond deep (cond large (Ok x) (Err TooBig)) (Err TooDeep)

goes_on : {X Y : Type 0} (f : X → Y) (deep large : Bool) (x : X) → within_bounds deep large (f x) ≡ (within_bounds deep large x >>= λ y. Ok (f y))
goes_on f true true x = refl
goes_on f true false x = refl
goes_on f false large x = refl

-- the resource may be put behind the others before it is counted
pub counted_behind : (s : Spaces) → with_resource bounded s ≡ (added bounded s (next_resource s) false >>= λ u. Ok (record u { made = one_made s }))
unfolding added
counted_behind s = goes_on (λ (u : Spaces). record u { made = one_made s }) (is_within bounded.depth (depth_of (next_resource s))) (is_within bounded.nodes (entity_nodes (next_resource s))) (placed s (next_resource s) false)

-- other counts
pub shows_made : (ts : List PlainTree) (space : Space) (s : Spaces) (c : Counts) (n : names.Counts) → counts c ≡ n → ShowsSpaces ts space s → ShowsSpaces ts (record space { made = c }) (record s { made = n })
shows_made ts space s c n is shows = record {
  is_closed = shows.is_closed;
  core = shows.core;
  core_types = shows.core_types;
  modules = shows.modules;
  funcs = shows.funcs;
  types = shows.types;
  components = shows.components;
  instances = shows.instances;
  brought = shows.brought;
  made = is;
}
