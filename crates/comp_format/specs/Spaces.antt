-- The index spaces of a component: one for each sort (Component Model, Explainer.md, "Index Spaces").
use Rattle.std.specs.Prelude.{ℕ}
use Rattle.comp_format.specs.declared.types.CoreSort.{CoreSort}
use Rattle.comp_format.specs.declared.types.CoreSort.TheVariants as core
use Rattle.comp_format.specs.declared.types.Sort.{Sort}
use Rattle.comp_format.specs.declared.types.Sort.TheVariants as sort

-- each index space by a number
abbrev pub core_space : CoreSort → ℕ
core_space core.Func = 0
core_space core.Table = 1
core_space core.Memory = 2
core_space core.Global = 3
core_space core.Ty = 4
core_space core.Module = 5
core_space core.Instance = 6

abbrev pub space_of : Sort → ℕ
space_of (sort.Core c) = core_space c
space_of sort.Func = 7
space_of sort.Ty = 8
space_of sort.Component = 9
space_of sort.Instance = 10
