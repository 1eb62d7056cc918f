-- What an instance exports under a name, by numbers of a table.
use Rattle.std.specs.Prelude.{ℕ, suc, Bool, true, false, List, Option, Some, None, Result, Ok, Err, ◌==◌, if◌then◌else◌}
use Rattle.warg_values.specs.Reading.{◌>>=◌}
use Rattle.comp_entity.specs.Bounds.{ShapeFault, Index}
use Rattle.comp_entity.specs.Entity.{EntityTree}
use Rattle.comp_entity.specs.Fits.{under}
use Rattle.comp_format.specs.declared.types.CoreSort.{CoreSort}
use Rattle.comp_format.specs.declared.types.CoreSort.TheVariants as core
use Rattle.comp_format.specs.declared.types.Sort.{Sort}
use Rattle.comp_format.specs.Spaces.{space_of}
use Rattle.comp_scope.specs.Aliases.{as_instance}
use Rattle.comp_scope.specs.Spaces as scope
use Rattle.comp_scope.specs.Spaces.{Spaces, CoreCounts, at_index, item_or_fault, sort_of}
use Rattle.comp_space.specs.declared.standing.Standing.{Standing}
use Rattle.comp_space.specs.Standings.{Shows}
use Rattle.comp_table.specs.declared.head.Head.{Head}
use Rattle.comp_table.specs.declared.head.Head.TheVariants as head
use Rattle.comp_table.specs.Plain.{plain_entity}
use Rattle.comp_table.specs.Trees.{PlainTree}

-- the number stands for the entity that is there, where one is
abbrev pub ShowsExport : List PlainTree → Option Standing → Option (EntityTree × Bool) → Type 0
ShowsExport table (Some standing) (Some e) = Shows plain_entity table standing e
ShowsExport table None None = Unit {0}
ShowsExport table _ _ = ⊥

-- the head is that of an instance
abbrev pub is_instance : Head → Bool
is_instance head.Instance = true
is_instance _ = false

-- the entity that an instance exports under a name, which is of this sort, with its naming bit
abbrev pub exported_of : Sort → List ℕ → scope.Standing → Result scope.Standing ShapeFault
exported_of kind name i = as_instance i >>= λ es. item_or_fault (under name es) >>= λ e.
    if space_of (sort_of e.0) == space_of kind then Ok e else Err Index

-- the same of the instance of an index
abbrev pub exported_at : Spaces → Sort → ℕ → List ℕ → Result scope.Standing ShapeFault
exported_at s kind from name = at_index s.instances from >>= exported_of kind name

-- one core item more of a sort of which nothing else is known
abbrev pub one_more : CoreSort → CoreCounts → CoreCounts
one_more core.Func c = record c { funcs = suc c.funcs }
one_more core.Table c = record c { tables = suc c.tables }
one_more core.Memory c = record c { memories = suc c.memories }
one_more core.Global c = record c { globals = suc c.globals }
one_more core.Instance c = record c { instances = suc c.instances }
one_more core.Ty c = c
one_more core.Module c = c
