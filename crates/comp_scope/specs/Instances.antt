-- Instances that a component makes (Component Model, Explainer.md, "Instance Definitions").
use Rattle.std.specs.Prelude.{ℕ, suc, ◌+◌, ◌-◌, Bool, true, false, ◌&&◌, List, [], ◌∷◌, ◌++◌, unwrap_or, Option, Some, Result, Ok, Err, ◌==◌, if◌then◌else◌}
use Rattle.std.specs.List.{list_any}
use Rattle.std.specs.Option.{option_map_or}
use Rattle.std.specs.Str.{bytes_eq}
use Rattle.warg_values.specs.Reading.{◌>>=◌}
use Rattle.comp_format.specs.declared.types.CoreSort.{CoreSort}
use Rattle.comp_format.specs.declared.types.CoreSort.TheVariants as core
use Rattle.comp_format.specs.declared.types.Arg.{Arg}
use Rattle.comp_format.specs.declared.types.InstanceItem.{InstanceItem}
use Rattle.comp_format.specs.declared.types.InstanceItem.TheVariants as instance
use Rattle.comp_format.specs.declared.types.CoreInstance.{CoreInstance}
use Rattle.comp_format.specs.declared.types.CoreInstance.TheVariants as core_instance
use Rattle.comp_entity.specs.Entity.{Name, made, IsInstance, IsComponent, Entries, no_entry, entry}
use Rattle.comp_entity.specs.Names.{Change, changing, entity_by, entries_by, Mention, in_entries, Counts, counts_at}
use Rattle.comp_entity.specs.Fits.{Stands, all_stand, resource_for, place_for, fits_with, same_name, under}
use Rattle.comp_entity.specs.Bounds.{ShapeFault, Index, DoesNotFit, Bounds}
use Rattle.comp_scope.specs.Spaces.{Spaces, Standing, at_index, if_below, has_bit, standing, added, if_new, counts_sum, entries_in}

-- instances of components

-- the items that some arguments give, each under its name. No name stands twice.
unfoldable pub given : Spaces → List Arg → Result (List (List ℕ × Standing)) ShapeFault
given s [] = Ok []
given s (a ∷ args) = standing s a.sort a.index >>= λ e. given s args >>= λ rest.
    if list_any (λ other. bytes_eq a.name other.0) rest then Err Index else Ok ((a.name, e) ∷ rest)

-- A resource of a component, in the scope in which the component is instantiated. One that its imports bring is what
-- the arguments have at the same path of names. One that it makes is made anew. All others lie around the component.
-- `makes` is how many names the component makes.
abbrev pub resource_in : Spaces → Counts → List Stands → Name → Name
resource_in s makes there n =
    if n.out == 0 then made (s.made.resources + n.number)
    else if n.out == 1 then unwrap_or (resource_for there n) (made (s.made.resources + makes.resources + n.number))
    else record n { out = n.out - 2 }

-- the same of the place that named a type. A type of the arguments that no place named gets a name of its own.
abbrev pub or_made : ℕ → Option (Option Name) → Name
or_made number (Some (Some p)) = p
or_made number _ = made number

abbrev pub place_in : Spaces → Counts → List Stands → Name → Name
place_in s makes there n =
    if n.out == 0 then made (s.made.places + n.number)
    else if n.out == 1 then or_made (s.made.places + makes.places + n.number) (place_for there n)
    else record n { out = n.out - 2 }

-- each import has an argument of its name, which fits it in the names of the scope
abbrev pub arguments_fit : Change → Entries → Entries → Bool
arguments_fit c arguments no_entry = true
arguments_fit c arguments (entry name asked mark rest) =
    option_map_or (λ e. fits_with same_name e.0 (entity_by c 0 asked)) (under name arguments) false
    && arguments_fit c arguments rest

-- what a component mentions
abbrev pub mentions_of : Entries → Entries → List (ℕ × Mention)
mentions_of imports exports = in_entries 0 imports ++ in_entries 0 exports

-- the change of a component's names into those of the scope
abbrev pub instantiating : Spaces → Entries → Entries → Entries → Change
instantiating s imports exports arguments =
    let makes = counts_at 0 (mentions_of imports exports) in
    let there = all_stand arguments imports in
    changing (resource_in s makes there) (place_in s makes there)

-- the scope with as many names more as a component makes, and as its imports bring
abbrev pub with_names : Spaces → Entries → Entries → Spaces
with_names s imports exports =
    let mentions = mentions_of imports exports in
    record s { made = counts_sum s.made (counts_sum (counts_at 0 mentions) (counts_at 1 mentions)) }

-- An instance of a component: the component's exports in the names of the scope.
unfoldable pub instance_of : Bounds → Spaces → Entries → Entries → Entries → Result Spaces ShapeFault
instance_of b s imports exports arguments =
    let change = instantiating s imports exports arguments in
    if arguments_fit change arguments imports
    then added b (with_names s imports exports) (IsInstance (entries_by change 0 exports)) true
    else Err DoesNotFit

abbrev pub instantiated : Bounds → Spaces → List (List ℕ × Standing) → Standing → Result Spaces ShapeFault
instantiated b s arguments (IsComponent is es, named) = instance_of b s is es (entries_in arguments)
instantiated b s arguments _ = Err Index

-- instances of items

-- the members of an instance that is made of items, under new names
unfoldable pub members : Spaces → List (List ℕ × Standing) → List Arg → Result (List (List ℕ × Standing)) ShapeFault
members s so_far [] = Ok so_far
members s so_far (m ∷ ms) =
    if_new m.name so_far (standing s m.sort m.index >>= λ e. members s (so_far ++ (m.name, e) ∷ []) ms)

abbrev pub all_have_bit : List (List ℕ × Standing) → Bool
all_have_bit [] = true
all_have_bit (e ∷ es) = has_bit e.1 && all_have_bit es

unfoldable pub with_instance : Bounds → Spaces → InstanceItem → Result Spaces ShapeFault
with_instance b s (instance.Instantiate component args) =
    at_index s.components component >>= λ c. given s args >>= λ arguments. instantiated b s arguments c
with_instance b s (instance.Exports args) = members s [] args >>= λ ms. added b s (IsInstance (entries_in ms)) (all_have_bit ms)

-- core instances

unfoldable pub all_below : ℕ → List (List ℕ × ℕ) → Spaces → Result Spaces ShapeFault
all_below count [] s = Ok s
all_below count (a ∷ args) s = if_below count a.1 s >>= λ s. all_below count args s

unfoldable pub core_member : Spaces → CoreSort → ℕ → Result Spaces ShapeFault
core_member s core.Func i = if_below s.core.funcs i s
core_member s core.Table i = if_below s.core.tables i s
core_member s core.Memory i = if_below s.core.memories i s
core_member s core.Global i = if_below s.core.globals i s
core_member s core.Ty i = at_index s.core_types i >>= λ t. Ok s
core_member s core.Module i = at_index s.modules i >>= λ m. Ok s
core_member s core.Instance i = if_below s.core.instances i s

unfoldable pub core_members : Spaces → List (List ℕ × CoreSort × ℕ) → Result Spaces ShapeFault
core_members s [] = Ok s
core_members s (m ∷ ms) = core_member s m.1 m.2 >>= λ s. core_members s ms

abbrev pub with_one_core_instance : Spaces → Spaces
with_one_core_instance s = record s { core = record s.core { instances = suc s.core.instances } }

-- a core instance, of which nothing is known but that its indices are there
unfoldable pub with_core_instance : Spaces → CoreInstance → Result Spaces ShapeFault
with_core_instance s (core_instance.Instantiate m args) =
    at_index s.modules m >>= λ of. all_below s.core.instances args s >>= λ s. Ok (with_one_core_instance s)
with_core_instance s (core_instance.Exports ms) = core_members s ms >>= λ s. Ok (with_one_core_instance s)
