-- What was seen so far of a component's items.
use Rattle.std.specs.Prelude.{◌≡◌, ℕ, Bool, List, [], map, bytes_eq, Option, Some, None, option_map, option_and_then, Result, Ok, Err}
use Rattle.std.specs.List.{list_any}
use Rattle.comp_entity.specs.Entity.{EntityTree}
use Rattle.comp_format.specs.declared.types.Alias.{Alias}
use Rattle.comp_format.specs.declared.types.Alias.TheVariants as alias
use Rattle.comp_format.specs.declared.types.Arg.{Arg}
use Rattle.comp_format.specs.declared.types.Sort.{Sort}
use Rattle.comp_format.specs.declared.types.Sort.TheVariants as sort
use Rattle.comp_scope.specs.Image as scope
use Rattle.comp_scope.specs.Image.{as_argument}
use Rattle.comp_image.specs.declared.error.ItemError.{ItemError}
use Rattle.comp_image.specs.declared.error.ItemError.TheVariants as errors
use Rattle.comp_image.specs.declared.progress.Progress.{Progress}
use Rattle.comp_image.specs.Numbered.{IsEntry, NumberAll, indexed_in, items_of}
use Rattle.comp_image.specs.Views.{component_of, made_of, exported_of}

-- imports of a shape
abbrev pub Imports : Type 0
Imports = List (List ℕ × EntityTree)

abbrev pub Progresses : Type 0
Progresses = scope.Progress

-- the image so far, beside these imports, and what indices stand for
pub record Shows (imports : Imports) (part : Progress) (p : scope.Progress) : Type 0 where
  pub components : map component_of part.components.items ≡ p.image.components
  pub instances : map made_of part.instances.items ≡ p.image.instances
  pub imports_are : imports ≡ p.image.imports
  pub exports : map exported_of part.exports.items ≡ p.image.exports
  pub numbered : NumberAll (items_of part.numbered.spaces.items) p.numbered

-- an error beside what the definition gives. Want of memory tells nothing
abbrev pub Fails : {Y : Type 0} → ItemError → Option Y → Type 0
Fails errors.NotCarried given = given ≡ None
Fails errors.Memory given = Unit {0}

-- an answer beside it
abbrev pub Answers : {X Y : Type 0} → (X → Y) → Result X ItemError → Option Y → Type 0
Answers view (Ok x) given = given ≡ Some (view x)
Answers view (Err e) given = Fails e given

-- an argument under its name, and arguments, by what indices stand for
abbrev pub given_in : List IsEntry → Arg → Option (List ℕ × scope.ArgOf)
given_in es a = option_map (λ of. (a.name, of)) (as_argument (indexed_in es a.sort a.index))

abbrev pub arguments_in : List IsEntry → List Arg → Option (List (List ℕ × scope.ArgOf))
arguments_in es args = scope.arguments (record { image = record { components = []; instances = []; imports = []; exports = [] }; numbered = es }) args

-- what was seen so far beside the next of the definition
pub record Seen (imports : Imports) (part : Progress) (given : Option scope.Progress) : Type 0 where
  pub next : scope.Progress
  pub given_is : given ≡ Some next
  pub shown : Shows imports part next

abbrev pub Sees : Imports → Progress → Result (Unit {0}) ItemError → Option scope.Progress → Type 0
Sees imports part (Ok u) given = Seen imports part given
Sees imports part (Err e) given = Fails e given

-- a name is one of these
abbrev pub is_among : List (List ℕ) → List ℕ → Bool
is_among names name = list_any (λ n. bytes_eq name n) names

-- an instance of the component of an index, an alias, and an export of what an index stands for
abbrev pub instantiated : scope.Progress → ℕ → List Arg → Option scope.Progress
instantiated p component args =
    option_and_then (λ n. option_map (scope.with_instance p n) (scope.arguments p args)) (scope.as_component (scope.indexed p sort.Component component))

abbrev pub aliased : scope.Progress → Alias → Option scope.Progress
aliased p (alias.Export kind from name) = Some (scope.numbering p kind (scope.as_export (scope.indexed p sort.Instance from) name))
aliased p (alias.Outer kind count index) = Some (scope.numbering p kind (scope.or_own (scope.indexed p kind index)))
aliased p (alias.CoreExport kind from name) = None

abbrev pub exported_item : scope.Progress → List ℕ → Sort → ℕ → Option scope.Progress
exported_item p name kind index =
    scope.exported p (record { name = name; sort = kind; index = index; ty = None }) None
