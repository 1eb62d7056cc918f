-- The arguments that a configuration gives to an instance, and which of them names no import.
use Rattle.std.specs.Prelude.{Bool, if◌then◌else◌, List, [], ◌∷◌, map, Option, Some, None, bytes_eq}
use Rattle.std.specs.Borrow.{Bor}
use Rattle.std.specs.List.{list_any}
use Rattle.indexmap.specs.IndexMap.{IndexMap}
use Rattle.yaml_read.specs.Entries.{seen_entry}
use Rattle.compose_config.specs.Plan.{Name, Argument, Instance, Settings, instance_named}
use Rattle.compose_config.specs.View.{argument_of}
use Rattle.compose_config.specs.declared.parts.InstantiationArg.{InstantiationArg}

abbrev pub arguments_in : Option Instance → List (Name × Argument)
arguments_in None = []
arguments_in (Some i) = i.arguments

abbrev pub arguments_of : Settings → Name → List (Name × Argument)
arguments_of s instance = arguments_in (instance_named s.instantiations instance)

abbrev pub is_among : List Name → Name → Bool
is_among names name = list_any (λ n. bytes_eq name n) names

-- the first argument that has none of these names
unfoldable pub stray : List (Name × Argument) → List Name → Option Name
stray [] names = None
stray (a ∷ arguments) names = if is_among names a.0 then stray arguments names else Some a.0

-- the arguments that a map holds, where there is one
abbrev pub arguments_view : {S : Type 0} → Option (Bor (IndexMap Name InstantiationArg S)) → List (Name × Argument)
arguments_view None = []
arguments_view (Some arguments) = map (seen_entry argument_of) arguments.now.entries

-- whether a set of names has one
abbrev pub is_in_set : List (Bor Name) → Name → Bool
is_in_set names name = list_any (λ (n : Bor Name). bytes_eq name n.now) names
