-- Why a node is not read as a configuration.
use Rattle.std.specs.Prelude.{[], Option, Some, None, Ok, bytes_eq, codes}
use Rattle.indexmap.specs.IndexMap.{insert_entry}
use Rattle.yaml_small.specs.Trees.{Tree, Leaf, Seq, Map}
use Rattle.yaml_read.specs.Source.{Refusal}
use Rattle.yaml_read.specs.Scalar.{truth}
use Rattle.yaml_read.specs.Collections.{pushed}
use Rattle.yaml_read.specs.Nodes.{any_node, map_node, mapped_node}
use Rattle.compose_config.specs.Plan
use Rattle.yaml_causes.specs.Causes.{RefusesAny, RefusesPlain, RefusesList, RefusesMap, RefusesOption, RefusesTest, IsUnknown, RefusesIf}

-- a scalar that is a text, or what the type reads
abbrev pub RefusesValue : {X : Type 0} → (Plan.Name → Option X) → (Option Tree → Refusal → Type 0)
    → Option Tree → Refusal → Type 0
RefusesValue of_text Refuses None refusal = Refuses None refusal
RefusesValue of_text Refuses (Some (Leaf s)) refusal =
    RefusesTest (Plan.text_value of_text) (any_node Ok) RefusesAny (Some (Leaf s)) refusal
RefusesValue of_text Refuses (Some (Seq ts)) refusal = Refuses (Some (Seq ts)) refusal
RefusesValue of_text Refuses (Some (Map ps)) refusal = Refuses (Some (Map ps)) refusal

abbrev pub RefusesIndex : {X : Type 0} → (Plan.Name → Option X) → (Option Tree → Option X)
    → (Option Tree → Refusal → Type 0) → Option Tree → Refusal → Type 0
RefusesIndex of_text of_node Refuses =
    RefusesMap (λ es key. mapped_node (insert_entry bytes_eq es key) (Plan.value_node of_text of_node))
    (λ es key. RefusesValue of_text Refuses) []

-- a dependency
abbrev pub RefusesPath : Option Plan.Name → Plan.Name → Option Tree → Refusal → Type 0
RefusesPath x key = RefusesIf (Plan.is_name key (codes "path")) RefusesAny (IsUnknown key)

abbrev pub RefusesDependency : Option Tree → Refusal → Type 0
RefusesDependency =
    RefusesTest (Plan.required (codes "path")) (map_node Plan.path_takes None)
    (RefusesMap Plan.path_takes RefusesPath None)

-- an argument
abbrev pub RefusesPart : Plan.Parts → Plan.Name → Option Tree → Refusal → Type 0
RefusesPart p key =
    RefusesIf (Plan.is_name key (codes "instance")) RefusesAny
    (RefusesIf (Plan.is_name key (codes "export")) (RefusesOption RefusesAny) (IsUnknown key))

abbrev pub RefusesArgument : Option Tree → Refusal → Type 0
RefusesArgument =
    RefusesTest Plan.argument_of (map_node Plan.part_takes Plan.no_parts)
    (RefusesMap Plan.part_takes RefusesPart Plan.no_parts)

-- an instantiation
abbrev pub RefusesPlace : Plan.Instance → Plan.Name → Option Tree → Refusal → Type 0
RefusesPlace i key =
    RefusesIf (Plan.is_name key (codes "dependency")) (RefusesOption RefusesAny)
    (RefusesIf (Plan.is_name key (codes "arguments"))
    (RefusesIndex Plan.plain_argument Plan.argument_node RefusesArgument) (IsUnknown key))

abbrev pub RefusesInstance : Option Tree → Refusal → Type 0
RefusesInstance = RefusesMap Plan.instance_takes RefusesPlace Plan.no_instance

-- the settings
abbrev pub RefusesNames : Option Tree → Refusal → Type 0
RefusesNames = RefusesList (λ xs at. mapped_node (pushed xs) (any_node Ok)) (λ xs at. RefusesAny) []

abbrev pub RefusesInstances : Option Tree → Refusal → Type 0
RefusesInstances =
    RefusesMap (λ es key. mapped_node (insert_entry bytes_eq es key) Plan.instance_node) (λ es key. RefusesInstance) []

abbrev pub RefusesSetting : Plan.Settings → Plan.Name → Option Tree → Refusal → Type 0
RefusesSetting s key =
    RefusesIf (Plan.is_name key (codes "definitions")) RefusesNames
    (RefusesIf (Plan.is_name key (codes "search-paths")) RefusesNames
    (RefusesIf (Plan.is_name key (codes "skip-validation")) (RefusesPlain truth)
    (RefusesIf (Plan.is_name key (codes "import-components")) (RefusesPlain truth)
    (RefusesIf (Plan.is_name key (codes "disallow-imports")) (RefusesPlain truth)
    (RefusesIf (Plan.is_name key (codes "dependencies"))
    (RefusesIndex Plan.plain_path Plan.dependency_node RefusesDependency)
    (RefusesIf (Plan.is_name key (codes "instantiations")) RefusesInstances (IsUnknown key)))))))

abbrev pub RefusesSettings : Option Tree → Refusal → Type 0
RefusesSettings = RefusesMap Plan.setting_takes RefusesSetting Plan.no_settings
