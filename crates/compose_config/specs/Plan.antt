-- What a configuration says, and which nodes are read as it: the fields of its maps by their names, of which a
-- repeated one counts at last.
use Rattle.std.specs.Prelude.{ℕ, List, [], ◌∷◌, Bool, true, false, if◌then◌else◌, Option, Some, None, Result, Ok, Err, bytes_eq, codes, unwrap_or}
use Rattle.indexmap.specs.IndexMap.{insert_entry}
use Rattle.warg_values.specs.Reading.{◌>>=◌}
use Rattle.yaml_small.specs.declared.schema.Resolved.{Resolved}
use Rattle.yaml_small.specs.declared.schema.Resolved.TheVariants as resolved
use Rattle.yaml_small.specs.Schema as schema
use Rattle.yaml_small.specs.Trees.{Scalar, Tree, Leaf, Seq, Map, pair, no_pairs}
use Rattle.yaml_small.specs.declared.event.Style.TheVariants.{Plain}
use Rattle.yaml_read.specs.Source.{Source, Refusal, WrongScalar, UnknownField, MissingField, Refused}
use Rattle.yaml_read.specs.Scalar.{truth, bool_at, any_at}
use Rattle.yaml_read.specs.Collections.{scalar_front, seq_at, map_at, option_at, pushed, mapped_at, checked_at, refused_at}
use Rattle.yaml_read.specs.Nodes.{any_node, plain_node, seq_node, map_node, option_node, mapped_node, checked_node, refused_node}

abbrev pub Name : Type 0
Name = List ℕ

abbrev pub scalar : List ℕ → Scalar
scalar text = record { text = text; style = Plain }

-- a dependency is its path
pub record Argument : Type 0 where
  pub instance : Name
  pub export : Option Name

pub record Instance : Type 0 where
  pub dependency : Option Name
  pub arguments : List (Name × Argument)

pub record Settings : Type 0 where
  pub definitions : List Name
  pub search_paths : List Name
  pub skip_validation : Bool
  pub import_components : Bool
  pub disallow_imports : Bool
  pub dependencies : List (Name × Name)
  pub instantiations : List (Name × Instance)

-- without a field
abbrev pub no_settings : Settings
no_settings = record {
  definitions = [];
  search_paths = [];
  skip_validation = false;
  import_components = false;
  disallow_imports = false;
  dependencies = [];
  instantiations = [];
}

abbrev pub no_instance : Instance
no_instance = record { dependency = None; arguments = [] }

-- a text that stands for a value: what `resolve` calls one
abbrev pub is_text : Resolved → Bool
is_text resolved.Text = true
is_text other = false

abbrev pub is_text_of : Name → Bool
is_text_of text = is_text (schema.resolved text)

-- A text is short for a node: it stands for what is read there.
abbrev pub short_for : {X : Type 0} → Name → Option X → Result X Refusal
short_for text None = Err (WrongScalar text)
short_for text (Some x) = Ok x

abbrev pub text_value : {X : Type 0} → (Name → Option X) → Name → Result X Refusal
text_value of_text text = if is_text_of text then short_for text (of_text text) else Err (WrongScalar text)

-- a scalar that is a text, or a map
abbrev pub value_node : {X : Type 0} → (Name → Option X) → (Option Tree → Option X) → Option Tree → Option X
value_node of_text of_node None = of_node None
value_node of_text of_node (Some (Leaf s)) = checked_node (text_value of_text) (any_node Ok) (Some (Leaf s))
value_node of_text of_node (Some (Seq ts)) = of_node (Some (Seq ts))
value_node of_text of_node (Some (Map ps)) = of_node (Some (Map ps))

abbrev pub chosen : {X : Type 0} → Bool → (Name → Option X) → (Source → Result (X × Source) Refused) → Source → Result (X × Source) Refused
chosen true of_text read s = checked_at (text_value of_text) any_at s
chosen false of_text read s = read s

unfoldable pub value_at : {X : Type 0} → (Name → Option X) → (Source → Result (X × Source) Refused) → Source → Result (X × Source) Refused
value_at of_text read s = scalar_front s >>= λ is_one. chosen is_one of_text read s

-- a map of such values, in the order of their first places
abbrev pub index_node : {X : Type 0} → (Name → Option X) → (Option Tree → Option X) → Option Tree → Option (List (Name × X))
index_node of_text of_node = map_node (λ es key. mapped_node (insert_entry bytes_eq es key) (value_node of_text of_node)) []

abbrev pub index_at : {X : Type 0} → (Name → Option X) → (Source → Result (X × Source) Refused) → Source → Result (List (Name × X) × Source) Refused
index_at of_text read = map_at (λ es key. mapped_at (insert_entry bytes_eq es key) (value_at of_text read)) []

abbrev pub is_name : Name → Name → Bool
is_name key name = bytes_eq key name

abbrev pub required : Name → Option Name → Result Name Refusal
required field None = Err (MissingField field)
required field (Some name) = Ok name

-- a dependency: its path
abbrev pub path_takes : Option Name → Name → Option Tree → Option (Option Name)
path_takes x key = if is_name key (codes "path") then mapped_node Some (any_node Ok) else refused_node

abbrev pub path_fills : Option Name → Name → Source → Result (Option Name × Source) Refused
path_fills x key = if is_name key (codes "path") then mapped_at Some any_at else refused_at (UnknownField key)

abbrev pub dependency_node : Option Tree → Option Name
dependency_node = checked_node (required (codes "path")) (map_node path_takes None)

abbrev pub dependency_at : Source → Result (Name × Source) Refused
dependency_at = checked_at (required (codes "path")) (map_at path_fills None)

-- an argument: its instance, which is required, and an export
pub record Parts : Type 0 where
  pub instance : Option Name
  pub export : Option Name

abbrev pub no_parts : Parts
no_parts = record { instance = None; export = None }

abbrev pub with_instance : Parts → Name → Parts
with_instance p name = record p { instance = Some name }

abbrev pub with_export : Parts → Option Name → Parts
with_export p name = record p { export = name }

abbrev pub part_takes : Parts → Name → Option Tree → Option Parts
part_takes p key =
    if is_name key (codes "instance") then mapped_node (with_instance p) (any_node Ok)
    else if is_name key (codes "export") then mapped_node (with_export p) (option_node (any_node Ok))
    else refused_node

abbrev pub part_fills : Parts → Name → Source → Result (Parts × Source) Refused
part_fills p key =
    if is_name key (codes "instance") then mapped_at (with_instance p) any_at
    else if is_name key (codes "export") then mapped_at (with_export p) (option_at any_at)
    else refused_at (UnknownField key)

abbrev pub argument_of : Parts → Result Argument Refusal
argument_of p = required (codes "instance") p.instance >>= λ name. Ok (record { instance = name; export = p.export })

abbrev pub argument_node : Option Tree → Option Argument
argument_node = checked_node argument_of (map_node part_takes no_parts)

abbrev pub argument_at : Source → Result (Argument × Source) Refused
argument_at = checked_at argument_of (map_at part_fills no_parts)

-- a text is short for an argument's instance
abbrev pub short_argument : Name → Option Tree
short_argument name = Some (Map (pair (scalar (codes "instance")) (Leaf (scalar name)) no_pairs))

abbrev pub plain_argument : Name → Option Argument
plain_argument name = argument_node (short_argument name)

-- an instantiation
abbrev pub with_dependency : Instance → Option Name → Instance
with_dependency i name = record i { dependency = name }

abbrev pub with_arguments : Instance → List (Name × Argument) → Instance
with_arguments i arguments = record i { arguments = arguments }

abbrev pub instance_takes : Instance → Name → Option Tree → Option Instance
instance_takes i key =
    if is_name key (codes "dependency") then mapped_node (with_dependency i) (option_node (any_node Ok))
    else if is_name key (codes "arguments") then
    mapped_node (with_arguments i) (index_node plain_argument argument_node)
    else refused_node

abbrev pub instance_fills : Instance → Name → Source → Result (Instance × Source) Refused
instance_fills i key =
    if is_name key (codes "dependency") then mapped_at (with_dependency i) (option_at any_at)
    else if is_name key (codes "arguments") then mapped_at (with_arguments i) (index_at plain_argument argument_at)
    else refused_at (UnknownField key)

abbrev pub instance_node : Option Tree → Option Instance
instance_node = map_node instance_takes no_instance

abbrev pub instance_at : Source → Result (Instance × Source) Refused
instance_at = map_at instance_fills no_instance

-- the settings
abbrev pub names_node : Option Tree → Option (List Name)
names_node = seq_node (λ xs at. mapped_node (pushed xs) (any_node Ok)) []

abbrev pub names_at : Source → Result (List Name × Source) Refused
names_at = seq_at (λ xs at. mapped_at (pushed xs) any_at) []

abbrev pub instances_node : Option Tree → Option (List (Name × Instance))
instances_node = map_node (λ es key. mapped_node (insert_entry bytes_eq es key) instance_node) []

abbrev pub instances_at : Source → Result (List (Name × Instance) × Source) Refused
instances_at = map_at (λ es key. mapped_at (insert_entry bytes_eq es key) instance_at) []

-- a text is short for a dependency's path
abbrev pub short_dependency : Name → Option Tree
short_dependency name = Some (Map (pair (scalar (codes "path")) (Leaf (scalar name)) no_pairs))

abbrev pub plain_path : Name → Option Name
plain_path name = dependency_node (short_dependency name)

abbrev pub with_definitions : Settings → List Name → Settings
with_definitions s names = record s { definitions = names }

abbrev pub with_search_paths : Settings → List Name → Settings
with_search_paths s names = record s { search_paths = names }

abbrev pub with_skip_validation : Settings → Bool → Settings
with_skip_validation s b = record s { skip_validation = b }

abbrev pub with_import_components : Settings → Bool → Settings
with_import_components s b = record s { import_components = b }

abbrev pub with_disallow_imports : Settings → Bool → Settings
with_disallow_imports s b = record s { disallow_imports = b }

abbrev pub with_dependencies : Settings → List (Name × Name) → Settings
with_dependencies s d = record s { dependencies = d }

abbrev pub with_instantiations : Settings → List (Name × Instance) → Settings
with_instantiations s i = record s { instantiations = i }

abbrev pub setting_takes : Settings → Name → Option Tree → Option Settings
setting_takes s key =
    if is_name key (codes "definitions") then mapped_node (with_definitions s) names_node
    else if is_name key (codes "search-paths") then mapped_node (with_search_paths s) names_node
    else if is_name key (codes "skip-validation") then mapped_node (with_skip_validation s) (plain_node truth)
    else if is_name key (codes "import-components") then mapped_node (with_import_components s) (plain_node truth)
    else if is_name key (codes "disallow-imports") then mapped_node (with_disallow_imports s) (plain_node truth)
    else if is_name key (codes "dependencies") then
    mapped_node (with_dependencies s) (index_node plain_path dependency_node)
    else if is_name key (codes "instantiations") then mapped_node (with_instantiations s) instances_node
    else refused_node

abbrev pub setting_fills : Settings → Name → Source → Result (Settings × Source) Refused
setting_fills s key =
    if is_name key (codes "definitions") then mapped_at (with_definitions s) names_at
    else if is_name key (codes "search-paths") then mapped_at (with_search_paths s) names_at
    else if is_name key (codes "skip-validation") then mapped_at (with_skip_validation s) bool_at
    else if is_name key (codes "import-components") then mapped_at (with_import_components s) bool_at
    else if is_name key (codes "disallow-imports") then mapped_at (with_disallow_imports s) bool_at
    else if is_name key (codes "dependencies") then mapped_at (with_dependencies s) (index_at plain_path dependency_at)
    else if is_name key (codes "instantiations") then mapped_at (with_instantiations s) instances_at
    else refused_at (UnknownField key)

-- the settings that a node, or none, is read as
abbrev pub settings_node : Option Tree → Option Settings
settings_node = map_node setting_takes no_settings

abbrev pub settings_at : Source → Result (Settings × Source) Refused
settings_at = map_at setting_fills no_settings

-- The name of the dependency of an instance: what its instantiation says, or the instance's own name.
abbrev pub named : Name → Option Instance → Name
named name None = name
named name (Some i) = unwrap_or i.dependency name

-- the instance of a name
abbrev pub instance_named : List (Name × Instance) → Name → Option Instance
instance_named [] name = None
instance_named (e ∷ es) name = if bytes_eq e.0 name then Some e.1 else instance_named es name

abbrev pub dependency_name : Settings → Name → Name
dependency_name s name = named name (instance_named s.instantiations name)
