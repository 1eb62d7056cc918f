-- What a composition is made from, what is built of it so far, and each step by which more is built.
use Rattle.std.specs.Prelude.{◌≡◌, ℕ, zero, suc, Bool, true, false, not, if◌then◌else◌, List, [], ◌∷◌, ◌++◌, map, find, bytes_eq, Option, Some, None, is_some, option_map, option_and_then, unwrap_or, slice_get, ◌==◌, MatchOption}
use Rattle.std.specs.Map.{lookup}
use Rattle.std.specs.Option.{option_or}
use Rattle.warg_base.specs.Files.{FileMap, file_at}
use Rattle.comp_entity.specs.Entity.{EntityTree, ShapeTree}
use Rattle.comp_shape.specs.Shape.{HasShape}
use Rattle.compose_config.specs.Arguments.{arguments_of, stray}
use Rattle.compose_config.specs.Plan.{Argument, Settings, dependency_name}
use Rattle.compose_graph.specs.Graph.{ComponentEntry, GraphTree, component_named, component_of, connect_fault, with_component, with_connection, with_instance}
use Rattle.compose_graph.specs.declared.connection.Connection.{Connection}
use Rattle.compose_files.specs.Choice.{choice, fits_at, instance_export}
use Rattle.compose_files.specs.Paths.{is_empty, joined, stem, wasm_in}
use Rattle.compose_files.specs.declared.offer.Offer.{Offer}

-- What a composition is made from: the folder that paths are relative to, what the configuration says, and what the files hold.
pub record Sources : Type 0 where
  pub dir : List ℕ
  pub settings : Settings
  pub files : FileMap

-- What is built so far: the graph; the instances that have names, in the order made, each with its number; the instances of
-- definitions, by the numbers of their components; and, by the name of an import, what the first definition that exports an
-- instance of this name has for it.
pub record Built : Type 0 where
  pub graph : GraphTree
  pub named : List (List ℕ × ℕ)
  pub made : ℕ → Option ℕ
  pub offers : List ℕ → Option Offer

-- so many steps from a start, each as its number says
abbrev pub AfterSteps : {S : Type 0} → (ℕ → S → S → Type 0) → S → ℕ → S → Type 0
AfterSteps Step start zero end = end ≡ start
AfterSteps {S} Step start (suc n) end = (before : S) × AfterSteps Step start n before × Step n before end

-- ---- components

-- the component of the file at a path is added, under a name that is new
pub record IsAdded (files : FileMap) (path name : List ℕ) (shape : ShapeTree) (old new : GraphTree) : Type 0 where
  pub bytes : List ℕ
  pub found : file_at files path ≡ Some bytes
  pub shaped : HasShape bytes shape
  pub free : component_named old.components name ≡ None
  pub added : new ≡ with_component old name bytes shape

-- what a definition has for an import of this name, whose component has this number
abbrev pub offer : ℕ → ShapeTree → List ℕ → Option Offer
offer component shape name = option_map (λ export. record { component = component; export = export }) (instance_export shape name)

-- a definition is added under its file's stem; what definitions before it have for an import counts first
pub record IsDefined (s : Sources) (path : List ℕ) (old new : Built) : Type 0 where
  pub name : List ℕ
  pub stem_is : stem path ≡ Some name
  pub shape : ShapeTree
  pub added : IsAdded s.files (joined s.dir path) name shape old.graph new.graph
  pub named : new.named ≡ old.named
  pub made : new.made ≡ old.made
  pub offers : (import : List ℕ) → new.offers import ≡ option_or (old.offers import) (offer old.graph.next_component shape import)

-- the definition that stands at this place of the configuration is added
pub record DefinesAt (s : Sources) (n : ℕ) (old new : Built) : Type 0 where
  pub path : List ℕ
  pub there : slice_get s.settings.definitions n ≡ Some path
  pub defined : IsDefined s path old new

-- ---- where components are looked for

-- the folders, of which the configuration's own is the first
abbrev pub folders : Sources → List (List ℕ)
folders s = s.dir ∷ map (joined s.dir) s.settings.search_paths

abbrev pub is_there : FileMap → List ℕ → Bool
is_there files path = is_some (file_at files path)

-- the first file of a component's name that is there
abbrev pub first_file : Sources → List ℕ → Option (List ℕ)
first_file s name = find (is_there s.files) (map (wasm_in name) (folders s))

-- the file of a component of this name, where there is one: what the configuration says, or else the first that is there
abbrev pub file_for : Sources → List ℕ → Option (List ℕ)
file_for s name =
    if is_empty name then None
    else option_or (option_map (joined s.dir) (lookup (λ k. bytes_eq name k) s.settings.dependencies)) (first_file s name)

-- the number of the component that is read from a file, where there is one
abbrev pub IsRead : Sources → List ℕ → GraphTree → Option (List ℕ) → Option ℕ → GraphTree → Type 0
IsRead s name old None number new = (number ≡ None) × (new ≡ old)
IsRead s name old (Some path) number new =
    (number ≡ Some old.next_component) × ((shape : ShapeTree) × IsAdded s.files path name shape old new)

-- the number of the component of a name, where there is one: it is in the graph, or else it is read
abbrev pub IsComponentFor : Sources → List ℕ → GraphTree → Option ℕ → GraphTree → Type 0
IsComponentFor s name old number new =
    MatchOption (component_named old.components name) (IsRead s name old (file_for s name) number new)
    (λ (c : ComponentEntry). (number ≡ Some c.id) × (new ≡ old))

-- ---- instances

-- the same with another graph
abbrev pub with_graph : Built → GraphTree → Built
with_graph b g = record b { graph = g }

-- an instance is made of a component, under a name
abbrev pub with_named : Built → List ℕ → ℕ → Built
with_named b name component = record b {
  graph = with_instance b.graph component;
  named = b.named ++ (name, b.graph.next_instance) ∷ [];
}

-- of a component, where there is one
abbrev pub IsMade : Built → List ℕ → Option ℕ → Option ℕ → Built → Type 0
IsMade b name None number new = (number ≡ None) × (new ≡ b)
IsMade b name (Some component) number new = (number ≡ Some b.graph.next_instance) × (new ≡ with_named b name component)

-- an instance that is not there yet: its component is the one that the configuration names for it
pub record IsNew (s : Sources) (name : List ℕ) (old : Built) (number : Option ℕ) (new : Built) : Type 0 where
  pub component : Option ℕ
  pub graph : GraphTree
  pub found : IsComponentFor s (dependency_name s.settings name) old.graph component graph
  pub made : IsMade (with_graph old graph) name component number new

-- the number of the instance of a name, where its component is found: it is there, or else it is made
abbrev pub IsInstanceFor : Sources → List ℕ → Built → Option ℕ → Built → Type 0
IsInstanceFor s name old number new =
    MatchOption (lookup (λ k. bytes_eq name k) old.named) (IsNew s name old number new)
    (λ (id : ℕ). (number ≡ Some id) × (new ≡ old))

-- ---- connections

-- An import of an instance: the instance's name and number, the import's place, and its name.
pub record Need : Type 0 where
  pub instance : List ℕ
  pub target : ℕ
  pub place : ℕ
  pub name : List ℕ

-- what an import asks for, where it is there
abbrev pub asked_by : GraphTree → Need → Option EntityTree
asked_by g need =
    option_map (λ (i : List ℕ × EntityTree). i.1) (option_and_then (λ (c : ComponentEntry). slice_get c.shape.imports need.place) (component_of g need.target))

abbrev pub connection : ℕ → Option ℕ → Need → Connection
connection source export need = record { source = source; export = export; target = need.target; import = need.place }

-- an instance, or an export of it, is given to an import, and the graph takes it
pub record IsConnected (source : ℕ) (export : Option ℕ) (need : Need) (old new : Built) : Type 0 where
  pub good : connect_fault old.graph (connection source export need) ≡ None
  pub connected : new ≡ with_graph old (with_connection old.graph (connection source export need))

-- the instance of a definition, which is made at its first need
abbrev pub instance_of : Built → ℕ → ℕ
instance_of b component = unwrap_or (b.made component) b.graph.next_instance

abbrev pub with_made : Built → ℕ → Built
with_made b component = record b {
  graph = with_instance b.graph component;
  made = λ c. if c == component then Some b.graph.next_instance else b.made c;
}

abbrev pub with_instance_of : Built → ℕ → Built
with_instance_of b component = if is_some (b.made component) then b else with_made b component

-- an import is given what a definition has for it
abbrev pub IsOffered : Need → Offer → Built → Built → Type 0
IsOffered need o old new = IsConnected (instance_of old o.component) (Some o.export) need (with_instance_of old o.component) new

-- ---- imports for which no definition has anything

-- what an import takes: what its argument names, and else the instance of its own name
abbrev pub taken_by : List ℕ → Option Argument → Argument
taken_by name None = record { instance = name; export = None }
taken_by name (Some argument) = argument

abbrev pub taken : Settings → Need → Argument
taken s need = taken_by need.name (lookup (λ k. bytes_eq need.name k) (arguments_of s need.instance))

-- the names of what a component imports, in order
abbrev pub import_names : ShapeTree → List (List ℕ)
import_names shape = map (λ (i : List ℕ × EntityTree). i.0) shape.imports

-- Whether an instance, or an export of it, fits an import, all resources being taken as one.
pub record IsJudged (g : GraphTree) (source : ℕ) (export : Option ℕ) (need : Need) (good : Bool) : Type 0 where
  pub component : ComponentEntry
  pub made_from : component_of g source ≡ Some component
  pub asked : EntityTree
  pub asks : asked_by g need ≡ Some asked
  pub fits : fits_at component.shape asked export ≡ good

-- What is chosen of an instance for an import that asks for an export of a name, or for none.
pub record IsChosen (g : GraphTree) (source : ℕ) (need : Need) (name : Option (List ℕ)) (export : Option ℕ) : Type 0 where
  pub component : ComponentEntry
  pub made_from : component_of g source ≡ Some component
  pub asked : EntityTree
  pub asks : asked_by g need ≡ Some asked
  pub chosen : choice component.shape asked name ≡ Some export

-- the arguments of an instance name imports of its component
pub record HasGoodArguments (s : Settings) (g : GraphTree) (instance : List ℕ) (id : ℕ) : Type 0 where
  pub component : ComponentEntry
  pub made_from : component_of g id ≡ Some component
  pub none_stray : stray (arguments_of s instance) (import_names component.shape) ≡ None

-- An instance gives an import what is chosen of it. The arguments of an instance that is new name imports.
pub record IsTaken (s : Sources) (need : Need) (a : Argument) (is_new : Bool) (source : ℕ) (old new : Built) : Type 0 where
  pub export : Option ℕ
  pub chosen : IsChosen old.graph source need a.export export
  pub given : IsConnected source export need old new
  pub arguments_good : is_new ≡ true → HasGoodArguments s.settings new.graph a.instance source

-- an import is left where there is no component for its instance, unless imports are disallowed or an export of it is asked for
pub record IsLeft (s : Settings) (a : Argument) (old new : Built) : Type 0 where
  pub allowed : s.disallow_imports ≡ false
  pub no_export : a.export ≡ None
  pub unchanged : new ≡ old

abbrev pub IsServedBy : Sources → Need → Argument → Bool → Option ℕ → Built → Built → Type 0
IsServedBy s need a is_new None old new = IsLeft s.settings a old new
IsServedBy s need a is_new (Some source) old new = IsTaken s need a is_new source old new

-- whether no instance has this name
abbrev pub is_unnamed : Built → List ℕ → Bool
is_unnamed b name = not (is_some (lookup (λ k. bytes_eq name k) b.named))

pub record IsServed (s : Sources) (need : Need) (a : Argument) (old new : Built) : Type 0 where
  pub source : Option ℕ
  pub with_source : Built
  pub found : IsInstanceFor s a.instance old source with_source
  pub served : IsServedBy s need a (is_unnamed old a.instance) source with_source new

-- An import is served: by what a definition has for its name, and else by the instance that it takes.
abbrev pub Serves : Sources → Need → Built → Built → Type 0
Serves s need old new = MatchOption (old.offers need.name) (IsServed s need (taken s.settings need) old new) (λ o. IsOffered need o old new)
