-- Why the steps of a composition are refused: each error by its cause, in the state in which the step is tried. Want of memory
-- has no cause here.
use Rattle.std.specs.Prelude.{◌≡◌, ◌≢◌, ◌⊎◌, ℕ, Bool, true, false, List, map, take, find, bytes_eq, Option, Some, None, IfSome, is_some, slice_get, MatchOption}
use Rattle.std.specs.Map.{lookup}
use Rattle.warg_base.specs.Files.{FileMap, file_at}
use Rattle.warg_base.specs.declared.files.FileError.{FileError}
use Rattle.warg_base.specs.declared.files.FileError.TheVariants as file
use Rattle.comp_entity.specs.Entity.{EntityTree, ShapeTree}
use Rattle.comp_shape.specs.Refusal.{IsRefused}
use Rattle.comp_shape.specs.Shape.{HasShape}
use Rattle.comp_shape.specs.declared.error.ShapeError.{ShapeError}
use Rattle.comp_shape.specs.declared.error.ShapeError.TheVariants as shape
use Rattle.compose_config.specs.Plan.{Argument, Settings, dependency_name}
use Rattle.compose_fit.specs.Wires.{given_of}
use Rattle.compose_graph.specs.Graph.{ComponentEntry, ConnectFault, GraphTree, component_named, component_of, connect_fault, connection_into, fault_between}
use Rattle.compose_graph.specs.Refusal.{IsAddRefusal, IsConnectRefusal, IsInstantiateRefusal}
use Rattle.compose_graph.specs.declared.connection.Connection.{Connection}
use Rattle.compose_graph.specs.declared.error.GraphError.{GraphError}
use Rattle.compose_graph.specs.declared.error.GraphError.TheVariants as graph
use Rattle.compose_config.specs.Arguments.{arguments_of, stray}
use Rattle.compose_files.specs.Built.{Built, IsChosen, IsComponentFor, IsConnected, IsInstanceFor, Need, Sources, asked_by, connection, file_for, folders, import_names, instance_of, is_there, is_unnamed, taken, with_instance_of}
use Rattle.compose_files.specs.Choice.{choice, instance_export}
use Rattle.compose_files.specs.Paths.{is_empty, joined, stem, wasm_in}
use Rattle.compose_files.specs.declared.error.ComposerError.{ComposerError}
use Rattle.compose_files.specs.declared.error.ComposerError.TheVariants as error
use Rattle.compose_files.specs.declared.offer.Offer.{Offer}

-- ---- what the lower calls refuse

-- a call of the graph is refused
abbrev pub IsGraphRefusal : (GraphError → Type 0) → ComposerError → Type 0
IsGraphRefusal Refuses (error.Graph e) = Refuses e × (e ≢ graph.Memory)
IsGraphRefusal Refuses error.Memory = Unit {0}
IsGraphRefusal Refuses _ = ⊥

-- an import is refused a connection
abbrev pub IsNeedRefusal : Need → (GraphError → Type 0) → ComposerError → Type 0
IsNeedRefusal need Refuses (error.Connect import instance e) =
    (import ≡ need.name) × (instance ≡ need.instance) × Refuses e × (e ≢ graph.Memory)
IsNeedRefusal need Refuses error.Memory = Unit {0}
IsNeedRefusal need Refuses _ = ⊥

-- an instance whose component is asked for is not there
abbrev pub LacksInstance : GraphTree → ℕ → GraphError → Type 0
LacksInstance g id e = (component_of g id ≡ None) × (e ≡ graph.NoSource)

-- ---- components of files

-- a file is missing, or the outside failed, which its count of faults tells
abbrev pub IsFileFault : FileMap → List ℕ → FileError → Type 0
IsFileFault files path file.Missing = file_at files path ≡ None
IsFileFault files path file.Failed = Unit {0}
IsFileFault files path file.Memory = ⊥

-- the outside failed
abbrev pub is_failure : ComposerError → Bool
is_failure (error.File path file.Failed) = true
is_failure _ = false

-- the bytes of a file are no component
pub record IsNoComponent (files : FileMap) (path : List ℕ) (e : ShapeError) : Type 0 where
  pub bytes : List ℕ
  pub found : file_at files path ≡ Some bytes
  pub refused : IsRefused e bytes
  pub not_for_memory : e ≢ shape.Memory

-- no component is read from the file at a path
abbrev pub IsReadRefusal : FileMap → List ℕ → ComposerError → Type 0
IsReadRefusal files path (error.File told e) = (told ≡ path) × IsFileFault files path e
IsReadRefusal files path (error.BadComponent told e) = (told ≡ path) × IsNoComponent files path e
IsReadRefusal files path error.Memory = Unit {0}
IsReadRefusal files path _ = ⊥

-- a component is read from the file at a path, and the graph does not take it under this name
pub record IsNotAdded (files : FileMap) (path name : List ℕ) (g : GraphTree) (e : ComposerError) : Type 0 where
  pub bytes : List ℕ
  pub found : file_at files path ≡ Some bytes
  pub shape : ShapeTree
  pub shaped : HasShape bytes shape
  pub refused : IsGraphRefusal (IsAddRefusal g name) e

-- why the component of the file at a path is not added under a name
abbrev pub IsFileRefusal : FileMap → List ℕ → List ℕ → GraphTree → ComposerError → Type 0
IsFileRefusal files path name g e = IsReadRefusal files path e ⊎ IsNotAdded files path name g e

-- ---- definitions

-- a path leads to no file that has a name
abbrev pub IsPathRefusal : List ℕ → ComposerError → Type 0
IsPathRefusal path (error.BadDefinitionPath told) = (told ≡ path) × (stem path ≡ None)
IsPathRefusal path error.Memory = Unit {0}
IsPathRefusal path _ = ⊥

-- a definition is not added under its stem
pub record IsStemRefusal (s : Sources) (path : List ℕ) (g : GraphTree) (e : ComposerError) : Type 0 where
  pub name : List ℕ
  pub stem_is : stem path ≡ Some name
  pub refused : IsFileRefusal s.files (joined s.dir path) name g e

abbrev pub IsDefinitionRefusal : Sources → List ℕ → GraphTree → ComposerError → Type 0
IsDefinitionRefusal s path g e = IsPathRefusal path e ⊎ IsStemRefusal s path g e

-- ---- components and instances by their names

-- the files in which a component of a name is looked for, in order
abbrev pub candidates : Sources → List ℕ → List (List ℕ)
candidates s name = map (wasm_in name) (folders s)

-- whether this file is there is not told
abbrev pub IsAskRefusal : List ℕ → ComposerError → Type 0
IsAskRefusal path (error.File told e) = (told ≡ path) × (e ≡ file.Failed)
IsAskRefusal path error.Memory = Unit {0}
IsAskRefusal path _ = ⊥

-- this file is asked for, since those in front of it are not there
pub record IsLookedFor (s : Sources) (name path : List ℕ) : Type 0 where
  pub number : ℕ
  pub there : slice_get (candidates s name) number ≡ Some path
  pub absent : find (is_there s.files) (take number (candidates s name)) ≡ None

-- a file is asked for in vain
abbrev pub IsLookRefusal : Sources → List ℕ → ComposerError → Type 0
IsLookRefusal s name (error.File path e) = IsLookedFor s name path × (e ≡ file.Failed)
IsLookRefusal s name error.Memory = Unit {0}
IsLookRefusal s name _ = ⊥

-- a component is to be looked for: it has a name, for which the configuration has no file
pub record IsSearched (s : Sources) (name : List ℕ) : Type 0 where
  pub called : is_empty name ≡ false
  pub not_named : lookup (λ k. bytes_eq name k) s.settings.dependencies ≡ None

-- a component is looked for, and a file is asked for in vain
abbrev pub IsSearchRefusal : Sources → List ℕ → ComposerError → Type 0
IsSearchRefusal s name (error.File path e) = IsSearched s name × IsLookedFor s name path × (e ≡ file.Failed)
IsSearchRefusal s name error.Memory = Unit {0}
IsSearchRefusal s name _ = ⊥

-- there is a file for a component, which is not added
pub record IsFoundFileRefusal (s : Sources) (name : List ℕ) (g : GraphTree) (e : ComposerError) : Type 0 where
  pub path : List ℕ
  pub file_is : file_for s name ≡ Some path
  pub refused : IsFileRefusal s.files path name g e

-- why it stays open whether there is a component of a name: it is not in the graph
pub record IsComponentRefusal (s : Sources) (name : List ℕ) (g : GraphTree) (e : ComposerError) : Type 0 where
  pub absent : component_named g.components name ≡ None
  pub refused : IsSearchRefusal s name e ⊎ IsFoundFileRefusal s name g e

-- there is a component, and no instance is made of it
pub record IsMakeRefusal (s : Sources) (name : List ℕ) (g : GraphTree) (e : ComposerError) : Type 0 where
  pub component : ℕ
  pub graph : GraphTree
  pub found : IsComponentFor s name g (Some component) graph
  pub refused : IsGraphRefusal (IsInstantiateRefusal graph component) e

-- why it stays open whether there is an instance of a name: it was not made before
pub record IsInstanceRefusal (s : Sources) (name : List ℕ) (b : Built) (e : ComposerError) : Type 0 where
  pub absent : lookup (λ k. bytes_eq name k) b.named ≡ None
  pub refused : IsComponentRefusal s (dependency_name s.settings name) b.graph e
      ⊎ IsMakeRefusal s (dependency_name s.settings name) b.graph e

-- ---- what of an instance is given to an import

-- the fault of a connection, where its instances are taken as two
abbrev pub fault_apart : GraphTree → Connection → Option ConnectFault
fault_apart g c =
    fault_between (is_some (connection_into g.connections c.target c.import)) c (component_of g c.source) (component_of g c.target)

-- an instance has no export of this name that is an instance
pub record LacksExport (g : GraphTree) (source : ℕ) (name : List ℕ) : Type 0 where
  pub component : ComponentEntry
  pub made_from : component_of g source ≡ Some component
  pub none : instance_export component.shape name ≡ None

-- Nothing of an instance fits an import: its export of a name, which is an instance; or, where none is named, neither the
-- whole of it nor an export.
pub record HasNothingFitting (g : GraphTree) (source : ℕ) (need : Need) (name : Option (List ℕ)) (e : GraphError) : Type 0 where
  pub component : ComponentEntry
  pub made_from : component_of g source ≡ Some component
  pub asked : EntityTree
  pub asks : asked_by g need ≡ Some asked
  pub exported : IfSome name (λ n. is_some (instance_export component.shape n) ≡ true)
  pub none : choice component.shape asked name ≡ None
  pub says : e ≡ graph.NotCompatible

-- whether the whole of an instance, or an export of it, fits is asked in vain, whether it has that export or not
abbrev pub IsUnjudged : GraphTree → ℕ → Option ℕ → Need → GraphError → Type 0
IsUnjudged g source export need e =
    IsConnectRefusal (fault_apart g (connection source export need)) e × (e ≢ graph.NotCompatible)

abbrev pub IsJudgeRefusal : GraphTree → ℕ → Option ℕ → Need → ComposerError → Type 0
IsJudgeRefusal g source export need e =
    IsGraphRefusal (LacksInstance g source) e ⊎ IsNeedRefusal need (IsUnjudged g source export need) e

-- likewise of the whole, or of an export that the instance has, where it is there
pub record CannotBeJudged (g : GraphTree) (source : ℕ) (need : Need) (e : GraphError) : Type 0 where
  pub export : Option ℕ
  pub there : (component : ComponentEntry) → component_of g source ≡ Some component
      → is_some (given_of component.shape export) ≡ true
  pub unjudged : IsUnjudged g source export need e

abbrev pub IsFitRefusal : GraphTree → ℕ → Need → Option (List ℕ) → GraphError → Type 0
IsFitRefusal g source need name e = HasNothingFitting g source need name e ⊎ CannotBeJudged g source need e

abbrev pub IsExportRefusal : GraphTree → ℕ → Option (List ℕ) → ComposerError → Type 0
IsExportRefusal g source name (error.NoSuchExport told) = (name ≡ Some told) × LacksExport g source told
IsExportRefusal g source name error.Memory = Unit {0}
IsExportRefusal g source name _ = ⊥

-- why nothing of an instance is chosen
abbrev pub IsChoiceRefusal : GraphTree → ℕ → Need → Option (List ℕ) → ComposerError → Type 0
IsChoiceRefusal g source need name e =
    IsGraphRefusal (LacksInstance g source) e
    ⊎ IsExportRefusal g source name e
    ⊎ IsNeedRefusal need (IsFitRefusal g source need name) e

-- what is chosen is not connected
pub record CannotBeGiven (g : GraphTree) (source : ℕ) (need : Need) (name : Option (List ℕ)) (e : GraphError) : Type 0 where
  pub export : Option ℕ
  pub chosen : IsChosen g source need name export
  pub refused : IsConnectRefusal (connect_fault g (connection source export need)) e

-- ---- arguments

-- the first argument of an instance that names no import of its component
pub record HasStrayArgument (s : Settings) (g : GraphTree) (instance : List ℕ) (id : ℕ) (argument : List ℕ) : Type 0 where
  pub component : ComponentEntry
  pub made_from : component_of g id ≡ Some component
  pub is_stray : stray (arguments_of s instance) (import_names component.shape) ≡ Some argument

abbrev pub IsStrayRefusal : Settings → GraphTree → List ℕ → ℕ → ComposerError → Type 0
IsStrayRefusal s g instance id (error.NoSuchImport argument) = HasStrayArgument s g instance id argument
IsStrayRefusal s g instance id error.Memory = Unit {0}
IsStrayRefusal s g instance id _ = ⊥

abbrev pub IsArgumentRefusal : Settings → GraphTree → List ℕ → ℕ → ComposerError → Type 0
IsArgumentRefusal s g instance id e = IsGraphRefusal (LacksInstance g id) e ⊎ IsStrayRefusal s g instance id e

-- ---- imports

-- an import is not left, for which no component is found
abbrev pub IsLeaveRefusal : Settings → Argument → ComposerError → Type 0
IsLeaveRefusal s a (error.NotFound name) = (s.disallow_imports ≡ true) × (name ≡ dependency_name s a.instance)
IsLeaveRefusal s a (error.ExportOnImported export) = (s.disallow_imports ≡ false) × (a.export ≡ Some export)
IsLeaveRefusal s a error.Memory = Unit {0}
IsLeaveRefusal s a _ = ⊥

-- an import is given what is chosen of a new instance, and an argument of that names no import
pub record HasBadArguments (s : Settings) (need : Need) (a : Argument) (source : ℕ) (old : Built) (e : ComposerError) : Type 0 where
  pub export : Option ℕ
  pub new : Built
  pub chosen : IsChosen old.graph source need a.export export
  pub given : IsConnected source export need old new
  pub refused : IsArgumentRefusal s new.graph a.instance source e

-- why an import does not take what it takes of an instance
abbrev pub IsGiftRefusal : Settings → Need → Argument → Bool → ℕ → Built → ComposerError → Type 0
IsGiftRefusal s need a is_new source b e =
    IsChoiceRefusal b.graph source need a.export e
    ⊎ IsNeedRefusal need (CannotBeGiven b.graph source need a.export) e
    ⊎ (is_new ≡ true) × HasBadArguments s need a source b e

abbrev pub IsSourceRefusal : Sources → Need → Argument → Bool → Option ℕ → Built → ComposerError → Type 0
IsSourceRefusal s need a is_new None b e = IsLeaveRefusal s.settings a e
IsSourceRefusal s need a is_new (Some source) b e = IsGiftRefusal s.settings need a is_new source b e

-- it is known whether there is the instance that an import takes
pub record IsFoundRefusal (s : Sources) (need : Need) (a : Argument) (b : Built) (e : ComposerError) : Type 0 where
  pub source : Option ℕ
  pub with_source : Built
  pub found : IsInstanceFor s a.instance b source with_source
  pub refused : IsSourceRefusal s need a (is_unnamed b a.instance) source with_source e

-- why an import is not served by the instance that it takes
abbrev pub IsTakeRefusal : Sources → Need → Argument → Built → ComposerError → Type 0
IsTakeRefusal s need a b e = IsInstanceRefusal s a.instance b e ⊎ IsFoundRefusal s need a b e

-- why an import is not given what a definition has for it: the definition has no instance yet, and none is made; or it is not
-- connected
abbrev pub IsNotMade : Built → ℕ → GraphError → Type 0
IsNotMade b component e = (b.made component ≡ None) × IsInstantiateRefusal b.graph component e

abbrev pub IsNotOffered : Built → Need → Offer → GraphError → Type 0
IsNotOffered b need o e =
    IsConnectRefusal (connect_fault (with_instance_of b o.component).graph (connection (instance_of b o.component) (Some o.export) need)) e

abbrev pub IsOfferRefusal : Need → Offer → Built → ComposerError → Type 0
IsOfferRefusal need o b e = IsGraphRefusal (IsNotMade b o.component) e ⊎ IsNeedRefusal need (IsNotOffered b need o) e

-- why an import is not served
abbrev pub IsServeRefusal : Sources → Need → Built → ComposerError → Type 0
IsServeRefusal s need b e =
    MatchOption (b.offers need.name) (IsTakeRefusal s need (taken s.settings need) b e) (λ o. IsOfferRefusal need o b e)
