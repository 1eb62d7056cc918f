-- Why nothing is composed: the start is refused, or an import of an instance that takes its turn, or what is built in the end.
-- Each is refused in a state that is reached.
use Rattle.std.specs.Prelude.{◌≡◌, ◌≢◌, ◌≤◌, ◌⊎◌, ℕ, true, List, [], length, Some, None, is_some, slice_get}
use Rattle.compose_config.specs.Plan.{Settings}
use Rattle.compose_graph.specs.Encoding.{IsComposeRefusal}
use Rattle.comp_entity.specs.Entity.{ShapeTree}
use Rattle.compose_graph.specs.Graph.{ComponentEntry, GraphTree, component_of, no_graph}
use Rattle.compose_graph.specs.Refusal.{IsInstantiateRefusal, last_id}
use Rattle.compose_graph.specs.declared.compose_error.ComposeError.TheVariants as encoding
use Rattle.compose_files.specs.Built.{AfterSteps, Built, DefinesAt, HasGoodArguments, IsAdded, Sources, import_names, with_named}
use Rattle.compose_files.specs.Composed.{HasDefined, HasTurn, IsBuilt, IsStarted, ServesAt, begun, options_of, root_name}
use Rattle.compose_files.specs.Graph.{IsGraphOf}
use Rattle.compose_files.specs.Refusals.{IsArgumentRefusal, IsDefinitionRefusal, IsFileRefusal, IsGraphRefusal, IsServeRefusal, LacksInstance}
use Rattle.compose_files.specs.declared.error.ComposerError.{ComposerError}
use Rattle.compose_files.specs.declared.error.ComposerError.TheVariants as error

-- ---- the start

-- the definitions in front of this one are added, and this one is refused
pub record StopsAtDefinition (s : Sources) (old : Built) (e : ComposerError) : Type 0 where
  pub number : ℕ
  pub before : Built
  pub defines : AfterSteps (DefinesAt s) old number before
  pub path : List ℕ
  pub there : slice_get s.settings.definitions number ≡ Some path
  pub refused : IsDefinitionRefusal s path before.graph e

-- the root is added, and a definition is refused
pub record StopsAtDefinitions (root : List ℕ) (s : Sources) (e : ComposerError) : Type 0 where
  pub shape : ShapeTree
  pub graph : GraphTree
  pub rooted : IsAdded s.files root root_name shape no_graph graph
  pub refused : StopsAtDefinition s (begun graph) e

-- the component of an instance has no imports
pub record ImportsNothing (g : GraphTree) (id : ℕ) : Type 0 where
  pub component : ComponentEntry
  pub made_from : component_of g id ≡ Some component
  pub none : component.shape.imports ≡ []

abbrev pub IsEmptyRefusal : GraphTree → ℕ → ComposerError → Type 0
IsEmptyRefusal g id error.NoInstanceImports = ImportsNothing g id
IsEmptyRefusal g id error.Memory = Unit {0}
IsEmptyRefusal g id _ = ⊥

abbrev pub IsImportsRefusal : GraphTree → ℕ → ComposerError → Type 0
IsImportsRefusal g id e = IsGraphRefusal (LacksInstance g id) e ⊎ IsEmptyRefusal g id e

-- the arguments of the root's instance name imports, and its imports are refused
pub record HasBadImports (s : Sources) (b : Built) (id : ℕ) (e : ComposerError) : Type 0 where
  pub arguments_good : HasGoodArguments s.settings b.graph root_name id
  pub refused : IsImportsRefusal b.graph id e

-- why the instance of the root, of this number, is refused
abbrev pub IsRootRefusal : Sources → Built → ℕ → ComposerError → Type 0
IsRootRefusal s b id e = IsArgumentRefusal s.settings b.graph root_name id e ⊎ HasBadImports s b id e

-- The root and the definitions are added, and no instance of the root is made, or it is refused.
pub record StopsAtRoot (root : List ℕ) (s : Sources) (e : ComposerError) : Type 0 where
  pub defined : Built
  pub has_defined : HasDefined root s (length s.settings.definitions) defined
  pub refused : IsGraphRefusal (IsInstantiateRefusal defined.graph 0) e
      ⊎ IsRootRefusal s (with_named defined root_name 0) defined.graph.next_instance e

abbrev pub IsStartRefusal : List ℕ → Sources → ComposerError → Type 0
IsStartRefusal root s e =
    IsFileRefusal s.files root root_name no_graph e ⊎ StopsAtDefinitions root s e ⊎ StopsAtRoot root s e

-- ---- turns

-- the imports of an instance in front of this one are served, and this one is refused
pub record StopsAtImport (s : Sources) (instance : List ℕ) (target : ℕ) (names : List (List ℕ)) (old : Built) (e : ComposerError) : Type 0 where
  pub number : ℕ
  pub before : Built
  pub served : AfterSteps (ServesAt s instance target names) old number before
  pub name : List ℕ
  pub there : slice_get names number ≡ Some name
  pub refused : IsServeRefusal s (record { instance = instance; target = target; place = number; name = name }) before e

-- the component of an instance is there, and one of its imports is refused
pub record StopsInside (s : Sources) (instance : List ℕ) (target : ℕ) (old : Built) (e : ComposerError) : Type 0 where
  pub component : ComponentEntry
  pub made_from : component_of old.graph target ≡ Some component
  pub refused : StopsAtImport s instance target (import_names component.shape) old e

-- the named instance of this place stops in its turn
pub record IsTurnRefusal (s : Sources) (place : ℕ) (old : Built) (e : ComposerError) : Type 0 where
  pub name : List ℕ
  pub id : ℕ
  pub there : slice_get old.named place ≡ Some (name, id)
  pub refused : IsGraphRefusal (LacksInstance old.graph id) e ⊎ StopsInside s name id old e

-- From the start on the named instances in front of this one had their turns, and this one stops in its own.
pub record StopsAtTurn (root : List ℕ) (s : Sources) (e : ComposerError) : Type 0 where
  pub start : Built
  pub started : IsStarted root s start
  pub turns : ℕ
  pub before : Built
  pub had_turns : AfterSteps (HasTurn s) start turns before
  pub refused : IsTurnRefusal s turns before e

-- why nothing is built
abbrev pub IsBuildRefusal : List ℕ → Sources → ComposerError → Type 0
IsBuildRefusal root s e = IsStartRefusal root s e ⊎ StopsAtTurn root s e

-- ---- the end

-- what is built has no instance beside the root's, or is not written
abbrev pub IsEndRefusal : Settings → GraphTree → ComposerError → Type 0
IsEndRefusal s g error.NoDependencies = component_of g 1 ≡ None
IsEndRefusal s g (error.Encode e) =
    (is_some (component_of g 1) ≡ true) × IsComposeRefusal g (options_of s) e × (e ≢ encoding.Memory)
IsEndRefusal s g error.Memory = Unit {0}
IsEndRefusal s g _ = ⊥

pub record StopsAtEnd (root : List ℕ) (s : Sources) (e : ComposerError) : Type 0 where
  pub built : Built
  pub is_built : IsBuilt root s built
  pub refused : IsEndRefusal s.settings built.graph e

-- ---- all of it

abbrev pub IsRefused : List ℕ → Sources → ComposerError → Type 0
IsRefused root s e = IsBuildRefusal root s e ⊎ StopsAtEnd root s e

-- The numbers that a graph gave are such as a `usize` holds, of which the largest is given to nothing.
pub record HasNumbers (g : GraphTree) : Type 0 where
  pub components : g.next_component ≤ last_id
  pub instances : g.next_instance ≤ last_id

-- The graph of a configuration and files has all that is to be written: there is an instance beside the root's, and the numbers
-- are in bounds.
pub record IsComplete (root : List ℕ) (s : Sources) (g : GraphTree) : Type 0 where
  pub is_graph : IsGraphOf root s g
  pub several : is_some (component_of g 1) ≡ true
  pub numbers : HasNumbers g

-- a graph is not written
abbrev pub IsEncodeRefusal : Settings → GraphTree → ComposerError → Type 0
IsEncodeRefusal s g (error.Encode e) = IsComposeRefusal g (options_of s) e × (e ≢ encoding.Memory)
IsEncodeRefusal s g error.Memory = Unit {0}
IsEncodeRefusal s g _ = ⊥
