-- The steps by which the graph of a configuration and files is built, and the component that is composed of it.
use Rattle.std.specs.Prelude.{◌≡◌, ℕ, List, [], true, length, not, Some, None, is_some, slice_get}
use Rattle.comp_entity.specs.Entity.{ShapeTree}
use Rattle.compose_config.specs.Plan.{Settings}
use Rattle.compose_graph.specs.Encoding.{IsEncoding}
use Rattle.compose_graph.specs.Graph.{ComponentEntry, GraphTree, component_of, no_graph}
use Rattle.compose_graph.specs.declared.options.EncodeOptions.{EncodeOptions}
use Rattle.compose_files.specs.Built.{AfterSteps, Built, DefinesAt, HasGoodArguments, IsAdded, Serves, Sources, import_names, with_named}
use Rattle.compose_files.specs.Graph.{IsGraphOf}
pub use Rattle.compose_files.specs.Start.{ImportsSome, root_name}

-- with a root, without anything else
abbrev pub begun : GraphTree → Built
begun g = record { graph = g; named = []; made = λ c. None; offers = λ name. None }

-- the root is added, and so many definitions
pub record HasDefined (root : List ℕ) (s : Sources) (n : ℕ) (b : Built) : Type 0 where
  pub shape : ShapeTree
  pub graph : GraphTree
  pub rooted : IsAdded s.files root root_name shape no_graph graph
  pub defines : AfterSteps (DefinesAt s) (begun graph) n b

-- The start: the root and then the definitions are added, and an instance of the root is made, whose arguments name imports,
-- of which it has some.
pub record IsStarted (root : List ℕ) (s : Sources) (b : Built) : Type 0 where
  pub defined : Built
  pub has_defined : HasDefined root s (length s.settings.definitions) defined
  pub instantiated : b ≡ with_named defined root_name 0
  pub arguments_good : HasGoodArguments s.settings b.graph root_name defined.graph.next_instance
  pub imports_some : ImportsSome b.graph defined.graph.next_instance

-- of the imports of an instance the one of this place is served
pub record ServesAt (s : Sources) (instance : List ℕ) (target : ℕ) (names : List (List ℕ)) (n : ℕ) (old new : Built) : Type 0 where
  pub name : List ℕ
  pub there : slice_get names n ≡ Some name
  pub serves : Serves s (record { instance = instance; target = target; place = n; name = name }) old new

-- the imports of the named instance of this place are served, in their order
pub record HasTurn (s : Sources) (k : ℕ) (old new : Built) : Type 0 where
  pub name : List ℕ
  pub id : ℕ
  pub there : slice_get old.named k ≡ Some (name, id)
  pub component : ComponentEntry
  pub made_from : component_of old.graph id ≡ Some component
  pub served : AfterSteps (ServesAt s name id (import_names component.shape)) old (length component.shape.imports) new

-- From the start on, each named instance has its turn in the order made, and then there is none left.
pub record IsBuilt (root : List ℕ) (s : Sources) (b : Built) : Type 0 where
  pub start : Built
  pub started : IsStarted root s start
  pub turns : AfterSteps (HasTurn s) start (length b.named) b

-- the root's instance is the first that is made
abbrev pub options_of : Settings → EncodeOptions
options_of s = record {
  define_components = not s.import_components;
  export = Some (record { 0 = 0 });
  validate = not s.skip_validation;
}

-- The bytes are the graph of a configuration and files as one component. It has an instance beside the root's, which has the number 0.
pub record IsComposed (root : List ℕ) (s : Sources) (bytes : List ℕ) : Type 0 where
  pub graph : GraphTree
  pub is_graph : IsGraphOf root s graph
  pub several : is_some (component_of graph 1) ≡ true
  pub encoded : IsEncoding graph (options_of s.settings) bytes

-- Two components are encodings of the one graph of a configuration and files.
pub record HaveOneGraph (root : List ℕ) (s : Sources) (a b : List ℕ) : Type 0 where
  pub graph : GraphTree
  pub is_graph : IsGraphOf root s graph
  pub one : IsEncoding graph (options_of s.settings) a
  pub other : IsEncoding graph (options_of s.settings) b
