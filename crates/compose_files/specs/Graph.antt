-- The graph of a configuration and files, by what holds of the whole of it: the components that it has, what its instances
-- are for, and what each of their imports is given. No order of work is told: that of each list is a fact about the list.
use Rattle.std.specs.Prelude.{◌≡◌, ◌<◌, ℕ, ◌+◌, Bool, false, not, ◌||◌, if◌then◌else◌, List, [], ◌∷◌, ◌++◌, Contains, drop, filter, filter_map, flat_map, length, map, Option, Some, None, is_some, option_map, bytes_eq, ◌==◌}
use Rattle.std.specs.List.{AllByRecursion, AllZip, position_from, range_with_len}
use Rattle.std.specs.Option.{option_or}
use Rattle.warg_base.specs.Files.{FileMap, file_at}
use Rattle.comp_shape.specs.Shape.{HasShape}
use Rattle.compose_config.specs.Plan.{Settings, dependency_name}
use Rattle.compose_graph.specs.Graph.{ComponentEntry, GraphTree, InstanceEntry, component_named, component_of}
use Rattle.compose_graph.specs.Kept.{IsJoined}
use Rattle.compose_graph.specs.declared.connection.Connection.{Connection}
use Rattle.compose_files.specs.Built.{HasGoodArguments, IsChosen, Need, Sources, file_for, import_names, offer, taken}
use Rattle.compose_files.specs.Paths.{joined, stem}
use Rattle.compose_files.specs.Start.{ImportsSome, root_name}
use Rattle.compose_files.specs.declared.offer.Offer.{Offer}

-- what is in a list, each at its first place alone
abbrev pub each_once : {X : Type 0} → (X → X → Bool) → List X → List X
each_once is [] = []
each_once is (x ∷ xs) = x ∷ filter (λ y. not (is y x)) (each_once is xs)

-- ---- what instances are for

-- What an instance is for: a name, or the definition whose component has this number.
pub data Origin : Type 0 where
  Named : List ℕ → Origin
  OfDefinition : ℕ → Origin

abbrev pub is_origin : Origin → Origin → Bool
is_origin (Named a) (Named b) = bytes_eq a b
is_origin (Named a) (OfDefinition d) = false
is_origin (OfDefinition c) (Named b) = false
is_origin (OfDefinition c) (OfDefinition d) = c == d

-- the number of the instance that is for this: its place
abbrev pub instance_for : List Origin → Origin → Option ℕ
instance_for origins origin = position_from (is_origin origin) 0 origins

-- the instances that have names, each with its number, from this number on
abbrev pub named_from : ℕ → List Origin → List (List ℕ × ℕ)
named_from n [] = []
named_from n (Named name ∷ origins) = (name, n) ∷ named_from (n + 1) origins
named_from n (OfDefinition c ∷ origins) = named_from (n + 1) origins

abbrev pub named_of : List Origin → List (List ℕ × ℕ)
named_of origins = named_from 0 origins

-- ---- components

-- a component is what the file at a path holds
pub record IsOfFile (files : FileMap) (path : List ℕ) (c : ComponentEntry) : Type 0 where
  pub found : file_at files path ≡ Some c.bytes
  pub shaped : HasShape c.bytes c.shape

-- a definition: the component of its file, under the file's stem
pub record IsOfDefinition (s : Sources) (path : List ℕ) (c : ComponentEntry) : Type 0 where
  pub named : stem path ≡ Some c.name
  pub of_file : IsOfFile s.files (joined s.dir path) c

-- a component that is found by its name
pub record IsFound (s : Sources) (c : ComponentEntry) : Type 0 where
  pub path : List ℕ
  pub file : file_for s c.name ≡ Some path
  pub of_file : IsOfFile s.files path c

abbrev pub component_names : List ComponentEntry → List (List ℕ)
component_names cs = map (λ (c : ComponentEntry). c.name) cs

-- the names of the components that are asked for by the instances that have names, the first of which is the root's
abbrev pub asked_names : Settings → List Origin → List (List ℕ)
asked_names s origins = map (λ (i : List ℕ × ℕ). dependency_name s i.0) (drop 1 (named_of origins))

-- The components: the root; the definitions in the order of the configuration; and those that instances ask for and that are
-- none of these, in the order in which they are asked for first. No two have one name. Each has its place as its number.
pub record HasComponents (root : List ℕ) (s : Sources) (g : GraphTree) (origins : List Origin)
    (first : List ComponentEntry) : Type 0 where
  pub of_root : ComponentEntry
  pub defined : List ComponentEntry
  pub found : List ComponentEntry
  pub first_are : first ≡ of_root ∷ defined
  pub all : g.components ≡ first ++ found
  pub root_named : of_root.name ≡ root_name
  pub root_file : IsOfFile s.files root of_root
  pub definitions : AllZip (IsOfDefinition s) s.settings.definitions defined
  pub files : AllByRecursion (IsFound s) found
  pub order : component_names g.components ≡ each_once bytes_eq (component_names first ++ asked_names s.settings origins)
  pub numbers : map (λ (c : ComponentEntry). c.id) g.components ≡ range_with_len 0 (length g.components)
  pub next : g.next_component ≡ length g.components

-- ---- imports

-- the imports of an instance, from this place on
abbrev pub needs_from : List ℕ → ℕ → ℕ → List (List ℕ) → List Need
needs_from instance target place [] = []
needs_from instance target place (name ∷ names) =
    record { instance = instance; target = target; place = place; name = name }
    ∷ needs_from instance target (place + 1) names

abbrev pub needs_by : List ℕ → ℕ → Option ComponentEntry → List Need
needs_by instance target None = []
needs_by instance target (Some c) = needs_from instance target 0 (import_names c.shape)

-- the imports of an instance of this name and number, in their order
abbrev pub needs_of : GraphTree → List ℕ × ℕ → List Need
needs_of g i = needs_by i.0 i.1 (component_of g i.1)

-- the imports of all instances that have names; those of a definition's instance are left
abbrev pub needs : GraphTree → List Origin → List Need
needs g origins = flat_map (needs_of g) (named_of origins)

-- what the first of these definitions that exports an instance of a name has for it
abbrev pub first_offer : List ComponentEntry → List ℕ → Option Offer
first_offer [] name = None
first_offer (c ∷ cs) name = option_or (offer c.id c.shape name) (first_offer cs name)

-- what a definition has for an import; the root stands in front of the definitions
abbrev pub offered : List ComponentEntry → Need → Option Offer
offered first need = first_offer (drop 1 first) need.name

-- There is a component for an instance of a name: for the root's; or one of the root and the definitions has the
-- component's name, or there is a file for it.
abbrev pub has_component : Sources → List ComponentEntry → List ℕ → Bool
has_component s first name =
    bytes_eq name root_name
    || (is_some (component_named first (dependency_name s.settings name))
    || is_some (file_for s (dependency_name s.settings name)))

abbrev pub named_source : Sources → List ComponentEntry → List ℕ → Option Origin
named_source s first name = if has_component s first name then Some (Named name) else None

abbrev pub source_by : Sources → List ComponentEntry → Need → Option Offer → Option Origin
source_by s first need (Some o) = Some (OfDefinition o.component)
source_by s first need None = named_source s first (taken s.settings need).instance

-- Which instance an import is given: that of the first definition that exports an instance of its name; and else that of the
-- name which its argument gives, or of its own name, where there is a component for it.
abbrev pub source_of : Sources → List ComponentEntry → Need → Option Origin
source_of s first need = source_by s first need (offered first need)

-- ---- instances

-- the number of the component of an instance: for the root's it is 0, and else the one of the name that the configuration gives
abbrev pub component_number : Settings → List ComponentEntry → Origin → Option ℕ
component_number s cs (OfDefinition c) = Some c
component_number s cs (Named name) =
    if bytes_eq name root_name then Some 0
    else option_map (λ (c : ComponentEntry). c.id) (component_named cs (dependency_name s name))

abbrev pub IsInstanceOf : Settings → List ComponentEntry → Origin → InstanceEntry → Type 0
IsInstanceOf s cs origin i = component_number s cs origin ≡ Some i.component

-- an instance is given to an import of one that stands before it
pub record IsReached (g : GraphTree) (n : ℕ) : Type 0 where
  pub connection : Connection
  pub there : Contains g.connections connection
  pub given : connection.source ≡ n
  pub before : connection.target < n

-- The instances: the root's, and those that the imports are given, each once, in the order in which they are given first. Each
-- is given to an import of one that stands before it. Each has its place as its number.
pub record HasInstances (s : Sources) (g : GraphTree) (origins : List Origin) (first : List ComponentEntry) : Type 0 where
  pub order : origins ≡ each_once is_origin (Named root_name ∷ filter_map (source_of s first) (needs g origins))
  pub reached : (n : ℕ) → 0 < n → n < length origins → IsReached g n
  pub components : AllZip (IsInstanceOf s.settings g.components) origins g.instances
  pub numbers : map (λ (i : InstanceEntry). i.id) g.instances ≡ range_with_len 0 (length origins)
  pub next : g.next_instance ≡ length origins

-- ---- connections

-- what of an instance an import is given: what a definition has for it, and else what is chosen
abbrev pub IsExportFor : Sources → GraphTree → Need → Option Offer → Connection → Type 0
IsExportFor s g need (Some o) c = c.export ≡ Some o.export
IsExportFor s g need None c = IsChosen g c.source need (taken s.settings need).export c.export

-- an import is given an instance, of which it is not an import itself, or an export of that, which fits
pub record IsGiven (s : Sources) (g : GraphTree) (origins : List Origin) (first : List ComponentEntry) (need : Need)
    (origin : Origin) (c : Connection) : Type 0 where
  pub source : instance_for origins origin ≡ Some c.source
  pub target : c.target ≡ need.target
  pub import : c.import ≡ need.place
  pub export : IsExportFor s g need (offered first need) c
  pub apart : (c.source == c.target) ≡ false
  pub joined : IsJoined g c

-- an import may be left, since imports are not disallowed and no export is asked for
pub record MayBeLeft (s : Settings) (need : Need) : Type 0 where
  pub allowed : s.disallow_imports ≡ false
  pub no_export : (taken s need).export ≡ None

-- what an import is given, by which instance that is of; it is left where there is none
abbrev pub IsServedFrom : Sources → GraphTree → List Origin → List ComponentEntry → Need → Option Origin
    → Option Connection → Type 0
IsServedFrom s g origins first need None None = MayBeLeft s.settings need
IsServedFrom s g origins first need None (Some c) = ⊥
IsServedFrom s g origins first need (Some origin) None = ⊥
IsServedFrom s g origins first need (Some origin) (Some c) = IsGiven s g origins first need origin c

abbrev pub IsServing : Sources → GraphTree → List Origin → List ComponentEntry → Need → Option Connection → Type 0
IsServing s g origins first need c = IsServedFrom s g origins first need (source_of s first need) c

-- The connections: what the imports are given that are not left, in their order.
pub record HasConnections (s : Sources) (g : GraphTree) (origins : List Origin) (first : List ComponentEntry) : Type 0 where
  pub given : List (Option Connection)
  pub each : AllZip (IsServing s g origins first) (needs g origins) given
  pub connections : g.connections ≡ filter_map (λ c. c) given

-- ---- the graph

-- The graph of a configuration and files: besides, the arguments of each instance that has a name are for imports of it, and the
-- root has imports. The components in front are the root and the definitions.
pub record IsGraphOf (root : List ℕ) (s : Sources) (g : GraphTree) : Type 0 where
  pub origins : List Origin
  pub first : List ComponentEntry
  pub components : HasComponents root s g origins first
  pub instances : HasInstances s g origins first
  pub connections : HasConnections s g origins first
  pub arguments_good :
      AllByRecursion (λ (i : List ℕ × ℕ). HasGoodArguments s.settings g i.0 i.1) (named_of origins)
  pub root_imports : ImportsSome g 0
