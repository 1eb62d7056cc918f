-- Why the calls of a composition graph refuse: each error by its cause, the first that holds.
use Rattle.std.specs.Prelude.{◌≡◌, ℕ, ◌<◌, true, List, Option, Some, None, is_some}
use Rattle.compose_graph.specs.Graph.{GraphTree, component_at, component_named, instance_at, ConnectFault, SelfConnection, NoSource, NoTarget, BadImportIndex, AlreadyConnected, BadExportIndex, NotCompatible}
use Rattle.compose_graph.specs.declared.error.GraphError.{GraphError}
use Rattle.compose_graph.specs.declared.error.GraphError.TheVariants as error

-- the largest number of a `usize`, which is given to nothing
abbrev pub last_id : ℕ
last_id = 18446744073709551615

-- a component of this name is not added to a graph
abbrev pub IsAddRefusal : GraphTree → List ℕ → GraphError → Type 0
IsAddRefusal g name (error.NameExists told) = (told ≡ name) × (is_some (component_named g.components name) ≡ true)
IsAddRefusal g name error.IdLimit = (component_named g.components name ≡ None) × (g.next_component ≡ last_id)
IsAddRefusal g name error.Memory = (component_named g.components name ≡ None) × (g.next_component < last_id)
IsAddRefusal g name error.NoComponent = ⊥
IsAddRefusal g name error.SelfConnection = ⊥
IsAddRefusal g name error.NoSource = ⊥
IsAddRefusal g name error.NoTarget = ⊥
IsAddRefusal g name error.BadImportIndex = ⊥
IsAddRefusal g name error.AlreadyConnected = ⊥
IsAddRefusal g name error.BadExportIndex = ⊥
IsAddRefusal g name error.NotCompatible = ⊥

-- no instance is made of a component of this number
abbrev pub IsInstantiateRefusal : GraphTree → ℕ → GraphError → Type 0
IsInstantiateRefusal g id error.NoComponent = component_at g.components id ≡ None
IsInstantiateRefusal g id error.IdLimit = (is_some (component_at g.components id) ≡ true) × (g.next_instance ≡ last_id)
IsInstantiateRefusal g id error.Memory = (is_some (component_at g.components id) ≡ true) × (g.next_instance < last_id)
IsInstantiateRefusal g id (error.NameExists told) = ⊥
IsInstantiateRefusal g id error.SelfConnection = ⊥
IsInstantiateRefusal g id error.NoSource = ⊥
IsInstantiateRefusal g id error.NoTarget = ⊥
IsInstantiateRefusal g id error.BadImportIndex = ⊥
IsInstantiateRefusal g id error.AlreadyConnected = ⊥
IsInstantiateRefusal g id error.BadExportIndex = ⊥
IsInstantiateRefusal g id error.NotCompatible = ⊥

-- whether something fits was asked: memory is needed for that, and for adding the connection
abbrev pub IsOfFit : Option ConnectFault → Type 0
IsOfFit None = Unit {0}
IsOfFit (Some NotCompatible) = Unit {0}
IsOfFit (Some SelfConnection) = ⊥
IsOfFit (Some NoSource) = ⊥
IsOfFit (Some NoTarget) = ⊥
IsOfFit (Some BadImportIndex) = ⊥
IsOfFit (Some AlreadyConnected) = ⊥
IsOfFit (Some BadExportIndex) = ⊥

-- a connection is refused that has this fault, where it has one
abbrev pub IsConnectRefusal : Option ConnectFault → GraphError → Type 0
IsConnectRefusal fault error.SelfConnection = fault ≡ Some SelfConnection
IsConnectRefusal fault error.NoSource = fault ≡ Some NoSource
IsConnectRefusal fault error.NoTarget = fault ≡ Some NoTarget
IsConnectRefusal fault error.BadImportIndex = fault ≡ Some BadImportIndex
IsConnectRefusal fault error.AlreadyConnected = fault ≡ Some AlreadyConnected
IsConnectRefusal fault error.BadExportIndex = fault ≡ Some BadExportIndex
IsConnectRefusal fault error.NotCompatible = fault ≡ Some NotCompatible
IsConnectRefusal fault error.Memory = IsOfFit fault
IsConnectRefusal fault (error.NameExists told) = ⊥
IsConnectRefusal fault error.IdLimit = ⊥
IsConnectRefusal fault error.NoComponent = ⊥

-- two instances are not disconnected, since one of them is not there
abbrev pub IsDisconnectRefusal : GraphTree → ℕ → ℕ → GraphError → Type 0
IsDisconnectRefusal g source target error.NoSource = instance_at g.instances source ≡ None
IsDisconnectRefusal g source target error.NoTarget =
    (is_some (instance_at g.instances source) ≡ true) × (instance_at g.instances target ≡ None)
IsDisconnectRefusal g source target (error.NameExists told) = ⊥
IsDisconnectRefusal g source target error.IdLimit = ⊥
IsDisconnectRefusal g source target error.NoComponent = ⊥
IsDisconnectRefusal g source target error.SelfConnection = ⊥
IsDisconnectRefusal g source target error.BadImportIndex = ⊥
IsDisconnectRefusal g source target error.AlreadyConnected = ⊥
IsDisconnectRefusal g source target error.BadExportIndex = ⊥
IsDisconnectRefusal g source target error.NotCompatible = ⊥
IsDisconnectRefusal g source target error.Memory = ⊥
