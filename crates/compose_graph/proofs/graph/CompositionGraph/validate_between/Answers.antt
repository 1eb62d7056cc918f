use Rattle.std.proofs.Common.{◌≡◌, ◌<◌, ◌∙◌, ap, subst, sym, length, arith, false, cond, None, Some}
use Rattle.std.specs.Prelude.{Bool, is_some}
use Rattle.comp_entity.specs.Entity.{ShapeTree}
use Rattle.comp_entity.specs.Fits.{fits_loosely}
use Rattle.compose_component.specs.Component.{shape_of}
use Rattle.compose_graph.specs.Faults.{fault_at}
use Rattle.compose_graph.specs.Graph.{NotCompatible, component_at, connection_into, given_entity}
use Rattle.compose_graph.specs.Listed.{HeldGraph, component_entries, component_entry, graph_of, held_component}
use Rattle.compose_graph.specs.Refusal.{IsConnectRefusal, IsOfFit}
use Rattle.compose_graph.proofs.FaultLaws.{both_there, memory_alone, named_length, of_fit}
use Rattle.compose_graph.proofs.graph.CompositionGraph.validate_between.Goals as goal

pub returns-then-fits-clause-fits : goal.returns-then-fits-clause-fits
returns-then-fits-clause-fits c =
    let taken = is_some (connection_into c.args.self.now.connections c.args.connection.target c.args.connection.import) in
    let free : is_some (connection_into c.args.self.now.connections c.args.connection.target c.args.connection.import) ≡ false =
    ap (λ (g : HeldGraph). is_some (connection_into g.connections c.args.connection.target c.args.connection.import)) (sym c.self.view_is)
    ∙ sym c.is_connected.ensures ∙ c.if-is_connected.false in
    let lengths : length (shape_of c.args.asking.1.now).imports ≡ length c.types.result.now.imports.items =
    ap (λ (s : ShapeTree). length s.imports) (sym c.types.ensures.value) ∙ named_length c.types.result.now.imports.items in
    let count = c.len.ensures in
    let items = c.types.result.now.imports.ok.0 in
    let within = c.if-connection-len.false in
    let lt : c.args.connection.import < length (shape_of c.args.asking.1.now).imports = omega (arith, lengths, count, items, within) in
    let both = both_there taken (shape_of c.args.giving.1.now) (shape_of c.args.asking.1.now) c.args.connection free lt (sym c.gives.ensures ∙ c.if-not-gives.false) in
    let fits = c.in_ok-fits.ensures (component_entry (held_component c.args.giving.0.0 c.args.giving.1.now)) (component_entry (held_component c.args.asking.0.0 c.args.asking.1.now)) both.given both.asked
    (ap (λ (g : HeldGraph). component_at (component_entries g.components.entries) c.args.giving.0.0) c.self.view_is ∙ c.requires.giving)
    (ap (λ (g : HeldGraph). component_at (component_entries g.components.entries) c.args.asking.0.0) c.self.view_is ∙ c.requires.asking)
    both.gives both.asks in
    both.fault ∙ ap (λ (b : Bool). cond b None (Some NotCompatible)) (sym fits ∙ c.if-fits.true)

pub returns-else-fits-clause-refused : goal.returns-else-fits-clause-refused
returns-else-fits-clause-refused c =
    let taken = is_some (connection_into c.args.self.now.connections c.args.connection.target c.args.connection.import) in
    let free : is_some (connection_into c.args.self.now.connections c.args.connection.target c.args.connection.import) ≡ false =
    ap (λ (g : HeldGraph). is_some (connection_into g.connections c.args.connection.target c.args.connection.import)) (sym c.self.view_is)
    ∙ sym c.is_connected.ensures ∙ c.if-is_connected.false in
    let lengths : length (shape_of c.args.asking.1.now).imports ≡ length c.types.result.now.imports.items =
    ap (λ (s : ShapeTree). length s.imports) (sym c.types.ensures.value) ∙ named_length c.types.result.now.imports.items in
    let count = c.len.ensures in
    let items = c.types.result.now.imports.ok.0 in
    let within = c.if-connection-len.false in
    let lt : c.args.connection.import < length (shape_of c.args.asking.1.now).imports = omega (arith, lengths, count, items, within) in
    let both = both_there taken (shape_of c.args.giving.1.now) (shape_of c.args.asking.1.now) c.args.connection free lt (sym c.gives.ensures ∙ c.if-not-gives.false) in
    let fits = c.in_ok-fits.ensures (component_entry (held_component c.args.giving.0.0 c.args.giving.1.now)) (component_entry (held_component c.args.asking.0.0 c.args.asking.1.now)) both.given both.asked
    (ap (λ (g : HeldGraph). component_at (component_entries g.components.entries) c.args.giving.0.0) c.self.view_is ∙ c.requires.giving)
    (ap (λ (g : HeldGraph). component_at (component_entries g.components.entries) c.args.asking.0.0) c.self.view_is ∙ c.requires.asking)
    both.gives both.asks in
    both.fault ∙ ap (λ (b : Bool). cond b None (Some NotCompatible)) (sym fits ∙ c.if-fits.false)

pub returns-in_err-fits-clause-refused : goal.returns-in_err-fits-clause-refused
returns-in_err-fits-clause-refused c =
    let taken = is_some (connection_into c.args.self.now.connections c.args.connection.target c.args.connection.import) in
    let free : is_some (connection_into c.args.self.now.connections c.args.connection.target c.args.connection.import) ≡ false =
    ap (λ (g : HeldGraph). is_some (connection_into g.connections c.args.connection.target c.args.connection.import)) (sym c.self.view_is)
    ∙ sym c.is_connected.ensures ∙ c.if-is_connected.false in
    let lengths : length (shape_of c.args.asking.1.now).imports ≡ length c.types.result.now.imports.items =
    ap (λ (s : ShapeTree). length s.imports) (sym c.types.ensures.value) ∙ named_length c.types.result.now.imports.items in
    let count = c.len.ensures in
    let items = c.types.result.now.imports.ok.0 in
    let within = c.if-connection-len.false in
    let lt : c.args.connection.import < length (shape_of c.args.asking.1.now).imports = omega (arith, lengths, count, items, within) in
    let both = both_there taken (shape_of c.args.giving.1.now) (shape_of c.args.asking.1.now) c.args.connection free lt (sym c.gives.ensures ∙ c.if-not-gives.false) in
    memory_alone c.from_residual.result (IsConnectRefusal (fault_at (graph_of c.args.self.now) c.args.connection c.args.giving.1.now c.args.asking.1.now)) c.from_residual.ensures.1
    (subst IsOfFit (sym both.fault) (of_fit (fits_loosely (given_entity both.given) both.asked.1)))
