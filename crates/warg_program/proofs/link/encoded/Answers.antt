use Rattle.std.proofs.Common.{subst}
use Rattle.compose_check.specs.declared.error.CheckError.TheVariants.{Cycle}
use Rattle.compose_graph.specs.Encoding.{IsComposeRefusal, IsRefusedBy}
use Rattle.compose_graph.specs.Listed.{graph_of}
use Rattle.warg_program.specs.Link.{root_graph, root_options}
use Rattle.warg_program.proofs.RootLaws.{no_cycle}
use Rattle.warg_program.proofs.link.encoded.Goals as goal

pub unreachable-requires : goal.unreachable-requires
unreachable-requires c =
    let at = c.in-Err-Check-Cycle in
    let graph = graph_of c.args.graph.now in
    let refused = subst (IsRefusedBy graph root_options) at.field-0-0-is (subst (IsComposeRefusal graph root_options) at.field-0-is at.ensures.refused) in
    no_cycle c.requires.0 c.requires.1 at.field-0-0-0 at.field-0-0-1
    (subst (λ g. IsRefusedBy g root_options (Cycle at.field-0-0-0 at.field-0-0-1)) c.requires.2 refused)
