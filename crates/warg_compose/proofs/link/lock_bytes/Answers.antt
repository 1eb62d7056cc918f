use Rattle.std.proofs.Common.{false, subst}
use Rattle.compose_check.specs.Composition.{composition_tree}
use Rattle.compose_encode.specs.Whole.{IsEncodeRefusal, IsRefusedBy}
use Rattle.warg_compose.proofs.LockLaws.{apart, made, no_clash, no_cycle}
use Rattle.warg_compose.proofs.link.lock_bytes.Goals as goal

pub encode_composition-requires-clause-made : goal.encode_composition-requires-clause-made
encode_composition-requires-clause-made c = made c.one_shape.ensures (composition_tree c.args.composition.now) c.args.root c.requires

pub encode_composition-requires-clause-names : goal.encode_composition-requires-clause-names
encode_composition-requires-clause-names c =
    let tree = composition_tree c.args.composition.now in
    c.components_apart_have_own_names.ensures tree (apart c.one_shape.ensures tree c.args.root c.requires)

pub unreachable-requires : goal.unreachable-requires
unreachable-requires c =
    let tree = composition_tree c.args.composition.now in
    let refused = subst (IsEncodeRefusal tree false c.args.root) c.in-Err-Refused-Cycle.field-0-is c.in-Err-Refused-Cycle.ensures.refused in
    no_cycle c.one_shape.ensures tree c.args.root c.requires c.in-Err-Refused-Cycle.field-0-0-0 c.in-Err-Refused-Cycle.field-0-0-1
    (subst (IsRefusedBy tree false c.args.root) c.in-Err-Refused-Cycle.field-0-0-is refused)

pub unreachable-requires-in-Err-ImportNameClash : goal.unreachable-requires-in-Err-ImportNameClash
unreachable-requires-in-Err-ImportNameClash c =
    let tree = composition_tree c.args.composition.now in
    no_clash c.one_shape.ensures tree c.args.root c.requires c.in-Err-ImportNameClash.field-0-0
    (subst (IsEncodeRefusal tree false c.args.root) c.in-Err-ImportNameClash.field-0-is c.in-Err-ImportNameClash.ensures.refused)
