use Rattle.std.proofs.Common.{◌++◌, ◌∷◌, [], ap, ◌∙◌}
use Rattle.std.proofs.lemmas.List.{map-append}
use Rattle.compose_agree.specs.Order.{needs_of}
use Rattle.compose_check.proofs.InstanceLaws.{one_empty}
use Rattle.compose_check.proofs.instances.empty_lists.Goals as goal

pub loop-made-preserved : goal.loop-made-preserved
loop-made-preserved c =
    ap needs_of c.in_ok-push.ensures.items ∙ map-append (λ n. n.items) c.loop-made.lists.items (c.new.result ∷ [])
    ∙ (λ i. c.loop-made.invariant i ++ c.new.ensures.items i ∷ []) ∙ one_empty c.loop-made._made
