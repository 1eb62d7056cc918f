use Rattle.std.proofs.Common.{◌<◌, length, arith}
use Rattle.std.proofs.lemmas.Grind.{common_steps}
use Rattle.std.proofs.lemmas.List.Elements.{All-more}
use Rattle.warg_vectors.proofs.answer.no_leaf.Goals as goal

pub loop-place-preserved : goal.loop-place-preserved
loop-place-preserved c =
    let places = c.args.places.now in
    let i = c.loop-place.place-index in
    let here : i < length places = grind (arith, common_steps) in
    All-more (λ place. place < c.args.length) places i 0 here c.loop-place.invariant (grind (arith, common_steps))
