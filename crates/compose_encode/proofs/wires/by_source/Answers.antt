use Rattle.std.proofs.Common.{◌∙◌, ◌++◌, ℕ, List, take, get_or, sym, ap}
use Rattle.std.specs.Prelude.{filter, flat_map}
use Rattle.std.proofs.lemmas.List.{take_more}
use Rattle.compose_left.specs.declared.wiring.Wire.{Wire}
use Rattle.compose_image.specs.Instances.{comes_from}
use Rattle.compose_encode.proofs.ListLaws.{flat_push}
use Rattle.compose_encode.proofs.wires.by_source.Goals as goal

pub loop-source-preserved : goal.loop-source-preserved
loop-source-preserved c =
    let xs = c.deref-source-items.result.now in
    let i = c.loop-source.source-index in
    let f : ℕ → List Wire = λ source. filter (comes_from source) c.args.wires.now in
    c.in_ok-extend_from_slice.ensures.items ∙ (λ k. c.loop-source.invariant k ++ (c.group_of.ensures ∙ c.in_ok-sources.ensures.wires (get_or xs i 0)) k)
    ∙ sym (flat_push f (take i xs) (get_or xs i 0)) ∙ ap (flat_map f) (sym (take_more xs i 0 c.loop-source-test.true))
