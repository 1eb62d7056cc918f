use Rattle.std.proofs.Common.{◌<◌, ◌∙◌, arith, length, map, refl}
use Rattle.std.proofs.lemmas.List.{length-map}
use Rattle.std.proofs.lemmas.Option.{slice_get_read}
use Rattle.compose_check.specs.Composition.{component_tree}
use Rattle.compose_check.proofs.ShapeLaws.{all_at, component_at}
use Rattle.compose_check.proofs.instances.component_name.Goals as goal

pub returns : goal.returns
returns c =
    let components = c.args.composition.now.components.items in
    let instances = c.args.composition.now.instances.items in
    let number = c.index-number.result.now in
    let size = length-map components component_tree in
    let made = all_at (λ n. n < length (map component_tree components)) instances c.args.instance number c.requires.there c.requires.made.made in
    let below : number < length components = omega (arith, made, size, c.index-number.ensures) in
    record {
      number = number;
      component = component_tree c.index-component.result.now;
      made = slice_get_read instances (length instances) c.args.instance number refl c.requires.there c.index-number.ensures;
      there = component_at components number c.index-component.result.now below c.index-component.ensures;
      named = c.in_ok-name.ensures ∙ c.name.ensures;
    }
