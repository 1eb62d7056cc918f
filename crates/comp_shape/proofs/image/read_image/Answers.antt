use Rattle.std.proofs.Common.{Err, ap, inr, map, subst, sym, ◌∙◌}
use Rattle.comp_entity.specs.Views.{shape_tree}
use Rattle.comp_format.specs.Items.{item_tree}
use Rattle.comp_image.specs.Progress.{is_among}
use Rattle.comp_image.specs.Read.{StopsAt}
use Rattle.comp_shape.proofs.ReadLaws.{behind_front}
use Rattle.comp_shape.proofs.image.read_image.Goals as goal

pub place_of-requires-clause-there : goal.place_of-requires-clause-there
place_of-requires-clause-there c =
    let at = c.in-Err-NotCarried in
    let stops = at.ensures.first at.number (ap (λ e. Err e) at.field-0-is) in
    let same = c.deref-in-Err-NotCarried.ensures.value ∙ sym c.deref.ensures.value in
    behind_front c.deref-in-Err-NotCarried.result.now stops.front stops.back stops.item at.number (ap (map item_tree) same ∙ stops.parts) stops.number_is

pub returns-in-Ok-place_of-clause-cause : goal.returns-in-Ok-place_of-clause-cause
returns-in-Ok-place_of-clause-cause c =
    let at = c.in-Err-NotCarried in
    let stops = at.ensures.first at.number (ap (λ e. Err e) at.field-0-is) in
    let tree = shape_tree c.in-Ok.read.1 in inr (record {
      items = map item_tree c.in-Ok.read.0.items;
      reads = c.in-Ok.ensures.items;
      tree = tree;
      has_shape = c.in-Ok.ensures.shape;
      number = at.number;
      first = subst (λ xs. StopsAt (is_among c.args.components.now.keys) tree.imports (map item_tree xs) at.number) c.deref.ensures.value stops;
      place = c.in-Ok-place_of.ensures.0;
      stands = c.in-Ok-place_of.ensures.1;
      at_is = c.in-Ok-place_of.ensures.2;
    })
