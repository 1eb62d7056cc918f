use Rattle.comp_shape.proofs.ReadLaws.{parts_there}
use Rattle.comp_shape.proofs.read.read_component.Goals as goal

pub shape_of-requires : goal.shape_of-requires
shape_of-requires c =
    let parts = parts_there c.parts_are_items.ensures c.one_reading.ensures c.args.bytes.now c.in-Ok.items.items c.deref.result.now c.deref.ensures.value c.in-Ok.ensures.found in
    (parts.0, parts.2)

pub returns-in-Ok-shape_of-clause-shape : goal.returns-in-Ok-shape_of-clause-shape
returns-in-Ok-shape_of-clause-shape c =
    let parts = parts_there c.parts_are_items.ensures c.one_reading.ensures c.args.bytes.now c.in-Ok.items.items c.deref.result.now c.deref.ensures.value c.in-Ok.ensures.found in
    record { parts = parts.0; has_parts = parts.1; shape_is = c.in-Ok-shape_of.ensures.found parts.0 parts.2 }

pub refusal-requires-clause-parts : goal.refusal-requires-clause-parts
refusal-requires-clause-parts c =
    parts_there c.parts_are_items.ensures c.one_reading.ensures c.args.bytes.now c.in-Ok.items.items c.deref-in-Err-shape_of.result.now c.deref-in-Err-shape_of.ensures.value c.in-Ok.ensures.found
