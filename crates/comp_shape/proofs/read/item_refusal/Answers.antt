use Rattle.std.proofs.Common.{ap, true}
use Rattle.comp_entity.specs.Bounds.{Index, DoesNotFit}
use Rattle.comp_scope.specs.Spaces.{nothing_known}
use Rattle.comp_space.specs.Faults.{fault_of}
use Rattle.comp_shape.proofs.ReadLaws.{first_is, item_is_there}
use Rattle.comp_shape.proofs.read.item_refusal.Goals as goal

pub place_of-requires-clause-there : goal.place_of-requires-clause-there
place_of-requires-clause-there c =
    let parts = c.requires.parts in
    item_is_there c.args.items.now parts.0 c.args.part parts.2 (c.requires.first parts.0 parts.2)

pub place_of-requires-in-DoesNotFit-clause-there : goal.place_of-requires-in-DoesNotFit-clause-there
place_of-requires-in-DoesNotFit-clause-there c =
    let parts = c.requires.parts in
    item_is_there c.args.items.now parts.0 c.args.part parts.2 (c.requires.first parts.0 parts.2)

pub returns-in-Ok : goal.returns-in-Ok
returns-in-Ok c =
    let parts = c.requires.parts in record {
      parts = parts.0;
      has_parts = parts.1;
      number = c.args.part.item;
      first = first_is c.args.part.error Index (ap fault_of c.in-Index.is) (nothing_known true) c.args.part.item parts.0 (c.requires.first parts.0 parts.2);
      place = c.in-Ok.ensures.0;
      stands = c.in-Ok.ensures.1;
      at_is = c.in-Ok.ensures.2;
    }

pub returns-in-Ok-place_of : goal.returns-in-Ok-place_of
returns-in-Ok-place_of c =
    let parts = c.requires.parts in record {
      parts = parts.0;
      has_parts = parts.1;
      number = c.args.part.item;
      first = first_is c.args.part.error DoesNotFit (ap fault_of c.in-DoesNotFit.is) (nothing_known true) c.args.part.item parts.0 (c.requires.first parts.0 parts.2);
      place = c.in-Ok-place_of.ensures.0;
      stands = c.in-Ok-place_of.ensures.1;
      at_is = c.in-Ok-place_of.ensures.2;
    }
