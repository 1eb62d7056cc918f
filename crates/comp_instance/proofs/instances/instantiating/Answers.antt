use Rattle.comp_entity.specs.Entity.{IsInstance}
use Rattle.comp_instance.proofs.RenamedLaws.{instantiating_shown}
use Rattle.comp_instance.proofs.instances.instantiating.Goals as goal

pub returns : goal.returns
returns c = λ s given asked shows arguments imports.
    instantiating_shown c.args.table.now c.args.space.now s shows c.in_ok-found.found c.args.makes c.in_ok-beyond.beyond given asked
    (c.in_ok-found.ensures (IsInstance given) (IsInstance asked) arguments imports) c.in_ok-beyond.ensures
