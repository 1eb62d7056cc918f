use Rattle.std.proofs.Common.{sym}
use Rattle.comp_declare.specs.Exported.{exported_of}
use Rattle.comp_declare.proofs.IndexLaws.{index_fails, index_found}
use Rattle.comp_space.specs.Standings.{Shows}
use Rattle.comp_space.specs.StandingLaws.{at_found}
use Rattle.comp_table.specs.Plain.{plain_entity}
use Rattle.comp_declare.proofs.aliases.exported_at.Goals as goal

pub returns-in_err-instance : goal.returns-in_err-instance
returns-in_err-instance c = λ s shows.
    index_fails (Shows plain_entity c.args.table.now) c.args.table.now c.args.space.now.instances.items s.instances c.args.instance (exported_of c.args.sort c.args.name.now) c.from_residual.result shows.instances c.in_err-instance.field-0.0 c.from_residual.ensures.1
    (rw (sym c.deref.ensures.value) c.in_err-instance.ensures)

pub exported-requires : goal.exported-requires
exported-requires c =
    let f = at_found c.args.table.now c.args.space.now.instances.items c.requires.0.instances c.args.instance c.in_ok-instance.instance c.requires.1.instances (rw (sym c.deref.ensures.value) c.in_ok-instance.ensures) in
    (f.value.0, f.shown.stands)

pub returns : goal.returns
returns c = λ s shows.
    index_found (Shows plain_entity c.args.table.now) c.args.table.now c.args.space.now.instances.items s.instances c.args.instance (exported_of c.args.sort c.args.name.now) c.exported.result shows.instances c.in_ok-instance.instance
    (rw (sym c.deref.ensures.value) c.in_ok-instance.ensures) c.exported.ensures
