use Rattle.comp_define.proofs.scope_types.instance_type.Goals as goal

pub with_entries-requires : goal.with_entries-requires
with_entries-requires c = (c.requires.0.exports, c.requires.1.exports)

pub returns-clause-number : goal.returns-clause-number
returns-clause-number c = λ k shows. c.with_entries.ensures.number k.exports shows.exports
