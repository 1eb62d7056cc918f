use Rattle.comp_define.proofs.ScopeLaws.{entries_kept}
use Rattle.comp_table.specs.StandLaws.{stands_kept}
use Rattle.comp_define.proofs.closing.sides_of.Goals as goal

pub with_entries-requires : goal.with_entries-requires
with_entries-requires c = (c.requires.0.imports, c.requires.1.imports)

pub with_entries-requires-2 : goal.with_entries-requires-2
with_entries-requires-2 c = (c.requires.0.exports, entries_kept c.args.table.now c.with_entries.new.table c.with_entries.ensures.extends c.args.scope.now.exports c.requires.0.exports c.requires.1.exports)

pub returns-clause-found : goal.returns-clause-found
returns-clause-found c = λ k shows. record {
  imports = stands_kept c.with_entries.new.table c.with_entries-2.new.table c.in_ok-exports.ensures.extends c.in_ok-imports.imports _ (c.in_ok-imports.ensures.number k.imports shows.imports);
  exports = c.in_ok-exports.ensures.number k.exports (entries_kept c.args.table.now c.with_entries.new.table c.with_entries.ensures.extends c.args.scope.now.exports k.exports shows.exports);
}
