use Rattle.comp_table.proofs.BareLaws.{one_bare, equal_by_bare}
use Rattle.comp_table.proofs.table.TypeTable.equal.Goals as goal

pub returns-clause-bare : goal.returns-clause-bare
returns-clause-bare c = one_bare c.args.self.now c.args.a.0 c.args.b.0 c.bare-bare.result c.bare-other.result c.is_same.result c.bare-bare.ensures c.bare-other.ensures c.is_same.ensures

pub returns-clause-equal : goal.returns-clause-equal
returns-clause-equal c = equal_by_bare c.args.self.now c.args.a.0 c.args.b.0 c.is_same.result (returns-clause-bare c)
