use Rattle.std.proofs.Common.{rules}
use Rattle.test_types.proofs.FormLaws.{entries_cons}
use Rattle.test_types.proofs.form.+are_labelled.Goals as goal

pub returns-else-not-differs_from : goal.returns-else-not-differs_from
returns-else-not-differs_from g t c = λ u. entries_cons c.args.entries.now c.entry-item.result c.in-len1-up.len_at_least c.entry-item.is (search rules) (c.differs_from.ensures (search rules)) (c.are_labelled.ensures u)
