use Rattle.std.proofs.Common.{rules}
use Rattle.test_types.proofs.FormLaws.{labels_cons}
use Rattle.test_types.proofs.form.+are_labels.Goals as goal

pub returns-else-not-differs : goal.returns-else-not-differs
returns-else-not-differs t c = λ u. labels_cons c.args.labels.now c.label-item.result c.in-len1-up.len_at_least c.label-item.is (search rules) (c.differs.ensures (search rules)) (c.are_labels.ensures u)
