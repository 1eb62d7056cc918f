use Rattle.std.proofs.Common.{ap, ◌∙◌}
use Rattle.std.specs.Ordering.{is_eq}
use Rattle.warg_record.proofs.ValidLaws.{tied, same_by_order}
use Rattle.warg_record.proofs.version.have_same_parts.Goals as goal

pub returns : goal.returns
returns c = same_by_order c.args.a.now c.args.b.now c.eq.result (c.eq.ensures ∙ tied c.cmp.result ∙ ap is_eq c.cmp.ensures)
