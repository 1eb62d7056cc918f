use Rattle.std.proofs.Common.{List, subst}
use Rattle.std.proofs.lemmas.Result.{err_from_is_err_and}
use Rattle.warg_record.specs.Record.{Operator}
use Rattle.warg_record.specs.View.{operator_entry_view}
use Rattle.warg_exchange.specs.declared.logs.PublishedRecord.{PublishedRecord}
use Rattle.warg_exchange.specs.Views.{page_view}
use Rattle.warg_info.specs.Kept.{Grows}
use Rattle.warg_info.specs.Info.{operator_log, kept_of}
use Rattle.warg_page.specs.Views.{logs_view}
use Rattle.warg_page.proofs.PageLaws.{page-fault}
use Rattle.warg_page.proofs.page.take_page.Goals as goal

pub returns-in_err-take_packages-clause-fault : goal.returns-in_err-take_packages-clause-fault
returns-in_err-take_packages-clause-fault g c =
    let accepts = g.V.Verifier.good c.args.verifier.now in
    let log = operator_log c.args.operator.now in
    let grown = kept_of operator_entry_view c.take.new.self in
    let q = err_from_is_err_and c.from_residual.result c.from_residual.ensures.1 in
    rw (q.1, q.2) (λ ids sound good. page-fault c.in_err-take_packages.field-0.0 accepts (logs_view c.args.operator.now c.args.packages.now.items) (page_view c.args.page.now) grown
    (subst (λ (ps : List PublishedRecord). Grows Operator log ps grown) c.as_slice.ensures (c.in-Ok.ensures.grows sound.sound))
    (c.in_err-take_packages.ensures.fault ids good))

pub returns-in_err-take_packages-clause-sound : goal.returns-in_err-take_packages-clause-sound
returns-in_err-take_packages-clause-sound g c = λ are. record { operator = c.take.ensures.sound are.operator; packages = c.take_packages.ensures.sound are.packages }

pub returns-clause-sound : goal.returns-clause-sound
returns-clause-sound g c = λ are. record { operator = c.take.ensures.sound are.operator; packages = c.take_packages.ensures.sound are.packages }
