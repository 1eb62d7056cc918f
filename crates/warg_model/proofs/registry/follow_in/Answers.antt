use Rattle.std.proofs.Common.{◌++◌, List, sym, ap, subst}
use Rattle.std.proofs.lemmas.Result.{on_ok_weaker}
use Rattle.warg_record.specs.Envelope.{Signed}
use Rattle.warg_record.specs.Record.{Package}
use Rattle.warg_log.specs.Follows.{Follows}
use Rattle.warg_model.specs.State.{logged_view}
use Rattle.warg_model.proofs.RecordLaws.{own-record, other-record}
use Rattle.warg_model.proofs.registry.follow_in.Goals as goal

pub returns-then-ne : goal.returns-then-ne
returns-then-ne c log follows = subst (Follows Package c.args.state.now) (sym (other-record c.args.id.now (logged_view c.args.record.now) log c.if-ne.ensures)) follows

pub returns : goal.returns
returns c =
    on_ok_weaker c.follow.result
    (λ after log follows. subst (Follows Package c.follow.new.state) (ap (λ (l : List Signed). log ++ l) (sym (own-record c.args.id.now (logged_view c.args.record.now) c.if-ne.ensures))) (after log follows)) c.follow.ensures.follows
