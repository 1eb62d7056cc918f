use Rattle.warg_plan.specs.View.{plan_view}
use Rattle.warg_replay.specs.Replay.{accepts_listed}
use Rattle.warg_replay.proofs.ReplayLaws.{replay_complete, replay_fault, replayed}
use Rattle.warg_replay.proofs.replayed.replay.Goals as goal

pub returns-in-Ok-clause-replayed : goal.returns-in-Ok-clause-replayed
returns-in-Ok-clause-replayed c =
    replayed (accepts_listed c.args.checked) c.args.replies.items _ c.args.text.now c.in-Ok.made.lock.bytes.items c.in-Ok.made.bytes.items c.in-Ok.made.lock.left.items (plan_view c.in-Ok.made.plan) c.new.ensures c.in-Ok.ensures.assembled

pub returns-in-Err-clause-cause : goal.returns-in-Err-clause-cause
returns-in-Err-clause-cause c = replay_fault (accepts_listed c.args.checked) c.args.replies.items _ c.in-Err.error c.args.text.now c.new.ensures c.in-Err.ensures.cause

pub returns-in-Err-clause-complete : goal.returns-in-Err-clause-complete
returns-in-Err-clause-complete c =
    let given = c.recorded_replies_are_given.ensures in
    replay_complete (accepts_listed c.args.checked) c.args.replies.items _ c.args.text.now c.in-Err.error c.new.ensures given.given given.answered c.in-Err.ensures.cause
