-- What is replayed, or is not.
use Rattle.std.proofs.Common.{subst}
use Rattle.warg_info.specs.Faults.{IsReplayFault}
use Rattle.warg_info.specs.Info.{kept_of}
use Rattle.warg_info.specs.declared.error.ReplayError.{ReplayError}
use Rattle.warg_info_text.proofs.ReplayLaws.{replay_is_read, no_record, no_lawful_record}
use Rattle.warg_info_text.proofs.replay.replayed.Goals as goal

pub returns-in-Ok-clause-log : goal.returns-in-Ok-clause-log
returns-in-Ok-clause-log g c =
    let sound = c.in-Ok.ensures.sound in
    replay_is_read c.key_texts_are_tested.ensures g.E.LogEntry.kind c.args.records.now (kept_of g.E.LogEntry.plain c.in-Ok.log) c.in-Ok.ensures.kept sound.ascends sound.replay.lawful

pub returns-in-Err-BadEnvelope-clause-log : goal.returns-in-Err-BadEnvelope-clause-log
returns-in-Err-BadEnvelope-clause-log g c =
    let fault = subst (λ (e : ReplayError). IsReplayFault e g.E.LogEntry.kind c.args.records.now) c.in-Err-BadEnvelope.field-0-is c.in-Err-BadEnvelope.ensures.fault in
    no_record c.key_texts_are_tested.ensures g.E.LogEntry.kind c.args.records.now fault.1 fault.2

pub returns-in-Err-Unlawful-clause-log : goal.returns-in-Err-Unlawful-clause-log
returns-in-Err-Unlawful-clause-log g c =
    let fault = subst (λ (e : ReplayError). IsReplayFault e g.E.LogEntry.kind c.args.records.now) c.in-Err-Unlawful.field-0-is c.in-Err-Unlawful.ensures.fault in
    no_lawful_record c.key_texts_are_tested.ensures g.E.LogEntry.kind c.args.records.now fault.1 c.in-Err-Unlawful.field-0-0 fault.0 fault.2
