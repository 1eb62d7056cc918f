use Rattle.std.proofs.Common.{◌≡◌, ◌+◌, List, None, take, drop, map, sym, subst, ◌∙◌}
use Rattle.std.proofs.lemmas.Bool.{false≢true}
use Rattle.warg_record.specs.View.{envelope_view}
use Rattle.warg_log.specs.Breaches.{IsBreach}
use Rattle.warg_log.specs.Follows.{Follows}
use Rattle.warg_log.specs.Lawful.{IsLawful}
use Rattle.warg_log.specs.Rules.{any_signature, breach_of}
use Rattle.warg_record.specs.Envelope.{Signed}
use Rattle.warg_log.proofs.FollowsLaws.{lawful-none, lawful-push, no_breach, cut_at, one_at}
use Rattle.warg_log.proofs.state.LogState.replay.Goals.{then-wants_memory, else-wants_memory}
use Rattle.warg_log.proofs.state.LogState.replay.Goals as goal

pub loop-env-init : goal.loop-env-init
loop-env-init g c = record { lawful = lawful-none g.E.LogEntry.kind any_signature; follows = c.new-state.ensures }

pub returns-in-Err : goal.returns-in-Err
returns-in-Err g c = elim c.if-wants_memory.branch [
  | then-wants_memory w ↦ rw w.result-is tt
  | else-wants_memory w ↦
      rw w.result-is (λ lawful.
      let before : List Signed = map (envelope_view g.E.LogEntry.plain) (take c.loop-env.env-index c.args.envs.now) in
      let ok : breach_of g.E.LogEntry.kind any_signature before (envelope_view g.E.LogEntry.plain c.env-item.result) ≡ None
      = lawful before (map (envelope_view g.E.LogEntry.plain) (drop (c.loop-env.env-index + 1) c.args.envs.now)) (envelope_view g.E.LogEntry.plain c.env-item.result) (cut_at (envelope_view g.E.LogEntry.plain) c.args.envs.now c.loop-env.env-index c.env-item.result c.loop-env-test.true c.env-item.is) in
      absurd (false≢true (sym w.if-wants_memory.false ∙ c.wants_memory.ensures ∙ no_breach c.in-Err.error (subst (IsBreach c.in-Err.error) ok (c.in-Err.ensures.err before c.loop-env.invariant.follows)))))
]

pub loop-env-preserved : goal.loop-env-preserved
loop-env-preserved g c =
    let before : List Signed = map (envelope_view g.E.LogEntry.plain) (take c.loop-env.env-index c.args.envs.now) in
    let more = one_at (envelope_view g.E.LogEntry.plain) c.args.envs.now c.loop-env.env-index c.env-item.result c.loop-env-test.true c.env-item.is in
    record {
      lawful = subst (IsLawful g.E.LogEntry.kind any_signature) (sym more) (lawful-push g.E.LogEntry.kind any_signature before (envelope_view g.E.LogEntry.plain c.env-item.result) c.loop-env.invariant.lawful (c.in_default.ensures.ok before c.loop-env.invariant.follows));
      follows = subst (λ log. Follows {E = g.row.E.Denot} g.E.LogEntry.kind c.follow.new.self log) (sym more) (c.in_default.ensures.follows before c.loop-env.invariant.follows);
    }
