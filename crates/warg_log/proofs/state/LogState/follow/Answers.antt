use Rattle.std.proofs.Common.{◌∷◌, ◌++◌, [], refl, List, not, map, sym, subst, ◌∙◌}
use Rattle.std.specs.Prelude.{is_some}
use Rattle.std.proofs.lemmas.Result.{err_from_is_err_and, IfErr-weaker}
use Rattle.warg_record.specs.View.{envelope_view}
use Rattle.warg_log.specs.Agrees.{Agrees}
use Rattle.warg_log.specs.Breaches.{IsBreach}
use Rattle.warg_log.specs.Follows.{Follows}
use Rattle.warg_log.specs.Facts.{known_by, known_entries_breach}
use Rattle.warg_log.specs.Rules.{any_signature, breach_of, entries_of}
use Rattle.warg_record.specs.Envelope.{Signed}
use Rattle.warg_log.proofs.FollowsLaws.{passed, signer-refused, head-push, agrees-push, on_ok, on_ok_all}
use Rattle.warg_log.proofs.state.LogState.follow.Goals as goal

pub returns-in_err-signer_of-clause-err : goal.returns-in_err-signer_of-clause-err
returns-in_err-signer_of-clause-err g c =
    let p = err_from_is_err_and c.from_residual-in_err-signer_of.result c.from_residual-in_err-signer_of.ensures.1 in
    rw (p.1, p.2) (λ log f. signer-refused g.E.LogEntry.kind any_signature c.args.self.now.head (known_by c.args.self.now.facts) log (envelope_view g.E.LogEntry.plain c.args.env.now) c.in_err-signer_of.field-0.0 f.head f.agrees c.in_ok-check_head.ensures.ok (c.in_err-signer_of.ensures.err any_signature))

pub returns-clause-ok : goal.returns-clause-ok
returns-clause-ok g c = on_ok c.enter.result (λ ok log f. sym (passed g.E.LogEntry.kind any_signature c.args.self.now.head (known_by c.args.self.now.facts) log (envelope_view g.E.LogEntry.plain c.args.env.now) c.in_ok-signer_of.field-0.now f.head f.agrees c.in_ok-check_head.ensures.ok c.in_ok-signer_of.ensures.lacks c.in_ok-signer_of.ensures.key refl) ∙ ok) c.enter.ensures.ok

pub returns-clause-follows : goal.returns-clause-follows
returns-clause-follows g c = on_ok_all c.enter.result
    (λ ok after head log f. record {
      head = head ∙ sym (head-push log (envelope_view g.E.LogEntry.plain c.args.env.now));
      agrees = subst (λ k. Agrees g.E.LogEntry.kind k (entries_of (log ++ envelope_view g.E.LogEntry.plain c.args.env.now ∷ []))) (sym after) (agrees-push g.E.LogEntry.kind any_signature c.args.self.now.head (known_by c.args.self.now.facts) log (envelope_view g.E.LogEntry.plain c.args.env.now) f.head f.agrees ok);
    })
    c.enter.ensures.ok c.enter.ensures.after c.enter.ensures.head

pub returns-clause-err : goal.returns-clause-err
returns-clause-err g c = IfErr-weaker c.enter.result
    (λ e. IsBreach e (known_entries_breach g.E.LogEntry.kind c.args.env.now.key_id (not (is_some c.args.self.now.head)) (known_by c.args.self.now.facts) (map g.E.LogEntry.plain c.args.env.now.rec.entries.items)))
    (λ e. (log : List Signed) → Follows {E = g.row.E.Denot} g.E.LogEntry.kind c.args.self.now log → IsBreach e (breach_of g.E.LogEntry.kind any_signature log (envelope_view g.E.LogEntry.plain c.args.env.now)))
    (λ e bad log f. subst (IsBreach e) (passed g.E.LogEntry.kind any_signature c.args.self.now.head (known_by c.args.self.now.facts) log (envelope_view g.E.LogEntry.plain c.args.env.now) c.in_ok-signer_of.field-0.now f.head f.agrees c.in_ok-check_head.ensures.ok c.in_ok-signer_of.ensures.lacks c.in_ok-signer_of.ensures.key refl) bad)
    c.enter.ensures.err
