use Rattle.std.proofs.Common.{◌≡◌, ◌+◌, ◌∷◌, List, drop, map, sym, ap, subst, ◌∙◌, false}
use Rattle.std.specs.Option.{option_or}
use Rattle.std.proofs.lemmas.List.{drop_more}
use Rattle.warg_record.specs.Record.{PlainEntry}
use Rattle.warg_log.specs.Facts.{known_by, known_step, known_entries_breach, known_steps, undone_all}
use Rattle.warg_log.proofs.FactsLaws.{undone_all-push, CanUndoAll-push}
use Rattle.warg_log.proofs.judged.enter_each.Goals as goal

pub loop-entry-preserved : goal.loop-entry-preserved
loop-entry-preserved g c =
    let here : drop c.loop-entry.entry-index c.args.entries.now ≡ c.entry-item.result ∷ drop (c.loop-entry.entry-index + 1) c.args.entries.now
    = drop_more c.args.entries.now c.loop-entry.entry-index c.entry-item.result c.loop-entry-test.true ∙ ap (λ x. x ∷ drop (c.loop-entry.entry-index + 1) c.args.entries.now) (sym c.entry-item.is) in
    let breach = subst (λ es. known_entries_breach g.E.LogEntry.kind c.args.signer.now c.loop-entry.first (known_by c.loop-entry.facts) (map g.E.LogEntry.plain es) ≡ known_entries_breach g.E.LogEntry.kind c.args.signer.now c.args.opens (known_by c.args.facts.now) (map g.E.LogEntry.plain c.args.entries.now)) here c.loop-entry.invariant.breach in
    let after = subst (λ es. known_steps g.E.LogEntry.kind (known_by c.loop-entry.facts) (map g.E.LogEntry.plain es) ≡ known_steps g.E.LogEntry.kind (known_by c.args.facts.now) (map g.E.LogEntry.plain c.args.entries.now)) here c.loop-entry.invariant.after in
    let rest : List PlainEntry = map g.E.LogEntry.plain (drop (c.loop-entry.entry-index + 1) c.args.entries.now) in
    record {
      breach = rw (c.in_ok-undo.ensures.after) (sym (ap (λ f. option_or f (known_entries_breach g.E.LogEntry.kind c.args.signer.now false (known_step g.E.LogEntry.kind (known_by c.loop-entry.facts) (g.E.LogEntry.plain c.entry-item.result)) rest)) c.in_ok-undo.ensures.ok) ∙ breach);
      after = rw (c.in_ok-undo.ensures.after) after;
      undo = rw (c.in_default.ensures.items) (undone_all-push c.loop-entry.undos.items c.in_ok-undo.undo (known_by c.enter.new.facts) ∙ ap (undone_all c.loop-entry.undos.items) c.in_ok-undo.ensures.undo ∙ c.loop-entry.invariant.undo);
      can = rw (c.in_default.ensures.items) (CanUndoAll-push c.loop-entry.undos.items c.in_ok-undo.undo (known_by c.enter.new.facts) c.in_ok-undo.ensures.can (rw c.in_ok-undo.ensures.undo c.loop-entry.invariant.can));
    }
