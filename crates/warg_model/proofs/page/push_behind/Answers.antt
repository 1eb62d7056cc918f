use Rattle.std.proofs.Common.{◌++◌, ◌∷◌, [], List, ℕ, true, false, sym, ◌∙◌, ap, append-nil}
use Rattle.warg_record.specs.Envelope.{Signed}
use Rattle.warg_record.specs.View.{envelope_view}
use Rattle.warg_exchange.specs.declared.logs.PublishedRecord.{PublishedRecord}
use Rattle.warg_model.proofs.PageLaws.{behind-one}
use Rattle.warg_model.proofs.page.push_behind.Goals as goal

pub returns-in_ok-push : goal.returns-in_ok-push
returns-in_ok-push g c =
    let out = c.args.out.now.items in
    let e : List ℕ × Signed = (c.args.log_id.now, envelope_view g.E.LogEntry.plain c.args.env.now) in
    c.in_ok-push.ensures.items ∙ ap (λ (p : PublishedRecord). out ++ p ∷ []) c.in_ok-published_record.ensures
    ∙ ap (λ (l : List PublishedRecord). out ++ l) (sym (behind-one true c.args.id.now c.args.after c.args.place e c.if-is_asked.ensures))

pub returns-else-is_asked : goal.returns-else-is_asked
returns-else-is_asked g c =
    let out = c.args.out.now.items in
    let e : List ℕ × Signed = (c.args.log_id.now, envelope_view g.E.LogEntry.plain c.args.env.now) in
    sym (ap (λ (l : List PublishedRecord). out ++ l) (behind-one false c.args.id.now c.args.after c.args.place e c.if-is_asked.ensures) ∙ append-nil out)
