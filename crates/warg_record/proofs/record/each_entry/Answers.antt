use Rattle.std.proofs.Common.{◌≡◌, ◌<◌, ◌++◌, ◌∷◌, [], length, map, sym, ap, ◌∙◌, arith}
use Rattle.std.specs.Prelude.{Err}
use Rattle.warg_record.specs.declared.error.EnvelopeError.{EnvelopeError}
use Rattle.warg_record.specs.EntryLaws.{entry-again, entry_refuses}
use Rattle.std.proofs.lemmas.Bool.{eqb-true, eqb-false}
use Rattle.std.proofs.lemmas.List.{map_push}
use Rattle.std.proofs.lemmas.Result.{err_from_is_err_and}
use Rattle.warg_record.specs.Reading.{entry_at}
use Rattle.warg_record.proofs.Loop.{field_at-short, field_at-shorter, goes_on, field_ends, value_ends, is_done}
use Rattle.warg_record.proofs.record.each_entry.Goals as goal

pub returns-in_err-field : goal.returns-in_err-field
returns-in_err-field g c =
    let p = err_from_is_err_and c.from_residual.result c.from_residual.ensures.1 in
    let some = eqb-false (length c.loop-rest.rest.now) 0 (sym c.is_empty.ensures ∙ c.loop-rest-test.true) in
    let lt : 0 < length c.loop-rest.rest.now = omega arith in
    rw (p.1, p.2) (field_ends (entry_at g.E.LogEntry.kind) 4 c.in_err-field.field-0.0 (map g.E.LogEntry.plain c.loop-rest.entries.items) c.loop-rest.rest.now _ lt c.in_err-field.ensures c.loop-rest.invariant)

pub returns-in_err-read : goal.returns-in_err-read
returns-in_err-read g c =
    let p = err_from_is_err_and c.from_residual-in_err-read.result c.from_residual-in_err-read.ensures.1 in
    rw (p.1, p.2) (value_ends (entry_at g.E.LogEntry.kind) 4 c.in_err-read.field-0.0 (map g.E.LogEntry.plain c.loop-rest.entries.items) c.loop-rest.rest.now (c.in_ok-field.field.now, c.in_ok-field.after.now) _ c.in_ok-field.ensures (entry_refuses g.E.LogEntry.kind c.in_ok-field.field.now c.in_err-read.field-0.0 (λ is. c.in_err-read.ensures.form (ap (λ (e : EnvelopeError). Err e) is))) c.loop-rest.invariant)

pub loop-rest-smaller : goal.loop-rest-smaller
loop-rest-smaller g c = field_at-shorter 4 c.loop-rest.rest.now (c.in_ok-field.field.now, c.in_ok-field.after.now) c.in_ok-field.ensures

pub loop-rest-preserved : goal.loop-rest-preserved
loop-rest-preserved g c =
    let text = g.E.LogEntry.plain in
    let e : map text c.push.new.self.items ≡ map text c.loop-rest.entries.items ++ text c.in_ok-read.field-0 ∷ [] = rw c.in_ok-push.ensures.items (map_push text c.loop-rest.entries.items c.in_ok-read.field-0) in
    let read = entry-again g.E.LogEntry.kind c.in_ok-field.field.now (text c.in_ok-read.field-0) c.in_ok-read.ensures.ok (field_at-short 4 c.loop-rest.rest.now (c.in_ok-field.field.now, c.in_ok-field.after.now) c.in_ok-field.ensures) in
    rw e (goes_on (entry_at g.E.LogEntry.kind) 4 (map text c.loop-rest.entries.items) c.loop-rest.rest.now (c.in_ok-field.field.now, c.in_ok-field.after.now) (text c.in_ok-read.field-0) _ c.in_ok-field.ensures read c.loop-rest.invariant)

pub returns : goal.returns
returns g c =
    let empty = eqb-true (length c.loop-rest.rest.now) 0 (sym c.is_empty.ensures ∙ c.loop-rest-test.false) in
    is_done (entry_at g.E.LogEntry.kind) 4 (map g.E.LogEntry.plain c.loop-rest.entries.items) c.loop-rest.rest.now _ empty c.loop-rest.invariant
