use Rattle.std.proofs.Common.{◌≡◌, ◌<◌, length, arith}
use Rattle.std.proofs.lemmas.Grind.{common_steps}
use Rattle.std.proofs.lemmas.Result.{err_from_is_err_and}
use Rattle.comp_format.specs.Sections.{section_id}
use Rattle.comp_reader.proofs.ItemLaws.{frame_shorter, still_memory}
use Rattle.comp_reader.proofs.PlaceLaws.{begins, goes_on, on_it, past_it, not_ended, front_section, framed_there, counted_there}
use Rattle.comp_reader.proofs.places.section_of.Goals as goal

pub returns-in_err-id-clause-found : goal.returns-in_err-id-clause-found
returns-in_err-id-clause-found c = λ this within section behind there form.
    let p = err_from_is_err_and c.from_residual.result c.from_residual.ensures.1 in
    let w = on_it c.args.number c.args.sections.now c.loop-rest.left c.loop-rest.rest.now c.loop-rest.invariant this within section behind there form in
    rw (p.1, p.2) (framed_there c.in_err-id.field-0.0 (section_id w.first) w.form.0 c.loop-rest.rest.now w.after w.form.1 c.in_err-id.ensures.exact)

pub returns-in_err-id-clause-behind : goal.returns-in_err-id-clause-behind
returns-in_err-id-clause-behind c = λ ss form fewer.
    let p = err_from_is_err_and c.from_residual.result c.from_residual.ensures.1 in
    let some : 0 < length c.loop-rest.rest.now = grind (arith, common_steps) in
    let w = past_it c.args.number c.args.sections.now c.loop-rest.left c.loop-rest.rest.now c.loop-rest.invariant ss form fewer some in
    rw (p.1, p.2) (framed_there c.in_err-id.field-0.0 (section_id w.first) w.form.0 c.loop-rest.rest.now w.after w.form.1 c.in_err-id.ensures.exact)

pub returns-in-Err-clause-found : goal.returns-in-Err-clause-found
returns-in-Err-clause-found c = λ this within section behind there form.
    let w = on_it c.args.number c.args.sections.now c.loop-rest.left c.loop-rest.rest.now c.loop-rest.invariant this within section behind there form in
    still_memory c.in-Err.error c.before-in-Err.result c.before-in-Err.ensures
    (counted_there c.in-Err.error w.first c.loop-rest.rest.now w.after w.form c.in_ok-id.id c.in_ok-id.content.now c.in_ok-id.after.now c.in_ok-id.ensures.exact c.in-Err.ensures)

pub returns-in-Err-clause-behind : goal.returns-in-Err-clause-behind
returns-in-Err-clause-behind c = λ ss form fewer.
    let some : 0 < length c.loop-rest.rest.now = grind (arith, common_steps) in
    let w = past_it c.args.number c.args.sections.now c.loop-rest.left c.loop-rest.rest.now c.loop-rest.invariant ss form fewer some in
    still_memory c.in-Err.error c.before-in-Err.result c.before-in-Err.ensures
    (counted_there c.in-Err.error w.first c.loop-rest.rest.now w.after w.form c.in_ok-id.id c.in_ok-id.content.now c.in_ok-id.after.now c.in_ok-id.ensures.exact c.in-Err.ensures)

pub returns-then-left-count-clause-found : goal.returns-then-left-count-clause-found
returns-then-left-count-clause-found c = λ this within section behind there form.
    let w = on_it c.args.number c.args.sections.now c.loop-rest.left c.loop-rest.rest.now c.loop-rest.invariant this within section behind there form in
    let front = front_section w.first c.loop-rest.rest.now w.after w.form c.in_ok-id.id c.in_ok-id.content.now c.in_ok-id.after.now c.in_ok-id.ensures.exact c.in-Ok.count c.in-Ok.ensures in
    w.is_found (omega (arith, front.1, c.if-left-count.true))

pub returns-then-left-count-clause-behind : goal.returns-then-left-count-clause-behind
returns-then-left-count-clause-behind c = λ ss form fewer.
    let some : 0 < length c.loop-rest.rest.now = grind (arith, common_steps) in
    let w = past_it c.args.number c.args.sections.now c.loop-rest.left c.loop-rest.rest.now c.loop-rest.invariant ss form fewer some in
    let front = front_section w.first c.loop-rest.rest.now w.after w.form c.in_ok-id.id c.in_ok-id.content.now c.in_ok-id.after.now c.in_ok-id.ensures.exact c.in-Ok.count c.in-Ok.ensures in
    omega (arith, front.1, w.is_passed, c.if-left-count.true)

pub loop-rest-smaller : goal.loop-rest-smaller
loop-rest-smaller c = frame_shorter c.loop-rest.rest.now ((c.in_ok-id.id, c.in_ok-id.content.now), c.in_ok-id.after.now) c.in_ok-id.ensures.exact

pub loop-rest-init : goal.loop-rest-init
loop-rest-init c = begins c.args.number c.args.sections.now

pub loop-rest-preserved : goal.loop-rest-preserved
loop-rest-preserved c =
    let some : 0 < length c.loop-rest.rest.now = grind (arith, common_steps) in
    goes_on c.args.number c.args.sections.now c.loop-rest.left c.loop-rest.rest.now c.loop-rest.invariant c.in_ok-id.id c.in_ok-id.content.now c.in_ok-id.after.now c.in-Ok.count some c.in_ok-id.ensures.exact c.in-Ok.ensures c.if-left-count.false

pub returns-clause-found : goal.returns-clause-found
returns-clause-found c = λ this within section behind there form.
    let nothing : length c.loop-rest.rest.now ≡ 0 = grind (arith, common_steps) in
    not_ended c.args.number c.args.sections.now c.loop-rest.left c.loop-rest.rest.now c.loop-rest.invariant this within section behind there form nothing
