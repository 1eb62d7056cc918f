use Rattle.std.proofs.Common.{◌≡◌, ◌+◌, length, sym, ap, ◌∙◌, arith}
use Rattle.std.proofs.lemmas.Grind.{common_steps}
use Rattle.std.proofs.lemmas.Result.{err_from_is_err_and}
use Rattle.comp_format.specs.Sections.{section_id}
use Rattle.comp_reader.proofs.ItemLaws.{still_memory}
use Rattle.comp_reader.proofs.PlaceLaws.{framed_there, at_section, left_behind, not_looked_up}
use Rattle.comp_reader.proofs.places.left_from.Goals as goal

pub returns-in_err-id : goal.returns-in_err-id
returns-in_err-id c = λ s content behind item lt framed first.
    let p = err_from_is_err_and c.from_residual.result c.from_residual.ensures.1 in
    rw (p.1, p.2) (framed_there c.in_err-id.field-0.0 (section_id s) content c.args.section.now behind framed c.in_err-id.ensures.exact)

pub returns-then-is_one_item : goal.returns-then-is_one_item
returns-then-is_one_item c = λ s content behind item lt framed first.
    ap length (sym (at_section s c.args.number c.args.section.now content behind item lt framed first c.in_ok-id.id c.in_ok-id.content.now c.in_ok-id.behind.now c.in_ok-id.ensures.exact (sym c.is_one_item.ensures ∙ c.if-is_one_item.true)))

pub returns-in-Ok : goal.returns-in-Ok
returns-in-Ok c = λ s content behind item lt framed first.
    let left : length item ≡ length c.in-Ok.items.now + length c.in_ok-id.behind.now =
    left_behind s c.args.number c.args.section.now content behind item lt framed first c.in_ok-id.id c.in_ok-id.content.now c.in_ok-id.behind.now c.in_ok-id.ensures.exact (sym c.is_one_item.ensures ∙ c.if-is_one_item.false) c.in-Ok.items.now c.in-Ok.ensures in
    grind (arith, common_steps, left)

pub returns-in-Err : goal.returns-in-Err
returns-in-Err c = λ s content behind item lt framed first.
    still_memory c.in-Err.error c.before-in-Err.result c.before-in-Err.ensures
    (not_looked_up s c.args.number c.args.section.now content behind item lt framed first c.in_ok-id.id c.in_ok-id.content.now c.in_ok-id.behind.now c.in_ok-id.ensures.exact c.in-Err.error (sym c.is_one_item.ensures ∙ c.if-is_one_item.false) c.in-Err.ensures)
