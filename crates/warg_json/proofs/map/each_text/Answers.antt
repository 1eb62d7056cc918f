use Rattle.std.proofs.Common.{[], Ok, sym, ◌∙◌, ap}
use Rattle.std.proofs.lemmas.Result.{err_from_is_err_and}
use Rattle.serde_json.specs.View.{members_view}
use Rattle.warg_exchange.specs.Body.{each_member, text_in}
use Rattle.warg_json.proofs.MapLaws.{all_read, value_ends, member_read}
use Rattle.warg_json.proofs.map.each_text.Goals as goal

pub returns-in_err-text : goal.returns-in_err-text
returns-in_err-text c =
    let found = c.loop-name.found.entries in
    let whole = each_member Ok text_in [] (members_view c.args.members.now.entries) in
    let named = ap Ok (sym (c.in_ok-key.ensures ∙ c.as_str.ensures.value)) in
    let p = err_from_is_err_and c.from_residual-in_err-text.result c.from_residual-in_err-text.ensures.1 in
    rw (p.1, p.2) (value_ends Ok text_in found whole c.loop-name.name-iterator c.next.new.self c.next.result c.next.ensures.steps c.loop-name.invariant (c.in-Some.name, c.in-Some.value) c.in-Some.is c.in_ok-key.key named c.in_err-text.field-0.0 c.in_err-text.ensures)

pub loop-name-preserved-in_ok-insert : goal.loop-name-preserved-in_ok-insert
loop-name-preserved-in_ok-insert c =
    let found = c.loop-name.found.entries in
    let whole = each_member Ok text_in [] (members_view c.args.members.now.entries) in
    let named = ap Ok (sym (c.in_ok-key.ensures ∙ c.as_str.ensures.value)) in
    rw c.in_ok-insert.ensures.entries (member_read Ok text_in found whole c.loop-name.name-iterator c.next.new.self c.next.result c.next.ensures.steps c.loop-name.invariant (c.in-Some.name, c.in-Some.value) c.in-Some.is c.in_ok-key.key named c.in_ok-text.text c.in_ok-text.ensures)

pub loop-name-preserved : goal.loop-name-preserved
loop-name-preserved c =
    let found = c.loop-name.found.entries in
    let whole = each_member Ok text_in [] (members_view c.args.members.now.entries) in
    let named = ap Ok (sym (c.in_ok-key.ensures ∙ c.as_str.ensures.value)) in
    rw c.in_ok-insert.ensures.entries (member_read Ok text_in found whole c.loop-name.name-iterator c.next.new.self c.next.result c.next.ensures.steps c.loop-name.invariant (c.in-Some.name, c.in-Some.value) c.in-Some.is c.in_ok-key.key named c.in_ok-text.text c.in_ok-text.ensures)

pub returns : goal.returns
returns c =
    let found = c.loop-name.found.entries in
    let whole = each_member Ok text_in [] (members_view c.args.members.now.entries) in
    all_read Ok text_in found whole c.loop-name.name-iterator c.next.new.self c.next.result c.next.ensures.steps c.loop-name.invariant c.in-None.is
