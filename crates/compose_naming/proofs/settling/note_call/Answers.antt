use Rattle.std.proofs.Common.{rules, ◌≡◌, true, false, None}
use Rattle.std.specs.Prelude.{is_some}
use Rattle.std.specs.BTreeMap.{get}
use Rattle.compose_left.specs.Wired.{thing_cmp}
use Rattle.compose_naming.proofs.NameLaws.{names_kept, names_more, names_same}
use Rattle.compose_naming.proofs.settling.note_call.Goals as goal

pub returns-then-not-thing : goal.returns-then-not-thing
returns-then-not-thing c = λ ws h.
    let is_none : c.args.thing.is_type ≡ false = search rules in
    names_same c.args.names.now ws c.args.thing c.args.written is_none h

pub returns-in-Some : goal.returns-in-Some
returns-in-Some c = λ ws h.
    let is_one : c.args.thing.is_type ≡ true = search rules in
    let there : is_some (get thing_cmp c.args.names.now c.args.thing) ≡ true = search rules in
    names_kept c.args.names.now ws c.args.thing c.args.written is_one there h

pub returns-in_ok-insert-in-None : goal.returns-in_ok-insert-in-None
returns-in_ok-insert-in-None c = λ ws h.
    let is_one : c.args.thing.is_type ≡ true = search rules in
    let none : get thing_cmp c.args.names.now c.args.thing ≡ None = search rules in
    names_more c.args.names.now c.insert.new.self ws c.args.thing c.args.written is_one none
    c.in_ok-insert-in-None.ensures.updates h
