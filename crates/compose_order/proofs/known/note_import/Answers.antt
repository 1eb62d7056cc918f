use Rattle.std.proofs.Common.{rules, ◌≡◌, true, None}
use Rattle.std.specs.Prelude.{is_some}
use Rattle.std.specs.BTreeMap.{get}
use Rattle.compose_left.specs.Merged.{name_cmp}
use Rattle.compose_order.specs.Known.{left_tree}
use Rattle.compose_order.proofs.CallLaws.{import_there, import_added}
use Rattle.compose_order.proofs.known.note_import.Goals as goal

pub returns-in-Some : goal.returns-in-Some
returns-in-Some c = λ ls f at.
    let there : is_some (get name_cmp c.args.places.now c.args.import.now.name) ≡ true = search rules in
    import_there c.args.places.now ls (left_tree c.args.import.now) f there

pub returns-in_ok-insert-in-None : goal.returns-in_ok-insert-in-None
returns-in_ok-insert-in-None c = λ ls f at.
    let none : get name_cmp c.args.places.now c.args.import.now.name ≡ None = search rules in
    import_added c.args.places.now c.insert.new.self ls (left_tree c.args.import.now) c.in_ok-try_clone-in-None.field-0 c.args.number f c.in_ok-try_clone-in-None.ensures none at c.in_ok-insert-in-None.ensures.updates
