use Rattle.std.proofs.Common.{◌≡◌, List, Some, cond, sym, subst}
use Rattle.std.specs.List.{list_any}
use Rattle.std.specs.BTreeMap.{get}
use Rattle.std.proofs.lemmas.List.{length-map}
use Rattle.compose_left.specs.declared.origin.Held.{Held}
use Rattle.compose_left.specs.Wired.{wiring_of}
use Rattle.compose_left.specs.Origins.{origin}
use Rattle.compose_left.specs.Numbers.{IsNumbered, held_cmp, same_held}
use Rattle.compose_left.proofs.NotedLaws.{numbers_kept, numbers_noted}
use Rattle.compose_left.specs.Wiring.{lent_shape}
use Rattle.compose_left.proofs.finding.note.Goals as goal

pub returns-clause-added : goal.returns-clause-added
returns-clause-added c =
    (c.in_ok-number.ensures.numbered (wiring_of c.args.wired.now) c.args.numbers.now (origin (wiring_of c.args.wired.now) c.args.held) (sym (length-map c.args.wired.now.shapes.now lent_shape)) c.requires.numbers c.in_ok-followed.ensures.reached).added

pub returns-clause-numbers : goal.returns-clause-numbers
returns-clause-numbers c =
    let n : IsNumbered (wiring_of c.args.wired.now) c.args.table.now.items c.number_reached.new.table.items (origin (wiring_of c.args.wired.now) c.args.held) c.in_ok-number.number =
    c.in_ok-number.ensures.numbered (wiring_of c.args.wired.now) c.args.numbers.now (origin (wiring_of c.args.wired.now) c.args.held) (sym (length-map c.args.wired.now.shapes.now lent_shape)) c.requires.numbers c.in_ok-followed.ensures.reached in
    numbers_noted (wiring_of c.args.wired.now) c.number_reached.new.table.items c.args.numbers.now c.note_all.new.numbers c.in_ok-followed.followed.trail.items (origin (wiring_of c.args.wired.now) c.args.held) c.in_ok-number.number
    (numbers_kept (wiring_of c.args.wired.now) c.args.table.now.items c.number_reached.new.table.items (origin (wiring_of c.args.wired.now) c.args.held) c.args.numbers.now n.added c.requires.numbers)
    c.in_ok-followed.ensures.alike n.there n.number
    (subst (λ (ts : List Held). (h : Held) → get held_cmp c.note_all.new.numbers h ≡ cond (list_any (λ t. same_held t h) ts) (Some c.in_ok-number.number) (get held_cmp c.args.numbers.now h)) c.deref.ensures.value c.in_ok-note_all.ensures)
