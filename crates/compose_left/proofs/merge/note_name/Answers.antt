use Rattle.std.proofs.Common.{rules, ◌≡◌, None, ap, sym, ◌∙◌}
use Rattle.std.specs.Prelude.{is_none, false}
use Rattle.std.specs.BTreeMap.{get}
use Rattle.compose_left.specs.Merged.{name_cmp}
use Rattle.compose_left.proofs.MergeLaws.{name_added, name_there}
use Rattle.compose_left.proofs.merge.note_name.Goals as goal

pub returns-in-Some : goal.returns-in-Some
returns-in-Some c = λ es x f is at.
    let there : is_none (get name_cmp c.args.names.now c.args.name.now) ≡ false = search rules in
    name_there c.args.names.now es x f (ap (λ n. is_none (get name_cmp c.args.names.now n)) (sym is) ∙ there)

pub returns-in_ok-insert-in-None : goal.returns-in_ok-insert-in-None
returns-in_ok-insert-in-None c = λ es x f is at.
    let none : get name_cmp c.args.names.now c.args.name.now ≡ None = search rules in
    name_added c.args.names.now c.insert.new.self es x c.in_ok-try_clone-in-None.field-0 c.args.place f (c.in_ok-try_clone-in-None.ensures ∙ is)
    (ap (λ n. get name_cmp c.args.names.now n) (sym is) ∙ none) at c.in_ok-insert-in-None.ensures.updates
