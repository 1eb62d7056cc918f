use Rattle.std.proofs.Common.{rules, ◌≡◌, ℕ, List, true, None, subst}
use Rattle.std.specs.Prelude.{is_some}
use Rattle.std.specs.BTreeMap.{get}
use Rattle.compose_left.specs.Merged.{name_cmp}
use Rattle.compose_imports.proofs.FoundLaws.{import_added, import_there}
use Rattle.compose_imports.proofs.begun.note_import.Goals as goal

pub returns-in-Some : goal.returns-in-Some
returns-in-Some c = λ m next f at.
    let names = c.args.names.now in
    let there : is_some (get name_cmp names c.in_ok-name.name) ≡ true = search rules in
    import_there m next c.args.name.now c.args.index at names f
    (subst (λ (k : List ℕ). is_some (get name_cmp names k) ≡ true) c.in_ok-name.ensures there)

pub returns-in_ok-insert-in-None : goal.returns-in_ok-insert-in-None
returns-in_ok-insert-in-None c = λ m next f at.
    let names = c.args.names.now in
    let none : get name_cmp names c.in_ok-name.name ≡ None = search rules in
    import_added m next c.args.name.now c.args.index at names c.insert.new.self c.in_ok-name.name f c.in_ok-name.ensures
    (subst (λ (k : List ℕ). get name_cmp names k ≡ None) c.in_ok-name.ensures none)
    c.in_ok-insert-in-None.ensures.updates
