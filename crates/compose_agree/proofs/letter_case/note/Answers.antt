use Rattle.std.proofs.Common.{rules, ◌≡◌, Some, None, subst}
use Rattle.std.specs.Str.{str_to_ascii_lowercase}
use Rattle.std.specs.BTreeMap.{get, Updates}
use Rattle.std.specs.Cmp.Lexicographic.{slice_cmp}
use Rattle.std.specs.Ordering.{nat_cmp}
use Rattle.compose_agree.proofs.CaseLaws.{found_at, noted}
use Rattle.compose_agree.proofs.letter_case.note.Goals as goal

pub returns-in-Some-clause-found : goal.returns-in-Some-clause-found
returns-in-Some-clause-found c = λ names finds.
    let there : get (slice_cmp nat_cmp) c.args.places.now (str_to_ascii_lowercase c.args.name.now) ≡ Some c.in-Some.earlier.now = search rules in
    found_at c.args.places.now names c.args.place (str_to_ascii_lowercase c.args.name.now) (Some c.in-Some.earlier.now) finds there

pub returns-in_ok-insert-in-None-clause-noted : goal.returns-in_ok-insert-in-None-clause-noted
returns-in_ok-insert-in-None-clause-noted c = λ names finds at.
    let absent : get (slice_cmp nat_cmp) c.args.places.now (str_to_ascii_lowercase c.args.name.now) ≡ None = search rules in
    let none = found_at c.args.places.now names c.args.place (str_to_ascii_lowercase c.args.name.now) None finds absent in
    let updates : Updates (slice_cmp nat_cmp) c.args.places.now c.insert.new.self (str_to_ascii_lowercase c.args.name.now) (Some c.args.place) =
    subst (λ k. Updates (slice_cmp nat_cmp) c.args.places.now c.insert.new.self k (Some c.args.place)) c.in_ok-lower.ensures c.in_ok-insert-in-None.ensures.updates in
    (noted c.args.places.now c.insert.new.self names c.args.place c.args.name.now finds at none updates, none)
