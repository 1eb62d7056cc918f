use Rattle.std.proofs.Common.{◌≡◌, ◌∙◌, ap, sym, rules, Some, None, [], ◌∷◌, ◌++◌, length}
use Rattle.compose_left.specs.Origins.{place_in}
use Rattle.std.specs.BTreeMap.{get}
use Rattle.compose_left.specs.Numbers.{key_cmp, key_place}
use Rattle.compose_left.proofs.NumberLaws.{found, missing, finds_added}
use Rattle.compose_left.proofs.numbering.place_of.Goals as goal

pub returns-in-Some-clause-added : goal.returns-in-Some-clause-added
returns-in-Some-clause-added c =
    let at : get key_cmp c.args.places.now c.in_ok-key.key ≡ Some c.in-Some.place.now = search rules in
    (found c.args.origin c.args.table.now.items c.in-Some.place.now c.requires.origin (ap (λ k. key_place k c.args.table.now.items) (sym c.in_ok-key.ensures) ∙ sym (c.requires.table c.in_ok-key.key) ∙ at)).0

pub returns-in-Some-clause-place : goal.returns-in-Some-clause-place
returns-in-Some-clause-place c =
    let at : get key_cmp c.args.places.now c.in_ok-key.key ≡ Some c.in-Some.place.now = search rules in
    (found c.args.origin c.args.table.now.items c.in-Some.place.now c.requires.origin (ap (λ k. key_place k c.args.table.now.items) (sym c.in_ok-key.ensures) ∙ sym (c.requires.table c.in_ok-key.key) ∙ at)).1

pub returns-in_ok-insert-in-None-clause-table : goal.returns-in_ok-insert-in-None-clause-table
returns-in_ok-insert-in-None-clause-table c =
    let at : get key_cmp c.args.places.now c.in_ok-key.key ≡ None = search rules in
    finds_added c.args.places.now c.insert.new.self c.args.table.now.items c.args.origin c.in_ok-key.key c.requires.table c.in_ok-key.ensures at c.len-place.result (search rules) c.in_ok-insert-in-None.ensures.updates c.push.new.self.items (search rules)

pub returns-in_ok-insert-in-None-clause-added : goal.returns-in_ok-insert-in-None-clause-added
returns-in_ok-insert-in-None-clause-added c =
    let at : get key_cmp c.args.places.now c.in_ok-key.key ≡ None = search rules in
    let grown : c.push.new.self.items ≡ c.args.table.now.items ++ c.args.origin ∷ [] = search rules in
    grown ∙ (missing c.args.origin c.args.table.now.items c.requires.origin (ap (λ k. key_place k c.args.table.now.items) (sym c.in_ok-key.ensures) ∙ sym (c.requires.table c.in_ok-key.key) ∙ at)).0

pub returns-in_ok-insert-in-None-clause-place : goal.returns-in_ok-insert-in-None-clause-place
returns-in_ok-insert-in-None-clause-place c =
    let at : get key_cmp c.args.places.now c.in_ok-key.key ≡ None = search rules in
    let grown : c.push.new.self.items ≡ c.args.table.now.items ++ c.args.origin ∷ [] = search rules in
    let place : c.len-place.result ≡ length c.args.table.now.items = search rules in
    place ∙ (missing c.args.origin c.args.table.now.items c.requires.origin (ap (λ k. key_place k c.args.table.now.items) (sym c.in_ok-key.ensures) ∙ sym (c.requires.table c.in_ok-key.key) ∙ at)).1
    ∙ ap (λ os. place_in os c.args.origin) (sym grown)
