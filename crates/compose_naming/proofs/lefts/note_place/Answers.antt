use Rattle.std.proofs.Common.{rules, ◌≡◌, true, false}
use Rattle.std.specs.Prelude.{is_some}
use Rattle.std.specs.BTreeMap.{get}
use Rattle.compose_order.specs.Known.{path_cmp}
use Rattle.compose_naming.proofs.PlaceLaws.{place_added, place_there}
use Rattle.compose_naming.proofs.lefts.note_place.Goals as goal

pub returns-then-contains_key : goal.returns-then-contains_key
returns-then-contains_key c = λ leaves h.
    let there : is_some (get path_cmp c.args.places.now c.args.leaf.now.path) ≡ true = search rules in
    place_there c.args.places.now leaves c.args.leaf.now there h

pub returns : goal.returns
returns c = λ leaves h.
    let none : is_some (get path_cmp c.args.places.now c.args.leaf.now.path) ≡ false = search rules in
    place_added c.args.places.now c.insert.new.self leaves c.args.leaf.now _ c.in_ok-try_clone.ensures none
    c.in_ok-insert.ensures.updates h
