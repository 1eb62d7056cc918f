use Rattle.std.proofs.Common.{rules, ◌≡◌, ◌∙◌, Some, None, sym, ap}
use Rattle.std.specs.Prelude.{unwrap_or}
use Rattle.std.specs.BTreeMap.{get}
use Rattle.compose_left.specs.Spots.{named_type}
use Rattle.compose_left.specs.Wired.{thing_cmp}
use Rattle.compose_naming.specs.Settled.{name_in, written_as}
use Rattle.compose_naming.proofs.NameLaws.{name_made, written_name}
use Rattle.compose_naming.proofs.settling.written_as.Goals as goal

pub returns-in-Some : goal.returns-in-Some
returns-in-Some c = λ ws h.
    let names = c.args.names.now in
    let name = c.in_ok-name.name in
    let made : name ≡ name_in c.args.thing =
    name_made c.new.result name (name_in c.args.thing) _ c.in_ok-name.ensures.value c.new.ensures.some in
    let got : get thing_cmp names (named_type name) ≡ Some c.in-Some.written.now = search rules in
    ap (λ o. unwrap_or o name) (sym got) ∙ written_name names ws name h ∙ ap (written_as ws) made

pub returns-in-None : goal.returns-in-None
returns-in-None c = λ ws h.
    let names = c.args.names.now in
    let name = c.in_ok-name.name in
    let made : name ≡ name_in c.args.thing =
    name_made c.new.result name (name_in c.args.thing) _ c.in_ok-name.ensures.value c.new.ensures.some in
    let none : get thing_cmp names (named_type name) ≡ None = search rules in
    ap (λ o. unwrap_or o name) (sym none) ∙ written_name names ws name h ∙ ap (written_as ws) made
