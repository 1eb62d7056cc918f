use Rattle.std.proofs.Common.{rules, ◌≡◌, ◌∙◌, ◌++◌, ◌∷◌, [], false, true, cond, map, sym, ap}
use Rattle.std.specs.Prelude.{is_none, is_some, unwrap_or}
use Rattle.std.specs.BTreeMap.{get}
use Rattle.comp_entity.specs.Views.{entity_tree}
use Rattle.compose_left.specs.Merged.{name_cmp}
use Rattle.compose_left.specs.Wired.{input_cmp}
use Rattle.compose_left.specs.Wiring.{wire_into}
use Rattle.compose_image.specs.Instances.{open_arg}
use Rattle.compose_encode.proofs.LookLaws.{found_index, none_of}
use Rattle.compose_encode.proofs.instances.push_open.Goals as goal

pub returns : goal.returns
returns c = λ define imports h.
    let gone : is_some (get input_cmp c.args.tables.now.inputs c.args.input) ≡ false = search rules in
    let none : is_none (wire_into c.args.tables.now.composition.now.wires.items c.args.input.target c.args.input.import) ≡ true =
    none_of (wire_into c.args.tables.now.composition.now.wires.items c.args.input.target c.args.input.import) (ap (λ o. is_some o) (sym (h.inputs c.args.input)) ∙ gone) in
    let index : c.unwrap_or-index.result ≡ unwrap_or (get name_cmp c.args.tables.now.names c.args.entry.now.0) 0 = search rules in
    c.in_ok-push.ensures.items
    ∙ (λ i. c.args.args.now.items ++ (record {
      name = c.in_ok-try_clone.ensures i;
      sort = c.sort_of.ensures i;
      index = (index ∙ ap (λ o. unwrap_or o 0) (h.names c.args.entry.now.0) ∙ found_index c.args.entry.now.0 [] imports) i;
    }) ∷ [])
    ∙ ap (λ b. c.args.args.now.items ++ map (open_arg imports) (cond b ((c.args.entry.now.0, entity_tree c.args.entry.now.1) ∷ []) [])) (sym none)
