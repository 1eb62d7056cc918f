use Rattle.std.proofs.Common.{◌∙◌, ◌++◌, ◌∷◌, [], List, ℕ, cond, map, take, sym, ap, arith}
use Rattle.std.specs.Prelude.{is_none}
use Rattle.std.proofs.lemmas.List.{append_assoc, map-append, take_all}
use Rattle.comp_entity.specs.Entity.{EntityTree}
use Rattle.comp_entity.specs.Views.{entity_tree, named_entities}
use Rattle.compose_image.specs.Instances.{open_arg, open_from}
use Rattle.compose_left.specs.Wiring.{wire_into}
use Rattle.compose_encode.specs.Looked.{lent_tree}
use Rattle.compose_encode.proofs.LookLaws.{open_more}
use Rattle.compose_encode.proofs.instances.push_all_open.Goals as goal

pub loop-import-preserved : goal.loop-import-preserved
loop-import-preserved c = λ define imports h.
    let k = lent_tree c.args.tables.now in
    let i = c.loop-import.import in
    let x = c.index-entries-import.result in
    let old : List (List ℕ × EntityTree) = open_from k c.args.instance 0 (named_entities (take i c.args.entries.now)) in
    let new : List (List ℕ × EntityTree) = cond (is_none (wire_into k.wires c.args.instance i)) ((x.0, entity_tree x.1) ∷ []) [] in
    c.in_ok-push_open.ensures define imports h ∙ ap (λ xs. xs ++ map (open_arg imports) new) (c.loop-import.invariant define imports h)
    ∙ append_assoc c.args.args.now.items (map (open_arg imports) old) (map (open_arg imports) new)
    ∙ ap (λ xs. c.args.args.now.items ++ xs) (sym (map-append (open_arg imports) old new) ∙ ap (map (open_arg imports)) (sym (open_more k c.args.instance i c.args.entries.now x c.loop-import-test.true c.index-entries-import.is)))

pub returns : goal.returns
returns c = λ define imports h.
    c.loop-import.invariant define imports h
    ∙ ap (λ es. c.args.args.now.items ++ map (open_arg imports) (open_from (lent_tree c.args.tables.now) c.args.instance 0 (named_entities es))) (take_all c.loop-import.import c.args.entries.now (omega arith))
