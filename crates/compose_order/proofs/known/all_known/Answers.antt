use Rattle.std.proofs.Common.{rules, ◌≡◌, ◌++◌, ◌∷◌, [], sym, ap, subst, ◌∙◌, arith, map, take}
use Rattle.std.specs.List.{AllByRecursion}
use Rattle.compose_order.specs.Known.{FindsImports, IsKnown, known_left, left_tree}
use Rattle.compose_order.proofs.ListLaws.{all_push, length-mapped, mapped_more, mapped_push}
use Rattle.compose_order.proofs.known.all_known.Goals as goal

pub loop-number-preserved : goal.loop-number-preserved
loop-number-preserved c =
    let pushed : c.push.new.self.items ≡ c.loop-number.list.items ++ c.in_ok-known_import.field-0 ∷ [] = search rules in
    let one_more = mapped_more left_tree c.args.lefts.now c.loop-number.number c.index-lefts-number.result c.loop-number-test.true c.index-lefts-number.is in
    record {
      lefts = mapped_push known_left c.loop-number.list.items c.push.new.self.items c.in_ok-known_import.field-0 _ _ pushed c.loop-number.invariant.lefts (ap left_tree c.in_ok-known_import.ensures.import) ∙ sym one_more;
      each = subst (λ ks. AllByRecursion IsKnown ks) (sym pushed) (all_push IsKnown c.loop-number.list.items c.in_ok-known_import.field-0 c.loop-number.invariant.each c.in_ok-known_import.ensures.known);
      places = subst (λ ls. FindsImports c.note_import.new.places ls) (sym one_more)
          (c.in_ok-note_import.ensures (map left_tree (take c.loop-number.number c.args.lefts.now)) c.loop-number.invariant.places
          (length-mapped left_tree c.args.lefts.now c.loop-number.number (let lt = c.loop-number-test.true in omega (arith, lt))));
    }
