use Rattle.std.proofs.Common.{rules, ap, sym, ◌∙◌, ◌≡◌, ◌<◌, subst, map, length, Some, slice_index_or}
use Rattle.std.specs.BTreeMap.{get}
use Rattle.std.specs.Ordering.{nat_cmp}
use Rattle.comp_fit.specs.Loose.{loosely}
use Rattle.comp_table.specs.Changes.{tree_by, scopes_in}
use Rattle.comp_table.specs.StandLaws.{grows_on, all_end, all_step, same_stands}
use Rattle.comp_table.specs.Trees.{AllStand, IsBelow, tree_at, node_tree}
use Rattle.comp_fit.proofs.LooseLaws.{below_at, below_wider, tree_kept, longer, loosened_kept, loosened_more, node_loose}
use Rattle.comp_fit.proofs.loosen.+loosening.Goals as goal

pub loosen-returns-in-Some-clause-number : goal.loosen-returns-in-Some-clause-number
loosen-returns-in-Some-clause-number t c =
    let found : get nat_cmp c.args.known.now c.args.number ≡ Some c.in-Some.loosened.now = search rules in
    let is = c.requires.known c.args.number c.in-Some.loosened.now found in is.loosened

pub loosen-loosen_parts-requires : goal.loosen-loosen_parts-requires
loosen-loosen_parts-requires t c =
    let below = subst (IsBelow (length c.args.table.now)) (sym (c.deref.ensures.value ∙ c.in_ok-parts.ensures)) (below_wider c.args.number (length c.args.table.now) c.parts.result.now c.requires.there c.parts.ensures.below) in
    let fewer : c.in_ok-levels.levels < c.args.levels = c.in_ok-levels.ensures in
    (search (rules, fewer), (below, c.requires.known))

pub loosen-number_of-requires : goal.loosen-number_of-requires
loosen-number_of-requires t c = record { below = subst (IsBelow (length c.loosen_parts.new.table)) (sym c.from_vec.ensures) (c.in_ok-loosened_parts.ensures.numbers 0).all_there }

pub loosen-returns-in-Ok-clause-number : goal.loosen-returns-in-Ok-clause-number
loosen-returns-in-Ok-clause-number t c = λ depth.
    let deeper = scopes_in c.head.result.now depth in
    let all = subst (λ xs. AllStand c.loosen_parts.new.table c.in_ok-loosened_parts.loosened_parts.items (map (λ p. tree_by loosely deeper (tree_at c.args.table.now p)) xs)) (c.deref.ensures.value ∙ c.in_ok-parts.ensures) (c.in_ok-loosened_parts.ensures.numbers deeper) in
    same_stands c.number_of.new.self c.in_ok-loosened.loosened _ _
    (ap (node_tree c.loosen_parts.new.table c.in_ok-head.head) c.from_vec.ensures
    ∙ node_loose c.args.table.now c.loosen_parts.new.table depth (tree_at c.args.table.now c.args.number) c.head.result.now c.in_ok-head.head c.parts.result.now c.in_ok-loosened_parts.loosened_parts.items c.head.ensures c.parts.ensures.parts (c.in_ok-head.ensures depth) all)
    c.in_ok-loosened.ensures.number

pub loosen-returns-in-Ok-clause-known : goal.loosen-returns-in-Ok-clause-known
loosen-returns-in-Ok-clause-known t c =
    let grown = grows_on _ _ _ c.in_ok-loosened_parts.ensures.extends c.in_ok-loosened.ensures.extends in
    loosened_more c.number_of.new.self c.loosen_parts.new.known c.insert.new.self c.args.number c.in_ok-loosened.loosened
    (loosened_kept c.loosen_parts.new.table c.number_of.new.self c.loosen_parts.new.known c.in_ok-loosened.ensures.extends c.in_ok-loosened_parts.ensures.known)
    (record {
      there = longer c.args.table.now c.number_of.new.self c.args.number grown c.requires.there;
      loosened = λ depth. same_stands c.number_of.new.self c.in_ok-loosened.loosened _ _ (ap (tree_by loosely depth) (sym (tree_kept c.args.table.now c.number_of.new.self c.args.number grown c.requires.there))) (loosen-returns-in-Ok-clause-number t c depth);
    })
    c.in-Ok.ensures.updates

pub loosen_parts-loop-part-preserved : goal.loosen_parts-loop-part-preserved
loosen_parts-loop-part-preserved t c =
    let lt : c.loop-part.part-index < length c.args.parts.now = search rules in
    let there = below_at (length c.args.table.now) c.args.parts.now c.loop-part.part-index 0 c.requires.below lt in
    record {
      extends = grows_on _ _ _ c.loop-part.invariant.extends c.in_ok-number.ensures.extends;
      known = c.in_ok-number.ensures.known;
      numbers = λ depth. all_step (λ p. tree_by loosely depth (tree_at c.args.table.now p)) c.args.parts.now c.loop-part.table c.loosen.new.table c.loop-part.part-index 0 c.loop-part.numbers.items c.push.new.self.items c.in_ok-number.number lt c.in_ok-number.ensures.extends (c.loop-part.invariant.numbers depth)
          (same_stands c.loosen.new.table c.in_ok-number.number _ _ (ap (tree_by loosely depth) (tree_kept c.args.table.now c.loop-part.table (slice_index_or c.args.parts.now c.loop-part.part-index 0) c.loop-part.invariant.extends there)) (c.in_ok-number.ensures.number depth)) c.in_ok-push.ensures.items;
    }

pub loosen_parts-returns-clause-numbers : goal.loosen_parts-returns-clause-numbers
loosen_parts-returns-clause-numbers t c = λ depth.
    all_end (λ p. tree_by loosely depth (tree_at c.args.table.now p)) c.args.parts.now c.loop-part.table c.loop-part.numbers.items (search (rules, c.loop-part.invariant.numbers depth))
