use Rattle.std.proofs.Common.{rules, ap, sym, ◌∙◌, ◌≡◌, ◌<◌, subst, map, length, Some, slice_index_or}
use Rattle.std.specs.BTreeMap.{get}
use Rattle.comp_entity.specs.Names.{changing}
use Rattle.comp_rename.specs.Known.{mentioned_cmp}
use Rattle.comp_table.specs.Changes.{tree_by, scopes_in}
use Rattle.comp_table.specs.StandLaws.{grows_not, grows_on, all_none, all_step, same_stands}
use Rattle.comp_table.specs.Trees.{AllStand, IsBelow, tree_at, node_tree}
use Rattle.comp_rename.proofs.RenameLaws.{below_at, below_wider, tree_kept, longer, known_kept, known_more, node_renamed}
use Rattle.comp_rename.proofs.rename.+renaming.Goals as goal

pub rename-returns-in-Some-clause-number : goal.rename-returns-in-Some-clause-number
rename-returns-in-Some-clause-number g t c =
    let found : get mentioned_cmp c.args.known.now c.args.place ≡ Some c.in-Some.number.now = search rules in
    let is = c.requires.known c.args.place c.in-Some.number.now found in is.renamed

pub rename-rename_parts-requires : goal.rename-rename_parts-requires
rename-rename_parts-requires g t c κs within =
    let below = subst (IsBelow (length c.args.table.now)) (sym (c.deref.ensures.value ∙ c.in_ok-parts.ensures)) (below_wider c.args.place.number (length c.args.table.now) c.parts.result.now c.requires.there c.parts.ensures.below) in
    let fewer : c.in_ok-levels.levels < c.args.levels = c.in_ok-levels.ensures in
    (search (rules, fewer), (within, (below, c.requires.known)))

pub rename-returns-in-Ok-clause-number : goal.rename-returns-in-Ok-clause-number
rename-returns-in-Ok-clause-number g t c =
    let deep = c.in_ok-depth.ensures ∙ ap (λ x. scopes_in x c.args.place.depth) (c.head-2.ensures ∙ sym c.head.ensures) in
    let all = subst (λ xs. AllStand c.rename_parts.new.table c.in_ok-renamed.renamed.items (map (λ p. tree_by (changing (g.R.Renaming.resources c.args.renaming.now) (g.R.Renaming.places c.args.renaming.now)) c.in_ok-depth.depth (tree_at c.args.table.now p)) xs)) (c.deref.ensures.value ∙ c.in_ok-parts.ensures) c.in_ok-renamed.ensures.numbers in
    same_stands c.number_of.new.self c.in_ok-number.number _ _
    (ap (node_tree c.rename_parts.new.table c.in_ok-head.head) c.from_vec.ensures
    ∙ node_renamed (changing (g.R.Renaming.resources c.args.renaming.now) (g.R.Renaming.places c.args.renaming.now)) c.args.table.now c.rename_parts.new.table c.args.place.depth c.in_ok-depth.depth (tree_at c.args.table.now c.args.place.number) c.head.result.now c.in_ok-head.head c.parts.result.now c.in_ok-renamed.renamed.items c.head.ensures c.parts.ensures.parts c.in_ok-head.ensures deep all)
    c.in_ok-number.ensures.number

pub rename-returns-in-Ok-clause-known : goal.rename-returns-in-Ok-clause-known
rename-returns-in-Ok-clause-known g t c =
    let grown = grows_on _ _ _ c.in_ok-renamed.ensures.extends c.in_ok-number.ensures.extends in
    known_more (changing (g.R.Renaming.resources c.args.renaming.now) (g.R.Renaming.places c.args.renaming.now)) c.number_of.new.self c.rename_parts.new.known c.insert.new.self c.args.place c.in_ok-number.number
    (known_kept (changing (g.R.Renaming.resources c.args.renaming.now) (g.R.Renaming.places c.args.renaming.now)) c.rename_parts.new.table c.number_of.new.self c.rename_parts.new.known c.in_ok-number.ensures.extends c.in_ok-renamed.ensures.known)
    (record {
      there = longer c.args.table.now c.number_of.new.self c.args.place.number grown c.requires.there;
      renamed = same_stands c.number_of.new.self c.in_ok-number.number _ _ (ap (tree_by (changing (g.R.Renaming.resources c.args.renaming.now) (g.R.Renaming.places c.args.renaming.now)) c.args.place.depth) (sym (tree_kept c.args.table.now c.number_of.new.self c.args.place.number grown c.requires.there))) (rename-returns-in-Ok-clause-number g t c);
    })
    c.in-Ok.ensures.updates

pub rename_parts-loop-part-init : goal.rename_parts-loop-part-init
rename_parts-loop-part-init g t c = record { extends = grows_not _; known = c.requires.known; numbers = rw c.new-numbers.ensures.items (all_none _) }

pub rename_parts-loop-part-preserved : goal.rename_parts-loop-part-preserved
rename_parts-loop-part-preserved g t c =
    let lt : c.loop-part.part-index < length c.args.parts.now = search rules in
    let there = below_at (length c.args.table.now) c.args.parts.now c.loop-part.part-index 0 c.requires.below lt in
    record {
      extends = grows_on _ _ _ c.loop-part.invariant.extends c.in_ok-number.ensures.extends;
      known = c.in_ok-number.ensures.known;
      numbers = all_step (λ p. tree_by (changing (g.R.Renaming.resources c.args.renaming.now) (g.R.Renaming.places c.args.renaming.now)) c.args.depth (tree_at c.args.table.now p)) c.args.parts.now c.loop-part.table c.rename.new.table c.loop-part.part-index 0 c.loop-part.numbers.items c.push.new.self.items c.in_ok-number.number lt c.in_ok-number.ensures.extends c.loop-part.invariant.numbers
          (same_stands c.rename.new.table c.in_ok-number.number _ _ (ap (tree_by (changing (g.R.Renaming.resources c.args.renaming.now) (g.R.Renaming.places c.args.renaming.now)) c.args.depth) (tree_kept c.args.table.now c.loop-part.table (slice_index_or c.args.parts.now c.loop-part.part-index 0) c.loop-part.invariant.extends there)) c.in_ok-number.ensures.number) c.in_ok-push.ensures.items;
    }
