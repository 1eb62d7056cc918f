use Rattle.std.proofs.Common.{rules, ◌∙◌, ◌<◌, ap, sym}
use Rattle.comp_mention.specs.Mentions.{picked_in, head_mentions}
use Rattle.comp_mention.specs.Walked.{IsVisited, with_numbers}
use Rattle.comp_table.specs.Trees.{tree_at}
use Rattle.comp_mention.proofs.WalkLaws.{nothing_new, visited_there, visited_since, visited_more, visited_now, tree_noted, noted_both, one_part_more}
use Rattle.comp_mention.proofs.walk.+walking.Goals as goal

pub visit-returns-then-contains-clause-seen : goal.visit-returns-then-contains-clause-seen
visit-returns-then-contains-clause-seen t c =
    nothing_new c.args.walk.now.seen.keys _ (visited_there (IsVisited c.args.what c.args.out c.args.table.now c.args.walk.now.seen.keys) c.args.walk.now.visited.keys c.args.place c.requires.visited (sym c.contains.ensures ∙ c.if-contains.true))

pub visit-visit_below-requires : goal.visit-visit_below-requires
visit-visit_below-requires t c =
    let fewer : c.in_ok-levels.levels < c.args.levels = c.in_ok-levels.ensures in
    (search (rules, fewer), (c.requires.there, visited_since c.args.what c.args.out c.args.table.now c.args.walk.now.seen.keys c.note_head.new.seen.keys (picked_in c.args.what c.args.out (head_mentions c.args.place.depth c.head-head.result.now)) c.args.walk.now.visited.keys c.in_ok-note_head.ensures c.requires.visited))

pub visit-returns-clause-visited : goal.visit-returns-clause-visited
visit-returns-clause-visited t c =
    let noted = tree_noted c.args.what c.args.out c.args.walk.now.seen.keys c.note_head.new.seen.keys c.visit_below.new.walk.seen.keys c.args.place.depth c.in_ok-depth.depth (tree_at c.args.table.now c.args.place.number) c.head-head.result.now c.head-head.ensures c.in_ok-depth.ensures c.in_ok-note_head.ensures c.in_ok-visit_below.ensures.seen in
    visited_more (IsVisited c.args.what c.args.out c.args.table.now c.visit_below.new.walk.seen.keys) c.visit_below.new.walk.visited.keys c.insert.new.self.keys c.args.place c.in_ok-insert.ensures.keys c.in_ok-visit_below.ensures.visited
    (visited_now c.args.what c.args.out c.args.table.now c.args.walk.now.seen.keys c.visit_below.new.walk.seen.keys c.args.place noted)

pub visit_parts-loop-part-preserved : goal.visit_parts-loop-part-preserved
visit_parts-loop-part-preserved t c =
    record {
      visited = c.in_ok-visit.ensures.visited;
      seen = noted_both c.args.what c.args.out c.args.walk.now.seen.keys c.loop-part.walk.seen.keys c.visit.new.walk.seen.keys _ _ c.loop-part.invariant.seen c.in_ok-visit.ensures.seen
          ∙ ap (λ ms. with_numbers c.args.walk.now.seen.keys (picked_in c.args.what c.args.out ms)) (sym (one_part_more c.args.depth c.args.table.now c.args.parts.now c.loop-part.part-index c.loop-part-test.true));
    }
