use Rattle.std.proofs.Common.{◌∙◌, ap, [], map}
use Rattle.comp_mention.specs.Mentions.{picked_in, trees_mentions}
use Rattle.comp_mention.specs.Walked.{with_numbers}
use Rattle.comp_table.specs.Trees.{tree_at, trees_of}
use Rattle.comp_mention.proofs.WalkLaws.{all_at}
use Rattle.comp_mention.proofs.walk.first_mentioned.Goals as goal

pub returns : goal.returns
returns c =
    let mentioned = picked_in c.args.what c.args.out (trees_mentions 0 (trees_of (map (tree_at c.args.table.now) c.args.numbers.now))) in
    c.in_ok-visit_parts.ensures.seen ∙ ap (λ keys. with_numbers keys mentioned) c.new.ensures.empty ∙ ap (λ ms. with_numbers [] (picked_in c.args.what c.args.out ms)) (all_at c.args.table.now c.args.numbers.now)
