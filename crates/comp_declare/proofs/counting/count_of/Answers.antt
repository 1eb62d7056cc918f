use Rattle.std.proofs.Common.{◌∙◌}
use Rattle.std.proofs.lemmas.Result.{IfOk-weaker}
use Rattle.comp_mention.specs.Mentions.{mentions_at, picked_in}
use Rattle.comp_declare.proofs.CountLaws.{counted_once}
use Rattle.comp_declare.proofs.counting.count_of.Goals as goal

pub returns : goal.returns
returns c =
    IfOk-weaker c.beyond.result _ _ (λ n is. is ∙ counted_once c.as_slice.result.now (picked_in c.args.what c.args.out (mentions_at c.args.table.now c.args.numbers.now)) (c.as_slice.ensures.keys ∙ c.in_ok-mentioned.ensures)) c.beyond.ensures
