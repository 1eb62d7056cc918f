use Rattle.std.proofs.Common.{◌∙◌}
use Rattle.std.proofs.lemmas.Result.{IfOk-weaker}
use Rattle.comp_declare.proofs.MentionLaws.{type_mentions_are}
use Rattle.comp_declare.proofs.mentions.mentions_resource.Goals as goal

pub returns : goal.returns
returns c = λ t stands. IfOk-weaker c.look.result _ _ (λ b is. is ∙ type_mentions_are c.args.table.now c.args.number t c.trees_mention_as_entities.ensures stands) c.look.ensures.found
