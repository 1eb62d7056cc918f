use Rattle.std.proofs.Common.{◌≡◌, IfOk, subst}
use Rattle.comp_define.proofs.ClosingLaws.{sides_mention}
use Rattle.comp_mention.specs.Mentions.{picked_in}
use Rattle.comp_scope.specs.Closing.{first_mentions}
use Rattle.comp_define.proofs.closing.mentioned.Goals as goal

pub first_mentioned-requires : goal.first_mentioned-requires
first_mentioned-requires c = (c.requires.1.exports.there, (c.requires.1.imports.there, tt))

pub returns : goal.returns
returns c = λ s shows.
    subst (λ ms. IfOk c.first_mentioned.result (λ found. found.keys ≡ first_mentions (picked_in c.args.what 0 ms)))
    (sides_mention c.args.table.now c.args.sides.imports c.args.sides.exports s (c.trees_mention_as_entities.ensures 0) shows.imports shows.exports) c.first_mentioned.ensures
