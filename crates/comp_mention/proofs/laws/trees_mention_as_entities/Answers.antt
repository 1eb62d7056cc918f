use Rattle.comp_mention.proofs.MentionLaws.{entity_mentions}
use Rattle.comp_mention.proofs.laws.trees_mention_as_entities.Goals as goal

pub returns : goal.returns
returns c = entity_mentions
