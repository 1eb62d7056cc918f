use Rattle.std.proofs.Common.{ap, ◌∙◌}
use Rattle.comp_encoder.specs.Builder.{entries_of}
use Rattle.comp_encoder.proofs.CountLaws.{none_built, none_entries}
use Rattle.comp_encoder.proofs.builder.ComponentBuilder.new.Goals as goal

pub invariant_of-result : goal.invariant_of-result
invariant_of-result c = rw c.new.ensures none_built

pub returns : goal.returns
returns c = ap entries_of c.new.ensures ∙ none_entries
