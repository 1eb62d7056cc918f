use Rattle.std.proofs.Common.{◌≡◌}
use Rattle.comp_entity.specs.Places.{same_mention}
use Rattle.compose_types.specs.Views.{mention_of}
use Rattle.compose_types.proofs.SightLaws.{some_from}
use Rattle.compose_types.proofs.sights.+bringing.Given as goal

abbrev pub invariant-some_brings-loop-entry : goal.invariant-some_brings-loop-entry
invariant-some_brings-loop-entry l =
    some_from (λ k. same_mention k (mention_of l.key)) l.entries l.entry-index ≡ some_from (λ k. same_mention k (mention_of l.key)) l.entries 0
