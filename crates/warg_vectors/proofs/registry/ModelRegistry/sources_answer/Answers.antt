use Rattle.std.proofs.Common.{ℕ, List, Option, subst}
use Rattle.warg_vectors.specs.Answers.{IsSourcesReply}
use Rattle.warg_vectors.proofs.ListLaws.{when-ok}
use Rattle.warg_vectors.proofs.registry.ModelRegistry.sources_answer.Goals as goal

pub returns-in-Some : goal.returns-in-Some
returns-in-Some c =
    when-ok _ _ c.sources_at.result (λ reply is. subst (λ (o : Option (List ℕ)). IsSourcesReply c.args.digest.now o reply) c.in-Some.ensures (is c.in-Some.field-0.now)) c.sources_at.ensures
