use Rattle.std.proofs.Common.{refl, sym, subst}
use Rattle.warg_model.specs.Held.{registry_of}
use Rattle.warg_model.specs.State.{held}
use Rattle.warg_vectors.specs.Answers.{IsAnswerBelow}
use Rattle.warg_vectors.specs.AskViews.{registry_ask_view}
use Rattle.warg_vectors.specs.declared.ask.RegistryAsk.{RegistryAsk}
use Rattle.warg_vectors.proofs.ListLaws.{when-ok}
use Rattle.warg_vectors.proofs.answer.grown_answer.Goals as goal

pub returns-in-Inclusion : goal.returns-in-Inclusion
returns-in-Inclusion c =
    let w = registry_of (held c.args.named.now.registry) in
    when-ok _ _ c.inclusion_answer.result
    (λ reply is sound latest. subst (λ (a : RegistryAsk). IsAnswerBelow w c.args.latest.now (registry_ask_view a) reply) (sym c.in-Inclusion.is) (is c.args.latest.now sound latest refl))
    c.inclusion_answer.ensures
