use Rattle.std.proofs.Common.{inl, inr, Option, IfSome, subst}
use Rattle.warg_hash.specs.Hash.{operator_log_id}
use Rattle.warg_exchange.specs.declared.checkpoint.SignedCheckpoint.{SignedCheckpoint}
use Rattle.warg_update.specs.Proved.{IsSigned}
use Rattle.warg_ledger.specs.Registry.{log_below}
use Rattle.warg_model.specs.Held.{IsLatest, registry_of}
use Rattle.warg_vectors.specs.Answers.{IsAnswerBehind}
use Rattle.warg_vectors.specs.Asked.{Checkpoint}
use Rattle.warg_vectors.proofs.NamedLaws.{never-refused}
use Rattle.warg_vectors.proofs.laws.replies_are_honest.Goals as goal

pub returns-clause-checkpoint : goal.returns-clause-checkpoint
returns-clause-checkpoint c accepts h last stored reply model own is follows answer =
    let latest : IsLatest h last = subst (λ (o : Option SignedCheckpoint). IfSome o (IsLatest h)) is model.latest in
    record {
      checkpoint = last;
      came = subst (λ (o : Option SignedCheckpoint). IsAnswerBehind h o Checkpoint reply) is answer;
      honest = record {
        is = latest.is;
        signed = subst (λ (o : Option SignedCheckpoint). IfSome o (λ c. IsSigned accepts (log_below (registry_of h) c.contents.log_length operator_log_id) c)) is (c.what_is_signed_is_accepted.ensures.signed accepts h model own);
        follows = follows;
      };
    }

pub returns-clause-page : goal.returns-clause-page
returns-clause-page c w n operator packages logs reply apart names have answer = elim answer [
  | inl gives ↦ gives.gives apart logs names
  | inr refused ↦ absurd (never-refused w n operator packages logs names have reply refused)
]
