use Rattle.std.proofs.Common.{ℕ, Option, subst}
use Rattle.std.specs.Prelude.{IfSome}
use Rattle.warg_model.specs.Held.{registry_of}
use Rattle.warg_model.specs.Hashes.{AreHashesBelow}
use Rattle.warg_model.specs.State.{held}
use Rattle.warg_model.specs.declared.hashes.RegistryHashes.{RegistryHashes}
use Rattle.warg_vectors.proofs.ListLaws.{when-ok}
use Rattle.warg_vectors.proofs.answer.consistency_answer.Goals as goal

pub returns-in-Some : goal.returns-in-Some
returns-in-Some c =
    let w = registry_of (held c.args.named.now.registry) in
    when-ok _ _ c.consistency_by.result
    (λ reply is last sound latest long.
    let kept = subst (λ (o : Option RegistryHashes). IfSome o (AreHashesBelow w last.contents.log_length)) c.in-Some.is (sound.hashes last latest) in
    is w c.args.latest (subst (λ (n : ℕ). AreHashesBelow w n c.in-Some.hashes) long kept))
    c.consistency_by.ensures

pub returns : goal.returns
returns c =
    when-ok _ _ c.consistency_by-2.result
    (λ reply is last sound latest long. is (registry_of (held c.args.named.now.registry)) c.args.latest c.in_ok-hashes.ensures)
    c.consistency_by-2.ensures
