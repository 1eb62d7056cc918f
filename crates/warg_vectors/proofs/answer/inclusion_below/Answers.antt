use Rattle.std.proofs.Common.{◌≡◌, ◌∙◌, ℕ, Option, rules, sym, subst, arith}
use Rattle.std.specs.Prelude.{IfSome}
use Rattle.warg_exchange.specs.declared.checkpoint.SignedCheckpoint.{SignedCheckpoint}
use Rattle.warg_model.specs.Held.{IsLatest, registry_of}
use Rattle.warg_model.specs.Hashes.{AreHashesBelow}
use Rattle.warg_model.specs.State.{held}
use Rattle.warg_model.specs.declared.hashes.RegistryHashes.{RegistryHashes}
use Rattle.warg_vectors.proofs.ListLaws.{when-ok}
use Rattle.warg_vectors.proofs.answer.inclusion_below.Goals as goal

pub returns : goal.returns
returns c =
    let h = held c.args.named.now.registry in
    let w = registry_of h in
    let same : c.args.length ≡ c.args.latest = search rules in
    when-ok _ _ c.inclusion_by.result
    (λ reply is last sound latest long le.
    let of = subst (λ (o : Option SignedCheckpoint). IfSome o (IsLatest h)) latest sound.model.latest in
    let kept = subst (λ (o : Option RegistryHashes). IfSome o (AreHashesBelow w last.contents.log_length)) c.in-Some.is (sound.hashes last latest) in
    is w (subst (λ (n : ℕ). AreHashesBelow w n c.in-Some.hashes) (long ∙ sym same) kept) (omega (arith, le, long, of.is.below)))
    c.inclusion_by.ensures

pub returns-2 : goal.returns-2
returns-2 c =
    let h = held c.args.named.now.registry in
    let w = registry_of h in
    when-ok _ _ c.inclusion_by-2.result
    (λ reply is last sound latest long le.
    let of = subst (λ (o : Option SignedCheckpoint). IfSome o (IsLatest h)) latest sound.model.latest in
    is w c.in_ok-hashes.ensures (omega (arith, le, long, of.is.below)))
    c.inclusion_by-2.ensures
