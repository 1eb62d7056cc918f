-- Each entry by what it has.
use Rattle.std.proofs.Common.{subst}
use Rattle.warg_hash.specs.Hash.{IsDigest}
use Rattle.warg_publish.proofs.FormedLaws.{algorithm_is_text, permissions_stand}
use Rattle.warg_publish.proofs.entry.PublishEntry.is_formed.Goals as goal

pub returns-in-Init : goal.returns-in-Init
returns-in-Init c = rw c.in-Init.is (λ can. (c.has_form.ensures, algorithm_is_text))

pub returns-in-Grant : goal.returns-in-Grant
returns-in-Grant c = rw c.in-Grant.is (λ can. (c.has_form-in-Grant.ensures, (can, permissions_stand c.in-Grant.permissions.items)))

pub returns-in-Revoke : goal.returns-in-Revoke
returns-in-Revoke c =
    rw c.in-Revoke.is (λ can. (subst IsDigest c.hash.ensures.value c.is_digest-in-Revoke.ensures, (can, permissions_stand c.in-Revoke.permissions.items)))
