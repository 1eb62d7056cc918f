use Rattle.std.proofs.Common.{ℕ, List, Option, refl, ap}
use mathlib.Core.Path.{fun_ext}
use Rattle.sha2.specs.Sha256.{sha256}
use Rattle.warg_log.specs.declared.keys.KeyFacts.{KeyFacts}
use Rattle.warg_log.specs.Facts.{PlainFacts, known_by}
use Rattle.warg_log.proofs.FactsLaws.{given_back}
use Rattle.warg_log.proofs.facts.Facts.enter_init.Goals as goal

pub returns-clause-undo : goal.returns-clause-undo
returns-clause-undo c =
    let was : PlainFacts = known_by c.args.self.now in
    ap (λ (keys : List ℕ → Option KeyFacts). record was { keys = keys })
    (fun_ext (λ q. rw (c.id.ensures, c.in_ok-held.ensures.ok q, c.in_ok-held.ensures.was) (given_back was.keys (sha256 c.args.key.now) q c.args.key.now c.args.permissions (was.keys (sha256 c.args.key.now)) refl)))
