use Rattle.std.proofs.Common.{rules, ◌≡◌, Some}
use Rattle.compose_writing.specs.Keys.{InInstance, known_at}
use Rattle.compose_types.specs.Scopes.{scope_of}
use Rattle.compose_types.specs.Views.{mention_of}
use Rattle.compose_types.proofs.LargestLaws.{along_known_refused}
use Rattle.compose_types.proofs.RefusalLaws.{told}
use Rattle.compose_types.proofs.open.Open.index_of.Goals as goal

pub returns-in_err-index-in-Some-InInstance-clause-among : goal.returns-in_err-index-in-Some-InInstance-clause-among
returns-in_err-index-in-Some-InInstance-clause-among c = λ n e.
    let there : known_at c.args.self.now.known (mention_of c.args.key) ≡ Some (InInstance c.in-Some-InInstance.instance c.in-Some-InInstance.path) = search rules in
    along_known_refused n (scope_of c.args.self.now) (known_at c.args.self.now.known (mention_of c.args.key)) c.in-Some-InInstance.instance c.in-Some-InInstance.path there
    (rw c.as_slice.ensures at (c.in_err-index-in-Some-InInstance.ensures.among c.args.self.now.width c.args.self.now.known n (told c.from_residual.result _ n c.from_residual.ensures.1 e)))
