use Rattle.std.proofs.Common.{rules, ◌≡◌}
use Rattle.compose_types.specs.Scopes.{scopes}
use Rattle.compose_types.specs.Views.{mention_of}
use Rattle.compose_types.proofs.LargestLaws.{index_refused, outer_refused}
use Rattle.compose_types.proofs.PossibleLaws.{index_stands}
use Rattle.compose_types.proofs.RefusalLaws.{told}
use Rattle.compose_types.proofs.state.TypeState.index_of.Goals as goal

pub returns-in_err-up-clause-among : goal.returns-in_err-up-clause-among
returns-in_err-up-clause-among c =
    λ n e. index_refused n (mention_of c.args.key) (scopes c.args.self.now) (c.in_err-up.ensures.among n (told c.from_residual.result _ n c.from_residual.ensures.1 e))

pub returns-in_err-index-clause-among : goal.returns-in_err-index-clause-among
returns-in_err-index-clause-among c = λ n e.
    let some : ¬ (c.in_ok-up.up ≡ 0) = search rules in
    outer_refused n (mention_of c.args.key) (scopes c.args.self.now) (scopes c.stand.new.self) c.in_ok-up.up c.in_ok-up.index some c.in_ok-up.ensures.stood
    (c.in_err-index.ensures.among n (told c.from_residual-in_err-index.result _ n c.from_residual-in_err-index.ensures.1 e))

pub stand-requires : goal.stand-requires
stand-requires c = index_stands (mention_of c.args.key) (scopes c.args.self.now) c.requires
