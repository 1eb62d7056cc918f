use Rattle.comp_space.specs.SpaceLaws.{space_kept}
use Rattle.comp_space.specs.StandingLaws.{on_err_always}
use Rattle.comp_declare.proofs.AliasLaws.{shows_core_type}
use Rattle.comp_declare.proofs.aliases.add_unknown.Goals as goal

pub returns-in_ok-push-in-Ty-clause-added : goal.returns-in_ok-push-in-Ty-clause-added
returns-in_ok-push-in-Ty-clause-added c = λ s shows. rw c.in-Ty.is (shows_core_type c.args.table.now c.args.space.now s shows c.push.new.self c.in_ok-push-in-Ty.ensures.items)

pub returns-in_err-number-in-Module-clause-unchanged : goal.returns-in_err-number-in-Module-clause-unchanged
returns-in_err-number-in-Module-clause-unchanged c = λ s shows.
    on_err_always c.from_residual-in_err-number-in-Module.result (space_kept c.args.table.now c.leaf.new.table c.leaf.ensures.extends c.args.space.now s shows)

pub returns-in_ok-number-in-Module-clause-added : goal.returns-in_ok-number-in-Module-clause-added
returns-in_ok-number-in-Module-clause-added c = λ s shows. rw c.in-Module.is
    (c.add_own_module.ensures.added c.leaf.new.table s (space_kept c.args.table.now c.leaf.new.table c.leaf.ensures.extends c.args.space.now s shows) c.in_ok-number-in-Module.ensures.number)

pub returns-in_ok-number-in-Module-clause-unchanged : goal.returns-in_ok-number-in-Module-clause-unchanged
returns-in_ok-number-in-Module-clause-unchanged c = λ s shows.
    c.add_own_module.ensures.unchanged c.leaf.new.table s (space_kept c.args.table.now c.leaf.new.table c.leaf.ensures.extends c.args.space.now s shows)
