use Rattle.std.proofs.Common.{ap, sym, ◌∙◌, subst, rules, Err, Result, List, ℕ}
use Rattle.warg_hash.specs.Name.{IsPackageName}
use Rattle.warg_names.specs.View.{import_tree}
use Rattle.warg_plan.specs.View.{key_view}
use Rattle.warg_plan.specs.Keys.{Key}
use Rattle.warg_plan.specs.Walk.{Stop, NoPackage}
use Rattle.warg_plan.proofs.NodeSteps.{not_package}
use Rattle.warg_plan.proofs.node.package_of.Goals as goal

refused : Key → Result (List ℕ) Stop
refused k = Err (NoPackage k)

pub returns-in_ok-try_clone-in-Err-Form : goal.returns-in_ok-try_clone-in-Err-Form
unfolding refused
returns-in_ok-try_clone-in-Err-Form c =
    not_package (key_view c.args.key.now) (import_tree c.args.import.now) (λ is. c.in-Err-Form.ensures.form (search rules) (subst IsPackageName (sym c.as_str.ensures) is))
    ∙ ap refused (sym c.in_ok-try_clone-in-Err-Form.ensures)
