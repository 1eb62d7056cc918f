use Rattle.std.proofs.Common.{◌∙◌, ap, subst, rules, sym}
use Rattle.warg_hash.specs.Name.{IsPackageName}
use Rattle.warg_names.specs.Import.{ImportTree}
use Rattle.warg_names.specs.View.{import_tree}
use Rattle.warg_plan.specs.Keys.{Parsed}
use Rattle.warg_bundle.proofs.ContentLaws.{no_package, refused}
use Rattle.warg_bundle.proofs.learning.package_of.Goals as goal

pub returns-in_ok-try_clone-in-Err-Form : goal.returns-in_ok-try_clone-in-Err-Form
returns-in_ok-try_clone-in-Err-Form c =
    no_package (Parsed (import_tree c.args.import.now)) (import_tree c.args.import.now) (λ is. c.in-Err-Form.ensures.form (search rules) (subst IsPackageName (sym c.as_str.ensures) is))
    ∙ ap (λ (i : ImportTree). refused (Parsed i)) (sym c.in_ok-try_clone-in-Err-Form.ensures)
