use Rattle.std.proofs.Common.{option_copied, sym, ◌∙◌}
use Rattle.warg_hash.specs.Hash.{package_log_id}
use Rattle.warg_update.proofs.MissingLaws.{same-log}
use Rattle.warg_update.proofs.page.missing_package.Goals as goal

pub returns-in_default-package_of-clause-other : goal.returns-in_default-package_of-clause-other
returns-in_default-package_of-clause-other c ids p hint has is =
    let missing = c.in-Some.missing in
    c.in_default-package_of.ensures.absent ids p has (sym (same-log missing.id (package_log_id p.0) (option_copied missing.hint) hint (sym c.in-Some.ensures.found ∙ is)))
