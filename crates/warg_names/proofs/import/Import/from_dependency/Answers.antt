use Rattle.std.proofs.Common.{sym, ap, ◌∙◌}
use Rattle.std.specs.Prelude.{option_map}
use Rattle.warg_names.specs.ImportLaws.{unlocked_again}
use Rattle.warg_names.specs.View.{import_tree}
use Rattle.warg_names.proofs.import.Import.from_dependency.Goals as goal

pub returns-in-Some-clause-ok : goal.returns-in-Some-clause-ok
returns-in-Some-clause-ok c = unlocked_again c.args.text.now ∙ sym c.in_ok-import.ensures ∙ ap (option_map import_tree) c.in-Some.is

pub returns-in_ok-error-in-None-clause-refused : goal.returns-in_ok-error-in-None-clause-refused
returns-in_ok-error-in-None-clause-refused c = λ e. unlocked_again c.args.text.now ∙ sym c.in_ok-import.ensures ∙ ap (option_map import_tree) c.in-None.is
