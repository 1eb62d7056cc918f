use Rattle.std.proofs.Common.{sym, ◌∙◌}
use Rattle.std.proofs.lemmas.Bool.{both_ways}
use Rattle.warg_hash.specs.NameLaws.{is_package_name-name, is_package_name-complete}
use Rattle.warg_hash.proofs.name.PackageName.new.Goals as goal

pub returns-then-not-is_package_name-clause-form : goal.returns-then-not-is_package_name-clause-form
returns-then-not-is_package_name-clause-form c = λ e is.
    both_ways _ c.if-not-is_package_name.true (c.is_package_name.ensures ∙ is_package_name-complete c.args.text.now is)

pub returns-clause-ok : goal.returns-clause-ok
returns-clause-ok c = (
  c.in_ok-text.ensures,
  is_package_name-name c.args.text.now (sym c.is_package_name.ensures ∙ c.if-not-is_package_name.false),
)
