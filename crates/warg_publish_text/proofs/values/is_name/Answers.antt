use Rattle.warg_hash.specs.NameLaws.{is_package_name-complete}
use Rattle.warg_publish_text.proofs.values.is_name.Goals as goal

pub returns : goal.returns
returns c = is_package_name-complete c.args.name.now c.as_str-text.ensures.is_name
