use Rattle.warg_hash.specs.NameLaws.{is_package_name-complete}
use Rattle.warg_info_text.proofs.CheckpointLaws.{on_ok_too}
use Rattle.warg_info_text.proofs.values.name_value.Goals as goal

pub returns-in-Some-clause-writable : goal.returns-in-Some-clause-writable
returns-in-Some-clause-writable c =
    on_ok_too c.text_value.result (rw c.in-Some.is (is_package_name-complete c.in-Some.name.now c.as_str.ensures.is_name))
