use Rattle.compose_imports.proofs.GrownLaws.{left_grows, lefts_grow}
use Rattle.compose_imports.proofs.laws.what_is_written_for_imports_only_grows.Goals as goal

pub returns-clause-left : goal.returns-clause-left
returns-clause-left c =
    left_grows c.what_is_written_only_grows.ensures.also c.what_is_written_only_grows.ensures.import
    c.what_is_written_only_grows.ensures.entity

pub returns-clause-lefts : goal.returns-clause-lefts
returns-clause-lefts c =
    lefts_grow (left_grows c.what_is_written_only_grows.ensures.also c.what_is_written_only_grows.ensures.import
    c.what_is_written_only_grows.ensures.entity)
