use Rattle.warg_info.proofs.GrowthLaws.{one-growth, grows-apart, never-refused}
use Rattle.warg_info.proofs.laws.growth_is_taken.Goals as goal

pub returns-clause-one : goal.returns-clause-one
returns-clause-one c kind old new other ps g h = one-growth c.one_envelope.ensures kind old ps new other g h

pub returns-clause-apart : goal.returns-clause-apart
returns-clause-apart c = grows-apart

pub returns-clause-never_refused : goal.returns-clause-never_refused
returns-clause-never_refused c kind accepts old new ps e kept grows lawful f = never-refused c.one_envelope.ensures e kind accepts old new ps kept grows lawful f
