use Rattle.warg_ledger.proofs.LeftLaws.{operator-left, package-left, none-left-empty}
use Rattle.warg_ledger.proofs.PageLaws.{page-taken}
use Rattle.warg_ledger.proofs.laws.honest_pages_are_taken.Goals as goal

pub returns-clause-never_refused : goal.returns-clause-never_refused
returns-clause-never_refused c accepts w n logs page e registry is bad = page-taken (record { one = c.growth_is_taken.ensures.one; taken = c.growth_is_taken.ensures.never_refused; front = c.fronts_are_lawful.ensures.front }) e accepts w n logs page registry is bad

pub returns-clause-operator : goal.returns-clause-operator
returns-clause-operator c accepts w n logs page after registry is brings = operator-left (record { one = c.growth_is_taken.ensures.one; taken = c.growth_is_taken.ensures.never_refused; front = c.fronts_are_lawful.ensures.front }) accepts w n logs page after registry is brings

pub returns-clause-packages : goal.returns-clause-packages
returns-clause-packages c accepts w n logs page after name log registry is brings there = package-left (record { one = c.growth_is_taken.ensures.one; taken = c.growth_is_taken.ensures.never_refused; front = c.fronts_are_lawful.ensures.front }) accepts w n logs page after name log registry is brings there

pub returns-clause-kept : goal.returns-clause-kept
returns-clause-kept c accepts w n logs page after registry is brings = none-left-empty (record { one = c.growth_is_taken.ensures.one; taken = c.growth_is_taken.ensures.never_refused; front = c.fronts_are_lawful.ensures.front }) accepts w n logs page after registry is brings
