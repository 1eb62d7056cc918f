use Rattle.std.proofs.Common.{◌++◌, List, sym, ◌∙◌, ap, subst, take}
use Rattle.std.proofs.lemmas.List.{append-nil}
use Rattle.warg_info.specs.Info.{IsLawfulLog}
use Rattle.warg_info.specs.Kept.{Kept, Ascends}
use Rattle.warg_ledger.proofs.AscendLaws.{log-ascends, honest-grows}
use Rattle.warg_ledger.proofs.TakenLaws.{never-refused}
use Rattle.warg_ledger.proofs.laws.honest_records_are_taken.Goals as goal

pub returns-clause-never_refused : goal.returns-clause-never_refused
returns-clause-never_refused c accepts w kind id n before ps more e kept registry is b f =
    never-refused (record { one = c.growth_is_taken.ensures.one; taken = c.growth_is_taken.ensures.never_refused; front = c.fronts_are_lawful.ensures.front }) e kind accepts before b.next b.after ps kept
    (subst (IsLawfulLog kind accepts) b.parts (registry.lawful kind id n is))
    (subst Ascends b.parts (log-ascends w.token id (take n w.entries)))
    b.published f

pub returns-clause-grows : goal.returns-clause-grows
returns-clause-grows c w kind id n before ps more b =
    honest-grows kind before b.next b.after ps (subst Ascends b.parts (log-ascends w.token id (take n w.entries))) b.published

pub returns-clause-whole : goal.returns-clause-whole
returns-clause-whole c w kind id n before ps more b ended =
    sym (b.parts ∙ ap (λ (l : List Kept). before ++ (b.next ++ l)) (b.all_of_it ended) ∙ ap (λ (l : List Kept). before ++ l) (append-nil b.next))
