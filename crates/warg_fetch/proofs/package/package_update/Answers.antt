use Rattle.std.proofs.Common.{Some}
use Rattle.std.proofs.lemmas.List.Elements.{All-pop}
use Rattle.warg_info.specs.Info.{IsSoundPackage}
use Rattle.warg_page.specs.Steps.{IsGood}
use Rattle.warg_fetch.proofs.package.package_update.Goals as goal

pub returns-clause-good : goal.returns-clause-good
returns-clause-good c = λ accepts operator packages.
    let info : IsGood accepts c.in-Some.info = (All-pop (IsGood accepts) _ _ (Some c.in-Some.info) c.in-Some.ensures.items packages).1 in
    record {
      operator = record { sound = operator.sound; lawful = operator.lawful };
      info = record { sound = info.sound; lawful = info.lawful };
    }

pub returns-clause-sound : goal.returns-clause-sound
returns-clause-sound c = λ are.
    let info : IsSoundPackage c.in-Some.info = (All-pop IsSoundPackage _ _ (Some c.in-Some.info) c.in-Some.ensures.items are.packages).1 in
    record {
      operator = record { read = are.operator.read; replay = are.operator.replay; ascends = are.operator.ascends };
      info = record { read = info.read; replay = info.replay; ascends = info.ascends };
    }
