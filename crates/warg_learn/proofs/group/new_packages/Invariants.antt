use Rattle.std.proofs.Common.{◌≡◌, ◌++◌, length, map, All}
use Rattle.std.specs.Vec.Iter.{into_iter_items, into_iter_len}
use Rattle.warg_info.specs.Info.{IsSoundPackage}
use Rattle.warg_log.specs.Rules.{Accepts}
use Rattle.warg_page.specs.Steps.{AreGood}
use Rattle.warg_page.specs.Views.{package_view}
use Rattle.warg_learn.specs.Groups.{without_logs}
use Rattle.warg_learn.proofs.group.new_packages.Given as goal

abbrev pub invariant-loop-name : goal.invariant-loop-name
invariant-loop-name l = record {
  in_order : l.yielded ++ into_iter_items l.name-iterator ≡ into_iter_items l.initial.name-iterator;
  counted : into_iter_len l.name-iterator ≡ length (into_iter_items l.name-iterator);
  empty : map package_view l.infos.items ≡ without_logs l.yielded;
  sound : All IsSoundPackage l.infos.items;
  good : (accepts : Accepts) → AreGood accepts l.infos.items;
}
