-- Each package so far is filed, in order.
use Rattle.std.proofs.Common.{◌≡◌, ◌++◌, length, map}
use Rattle.std.specs.List.{All}
use Rattle.std.specs.Vec.Iter.{into_iter_items, into_iter_len}
use Rattle.warg_log.specs.Rules.{Accepts}
use Rattle.warg_info.specs.Info.{IsSoundPackage}
use Rattle.warg_page.specs.Steps.{AreGood}
use Rattle.warg_store.specs.Held.{named_info}
use Rattle.warg_fetch.proofs.GroupLaws.{filed_of}
use Rattle.warg_fetch.proofs.group.each_filed.Given as goal

abbrev pub invariant-loop-info : goal.invariant-loop-info
invariant-loop-info l = record {
  in_order : l.yielded ++ into_iter_items l.info-iterator ≡ into_iter_items l.initial.info-iterator;
  counted : into_iter_len l.info-iterator ≡ length (into_iter_items l.info-iterator);
  filed : map named_info l.all.items ≡ map (filed_of l.registry l.checkpoint) l.yielded;
  sound : All IsSoundPackage l.yielded → All IsSoundPackage l.all.items;
  good : (accepts : Accepts) → AreGood accepts l.yielded → AreGood accepts l.all.items;
}
