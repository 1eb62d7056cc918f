use Rattle.std.proofs.Common.{◌≡◌, ◌++◌, List, ℕ, length, map, All}
use Rattle.std.specs.Vec.Iter.{into_iter_items, into_iter_len}
use Rattle.warg_info.specs.Info.{IsSoundPackage}
use Rattle.warg_info.specs.Kept.{Kept}
use Rattle.warg_page.specs.Views.{package_view}
use Rattle.warg_learn.specs.Gathered.{AreFound}
use Rattle.warg_learn.proofs.group.put_infos.Given as goal

abbrev pub invariant-loop-info : goal.invariant-loop-info
invariant-loop-info l = record {
  in_order : l.yielded ++ into_iter_items l.info-iterator ≡ into_iter_items l.initial.info-iterator;
  counted : into_iter_len l.info-iterator ≡ length (into_iter_items l.info-iterator);
  found : (logs : List (List ℕ × List Kept)) → AreFound logs l.fn.found → All IsSoundPackage (into_iter_items l.initial.info-iterator) → AreFound (map package_view l.yielded ++ logs) l.found;
}
