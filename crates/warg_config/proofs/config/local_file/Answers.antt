-- The search goes on, or finds a file.
use Rattle.std.proofs.Common.{◌≡◌, Some, ap, arith, refl, rules, ◌∙◌}
use Rattle.std.specs.Path.{path_bytes}
use Rattle.std.specs.Path.Iter.{ancestors_next}
use Rattle.warg_config.proofs.SearchLaws.{finds_here, local_path, searches_all, searches_on, turn}
use Rattle.warg_config.proofs.config.local_file.Goals as goal

pub loop-folder-init : goal.loop-folder-init
loop-folder-init g c = (
  omega arith,
  refl,
  searches_all _ _ _ (ap ancestors_next c.into_iter-folder-iterator.ensures.into_iter_gives ∙ c.ancestors-folder-items.ensures ∙ ap Some c.new.ensures),
)

pub loop-folder-preserved : goal.loop-folder-preserved
loop-folder-preserved g c =
    let before = c.loop-folder.invariant in
    let folder = c.in-Some.folder in
    let next = turn (ancestors_next c.loop-folder.folder-iterator) (ancestors_next c.next.new.self) c.next.result folder c.in-Some.is c.next.ensures.steps in
    let is : c.as_str-in-loop-folder.result.now ≡ local_path (path_bytes folder) = search rules in (
      omega (arith, before.0, c.in-Ok-false.ensures.never_falls),
      c.in-Ok-false.ensures.kept ∙ before.1,
      searches_on _ _ _ _ _ (path_bytes folder) c.as_str-in-loop-folder.result.now c.in-Ok-false.field-0 before.1 next.0 next.1 is c.in-Ok-false.field-0-test
          c.in-Ok-false.ensures.answer before.2,
    )

pub returns-in-Ok-true-clause-found : goal.returns-in-Ok-true-clause-found
returns-in-Ok-true-clause-found g c =
    let before = c.loop-folder.invariant in
    let folder = c.in-Some.folder in
    let next = turn (ancestors_next c.loop-folder.folder-iterator) (ancestors_next c.next.new.self) c.next.result folder c.in-Some.is c.next.ensures.steps in
    let is : c.as_str-in-loop-folder.result.now ≡ local_path (path_bytes folder) = search rules in
    finds_here _ _ _ _ (path_bytes folder) c.as_str-in-loop-folder.result.now _ c.in-Ok-true.field-0 before.1 next.0 is (search rules) c.in-Ok-true.field-0-test
    c.in-Ok-true.ensures.answer before.2
