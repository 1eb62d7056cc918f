use Rattle.std.proofs.Common.{rules, ◌≡◌, true}
use Rattle.std.specs.Prelude.{is_some}
use Rattle.std.specs.BTreeMap.{get}
use Rattle.compose_check.specs.Composition.{composition_tree}
use Rattle.compose_encode.specs.Parts.{part_cmp}
use Rattle.compose_encode.proofs.HeldLaws.{part_kept}
use Rattle.compose_encode.proofs.output.write_part.Goals as goal

pub returns-then-contains_key-clause-written : goal.returns-then-contains_key-clause-written
returns-then-contains_key-clause-written c = λ imports w h.
    let there : is_some (get part_cmp c.args.output.now.parts c.args.part) ≡ true = search rules in
    part_kept (composition_tree c.args.composition.now) imports c.args.output.now w c.args.part h there
