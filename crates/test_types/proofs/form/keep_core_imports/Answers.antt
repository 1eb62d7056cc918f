use Rattle.std.proofs.Common.{rules, subst}
use Rattle.std.specs.List.{All}
use Rattle.std.proofs.lemmas.List.{take_all}
use Rattle.std.proofs.lemmas.List.Elements.{All-more}
use Rattle.std.specs.Prelude.{ℕ, List}
use Rattle.comp_entity.specs.declared.module.CoreShape.{CoreShape}
use Rattle.compose_writing.specs.Conditions.{KeepsCore}
use Rattle.test_types.proofs.form.keep_core_imports.Goals as goal

pub loop-import-preserved : goal.loop-import-preserved
loop-import-preserved c =
    let P = λ (i : List ℕ × List ℕ × CoreShape). KeepsCore i.2 in
    All-more P c.args.imports.now c.loop-import.import-index c.import-item.result c.loop-import-test.true c.loop-import.invariant (subst P c.import-item.is (search rules))

pub returns : goal.returns
returns c = λ t. subst (All (λ (i : List ℕ × List ℕ × CoreShape). KeepsCore i.2)) (take_all c.loop-import.import-index c.args.imports.now c.loop-import-test.false) c.loop-import.invariant
