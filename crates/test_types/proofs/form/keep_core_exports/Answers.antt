use Rattle.std.proofs.Common.{rules, subst}
use Rattle.std.specs.List.{All}
use Rattle.std.proofs.lemmas.List.{take_all}
use Rattle.std.proofs.lemmas.List.Elements.{All-more}
use Rattle.std.specs.Prelude.{ℕ, List}
use Rattle.comp_entity.specs.declared.module.CoreShape.{CoreShape}
use Rattle.compose_writing.specs.Conditions.{KeepsCore}
use Rattle.test_types.proofs.form.keep_core_exports.Goals as goal

pub loop-export-preserved : goal.loop-export-preserved
loop-export-preserved c =
    let P = λ (e : List ℕ × CoreShape). KeepsCore e.1 in
    All-more P c.args.exports.now c.loop-export.export-index c.export-item.result c.loop-export-test.true c.loop-export.invariant (subst P c.export-item.is (search rules))

pub returns : goal.returns
returns c = λ t. subst (All (λ (e : List ℕ × CoreShape). KeepsCore e.1)) (take_all c.loop-export.export-index c.args.exports.now c.loop-export-test.false) c.loop-export.invariant
