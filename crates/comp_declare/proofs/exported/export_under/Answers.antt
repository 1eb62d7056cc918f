use Rattle.std.proofs.Common.{subst}
use Rattle.std.proofs.lemmas.List.{at_drop_all}
use Rattle.comp_declare.proofs.ExportLaws.{IsLeft, left_found, left_more, left_none}
use Rattle.comp_declare.proofs.exported.export_under.Goals as goal

pub returns-in-Some : goal.returns-in-Some
returns-in-Some c = λ es is. left_found c.args.table.now c.args.name.now es c.args.exports.now c.loop-export.export-index _ c.in-Some.found c.requires c.loop-export-test.true c.in-Some.ensures (c.loop-export.invariant es is)

pub loop-export-preserved : goal.loop-export-preserved
loop-export-preserved c = λ es is. left_more c.args.table.now c.args.name.now es c.args.exports.now c.loop-export.export-index _ c.requires c.loop-export-test.true c.in_default.ensures (c.loop-export.invariant es is)

pub returns : goal.returns
returns c = λ es is. left_none c.args.table.now c.args.name.now es
    (subst (IsLeft c.args.table.now c.args.name.now es) (at_drop_all (λ xs. xs) c.args.exports.now c.loop-export.export-index c.loop-export-test.false) (c.loop-export.invariant es is))
