use Rattle.std.proofs.Common.{rules, ◌≡◌, ◌+◌, ◌≤◌, ◌∙◌, ap, subst, arith, length}
use Rattle.std.specs.Prelude.{MatchOption}
use Rattle.comp_table.specs.Trees.{below_root}
use Rattle.compose_fit.specs.Fit.{FitsAt, IsMisfitAt}
use Rattle.compose_fit.specs.Seen.{compared_by}
use Rattle.compose_fit.proofs.CauseLaws.{no_asked}
use Rattle.compose_fit.proofs.EntryLaws.{seen_at, no_entry_nth, asked_is}
use Rattle.compose_fit.proofs.FirstLaws.{all_below, all_of_them}
use Rattle.compose_fit.proofs.fit.instance_misfit.Goals as goal

pub parts-imports-requires : goal.parts-imports-requires
parts-imports-requires c =
    let known = c.requires.seen in
    let same : 0 + c.args.target ≡ c.args.target = omega arith in
    (seen_at c.args.table.now known.0 0 c.args.seen.now known.1 c.args.target c.args.target (record { imports = 0; exports = 0 }) known.2 same c.requires.target).seen.imports.there

pub returns-in-Some : goal.returns-in-Some
returns-in-Some c = λ ch w a finds.
    record {
      import = c.loop-import.import;
      here = subst (λ o. MatchOption o (FitsAt (compared_by ch) w c.args.target c.loop-import.import) (IsMisfitAt (compared_by ch) w c.args.target c.loop-import.import)) c.in-Some.is (c.in_ok-misfit.ensures ch w a finds);
      before = c.loop-import.invariant ch w a finds;
    }

pub loop-import-preserved : goal.loop-import-preserved
loop-import-preserved c = λ ch w a finds.
    all_below (FitsAt (compared_by ch) w c.args.target) c.loop-import.import (c.loop-import.invariant ch w a finds)
    (subst (λ o. MatchOption o (FitsAt (compared_by ch) w c.args.target c.loop-import.import) (IsMisfitAt (compared_by ch) w c.args.target c.loop-import.import)) c.in_default.is (c.in_ok-misfit.ensures ch w a finds))

pub returns : goal.returns
returns c = λ ch w a finds.
    let same : 0 + c.args.target ≡ c.args.target = omega arith in
    let x = seen_at c.args.table.now ch 0 c.args.seen.now w.shapes c.args.target c.args.target (record { imports = 0; exports = 0 }) a same c.requires.target in
    let end : length c.parts-imports.result.now ≤ c.loop-import.import = search rules in
    all_of_them (FitsAt (compared_by ch) w c.args.target) c.loop-import.import (c.loop-import.invariant ch w a finds)
    (λ i le. let far : length c.parts-imports.result.now ≤ i = omega (arith, le, end) in
    no_asked (compared_by ch) w c.args.target i
    (asked_is w.shapes c.args.target i x.shape x.there ∙ no_entry_nth c.args.table.now (ch c.args.target) c.parts-imports.result.now x.shape.imports i (c.parts-imports.ensures.parts ∙ ap below_root x.seen.imports.tree_is) far))
