use Rattle.std.proofs.Common.{rules, ◌≡◌, ◌∙◌, ap, sym, subst, true}
use Rattle.std.specs.Prelude.{option_map}
use Rattle.comp_fit.specs.Known.{is_instance}
use Rattle.comp_table.specs.Plain.{plain_entity}
use Rattle.comp_table.specs.Shown.{IsShown}
use Rattle.comp_table.specs.Trees.{below_root, root, tree_at}
use Rattle.compose_fit.specs.declared.misfit.Unfit.TheVariants as unfit
use Rattle.compose_fit.specs.Fit.{why_unfit}
use Rattle.compose_fit.specs.Seen.{plainly}
use Rattle.compose_fit.specs.Wires.{Whole}
use Rattle.compose_fit.proofs.KindLaws.{instance_at}
use Rattle.compose_fit.proofs.wire.whole_unfit.Goals as goal

pub first_unfit-requires-clause-asked : goal.first_unfit-requires-clause-asked
first_unfit-requires-clause-asked c =
    let is : is_instance (root (tree_at c.args.table.now c.args.asked)) ≡ true = search rules in
    let asked = c.requires.asked in
    let fs = instance_at c.args.table.now c.args.asked asked.0 asked.1 is in
    (fs.0, c.parts-2.ensures.parts ∙ ap below_root (asked.1.tree_is ∙ ap plain_entity fs.1), subst IsShown fs.1 asked.2)

pub returns-in-Some : goal.returns-in-Some
returns-in-Some c = λ es e s u shown.
    let is : is_instance (root (tree_at c.args.table.now c.args.asked)) ≡ true = search rules in
    let fs = instance_at c.args.table.now c.args.asked e u is in
    let found = c.in_ok-unfit.ensures es fs.0 (c.in_ok-names.ensures es (c.parts.ensures.parts ∙ ap below_root s.tree_is))
    (c.parts-2.ensures.parts ∙ ap below_root (u.tree_is ∙ ap plain_entity fs.1)) (subst IsShown fs.1 shown) in
    ap (option_map unfit.Export) (sym c.in-Some.is ∙ found) ∙ ap (why_unfit plainly 0 (Whole es) 0) (sym fs.1)

pub returns : goal.returns
returns c = λ es e s u shown.
    let is : is_instance (root (tree_at c.args.table.now c.args.asked)) ≡ true = search rules in
    let fs = instance_at c.args.table.now c.args.asked e u is in
    let found = c.in_ok-unfit.ensures es fs.0 (c.in_ok-names.ensures es (c.parts.ensures.parts ∙ ap below_root s.tree_is))
    (c.parts-2.ensures.parts ∙ ap below_root (u.tree_is ∙ ap plain_entity fs.1)) (subst IsShown fs.1 shown) in
    ap (option_map unfit.Export) (sym c.in-None.is ∙ found) ∙ ap (why_unfit plainly 0 (Whole es) 0) (sym fs.1)
