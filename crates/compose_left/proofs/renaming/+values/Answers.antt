use Rattle.std.proofs.Common.{rules, ◌≡◌, ◌∙◌, ap, sym, map}
use Rattle.comp_entity.specs.Names.{value_by}
use Rattle.comp_entity.specs.Views.{value_tree}
use Rattle.compose_left.specs.Renaming.{change_of, field_tree, field_by, case_tree, case_by}
use Rattle.compose_left.proofs.RenameLaws.{record_in, variant_in, tuple_in}
use Rattle.compose_left.proofs.renaming.+values.Goals as goal

pub value_in-returns-in_ok-fields-in-RecordOf : goal.value_in-returns-in_ok-fields-in-RecordOf
value_in-returns-in_ok-fields-in-RecordOf t c =
    let fields : map field_tree c.in_ok-fields-in-RecordOf.fields.items ≡ map (field_by (change_of c.args.renaming.now) c.args.depth) (map field_tree c.in-RecordOf.fields.items) = search rules in
    record_in (change_of c.args.renaming.now) c.args.depth c.in-RecordOf.place c.in_ok-place-in-RecordOf.place c.in-RecordOf.fields c.in_ok-fields-in-RecordOf.fields c.in_ok-place-in-RecordOf.ensures fields
    ∙ ap (λ v. value_by (change_of c.args.renaming.now) c.args.depth (value_tree v)) (sym c.in-RecordOf.is)

pub value_in-returns-in_ok-cases-in-VariantOf : goal.value_in-returns-in_ok-cases-in-VariantOf
value_in-returns-in_ok-cases-in-VariantOf t c =
    let cases : map case_tree c.in_ok-cases-in-VariantOf.cases.items ≡ map (case_by (change_of c.args.renaming.now) c.args.depth) (map case_tree c.in-VariantOf.cases.items) = search rules in
    variant_in (change_of c.args.renaming.now) c.args.depth c.in-VariantOf.place c.in_ok-place-in-VariantOf.place c.in-VariantOf.cases c.in_ok-cases-in-VariantOf.cases c.in_ok-place-in-VariantOf.ensures cases
    ∙ ap (λ v. value_by (change_of c.args.renaming.now) c.args.depth (value_tree v)) (sym c.in-VariantOf.is)

pub value_in-returns-in_ok-parts-in-TupleOf : goal.value_in-returns-in_ok-parts-in-TupleOf
value_in-returns-in_ok-parts-in-TupleOf t c =
    let parts : map value_tree c.in_ok-parts-in-TupleOf.parts.items ≡ map (value_by (change_of c.args.renaming.now) c.args.depth) (map value_tree c.in-TupleOf.parts.items) = search rules in
    tuple_in (change_of c.args.renaming.now) c.args.depth c.in-TupleOf.parts c.in_ok-parts-in-TupleOf.parts parts
    ∙ ap (λ v. value_by (change_of c.args.renaming.now) c.args.depth (value_tree v)) (sym c.in-TupleOf.is)
