use Rattle.std.proofs.Common.{◌++◌, flat_map, map, ap, ◌∙◌}
use Rattle.comp_entity.specs.Names.{at_place, in_cases, in_payload, in_value}
use Rattle.comp_entity.specs.Views.{cases_of, value_tree}
use Rattle.compose_left.specs.Renaming.{case_tree, field_tree}
use Rattle.compose_needs.specs.Mentioned.{outwards}
use Rattle.compose_needs.specs.Payloads.{boxed_payload, in_field}
use Rattle.compose_needs.proofs.ViewLaws.{added_two, record_mentions, variant_mentions, result_mentions}
use Rattle.compose_needs.proofs.values.+values.Goals as goal

pub push_value-returns-in_ok-push_fields-in-RecordOf : goal.push_value-returns-in_ok-push_fields-in-RecordOf
push_value-returns-in_ok-push_fields-in-RecordOf t c =
    added_two c.args.things.now.items c.push_place.new.things.items c.push_fields.new.things.items (at_place c.args.depth c.in-RecordOf.place) (flat_map (in_field c.args.depth) (map field_tree c.in-RecordOf.fields.items)) (in_value c.args.depth (value_tree c.args.value.now))
    c.in_ok-push_place-in-RecordOf.ensures
    (c.in_ok-push_fields-in-RecordOf.ensures ∙ ap (λ fs. c.push_place.new.things.items ++ outwards (flat_map (in_field c.args.depth) (map field_tree fs))) c.deref.ensures.value)
    (ap (λ v. in_value c.args.depth (value_tree v)) c.in-RecordOf.is ∙ record_mentions c.args.depth c.in-RecordOf.place c.in-RecordOf.fields)

pub push_value-returns-in_ok-push_cases-in-VariantOf : goal.push_value-returns-in_ok-push_cases-in-VariantOf
push_value-returns-in_ok-push_cases-in-VariantOf t c =
    added_two c.args.things.now.items c.push_place-in-VariantOf.new.things.items c.push_cases.new.things.items (at_place c.args.depth c.in-VariantOf.place) (in_cases c.args.depth (cases_of (map case_tree c.in-VariantOf.cases.items))) (in_value c.args.depth (value_tree c.args.value.now))
    c.in_ok-push_place-in-VariantOf.ensures
    (c.in_ok-push_cases-in-VariantOf.ensures ∙ ap (λ fs. c.push_place-in-VariantOf.new.things.items ++ outwards (in_cases c.args.depth (cases_of (map case_tree fs)))) c.deref-in-VariantOf.ensures.value)
    (ap (λ v. in_value c.args.depth (value_tree v)) c.in-VariantOf.is ∙ variant_mentions c.args.depth c.in-VariantOf.place c.in-VariantOf.cases)

pub push_value-returns-in_ok-push_boxed-in-ResultOf-2 : goal.push_value-returns-in_ok-push_boxed-in-ResultOf-2
push_value-returns-in_ok-push_boxed-in-ResultOf-2 t c =
    added_two c.args.things.now.items c.push_boxed.new.things.items c.push_boxed-in-ResultOf.new.things.items (in_payload c.args.depth (boxed_payload c.in-ResultOf.ok)) (in_payload c.args.depth (boxed_payload c.in-ResultOf.err)) (in_value c.args.depth (value_tree c.args.value.now))
    c.in_ok-push_boxed-in-ResultOf.ensures c.in_ok-push_boxed-in-ResultOf-2.ensures
    (ap (λ v. in_value c.args.depth (value_tree v)) c.in-ResultOf.is ∙ result_mentions c.args.depth c.in-ResultOf.ok c.in-ResultOf.err)
