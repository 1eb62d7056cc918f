use Rattle.std.proofs.Common.{rules, ◌<◌, ◌∙◌, ap, sym, map}
use Rattle.comp_table.specs.Trees.{below_root, root, tree, tree_at, trees_of}
use Rattle.comp_table.specs.declared.head.Head.TheVariants as head
use Rattle.comp_view.specs.Kinds as kind
use Rattle.comp_view.specs.RowLaws.{record_is, tuple_is, variant_is}
use Rattle.comp_view.proofs.PartLaws.{below_is, labelled, opened, whole}
use Rattle.comp_view.proofs.values.+values.Goals as goal

pub build_case-only_part-requires-clause-one : goal.build_case-only_part-requires-clause-one
build_case-only_part-requires-clause-one t c =
    let x = tree_at c.args.table.now c.args.number in (kind.Held, labelled (kind.one kind.Held) (root x) (below_root x) (opened kind.Case x c.requires.is_one))

pub build_field-only_part-requires-clause-one : goal.build_field-only_part-requires-clause-one
build_field-only_part-requires-clause-one t c =
    let x = tree_at c.args.table.now c.args.number in (kind.ValueType, labelled (kind.one kind.ValueType) (root x) (below_root x) (opened kind.Field x c.requires.is_one))

pub build_value-only_part-requires-clause-one : goal.build_value-only_part-requires-clause-one
build_value-only_part-requires-clause-one t c =
    (kind.ValueType, below_is kind.ValueType (tree_at c.args.table.now c.args.number) head.ListOf c.requires.is_one (sym c.in-ListOf.is ∙ c.head.ensures))

pub build_value-only_part-requires-in-OptionOf-clause-one : goal.build_value-only_part-requires-in-OptionOf-clause-one
build_value-only_part-requires-in-OptionOf-clause-one t c =
    (kind.ValueType, below_is kind.ValueType (tree_at c.args.table.now c.args.number) head.OptionOf c.requires.is_one (sym c.in-OptionOf.is ∙ c.head.ensures))

pub build_value-two_parts-first-requires-clause-two : goal.build_value-two_parts-first-requires-clause-two
build_value-two_parts-first-requires-clause-two t c =
    (kind.Held, kind.Held, below_is kind.ValueType (tree_at c.args.table.now c.args.number) head.ResultOf c.requires.is_one (sym c.in-ResultOf.is ∙ c.head.ensures))

pub build_value-build_boxed-requires-in-ResultOf : goal.build_value-build_boxed-requires-in-ResultOf
build_value-build_boxed-requires-in-ResultOf t c =
    let fewer : c.in_ok-levels.levels < c.args.levels = c.in_ok-levels.ensures in
    let held = c.two_parts-first.ensures.kinds kind.Held kind.Held (below_is kind.ValueType (tree_at c.args.table.now c.args.number) head.ResultOf c.requires.is_one (sym c.in-ResultOf.is ∙ c.head.ensures)) in
    (search (rules, fewer), held.1)

pub build_value-returns-in_ok-fields-in-RecordOf : goal.build_value-returns-in_ok-fields-in-RecordOf
build_value-returns-in_ok-fields-in-RecordOf t c =
    sym (record_is c.in-RecordOf.place c.in_ok-fields-in-RecordOf.fields
    ∙ ap (λ xs. tree (head.RecordOf c.in-RecordOf.place) (trees_of xs)) c.in_ok-fields-in-RecordOf.ensures
    ∙ whole (tree_at c.args.table.now c.args.number) (head.RecordOf c.in-RecordOf.place) (trees_of (map (tree_at c.args.table.now) c.all_parts.result.now)) (sym c.in-RecordOf.is ∙ c.head.ensures) c.all_parts.ensures.parts)

pub build_value-returns-in_ok-cases-in-VariantOf : goal.build_value-returns-in_ok-cases-in-VariantOf
build_value-returns-in_ok-cases-in-VariantOf t c =
    sym (variant_is c.in-VariantOf.place c.in_ok-cases-in-VariantOf.cases
    ∙ ap (λ xs. tree (head.VariantOf c.in-VariantOf.place) (trees_of xs)) c.in_ok-cases-in-VariantOf.ensures
    ∙ whole (tree_at c.args.table.now c.args.number) (head.VariantOf c.in-VariantOf.place) (trees_of (map (tree_at c.args.table.now) c.all_parts-in-VariantOf.result.now)) (sym c.in-VariantOf.is ∙ c.head.ensures) c.all_parts-in-VariantOf.ensures.parts)

pub build_value-returns-in_ok-items-in-TupleOf : goal.build_value-returns-in_ok-items-in-TupleOf
build_value-returns-in_ok-items-in-TupleOf t c =
    sym (tuple_is c.in_ok-items-in-TupleOf.items
    ∙ ap (λ xs. tree head.TupleOf (trees_of xs)) c.in_ok-items-in-TupleOf.ensures
    ∙ whole (tree_at c.args.table.now c.args.number) head.TupleOf (trees_of (map (tree_at c.args.table.now) c.all_parts-in-TupleOf.result.now)) (sym c.in-TupleOf.is ∙ c.head.ensures) c.all_parts-in-TupleOf.ensures.parts)
