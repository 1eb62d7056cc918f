use Rattle.std.proofs.Common.{◌≡◌, ◌∙◌, ◌++◌, codes, map, string_bytes, subst}
use Rattle.comp_format.specs.declared.types.Sort.TheVariants as sort
use Rattle.comp_encoder.specs.Builder.{entries_of}
use Rattle.comp_encoder.specs.Writing.{Single, next_index}
use Rattle.warg_demo.specs.Content.{import_items}
use Rattle.warg_demo.proofs.ContentLaws.{needs_step}
use Rattle.warg_demo.proofs.content.add_needs.Goals as goal

pub loop-need-preserved : goal.loop-need-preserved
loop-need-preserved c =
    let old = entries_of c.loop-need.builder in
    let new = entries_of c.add_import.new.builder in
    let same : c.deref.result.now ≡ string_bytes c.in_ok-name.name = search in
    needs_step (entries_of c.args.builder.now) old new c.args.needs.now c.loop-need.need-index c.loop-need-test.true c.loop-need.invariant
    (subst (λ name. new ≡ old ++ map Single (import_items (next_index sort.Ty old) name (codes "get"))) (same ∙ c.in_ok-name.ensures) c.in_ok-add_import.ensures)
