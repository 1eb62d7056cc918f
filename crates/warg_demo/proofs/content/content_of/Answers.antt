use Rattle.std.proofs.Common.{◌∙◌, ap}
use Rattle.comp_encoder.specs.Builder.{entries_of}
use Rattle.comp_encoder.specs.Writing.{component_text}
use Rattle.warg_demo.proofs.ContentLaws.{content_made, ok_more}
use Rattle.warg_demo.proofs.content.content_of.Goals as goal

pub returns : goal.returns
returns c =
    let all = content_made (entries_of c.new-builder.result) (entries_of c.add_import.new.builder) (entries_of c.add_needs.new.builder) (entries_of c.add_rest.new.builder) c.args.needs.now c.args.version.now
    c.new-builder.ensures c.in_ok-add_import.ensures c.in_ok-add_needs.ensures c.in_ok-add_rest.ensures in
    ok_more _ _ c.finish.result (λ bytes is. is ∙ ap component_text all) c.finish.ensures.text
