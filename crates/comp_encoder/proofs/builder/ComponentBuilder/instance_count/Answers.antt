use Rattle.std.proofs.Common.{List, ap, ◌∙◌}
use Rattle.std.specs.Prelude.{slice_index}
use Rattle.comp_format.specs.declared.types.Sort.TheVariants as sort
use Rattle.comp_encoder.specs.Writing.{next_index}
use Rattle.comp_encoder.specs.Builder.{Kept, entries_of}
use Rattle.comp_encoder.proofs.builder.ComponentBuilder.instance_count.Goals as goal

pub returns : goal.returns
returns c =
    ap (slice_index c.self.inside.counts) c.space_of.ensures.value ∙ c.self.invariant.counted sort.Instance ∙ ap (λ (ks : List Kept). next_index sort.Instance (entries_of ks)) c.self.view_is
