-- The kind of a choice.
use Rattle.yaml_example.specs.declared.choice.Choice.{Choice}
use Rattle.yaml_example.specs.declared.choice.Choice.TheVariants as variants
use Rattle.yaml_example.specs.Choices.{Kind, nothing, count, tuple, both}

abbrev pub kind_of : Choice → Kind
kind_of variants.Nothing = nothing
kind_of (variants.Number n) = count n
kind_of (variants.VariantC x y) = tuple x y
kind_of (variants.Both x y) = both x y
