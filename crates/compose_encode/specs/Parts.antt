-- Exports of instances, by the numbers of both.
use Rattle.std.specs.Ordering.{nat_cmp, ordering_then}
use Rattle.std.specs.declared.cmp.Ordering.{Ordering}
use Rattle.compose_image.specs.Instances.{Part}
use Rattle.compose_encode.specs.declared.part.Part.{Part as PartOf}

abbrev pub part_of : PartOf → Part
part_of p = (p.instance, p.export)

abbrev pub part_cmp : PartOf → PartOf → Ordering
part_cmp a b = ordering_then (nat_cmp a.instance b.instance) (nat_cmp a.export b.export)
