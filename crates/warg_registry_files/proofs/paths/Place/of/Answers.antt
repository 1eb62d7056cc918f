-- The name behind the last slash has none.
use Rattle.std.proofs.Common.{ap, ◌∙◌}
use Rattle.warg_registry_files.specs.Paths.{has_slash}
use Rattle.warg_registry_files.proofs.PathLaws.{no_slash, place_of_name, place_of_parts}
use Rattle.warg_registry_files.proofs.paths.Place.of.Goals as goal

pub invariant_of-result : goal.invariant_of-result
invariant_of-result c = record {
  single = (place_of_name c.args.base.now c.in_ok-copy_of.field-0 c.in_ok-copy_of-2.field-0 (no_slash c.args.base.now c.in_default.ensures.cases) c.in_ok-copy_of.ensures (c.in_ok-copy_of-2.ensures ∙ c.name_at.ensures)).last;
}

pub invariant_of-result-2 : goal.invariant_of-result-2
invariant_of-result-2 c = record {
  single = ap has_slash c.in_ok-copy_of-4.ensures ∙ (place_of_parts c.args.base.now c.in-Some.parent.now c.in-Some.own.now c.in-Some.ensures.cases).last;
}
