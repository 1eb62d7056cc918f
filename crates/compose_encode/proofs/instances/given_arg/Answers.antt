use Rattle.std.proofs.Common.{◌∙◌}
use Rattle.comp_format.specs.declared.types.Sort.TheVariants as sort
use Rattle.compose_encode.proofs.instances.given_arg.Goals as goal

pub returns-in-None : goal.returns-in-None
returns-in-None c = λ imports w h.
    rw c.in-None.is (λ i. record { name = (c.in_ok-name.ensures ∙ c.import_name.ensures) i; sort = sort.Instance; index = c.instance_index.ensures imports w h i })

pub returns-in-Some : goal.returns-in-Some
returns-in-Some c = λ imports w h.
    rw c.in-Some.is (λ i. record { name = (c.in_ok-name.ensures ∙ c.import_name.ensures) i; sort = c.export_of-sort.ensures.sort i; index = c.part_index.ensures imports w h i })
