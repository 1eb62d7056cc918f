use Rattle.std.proofs.Common.{◌∙◌, ap, sym}
use Rattle.std.proofs.lemmas.List.{take_rest}
use Rattle.yaml_scan.specs.Turns.{standing, next_standing}
use Rattle.yaml_scan.proofs.Quotes.{double_at-byte}
use Rattle.yaml_scan.proofs.quoted.double_scan.Goals as goal

pub scalar-preserved : goal.scalar-preserved
scalar-preserved c =
    double_at-byte c.scalar.text.items _ c.scalar.rest.now _ (standing c.scalar.inside) _ (take_rest c.scalar.rest.now 1) c.in-len1-up.len_at_least (sym c.closes.ensures ∙ c.if-closes.false)
    (ap next_standing (sym c.in-Some.is) ∙ c.in_ok-next.ensures.next) c.in_ok-next.ensures.text
    ∙ c.scalar.invariant
