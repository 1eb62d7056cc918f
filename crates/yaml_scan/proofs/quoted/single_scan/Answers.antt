use Rattle.std.proofs.Common.{◌∙◌, ◌-◌, sym, length, get_or, take, drop, arith}
use Rattle.std.proofs.lemmas.List.{take_rest}
use Rattle.std.proofs.lemmas.Bool.{ne_eqb}
use Rattle.yaml_scan.proofs.Quotes.{single_at-pair, single_at-byte}
use Rattle.yaml_scan.proofs.quoted.single_scan.Goals as goal

pub scalar-preserved-then-byte-ne39 : goal.scalar-preserved-then-byte-ne39
scalar-preserved-then-byte-ne39 c =
    rw (take_rest c.scalar.rest.now 1, c.in_ok-push.ensures.items)
    (single_at-byte c.scalar.text.items c.scalar.rest.now c.in-len1-up.len_at_least (ne_eqb (get_or c.scalar.rest.now 0 0) 39 c.if-byte-ne39.true) (sym c.is_control.ensures ∙ c.if-is_control.false) ∙ c.scalar.invariant)

pub scalar-preserved : goal.scalar-preserved
scalar-preserved c =
    single_at-pair c.scalar.text.items _ c.scalar.rest.now _ _ (take_rest c.scalar.rest.now 1) (take_rest (take (length c.scalar.rest.now - 1) (drop 1 c.scalar.rest.now)) 1) c.in-len1-up.len_at_least c.in-39.len_at_least
    c.if-byte-ne39.false (omega arith) c.in_ok-push-2.ensures.items
    ∙ c.scalar.invariant
