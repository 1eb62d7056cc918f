use Rattle.std.proofs.Common.{◌++◌, ◌∷◌, [], ◌∙◌, ap, cond, true}
use Rattle.std.specs.Prelude.{◌==◌, is_some}
use Rattle.std.specs.BTreeMap.{get}
use Rattle.std.specs.Ordering.{nat_cmp}
use Rattle.compose_encode.specs.Held.{wires_at}
use Rattle.compose_encode.proofs.ListLaws.{sources_more}
use Rattle.compose_encode.proofs.wires.add_source.Goals as goal

pub returns : goal.returns
returns c = λ ws h.
    sources_more c.args.sources.now (record { firsts = c.note_source.new.sources.firsts; wires = c.add_wire.new.groups }) ws c.args.wire h c.in_ok-note_source.ensures.firsts
    (λ n. c.in_ok-add_wire.ensures.wires n ∙ ap (λ m. cond (c.args.wire.source == n) (wires_at m n ++ c.args.wire ∷ []) (wires_at m n)) c.in_ok-note_source.ensures.wires)
    (λ n. c.in_ok-add_wire.ensures.keys n ∙ ap (λ m. cond (c.args.wire.source == n) true (is_some (get nat_cmp m n))) c.in_ok-note_source.ensures.wires)
