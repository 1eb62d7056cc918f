use Rattle.std.proofs.Common.{rules, ◌≡◌, suc, ◌∷◌, length, map, sym, ap, ◌∙◌}
use Rattle.compose_order.specs.Known.{left_tree}
use Rattle.compose_order.proofs.OrderLaws.{held_down, last_there, length_push, there_more}
use Rattle.compose_order.proofs.order.by_number.Goals as goal

pub loop-import-preserved-in_ok-insert : goal.loop-import-preserved-in_ok-insert
loop-import-preserved-in_ok-insert c =
    let h = c.loop-import.invariant in
    let count : c.len.result ≡ length c.pop.new.self.items = search rules in
    let last = last_there c.args.lefts.items c.loop-import.left.items c.pop.new.self.items h.0 c.in-Some.import c.len.result c.in-Some.ensures.items h.1 count in
    let one_less : length c.loop-import.left.items ≡ suc c.len.result = ap length c.in-Some.ensures.items ∙ length_push c.pop.new.self.items c.in-Some.import ∙ ap suc (sym count) in
    (c.in-Some.import ∷ h.0, last.0, there_more c.loop-import.slots c.insert.new.self (map left_tree c.args.lefts.items) c.len.result c.in-Some.import h.2 c.in_ok-insert.ensures.updates last.1, held_down c.loop-import.slots c.insert.new.self c.len.result (length c.pop.new.self.items) (length c.loop-import.left.items) (length c.args.lefts.items) c.in-Some.import c.in_ok-insert.ensures.updates one_less count h.3)

pub loop-import-preserved : goal.loop-import-preserved
loop-import-preserved c =
    let h = c.loop-import.invariant in
    let count : c.len.result ≡ length c.pop.new.self.items = search rules in
    let last = last_there c.args.lefts.items c.loop-import.left.items c.pop.new.self.items h.0 c.in-Some.import c.len.result c.in-Some.ensures.items h.1 count in
    let one_less : length c.loop-import.left.items ≡ suc c.len.result = ap length c.in-Some.ensures.items ∙ length_push c.pop.new.self.items c.in-Some.import ∙ ap suc (sym count) in
    (c.in-Some.import ∷ h.0, last.0, there_more c.loop-import.slots c.insert.new.self (map left_tree c.args.lefts.items) c.len.result c.in-Some.import h.2 c.in_ok-insert.ensures.updates last.1, held_down c.loop-import.slots c.insert.new.self c.len.result (length c.pop.new.self.items) (length c.loop-import.left.items) (length c.args.lefts.items) c.in-Some.import c.in_ok-insert.ensures.updates one_less count h.3)
