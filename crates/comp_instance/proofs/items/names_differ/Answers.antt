use Rattle.std.proofs.Common.{rules, ap, sym, ◌∙◌, map}
use Rattle.comp_format.specs.declared.types.Arg.{Arg}
use Rattle.comp_instance.specs.Items.{name_key}
use Rattle.comp_instance.proofs.CoreLaws.{nothing_left}
use Rattle.comp_instance.proofs.ItemLaws.{differ_end, differ_not, differ_on, key_first}
use Rattle.comp_instance.proofs.items.names_differ.Goals as goal

pub returns-then-contains : goal.returns-then-contains
returns-then-contains c =
    differ_not _ c.loop-item.seen.keys _ _ c.in_ok-key.key
    (key_first c.args.case c.args.items.now c.loop-item.item-index c.item-item.result c.in_ok-key.key (search rules) c.item-item.is c.in_ok-key.ensures)
    c.loop-item.invariant (sym c.contains.ensures ∙ c.if-contains.true)

pub loop-item-preserved : goal.loop-item-preserved
loop-item-preserved c =
    differ_on _ c.loop-item.seen.keys c.insert.new.self.keys _ _ c.in_ok-key.key
    (key_first c.args.case c.args.items.now c.loop-item.item-index c.item-item.result c.in_ok-key.key (search rules) c.item-item.is c.in_ok-key.ensures)
    c.loop-item.invariant (sym c.contains.ensures ∙ c.if-contains.false) c.in_ok-insert.ensures.keys

pub returns : goal.returns
returns c =
    differ_end _ c.loop-item.seen.keys _
    (ap (map (λ (a : Arg). name_key c.args.case a.name)) (nothing_left c.args.items.now c.loop-item.item-index (search rules))) c.loop-item.invariant
