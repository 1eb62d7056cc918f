use Rattle.std.proofs.Common.{◌≡◌, [], drop, map}
use Rattle.comp_format.specs.declared.types.Arg.{Arg}
use Rattle.comp_instance.specs.Items.{differ, name_key}
use Rattle.comp_instance.proofs.items.names_differ.Given as goal

abbrev pub invariant-loop-item : goal.invariant-loop-item
invariant-loop-item l = differ [] (map (λ (a : Arg). name_key l.case a.name) l.items) ≡ differ l.seen.keys (map (λ (a : Arg). name_key l.case a.name) (drop l.item-index l.items))
