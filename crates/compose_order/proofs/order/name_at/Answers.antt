use Rattle.std.proofs.Common.{refl, sym, ap, ◌∙◌}
use Rattle.compose_order.specs.Known.{left_tree}
use Rattle.compose_order.specs.declared.left.LeftImport.{LeftImport}
use Rattle.compose_order.proofs.ListLaws.{mapped_at}
use Rattle.compose_order.proofs.order.name_at.Goals as goal

pub returns : goal.returns
returns c = record {
  import = left_tree c.index-lefts-number.result;
  there = mapped_at left_tree c.args.lefts.now _ c.args.number c.index-lefts-number.result refl c.requires c.index-lefts-number.is;
  named = c.in_ok-name.ensures ∙ ap (λ (l : LeftImport). l.name) (sym c.index-lefts-number.is);
}
