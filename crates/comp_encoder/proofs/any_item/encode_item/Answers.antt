use Rattle.std.proofs.Common.{ℕ, List, Bor}
use Rattle.comp_format.specs.Items.{item_tree}
use Rattle.comp_encoder.proofs.KeepLaws.{written_kept}
use Rattle.comp_encoder.proofs.any_item.encode_item.Goals as goal

pub returns : goal.returns
returns c = written_kept (λ (b : Bor (List ℕ)). b.now) (item_tree c.args.item.now) c.new-out.result.bytes.items c.write_item.new.out.bytes.items c.in_ok-lent.lent c.requires c.new-out.ensures.bytes c.in_ok-lent.ensures
