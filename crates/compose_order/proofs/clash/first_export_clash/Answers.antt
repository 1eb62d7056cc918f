use Rattle.std.proofs.Common.{◌+◌, map, subst, take, drop}
use Rattle.std.specs.Prelude.{MatchOption}
use Rattle.comp_entity.specs.Views.{entity_tree}
use Rattle.compose_agree.specs.LetterCase.{AreApart}
use Rattle.compose_order.specs.Agreed.{export_names}
use Rattle.compose_order.specs.Known.{IsNameClashOf, left_tree}
use Rattle.compose_order.proofs.OrderLaws.{split_at}
use Rattle.compose_order.proofs.clash.first_export_clash.Goals as goal

pub returns-in-Some : goal.returns-in-Some
returns-in-Some c = record {
  before = map left_tree (take c.loop-left.left-index c.args.lefts.now);
  import = left_tree c.left-item.result;
  after = map left_tree (drop (c.loop-left.left-index + 1) c.args.lefts.now);
  all = split_at c.args.lefts.now c.loop-left.left-index c.left-item.result c.loop-left-test.true c.left-item.is;
  apart = c.loop-left.invariant;
  clash = subst (λ o. MatchOption o (AreApart (export_names (entity_tree c.left-item.result.entity))) (IsNameClashOf (export_names (entity_tree c.left-item.result.entity)))) c.in-Some.is c.in_ok-clash.ensures;
}
