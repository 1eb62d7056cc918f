use Rattle.std.proofs.Common.{subst, sym}
use Rattle.comp_view.specs.Kinds.{IsTreeOf}
use Rattle.comp_view.specs.Kinds as kind
use Rattle.uses_components.proofs.views.put_in_and_taken_out.Goals as goal

pub entity_at-requires : goal.entity_at-requires
entity_at-requires c = record {
  there = c.in_ok-number.ensures.number.there;
  is_one = subst (IsTreeOf kind.AnyEntity) (sym c.in_ok-number.ensures.number.tree_is) (c.entities_in_memory_lie_there.ensures c.args.entity.now);
}

pub returns : goal.returns
returns c = c.in_ok-again.ensures.again c.args.entity.now c.in_ok-number.ensures.number
