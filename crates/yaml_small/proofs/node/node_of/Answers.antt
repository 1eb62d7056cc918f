use Rattle.std.proofs.Common.{◌∙◌, sym, ap, option_map}
use Rattle.yaml_small.specs.Answers.{place_at}
use Rattle.yaml_small.specs.ScalarTokens.{scalar_token_view}
use Rattle.yaml_small.proofs.Nodes.{list_node, scalar_node, other_node}
use Rattle.yaml_small.proofs.node.node_of.Goals as goal

pub returns-then-is_dash : goal.returns-then-is_dash
returns-then-is_dash c = list_node c.args.depth c.args.parent (place_at c.args.place) c.list_start.result (sym c.is_dash.ensures ∙ c.if-is_dash.true) c.list_start.ensures

pub returns-in-Some : goal.returns-in-Some
returns-in-Some c =
    scalar_node c.args.depth c.args.parent (place_at c.args.place) (scalar_token_view c.in-Some.scalar_token) c.key_or_scalar.result (sym c.is_dash.ensures ∙ c.if-is_dash.false)
    (ap (option_map scalar_token_view) (sym c.in-Some.is) ∙ c.in_ok-scalar_token.ensures.value) c.key_or_scalar.ensures

pub returns-in-None : goal.returns-in-None
returns-in-None c =
    other_node c.args.depth c.args.parent (place_at c.args.place) c.inline_of.result (sym c.is_dash.ensures ∙ c.if-is_dash.false)
    (ap (option_map scalar_token_view) (sym c.in-None.is) ∙ c.in_ok-scalar_token.ensures.value) c.inline_of.ensures
