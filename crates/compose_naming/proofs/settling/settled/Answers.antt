use Rattle.compose_naming.proofs.settling.settled.Goals as goal

pub returns : goal.returns
returns c = λ i. record {
  name = c.args.import.name;
  entity = c.in_ok-entity.ensures i;
  calls = c.args.import.calls.items;
}
