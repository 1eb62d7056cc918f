use Rattle.uses_registry.proofs.ledger.operators_are_proved.Goals as goal

pub returns : goal.returns
returns c accepts w a start xs registry asked honest over =
    let p = c.honest_updates_prove.ensures accepts w a start xs registry asked honest over in
    (p.logs, p.checkpoint, p.proves, p.whole.operator)
