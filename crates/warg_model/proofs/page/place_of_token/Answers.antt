use Rattle.std.proofs.Common.{sym, ◌∙◌}
use Rattle.std.proofs.lemmas.Fmt.{parse-decimal}
use Rattle.warg_model.proofs.page.place_of_token.Goals as goal

pub returns-in-Ok : goal.returns-in-Ok
returns-in-Ok c n small is =
    let read = sym c.in-Ok.is ∙ parse-decimal 64 n c.args.token.now c.parse.result small small is c.parse.ensures.value.0 in
    cc read

pub returns-in-Err : goal.returns-in-Err
returns-in-Err c n small is =
    let read = sym c.in-Err.is ∙ parse-decimal 64 n c.args.token.now c.parse.result small small is c.parse.ensures.value.0 in
    absurd (cc read)
