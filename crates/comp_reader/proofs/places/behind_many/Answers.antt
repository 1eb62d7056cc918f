use Rattle.std.proofs.lemmas.Result.{err_from_is_err_and}
use Rattle.comp_reader.specs.Places.{behind_many_at}
use Rattle.comp_reader.proofs.ValueLaws.{goes_on, ends, is_done}
use Rattle.comp_reader.proofs.places.behind_many.Goals as goal

pub returns-in_err-after : goal.returns-in_err-after
returns-in_err-after g c =
    let p = err_from_is_err_and c.from_residual.result c.from_residual.ensures.1 in
    rw (p.1, p.2) (ends (g.T.Field.tree_at 200) c.in_err-after.field-0.0 c.args.count c.loop.counter c.loop.rest.now (behind_many_at (g.T.Field.tree_at 200) c.args.count c.args.bytes.now) c.loop-test.true c.in_err-after.ensures c.loop.invariant)

pub loop-preserved : goal.loop-preserved
loop-preserved g c =
    goes_on (g.T.Field.tree_at 200) c.args.count c.loop.counter c.loop.rest.now _ c.in_ok-after.after.now (behind_many_at (g.T.Field.tree_at 200) c.args.count c.args.bytes.now) c.loop-test.true c.in_ok-after.ensures c.loop.invariant

pub returns : goal.returns
returns g c = is_done (g.T.Field.tree_at 200) c.args.count c.loop.counter c.loop.rest.now (behind_many_at (g.T.Field.tree_at 200) c.args.count c.args.bytes.now) c.loop-test.false c.loop.invariant
