use Rattle.std.proofs.Common.{◌≡◌, ◌++◌, ◌∷◌, [], map}
use Rattle.std.proofs.lemmas.Result.{err_from_is_err_and}
use Rattle.std.proofs.lemmas.List.{map_push}
use Rattle.warg_proof.specs.Reading.{each_at}
use Rattle.warg_proof.proofs.Loops.{goes_on, ends, is_done}
use Rattle.warg_proof.proofs.reading.each_of.Goals as goal

pub returns-in_err-value : goal.returns-in_err-value
returns-in_err-value g c =
    let p = err_from_is_err_and c.from_residual.result c.from_residual.ensures.1 in
    let one = g.T.Field.read_at in
    rw (p.1, p.2) (ends one c.in_err-value.field-0.0 (map g.T.Field.seen c.loop.values.items) c.args.count c.loop.counter c.loop.rest.now (each_at one c.args.count c.args.bytes.now) c.loop-test.true c.in_err-value.ensures c.loop.invariant)

pub loop-preserved : goal.loop-preserved
loop-preserved g c =
    let one = g.T.Field.read_at in
    let seen = g.T.Field.seen in
    let value = c.in_ok-value.value in
    let e : map seen c.push.new.self.items ≡ map seen c.loop.values.items ++ seen value ∷ [] = rw c.in_ok-push.ensures.items (map_push _ c.loop.values.items value) in
    rw e (goes_on one (map seen c.loop.values.items) c.args.count c.loop.counter c.loop.rest.now (seen value) c.in_ok-value.after.now (each_at one c.args.count c.args.bytes.now) c.loop-test.true c.in_ok-value.ensures c.loop.invariant)

pub returns : goal.returns
returns g c = is_done g.T.Field.read_at (map g.T.Field.seen c.loop.values.items) c.args.count c.loop.counter c.loop.rest.now (each_at g.T.Field.read_at c.args.count c.args.bytes.now) c.loop-test.false c.loop.invariant
