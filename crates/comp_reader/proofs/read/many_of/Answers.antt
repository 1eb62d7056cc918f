use Rattle.std.proofs.Common.{◌≡◌, ◌++◌, ◌∷◌, [], map}
use Rattle.std.proofs.lemmas.Result.{err_from_is_err_and}
use Rattle.std.proofs.lemmas.List.{map_push}
use Rattle.comp_format.specs.Vectors.{many_at}
use Rattle.comp_reader.proofs.ManyLaws.{goes_on, ends, is_done}
use Rattle.comp_reader.proofs.read.many_of.Goals as goal

pub returns-in_err-value : goal.returns-in_err-value
returns-in_err-value g c =
    let p = err_from_is_err_and c.from_residual.result c.from_residual.ensures.1 in
    rw (p.1, p.2) (ends (g.T.Field.tree_at c.args.scopes) c.in_err-value.field-0.0 (map g.T.Field.tree c.loop.values.items) c.args.count c.loop.counter c.loop.rest.now (many_at (g.T.Field.tree_at c.args.scopes) c.args.count c.args.bytes.now) c.loop-test.true c.in_err-value.ensures c.loop.invariant)

pub loop-preserved : goal.loop-preserved
loop-preserved g c =
    let v = c.in_ok-value.value in
    let e : map g.T.Field.tree c.push.new.self.items ≡ map g.T.Field.tree c.loop.values.items ++ g.T.Field.tree v ∷ [] = rw c.in_ok-push.ensures.items (map_push _ c.loop.values.items v) in
    rw e (goes_on (g.T.Field.tree_at c.args.scopes) (map g.T.Field.tree c.loop.values.items) c.args.count c.loop.counter c.loop.rest.now (g.T.Field.tree v) c.in_ok-value.after.now (many_at (g.T.Field.tree_at c.args.scopes) c.args.count c.args.bytes.now) c.loop-test.true c.in_ok-value.ensures c.loop.invariant)

pub returns : goal.returns
returns g c = is_done (g.T.Field.tree_at c.args.scopes) (map g.T.Field.tree c.loop.values.items) c.args.count c.loop.counter c.loop.rest.now (many_at (g.T.Field.tree_at c.args.scopes) c.args.count c.args.bytes.now) c.loop-test.false c.loop.invariant
