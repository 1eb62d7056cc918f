use Rattle.std.proofs.Common.{◌-◌, take, length, sym, ◌∙◌}
use Rattle.compose_types.specs.Views.{mention_of}
use Rattle.compose_types.proofs.ScopeLaws.{last_cut, knows_outermost, knows_here, knows_further, knows_nowhere}
use Rattle.compose_types.proofs.state.+knows_in.Goals as goal

pub returns-then-knows : goal.returns-then-knows
returns-then-knows t c =
    let inner = c.args.inner.now in
    knows_here inner (take (length inner - 1) inner) c.scope-item.result c.args.outermost.now (mention_of c.args.key) (last_cut inner c.scope-item.result c.in-len1-up.len_at_least c.scope-item.is) (rw c.as_open-scope.ensures at (sym c.knows-in-len1-up.ensures ∙ c.if-knows.true))

pub returns-in-empty : goal.returns-in-empty
returns-in-empty t c = c.knows.ensures ∙ sym (knows_outermost c.args.inner.now c.args.outermost.now (mention_of c.args.key) c.in-empty.len_below)

pub returns-in-Some : goal.returns-in-Some
returns-in-Some t c =
    let inner = c.args.inner.now in
    c.knows_in.ensures ∙ knows_further inner (take (length inner - 1) inner) c.scope-item.result c.args.outermost.now (mention_of c.args.key) (mention_of c.in-Some.key) (last_cut inner c.scope-item.result c.in-len1-up.len_at_least c.scope-item.is) (rw c.as_open-scope.ensures at (sym c.knows-in-len1-up.ensures ∙ c.if-knows.false)) (rw c.as_open-scope.ensures at c.in-Some.ensures)

pub returns-in-None : goal.returns-in-None
returns-in-None t c =
    let inner = c.args.inner.now in
    knows_nowhere inner (take (length inner - 1) inner) c.scope-item.result c.args.outermost.now (mention_of c.args.key) (last_cut inner c.scope-item.result c.in-len1-up.len_at_least c.scope-item.is) (rw c.as_open-scope.ensures at (sym c.knows-in-len1-up.ensures ∙ c.if-knows.false)) (rw c.as_open-scope.ensures at c.in-None.ensures)
