use Rattle.uses_registry.proofs.PieceLaws.{IsRead}
use Rattle.uses_registry.proofs.body.joined.Given as goal

abbrev pub invariant-loop : goal.invariant-loop
invariant-loop g l = g.S.Stream.can_poll l.rest × IsRead (g.S.Stream.yields l.fn.stream) (g.S.Stream.yields l.rest) l.content.items
