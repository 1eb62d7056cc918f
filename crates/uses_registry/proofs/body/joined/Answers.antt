use Rattle.std.proofs.Common.{rules, ◌≡◌, ◌++◌, List, ℕ, [], ◌∷◌}
use Rattle.std.specs.Prelude.{None, Some, Ok}
use Rattle.futures.specs.Runs.{After}
use Rattle.uses_registry.proofs.PieceLaws.{nothing_read, piece_read, all_read}
use Rattle.uses_registry.proofs.body.joined.Goals as goal

pub loop-init : goal.loop-init
loop-init g c = (c.requires, nothing_read (g.S.Stream.yields c.args.stream) c.new-content.result.items c.new-content.ensures.items)

pub returns-in-Ready-None : goal.returns-in-Ready-None
returns-in-Ready-None g c =
    let ended : g.S.Stream.yields c.loop.rest [] None = rw c.in-Ready-None.field-0-is at c.in-Ready-None.ensures.value in
    all_read (g.S.Stream.yields c.args.stream) (g.S.Stream.yields c.loop.rest) c.loop.content.items c.loop.invariant.1 ended

pub loop-preserved : goal.loop-preserved
loop-preserved g c =
    let bytes : List ℕ = c.in-Ready-Some-Ok.bytes in
    let before = g.S.Stream.yields c.loop.rest in
    let after = g.S.Stream.yields c.poll_next.new.self in
    let behind : After before (Ok bytes) after = rw (c.in-Ready-Some-Ok.field-0-is, c.in-Ready-Some-Ok.field-0-0-is) at c.in-Ready-Some-Ok.ensures.rest in
    let goes : g.S.Stream.can_poll c.poll_next.new.self = rw c.in-Ready-Some-Ok.field-0-is at c.in-Ready-Some-Ok.ensures.goes in
    let new : c.extend_from_slice.new.self.items ≡ c.loop.content.items ++ bytes = search rules in
    (goes, piece_read (g.S.Stream.yields c.args.stream) before after c.loop.content.items bytes c.extend_from_slice.new.self.items c.loop.invariant.1 behind new)
