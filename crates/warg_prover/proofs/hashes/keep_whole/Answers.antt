use Rattle.std.proofs.Common.{length, arith}
use Rattle.warg_prover.proofs.Whole.{half_room, half_within}
use Rattle.warg_prover.proofs.hashes.keep_whole.Goals as goal

pub keep_over-requires-clause-whole : goal.keep_over-requires-clause-whole
keep_over-requires-clause-whole c = half_within c.loop-count.count c.loop-count.level (length c.args.hashes.now) (omega (arith, c.loop-count-test.true)) c.if-count-eq0.true (omega (arith, c.if-level-lt63.true)) c.loop-count.invariant.room

pub loop-count-preserved : goal.loop-count-preserved
loop-count-preserved c = record {
  known = λ are. c.keep_over.ensures (c.loop-count.invariant.known are);
  room = half_room c.loop-count.count c.loop-count.level (length c.args.hashes.now) c.if-count-eq0.true c.loop-count.invariant.room;
}
