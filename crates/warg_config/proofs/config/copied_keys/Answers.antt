-- A key more is copied.
use Rattle.std.specs.Map.Iter.{deref}
use Rattle.std.proofs.lemmas.Map.Iter.{rest_more}
use Rattle.warg_config.proofs.JsonLaws.{copied_more}
use Rattle.warg_config.proofs.config.copied_keys.Goals as goal

pub loop-key-preserved : goal.loop-key-preserved
loop-key-preserved c =
    let left = rest_more deref c.loop-key.key-iterator c.next.new.self c.next.result c.in-Some.key c.in-Some.is c.next.ensures.steps in
    copied_more c.loop-key.copy.keys c.loop-key.key-iterator c.next.new.self c.args.keys.now.keys c.in-Some.key.now c.in_ok-try_clone.field-0 _ c.loop-key.invariant left c.in_ok-insert.ensures.keys c.in_ok-try_clone.ensures
