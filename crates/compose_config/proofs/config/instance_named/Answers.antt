use Rattle.std.proofs.Common.{sym, ◌∙◌, arith}
use Rattle.compose_config.specs.View.{instance_of}
use Rattle.compose_config.specs.MapLaws.{none_there}
use Rattle.compose_config.proofs.Named.{found_here, next_here}
use Rattle.compose_config.proofs.config.instance_named.Goals as goal
use Rattle.compose_config.proofs.config.instance_named.Goals.{in-Some+else-eq, in_default}

pub returns-then-eq : goal.returns-then-eq
returns-then-eq c =
    let same = rw c.as_str.ensures at (sym c.eq.ensures ∙ c.if-eq.true) in
    found_here instance_of c.args.all.now.entries c.loop-index.index (c.in-Some.key.now, c.in-Some.instantiation.now) c.args.name.now (sym c.in-Some.ensures.entry) same ∙ c.loop-index.invariant

pub loop-index-preserved : goal.loop-index-preserved
loop-index-preserved c =
    elim c.match-get_index.branch [
      | in-Some+else-eq w ↦
          let other = rw w.as_str.ensures at (sym w.eq.ensures ∙ w.if-eq.false) in
          next_here instance_of c.args.all.now.entries c.loop-index.index (w.in-Some.key.now, w.in-Some.instantiation.now) c.args.name.now (sym w.in-Some.ensures.entry) other ∙ c.loop-index.invariant
      | in_default w ↦ absurd (none_there c.args.all.now.entries c.loop-index.index (omega arith) (sym w.in_default.ensures.entry))
    ]
