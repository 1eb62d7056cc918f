use Rattle.std.proofs.Common.{◌<◌, sym, ◌∙◌, map, arith}
use Rattle.std.proofs.lemmas.Grind.{common_steps}
use Rattle.yaml_small.specs.View.{view}
use Rattle.yaml_read.specs.Any.{data_at}
use Rattle.yaml_read.specs.Entries.{seen_entry}
use Rattle.yaml_read.specs.Answers.{source_of}
use Rattle.yaml_read.specs.EntryLaws.{seen_insert}
use Rattle.yaml_read.proofs.AnyLoops.{values_step, members_step, data_more}
use Rattle.yaml_read.proofs.deserializer.YamlDeserializer.+data.Goals as goal

pub data_within-returns-in_err-event : goal.data_within-returns-in_err-event
data_within-returns-in_err-event t c =
    let lt : 0 < c.args.levels = omega arith in
    let step = data_more c.args.levels (source_of c.args.self.now) lt in
    grind (arith, common_steps, step)

pub data_within-returns-in-Scalar : goal.data_within-returns-in-Scalar
data_within-returns-in-Scalar t c =
    let lt : 0 < c.args.levels = omega arith in
    let step = data_more c.args.levels (source_of c.args.self.now) lt in
    grind (arith, common_steps, step)

pub data_within-returns-in-SequenceStart : goal.data_within-returns-in-SequenceStart
data_within-returns-in-SequenceStart t c =
    let lt : 0 < c.args.levels = omega arith in
    let step = data_more c.args.levels (source_of c.args.self.now) lt in
    grind (arith, common_steps, step)

pub data_within-returns-in-MappingStart : goal.data_within-returns-in-MappingStart
data_within-returns-in-MappingStart t c =
    let lt : 0 < c.args.levels = omega arith in
    let step = data_more c.args.levels (source_of c.args.self.now) lt in
    grind (arith, common_steps, step)

pub data_within-returns-in_default : goal.data_within-returns-in_default
data_within-returns-in_default t c =
    let lt : 0 < c.args.levels = omega arith in
    let step = data_more c.args.levels (source_of c.args.self.now) lt in
    grind (arith, common_steps, step)

pub entries_within-loop-preserved : goal.entries_within-loop-preserved
entries_within-loop-preserved t c =
    let step = sym (members_step (data_at c.args.levels) c.args.most c.loop.counter (map (seen_entry view) c.loop.entries.entries) (source_of c.loop.self) c.loop-test.true) ∙ c.loop.invariant in
    let seen = seen_insert view c.loop.entries.entries c.in_ok-key.key c.in_ok-value.value in
    rw (c.in_ok-insert.ensures.entries, seen) (grind (arith, common_steps, step))

pub items_within-returns-in_err-at_end : goal.items_within-returns-in_err-at_end
items_within-returns-in_err-at_end t c =
    let step = sym c.loop.invariant ∙ values_step (data_at c.args.levels) c.args.most c.loop.counter (map view c.loop.items.items) (source_of c.loop.self) c.loop-test.true in
    grind (arith, common_steps, step)

pub items_within-returns-in_err-item : goal.items_within-returns-in_err-item
items_within-returns-in_err-item t c =
    let step = sym c.loop.invariant ∙ values_step (data_at c.args.levels) c.args.most c.loop.counter (map view c.loop.items.items) (source_of c.loop.self) c.loop-test.true in
    grind (arith, common_steps, step)

pub items_within-loop-preserved : goal.items_within-loop-preserved
items_within-loop-preserved t c =
    let step = sym (values_step (data_at c.args.levels) c.args.most c.loop.counter (map view c.loop.items.items) (source_of c.loop.self) c.loop-test.true) ∙ c.loop.invariant in
    grind (arith, common_steps, step)
