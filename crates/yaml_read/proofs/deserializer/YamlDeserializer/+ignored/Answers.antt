use Rattle.std.proofs.Common.{◌<◌, arith}
use Rattle.std.proofs.lemmas.Grind.{common_steps}
use Rattle.yaml_read.specs.Answers.{source_of}
use Rattle.yaml_read.proofs.AnyLoops.{ignored_more}
use Rattle.yaml_read.proofs.deserializer.YamlDeserializer.+ignored.Goals as goal

pub ignore_within-returns-in_err-event : goal.ignore_within-returns-in_err-event
ignore_within-returns-in_err-event t c =
    let lt : 0 < c.args.levels = omega arith in
    let step = ignored_more c.args.levels (source_of c.args.self.now) lt in
    grind (arith, common_steps, step)

pub ignore_within-returns-in_err-read_text-in-Scalar : goal.ignore_within-returns-in_err-read_text-in-Scalar
ignore_within-returns-in_err-read_text-in-Scalar t c =
    let lt : 0 < c.args.levels = omega arith in
    let step = ignored_more c.args.levels (source_of c.args.self.now) lt in
    grind (arith, common_steps, step)

pub ignore_within-returns-in_ok-read_text-in-Scalar : goal.ignore_within-returns-in_ok-read_text-in-Scalar
ignore_within-returns-in_ok-read_text-in-Scalar t c =
    let lt : 0 < c.args.levels = omega arith in
    let step = ignored_more c.args.levels (source_of c.args.self.now) lt in
    grind (arith, common_steps, step)

pub ignore_within-returns-in-SequenceStart : goal.ignore_within-returns-in-SequenceStart
ignore_within-returns-in-SequenceStart t c =
    let lt : 0 < c.args.levels = omega arith in
    let step = ignored_more c.args.levels (source_of c.args.self.now) lt in
    grind (arith, common_steps, step)

pub ignore_within-returns-in-MappingStart : goal.ignore_within-returns-in-MappingStart
ignore_within-returns-in-MappingStart t c =
    let lt : 0 < c.args.levels = omega arith in
    let step = ignored_more c.args.levels (source_of c.args.self.now) lt in
    grind (arith, common_steps, step)

pub ignore_within-returns-in_default : goal.ignore_within-returns-in_default
ignore_within-returns-in_default t c =
    let lt : 0 < c.args.levels = omega arith in
    let step = ignored_more c.args.levels (source_of c.args.self.now) lt in
    grind (arith, common_steps, step)
