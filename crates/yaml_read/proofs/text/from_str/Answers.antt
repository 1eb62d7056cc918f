use Rattle.yaml_read.specs.Whole.{whole_at}
use Rattle.yaml_read.proofs.WholeTexts.{whole_answers, gives_found, gives_answer}
use Rattle.yaml_read.proofs.text.from_str.Goals as goal

pub returns-clause-found : goal.returns-clause-found
returns-clause-found g c =
    let read = g.T.ReadYaml in
    gives_found read.seen c.read_whole-read.result read.of_node read.read_at g.met.T.ReadYaml.reads c.args.text.now c.read_whole-read.ensures

pub returns-clause-only : goal.returns-clause-only
returns-clause-only g c =
    let read = g.T.ReadYaml in
    λ x holds.
    gives_answer read.seen c.read_whole-read.result (whole_at read.read_at c.args.text.now) x c.read_whole-read.ensures
    (whole_answers read.of_node read.read_at g.met.T.ReadYaml.reads c.args.text.now x holds)
