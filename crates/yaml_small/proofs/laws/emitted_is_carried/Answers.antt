use Rattle.yaml_small.specs.FoundTextLaws.{found}
use Rattle.yaml_small.proofs.laws.emitted_is_carried.Goals as goal

pub returns : goal.returns
returns c = λ text es emits. let f = found text es emits in (f.tree, f.carried, f.count, f.is)
