use Rattle.yaml_read.proofs.list.VecReadYaml.read_yaml.Goals as goal

pub returns-in-Err : goal.returns-in-Err
returns-in-Err g c = rw c.new.ensures.items at c.in-Err.ensures
