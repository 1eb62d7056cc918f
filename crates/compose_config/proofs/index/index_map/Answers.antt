use Rattle.compose_config.proofs.index.index_map.Goals as goal

pub returns-in-Err : goal.returns-in-Err
returns-in-Err g c = rw c.new.ensures.empty at c.in-Err.ensures
