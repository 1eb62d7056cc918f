use Rattle.warg_info_text.proofs.CheckpointLaws.{contents_read}
use Rattle.warg_info_text.proofs.values.contents_value.Goals as goal

pub returns-clause-reads : goal.returns-clause-reads
returns-clause-reads c = contents_read c.args.contents.now c.names_itself.ensures c.names_itself-2.ensures
