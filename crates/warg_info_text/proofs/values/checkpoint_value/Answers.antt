use Rattle.std.proofs.Common.{subst}
use Rattle.warg_info_text.proofs.CheckpointLaws.{NamesItself, checkpoint_read, on_ok_too}
use Rattle.warg_info_text.proofs.values.checkpoint_value.Goals as goal

pub returns-clause-reads : goal.returns-clause-reads
returns-clause-reads c =
    on_ok_too c.checkpoint_object.result
    (checkpoint_read c.args.checkpoint.now c.in_ok-contents.ensures.reads (subst NamesItself c.hash.ensures.value c.names_itself.ensures) c.has_form.ensures)
