use Rattle.std.proofs.Common.{sym}
use Rattle.comp_declare.proofs.IndexLaws.{item_found}
use Rattle.comp_declare.proofs.outer.module_at.Goals as goal

pub returns-in-Module : goal.returns-in-Module
returns-in-Module c = λ table s shows. rw c.in-Module.is
    (item_found table c.args.space.now.modules.items s.modules c.args.index c.standing_at.result shows.modules (rw (sym c.deref.ensures.value) c.standing_at.ensures))
