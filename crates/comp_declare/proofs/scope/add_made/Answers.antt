use Rattle.comp_scope.specs.Spaces.{counts_sum}
use Rattle.comp_space.specs.SpaceViews.{counts}
use Rattle.comp_declare.proofs.ScopeLaws.{shows_made}
use Rattle.comp_declare.proofs.scope.add_made.Goals as goal

pub returns-in-Err-clause-unchanged : goal.returns-in-Err-clause-unchanged
returns-in-Err-clause-unchanged c = λ s shows.
    let sum = counts_sum (counts c.args.space.now.made) (counts c.args.described.brings) in
    shows_made c.args.table.now c.add.new.self (record s { made = sum }) c.args.space.now.made s.made shows.made
    (c.in-Err.ensures.unchanged (record s { made = sum }) (shows_made c.args.table.now c.args.space.now s c.in_ok-space.field-0 sum c.in_ok-space.ensures shows))
