use Rattle.std.proofs.Common.{ap, refl}
use Rattle.comp_scope.specs.Canons.{with_option}
use Rattle.comp_scope.specs.Spaces.{if_below}
use Rattle.comp_instance.proofs.CoreLaws.{gives_below, gives_from}
use Rattle.comp_instance.proofs.canons.check_option.Goals as goal

pub returns-in-Encoding : goal.returns-in-Encoding
unfolding with_option
returns-in-Encoding c = λ table s shows. rw c.in-Encoding.is refl

pub returns-in-Memory : goal.returns-in-Memory
unfolding with_option
returns-in-Memory c = λ table s shows. rw c.in-Memory.is
    (gives_from s c.check_below.result _ _ (ap (λ n. if_below n.memories c.in-Memory.index s) shows.core) (gives_below c.args.space.now.core.memories c.in-Memory.index s c.check_below.result c.check_below.ensures))

pub returns-in-Realloc : goal.returns-in-Realloc
unfolding with_option
returns-in-Realloc c = λ table s shows. rw c.in-Realloc.is
    (gives_from s c.check_below-in-Realloc.result _ _ (ap (λ n. if_below n.funcs c.in-Realloc.index s) shows.core) (gives_below c.args.space.now.core.funcs c.in-Realloc.index s c.check_below-in-Realloc.result c.check_below-in-Realloc.ensures))

pub returns-in-PostReturn : goal.returns-in-PostReturn
unfolding with_option
returns-in-PostReturn c = λ table s shows. rw c.in-PostReturn.is
    (gives_from s c.check_below-in-PostReturn.result _ _ (ap (λ n. if_below n.funcs c.in-PostReturn.index s) shows.core) (gives_below c.args.space.now.core.funcs c.in-PostReturn.index s c.check_below-in-PostReturn.result c.check_below-in-PostReturn.ensures))
