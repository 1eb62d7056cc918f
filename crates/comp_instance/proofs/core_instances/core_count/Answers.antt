use Rattle.std.proofs.Common.{rules, ap, sym}
use Rattle.comp_scope.specs.Instances.{core_member}
use Rattle.comp_scope.specs.Spaces.{if_below}
use Rattle.comp_space.specs.CoreStandings.{ShowsCore}
use Rattle.comp_space.specs.Standings.{Shows}
use Rattle.comp_table.specs.Plain.{plain_entity}
use Rattle.comp_instance.proofs.CoreLaws.{at_shown}
use Rattle.comp_instance.proofs.core_instances.core_count.Goals as goal

pub returns-in-Func : goal.returns-in-Func
unfolding core_member
returns-in-Func c = λ table s shows index. rw c.in-Func.is (ap (λ n. if_below n.funcs index s) (sym shows.core))

pub returns-in-Table : goal.returns-in-Table
unfolding core_member
returns-in-Table c = λ table s shows index. rw c.in-Table.is (ap (λ n. if_below n.tables index s) (sym shows.core))

pub returns-in-Memory : goal.returns-in-Memory
unfolding core_member
returns-in-Memory c = λ table s shows index. rw c.in-Memory.is (ap (λ n. if_below n.memories index s) (sym shows.core))

pub returns-in-Global : goal.returns-in-Global
unfolding core_member
returns-in-Global c = λ table s shows index. rw c.in-Global.is (ap (λ n. if_below n.globals index s) (sym shows.core))

pub returns-in-Ty : goal.returns-in-Ty
unfolding core_member
returns-in-Ty c = λ table s shows index. rw c.in-Ty.is (at_shown (ShowsCore table) c.args.space.now.core_types.items s.core_types index c.len.result s shows.core_types (search rules))

pub returns-in-Module : goal.returns-in-Module
unfolding core_member
returns-in-Module c = λ table s shows index. rw c.in-Module.is (at_shown (Shows plain_entity table) c.args.space.now.modules.items s.modules index c.len-in-Module.result s shows.modules (search rules))

pub returns-in-Instance : goal.returns-in-Instance
unfolding core_member
returns-in-Instance c = λ table s shows index. rw c.in-Instance.is (ap (λ n. if_below n.instances index s) (sym shows.core))
