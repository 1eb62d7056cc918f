use Rattle.std.proofs.Common.{◌≡◌, ◌+◌, suc, ◌∙◌, ap, subst, arith, [], ◌∷◌, ◌++◌}
use Rattle.std.specs.Map.{keys_of}
use Rattle.compose_graph.specs.Kept.{CountUp}
use Rattle.compose_graph.specs.Listed.{InstanceList, instance_entry}
use Rattle.compose_graph.proofs.InstanceLaws.{counted_on, added}
use Rattle.compose_graph.proofs.instances.Instances.add.Goals as goal

pub invariant_of-self-2 : goal.invariant_of-self-2
invariant_of-self-2 c =
    let more : suc c.self.inside.next ≡ c.self.inside.next + 1 = omega arith in
    subst (λ n. CountUp 0 (keys_of c.insert.new.self.entries) n) more
    (counted_on c.self.inside.components.entries c.insert.new.self.entries c.self.inside.next c.args.component c.self.invariant c.in_ok-insert.ensures.entries)

pub returns-clause-added : goal.returns-clause-added
returns-clause-added c =
    let more : c.self.inside.next + 1 ≡ suc c.self.inside.next = omega arith in
    (λ i. record { entries = added c.self.inside.components.entries c.insert.new.self.entries c.self.inside.next c.args.component c.self.invariant c.in_ok-insert.ensures.entries i; next = more i })
    ∙ ap (λ (l : InstanceList). let m : InstanceList = record { entries = l.entries ++ instance_entry (l.next, c.args.component) ∷ []; next = suc l.next } in m) c.self.view_is
