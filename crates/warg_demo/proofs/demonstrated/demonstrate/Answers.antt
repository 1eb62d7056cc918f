use Rattle.std.proofs.Common.{◌∙◌, subst}
use Rattle.std.specs.List.Sorted.{IsPermutation}
use Rattle.warg_plan.specs.View.{plan_view}
use Rattle.warg_vectors.specs.World.{signatures_in}
use Rattle.warg_demo.specs.Demonstrated.{HoldsDemo}
use Rattle.warg_demo.proofs.DemoLaws.{demonstrated, undemonstrated}
use Rattle.warg_demo.proofs.demonstrated.demonstrate.Goals as goal

pub returns-in-Ok-clause-demonstrated : goal.returns-in-Ok-clause-demonstrated
returns-in-Ok-clause-demonstrated c =
    let made = c.in-Ok.made in
    let holds : HoldsDemo c.args.seed c.args.count c.in_ok-world.world.registry c.in_ok-verifier.verifier = record {
      holds = c.in_ok-world.ensures.registry;
      sound = c.in_ok-world.ensures.sound;
      signed = subst (λ w. IsPermutation (signatures_in w) c.in_ok-verifier.verifier) c.in_ok-world.ensures.registry c.in_ok-verifier.ensures.listed;
    } in
    demonstrated c.args.seed c.args.count c.in_ok-world.world.registry c.in_ok-verifier.verifier holds c.as_str.result.now (c.as_str.ensures ∙ c.in_ok-world.ensures.text) (plan_view made.plan) made.lock.left.items made.lock.bytes.items made.bytes.items
    c.in-Ok.ensures.assembled

pub returns-clause-cause : goal.returns-clause-cause
returns-clause-cause c =
    let holds : HoldsDemo c.args.seed c.args.count c.in_ok-world.world.registry c.in_ok-verifier.verifier = record {
      holds = c.in_ok-world.ensures.registry;
      sound = c.in_ok-world.ensures.sound;
      signed = subst (λ w. IsPermutation (signatures_in w) c.in_ok-verifier.verifier) c.in_ok-world.ensures.registry c.in_ok-verifier.ensures.listed;
    } in
    undemonstrated c.args.seed c.args.count c.in_ok-world.world.registry c.in_ok-verifier.verifier holds c.as_str.result.now (c.as_str.ensures ∙ c.in_ok-world.ensures.text) c.in-Err.error c.in-Err.ensures.cause
