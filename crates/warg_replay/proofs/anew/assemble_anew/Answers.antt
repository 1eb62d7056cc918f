use Rattle.std.proofs.Common.{ap, sym, ◌∙◌, subst}
use Rattle.std.specs.Prelude.{option_map}
use Rattle.warg_plan.specs.View.{plan_view}
use Rattle.warg_compose.specs.Linked.{IsPlanLinked}
use Rattle.warg_client.specs.Assembled.{IsPlanOfText, LeavesWhatIsAllowed, beginning}
use Rattle.warg_client.specs.Shown.{settings_of}
use Rattle.warg_client.specs.declared.client.Assembly.{Assembly}
use Rattle.warg_replay.specs.Anew.{accepts_listed, shown}
use Rattle.warg_replay.proofs.AnewLaws.{anew, refused, same_assembly, same_plan}
use Rattle.warg_replay.proofs.anew.assemble_anew.Goals as goal

-- nothing is assembled
pub returns-in-Err-clause-cause : goal.returns-in-Err-clause-cause
returns-in-Err-clause-cause g c =
    refused g.L.Link.Steps (accepts_listed c.args.checked) (g.L.Link.told c.args.link) c.args.text.now _ _ c.in_ok-client.ensures.anew c.in-Err.error c.told_error.result c.in-Err.ensures.cause c.in-Err.ensures.complete
    c.told_error.ensures

-- what was assembled is what is given
pub returns-clause-assembled : goal.returns-clause-assembled
returns-clause-assembled g c =
    let planned = c.in-Ok.ensures.planned in
    let linked = c.in-Ok.ensures.linked in
    let allowed = c.in-Ok.ensures.allowed in
    let given = sym c.into_assembly.ensures ∙ c.in-Some.is in
    let plan_given = ap (option_map (λ (a : Assembly). a.plan)) given in
    let found = same_plan planned.0 c.in-Some.made.plan (sym planned.1 ∙ plan_given) in
    let open_in = same_plan allowed.0 c.in-Some.made.plan (sym allowed.1 ∙ plan_given) in
    let same = same_assembly linked.0 c.in-Some.made (sym linked.1 ∙ given) in
    anew g.L.Link.Steps (accepts_listed c.args.checked) (g.L.Link.told c.args.link) c.args.text.now _ _ c.in_ok-client.ensures.anew c.in-Some.made.lock.bytes.items c.in-Ok.bytes.items c.in-Some.made.lock.left.items
    (plan_view c.in-Some.made.plan)
    (subst (λ p. IsPlanOfText g.L.Link.Steps (beginning (settings_of c.in_ok-client.client) (shown g.L.Link.told g.L.Link.faults c.in_ok-client.client)) (shown g.L.Link.told g.L.Link.faults c.assemble.new.self) c.args.text.now (plan_view p)) found planned.2)
    (subst (λ (a : Assembly). IsPlanLinked (plan_view a.plan) a.lock.left.items a.lock.bytes.items c.in-Ok.bytes.items) same linked.2)
    (subst (λ p. LeavesWhatIsAllowed c.args.text.now (plan_view p)) open_in allowed.2)
