use Rattle.std.proofs.Common.{sym, ◌∙◌, rules}
use Rattle.compose_files.specs.Paths.{slash}
use Rattle.compose_files.proofs.Cuts.{cut_shorter, last_before, last_here, last_whole}
use Rattle.compose_files.proofs.paths.last_part.Goals as goal

pub returns-in-None-clause-last : goal.returns-in-None-clause-last
returns-in-None-clause-last c = c.if_leads.ensures.part ∙ sym (last_whole c.loop-cut.rest.now (sym c.in-None.ensures)) ∙ c.loop-cut.invariant.same

pub returns-then-leads-clause-last : goal.returns-then-leads-clause-last
returns-then-leads-clause-last c = sym (last_here c.loop-cut.rest.now _ _ (sym c.in-Some.ensures) (sym c.leads.ensures.leads ∙ c.if-leads.true)) ∙ c.loop-cut.invariant.same

pub loop-cut-smaller : goal.loop-cut-smaller
loop-cut-smaller c = cut_shorter slash c.loop-cut.rest.now _ _ (sym c.in-Some.ensures)

pub loop-cut-preserved : goal.loop-cut-preserved
loop-cut-preserved c = record {
  same = sym (last_before c.loop-cut.rest.now _ _ (sym c.in-Some.ensures) (sym c.leads.ensures.leads ∙ c.if-leads.false)) ∙ c.loop-cut.invariant.same;
  text = search rules;
}
