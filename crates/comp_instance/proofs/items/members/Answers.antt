use Rattle.std.proofs.Common.{ap, sym, subst, ◌∙◌, cond, Err}
use Rattle.comp_entity.specs.Bounds.{Index}
use Rattle.comp_instance.specs.Items.{ShowsInstance, items_of}
use Rattle.comp_instance.proofs.ItemLaws.{members_is}
use Rattle.comp_space.specs.Faults.{Finds}
use Rattle.comp_instance.proofs.items.members.Goals as goal

pub returns-then-not-branch-clause-found : goal.returns-then-not-branch-clause-found
returns-then-not-branch-clause-found c = λ s shows.
    members_is s c.args.items.now ∙ ap (λ b. cond b (items_of s c.args.items.now) (Err Index)) (sym c.in_ok-names_differ.ensures ∙ c.if-not-branch.true)

pub returns-clause-found : goal.returns-clause-found
returns-clause-found c = λ s shows.
    subst (Finds (ShowsInstance c.instance_of_items.new.table) c.instance_of_items.result)
    (sym (members_is s c.args.items.now ∙ ap (λ b. cond b (items_of s c.args.items.now) (Err Index)) (sym c.in_ok-names_differ.ensures ∙ c.if-not-branch.false)))
    (c.instance_of_items.ensures.found s shows)
