use Rattle.std.proofs.Common.{◌∙◌, ◌++◌, ◌∷◌, [], ap, refl}
use Rattle.warg_plan.specs.View.{entry_view}
use Rattle.warg_compose.proofs.EntryLaws.{one_more}
use Rattle.warg_compose.proofs.releases.add_entry.Goals as goal

pub returns : goal.returns
returns c = λ es are.
    let old = c.args.releases.now in
    let mid = c.number_of.new.releases in
    one_more es (entry_view c.args.entry.now) old mid (record { contents = mid.contents; components = mid.components; instances = c.push.new.self }) are c.in_ok-number.ensures.has
    refl refl (c.in_ok-push.ensures.items ∙ ap (λ k. mid.instances.items ++ k ∷ []) c.in_ok-number.ensures.number)
