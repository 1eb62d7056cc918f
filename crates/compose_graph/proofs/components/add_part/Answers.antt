use Rattle.std.proofs.Common.{◌∙◌, ap}
use Rattle.std.specs.BTreeMap.{is_at}
use Rattle.std.specs.Map.{remove_entry}
use Rattle.std.specs.Ordering.{nat_cmp}
use Rattle.compose_graph.proofs.EntryLaws.{insert_last, removed_last}
use Rattle.compose_graph.proofs.PartLaws.{parts_added, parts_again}
use Rattle.compose_graph.proofs.components.add_part.Goals as goal

pub returns-in-Ok-clause-added : goal.returns-in-Ok-clause-added
returns-in-Ok-clause-added c = λ ts parts free text loose.
    parts_added c.args.parts.now.entries c.put_part.new.parts.entries c.args.numbers.now c.put_number.new.numbers ts c.args.id c.args.part c.args.name
    (c.in_ok-put_part.ensures.put ∙ insert_last c.args.parts.now.entries c.args.id c.args.part c.requires) c.in-Ok.ensures.put parts free text loose

pub returns-in-Ok-clause-last : goal.returns-in-Ok-clause-last
returns-in-Ok-clause-last c = c.in_ok-put_part.ensures.put ∙ insert_last c.args.parts.now.entries c.args.id c.args.part c.requires

pub returns-in-Err-clause-kept : goal.returns-in-Err-clause-kept
returns-in-Err-clause-kept c = λ ts parts.
    parts_again c.args.parts.now.entries c.take_part.new.parts.entries c.args.numbers.now c.put_number.new.numbers ts c.args.id
    (c.take_part.ensures ∙ ap (remove_entry (is_at (nat_cmp c.args.id))) (c.in_ok-put_part.ensures.put ∙ insert_last c.args.parts.now.entries c.args.id c.args.part c.requires)
    ∙ removed_last c.args.parts.now.entries c.args.id c.args.part c.requires)
    c.in-Err.ensures.unchanged parts

pub returns-in-Err-clause-unchanged : goal.returns-in-Err-clause-unchanged
returns-in-Err-clause-unchanged c =
    c.take_part.ensures ∙ ap (remove_entry (is_at (nat_cmp c.args.id))) (c.in_ok-put_part.ensures.put ∙ insert_last c.args.parts.now.entries c.args.id c.args.part c.requires)
    ∙ removed_last c.args.parts.now.entries c.args.id c.args.part c.requires
