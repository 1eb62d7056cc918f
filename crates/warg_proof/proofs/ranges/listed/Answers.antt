use Rattle.std.proofs.Common.{rules, sym, []}
use Rattle.std.proofs.lemmas.List.Sorted.{answers_always}
use Rattle.warg_proof.proofs.Listing.{key_of, searchable, listed_at, not_listed}
use Rattle.warg_proof.proofs.ranges.listed.Goals as goal

pub returns-in-Ok : goal.returns-in-Ok
returns-in-Ok c =
    sym (listed_at c.args.nodes.now c.in-Ok.at (record { level = 0; place = 0; hash = [] }) c.args.level c.args.place c.requires c.in-Ok.ensures.bound
    (c.in-Ok.ensures.position key_of (answers_always _ _ _ (λ f a r h called. search rules)) (record { level = 0; place = 0; hash = [] })))

pub returns-in-Err : goal.returns-in-Err
returns-in-Err c =
    sym (not_listed c.args.nodes.now c.in-Err.field-0 c.args.level c.args.place
    (c.in-Err.ensures.position key_of (answers_always _ _ _ (λ f a r h called. search rules)) (searchable c.args.nodes.now (c.args.level, c.args.place) c.requires)))
