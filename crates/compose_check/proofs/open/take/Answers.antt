use Rattle.std.proofs.Common.{sym, arith, rules}
use Rattle.comp_entity.specs.Views.{entity_tree}
use Rattle.compose_check.specs.Open.{Asked}
use Rattle.compose_check.specs.Merging.{lefts_in}
use Rattle.compose_check.proofs.MergeLaws.{differs_at, found_in, place_within, still_merging, takes_at}
use Rattle.compose_check.proofs.open.take.Goals as goal

pub merge_at-requires-clause-there : goal.merge_at-requires-clause-there
merge_at-requires-clause-there c =
    let m = c.args.merging.now in
    let x : Asked = (c.args.name, entity_tree c.args.entity) in
    let f = found_in m x c.in-Some.found.now c.requires (sym c.in-Some.ensures.value) in
    let within = place_within m.list.items x c.in-Some.found.now f in
    omega (arith, within)

pub returns-in_err-merge_at-in-Some-clause-differs : goal.returns-in_err-merge_at-in-Some-clause-differs
returns-in_err-merge_at-in-Some-clause-differs c = λ n is.
    let m = c.args.merging.now in
    let x : Asked = (c.args.name, entity_tree c.args.entity) in
    let f = found_in m x c.in-Some.found.now c.requires (sym c.in-Some.ensures.value) in
    let e = c.in_err-merge_at-in-Some.ensures.differs f.import f.there n in
    differs_at (lefts_in m.list.items) x c.in-Some.found.now n f (e (search rules))

pub returns-in_ok-merge_at-in-Some-clause-merging : goal.returns-in_ok-merge_at-in-Some-clause-merging
returns-in_ok-merge_at-in-Some-clause-merging c =
    let m = c.args.merging.now in
    let x : Asked = (c.args.name, entity_tree c.args.entity) in
    let f = found_in m x c.in-Some.found.now c.requires (sym c.in-Some.ensures.value) in
    still_merging m c.merge_at.new.list x c.in-Some.found.now c.requires f (c.in_ok-merge_at-in-Some.ensures.merges f.import f.there) c.in_ok-merge_at-in-Some.ensures.merged

pub returns-in_ok-merge_at-in-Some-clause-takes : goal.returns-in_ok-merge_at-in-Some-clause-takes
returns-in_ok-merge_at-in-Some-clause-takes c =
    let m = c.args.merging.now in
    let x : Asked = (c.args.name, entity_tree c.args.entity) in
    let f = found_in m x c.in-Some.found.now c.requires (sym c.in-Some.ensures.value) in
    takes_at (lefts_in m.list.items) (lefts_in c.merge_at.new.list.items) x c.in-Some.found.now f (c.in_ok-merge_at-in-Some.ensures.merges f.import f.there)
