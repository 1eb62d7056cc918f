use Rattle.std.proofs.Common.{rules, ap, sym, ◌∙◌, ◌<◌, ◌+◌, ◌∷◌, drop, length}
use Rattle.comp_format.specs.declared.types.Arg.{Arg}
use Rattle.comp_instance.proofs.CoreLaws.{dropped, nothing_left}
use Rattle.comp_instance.proofs.ItemLaws.{all_so_far, one_item_more, one_refused}
use Rattle.comp_space.specs.SpaceLaws.{space_kept}
use Rattle.comp_space.specs.StandingLaws.{passed_on}
use Rattle.comp_table.specs.StandLaws.{grows_not, grows_on}
use Rattle.comp_instance.proofs.items.items_of.Goals as goal

pub returns-in_err-item-clause-found : goal.returns-in_err-item-clause-found
returns-in_err-item-clause-found c = λ s shows.
    let lt : c.loop-arg.arg-index < length c.args.args.now = search rules in
    let kept = space_kept c.args.table.now c.loop-arg.table c.loop-arg.invariant.extends c.args.space.now s shows in
    let here = dropped c.args.args.now c.loop-arg.arg-index c.arg-item.result lt ∙ ap (λ (x : Arg). x ∷ drop (c.loop-arg.arg-index + 1) c.args.args.now) (sym c.arg-item.is) in
    passed_on _ c.from_residual.result c.in_err-item.field-0.0 _ c.from_residual.ensures.1
    (one_refused c.loop-arg.table c.loop-arg.table (grows_not c.loop-arg.table) (record { numbers = c.loop-arg.numbers; named = c.loop-arg.named }) s c.args.args.now (drop c.loop-arg.arg-index c.args.args.now) (drop (c.loop-arg.arg-index + 1) c.args.args.now) c.arg-item.result here (c.loop-arg.invariant.found s shows) c.in_err-item.field-0.0
    (c.in_err-item.ensures c.loop-arg.table s kept))

pub loop-arg-preserved : goal.loop-arg-preserved
loop-arg-preserved c =
    let lt : c.loop-arg.arg-index < length c.args.args.now = search rules in
    let here = dropped c.args.args.now c.loop-arg.arg-index c.arg-item.result lt ∙ ap (λ (x : Arg). x ∷ drop (c.loop-arg.arg-index + 1) c.args.args.now) (sym c.arg-item.is) in
    record {
      extends = grows_on _ _ _ c.loop-arg.invariant.extends c.entry.ensures.extends;
      found = λ s shows.
          let f = c.in_ok-item.ensures c.loop-arg.table s (space_kept c.args.table.now c.loop-arg.table c.loop-arg.invariant.extends c.args.space.now s shows) in
          one_item_more c.loop-arg.table c.entry.new.table c.entry.ensures.extends (record { numbers = c.loop-arg.numbers; named = c.loop-arg.named }) s c.args.args.now (drop c.loop-arg.arg-index c.args.args.now) (drop (c.loop-arg.arg-index + 1) c.args.args.now) c.arg-item.result here (c.loop-arg.invariant.found s shows)
          c.in_ok-item.item c.in_ok-number.number (record { numbers = c.push.new.self; named = c.both-named.result }) c.has_bit.result f
          (c.in_ok-number.ensures.number f.value.0 f.shown.stands) (c.has_bit.ensures f.value.0 f.shown.stands) c.in_ok-push.ensures.items c.both-named.ensures;
    }

pub returns-clause-found : goal.returns-clause-found
returns-clause-found c = λ s shows.
    all_so_far c.loop-arg.table (record { numbers = c.loop-arg.numbers; named = c.loop-arg.named }) s c.args.args.now (drop c.loop-arg.arg-index c.args.args.now)
    (nothing_left c.args.args.now c.loop-arg.arg-index (search rules)) (c.loop-arg.invariant.found s shows)
