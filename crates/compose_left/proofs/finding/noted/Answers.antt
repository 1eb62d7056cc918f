use Rattle.std.proofs.Common.{rules, ◌≡◌, ap, sym, ◌∙◌, subst, List, true}
use Rattle.std.specs.Prelude.{is_some}
use Rattle.std.specs.List.{AllByRecursion}
use Rattle.std.specs.BTreeMap.{get}
use Rattle.std.proofs.lemmas.List.{length-map, take_all}
use Rattle.compose_left.specs.declared.origin.Held.{Held}
use Rattle.compose_left.specs.Wired.{wiring_of}
use Rattle.compose_left.specs.Origins.{table_of}
use Rattle.compose_left.specs.Numbers.{held_cmp}
use Rattle.compose_left.proofs.NotedLaws.{table_step, all_step}
use Rattle.compose_left.specs.Wiring.{lent_shape}
use Rattle.compose_left.proofs.finding.noted.Goals as goal

pub loop-held-preserved : goal.loop-held-preserved
loop-held-preserved c = record {
  finds = c.in_ok-note.ensures.table;
  table = table_step (wiring_of c.args.wired.now) c.args.brought.now c.loop-held.held-index _ c.loop-held.table.items c.note.new.table.items (search rules) (search rules) c.loop-held.invariant.table c.in_ok-note.ensures.added;
  numbers = c.in_ok-note.ensures.numbers;
  all = all_step c.loop-held.numbers c.note.new.numbers c.args.brought.now c.loop-held.held-index _ (search rules) (search rules) c.loop-held.invariant.all c.in_ok-note.ensures.kept c.in_ok-note.ensures.noted;
}

pub returns : goal.returns
returns c =
    let whole = take_all c.loop-held.held-index c.args.brought.now c.loop-held-test.false in
    record {
      instances = sym (length-map c.args.wired.now.shapes.now lent_shape);
      origins = c.loop-held.invariant.table ∙ ap (λ (hs : List Held). table_of (wiring_of c.args.wired.now) hs) whole;
      numbers = c.loop-held.invariant.numbers;
      all = subst (AllByRecursion (λ h. is_some (get held_cmp c.loop-held.numbers h) ≡ true)) whole c.loop-held.invariant.all;
    }
