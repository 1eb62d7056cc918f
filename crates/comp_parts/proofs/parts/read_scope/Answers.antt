use Rattle.std.proofs.Common.{rules, [], true}
use Rattle.comp_parts.proofs.PartLaws.{all_read, begun, fails_there, fault_here, faults_begin, faults_next, first_left, goes_on}
use Rattle.comp_scope.specs.Spaces.{nothing_known}
use Rattle.comp_table.specs.StandLaws.{grows_not, grows_on}
use Rattle.comp_parts.proofs.parts.read_scope.Goals as goal

pub loop-number-init : goal.loop-number-init
loop-number-init c = record {
  extends = grows_not _;
  own = (nothing_known true, c.new-scope.ensures c.args.table.now);
  found = λ parts h. (begun c.args.table.now c.new-scope.result [] parts _ (c.new-scope.ensures c.args.table.now) h, faults_begin parts);
}

pub add_part-requires-clause-part : goal.add_part-requires-clause-part
add_part-requires-clause-part c =
    let r = c.loop-number.invariant.found c.requires.0 c.requires.1 in
    let f = first_left c.args.items.now c.loop-number.number c.index-items-number.result r.0.rest (search rules) c.index-items-number.is r.0.expands in
    (f.first, f.is_part)

pub returns-in-Err-clause-extends : goal.returns-in-Err-clause-extends
returns-in-Err-clause-extends c = grows_on _ _ _ c.loop-number.invariant.extends c.add_part.ensures.extends

pub returns-in-Err-clause-found : goal.returns-in-Err-clause-found
returns-in-Err-clause-found c = λ parts h.
    let r = c.loop-number.invariant.found parts h in
    let f = first_left c.args.items.now c.loop-number.number c.index-items-number.result r.0.rest (search rules) c.index-items-number.is r.0.expands in
    fails_there c.loop-number.table c.loop-number.scope [] parts _ _ _ r.0 f c.in-Err.error (c.in-Err.ensures.found [] r.0.known f.first tt r.0.shown f.is_part)

pub returns-in-Err-clause-first : goal.returns-in-Err-clause-first
returns-in-Err-clause-first c = λ parts h.
    let r = c.loop-number.invariant.found parts h in
    let f = first_left c.args.items.now c.loop-number.number c.index-items-number.result r.0.rest (search rules) c.index-items-number.is r.0.expands in
    fault_here c.loop-number.number r.0.known f.first r.0.rest f.others parts c.in-Err.error f.parts_are (c.in-Err.ensures.found [] r.0.known f.first tt r.0.shown f.is_part) r.1

pub loop-number-preserved : goal.loop-number-preserved
loop-number-preserved c = record {
  extends = grows_on _ _ _ c.loop-number.invariant.extends c.add_part.ensures.extends;
  own =
      let r = c.loop-number.invariant.found c.requires.0 c.requires.1 in
      let f = first_left c.args.items.now c.loop-number.number c.index-items-number.result r.0.rest (search rules) c.index-items-number.is r.0.expands in
      let g = c.in-Ok.ensures.found [] r.0.known f.first tt r.0.shown f.is_part in
      (g.value, g.shown);
  found = λ parts h.
      let r = c.loop-number.invariant.found parts h in
      let f = first_left c.args.items.now c.loop-number.number c.index-items-number.result r.0.rest (search rules) c.index-items-number.is r.0.expands in
      let g = c.in-Ok.ensures.found [] r.0.known f.first tt r.0.shown f.is_part in (
        goes_on c.loop-number.table c.add_part.new.table c.loop-number.scope c.add_part.new.scope [] parts _ _ _ r.0 f g,
        faults_next c.loop-number.number r.0.known g.value f.first r.0.rest f.others parts f.parts_are g.given_is r.1,
      );
}

pub returns-clause-found : goal.returns-clause-found
returns-clause-found c = λ parts h.
    all_read c.loop-number.table c.loop-number.scope [] parts c.args.items.now c.loop-number.number (search rules) (c.loop-number.invariant.found parts h).0
