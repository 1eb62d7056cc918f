use Rattle.std.proofs.Common.{◌≡◌, ◌-◌, ◌<◌, suc, length, arith, ◌∙◌}
use Rattle.compose_component.proofs.NameLaws.{found_none, found_more, found_all}
use Rattle.compose_component.proofs.naming.places_by_name.Goals as goal

pub loop-left-init : goal.loop-left-init
loop-left-init g c = record {
  within = omega arith;
  found = found_none g.T.Named.name c.args.named.now _ c.new-places.result (omega arith) c.new-places.ensures.empty;
}

pub loop-left-preserved : goal.loop-left-preserved
loop-left-preserved g c =
    let next : c.loop-left.left ≡ suc (c.loop-left.left - 1) = omega arith in
    let within : c.loop-left.left - 1 < length c.args.named.now = omega arith in
    record {
      within = omega arith;
      found = found_more g.T.Named.name c.args.named.now (c.loop-left.left - 1) c.loop-left.left c.index-named-left.result c.loop-left.places c.insert.new.self c.in_ok-name.name
          next within c.index-named-left.is (c.in_ok-name.ensures.ok ∙ c.as_str.ensures ∙ c.name.ensures) c.in_ok-insert.ensures.updates c.loop-left.invariant.found;
    }

pub returns : goal.returns
returns g c = found_all g.T.Named.name c.args.named.now c.loop-left.left c.loop-left.places (omega arith) c.loop-left.invariant.found
