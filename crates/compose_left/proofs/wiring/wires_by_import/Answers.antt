use Rattle.std.proofs.Common.{◌≡◌, ap, sym, ◌∙◌, Option, Some, List, [], ◌∷◌, ◌++◌}
use Rattle.std.specs.Option.{option_or}
use Rattle.std.specs.BTreeMap.{BTreeMap, get, Updates}
use Rattle.compose_left.specs.declared.wiring.Input.{Input}
use Rattle.compose_left.specs.declared.wiring.Wire.{Wire}
use Rattle.compose_left.specs.Wiring.{wire_into, is_into}
use Rattle.compose_left.specs.Wired.{input_cmp}
use Rattle.compose_left.proofs.MapLaws.{gone_in, input_ties, map_same}
use Rattle.compose_left.proofs.wiring.wires_by_import.Goals as goal

step : (all rest : List Wire) (x : Wire) (old new : BTreeMap Input Wire) (q : Input) → all ≡ rest ++ x ∷ [] → Updates input_cmp old new (record { target = x.target; import = x.import }) (Some x)
    → option_or (wire_into rest q.target q.import) (get input_cmp new q) ≡ option_or (wire_into all q.target q.import) (get input_cmp old q)
step all rest x old new q is u =
    ap (λ (o : Option Wire). option_or o (get input_cmp new q)) (sym (map_same (wire_into rest q.target q.import)))
    ∙ gone_in input_cmp (λ (x : Wire). x) (is_into q.target q.import) q all rest x (record { target = x.target; import = x.import }) old new is (input_ties x q) (u.0 q)
    ∙ ap (λ (o : Option Wire). option_or o (get input_cmp old q)) (map_same (wire_into all q.target q.import))

pub loop-wire-preserved : goal.loop-wire-preserved
loop-wire-preserved c = λ q. step c.loop-wire.left.items c.pop.new.self.items c.in-Some.wire c.loop-wire.found c.insert.new.self q c.in-Some.ensures.items c.in_ok-insert.ensures.updates ∙ c.loop-wire.invariant q
