use Rattle.std.proofs.Common.{◌≡◌, ap, sym, ◌∙◌, Option, Some, List, [], ◌∷◌, ◌++◌}
use Rattle.std.specs.Prelude.{find}
use Rattle.std.specs.Option.{option_or}
use Rattle.std.specs.BTreeMap.{BTreeMap, get, Updates}
use Rattle.compose_left.specs.declared.spots.Thing.{Thing}
use Rattle.compose_left.specs.declared.spots.Spot.{Spot}
use Rattle.compose_left.specs.Origins.{names}
use Rattle.compose_left.specs.Wired.{thing_cmp}
use Rattle.compose_left.proofs.MapLaws.{gone_in, thing_ties, map_same}
use Rattle.compose_left.proofs.places.brought.Goals as goal

step : (all rest : List Spot) (x : Spot) (old new : BTreeMap Thing Spot) (t : Thing) → all ≡ rest ++ x ∷ [] → Updates thing_cmp old new x.what (Some x)
    → option_or (find (names t) rest) (get thing_cmp new t) ≡ option_or (find (names t) all) (get thing_cmp old t)
step all rest x old new t is u =
    ap (λ (o : Option Spot). option_or o (get thing_cmp new t)) (sym (map_same (find (names t) rest)))
    ∙ gone_in thing_cmp (λ (x : Spot). x) (names t) t all rest x x.what old new is (thing_ties x.what t) (u.0 t)
    ∙ ap (λ (o : Option Spot). option_or o (get thing_cmp old t)) (map_same (find (names t) all))

pub loop-spot-preserved-in_ok-insert : goal.loop-spot-preserved-in_ok-insert
loop-spot-preserved-in_ok-insert c = λ t. step c.loop-spot.spots.items c.pop.new.self.items c.in-Some.spot c.loop-spot.found c.insert.new.self t c.in-Some.ensures.items c.in_ok-insert.ensures.updates ∙ c.loop-spot.invariant t

pub loop-spot-preserved : goal.loop-spot-preserved
loop-spot-preserved c = λ t. step c.loop-spot.spots.items c.pop.new.self.items c.in-Some.spot c.loop-spot.found c.insert.new.self t c.in-Some.ensures.items c.in_ok-insert.ensures.updates ∙ c.loop-spot.invariant t
