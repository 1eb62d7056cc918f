-- Instances that have names stay, and more are added behind them.
use Rattle.std.proofs.Common.{◌≡◌, ◌≤◌, ℕ, suc, zero, Bool, true, false, cond, List, [], ◌∷◌, length, Option, Some, None, is_some, MatchOption, refl, ap, ◌∙◌, bytes_eq, arith, length-append}
use Rattle.std.specs.Map.{lookup}
use Rattle.compose_config.specs.Plan.{Argument}
use Rattle.compose_graph.specs.Graph.{GraphTree}
use Rattle.compose_files.specs.Built.{AfterSteps, Built, IsInstanceFor, IsMade, IsNew, IsOffered, IsServed, IsServedBy, Need, Serves, Sources, is_unnamed, taken, with_graph, with_made}
use Rattle.compose_files.specs.Composed.{HasTurn, ServesAt}
use Rattle.compose_files.specs.declared.offer.Offer.{Offer}

abbrev pub count : Built → ℕ
count b = length b.named

stays : (old new : Built) → new ≡ old → count old ≤ count new
stays old new e = let same = ap count e in omega arith

offered_grows : (need : Need) (o : Offer) (old new : Built) → IsOffered need o old new → count old ≤ count new
offered_grows need o old new h = let same = ap count h.connected ∙ by (is_some (old.made o.component)) in omega arith
  where
    by : (t : Bool) → count (cond t old (with_made old o.component)) ≡ count old
    by true = refl
    by false = refl

made_grows : (old : Built) (graph : GraphTree) (name : List ℕ) (component number : Option ℕ) (new : Built) → IsMade (with_graph old graph) name component number new → count old ≤ count new
made_grows old graph name None number new h = let same = ap count h.1 in omega arith
made_grows old graph name (Some component) number new h =
    let more = ap count h.1 ∙ length-append old.named ((name, graph.next_instance) ∷ []) in omega arith

instance_grows : (s : Sources) (name : List ℕ) (old : Built) (number : Option ℕ) (new : Built) → IsInstanceFor s name old number new → count old ≤ count new
instance_grows s name old number new h = by (lookup (λ k. bytes_eq name k) old.named) h
  where
    by : (found : Option ℕ) → MatchOption found (IsNew s name old number new) (λ (id : ℕ). (number ≡ Some id) × (new ≡ old)) → count old ≤ count new
    by None h = made_grows old h.graph name h.component number new h.made
    by (Some id) h = stays old new h.1

served_by_grows : (s : Sources) (need : Need) (a : Argument) (is_new : Bool) (source : Option ℕ) (old new : Built) → IsServedBy s need a is_new source old new → count old ≤ count new
served_by_grows s need a is_new None old new h = stays old new h.unchanged
served_by_grows s need a is_new (Some source) old new h = let same = ap count h.given.connected in omega arith

served_grows : (s : Sources) (need : Need) (a : Argument) (old new : Built) → IsServed s need a old new → count old ≤ count new
served_grows s need a old new h =
    let found = instance_grows s a.instance old h.source h.with_source h.found in
    let served = served_by_grows s need a (is_unnamed old a.instance) h.source h.with_source new h.served in
    omega arith

pub serves_grows : (s : Sources) (need : Need) (old new : Built) → Serves s need old new → count old ≤ count new
serves_grows s need old new h = by (old.offers need.name) h
  where
    by : (o : Option Offer) → MatchOption o (IsServed s need (taken s.settings need) old new) (λ o. IsOffered need o old new) → count old ≤ count new
    by None h = served_grows s need (taken s.settings need) old new h
    by (Some o) h = offered_grows need o old new h

steps_grow : (Step : ℕ → Built → Built → Type 0) → ((n : ℕ) (old new : Built) → Step n old new → count old ≤ count new) → (n : ℕ) (start end : Built) → AfterSteps Step start n end → count start ≤ count end
steps_grow Step each zero start end h = stays start end h
steps_grow Step each (suc n) start end h =
    let before = steps_grow Step each n start h.0 h.1 in
    let last = each n h.0 end h.2 in
    omega arith

pub turn_grows : (s : Sources) (place : ℕ) (old new : Built) → HasTurn s place old new → count old ≤ count new
turn_grows s place old new h = steps_grow (ServesAt s h.name h.id _) (λ n a b served. serves_grows s _ a b served.serves) (length h.component.shape.imports) old new h.served
