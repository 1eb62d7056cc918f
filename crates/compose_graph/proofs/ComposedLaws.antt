-- A composition graph is a composition.
use Rattle.std.proofs.Common.{◌≡◌, ◌∙◌, sym, subst, refl, arith, ℕ, suc, ◌<◌, Bool, true, false, true≢false, cond, List, [], ◌∷◌, length, map, Option, Some, None}
use Rattle.std.specs.Prelude.{◌==◌, ◌&&◌, is_some, option_map}
use Rattle.std.specs.List.{AllByRecursion}
use Rattle.std.proofs.lemmas.List.{length-map}
use Rattle.std.proofs.lemmas.Option.{slice_get_within}
use Rattle.compose_left.specs.Wiring.{is_into as wire_is_into, wire_into}
use Rattle.compose_check.specs.Checked.{IsCircle}
use Rattle.compose_check.specs.Composition.{HasEnds, HaveOwnImports as WiresHaveOwnImports, IsBetween, IsComposition, wiring}
use Rattle.compose_graph.specs.Composed.{component_id, composed, composed_component, composed_instance}
use Rattle.compose_graph.specs.Wiring.{instance_id, place_among, place_of, wire_of}
use Rattle.compose_graph.specs.Graph.{ComponentEntry, InstanceEntry, GraphTree, component_at, component_of, connection_into, fault_between, instance_at, is_into}
use Rattle.compose_graph.specs.Kept.{HaveOwnImports, IsGraph, IsJoined}
use Rattle.compose_graph.specs.declared.connection.Connection.{Connection}
use Rattle.compose_graph.proofs.EndLaws.{has_ends}
use Rattle.compose_graph.proofs.GraphLaws.{made_parts, there_is}
use Rattle.compose_graph.proofs.ListLaws.{same_number}

-- ---- what is there has a place

component_below : (cs : List ComponentEntry) (id : ℕ) (c : ComponentEntry) → component_at cs id ≡ Some c → place_among (map component_id cs) id < length cs
component_below [] id c e = absurd cc
component_below (k ∷ cs) id c e = one (id == k.id) refl e (component_below cs id c)
  where
    at : Bool → Type 0
    at b = cond b 0 (suc (place_among (map component_id cs) id)) < suc (length cs)

    one : (b : Bool) → (id == k.id) ≡ b → cond b (Some k) (component_at cs id) ≡ Some c → (component_at cs id ≡ Some c → place_among (map component_id cs) id < length cs) → at (id == k.id)
    one true h e rest = let first : at true = omega arith in subst at (sym h) first
    one false h e rest = let lt = rest e in let later : at false = omega (arith, lt) in subst at (sym h) later

instance_below : (is : List InstanceEntry) (id : ℕ) (m : InstanceEntry) → instance_at is id ≡ Some m → place_of is id < length is
instance_below [] id m e = absurd cc
instance_below (j ∷ is) id m e = one (id == j.id) refl e (instance_below is id m)
  where
    at : Bool → Type 0
    at b = cond b 0 (suc (place_of is id)) < suc (length is)

    one : (b : Bool) → (id == j.id) ≡ b → cond b (Some j) (instance_at is id) ≡ Some m → (instance_at is id ≡ Some m → place_of is id < length is) → at (id == j.id)
    one true h e rest = let first : at true = omega arith in subst at (sym h) first
    one false h e rest = let lt = rest e in let later : at false = omega (arith, lt) in subst at (sym h) later

-- an instance that is there has its place among them
pub instance_within : (is : List InstanceEntry) (id : ℕ) → is_some (option_map (λ (i : InstanceEntry). i.component) (instance_at is id)) ≡ true → place_of is id < length is
instance_within is id there = by (instance_at is id) refl there
  where
    by : (o : Option InstanceEntry) → instance_at is id ≡ o → is_some (option_map (λ (i : InstanceEntry). i.component) o) ≡ true → place_of is id < length is
    by None e h = absurd (true≢false (sym h))
    by (Some m) e h = instance_below is id m e

-- no two numbers that are there have one place
one_place : (is : List InstanceEntry) (a b : ℕ) (m : InstanceEntry) → instance_at is a ≡ Some m → place_of is a ≡ place_of is b → a ≡ b
one_place [] a b m e same = absurd cc
one_place (j ∷ is) a b m e same = one (a == j.id) (b == j.id) refl refl e same (one_place is a b m)
  where
    one : (x y : Bool) → (a == j.id) ≡ x → (b == j.id) ≡ y → cond x (Some j) (instance_at is a) ≡ Some m → cond (a == j.id) 0 (suc (place_of is a)) ≡ cond (b == j.id) 0 (suc (place_of is b)) → (instance_at is a ≡ Some m → place_of is a ≡ place_of is b → a ≡ b) → a ≡ b
    one true true h k e same rest = same_number a j.id h ∙ sym (same_number b j.id k)
    one true false h k e same rest =
        let places : 0 ≡ suc (place_of is b) = (λ i. cond (sym h i) 0 (suc (place_of is a))) ∙ same ∙ (λ i. cond (k i) 0 (suc (place_of is b))) in
        absurd (omega (arith, places))
    one false true h k e same rest =
        let places : suc (place_of is a) ≡ 0 = (λ i. cond (sym h i) 0 (suc (place_of is a))) ∙ same ∙ (λ i. cond (k i) 0 (suc (place_of is b))) in
        absurd (omega (arith, places))
    one false false h k e same rest =
        let places : suc (place_of is a) ≡ suc (place_of is b) = (λ i. cond (sym h i) 0 (suc (place_of is a))) ∙ same ∙ (λ i. cond (k i) 0 (suc (place_of is b))) in
        rest e (omega (arith, places))

-- ---- wires

record Ends (g : GraphTree) (c : Connection) : Type 0 where
  source : InstanceEntry
  target : InstanceEntry
  from : instance_at g.instances c.source ≡ Some source
  into : instance_at g.instances c.target ≡ Some target

ends : (g : GraphTree) (c : Connection) → IsJoined g c → Ends g c
ends g c joined = one (component_of g c.source) (component_of g c.target) refl refl joined
  where
    one : (s t : Option ComponentEntry) → component_of g c.source ≡ s → component_of g c.target ≡ t → fault_between false c s t ≡ None → Ends g c
    one None t e f k = absurd cc
    one (Some x) None e f k = absurd cc
    one (Some x) (Some y) e f k =
        let s = made_parts g.components g.instances c.source x e in
        let t = made_parts g.components g.instances c.target y f in
        record { source = s.made; target = t.made; from = s.there; into = t.there }

between : (g : GraphTree) (c : Connection) → IsJoined g c → IsBetween (length (map (composed_instance g.components) g.instances)) (wire_of g.instances c)
between g c joined =
    let e = ends g c joined in
    let count = length-map g.instances (composed_instance g.components) in
    record {
      source = subst (λ n. place_of g.instances c.source < n) (sym count) (instance_below g.instances c.source e.source e.from);
      target = subst (λ n. place_of g.instances c.target < n) (sym count) (instance_below g.instances c.target e.target e.into);
    }

both_true : (a b : Bool) → (a && b) ≡ true → (a ≡ true) × (b ≡ true)
both_true true b e = (refl, e)
both_true false b e = absurd (true≢false (sym e))

module _ (is : List InstanceEntry) (c : Connection) (m : InstanceEntry) (there : instance_at is c.target ≡ Some m) where
  -- a wire into the import is that of a connection into it
  into_it : (d : Connection) → wire_is_into (place_of is c.target) c.import (wire_of is d) ≡ true → is_into c.target c.import d ≡ true
  into_it d e =
      let parts = both_true (place_of is d.target == place_of is c.target) (d.import == c.import) e in
      let target : c.target ≡ d.target = one_place is c.target d.target m there (sym (same_number (place_of is d.target) (place_of is c.target) parts.0)) in
      let import : d.import ≡ c.import = same_number d.import c.import parts.1 in
      (λ i. (sym target i == c.target) && (import i == c.import)) ∙ itself c.target c.import
    where
      itself : (a b : ℕ) → ((a == a) && (b == b)) ≡ true
      itself a b = grind arith

  none_into : (cs : List Connection) → connection_into cs c.target c.import ≡ None → wire_into (map (wire_of is) cs) (place_of is c.target) c.import ≡ None
  none_into [] e = refl
  none_into (d ∷ cs) e = one (is_into c.target c.import d) (wire_is_into (place_of is c.target) c.import (wire_of is d)) refl refl e (none_into cs)
    where
      one : (a b : Bool) → is_into c.target c.import d ≡ a → wire_is_into (place_of is c.target) c.import (wire_of is d) ≡ b → cond a (Some d) (connection_into cs c.target c.import) ≡ None
          → (connection_into cs c.target c.import ≡ None → wire_into (map (wire_of is) cs) (place_of is c.target) c.import ≡ None)
          → cond b (Some (wire_of is d)) (wire_into (map (wire_of is) cs) (place_of is c.target) c.import) ≡ None
      one true b h k e rest = absurd cc
      one false true h k e rest = absurd (true≢false (sym (into_it d k) ∙ h))
      one false false h k e rest = rest e

own_imports : (g : GraphTree) (cs : List Connection) → AllByRecursion (IsJoined g) cs → HaveOwnImports cs → WiresHaveOwnImports (map (wire_of g.instances) cs)
own_imports g [] all own = tt
own_imports g (c ∷ cs) all own =
    let e = ends g c all.0 in
    (none_into g.instances c e.target e.into cs own.0, own_imports g cs all.1 own.1)

-- ---- the composition

all_mapped : {X Y : Type 0} (P : X → Type 0) (Q : Y → Type 0) (f : X → Y) → ((x : X) → P x → Q (f x)) → (xs : List X) → AllByRecursion P xs → AllByRecursion Q (map f xs)
all_mapped P Q f step [] all = tt
all_mapped P Q f step (x ∷ xs) all = (step x all.0, all_mapped P Q f step xs all.1)

pub is_composition : (g : GraphTree) → IsGraph g → IsComposition (composed g)
is_composition g k = record {
  made = all_mapped (λ (i : InstanceEntry). is_some (component_at g.components i.component) ≡ true) (λ n. n < length (map composed_component g.components)) (composed_instance g.components)
      (λ i there. let c = there_is (component_at g.components i.component) there in subst (λ n. composed_instance g.components i < n) (sym (length-map g.components composed_component)) (component_below g.components i.component c.0 c.1))
      g.instances k.made;
  joined = all_mapped (IsJoined g) (IsBetween (length (map (composed_instance g.components) g.instances))) (wire_of g.instances) (between g) g.connections k.joined;
  ends = all_mapped (IsJoined g) (HasEnds (wiring (composed g))) (wire_of g.instances) (has_ends g) g.connections k.joined;
  apart = own_imports g g.connections k.joined k.apart;
}

-- an instance on a circle is there
pub on_circle : (g : GraphTree) (place : ℕ) (name : List ℕ) → IsCircle (composed g) place name → place < length (map instance_id g.instances)
on_circle g place name circle =
    subst (λ n. place < n) (length-map g.instances (composed_instance g.components) ∙ sym (length-map g.instances instance_id))
    (slice_get_within (map (composed_instance g.components) g.instances) place circle.component.number circle.component.made)
