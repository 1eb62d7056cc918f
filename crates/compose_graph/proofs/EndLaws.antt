-- The imports that connections go into are there, and so are the exports that they take.
use Rattle.std.proofs.Common.{◌≡◌, ◌∙◌, ap, sym, subst, refl, ℕ, suc, ◌<◌, Bool, true, false, cond, List, [], ◌∷◌, length, map, Option, Some, None}
use Rattle.std.specs.Prelude.{◌==◌, IfSome, option_map, slice_get, unwrap_or}
use Rattle.std.specs.Option.{option_map_or}
use Rattle.std.proofs.lemmas.Option.{same_Some, slice_get_within}
use Rattle.comp_entity.specs.Entity.{EntityTree, ShapeTree}
use Rattle.compose_fit.specs.Wires.{Given, Export, given_of}
use Rattle.compose_left.specs.Wiring.{no_shape, shape_at}
use Rattle.compose_check.specs.Composition.{ComponentTree, HasEnds, shape_numbered, wiring}
use Rattle.compose_graph.specs.Composed.{component_id, composed, composed_component, composed_instance}
use Rattle.compose_graph.specs.Graph.{ComponentEntry, InstanceEntry, GraphTree, component_at, component_of}
use Rattle.compose_graph.specs.Kept.{IsJoined}
use Rattle.compose_graph.specs.Wiring.{place_among, place_of, wire_of}
use Rattle.compose_graph.specs.declared.connection.Connection.{Connection}
use Rattle.compose_graph.proofs.GraphLaws.{made_parts}
use Rattle.compose_graph.proofs.PartLaws.{twice}
use Rattle.compose_graph.proofs.WiringLaws.{parts, place_there}

-- ---- components by their places

component_there : (cs : List ComponentEntry) (id : ℕ) (c : ComponentEntry) → component_at cs id ≡ Some c → slice_get (map composed_component cs) (place_among (map component_id cs) id) ≡ Some (composed_component c)
component_there [] id c e = absurd cc
component_there (k ∷ cs) id c e = one (id == k.id) refl e (component_there cs id c)
  where
    one : (b : Bool) → (id == k.id) ≡ b → cond b (Some k) (component_at cs id) ≡ Some c
        → (component_at cs id ≡ Some c → slice_get (map composed_component cs) (place_among (map component_id cs) id) ≡ Some (composed_component c))
        → slice_get (map composed_component (k ∷ cs)) (place_among (map component_id (k ∷ cs)) id) ≡ Some (composed_component c)
    one true h e rest = (λ i. slice_get (map composed_component (k ∷ cs)) (cond (h i) 0 (suc (place_among (map component_id cs) id)))) ∙ ap (λ x. Some (composed_component x)) (same_Some k c e)
    one false h e rest = (λ i. slice_get (map composed_component (k ∷ cs)) (cond (h i) 0 (suc (place_among (map component_id cs) id)))) ∙ rest e

module _ (g : GraphTree) where
  abbrev shapes : List ShapeTree
  shapes = (wiring (composed g)).shapes

  abbrev shape_made : InstanceEntry → ShapeTree
  shape_made m = shape_numbered (map composed_component g.components) (composed_instance g.components m)

  -- an instance has the shape of its component
  shape_there : (id : ℕ) (x : ComponentEntry) → component_of g id ≡ Some x → shape_at shapes (place_of g.instances id) ≡ x.shape
  shape_there id x e =
      let m = made_parts g.components g.instances id x e in
      let made = component_there g.components m.made.component x m.from in
      ap (λ ss. shape_at ss (place_of g.instances id)) (twice (shape_numbered (map composed_component g.components)) (composed_instance g.components) g.instances)
      ∙ ap (λ s. unwrap_or s no_shape) (place_there shape_made g.instances id m.made m.there)
      ∙ ap (λ (o : Option ComponentTree). option_map_or (λ (c : ComponentTree). c.shape) o no_shape) made

  given_within : (s : ShapeTree) (export : Option ℕ) (given : Given) → given_of s export ≡ Some given → IfSome export (λ n. n < length s.exports)
  given_within s None given e = tt
  given_within s (Some n) given e = one (slice_get s.exports n) refl e
    where
      one : (o : Option (List ℕ × EntityTree)) → slice_get s.exports n ≡ o → option_map (λ (x : List ℕ × EntityTree). Export x.0 x.1) o ≡ Some given → n < length s.exports
      one None h k = absurd cc
      one (Some x) h k = slice_get_within s.exports n x h

  pub has_ends : (c : Connection) → IsJoined g c → HasEnds (wiring (composed g)) (wire_of g.instances c)
  has_ends c joined =
      let p = parts g c joined in
      record {
        import = subst (λ (s : ShapeTree). c.import < length s.imports) (sym (shape_there c.target p.target p.into)) (slice_get_within p.target.shape.imports c.import p.asked p.asks);
        export = subst (λ (s : ShapeTree). IfSome c.export (λ n. n < length s.exports)) (sym (shape_there c.source p.source p.from)) (given_within p.source.shape c.export p.given p.gives);
      }
