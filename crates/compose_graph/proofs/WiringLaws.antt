-- What is connected fits as a wire.
use Rattle.std.proofs.Common.{◌≡◌, ◌∙◌, ap, sym, refl, ℕ, suc, Bool, true, false, true≢false, cond, List, [], ◌∷◌, map, Option, Some, None}
use Rattle.std.specs.Prelude.{◌==◌, ◌&&◌, find, option_and_then, slice_get}
use Rattle.std.specs.Option.{option_map_or}
use Rattle.std.specs.List.{AllByRecursion}
use Rattle.std.proofs.lemmas.Option.{same_Some}
use Rattle.comp_entity.specs.Entity.{EntityTree, IsType, IsFunc, IsInstance, IsComponent, IsModule, IsOwnModule, Entries, no_entry, entry, ShapeTree}
use Rattle.comp_entity.specs.Fits.{all_fit, fits_loosely, under}
use Rattle.compose_left.specs.Wiring.{is_into, no_shape}
use Rattle.compose_left.specs.declared.wiring.Wire.{Wire}
use Rattle.compose_fit.specs.Fit.{AllFitted, EachFits, WireFits, loosely}
use Rattle.compose_fit.specs.Wires.{Given, Whole, Export, given_of}
use Rattle.compose_graph.specs.Graph.{ComponentEntry, InstanceEntry, GraphTree, NotCompatible, component_of, fault_between, fault_of_import, fault_of_offer, given_entity, instance_at}
use Rattle.compose_graph.specs.Kept.{IsGraph, IsJoined}
use Rattle.compose_graph.specs.Wiring.{place_of, shape_of_instance, wire_of, wiring}
use Rattle.compose_graph.specs.declared.connection.Connection.{Connection}
use Rattle.compose_graph.proofs.GraphLaws.{made_parts}
use Rattle.compose_graph.proofs.ListLaws.{same_number}
use Rattle.compose_graph.proofs.NameLaws.{passes}

-- ---- fit of what is given

both_true : (a b : Bool) → (a && b) ≡ true → (a ≡ true) × (b ≡ true)
both_true true b e = (refl, e)
both_true false b e = absurd (true≢false (sym e))

all_fitted : (es asked : Entries) (s t : ℕ) → all_fit (λ r q. true) es asked ≡ true → AllFitted loosely s es t asked
all_fitted es no_entry s t e = tt
all_fitted es (entry name a mark rest) s t e =
    let parts = both_true (option_map_or (λ (x : EntityTree × Bool). fits_loosely x.0 a) (under name es) false) (all_fit (λ r q. true) es rest) e in
    (parts.0, all_fitted es rest s t parts.1)

wire_fits : (g : Given) (e : EntityTree) (s t : ℕ) → fits_loosely (given_entity g) e ≡ true → WireFits loosely s g t e
wire_fits (Whole es) (IsInstance asked) s t fits = all_fitted es asked s t fits
wire_fits (Whole es) (IsType x) s t fits = absurd (true≢false (sym fits))
wire_fits (Whole es) (IsFunc x) s t fits = absurd (true≢false (sym fits))
wire_fits (Whole es) (IsComponent x y) s t fits = absurd (true≢false (sym fits))
wire_fits (Whole es) (IsModule x) s t fits = absurd (true≢false (sym fits))
wire_fits (Whole es) IsOwnModule s t fits = absurd (true≢false (sym fits))
wire_fits (Export name x) e s t fits = fits

-- ---- what a connection joins

pub record Parts (g : GraphTree) (c : Connection) : Type 0 where
  pub source : ComponentEntry
  pub target : ComponentEntry
  pub given : Given
  pub asked : List ℕ × EntityTree
  pub from : component_of g c.source ≡ Some source
  pub into : component_of g c.target ≡ Some target
  pub gives : given_of source.shape c.export ≡ Some given
  pub asks : slice_get target.shape.imports c.import ≡ Some asked
  pub fits : fits_loosely (given_entity given) asked.1 ≡ true

module _ (g : GraphTree) (c : Connection) where
  pub parts : IsJoined g c → Parts g c
  parts joined = ends (component_of g c.source) (component_of g c.target) refl refl joined
    where
      fit : (x y : ComponentEntry) (given : Given) (asked : List ℕ × EntityTree) (b : Bool) → component_of g c.source ≡ Some x → component_of g c.target ≡ Some y → slice_get y.shape.imports c.import ≡ Some asked → given_of x.shape c.export ≡ Some given
          → fits_loosely (given_entity given) asked.1 ≡ b → cond b None (Some NotCompatible) ≡ None → Parts g c
      fit x y given asked true e f a o h k = record { source = x; target = y; given = given; asked = asked; from = e; into = f; gives = o; asks = a; fits = h }
      fit x y given asked false e f a o h k = absurd cc

      offer : (x y : ComponentEntry) (asked : List ℕ × EntityTree) (o : Option Given) → component_of g c.source ≡ Some x → component_of g c.target ≡ Some y → slice_get y.shape.imports c.import ≡ Some asked → given_of x.shape c.export ≡ o
          → fault_of_offer asked.1 o ≡ None → Parts g c
      offer x y asked None e f a h k = absurd cc
      offer x y asked (Some given) e f a h k = fit x y given asked (fits_loosely (given_entity given) asked.1) e f a h refl k

      asks_for : (x y : ComponentEntry) (o : Option (List ℕ × EntityTree)) → component_of g c.source ≡ Some x → component_of g c.target ≡ Some y → slice_get y.shape.imports c.import ≡ o
          → fault_of_import false x.shape c o ≡ None → Parts g c
      asks_for x y None e f h k = absurd cc
      asks_for x y (Some asked) e f h k = offer x y asked (given_of x.shape c.export) e f h refl k

      ends : (s t : Option ComponentEntry) → component_of g c.source ≡ s → component_of g c.target ≡ t → fault_between false c s t ≡ None → Parts g c
      ends None t e f k = absurd cc
      ends (Some x) None e f k = absurd cc
      ends (Some x) (Some y) e f k = asks_for x y (slice_get y.shape.imports c.import) e f refl k

-- ---- instances by their places

module _ {X : Type 0} (f : InstanceEntry → X) where
  -- an instance stands at its place, whatever is shown of instances
  pub place_there : (is : List InstanceEntry) (id : ℕ) (m : InstanceEntry) → instance_at is id ≡ Some m → slice_get (map f is) (place_of is id) ≡ Some (f m)
  place_there [] id m e = absurd cc
  place_there (j ∷ is) id m e = one (id == j.id) refl e (place_there is id m)
    where
      one : (b : Bool) → (id == j.id) ≡ b → cond b (Some j) (instance_at is id) ≡ Some m → (instance_at is id ≡ Some m → slice_get (map f is) (place_of is id) ≡ Some (f m))
          → slice_get (map f (j ∷ is)) (place_of (j ∷ is) id) ≡ Some (f m)
      one true h e rest = (λ i. slice_get (map f (j ∷ is)) (cond (h i) 0 (suc (place_of is id)))) ∙ ap (λ (k : InstanceEntry). Some (f k)) (same_Some j m e)
      one false h e rest = (λ i. slice_get (map f (j ∷ is)) (cond (h i) 0 (suc (place_of is id)))) ∙ rest e

shape_there : (g : GraphTree) (id : ℕ) (x : ComponentEntry) → component_of g id ≡ Some x → slice_get (map (shape_of_instance g.components) g.instances) (place_of g.instances id) ≡ Some x.shape
shape_there g id x e =
    let m = made_parts g.components g.instances id x e in
    place_there (shape_of_instance g.components) g.instances id m.made m.there
    ∙ ap (λ (o : Option ComponentEntry). Some (option_map_or (λ (c : ComponentEntry). c.shape) o no_shape)) m.from

-- the connection of a wire that is found
found_of : (P : Connection → Type 0) (is : List InstanceEntry) (cs : List Connection) (w : Wire) (t i : ℕ) → AllByRecursion P cs → find (is_into t i) (map (wire_of is) cs) ≡ Some w → (c : Connection) × (wire_of is c ≡ w) × P c
found_of P is [] w t i all e = absurd cc
found_of P is (c ∷ cs) w t i all e = one (is_into t i (wire_of is c)) e (found_of P is cs w t i all.1)
  where
    one : (b : Bool) → cond b (Some (wire_of is c)) (find (is_into t i) (map (wire_of is) cs)) ≡ Some w → (find (is_into t i) (map (wire_of is) cs) ≡ Some w → (c : Connection) × (wire_of is c ≡ w) × P c) → (c : Connection) × (wire_of is c ≡ w) × P c
    one true e rest = (c, same_Some (wire_of is c) w e, all.0)
    one false e rest = rest e

pub each_fits : (g : GraphTree) → IsGraph g → EachFits loosely (wiring g)
each_fits g k target place j =
    let shapes = map (shape_of_instance g.components) g.instances in
    let found = found_of (IsJoined g) g.instances g.connections j.wire target place k.joined j.wired in
    let c = found.0 in
    let p = parts g c found.2 in
    let here = both_true (j.wire.target == target) (j.wire.import == place) (passes (is_into target place) (map (wire_of g.instances) g.connections) j.wire j.wired) in
    let at : place_of g.instances c.target ≡ target = ap (λ (w : Wire). w.target) found.1 ∙ same_number j.wire.target target here.0 in
    let by : c.import ≡ place = ap (λ (w : Wire). w.import) found.1 ∙ same_number j.wire.import place here.1 in
    let asked : p.asked ≡ (j.name, j.asked) =
    same_Some p.asked (j.name, j.asked)
    (sym p.asks ∙ ap (λ (o : Option ShapeTree). option_and_then (λ (s : ShapeTree). slice_get s.imports c.import) o) (sym (shape_there g c.target p.target p.into))
    ∙ (λ i. option_and_then (λ (s : ShapeTree). slice_get s.imports (by i)) (slice_get shapes (at i))) ∙ j.asks) in
    let given : p.given ≡ j.given =
    same_Some p.given j.given
    (sym p.gives ∙ ap (λ (o : Option ShapeTree). option_and_then (λ (s : ShapeTree). given_of s c.export) o) (sym (shape_there g c.source p.source p.from))
    ∙ ap (λ (w : Wire). option_and_then (λ (s : ShapeTree). given_of s w.export) (slice_get shapes w.source)) found.1 ∙ j.gives) in
    wire_fits j.given j.asked j.wire.source target ((λ i. fits_loosely (given_entity (sym given i)) (sym asked i).1) ∙ p.fits)
