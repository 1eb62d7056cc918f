-- What a component gives to an import of its own, as between two instances of it in a graph of its own.
use Rattle.std.proofs.Common.{◌≡◌, ◌<◌, ℕ, suc, zero, Bool, true, false, cond, List, [], ◌∷◌, length, Option, Some, None, option_map, option_and_then, slice_get, refl, sym, ap, ◌∙◌, arith, subst}
use Rattle.comp_entity.specs.Entity.{EntityTree, ShapeTree}
use Rattle.compose_fit.specs.Wires.{Given, given_of}
use Rattle.compose_graph.specs.Graph.{ComponentEntry, ConnectFault, GraphTree, NotCompatible, component_of, connect_fault, fault_of_import, fault_of_offer, no_graph, with_component, with_instance}
use Rattle.compose_graph.specs.Refusal.{IsConnectRefusal}
use Rattle.compose_graph.specs.declared.error.GraphError.{GraphError}
use Rattle.compose_graph.specs.declared.error.GraphError.TheVariants as refusal
use Rattle.compose_files.specs.Built.{IsJudged, Need}
use Rattle.compose_files.specs.Choice.{fits_at, given_fits}
use Rattle.compose_files.proofs.FitLaws.{offer_judged}

some_is : {A : Type 0} (x y : A) → Some x ≡ Some y → x ≡ y
some_is x y e = cc

-- what has a shape is there
pub entry_there : (o : Option ComponentEntry) (s : ShapeTree) → option_map (λ (e : ComponentEntry). e.shape) o ≡ Some s → (e : ComponentEntry) × (o ≡ Some e) × (e.shape ≡ s)
entry_there None s h = absurd cc
entry_there (Some e) s h = (e, refl, some_is e.shape s h)

pub there_at : {A : Type 0} (xs : List A) (i : ℕ) → i < length xs → (x : A) × (slice_get xs i ≡ Some x)
there_at [] i less = absurd (omega arith)
there_at (x ∷ xs) zero less = (x, refl)
there_at (x ∷ xs) (suc i) less = there_at xs i (omega arith)

asked_there : (o : Option ComponentEntry) (place : ℕ) (e : ComponentEntry) (asked : List ℕ × EntityTree) → o ≡ Some e → slice_get e.shape.imports place ≡ Some asked
    → option_map (λ (i : List ℕ × EntityTree). i.1) (option_and_then (λ (c : ComponentEntry). slice_get c.shape.imports place) o) ≡ Some asked.1
asked_there o place e asked there at =
    ap (λ (p : Option ComponentEntry). option_map (λ (i : List ℕ × EntityTree). i.1) (option_and_then (λ (c : ComponentEntry). slice_get c.shape.imports place) p)) there ∙ ap (option_map (λ (i : List ℕ × EntityTree). i.1)) at

-- what an instance gives to an import of its own is judged between two instances of its component
pub own_judged : (g : GraphTree) (source : ℕ) (export : Option ℕ) (need : Need) (good : Bool) (s : ShapeTree) → source ≡ need.target → option_map (λ (e : ComponentEntry). e.shape) (component_of g source) ≡ Some s
    → need.place < length s.imports → ((asked : List ℕ × EntityTree) → slice_get s.imports need.place ≡ Some asked → fits_at s asked.1 export ≡ good) → IsJudged g source export need good
own_judged g source export need good s own made less judge =
    let here = entry_there (component_of g source) s made in
    let at = there_at s.imports need.place less in
    record {
      component = here.0;
      made_from = here.1;
      asked = at.0.1;
      asks = asked_there (component_of g need.target) need.place here.0 at.0 (ap (component_of g) (sym own) ∙ here.1) (ap (λ (t : ShapeTree). slice_get t.imports need.place) here.2 ∙ at.1);
      fits = ap (λ (t : ShapeTree). fits_at t at.0.1 export) here.2 ∙ judge at.0 at.1;
    }

-- ---- a graph of one component, with two instances

abbrev pub pair_graph : List ℕ → List ℕ → ShapeTree → GraphTree
pair_graph name bytes s = with_instance (with_instance (with_component no_graph name bytes s) 0) 0

abbrev pub own_fault : ShapeTree → Option ℕ → ℕ → Option ConnectFault
own_fault s export place = fault_of_import false s (record { source = 0; export = export; target = 1; import = place }) (slice_get s.imports place)

-- what such a graph says of a connection
pub pair_fault : (g0 g1 g2 g3 : GraphTree) (name bytes : List ℕ) (s : ShapeTree) (id source target : ℕ) (export : Option ℕ) (place : ℕ)
    → g0 ≡ no_graph → g1 ≡ with_component g0 name bytes s → id ≡ g0.next_component → g2 ≡ with_instance g1 id → source ≡ g1.next_instance → g3 ≡ with_instance g2 id → target ≡ g2.next_instance
    → connect_fault g3 (record { source = source; export = export; target = target; import = place }) ≡ own_fault s export place
pair_fault g0 g1 g2 g3 name bytes s id source target export place none one id_is two source_is three target_is =
    let with_one : g1 ≡ with_component no_graph name bytes s = one ∙ ap (λ (g : GraphTree). with_component g name bytes s) none in
    let id_zero : id ≡ 0 = id_is ∙ ap (λ (g : GraphTree). g.next_component) none in
    let with_two : g2 ≡ with_instance (with_component no_graph name bytes s) 0 = two ∙ (λ k. with_instance (with_one k) (id_zero k)) in
    let with_three : g3 ≡ pair_graph name bytes s = three ∙ (λ k. with_instance (with_two k) (id_zero k)) in
    let source_zero : source ≡ 0 = source_is ∙ ap (λ (g : GraphTree). g.next_instance) with_one in
    let target_one : target ≡ 1 = target_is ∙ ap (λ (g : GraphTree). g.next_instance) with_two in
    λ k. connect_fault (with_three k) (record { source = source_zero k; export = export; target = target_one k; import = place })

pub own_good : (s : ShapeTree) (export : Option ℕ) (place : ℕ) → own_fault s export place ≡ None → (asked : List ℕ × EntityTree) → slice_get s.imports place ≡ Some asked → fits_at s asked.1 export ≡ true
own_good s export place good asked at =
    offer_judged asked.1 (given_of s export) true (sym (ap (fault_of_import false s (record { source = 0; export = export; target = 1; import = place })) at) ∙ good)

offer_good : (asked : EntityTree) (given : Option Given) → given_fits asked given ≡ true → fault_of_offer asked given ≡ None
offer_good asked None h = absurd cc
offer_good asked (Some given) h = ap (λ b. cond b None (Some NotCompatible)) h

pub none_refused : (e : GraphError) → (e ≡ refusal.Memory → ⊥) → IsConnectRefusal None e → ⊥
none_refused refusal.SelfConnection not_memory h = cc
none_refused refusal.NoSource not_memory h = cc
none_refused refusal.NoTarget not_memory h = cc
none_refused refusal.BadImportIndex not_memory h = cc
none_refused refusal.AlreadyConnected not_memory h = cc
none_refused refusal.BadExportIndex not_memory h = cc
none_refused refusal.NotCompatible not_memory h = cc
none_refused refusal.Memory not_memory h = not_memory refl
none_refused _ not_memory h = h

pub own_bad : (s : ShapeTree) (export : Option ℕ) (place : ℕ) (e : GraphError) → (e ≡ refusal.Memory → ⊥) → IsConnectRefusal (own_fault s export place) e
    → (asked : List ℕ × EntityTree) → slice_get s.imports place ≡ Some asked → fits_at s asked.1 export ≡ false
own_bad s export place e not_memory h asked at = by (fits_at s asked.1 export) refl
  where
    by : (b : Bool) → fits_at s asked.1 export ≡ b → fits_at s asked.1 export ≡ false
    by false is = is
    by true is =
        let none : own_fault s export place ≡ None = ap (fault_of_import false s (record { source = 0; export = export; target = 1; import = place })) at ∙ offer_good asked.1 (given_of s export) is in
        absurd (none_refused e not_memory (subst (λ (f : Option ConnectFault). IsConnectRefusal f e) none h))
