-- Steps of a composition keep the components of a graph and what definitions have, and give numbers in order.
use Rattle.std.proofs.Common.{◌≡◌, ℕ, suc, zero, Bool, true, false, cond, List, [], ◌∷◌, ◌++◌, length, eqb, Option, Some, None, is_some, MatchOption, refl, sym, ap, ◌∙◌, subst, bytes_eq, arith}
use Rattle.std.specs.Map.{lookup}
use Rattle.std.proofs.lemmas.Bool.{eq-eqb}
use Rattle.std.proofs.lemmas.Option.{same_Some}
use Rattle.warg_base.specs.Files.{FileMap}
use Rattle.comp_entity.specs.Entity.{ShapeTree}
use Rattle.compose_config.specs.Plan.{Argument, dependency_name}
use Rattle.compose_graph.specs.Graph.{ComponentEntry, GraphTree, component_at, component_named, with_component, with_connection, with_instance}
use Rattle.compose_graph.specs.declared.connection.Connection.{Connection}
use Rattle.compose_files.specs.Built.{AfterSteps, Built, IsAdded, IsComponentFor, IsConnected, IsInstanceFor, IsMade, IsNew, IsOffered, IsRead, IsServed, IsServedBy, Need, Serves, Sources, connection, file_for, import_names, instance_of, is_unnamed, taken, with_graph, with_instance_of, with_made, with_named}
use Rattle.compose_files.specs.Composed.{HasTurn, ServesAt}
use Rattle.compose_files.specs.Refused.{HasNumbers}
use Rattle.compose_files.specs.declared.offer.Offer.{Offer}
use Rattle.compose_files.proofs.Apart.{none_some}

-- a component of this number is in a graph
abbrev pub IsThere : GraphTree → ℕ → Type 0
IsThere g id = is_some (component_at g.components id) ≡ true

-- what is in a graph stays in it, and no number is given back
pub record Extends (old new : GraphTree) : Type 0 where
  pub stay : (id : ℕ) → IsThere old id → IsThere new id
  pub numbers : HasNumbers new → HasNumbers old

pub same_graph : (g : GraphTree) → Extends g g
same_graph g = record { stay = λ id h. h; numbers = λ h. h }

pub extends_both : (a b c : GraphTree) → Extends a b → Extends b c → Extends a c
extends_both a b c p q = record { stay = λ id h. q.stay id (p.stay id h); numbers = λ h. p.numbers (q.numbers h) }

-- ---- components of a graph

component_behind : (cs : List ComponentEntry) (x : ComponentEntry) (id : ℕ) → is_some (component_at cs id) ≡ true → is_some (component_at (cs ++ x ∷ []) id) ≡ true
component_behind [] x id h = absurd cc
component_behind (c ∷ cs) x id h = by (eqb id c.id) h (component_behind cs x id)
  where
    by : (b : Bool) → is_some (cond b (Some c) (component_at cs id)) ≡ true → (is_some (component_at cs id) ≡ true → is_some (component_at (cs ++ x ∷ []) id) ≡ true)
        → is_some (cond b (Some c) (component_at (cs ++ x ∷ []) id)) ≡ true
    by true h later = refl
    by false h later = later h

component_last : (cs : List ComponentEntry) (x : ComponentEntry) → is_some (component_at (cs ++ x ∷ []) x.id) ≡ true
component_last [] x = ap (λ b. is_some (cond b (Some x) None)) (eq-eqb x.id x.id refl)
component_last (c ∷ cs) x = by (eqb x.id c.id) (component_last cs x)
  where
    by : (b : Bool) → is_some (component_at (cs ++ x ∷ []) x.id) ≡ true → is_some (cond b (Some c) (component_at (cs ++ x ∷ []) x.id)) ≡ true
    by true later = refl
    by false later = later

-- a component that has a name is there under its number
component_called : (cs : List ComponentEntry) (name : List ℕ) (c : ComponentEntry) → component_named cs name ≡ Some c → is_some (component_at cs c.id) ≡ true
component_called [] name c h = absurd cc
component_called (x ∷ cs) name c h = by (bytes_eq name x.name) h (component_called cs name c)
  where
    keep : (b : Bool) → is_some (component_at cs c.id) ≡ true → is_some (cond b (Some x) (component_at cs c.id)) ≡ true
    keep true later = refl
    keep false later = later

    by : (b : Bool) → cond b (Some x) (component_named cs name) ≡ Some c → (component_named cs name ≡ Some c → is_some (component_at cs c.id) ≡ true) → is_some (cond (eqb c.id x.id) (Some x) (component_at cs c.id)) ≡ true
    by true h later = ap (λ b. is_some (cond b (Some x) (component_at cs c.id))) (eq-eqb c.id x.id (ap (λ (y : ComponentEntry). y.id) (sym (same_Some x c h))))
    by false h later = keep (eqb c.id x.id) (later h)

-- the component that is added has the next number
pub added_there : (g : GraphTree) (name bytes : List ℕ) (shape : ShapeTree) → IsThere (with_component g name bytes shape) g.next_component
added_there g name bytes shape = component_last g.components (record { id = g.next_component; name = name; bytes = bytes; shape = shape })

component_extends : (g : GraphTree) (name bytes : List ℕ) (shape : ShapeTree) → Extends g (with_component g name bytes shape)
component_extends g name bytes shape = record {
  stay = λ id h. component_behind g.components (record { id = g.next_component; name = name; bytes = bytes; shape = shape }) id h;
  numbers = λ h. record { components = omega (arith, h.components); instances = h.instances };
}

instance_extends : (g : GraphTree) (component : ℕ) → Extends g (with_instance g component)
instance_extends g component = record {
  stay = λ id h. h;
  numbers = λ h. record { components = h.components; instances = omega (arith, h.instances) };
}

connection_extends : (g : GraphTree) (c : Connection) → Extends g (with_connection g c)
connection_extends g c = record { stay = λ id h. h; numbers = λ h. record { components = h.components; instances = h.instances } }

pub added_extends : (files : FileMap) (path name : List ℕ) (shape : ShapeTree) (old new : GraphTree) → IsAdded files path name shape old new → Extends old new
added_extends files path name shape old new h = subst (Extends old) (sym h.added) (component_extends old name h.bytes shape)

pub component_for_extends : (s : Sources) (name : List ℕ) (old : GraphTree) (number : Option ℕ) (new : GraphTree) → IsComponentFor s name old number new → Extends old new
component_for_extends s name old number new h = by (component_named old.components name) h
  where
    read : (file : Option (List ℕ)) → IsRead s name old file number new → Extends old new
    read None h = subst (Extends old) (sym h.1) (same_graph old)
    read (Some path) h = added_extends s.files path name h.1.0 old new h.1.1

    by : (found : Option ComponentEntry) → MatchOption found (IsRead s name old (file_for s name) number new) (λ (c : ComponentEntry). (number ≡ Some c.id) × (new ≡ old)) → Extends old new
    by None h = read (file_for s name) h
    by (Some c) h = subst (Extends old) (sym h.1) (same_graph old)

-- the component that is found for a name is in the graph
pub component_for_there : (s : Sources) (name : List ℕ) (old : GraphTree) (component : ℕ) (new : GraphTree) → IsComponentFor s name old (Some component) new → IsThere new component
component_for_there s name old component new h = by (component_named old.components name) refl h
  where
    read : (file : Option (List ℕ)) → IsRead s name old file (Some component) new → IsThere new component
    read None h = absurd (none_some component h.0)
    read (Some path) h =
        let added = h.1.1 in
        subst (λ (g : GraphTree). IsThere g component) (sym added.added)
        (subst (IsThere (with_component old name added.bytes h.1.0)) (sym (same_Some component old.next_component h.0)) (added_there old name added.bytes h.1.0))

    by : (found : Option ComponentEntry) → component_named old.components name ≡ found
        → MatchOption found (IsRead s name old (file_for s name) (Some component) new) (λ (c : ComponentEntry). (Some component ≡ Some c.id) × (new ≡ old)) → IsThere new component
    by None is h = read (file_for s name) h
    by (Some c) is h = subst (λ (g : GraphTree). IsThere g component) (sym h.1) (subst (IsThere old) (sym (same_Some component c.id h.0)) (component_called old.components name c is))

-- ---- what is built

-- a graph is extended, and what definitions have stays
pub record Follows (old new : Built) : Type 0 where
  pub extends : Extends old.graph new.graph
  pub offers : (name : List ℕ) → new.offers name ≡ old.offers name

same_built : (b : Built) → Follows b b
same_built b = record { extends = same_graph b.graph; offers = λ name. refl }

follows_both : (a b c : Built) → Follows a b → Follows b c → Follows a c
follows_both a b c p q = record { extends = extends_both a.graph b.graph c.graph p.extends q.extends; offers = λ name. q.offers name ∙ p.offers name }

graph_follows : (b : Built) (g : GraphTree) → Extends b.graph g → Follows b (with_graph b g)
graph_follows b g h = record { extends = h; offers = λ name. refl }

pub named_follows : (b : Built) (name : List ℕ) (component : ℕ) → Follows b (with_named b name component)
named_follows b name component = record { extends = instance_extends b.graph component; offers = λ name. refl }

pub connected_follows : (source : ℕ) (export : Option ℕ) (need : Need) (old new : Built) → IsConnected source export need old new → Follows old new
connected_follows source export need old new h =
    subst (Follows old) (sym h.connected) (graph_follows old _ (connection_extends old.graph (connection source export need)))

pub made_follows : (b : Built) (name : List ℕ) (component number : Option ℕ) (new : Built) → IsMade b name component number new → Follows b new
made_follows b name None number new h = subst (Follows b) (sym h.1) (same_built b)
made_follows b name (Some component) number new h = subst (Follows b) (sym h.1) (named_follows b name component)

module _ (s : Sources) where
  instance_follows : (name : List ℕ) (old : Built) (number : Option ℕ) (new : Built) → IsInstanceFor s name old number new → Follows old new
  instance_follows name old number new h = by (lookup (λ k. bytes_eq name k) old.named) h
    where
      by : (found : Option ℕ) → MatchOption found (IsNew s name old number new) (λ (id : ℕ). (number ≡ Some id) × (new ≡ old)) → Follows old new
      by None h =
          follows_both old (with_graph old h.graph) new (graph_follows old h.graph (component_for_extends s (dependency_name s.settings name) old.graph h.component h.graph h.found))
          (made_follows (with_graph old h.graph) name h.component number new h.made)
      by (Some id) h = subst (Follows old) (sym h.1) (same_built old)

  pub served_by_follows : (need : Need) (a : Argument) (is_new : Bool) (source : Option ℕ) (old new : Built) → IsServedBy s need a is_new source old new → Follows old new
  served_by_follows need a is_new None old new h = subst (Follows old) (sym h.unchanged) (same_built old)
  served_by_follows need a is_new (Some source) old new h = connected_follows source h.export need old new h.given

  served_follows : (need : Need) (a : Argument) (old new : Built) → IsServed s need a old new → Follows old new
  served_follows need a old new h =
      follows_both old h.with_source new (instance_follows a.instance old h.source h.with_source h.found)
      (served_by_follows need a (is_unnamed old a.instance) h.source h.with_source new h.served)

  offered_follows : (need : Need) (o : Offer) (old new : Built) → IsOffered need o old new → Follows old new
  offered_follows need o old new h =
      follows_both old (with_instance_of old o.component) new (by (is_some (old.made o.component)))
      (connected_follows (instance_of old o.component) (Some o.export) need (with_instance_of old o.component) new h)
    where
      by : (t : Bool) → Follows old (cond t old (with_made old o.component))
      by true = same_built old
      by false = record { extends = instance_extends old.graph o.component; offers = λ name. refl }

  serves_follows : (need : Need) (old new : Built) → Serves s need old new → Follows old new
  serves_follows need old new h = by (old.offers need.name) h
    where
      by : (o : Option Offer) → MatchOption o (IsServed s need (taken s.settings need) old new) (λ o. IsOffered need o old new) → Follows old new
      by None h = served_follows need (taken s.settings need) old new h
      by (Some o) h = offered_follows need o old new h

  steps_follow : (Step : ℕ → Built → Built → Type 0) → ((n : ℕ) (old new : Built) → Step n old new → Follows old new) → (start : Built) (n : ℕ) (end : Built) → AfterSteps Step start n end → Follows start end
  steps_follow Step each start zero end h = subst (Follows start) (sym h) (same_built start)
  steps_follow Step each start (suc n) end h = follows_both start h.0 end (steps_follow Step each start n h.0 h.1) (each n h.0 end h.2)

  pub serves_at_follows : (instance : List ℕ) (target : ℕ) (names : List (List ℕ)) (n : ℕ) (old new : Built) → ServesAt s instance target names n old new → Follows old new
  serves_at_follows instance target names n old new h = serves_follows (record { instance = instance; target = target; place = n; name = h.name }) old new h.serves

  pub serve_steps_follow : (instance : List ℕ) (target : ℕ) (names : List (List ℕ)) (start : Built) (n : ℕ) (end : Built) → AfterSteps (ServesAt s instance target names) start n end → Follows start end
  serve_steps_follow instance target names start n end h = steps_follow (ServesAt s instance target names) (serves_at_follows instance target names) start n end h

  pub turn_follows : (k : ℕ) (old new : Built) → HasTurn s k old new → Follows old new
  turn_follows k old new h = serve_steps_follow h.name h.id (import_names h.component.shape) old (length h.component.shape.imports) new h.served

  pub turns_follow : (start : Built) (n : ℕ) (end : Built) → AfterSteps (HasTurn s) start n end → Follows start end
  turns_follow start n end h = steps_follow (HasTurn s) turn_follows start n end h
