-- In a front of the whole graph an import can be given what it is given there.
use Rattle.std.proofs.Common.{◌≡◌, ◌<◌, ℕ, Bool, true, false, cond, eqb, ◌&&◌, List, [], ◌∷◌, ◌++◌, length, Option, Some, None, is_some, slice_get, option_map, option_and_then, refl, sym, ap, ◌∙◌, subst, arith, length-append}
use Rattle.std.specs.Prelude.{filter_map}
use Rattle.std.specs.List.{AllByRecursion, AllZip}
use Rattle.std.proofs.lemmas.Bool.{eqb-true}
use Rattle.std.proofs.lemmas.Option.{same_Some}
use Rattle.comp_entity.specs.Entity.{EntityTree}
use Rattle.compose_config.specs.Plan.{Settings}
use Rattle.compose_graph.specs.Graph.{ComponentEntry, GraphTree, SelfConnection, component_of, connection_into, fault_between, with_connection}
use Rattle.compose_graph.specs.Kept.{IsJoined}
use Rattle.compose_graph.specs.declared.connection.Connection.{Connection}
use Rattle.compose_files.specs.Built.{Built, HasGoodArguments, IsChosen, IsConnected, Need, Sources, connection, with_graph}
use Rattle.compose_files.specs.Graph.{IsGiven, IsGraphOf, IsServedFrom, IsServing, Origin, instance_for, is_origin, source_of}
use Rattle.compose_files.proofs.Drawn.{IsWired}
use Rattle.compose_files.proofs.Front.{same_component}
use Rattle.compose_files.proofs.Fronts.{one_behind, place_holds, place_in_front}
use Rattle.compose_files.proofs.Once.{with_one}
use Rattle.compose_files.proofs.Sourced.{IsSourced}

-- another import than this one
abbrev pub IsOther : Need → Need → Type 0
IsOther n d = d.target ≡ n.target → d.place ≡ n.place → ⊥

-- ---- where instances have the same components

module _ (old new : GraphTree) where
  pub arguments_as : (s : Settings) (instance : List ℕ) (id : ℕ) → component_of new id ≡ component_of old id → HasGoodArguments s old instance id → HasGoodArguments s new instance id
  arguments_as s instance id same h = record { component = h.component; made_from = same ∙ h.made_from; none_stray = h.none_stray }

  pub chosen_as : (source : ℕ) (need : Need) (name : Option (List ℕ)) (export : Option ℕ) → component_of new source ≡ component_of old source → component_of new need.target ≡ component_of old need.target
      → IsChosen old source need name export → IsChosen new source need name export
  chosen_as source need name export same target h = record {
    component = h.component;
    made_from = same ∙ h.made_from;
    asked = h.asked;
    asks = ap (λ (o : Option ComponentEntry). option_map (λ (i : List ℕ × EntityTree). i.1) (option_and_then (λ (c : ComponentEntry). slice_get c.shape.imports need.place) o)) target ∙ h.asks;
    chosen = h.chosen;
  }

module _ (s : Sources) (first : List ComponentEntry) (g : GraphTree) (origins : List Origin) (need : Need) where
  -- an import that is given nothing yet
  pub none_taken : (done : List Need) (given : List (Option Connection)) → AllZip (IsServing s g origins first) done given → AllByRecursion (IsOther need) done → connection_into (filter_map (λ c. c) given) need.target need.place ≡ None
  none_taken [] [] h others = refl
  none_taken [] (c ∷ given) h others = absurd h
  none_taken (d ∷ done) [] h others = absurd h
  none_taken (d ∷ done) (None ∷ given) h others = none_taken done given h.1 others.1
  none_taken (d ∷ done) (Some c ∷ given) h others = by (source_of s first d) h.0 (none_taken done given h.1 others.1)
    where
      apart : (a b : Bool) → eqb c.target need.target ≡ a → eqb c.import need.place ≡ b → c.target ≡ d.target → c.import ≡ d.place → (a && b) ≡ false
      apart false b p q target import = refl
      apart true false p q target import = refl
      apart true true p q target import = absurd (others.0 (sym target ∙ eqb-true c.target need.target p) (sym import ∙ eqb-true c.import need.place q))

      by : (o : Option Origin) → IsServedFrom s g origins first d o (Some c) → connection_into (filter_map (λ c. c) given) need.target need.place ≡ None
          → cond (eqb c.target need.target && eqb c.import need.place) (Some c) (connection_into (filter_map (λ c. c) given) need.target need.place) ≡ None
      by None h later = absurd h
      by (Some o) h later = ap (λ t. cond t (Some c) (connection_into (filter_map (λ c. c) given) need.target need.place)) (apart (eqb c.target need.target) (eqb c.import need.place) refl refl h.target h.import) ∙ later

-- an import of a front is given what the whole graph gives it: that instance is in the front, as it is in the whole
pub record IsConnecting (g : GraphTree) (all origins : List Origin) (need : Need) (o : Origin) (source : ℕ) (mid : Built) (c : Connection) : Type 0 where
  pub source_same : component_of mid.graph source ≡ component_of g source
  pub target_same : component_of mid.graph need.target ≡ component_of g need.target
  pub source_is : c.source ≡ source
  pub everywhere : instance_for all o ≡ Some source
  pub connects : IsConnected source c.export need mid (with_graph mid (with_connection mid.graph (connection source c.export need)))

module _ (root : List ℕ) (s : Sources) (g : GraphTree) (whole : IsGraphOf root s g) (b : Built) (origins : List Origin) (done : List Need) (wired : IsWired s whole.first b origins done) (need : Need)
    (below : need.target < length origins) (fresh : AllByRecursion (IsOther need) done) (o : Origin) (source : ℕ) (mid : Built) (sourced : IsSourced s whole.first b origins o source mid)
    (later : List ComponentEntry) (components : g.components ≡ mid.graph.components ++ later) (more : List Origin) (front : whole.origins ≡ with_one is_origin origins o ++ more) where
  mid_component : (id : ℕ) → id < length (with_one is_origin origins o) → component_of mid.graph id ≡ component_of g id
  mid_component id less = same_component root s g whole mid (with_one is_origin origins o) sourced.found sourced.drawn later components more front id less

  target_below : need.target < length (with_one is_origin origins o)
  target_below =
      let behind = one_behind is_origin origins o in
      let long = ap length behind.1 ∙ length-append origins behind.0 in
      omega arith

  source_below : source < length (with_one is_origin origins o)
  source_below =
      let at = place_holds (is_origin o) 0 source (with_one is_origin origins o) sourced.number in
      let is = at.2 in
      let less = at.3 in
      omega arith

  number_everywhere : instance_for whole.origins o ≡ Some source
  number_everywhere = ap (λ l. instance_for l o) front ∙ place_in_front (is_origin o) 0 source (with_one is_origin origins o) more sourced.number

  module _ (c : Connection) (given : IsGiven s g whole.origins whole.first need o c) where
    source_is : c.source ≡ source
    source_is = same_Some c.source source (sym given.source ∙ number_everywhere)

    connection_is : c ≡ connection source c.export need
    connection_is = λ k. record { source = source_is k; export = c.export; target = given.target k; import = given.import k }

    given_connects : IsConnected source c.export need mid (with_graph mid (with_connection mid.graph (connection source c.export need)))
    given_connects = record { good = good; connected = refl }
      where
        none : connection_into mid.graph.connections need.target need.place ≡ None
        none =
            ap (λ l. connection_into l need.target need.place) (sourced.connections ∙ wired.connections)
            ∙ none_taken s whole.first b.graph origins need done wired.given wired.each fresh

        joined : fault_between false (connection source c.export need) (component_of g source) (component_of g need.target) ≡ None
        joined = subst (IsJoined g) connection_is given.joined

        good : cond (eqb source need.target) (Some SelfConnection)
            (fault_between (is_some (connection_into mid.graph.connections need.target need.place)) (connection source c.export need) (component_of mid.graph source) (component_of mid.graph need.target)) ≡ None
        good =
            ap (λ t. cond t (Some SelfConnection) (fault_between (is_some (connection_into mid.graph.connections need.target need.place)) (connection source c.export need) (component_of mid.graph source) (component_of mid.graph need.target)))
            (subst (λ (x : Connection). eqb x.source x.target ≡ false) connection_is given.apart)
            ∙ ap (λ t. fault_between (is_some t) (connection source c.export need) (component_of mid.graph source) (component_of mid.graph need.target)) none
            ∙ ap (λ x. fault_between false (connection source c.export need) x (component_of mid.graph need.target)) (mid_component source source_below)
            ∙ ap (λ x. fault_between false (connection source c.export need) (component_of g source) x) (mid_component need.target target_below) ∙ joined

    pub connecting : IsConnecting g whole.origins origins need o source mid c
    connecting = record {
      source_same = mid_component source source_below;
      target_same = mid_component need.target target_below;
      source_is = source_is;
      everywhere = number_everywhere;
      connects = given_connects;
    }
