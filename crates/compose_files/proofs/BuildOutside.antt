-- Where something is built, it is refused for no cause in what is composed but in the end.
use Rattle.std.proofs.Common.{◌≡◌, ◌<◌, ◌⊎◌, ℕ, suc, zero, false, List, length, Option, Some, None, option_map, slice_get, refl, sym, ap, ◌∙◌, subst, arith, inl, inr}
use Rattle.std.specs.Option.{option_or}
use Rattle.std.proofs.lemmas.Bool.{cases_order, false≢true}
use Rattle.std.proofs.lemmas.Option.{same_Some, slice_get_within}
use Rattle.warg_base.specs.declared.files.FileError.TheVariants as file
use Rattle.comp_entity.specs.Entity.{ShapeTree}
use Rattle.compose_config.specs.Plan.{Settings}
use Rattle.compose_graph.specs.Graph.{ComponentEntry, GraphTree, component_of, no_graph}
use Rattle.compose_graph.specs.Refusal.{IsInstantiateRefusal}
use Rattle.compose_files.specs.Built.{AfterSteps, Built, DefinesAt, HasGoodArguments, IsDefined, Sources, offer, with_named}
use Rattle.compose_files.specs.Choice.{instance_export}
use Rattle.compose_files.specs.Composed.{HasDefined, HasTurn, ImportsSome, IsBuilt, IsStarted, begun, root_name}
use Rattle.compose_files.specs.Paths.{joined}
use Rattle.compose_files.specs.Refusals.{IsFileRefusal, IsGraphRefusal, LacksInstance, is_failure}
use Rattle.compose_files.specs.Refused.{HasNumbers, IsEmptyRefusal, IsEndRefusal, IsImportsRefusal, IsRefused, IsRootRefusal, IsStartRefusal, StopsAtDefinition, StopsAtDefinitions, StopsAtRoot, StopsAtTurn}
use Rattle.compose_files.specs.declared.error.ComposerError.{ComposerError}
use Rattle.compose_files.specs.declared.error.ComposerError.TheVariants as error
use Rattle.compose_files.specs.declared.offer.Offer.{Offer}
use Rattle.compose_files.proofs.ChoiceOutside.{argument_outside}
use Rattle.compose_files.proofs.Extended.{Extends, IsThere, added_extends, added_there, extends_both, named_follows, same_graph, turn_follows, turns_follow}
use Rattle.compose_files.proofs.Apart.{none_some}
use Rattle.compose_files.proofs.NotRefused.{IsOutside, ShapesAreRead, definition_outside, file_outside, graph_never, never_instantiated}
use Rattle.compose_files.proofs.OneGraph.{OneShape, one_added, one_all_defined, one_built, one_defined_at, one_start, one_turn}
use Rattle.compose_files.proofs.OneStep.{one_after, one_found, step_after}
use Rattle.compose_files.proofs.ServesOutside.{HasOffers, offers_kept, step_within, turn_outside}

-- ---- definitions

defined_extends : (s : Sources) (path : List ℕ) (old new : Built) → IsDefined s path old new → Extends old.graph new.graph
defined_extends s path old new h = added_extends s.files (joined s.dir path) h.name h.shape old.graph new.graph h.added

-- what a definition has is of its own component
offer_of : (component : ℕ) (o : Offer) (export : Option ℕ) → option_map (λ (e : ℕ). record { component = component; export = e }) export ≡ Some o → o.component ≡ component
offer_of component o None h = absurd cc
offer_of component o (Some e) h = sym (ap (λ (x : Offer). x.component) (same_Some (record { component = component; export = e }) o h))

defined_offers : (s : Sources) (path : List ℕ) (old new : Built) → IsDefined s path old new → HasOffers old → HasOffers new
defined_offers s path old new h offers name o has = by (old.offers name) refl (sym (h.offers name) ∙ has)
  where
    added : IsThere new.graph old.graph.next_component
    added = subst (λ (g : GraphTree). IsThere g old.graph.next_component) (sym h.added.added) (added_there old.graph h.name h.added.bytes h.shape)

    by : (before : Option Offer) → old.offers name ≡ before → option_or before (offer old.graph.next_component h.shape name) ≡ Some o → IsThere new.graph o.component
    by None is has = subst (IsThere new.graph) (sym (offer_of old.graph.next_component o (instance_export h.shape name) has)) added
    by (Some x) is has = (defined_extends s path old new h).stay o.component (offers name o (is ∙ has))

definitions_extend : (s : Sources) (start : Built) (n : ℕ) (end : Built) → AfterSteps (DefinesAt s) start n end → Extends start.graph end.graph
definitions_extend s start zero end h = subst (λ (b : Built). Extends start.graph b.graph) (sym h) (same_graph start.graph)
definitions_extend s start (suc n) end h =
    extends_both start.graph h.0.graph end.graph (definitions_extend s start n h.0 h.1) (defined_extends s h.2.path h.0 end h.2.defined)

definitions_offer : (s : Sources) (start : Built) (n : ℕ) (end : Built) → AfterSteps (DefinesAt s) start n end → HasOffers start → HasOffers end
definitions_offer s start zero end h offers = subst HasOffers (sym h) offers
definitions_offer s start (suc n) end h offers = defined_offers s h.2.path h.0 end h.2.defined (definitions_offer s start n h.0 h.1 offers)

-- ---- the root

-- the root is the component of the number 0
root_there : (root : List ℕ) (s : Sources) (n : ℕ) (b : Built) → HasDefined root s n b → IsThere b.graph 0
root_there root s n b h =
    (definitions_extend s (begun h.graph) n b h.defines).stay 0
    (subst (λ (g : GraphTree). IsThere g 0) (sym h.rooted.added) (added_there no_graph root_name h.rooted.bytes h.shape))

started_offers : (root : List ℕ) (s : Sources) (b : Built) → IsStarted root s b → HasOffers b
started_offers root s b h =
    let defined = definitions_offer s (begun h.has_defined.graph) (length s.settings.definitions) h.defined h.has_defined.defines (λ name o none. absurd (none_some o (sym none))) in
    subst HasOffers (sym h.instantiated) (offers_kept h.defined (with_named h.defined root_name 0) (named_follows h.defined root_name 0) defined)

root_imports_outside : (g : GraphTree) (id : ℕ) → ImportsSome g id → (e : ComposerError) → IsImportsRefusal g id e → IsOutside e
root_imports_outside g id some e (inl h) = graph_never (LacksInstance g id) (λ f lacks not_memory. none_some some.component (sym some.made_from ∙ lacks.0)) e h
root_imports_outside g id some e (inr h) = by e h
  where
    by : (e : ComposerError) → IsEmptyRefusal g id e → IsOutside e
    by error.NoInstanceImports h =
        let component = one_found (component_of g id) h.component some.component h.made_from some.made_from in
        let none : length some.component.shape.imports ≡ 0 = ap (λ (c : ComponentEntry). length c.shape.imports) (sym component) ∙ ap length h.none in
        let more : 0 < length some.component.shape.imports = some.some in
        absurd (omega arith)
    by error.Memory h = tt
    by _ h = absurd h

root_outside : (s : Sources) (b : Built) (id : ℕ) → HasGoodArguments s.settings b.graph root_name id → ImportsSome b.graph id → (e : ComposerError) → IsRootRefusal s b id e → IsOutside e
root_outside s b id good some e (inl h) = argument_outside s.settings b.graph root_name id good e h
root_outside s b id good some e (inr h) = root_imports_outside b.graph id some e h.refused

-- ---- the end

outside_end : (s : Settings) (g : GraphTree) (e : ComposerError) → is_failure e ≡ false → IsOutside e → IsEndRefusal s g e
outside_end s g error.Memory calm h = tt
outside_end s g (error.File path file.Failed) calm h = absurd (false≢true (sym calm))
outside_end s g (error.File path file.Missing) calm h = absurd h
outside_end s g (error.File path file.Memory) calm h = absurd h
outside_end s g _ calm h = absurd h

module _ (one_shape : OneShape) (shapes_are_read : ShapesAreRead) (root : List ℕ) (s : Sources) where
  -- ---- the start

  definitions_outside : (old new : Built) → AfterSteps (DefinesAt s) old (length s.settings.definitions) new → HasNumbers new.graph → (e : ComposerError) → StopsAtDefinition s old e → IsOutside e
  definitions_outside old new steps numbers e h = definition_outside shapes_are_read s h.path h.before step.1 defined step.4 e h.refused
    where
      step : (before : Built) × (after : Built) × AfterSteps (DefinesAt s) old h.number before × DefinesAt s h.number before after × HasNumbers after.graph
      step =
          step_within (DefinesAt s) (λ b. HasNumbers b.graph) (λ n a b one later. (defined_extends s one.path a b one.defined).numbers later) old h.number (length s.settings.definitions) new
          (slice_get_within s.settings.definitions h.number h.path h.there) steps numbers

      same : step.0 ≡ h.before
      same = one_after (DefinesAt s) (one_defined_at one_shape s) old h.number step.0 h.before step.2 h.defines

      defined : IsDefined s h.path h.before step.1
      defined =
          let path = one_found (slice_get s.settings.definitions h.number) step.3.path h.path step.3.there h.there in
          subst (λ (b : Built). IsDefined s h.path b step.1) same (subst (λ (p : List ℕ). IsDefined s p step.0 step.1) path step.3.defined)

  start_outside : (b : Built) → IsStarted root s b → HasNumbers b.graph → (e : ComposerError) → IsStartRefusal root s e → IsOutside e
  start_outside b started numbers e h = by h
    where
      after : HasNumbers (with_named started.defined root_name 0).graph
      after = subst (λ (x : Built). HasNumbers x.graph) started.instantiated numbers

      defined : HasNumbers started.defined.graph
      defined = (named_follows started.defined root_name 0).extends.numbers after

      rooted : HasNumbers started.has_defined.graph
      rooted = (definitions_extend s (begun started.has_defined.graph) (length s.settings.definitions) started.defined started.has_defined.defines).numbers defined

      at_root : IsGraphRefusal (IsInstantiateRefusal started.defined.graph 0) e ⊎ IsRootRefusal s (with_named started.defined root_name 0) started.defined.graph.next_instance e → IsOutside e
      at_root (inl r) =
          graph_never (IsInstantiateRefusal started.defined.graph 0)
          (never_instantiated started.defined.graph 0 (root_there root s (length s.settings.definitions) started.defined started.has_defined) after.instances) e r
      at_root (inr r) =
          let id = started.defined.graph.next_instance in
          root_outside s (with_named started.defined root_name 0) id (subst (λ (x : Built). HasGoodArguments s.settings x.graph root_name id) started.instantiated started.arguments_good)
          (subst (λ (x : Built). ImportsSome x.graph id) started.instantiated started.imports_some) e r

      by : IsFileRefusal s.files root root_name no_graph e ⊎ StopsAtDefinitions root s e ⊎ StopsAtRoot root s e → IsOutside e
      by (inl file) = file_outside shapes_are_read s.files root root_name started.has_defined.shape no_graph started.has_defined.graph started.has_defined.rooted rooted e file
      by (inr (inl stops)) =
          let same = one_added one_shape s.files root root_name no_graph (stops.shape, stops.graph) (started.has_defined.shape, started.has_defined.graph) stops.rooted started.has_defined.rooted in
          definitions_outside (begun started.has_defined.graph) started.defined started.has_defined.defines defined e
          (subst (λ (r : ShapeTree × GraphTree). StopsAtDefinition s (begun r.1) e) same stops.refused)
      by (inr (inr stops)) =
          let same = one_all_defined one_shape s root (length s.settings.definitions) stops.defined started.defined stops.has_defined started.has_defined in
          at_root
          (subst (λ (d : Built). IsGraphRefusal (IsInstantiateRefusal d.graph 0) e ⊎ IsRootRefusal s (with_named d root_name 0) d.graph.next_instance e) same stops.refused)

  -- ---- turns

  turns_outside : (b : Built) → IsBuilt root s b → HasNumbers b.graph → (e : ComposerError) → StopsAtTurn root s e → IsOutside e
  turns_outside b built numbers e h = by (cases_order h.turns (length b.named))
    where
      reached : AfterSteps (HasTurn s) built.start h.turns h.before
      reached = subst (λ (x : Built). AfterSteps (HasTurn s) x h.turns h.before) (one_start one_shape s root h.start built.start h.started built.started) h.had_turns

      -- in front of the end
      early : h.turns < length b.named → IsOutside e
      early less =
          let step = step_within (HasTurn s) (λ b. HasNumbers b.graph) (λ n x y turn later. (turn_follows s n x y turn).extends.numbers later) built.start h.turns (length b.named) b less built.turns numbers in
          let same : step.0 ≡ h.before = one_after (HasTurn s) (one_turn one_shape s) built.start h.turns step.0 h.before step.2 reached in
          turn_outside one_shape shapes_are_read s h.turns h.before step.1 (subst (λ (x : Built). HasTurn s h.turns x step.1) same step.3)
          (offers_kept built.start h.before (turns_follow s built.start h.turns h.before reached) (started_offers root s built.start built.started)) step.4 e h.refused

      -- what is built in the end has no instance left
      none_left : (x : Built) (n : ℕ) → x ≡ b → n ≡ length b.named → (i : List ℕ × ℕ) → slice_get x.named n ≡ Some i → ⊥
      none_left x n same end i there =
          let within : n < length x.named = slice_get_within x.named n i there in
          let as_long : length x.named ≡ length b.named = ap (λ (y : Built). length y.named) same in
          omega arith

      by : (h.turns ≡ length b.named) ⊎ ((h.turns < length b.named) ⊎ (length b.named < h.turns)) → IsOutside e
      by (inl end) =
          let same = one_after (HasTurn s) (one_turn one_shape s) built.start h.turns h.before b reached (subst (λ n. AfterSteps (HasTurn s) built.start n b) (sym end) built.turns) in
          absurd (none_left h.before h.turns same end (h.refused.name, h.refused.id) h.refused.there)
      by (inr (inl less)) = early less
      by (inr (inr more)) =
          let step = step_after (HasTurn s) built.start (length b.named) h.turns h.before more reached in
          let same = one_after (HasTurn s) (one_turn one_shape s) built.start (length b.named) step.0 b step.2 built.turns in
          absurd (none_left step.0 (length b.named) same refl (step.3.name, step.3.id) step.3.there)

  -- ---- all of it

  pub refused_in_the_end : (b : Built) → IsBuilt root s b → HasNumbers b.graph → (e : ComposerError) → is_failure e ≡ false → IsRefused root s e → IsEndRefusal s.settings b.graph e
  refused_in_the_end b built numbers e calm (inl (inl h)) =
      let start = (turns_follow s built.start (length b.named) b built.turns).extends.numbers numbers in
      outside_end s.settings b.graph e calm (start_outside built.start built.started start e h)
  refused_in_the_end b built numbers e calm (inl (inr h)) = outside_end s.settings b.graph e calm (turns_outside b built numbers e h)
  refused_in_the_end b built numbers e calm (inr h) =
      subst (λ (x : Built). IsEndRefusal s.settings x.graph e) (one_built one_shape s root h.built b h.is_built built) h.refused
