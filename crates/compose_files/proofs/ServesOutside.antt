-- An import that is served is refused for no cause in what is composed, and so no instance that has its turn.
use Rattle.std.proofs.Common.{◌≡◌, ◌<◌, ◌⊎◌, ℕ, suc, zero, Bool, cond, List, length, Option, Some, None, MatchOption, is_some, slice_get, refl, sym, ap, ◌∙◌, subst, arith, inl, inr}
use Rattle.std.proofs.lemmas.Bool.{cases_order, false≢true}
use Rattle.std.proofs.lemmas.List.{length-map}
use Rattle.std.proofs.lemmas.Option.{slice_get_within}
use Rattle.comp_entity.specs.Entity.{EntityTree}
use Rattle.compose_config.specs.Plan.{Argument, Settings}
use Rattle.compose_graph.specs.Graph.{ComponentEntry, component_of, connect_fault}
use Rattle.compose_files.specs.Built.{AfterSteps, Built, IsLeft, IsOffered, IsServed, IsServedBy, Need, Serves, Sources, connection, import_names, instance_of, is_unnamed, taken, with_instance_of, with_made}
use Rattle.compose_files.specs.Composed.{HasTurn, ServesAt}
use Rattle.compose_files.specs.Refusals.{IsLeaveRefusal, IsNotMade, IsNotOffered, IsOfferRefusal, IsServeRefusal, IsSourceRefusal, IsTakeRefusal, IsGraphRefusal, LacksInstance}
use Rattle.compose_files.specs.Refused.{HasNumbers, IsTurnRefusal, StopsAtImport, StopsInside}
use Rattle.compose_files.specs.declared.error.ComposerError.{ComposerError}
use Rattle.compose_files.specs.declared.error.ComposerError.TheVariants as error
use Rattle.compose_files.specs.declared.offer.Offer.{Offer}
use Rattle.compose_files.proofs.ChoiceOutside.{gift_outside}
use Rattle.compose_files.proofs.Extended.{Follows, IsThere, serve_steps_follow, serves_at_follows, served_by_follows, connected_follows}
use Rattle.compose_files.proofs.Apart.{none_some}
use Rattle.compose_files.proofs.NotRefused.{IsNever, IsOutside, ShapesAreRead, graph_never, instance_outside, need_never, never_connected, never_instantiated}
use Rattle.compose_files.proofs.OneGraph.{OneShape, one_instance, one_serves_at}
use Rattle.compose_files.proofs.OneStep.{one_after, one_found}

-- the components of definitions are in the graph
abbrev pub HasOffers : Built → Type 0
HasOffers b = (name : List ℕ) (o : Offer) → b.offers name ≡ Some o → IsThere b.graph o.component

pub offers_kept : (old new : Built) → Follows old new → HasOffers old → HasOffers new
offers_kept old new follows offers name o h = follows.extends.stay o.component (offers name o (sym (follows.offers name) ∙ h))

-- a step past some number of steps, and a property that goes back from the end to what it leads to
pub step_within : {S : Type 0} (Step : ℕ → S → S → Type 0) (P : S → Type 0) → ((n : ℕ) (old new : S) → Step n old new → P new → P old) → (start : S) (n m : ℕ) (end : S) → n < m → AfterSteps Step start m end → P end
    → (old : S) × (new : S) × AfterSteps Step start n old × Step n old new × P new
step_within Step P back start n zero end less h p = absurd (omega arith)
step_within {S} Step P back start n (suc m) end less h p = by (cases_order n m) (λ below. step_within Step P back start n m h.0 below h.1 (back m h.0 end h.2 p))
  where
    by : (n ≡ m) ⊎ ((n < m) ⊎ (m < n)) → (n < m → (old : S) × (new : S) × AfterSteps Step start n old × Step n old new × P new)
        → (old : S) × (new : S) × AfterSteps Step start n old × Step n old new × P new
    by (inl same) later = (h.0, end, subst (λ k. AfterSteps Step start k h.0) (sym same) h.1, subst (λ k. Step k h.0 end) (sym same) h.2, p)
    by (inr (inl below)) later = later below
    by (inr (inr above)) later = absurd (omega arith)

leave_outside : (s : Settings) (a : Argument) (old new : Built) → IsLeft s a old new → (e : ComposerError) → IsLeaveRefusal s a e → IsOutside e
leave_outside s a old new left (error.NotFound name) h = absurd (false≢true (sym left.allowed ∙ h.0))
leave_outside s a old new left (error.ExportOnImported export) h = absurd (none_some export (sym h.1 ∙ left.no_export))
leave_outside s a old new left error.Memory h = tt
leave_outside s a old new left _ h = absurd h

source_outside : (s : Sources) (need : Need) (a : Argument) (is_new : Bool) (source : Option ℕ) (old new : Built) → IsServedBy s need a is_new source old new → (e : ComposerError) → IsSourceRefusal s need a is_new source old e → IsOutside e
source_outside s need a is_new None old new served e h = leave_outside s.settings a old new served e h
source_outside s need a is_new (Some source) old new served e h = gift_outside s need a is_new source old new served e h

-- ---- what definitions have

offer_outside : (need : Need) (o : Offer) (old new : Built) → IsOffered need o old new → IsThere old.graph o.component → HasNumbers new.graph → (e : ComposerError) → IsOfferRefusal need o old e → IsOutside e
offer_outside need o old new offered there numbers e (inl h) = graph_never (IsNotMade old o.component) never e h
  where
    before : HasNumbers (with_instance_of old o.component).graph
    before = (connected_follows (instance_of old o.component) (Some o.export) need (with_instance_of old o.component) new offered).extends.numbers numbers

    never : IsNever (IsNotMade old o.component)
    never f refusal not_memory =
        let made = subst (λ (t : Bool). HasNumbers (cond t old (with_made old o.component)).graph) (ap is_some refusal.0) before in
        never_instantiated old.graph o.component there made.instances f refusal.1 not_memory
offer_outside need o old new offered there numbers e (inr h) =
    need_never need (IsNotOffered old need o)
    (never_connected (connect_fault (with_instance_of old o.component).graph (connection (instance_of old o.component) (Some o.export) need)) offered.good) e h

abbrev need_at : List ℕ → ℕ → ℕ → List ℕ → Need
need_at instance target place name = record { instance = instance; target = target; place = place; name = name }

module _ (one_shape : OneShape) (shapes_are_read : ShapesAreRead) (s : Sources) where
  take_outside : (need : Need) (a : Argument) (old new : Built) → IsServed s need a old new → HasNumbers new.graph → (e : ComposerError) → IsTakeRefusal s need a old e → IsOutside e
  take_outside need a old new served numbers e (inl h) =
      let before = (served_by_follows s need a (is_unnamed old a.instance) served.source served.with_source new served.served).extends.numbers numbers in
      instance_outside shapes_are_read one_shape s a.instance old served.source served.with_source served.found before e h
  take_outside need a old new served numbers e (inr h) =
      let same = one_instance one_shape s a.instance old (h.source, h.with_source) (served.source, served.with_source) h.found served.found in
      source_outside s need a (is_unnamed old a.instance) served.source served.with_source new served.served e
      (subst (λ (x : Option ℕ × Built). IsSourceRefusal s need a (is_unnamed old a.instance) x.0 x.1 e) same h.refused)

  serves_outside : (need : Need) (old new : Built) → Serves s need old new → HasOffers old → HasNumbers new.graph → (e : ComposerError) → IsServeRefusal s need old e → IsOutside e
  serves_outside need old new serves offers numbers e h = by (old.offers need.name) refl serves h
    where
      by : (o : Option Offer) → old.offers need.name ≡ o → MatchOption o (IsServed s need (taken s.settings need) old new) (λ o. IsOffered need o old new)
          → MatchOption o (IsTakeRefusal s need (taken s.settings need) old e) (λ o. IsOfferRefusal need o old e) → IsOutside e
      by None is served h = take_outside need (taken s.settings need) old new served numbers e h
      by (Some o) is offered h = offer_outside need o old new offered (offers need.name o is) numbers e h

  -- ---- turns

  imports_outside : (instance : List ℕ) (target : ℕ) (component : ComponentEntry) (old new : Built) → AfterSteps (ServesAt s instance target (import_names component.shape)) old (length component.shape.imports) new
      → HasOffers old → HasNumbers new.graph → (e : ComposerError) → StopsAtImport s instance target (import_names component.shape) old e → IsOutside e
  imports_outside instance target component old new steps offers numbers e h =
      serves_outside (need_at instance target h.number h.name) h.before step.1 serves (offers_kept old h.before (serve_steps_follow s instance target (import_names component.shape) old h.number h.before h.served) offers) step.4 e h.refused
    where
      less : h.number < length component.shape.imports
      less = let within = slice_get_within (import_names component.shape) h.number h.name h.there in omega (arith, within, length-map component.shape.imports (λ (i : List ℕ × EntityTree). i.0))

      step : (before : Built) × (after : Built) × AfterSteps (ServesAt s instance target (import_names component.shape)) old h.number before × ServesAt s instance target (import_names component.shape) h.number before after × HasNumbers after.graph
      step = step_within (ServesAt s instance target (import_names component.shape)) (λ b. HasNumbers b.graph) (λ n a b serves later. (serves_at_follows s instance target (import_names component.shape) n a b serves).extends.numbers later) old h.number (length component.shape.imports) new less steps numbers

      same : step.0 ≡ h.before
      same = one_after (ServesAt s instance target (import_names component.shape)) (one_serves_at one_shape s instance target (import_names component.shape)) old h.number step.0 h.before step.2 h.served

      serves : Serves s (need_at instance target h.number h.name) h.before step.1
      serves =
          let name = one_found (slice_get (import_names component.shape) h.number) step.3.name h.name step.3.there h.there in
          subst (λ (b : Built). Serves s (need_at instance target h.number h.name) b step.1) same (subst (λ (n : List ℕ). Serves s (need_at instance target h.number n) step.0 step.1) name step.3.serves)

  pub turn_outside : (place : ℕ) (old new : Built) → HasTurn s place old new → HasOffers old → HasNumbers new.graph → (e : ComposerError) → IsTurnRefusal s place old e → IsOutside e
  turn_outside place old new turn offers numbers e h = by h.refused
    where
      there : ◌≡◌ {A = List ℕ × ℕ} (h.name, h.id) (turn.name, turn.id)
      there = one_found (slice_get old.named place) (h.name, h.id) (turn.name, turn.id) h.there turn.there

      inside : StopsInside s turn.name turn.id old e → IsOutside e
      inside stops =
          let component = one_found (component_of old.graph turn.id) stops.component turn.component stops.made_from turn.made_from in
          imports_outside turn.name turn.id turn.component old new turn.served offers numbers e
          (subst (λ (c : ComponentEntry). StopsAtImport s turn.name turn.id (import_names c.shape) old e) component stops.refused)

      by : IsGraphRefusal (LacksInstance old.graph h.id) e ⊎ StopsInside s h.name h.id old e → IsOutside e
      by (inl lacks) =
          let made = subst (λ (i : List ℕ × ℕ). component_of old.graph i.1 ≡ Some turn.component) (sym there) turn.made_from in
          graph_never (LacksInstance old.graph h.id) (λ f none not_memory. none_some turn.component (sym made ∙ none.0)) e lacks
      by (inr stops) = inside (subst (λ (i : List ℕ × ℕ). StopsInside s i.0 i.1 old e) there stops)
