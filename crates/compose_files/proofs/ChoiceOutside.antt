-- Where something of an instance is chosen and given to an import, it is refused for no cause in what is composed.
use Rattle.std.proofs.Common.{◌≡◌, ◌≢◌, ℕ, Bool, true, false, cond, List, Option, Some, None, option_map, option_and_then, is_some, slice_get, refl, sym, ap, ◌∙◌, eqb, subst, inl, inr}
use Rattle.std.proofs.lemmas.Bool.{false≢true}
use Rattle.comp_entity.specs.Entity.{EntityTree}
use Rattle.comp_entity.specs.Fits.{fits_loosely}
use Rattle.compose_config.specs.Plan.{Argument, Settings}
use Rattle.compose_fit.specs.Wires.{Given, given_of}
use Rattle.compose_graph.specs.Graph.{ComponentEntry, GraphTree, NotCompatible, SelfConnection, component_of, connect_fault, connection_into, fault_between, fault_of_import, fault_of_offer, given_entity}
use Rattle.compose_graph.specs.Refusal.{IsConnectRefusal}
use Rattle.compose_graph.specs.declared.connection.Connection.{Connection}
use Rattle.compose_graph.specs.declared.error.GraphError.{GraphError}
use Rattle.compose_graph.specs.declared.error.GraphError.TheVariants as graph
use Rattle.compose_config.specs.Arguments.{arguments_of, stray}
use Rattle.compose_files.specs.Built.{Built, HasGoodArguments, IsChosen, IsConnected, IsTaken, Need, Sources, asked_by, connection, import_names}
use Rattle.compose_files.specs.Choice.{choice, if_fits, instance_export}
use Rattle.compose_files.specs.Refusals.{CannotBeGiven, CannotBeJudged, HasNothingFitting, IsArgumentRefusal, IsChoiceRefusal, IsExportRefusal, IsFitRefusal, IsGiftRefusal, IsStrayRefusal, LacksInstance}
use Rattle.compose_files.specs.declared.error.ComposerError.{ComposerError}
use Rattle.compose_files.specs.declared.error.ComposerError.TheVariants as error
use Rattle.compose_files.proofs.Apart.{none_some}
use Rattle.compose_files.proofs.NotRefused.{IsNever, IsOutside, graph_never, need_never, never_connected}
use Rattle.compose_files.proofs.OneGraph.{one_chosen, one_connected}
use Rattle.compose_files.proofs.OneStep.{one_found, one_through}
use Rattle.compose_files.proofs.OwnFits.{none_refused}

-- ---- whether something fits

-- what is there is judged, and where it does not fit that is the fault
never_unfit : (fits : Bool) (e : GraphError) → IsConnectRefusal (cond fits None (Some NotCompatible)) e → e ≢ graph.NotCompatible → e ≢ graph.Memory → ⊥
never_unfit true e h not_unfit not_memory = none_refused e not_memory h
never_unfit false graph.NotCompatible h not_unfit not_memory = not_unfit refl
never_unfit false graph.Memory h not_unfit not_memory = not_memory refl
never_unfit false graph.SelfConnection h not_unfit not_memory = cc
never_unfit false graph.NoSource h not_unfit not_memory = cc
never_unfit false graph.NoTarget h not_unfit not_memory = cc
never_unfit false graph.BadImportIndex h not_unfit not_memory = cc
never_unfit false graph.AlreadyConnected h not_unfit not_memory = cc
never_unfit false graph.BadExportIndex h not_unfit not_memory = cc
never_unfit false _ h not_unfit not_memory = h

never_offered : (asked : EntityTree) (given : Option Given) → is_some given ≡ true → (e : GraphError) → IsConnectRefusal (fault_of_offer asked given) e → e ≢ graph.NotCompatible → e ≢ graph.Memory → ⊥
never_offered asked None there e h not_unfit not_memory = false≢true there
never_offered asked (Some given) there e h not_unfit not_memory = never_unfit (fits_loosely (given_entity given) asked) e h not_unfit not_memory

never_apart : (c : Connection) (s : ComponentEntry) (t : Option ComponentEntry) (asked : EntityTree)
    → option_map (λ (i : List ℕ × EntityTree). i.1) (option_and_then (λ (x : ComponentEntry). slice_get x.shape.imports c.import) t) ≡ Some asked → is_some (given_of s.shape c.export) ≡ true
    → (e : GraphError) → IsConnectRefusal (fault_between false c (Some s) t) e → e ≢ graph.NotCompatible → e ≢ graph.Memory → ⊥
never_apart c s None asked asks there e h not_unfit not_memory = none_some asked (sym asks)
never_apart c s (Some t) asked asks there e h not_unfit not_memory = by (slice_get t.shape.imports c.import) asks h
  where
    by : (i : Option (List ℕ × EntityTree)) → option_map (λ (i : List ℕ × EntityTree). i.1) i ≡ Some asked → IsConnectRefusal (fault_of_import false s.shape c i) e → ⊥
    by None asks h = none_some asked (sym asks)
    by (Some i) asks h = never_offered i.1 (given_of s.shape c.export) there e h not_unfit not_memory

-- an import that is given something was given nothing before
free_import : (same taken : Bool) (c : Connection) (s t : Option ComponentEntry) → cond same (Some SelfConnection) (fault_between taken c s t) ≡ None → taken ≡ false
free_import true taken c s t h = absurd (none_some SelfConnection h)
free_import false taken c None t h = absurd cc
free_import false taken c (Some s) None h = absurd cc
free_import false taken c (Some s) (Some t) h = by taken (slice_get t.shape.imports c.import) h
  where
    by : (taken : Bool) (i : Option (List ℕ × EntityTree)) → fault_of_import taken s.shape c i ≡ None → taken ≡ false
    by false i h = refl
    by true None h = absurd cc
    by true (Some i) h = absurd cc

never_judged : (g : GraphTree) (source : ℕ) (need : Need) (name : Option (List ℕ)) (export : Option ℕ) → IsChosen g source need name export → connect_fault g (connection source export need) ≡ None → (e : GraphError) → CannotBeJudged g source need e → e ≢ graph.Memory → ⊥
never_judged g source need name export chosen good e h not_memory =
    let c = connection source h.export need in
    let free : is_some (connection_into g.connections need.target need.place) ≡ false =
    free_import (eqb source need.target) (is_some (connection_into g.connections need.target need.place)) (connection source export need) (component_of g source) (component_of g need.target) good in
    let refused : IsConnectRefusal (fault_between false c (Some chosen.component) (component_of g need.target)) e =
    subst (λ (o : Option ComponentEntry). IsConnectRefusal (fault_between false c o (component_of g need.target)) e) chosen.made_from
    (subst (λ (b : Bool). IsConnectRefusal (fault_between b c (component_of g source) (component_of g need.target)) e) free h.unjudged.0) in
    never_apart c chosen.component (component_of g need.target) chosen.asked chosen.asks (h.there chosen.component chosen.made_from) e refused h.unjudged.1 not_memory

-- ---- what is chosen

never_nothing : (g : GraphTree) (source : ℕ) (need : Need) (name : Option (List ℕ)) (export : Option ℕ) → IsChosen g source need name export → (e : GraphError) → HasNothingFitting g source need name e → ⊥
never_nothing g source need name export chosen e h =
    let component = one_found (component_of g source) chosen.component h.component chosen.made_from h.made_from in
    let asked = one_found (asked_by g need) chosen.asked h.asked chosen.asks h.asks in
    none_some export (sym chosen.chosen ∙ (λ k. choice (component k).shape (asked k) name) ∙ h.none)

export_outside : (g : GraphTree) (source : ℕ) (need : Need) (name : Option (List ℕ)) (export : Option ℕ) → IsChosen g source need name export → (e : ComposerError) → IsExportRefusal g source name e → IsOutside e
export_outside g source need name export chosen (error.NoSuchExport told) h =
    let component = one_found (component_of g source) h.1.component chosen.component h.1.made_from chosen.made_from in
    let shape = chosen.component.shape in
    let none : instance_export shape told ≡ None = subst (λ (c : ComponentEntry). instance_export c.shape told ≡ None) component h.1.none in
    absurd (none_some export (sym chosen.chosen ∙ ap (choice shape chosen.asked) h.0 ∙ ap (option_and_then (if_fits shape chosen.asked)) none))
export_outside g source need name export chosen error.Memory h = tt
export_outside g source need name export chosen _ h = absurd h

choice_outside : (g : GraphTree) (source : ℕ) (need : Need) (name : Option (List ℕ)) (export : Option ℕ) → IsChosen g source need name export → connect_fault g (connection source export need) ≡ None → (e : ComposerError) → IsChoiceRefusal g source need name e → IsOutside e
choice_outside g source need name export chosen good e (inl h) =
    graph_never (LacksInstance g source) (λ f lacks not_memory. none_some chosen.component (sym chosen.made_from ∙ lacks.0)) e h
choice_outside g source need name export chosen good e (inr (inl h)) = export_outside g source need name export chosen e h
choice_outside g source need name export chosen good e (inr (inr h)) = need_never need (IsFitRefusal g source need name) never e h
  where
    never : IsNever (IsFitRefusal g source need name)
    never f (inl nothing) not_memory = never_nothing g source need name export chosen f nothing
    never f (inr unjudged) not_memory = never_judged g source need name export chosen good f unjudged not_memory

-- ---- arguments

stray_outside : (s : Settings) (g : GraphTree) (instance : List ℕ) (id : ℕ) → HasGoodArguments s g instance id → (e : ComposerError) → IsStrayRefusal s g instance id e → IsOutside e
stray_outside s g instance id good (error.NoSuchImport argument) h =
    let component = one_found (component_of g id) h.component good.component h.made_from good.made_from in
    let stray_one = subst (λ (c : ComponentEntry). stray (arguments_of s instance) (import_names c.shape) ≡ Some argument) component h.is_stray in
    absurd (none_some argument (sym stray_one ∙ good.none_stray))
stray_outside s g instance id good error.Memory h = tt
stray_outside s g instance id good _ h = absurd h

pub argument_outside : (s : Settings) (g : GraphTree) (instance : List ℕ) (id : ℕ) → HasGoodArguments s g instance id → (e : ComposerError) → IsArgumentRefusal s g instance id e → IsOutside e
argument_outside s g instance id good e (inl h) = graph_never (LacksInstance g id) (λ f lacks not_memory. none_some good.component (sym good.made_from ∙ lacks.0)) e h
argument_outside s g instance id good e (inr h) = stray_outside s g instance id good e h

-- ---- what is given

pub gift_outside : (s : Sources) (need : Need) (a : Argument) (is_new : Bool) (source : ℕ) (old new : Built) → IsTaken s need a is_new source old new → (e : ComposerError) → IsGiftRefusal s.settings need a is_new source old e → IsOutside e
gift_outside s need a is_new source old new taken e (inl h) = choice_outside old.graph source need a.export taken.export taken.chosen taken.given.good e h
gift_outside s need a is_new source old new taken e (inr (inl h)) = need_never need (CannotBeGiven old.graph source need a.export) never e h
  where
    never : IsNever (CannotBeGiven old.graph source need a.export)
    never f refusal not_memory =
        let export = one_chosen old.graph source need a.export refusal.export taken.export refusal.chosen taken.chosen in
        never_connected (connect_fault old.graph (connection source taken.export need)) taken.given.good f
        (subst (λ (x : Option ℕ). IsConnectRefusal (connect_fault old.graph (connection source x need)) f) export refusal.refused) not_memory
gift_outside s need a is_new source old new taken e (inr (inr h)) =
    let bad = h.1 in
    let same : bad.new ≡ new =
    one_through (IsChosen old.graph source need a.export) (λ export b. IsConnected source export need old b) (one_chosen old.graph source need a.export) (λ export. one_connected source export need old)
    bad.export taken.export bad.new new bad.chosen taken.chosen bad.given taken.given in
    argument_outside s.settings new.graph a.instance source (taken.arguments_good h.0) e
    (subst (λ (b : Built). IsArgumentRefusal s.settings b.graph a.instance source e) same bad.refused)
