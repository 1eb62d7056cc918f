-- Why nothing of an instance is chosen for an import.
use Rattle.std.proofs.Common.{◌≡◌, ◌<◌, ◌+◌, ◌&&◌, ℕ, suc, zero, Bool, true, false, cond, drop, List, [], ◌∷◌, length, map, get_or, Option, Some, None, option_map, option_and_then, is_some, slice_get, refl, sym, ap, ◌∙◌, eqb, arith, subst, inl, inr}
use Rattle.std.specs.List.{position_from}
use Rattle.comp_entity.specs.Entity.{EntityTree, ShapeTree}
use Rattle.comp_entity.specs.Fits.{fits_loosely}
use Rattle.comp_entity.specs.Views.{entity_tree, named_entities}
use Rattle.comp_entity.specs.declared.entity.Entity.{Entity}
use Rattle.compose_fit.specs.Wires.{Export, given_of}
use Rattle.compose_graph.specs.Graph.{ComponentEntry, GraphTree, SelfConnection, component_of, connect_fault}
use Rattle.compose_graph.specs.Refusal.{IsConnectRefusal}
use Rattle.compose_graph.specs.declared.error.GraphError.{GraphError}
use Rattle.compose_graph.specs.declared.error.GraphError.TheVariants as refusal
use Rattle.compose_files.specs.Built.{IsChosen, IsJudged, Need, connection}
use Rattle.compose_files.specs.Choice.{fitting_export, if_fits, instance_export, is_instance, is_instance_for, is_instance_named}
use Rattle.compose_files.specs.Refusals.{HasNothingFitting, IsChoiceRefusal, IsFitRefusal, IsJudgeRefusal, IsNeedRefusal, IsUnjudged, LacksExport, fault_apart}
use Rattle.compose_files.specs.declared.error.ComposerError.{ComposerError}
use Rattle.compose_files.proofs.FitLaws.{chosen_first, judged_entry}
use Rattle.compose_files.proofs.OwnFits.{entry_there}
use Rattle.compose_files.proofs.PlaceSteps.{found_here, passed_by}
use Rattle.compose_files.proofs.RefusalSteps.{need_weaker}

-- but for an instance that is given to itself, a connection has the fault that it has between two
apart : (g : GraphTree) (source : ℕ) (export : Option ℕ) (need : Need) (same : Bool) (e : GraphError) → (e ≡ refusal.SelfConnection → ⊥)
    → IsConnectRefusal (cond same (Some SelfConnection) (fault_apart g (connection source export need))) e → IsConnectRefusal (fault_apart g (connection source export need)) e
apart g source export need false e not_self h = h
apart g source export need true refusal.SelfConnection not_self h = absurd (not_self refl)
apart g source export need true refusal.NoSource not_self h = absurd cc
apart g source export need true refusal.NoTarget not_self h = absurd cc
apart g source export need true refusal.BadImportIndex not_self h = absurd cc
apart g source export need true refusal.AlreadyConnected not_self h = absurd cc
apart g source export need true refusal.BadExportIndex not_self h = absurd cc
apart g source export need true refusal.NotCompatible not_self h = absurd cc
apart g source export need true refusal.Memory not_self h = absurd h
apart g source export need true _ not_self h = absurd h

-- whether something fits is asked in vain
pub unjudged : (g : GraphTree) (source : ℕ) (export : Option ℕ) (need : Need) (e : GraphError) → (e ≡ refusal.NotCompatible → ⊥) → (e ≡ refusal.SelfConnection → ⊥)
    → IsConnectRefusal (connect_fault g (connection source export need)) e → (told : ComposerError) → IsNeedRefusal need (λ f. f ≡ e) told → IsJudgeRefusal g source export need told
unjudged g source export need e not_unfit not_self h told says =
    let judge : IsUnjudged g source export need e = (apart g source export need (eqb source need.target) e not_self h, not_unfit) in
    inr (need_weaker need (λ f. f ≡ e) (IsUnjudged g source export need) (λ f is. subst (IsUnjudged g source export need) (sym is) judge) told says)

judge_choice : (g : GraphTree) (source : ℕ) (export : Option ℕ) (need : Need) (name : Option (List ℕ)) → ((component : ComponentEntry) → component_of g source ≡ Some component → is_some (given_of component.shape export) ≡ true)
    → (e : ComposerError) → IsJudgeRefusal g source export need e → IsChoiceRefusal g source need name e
judge_choice g source export need name there e (inl h) = inl h
judge_choice g source export need name there e (inr h) =
    inr (inr (need_weaker need (IsUnjudged g source export need) (IsFitRefusal g source need name) (λ f j. inr (record { export = export; there = there; unjudged = j })) e h))

-- of the whole of an instance
pub judge_whole : (g : GraphTree) (source : ℕ) (need : Need) (name : Option (List ℕ)) (e : ComposerError) → IsJudgeRefusal g source None need e → IsChoiceRefusal g source need name e
judge_whole g source need name e h = judge_choice g source None need name (λ c is. refl) e h

-- of an export that it has
pub judge_export : (g : GraphTree) (source place : ℕ) (need : Need) (name : Option (List ℕ)) (s : ShapeTree) → option_map (λ (e : ComponentEntry). e.shape) (component_of g source) ≡ Some s → is_some (slice_get s.exports place) ≡ true
    → (e : ComposerError) → IsJudgeRefusal g source (Some place) need e → IsChoiceRefusal g source need name e
judge_export g source place need name s made there e h = judge_choice g source (Some place) need name by e h
  where
    given : (o : Option (List ℕ × EntityTree)) → is_some o ≡ true → is_some (option_map (λ (x : List ℕ × EntityTree). Export x.0 x.1) o) ≡ true
    given None h = h
    given (Some x) h = refl

    by : (component : ComponentEntry) → component_of g source ≡ Some component → is_some (given_of component.shape (Some place)) ≡ true
    by component is =
        let same : Some component.shape ≡ Some s = ap (option_map (λ (e : ComponentEntry). e.shape)) (sym is) ∙ made in
        let shape : component.shape ≡ s = cc in
        ap (λ (t : ShapeTree). is_some (given_of t (Some place))) shape ∙ given (slice_get s.exports place) there

-- what a search finds is there
found_there : {A : Type 0} (p : A → Bool) (xs : List A) (from i : ℕ) → position_from p from xs ≡ Some i → (n : ℕ) × (i ≡ n + from) × (is_some (slice_get xs n) ≡ true)
found_there p [] from i h = absurd cc
found_there {A} p (x ∷ xs) from i h = by (p x) h (λ later. found_there p xs (from + 1) i later)
  where
    by : (b : Bool) → cond b (Some from) (position_from p (from + 1) xs) ≡ Some i → (position_from p (from + 1) xs ≡ Some i → (n : ℕ) × (i ≡ n + (from + 1)) × (is_some (slice_get xs n) ≡ true))
        → (n : ℕ) × (i ≡ n + from) × (is_some (slice_get (x ∷ xs) n) ≡ true)
    by true h later = let is : from ≡ i = cc in (0, omega (arith, is), refl)
    by false h later = let rest = later h in (suc rest.0, omega (arith, rest.1), rest.2)

pub named_there : (s : ShapeTree) (name : List ℕ) (place : ℕ) → instance_export s name ≡ Some place → is_some (slice_get s.exports place) ≡ true
named_there s name place h =
    let found = found_there (is_instance_named name) s.exports 0 place h in
    let same : place ≡ found.0 = omega (arith, found.1) in
    ap (λ i. is_some (slice_get s.exports i)) same ∙ found.2

-- an entry of a list that is seen in another way
pub map_at : {X Y : Type 0} (f : X → Y) (xs : List X) (i : ℕ) (x : X) → i < length xs → x ≡ get_or xs i x → slice_get (map f xs) i ≡ Some (f x)
map_at f [] i x less is = absurd (omega arith)
map_at f (y ∷ xs) zero x less is = ap (λ z. Some (f z)) (sym is)
map_at f (y ∷ xs) (suc i) x less is = map_at f xs i x (omega arith) is

abbrev pub seen : List ℕ × Entity → List ℕ × EntityTree
seen e = (e.0, entity_tree e.1)

-- the entry of a place that a list has is there in what it is seen as
pub place_there : (s : ShapeTree) (xs : List (List ℕ × Entity)) (x : List ℕ × Entity) (place : ℕ) → s.exports ≡ named_entities xs → place < length xs → x ≡ get_or xs place x → is_some (slice_get s.exports place) ≡ true
place_there s xs x place exports less is = ap (λ es. is_some (slice_get es place)) exports ∙ ap is_some (map_at seen xs place x less is)

pub unfit_choice : (g : GraphTree) (source : ℕ) (need : Need) (name : Option (List ℕ)) (e : GraphError) → HasNothingFitting g source need name e
    → (told : ComposerError) → IsNeedRefusal need (λ f. f ≡ e) told → IsChoiceRefusal g source need name told
unfit_choice g source need name e nothing told says =
    inr (inr (need_weaker need (λ f. f ≡ e) (IsFitRefusal g source need name) (λ f is. inl (subst (HasNothingFitting g source need name) (sym is) nothing)) told says))

pub lacks_export : (g : GraphTree) (source : ℕ) (name : List ℕ) (s : ShapeTree) → option_map (λ (e : ComponentEntry). e.shape) (component_of g source) ≡ Some s → instance_export s name ≡ None → LacksExport g source name
lacks_export g source name s made none =
    let here = entry_there (component_of g source) s made in
    record { component = here.0; made_from = here.1; none = ap (λ (t : ShapeTree). instance_export t name) here.2 ∙ none }

pub nothing_named : (g : GraphTree) (source place : ℕ) (need : Need) (name : List ℕ) (s : ShapeTree) → IsJudged g source (Some place) need false
    → option_map (λ (e : ComponentEntry). e.shape) (component_of g source) ≡ Some s → instance_export s name ≡ Some place → HasNothingFitting g source need (Some name) refusal.NotCompatible
nothing_named g source place need name s j made found =
    let same : Some j.component.shape ≡ Some s = ap (option_map (λ (e : ComponentEntry). e.shape)) (sym j.made_from) ∙ made in
    let is : j.component.shape ≡ s = cc in
    let export : instance_export j.component.shape name ≡ Some place = ap (λ (t : ShapeTree). instance_export t name) is ∙ found in
    record {
      component = j.component;
      made_from = j.made_from;
      asked = j.asked;
      asks = j.asks;
      exported = ap is_some export;
      none = ap (option_and_then (if_fits j.component.shape j.asked)) export ∙ ap (λ b. cond b (Some (Some place)) None) j.fits;
      says = refl;
    }

pub nothing_first : (g : GraphTree) (source : ℕ) (need : Need) (j : IsJudged g source None need false) → fitting_export j.component.shape j.asked ≡ None → HasNothingFitting g source need None refusal.NotCompatible
nothing_first g source need j none = record {
  component = j.component;
  made_from = j.made_from;
  asked = j.asked;
  asks = j.asks;
  exported = tt;
  none = ap (λ b. cond b (Some None) (option_map (λ (n : ℕ). Some n) (fitting_export j.component.shape j.asked))) j.fits ∙ ap (option_map (λ (n : ℕ). Some n)) none;
  says = refl;
}

-- ---- the search for the first export that is an instance and fits

-- the exports of the component that is judged
exports_are : (g : GraphTree) (source : ℕ) (need : Need) (j : IsJudged g source None need false) (s : ShapeTree) → option_map (λ (e : ComponentEntry). e.shape) (component_of g source) ≡ Some s → j.component.shape ≡ s
exports_are g source need j s made =
    let same : Some j.component.shape ≡ Some s = ap (option_map (λ (e : ComponentEntry). e.shape)) (sym j.made_from) ∙ made in
    cc

fits_entry : (g : GraphTree) (source place : ℕ) (need : Need) (good : Bool) (j : IsJudged g source None need false) (s : ShapeTree) (xs : List (List ℕ × Entity)) (x : List ℕ × Entity)
    → option_map (λ (e : ComponentEntry). e.shape) (component_of g source) ≡ Some s → s.exports ≡ named_entities xs → place < length xs → x ≡ get_or xs place x → IsJudged g source (Some place) need good
    → fits_loosely (entity_tree x.1) j.asked ≡ good
fits_entry g source place need good j s xs x made exports less is one =
    judged_entry g source place need good j one (seen x)
    (ap (λ (t : ShapeTree). slice_get t.exports place) (exports_are g source need j s made) ∙ ap (λ es. slice_get es place) exports ∙ map_at seen xs place x less is)

and_both : (a b : Bool) → a ≡ true → b ≡ true → (a && b) ≡ true
and_both true true ha hb = refl
and_both true false ha hb = absurd cc
and_both false b ha hb = absurd cc

and_second : (a b : Bool) → b ≡ false → (a && b) ≡ false
and_second true b h = h
and_second false b h = refl

pub first_found : (g : GraphTree) (source place : ℕ) (need : Need) (j : IsJudged g source None need false) (s : ShapeTree) (xs : List (List ℕ × Entity)) (x : List ℕ × Entity)
    → option_map (λ (e : ComponentEntry). e.shape) (component_of g source) ≡ Some s → s.exports ≡ named_entities xs → place < length xs → x ≡ get_or xs place x
    → position_from (is_instance_for j.asked) place (named_entities (drop place xs)) ≡ position_from (is_instance_for j.asked) 0 (named_entities xs)
    → is_instance (entity_tree x.1) ≡ true → IsJudged g source (Some place) need true → IsChosen g source need None (Some place)
first_found g source place need j s xs x made exports less is before instance one =
    chosen_first g source place need j
    (ap (λ (t : ShapeTree). position_from (is_instance_for j.asked) 0 t.exports) (exports_are g source need j s made) ∙ ap (λ es. position_from (is_instance_for j.asked) 0 es) exports ∙ sym before
    ∙ found_here seen (is_instance_for j.asked) xs place x less is
    (and_both (is_instance (entity_tree x.1)) (fits_loosely (entity_tree x.1) j.asked) instance (fits_entry g source place need true j s xs x made exports less is one)))

pub unfit_passed : (g : GraphTree) (source place : ℕ) (need : Need) (j : IsJudged g source None need false) (s : ShapeTree) (xs : List (List ℕ × Entity)) (x : List ℕ × Entity)
    → option_map (λ (e : ComponentEntry). e.shape) (component_of g source) ≡ Some s → s.exports ≡ named_entities xs → place < length xs → x ≡ get_or xs place x → IsJudged g source (Some place) need false
    → position_from (is_instance_for j.asked) place (named_entities (drop place xs)) ≡ position_from (is_instance_for j.asked) (place + 1) (named_entities (drop (place + 1) xs))
unfit_passed g source place need j s xs x made exports less is one =
    passed_by seen (is_instance_for j.asked) xs place x less is
    (and_second (is_instance (entity_tree x.1)) (fits_loosely (entity_tree x.1) j.asked) (fits_entry g source place need false j s xs x made exports less is one))

pub other_passed : (asked : EntityTree) (place : ℕ) (xs : List (List ℕ × Entity)) (x : List ℕ × Entity) → place < length xs → x ≡ get_or xs place x → is_instance (entity_tree x.1) ≡ false
    → position_from (is_instance_for asked) place (named_entities (drop place xs)) ≡ position_from (is_instance_for asked) (place + 1) (named_entities (drop (place + 1) xs))
other_passed asked place xs x less is not_one = passed_by seen (is_instance_for asked) xs place x less is (ap (λ b. b && fits_loosely (entity_tree x.1) asked) not_one)
