-- What is judged of a connection, and what is chosen by that.
use Rattle.std.proofs.Common.{◌≡◌, ℕ, Bool, true, false, cond, List, Option, Some, None, option_map, option_and_then, is_some, slice_get, refl, sym, ap, ◌∙◌, eqb}
use Rattle.comp_entity.specs.Entity.{EntityTree, ShapeTree}
use Rattle.comp_entity.specs.Fits.{fits_loosely}
use Rattle.compose_fit.specs.Wires.{Given, Export, given_of}
use Rattle.compose_graph.specs.Graph.{ComponentEntry, ConnectFault, GraphTree, NotCompatible, SelfConnection, component_of, connect_fault, connection_into, fault_between, fault_of_import, fault_of_offer, given_entity}
use Rattle.compose_files.specs.Built.{IsChosen, IsJudged, Need, connection}
use Rattle.compose_files.specs.Choice.{fits_at, fitting_export, given_fits, if_fits, instance_export}

abbrev pub judgement : Bool → Option ConnectFault
judgement good = cond good None (Some NotCompatible)

-- what a judgement of an offer says
pub offer_judged : (asked : EntityTree) (given : Option Given) (good : Bool) → fault_of_offer asked given ≡ judgement good → given_fits asked given ≡ good
offer_judged asked None true e = absurd cc
offer_judged asked None false e = absurd cc
offer_judged asked (Some given) good e = by (fits_loosely (given_entity given) asked) good e
  where
    by : (fits answer : Bool) → cond fits None (Some NotCompatible) ≡ judgement answer → fits ≡ answer
    by true true e = refl
    by true false e = absurd cc
    by false true e = absurd cc
    by false false e = refl

judged_at : (g : GraphTree) (source : ℕ) (export : Option ℕ) (need : Need) (good : Bool) (same taken : Bool) (s t : Option ComponentEntry) → component_of g source ≡ s → component_of g need.target ≡ t
    → cond same (Some SelfConnection) (fault_between taken (connection source export need) s t) ≡ judgement good → IsJudged g source export need good
judged_at g source export need true true taken s t from to e = absurd cc
judged_at g source export need false true taken s t from to e = absurd cc
judged_at g source export need true false taken None t from to e = absurd cc
judged_at g source export need false false taken None t from to e = absurd cc
judged_at g source export need true false taken (Some s) None from to e = absurd cc
judged_at g source export need false false taken (Some s) None from to e = absurd cc
judged_at g source export need good false taken (Some s) (Some t) from to e = by (slice_get t.shape.imports need.place) refl taken good e
  where
    by : (i : Option (List ℕ × EntityTree)) → slice_get t.shape.imports need.place ≡ i → (taken good : Bool) → fault_of_import taken s.shape (connection source export need) i ≡ judgement good → IsJudged g source export need good
    by None is taken true e = absurd cc
    by None is taken false e = absurd cc
    by (Some i) is true true e = absurd cc
    by (Some i) is true false e = absurd cc
    by (Some i) is false good e = record {
      component = s;
      made_from = from;
      asked = i.1;
      asks = ap (λ o. option_map (λ (x : List ℕ × EntityTree). x.1) (option_and_then (λ (c : ComponentEntry). slice_get c.shape.imports need.place) o)) to ∙ ap (option_map (λ (x : List ℕ × EntityTree). x.1)) is;
      fits = offer_judged i.1 (given_of s.shape export) good e;
    }

-- a connection that is judged as good, or as not compatible
pub judged : (g : GraphTree) (source : ℕ) (export : Option ℕ) (need : Need) (good : Bool) → connect_fault g (connection source export need) ≡ judgement good → IsJudged g source export need good
judged g source export need good e =
    judged_at g source export need good (eqb source need.target) (is_some (connection_into g.connections need.target need.place)) (component_of g source) (component_of g need.target) refl refl e

-- the export that is named
pub chosen_named : (g : GraphTree) (source place : ℕ) (need : Need) (name : List ℕ) (shape : ShapeTree) → IsJudged g source (Some place) need true → option_map (λ (c : ComponentEntry). c.shape) (component_of g source) ≡ Some shape
    → instance_export shape name ≡ Some place → IsChosen g source need (Some name) (Some place)
chosen_named g source place need name shape j there found =
    let same : Some j.component.shape ≡ Some shape = ap (option_map (λ (c : ComponentEntry). c.shape)) (sym j.made_from) ∙ there in
    let is : j.component.shape ≡ shape = cc in
    record {
      component = j.component;
      made_from = j.made_from;
      asked = j.asked;
      asks = j.asks;
      chosen = ap (λ s. option_and_then (if_fits j.component.shape j.asked) (instance_export s name)) is
          ∙ ap (option_and_then (if_fits j.component.shape j.asked)) found ∙ ap (λ b. cond b (Some (Some place)) None) j.fits;
    }

-- the instance as a whole
pub chosen_whole : (g : GraphTree) (source : ℕ) (need : Need) → IsJudged g source None need true → IsChosen g source need None None
chosen_whole g source need j = record {
  component = j.component;
  made_from = j.made_from;
  asked = j.asked;
  asks = j.asks;
  chosen = ap (λ b. cond b (Some None) (option_map (λ (n : ℕ). Some n) (fitting_export j.component.shape j.asked))) j.fits;
}

-- the first export that is an instance and fits
pub chosen_first : (g : GraphTree) (source place : ℕ) (need : Need) (j : IsJudged g source None need false) → fitting_export j.component.shape j.asked ≡ Some place → IsChosen g source need None (Some place)
chosen_first g source place need j found = record {
  component = j.component;
  made_from = j.made_from;
  asked = j.asked;
  asks = j.asks;
  chosen = ap (λ b. cond b (Some None) (option_map (λ (n : ℕ). Some n) (fitting_export j.component.shape j.asked))) j.fits ∙ ap (option_map (λ (n : ℕ). Some n)) found;
}

-- what is judged of one export is whether its entity fits what was asked for
pub judged_entry : (g : GraphTree) (source place : ℕ) (need : Need) (good : Bool) (whole : IsJudged g source None need false) → IsJudged g source (Some place) need good
    → (e : List ℕ × EntityTree) → slice_get whole.component.shape.exports place ≡ Some e → fits_loosely e.1 whole.asked ≡ good
judged_entry g source place need good whole j e there =
    let one : Some whole.component ≡ Some j.component = sym whole.made_from ∙ j.made_from in
    let component : whole.component ≡ j.component = cc in
    let both : Some whole.asked ≡ Some j.asked = sym whole.asks ∙ j.asks in
    let asked : whole.asked ≡ j.asked = cc in
    sym (ap (λ (o : Option (List ℕ × EntityTree)). given_fits whole.asked (option_map (λ (x : List ℕ × EntityTree). Export x.0 x.1) o)) there)
    ∙ (λ k. fits_at (component k).shape (asked k) (Some place)) ∙ j.fits
