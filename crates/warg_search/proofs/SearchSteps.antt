-- How a search goes on, and how it ends.
use Rattle.std.proofs.Common.{◌≡◌, ℕ, List, [], ◌∷◌, ◌++◌, Option, Some, IfSome, Result, Ok, Err, refl, sym, ap, subst, ◌∙◌, inl, inr}
use Rattle.std.specs.Prelude.{fold}
use Rattle.warg_hash.specs.declared.hash.AnyHash.{AnyHash}
use Rattle.warg_hash.specs.declared.name.PackageName.{PackageName}
use Rattle.warg_plan.specs.CauseLaws.{asked_unknown}
use Rattle.warg_plan.specs.FactLaws.{content_more, log_more}
use Rattle.warg_plan.specs.Keys.{Key, Release}
use Rattle.warg_plan.specs.Known.{Extends, with_content, with_log}
use Rattle.warg_plan.specs.Onward.{IsOnTheWay}
use Rattle.warg_plan.specs.OnwardLaws.{still_on_way}
use Rattle.warg_plan.specs.Walk.{Content, Facts, NeedsContent, NeedsLog, Stop, Entry, node_of, nothing_known, walk}
use Rattle.warg_plan.specs.View.{stop_view}
use Rattle.warg_plan.specs.declared.stop.Stop.{Stop as Stopped}
use Rattle.warg_plan.specs.declared.stop.Stop.TheVariants as stopped
use Rattle.warg_assemble.specs.Session.{Wanted, walked}
use Rattle.warg_search.specs.Search.{AreLearnt, AsksFor, IsUnderWay, HasLearnt, Finds, IsSearchRefusal}
use Rattle.warg_search.specs.SearchLaws.{learnt_more, learns_by}
use Rattle.warg_search.specs.Steps.{IsStep, IsStepFault}
use Rattle.warg_search.specs.declared.error.SearchError.{SearchError}
use Rattle.warg_search.specs.declared.error.SearchError.TheVariants as error

-- a stop that asks for nothing, and is no want of memory, is one of the walk's
pub told_by : (s : Stopped) → (s ≡ stopped.Memory → ⊥) → ((name : PackageName) → s ≡ stopped.NeedsLog name → ⊥) → ((name : PackageName) (digest : AnyHash) → s ≡ stopped.NeedsContent name digest → ⊥)
    → (told : Stop) × (stop_view s ≡ Some told) × (AsksFor told → ⊥)
told_by stopped.Memory memory log content = absurd (memory refl)
told_by (stopped.NeedsLog name) memory log content = absurd (log name refl)
told_by (stopped.NeedsContent name digest) memory log content = absurd (content name digest refl)
told_by (stopped.NoPackage key) memory log content = (_, refl, λ asks. asks)
told_by (stopped.NoRelease name) memory log content = (_, refl, λ asks. asks)
told_by (stopped.BadImportName name) memory log content = (_, refl, λ asks. asks)
told_by (stopped.NoSuchImport key name) memory log content = (_, refl, λ asks. asks)
told_by (stopped.Cycle key) memory log content = (_, refl, λ asks. asks)
told_by stopped.TooDeep memory log content = (_, refl, λ asks. asks)

module _ {T P : Type 0} (teaches : Facts → P → Facts) (Learns : T → Stop → P → T → Type 0) (old new : T) (f g : Facts) where
  -- a log that is learnt by a lesson is known from then on
  pub log_step : (name : List ℕ) (log : List Release) (lesson : P) → ((facts : Facts) → teaches facts lesson ≡ with_log facts name log) → Learns old (NeedsLog name) lesson new → g ≡ with_log f name log → IsStep teaches Learns (NeedsLog name) old new f g
  log_step name log lesson taught learns added = record {
    part = lesson;
    learns = learns;
    knows = added ∙ sym (taught f);
    more = λ unknown. subst (Extends f) (sym added) (log_more f name log unknown);
  }

  -- and so is a content
  pub content_step : (name digest : List ℕ) (c : Content) (lesson : P) → ((facts : Facts) → teaches facts lesson ≡ with_content facts digest c) → Learns old (NeedsContent name digest) lesson new → g ≡ with_content f digest c
      → IsStep teaches Learns (NeedsContent name digest) old new f g
  content_step name digest c lesson taught learns added = record {
    part = lesson;
    learns = learns;
    knows = added ∙ sym (taught f);
    more = λ unknown. subst (Extends f) (sym added) (content_more f digest c unknown);
  }

some_told : {X : Type 0} (P : X → Type 0) (o : Option X) (x : X) → o ≡ Some x → IfSome o P → P x
some_told P o x e h = subst (λ o. IfSome o P) e h

module _ {T P : Type 0} (teaches : Facts → P → Facts) (w : Wanted) (Learns : T → Stop → P → T → Type 0) (old : T) where
  -- the walk over what is known is the one over what was learnt
  seen : (now : T) (f : Facts) (r : Result (List Entry) Stop) → (u : IsUnderWay teaches w Learns old now f) → walked w f ≡ r → walked w (fold teaches nothing_known u.parts) ≡ r
  seen now f r u e = ap (walked w) (sym u.knows) ∙ e

  pub finds_by : (now : T) (f : Facts) (es : List Entry) → IsUnderWay teaches w Learns old now f → walked w f ≡ Ok es → Finds teaches w Learns old now es
  finds_by now f es u e = record { parts = u.parts; are = u.are; finds = seen now f (Ok es) u e }

  -- a part that is learnt where the walk stops is the next
  learnt_next : (mid new : T) (f : Facts) (stop : Stop) (p : P) → (u : IsUnderWay teaches w Learns old mid f) → walked w f ≡ Err stop → Learns mid stop p new
      → AreLearnt teaches w Learns nothing_known old (u.parts ++ p ∷ []) new
  learnt_next mid new f stop p u e learns =
      learnt_more teaches w Learns nothing_known old mid new u.parts p u.are (record { stop = stop; stops = seen mid f (Err stop) u e; learns = learns })

  pub goes_on : (mid new : T) (f g : Facts) (stop : Stopped) → IsUnderWay teaches w Learns old mid f → IfSome (stop_view stop) (λ s. walked w f ≡ Err s)
      → (asked : Stop) → stop_view stop ≡ Some asked → IsStep teaches Learns asked mid new f g → IsUnderWay teaches w Learns old new g
  goes_on mid new f g stop u stops asked told step = record {
    parts = u.parts ++ step.part ∷ [];
    are = learnt_next mid new f asked step.part u (some_told (λ s. walked w f ≡ Err s) (stop_view stop) asked told stops) step.learns;
    knows = step.knows ∙ ap (λ f. teaches f step.part) u.knows ∙ sym (learns_by teaches w Learns nothing_known u.parts step.part);
  }

  pub same_learnt : (mid new : T) (f : Facts) → new ≡ mid → IsUnderWay teaches w Learns old mid f → HasLearnt teaches w Learns old new
  same_learnt mid new f same u = record { parts = u.parts; are = subst (λ t. AreLearnt teaches w Learns nothing_known old u.parts t) (sym same) u.are }

  pub refused_by : {E : Type 0} (Refuses : T → Stop → E → T → Type 0) (mid new : T) (f : Facts) (stop : Stopped) (e : SearchError E) → IsUnderWay teaches w Learns old mid f
      → IfSome (stop_view stop) (λ s. walked w f ≡ Err s) → IsStepFault teaches Learns Refuses stop mid new e → IsSearchRefusal teaches w Learns Refuses old new e
  refused_by Refuses mid new f stop (error.NoPlan s) u stops h = record {
    parts = u.parts;
    are = subst (λ t. AreLearnt teaches w Learns nothing_known old u.parts t) (sym h.4) u.are;
    told = h.0;
    says = h.1;
    final = h.2;
    stops = seen mid f (Err h.0) u (some_told (λ s. walked w f ≡ Err s) (stop_view stop) h.0 (ap stop_view (sym h.3) ∙ h.1) stops);
  }
  refused_by Refuses mid new f stop (error.Refused e) u stops h = record {
    parts = u.parts;
    before = mid;
    are = u.are;
    stop = h.0;
    stops = seen mid f (Err h.0) u (some_told (λ s. walked w f ≡ Err s) (stop_view stop) h.0 h.1 stops);
    refuses = h.2;
  }
  refused_by Refuses mid new f stop error.Memory u stops (inl same) = same_learnt mid new f same u
  refused_by Refuses mid new f stop error.Memory u stops (inr h) = record {
    parts = u.parts ++ h.2.part ∷ [];
    are = learnt_next mid new f h.0 h.2.part u (some_told (λ s. walked w f ≡ Err s) (stop_view stop) h.0 h.1 stops) h.2.learns;
  }

module _ {T P : Type 0} (teaches : Facts → P → Facts) (w : Wanted) (Learns : T → Stop → P → T → Type 0) where
  -- what the walk has found where it stopped is on its way still, once what it asked for is learnt
  pub walks_on : (mid new : T) (f g : Facts) (root : Key) (es : List Entry) (stop : Stopped) → IfSome (stop_view stop) (λ s. walk (node_of w.settings f) w.depth root ≡ Err s)
      → IfSome (stop_view stop) (λ s. IsOnTheWay w.settings f w.depth root es) → (asked : Stop) → stop_view stop ≡ Some asked → IsStep teaches Learns asked mid new f g → IsOnTheWay w.settings g w.depth root es
  walks_on mid new f g root es stop stops way asked told step =
      let says = some_told (λ s. walk (node_of w.settings f) w.depth root ≡ Err s) (stop_view stop) asked told stops in
      let here = some_told (λ s. IsOnTheWay w.settings f w.depth root es) (stop_view stop) asked told way in
      still_on_way w.settings f g w.depth root es (step.more (asked_unknown w.settings f w.depth root asked says)) here
