-- What a client learns where it bundles a component: contents that are components, by a store that stays its own.
use Rattle.std.proofs.Common.{◌≡◌, ◌∙◌, ◌⊎◌, ℕ, Bool, true, false, cond, List, [], ◌∷◌, Some, None, Result, bytes_eq, refl, sym, ap, subst, inl, inr}
use Rattle.std.specs.Map.{lookup}
use Rattle.std.proofs.lemmas.Slice.Eq.{bytes_eq-Decides}
use Rattle.indexmap.specs.IndexMap.{insert_entry}
use Rattle.sha2.specs.Sha256.{sha256}
use Rattle.warg_api.specs.Link.{Asked}
use Rattle.warg_plan.specs.Known.{with_content}
use Rattle.warg_plan.specs.Walk.{Content, Facts, NeedsLog, Stop, nothing_known}
use Rattle.warg_assemble.specs.Known.{Known}
use Rattle.warg_assemble.specs.Parts.{Loaded, Part, Updated, learnt}
use Rattle.warg_bundle.specs.Bundle.{IsBundleFault, IsOfComponent, IsReleaseBundle, IsUnbundled, IsUnread, contents_for}
use Rattle.warg_bundle.specs.Contents.{AreLearnt, HasGoneOn, HasLearnt, IsForgotten, IsUnanswered}
use Rattle.warg_bundle.specs.declared.error.BundleError.{BundleError}
use Rattle.warg_bundle.specs.declared.error.BundleError.TheVariants as bundle
use Rattle.warg_learn.specs.Learnt.{IsReadPart}
use Rattle.warg_learn.specs.Recalled.{IsNeitherLearnt, IsRecalledOrLearnt, Learnt, Lesson, Recalled, taught}
use Rattle.warg_learn.specs.RecalledLaws.{IsAfter, lesson_known, refused_own}
use Rattle.warg_learn.specs.SearchError.{SearchError}
use Rattle.warg_learn.specs.SearchError.TheVariants as search
use Rattle.warg_learn.specs.Seen.{IsKnown, Seen}
use Rattle.warg_learn.specs.Stored.{IsOwnStore}
use Rattle.warg_learn.specs.declared.error.LearnError.{LearnError}
use Rattle.warg_compose.specs.Read.{IsComponent}
use Rattle.warg_compose.specs.Wired.{AreOfComponents}

-- ---- contents that are components

some_is : (a b : Content) → Some a ≡ Some b → a ≡ b
some_is a b e = cc

-- what is found among entries with one more is that one, or was found before
found_in : (q d : List ℕ) (c y : Content) (es : List (List ℕ × Content)) → lookup (λ k. bytes_eq q k) (insert_entry bytes_eq es d c) ≡ Some y → ((q ≡ d) × (c ≡ y)) ⊎ (lookup (λ k. bytes_eq q k) es ≡ Some y)
found_in q d c y [] e = by (bytes_eq q d) refl e
  where
    by : (b : Bool) → bytes_eq q d ≡ b → cond b (Some c) None ≡ Some y → ((q ≡ d) × (c ≡ y)) ⊎ (None ≡ Some y)
    by true is e = inl ((bytes_eq-Decides q d).0 is, some_is c y e)
    by false is e = inr e
found_in q d c y (x ∷ es) e = by (bytes_eq d x.0) refl e (found_in q d c y es)
  where
    here : (b : Bool) → bytes_eq q x.0 ≡ b → d ≡ x.0 → cond b (Some c) (lookup (λ k. bytes_eq q k) es) ≡ Some y → ((q ≡ d) × (c ≡ y)) ⊎ (cond b (Some x.1) (lookup (λ k. bytes_eq q k) es) ≡ Some y)
    here true is same e = inl ((bytes_eq-Decides q x.0).0 is ∙ sym same, some_is c y e)
    here false is same e = inr e

    behind : (b : Bool) → cond b (Some x.1) (lookup (λ k. bytes_eq q k) (insert_entry bytes_eq es d c)) ≡ Some y → (lookup (λ k. bytes_eq q k) (insert_entry bytes_eq es d c) ≡ Some y → ((q ≡ d) × (c ≡ y)) ⊎ (lookup (λ k. bytes_eq q k) es ≡ Some y))
        → ((q ≡ d) × (c ≡ y)) ⊎ (cond b (Some x.1) (lookup (λ k. bytes_eq q k) es) ≡ Some y)
    behind true e later = inr e
    behind false e later = later e

    by : (b : Bool) → bytes_eq d x.0 ≡ b → lookup (λ k. bytes_eq q k) (cond b ((x.0, c) ∷ es) (x ∷ insert_entry bytes_eq es d c)) ≡ Some y → (lookup (λ k. bytes_eq q k) (insert_entry bytes_eq es d c) ≡ Some y → ((q ≡ d) × (c ≡ y)) ⊎ (lookup (λ k. bytes_eq q k) es ≡ Some y))
        → ((q ≡ d) × (c ≡ y)) ⊎ (lookup (λ k. bytes_eq q k) (x ∷ es) ≡ Some y)
    by true is e later = here (bytes_eq q x.0) refl ((bytes_eq-Decides d x.0).0 is) e
    by false is e later = behind (bytes_eq q x.0) e later

components_with : (f : Facts) (d : List ℕ) (c : Content) → AreOfComponents f → sha256 c.bytes ≡ d → IsComponent c → AreOfComponents (with_content f d c)
components_with f d c are digest component = record {
  digests = λ q y known. by_digest q y (found_in q d c y f.contents known);
  components = λ q y known. by_component q y (found_in q d c y f.contents known);
}
  where
    by_digest : (q : List ℕ) (y : Content) → ((q ≡ d) × (c ≡ y)) ⊎ (lookup (λ k. bytes_eq q k) f.contents ≡ Some y) → sha256 y.bytes ≡ q
    by_digest q y (inl e) = ap (λ (x : Content). sha256 x.bytes) (sym e.1) ∙ digest ∙ sym e.0
    by_digest q y (inr e) = are.digests q y e

    by_component : (q : List ℕ) (y : Content) → ((q ≡ d) × (c ≡ y)) ⊎ (lookup (λ k. bytes_eq q k) f.contents ≡ Some y) → IsComponent y
    by_component q y (inl e) = subst IsComponent e.1 component
    by_component q y (inr e) = are.components q y e

part_components : (f : Facts) (p : Part) → AreOfComponents f → IsReadPart IsComponent p → AreOfComponents (learnt f p)
part_components f (Updated u) are read = record { digests = are.digests; components = are.components }
part_components f (Loaded l) are read = components_with f l.digest l.content are read.digest read.reads

module _ {T D : Type 0} (Steps : T → Asked → T → Type 0) where
  abbrev Learns : Seen T D → Stop → Lesson → Seen T D → Type 0
  Learns = IsRecalledOrLearnt Steps IsComponent

  pub lesson_components : (f : Facts) (old new : Seen T D) (asked : Stop) (lesson : Lesson) → Learns old asked lesson new → AreOfComponents f → AreOfComponents (taught f lesson)
  lesson_components f old new (NeedsLog name) (Recalled k) h are = record { digests = are.digests; components = are.components }
  lesson_components f old new (NeedsLog name) (Learnt p) h are = part_components f p are h.learns.content
  lesson_components f old new asked (Learnt p) h are = part_components f p are h.content
  lesson_components f old new asked (Recalled k) h are = absurd h

  -- ---- the store of registries

  pub same_own : (old new : Seen T D) (known : Known) → IsKnown old known → new ≡ old → IsOwnStore old.accepts new.registries
  same_own old new known knows same = subst (λ (s : Seen T D). IsOwnStore old.accepts s.registries) (sym same) knows.stores.own

  after_own : (old new : Seen T D) → IsAfter old new → IsOwnStore old.accepts new.registries
  after_own old new after = subst (λ a. IsOwnStore a new.registries) after.accepts after.knows.stores.own

  module _ {X : Type 0} (answer : Facts → Result X Stop) where
    lessons_after : (f : Facts) (old new : Seen T D) (lessons : List Lesson) (known : Known) → IsKnown old known → AreLearnt taught answer Learns f old lessons new → IsAfter old new
    unfolding AreLearnt
    lessons_after f old new [] known knows are = record { known = known; knows = subst (λ s. IsKnown s known) (sym are) knows; accepts = ap (λ (s : Seen T D). s.accepts) are }
    lessons_after f old new (l ∷ ls) known knows are =
        let one = lesson_known Steps IsComponent old are.0 are.1.stop l known knows are.1.learns in
        let all = lessons_after (taught f l) are.0 new ls one.known one.knows are.2 in
        record { known = all.known; knows = all.knows; accepts = all.accepts ∙ one.accepts }

    pub learnt_own : (f g : Facts) (old new : Seen T D) (known : Known) → IsKnown old known → HasLearnt taught answer Learns f old g new → IsOwnStore old.accepts new.registries
    learnt_own f g old new known knows h = after_own old new (lessons_after f old new h.lessons known knows h.are)

    gone_own : (f : Facts) (old new : Seen T D) (known : Known) → IsKnown old known → HasGoneOn taught answer Learns f old new → IsOwnStore old.accepts new.registries
    gone_own f old new known knows h = by h.last
      where
        after : IsAfter old h.between
        after = lessons_after f old h.between h.learnt.lessons known knows h.learnt.are

        by : (new ≡ h.between) ⊎ IsForgotten taught answer Learns h.facts h.between new → IsOwnStore old.accepts new.registries
        by (inl same) = subst (λ (s : Seen T D). IsOwnStore old.accepts s.registries) (sym same) (after_own old h.between after)
        by (inr l) =
            let one = lesson_known Steps IsComponent h.between new l.stop l.lesson after.known after.knows l.learns in
            subst (λ a. IsOwnStore a new.registries) (one.accepts ∙ after.accepts) one.knows.stores.own

    module _ {E : Type 0} (said : D → D → Bool → Bool) (Refuses : List ℕ → E → Type 0) where
      unanswered_own : (f : Facts) (old new : Seen T D) (known : Known) (e : SearchError (LearnError E)) → IsKnown old known → IsUnanswered taught answer Learns (IsNeitherLearnt Steps said Refuses) f old new e → IsOwnStore old.accepts new.registries
      unanswered_own f old new known (search.NoPlan stop) knows h = learnt_own f h.facts old new known knows h.learnt
      unanswered_own f old new known (search.Refused e) knows h =
          let after = lessons_after f old h.before h.learnt.lessons known knows h.learnt.are in
          subst (λ a. IsOwnStore a new.registries) after.accepts (refused_own Steps IsComponent said Refuses h.before new h.stop e after.known after.knows h.refuses)
      unanswered_own f old new known search.Memory knows h = gone_own f old new known knows h

  module _ {E : Type 0} (said : D → D → Bool → Bool) (Refuses : List ℕ → E → Type 0) (old new : Seen T D) (bytes : List ℕ) (known : Known) (knows : IsKnown old known) where
    abbrev Refused : Seen T D → Stop → LearnError E → Seen T D → Type 0
    Refused = IsNeitherLearnt Steps said Refuses

    unread_own : (e : BundleError (LearnError E)) → IsUnread taught Learns Refused old new bytes e → IsOwnStore old.accepts new.registries
    unread_own (bundle.BadComponent e) h = same_own old new known knows h.0
    unread_own bundle.Memory h = same_own old new known knows h
    unread_own (bundle.Search e) h = absurd h
    unread_own (bundle.TooLarge n) h = absurd h

    component_own : (e : BundleError (LearnError E)) → IsOfComponent taught Learns Refused old new bytes e → IsOwnStore old.accepts new.registries
    component_own e h = by e h.cause
      where
        by : (e : BundleError (LearnError E)) → IsUnbundled taught Learns Refused old new bytes h.items e → IsOwnStore old.accepts new.registries
        by (bundle.BadComponent e) c = absurd c
        by (bundle.Search e) c = unanswered_own (contents_for h.items) said Refuses nothing_known old new known e knows c
        by (bundle.TooLarge n) c = learnt_own (contents_for h.items) nothing_known c.facts old new known knows c.learnt.learnt
        by bundle.Memory c = gone_own (contents_for h.items) nothing_known old new known knows c

    pub refusal_own : (e : BundleError (LearnError E)) → IsBundleFault taught Learns Refused old new bytes e → IsOwnStore old.accepts new.registries
    refusal_own e (inl h) = unread_own e h
    refusal_own e (inr h) = component_own e h

  pub bundle_own : (old new : Seen T D) (bytes out : List ℕ) (known : Known) → IsKnown old known → IsReleaseBundle taught Learns old new bytes out → IsOwnStore old.accepts new.registries
  bundle_own old new bytes out known knows h = learnt_own (contents_for h.items) nothing_known h.facts old new known knows h.learnt.learnt
