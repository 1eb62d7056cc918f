-- What is known of a learner that goes by what is kept, after its lessons.
use Rattle.std.proofs.Common.{◌≡◌, ℕ, Bool, inl, inr, List, [], ◌∷◌, bytes_eq, sym, ap, subst, ◌∙◌}
use Rattle.std.specs.Map.{lookup}
use Rattle.warg_api.specs.Link.{Asked}
use Rattle.warg_plan.specs.Walk.{Content, Facts, Stop, NeedsLog, nothing_known}
use Rattle.warg_assemble.specs.Known.{Known}
use Rattle.warg_assemble.specs.Parts.{known_after}
use Rattle.warg_assemble.specs.Session.{Wanted}
use Rattle.warg_fetch.specs.Stored.{IsOwnStore}
use Rattle.warg_fetch.specs.StoredLaws.{knows_still, own_still}
use Rattle.warg_search.specs.Search.{AreLearnt, IsSearchRefusal}
use Rattle.warg_search.specs.declared.error.SearchError.{SearchError}
use Rattle.warg_search.specs.declared.error.SearchError.TheVariants as search
use Rattle.warg_learn.specs.Recalled.{AsksStores, IsNeitherLearnt, IsRecalledOrLearnt, Lesson, Learnt, Recalled, known_with, taught}
use Rattle.warg_learn.specs.Seen.{Seen, IsKnown}
use Rattle.warg_learn.specs.declared.error.LearnError.{LearnError}

-- ---- stores that were asked

module _ {T D : Type 0} (old new : Seen T D) where
  -- what is known of stores that were asked
  pub known_still : (known : Known) → AsksStores old new → new.updated ≡ old.updated → IsKnown old known → IsKnown new known
  known_still known asks updated k = record {
    stores = record {
      registries = knows_still known old.registries new.registries k.stores.registries asks.registries;
      own = subst (λ a. IsOwnStore a new.registries) (sym asks.same.accepts) (own_still old.accepts old.registries new.registries k.stores.own asks.registries);
      namespaces = record { held = k.stores.namespaces.held; tells = asks.names ∙ k.stores.namespaces.tells; mapped = k.stores.namespaces.mapped };
    };
    contents = record { held = k.contents.held; tells = asks.contents ∙ k.contents.tells; contents = k.contents.contents };
    updated = λ n. k.updated n ∙ ap (λ es. lookup (λ m. bytes_eq n m) es) (sym updated);
  }

-- this is known now, by the same signatures as before
pub record IsAfter {T D : Type 0} (old new : Seen T D) : Type 0 where
  pub known : Known
  pub knows : IsKnown new known
  pub accepts : new.accepts ≡ old.accepts

module _ {T D : Type 0} (Steps : T → Asked → T → Type 0) (Reads : Content → Type 0) where
  -- after a lesson something is known still
  pub lesson_known : (old new : Seen T D) (asked : Stop) (lesson : Lesson) (known : Known) → IsKnown old known → IsRecalledOrLearnt Steps Reads old asked lesson new → IsAfter old new
  lesson_known old new (NeedsLog name) (Recalled k) known knows h =
      record { known = known_with known k; knows = (h.1.kept known knows).knows; accepts = h.1.asks.same.accepts }
  lesson_known old new (NeedsLog name) (Learnt p) known knows h =
      let between = known_still old h.between known h.unkept.asks h.unkept.updated knows in
      record {
        known = known_after known p;
        knows = (h.learns.right known between).knows;
        accepts = h.learns.same.accepts ∙ h.unkept.asks.same.accepts;
      }
  lesson_known old new asked (Learnt p) known knows h = record { known = known_after known p; knows = (h.right known knows).knows; accepts = h.same.accepts }
  lesson_known old new asked (Recalled k) known knows h = absurd h

  module _ (w : Wanted) where
    -- after lessons something is known still
    pub lessons_known : (f : Facts) (old new : Seen T D) (lessons : List Lesson) (known : Known) → IsKnown old known → AreLearnt taught w (IsRecalledOrLearnt Steps Reads) f old lessons new → IsAfter old new
    unfolding AreLearnt
    lessons_known f old new [] known knows are = record { known = known; knows = subst (λ s. IsKnown s known) (sym are) knows; accepts = ap (λ (s : Seen T D). s.accepts) are }
    lessons_known f old new (l ∷ ls) known knows are =
        let one = lesson_known old are.0 are.1.stop l known knows are.1.learns in
        let all = lessons_known (taught f l) are.0 new ls one.known one.knows are.2 in
        record { known = all.known; knows = all.knows; accepts = all.accepts ∙ one.accepts }

    -- so is its store its client's own still
    pub lessons_own : (f : Facts) (old new : Seen T D) (lessons : List Lesson) (known : Known) → IsKnown old known → AreLearnt taught w (IsRecalledOrLearnt Steps Reads) f old lessons new → IsOwnStore old.accepts new.registries
    lessons_own f old new lessons known knows are =
        let after = lessons_known f old new lessons known knows are in
        subst (λ a. IsOwnStore a new.registries) after.accepts after.knows.stores.own

  module _ {E : Type 0} (said : D → D → Bool → Bool) (Refuses : List ℕ → E → Type 0) where
    -- where something is refused, the store of registries is its client's own still
    pub refused_own : (old new : Seen T D) (asked : Stop) (e : LearnError E) (known : Known) → IsKnown old known → IsNeitherLearnt Steps said Refuses old asked e new → IsOwnStore old.accepts new.registries
    refused_own old new (NeedsLog name) e known knows (inl h) = own_still old.accepts old.registries new.registries knows.stores.own h.asks.registries
    refused_own old new (NeedsLog name) e known knows (inr h) =
        subst (λ a. IsOwnStore a new.registries) h.unkept.asks.same.accepts (h.refused.own known (known_still old h.between known h.unkept.asks h.unkept.updated knows))
    refused_own old new asked e known knows h = h.own known knows

    -- where a search ends without a plan, the store of registries is its client's own still
    pub search_own : (w : Wanted) (old new : Seen T D) (e : SearchError (LearnError E)) (known : Known) → IsKnown old known → IsSearchRefusal taught w (IsRecalledOrLearnt Steps Reads) (IsNeitherLearnt Steps said Refuses) old new e → IsOwnStore old.accepts new.registries
    search_own w old new (search.NoPlan stop) known knows h = lessons_own w nothing_known old new h.parts known knows h.are
    search_own w old new (search.Refused e) known knows h =
        let after = lessons_known w nothing_known old h.before h.parts known knows h.are in
        subst (λ a. IsOwnStore a new.registries) after.accepts (refused_own h.before new h.stop e after.known after.knows h.refuses)
    search_own w old new search.Memory known knows h = lessons_own w nothing_known old new h.parts known knows h.are
