-- Lessons in turn: one more, and those for one release among those for all.
use Rattle.std.proofs.Common.{◌≡◌, ◌∙◌, ◌+◌, ◌<◌, ℕ, zero, suc, List, length, take, drop, get_or, arith, [], ◌∷◌, ◌++◌, ◌⊎◌, Option, Some, IfSome, Result, Ok, Err, refl, sym, ap, subst, inl, inr}
use Rattle.std.specs.Prelude.{fold}
use Rattle.std.proofs.lemmas.List.{map-append, take_more}
use Rattle.warg_names.specs.Import.{ImportTree}
use Rattle.warg_names.specs.View.{import_tree}
use Rattle.warg_plan.specs.FactLaws.{extends_itself, extends_twice}
use Rattle.warg_plan.specs.Known.{Extends, IsUnknown}
use Rattle.warg_plan.specs.View.{stop_view}
use Rattle.warg_plan.specs.Walk.{Content, Facts, Stop}
use Rattle.warg_plan.specs.declared.stop.Stop.{Stop as Stopped}
use Rattle.warg_search.specs.Steps.{IsStep, IsStepFault}
use Rattle.warg_search.specs.declared.error.SearchError.{SearchError}
use Rattle.warg_search.specs.declared.error.SearchError.TheVariants as search
use Rattle.warg_bundle.specs.Contents.{AreLearnt, HasGoneOn, HasLearnt, IsAnswered, IsForgotten, IsLearnt, IsUnanswered, content_of, contents_of}
use Rattle.warg_bundle.specs.View.{imports_of}
use Rattle.warg_bundle.specs.declared.asked.Asked.{Asked}
use Rattle.warg_bundle.proofs.ContentLaws.{contents_still, known_behind, stops_behind}

some_told : {X : Type 0} (P : X → Type 0) (o : Option X) (x : X) → o ≡ Some x → IfSome o P → P x
some_told P o x e h = subst (λ o. IfSome o P) e h

module _ {T P : Type 0} (teaches : Facts → P → Facts) (Learns : T → Stop → P → T → Type 0) where
  pub taught_twice : (f : Facts) (ps qs : List P) → fold teaches f (ps ++ qs) ≡ fold teaches (fold teaches f ps) qs
  taught_twice f [] qs = refl
  taught_twice f (p ∷ ps) qs = taught_twice (teaches f p) ps qs

  module _ {X : Type 0} (answer : Facts → Result X Stop) where
    abbrev Are : Facts → T → List P → T → Type 0
    Are = AreLearnt teaches answer Learns

    abbrev Has : Facts → T → Facts → T → Type 0
    Has = HasLearnt teaches answer Learns

    pub none_learnt : (f : Facts) (t : T) → Has f t f t
    unfolding AreLearnt
    none_learnt f t = record { lessons = []; are = refl; knows = refl }

    one_learnt : (f : Facts) (old : T) (p : P) (new : T) → IsLearnt teaches answer Learns f old p new → Are f old (p ∷ []) new
    unfolding AreLearnt
    one_learnt f old p new one = (new, one, refl)

    joined : (f : Facts) (old mid new : T) (ps qs : List P) → Are f old ps mid → Are (fold teaches f ps) mid qs new → Are f old (ps ++ qs) new
    unfolding AreLearnt
    joined f old mid new [] qs are more = subst (λ t. Are f t qs new) are more
    joined f old mid new (p ∷ ps) qs are more = (are.0, are.1, joined (teaches f p) are.0 mid new ps qs are.2 more)

    pub has_joined : (f g h : Facts) (old mid new : T) → Has f old g mid → Has g mid h new → Has f old h new
    has_joined f g h old mid new a b = record {
      lessons = a.lessons ++ b.lessons;
      are = joined f old mid new a.lessons b.lessons a.are (subst (λ g. Are g mid b.lessons new) a.knows b.are);
      knows = b.knows ∙ ap (λ g. fold teaches g b.lessons) a.knows ∙ sym (taught_twice f a.lessons b.lessons);
    }

    pub gone_on : (f g : Facts) (old mid new : T) → Has f old g mid → HasGoneOn teaches answer Learns g mid new → HasGoneOn teaches answer Learns f old new
    gone_on f g old mid new a b = record { facts = b.facts; between = b.between; learnt = has_joined f g b.facts old mid b.between a b.learnt; last = b.last }

    -- where nothing is answered behind lessons, nothing is behind those before them and these
    pub unanswered : {E : Type 0} (Refuses : T → Stop → E → T → Type 0) (f g : Facts) (old mid new : T) (e : SearchError E) → Has f old g mid → IsUnanswered teaches answer Learns Refuses g mid new e → IsUnanswered teaches answer Learns Refuses f old new e
    unanswered Refuses f g old mid new (search.NoPlan stop) a h =
        record { facts = h.facts; learnt = has_joined f g h.facts old mid new a h.learnt; told = h.told; says = h.says; final = h.final; stops = h.stops }
    unanswered Refuses f g old mid new (search.Refused e) a h =
        record { facts = h.facts; before = h.before; learnt = has_joined f g h.facts old mid h.before a h.learnt; stop = h.stop; stops = h.stops; refuses = h.refuses }
    unanswered Refuses f g old mid new search.Memory a h = gone_on f g old mid new a h

    -- what a step refuses
    pub refused_by : {E : Type 0} (Refuses : T → Stop → E → T → Type 0) (f : Facts) (old new : T) (stop : Stopped) (e : SearchError E) → IfSome (stop_view stop) (λ s. answer f ≡ Err s) → IsStepFault teaches Learns Refuses stop old new e
        → IsUnanswered teaches answer Learns Refuses f old new e
    refused_by Refuses f old new stop (search.NoPlan s) stops h = record {
      facts = f;
      learnt = subst (λ t. Has f old f t) (sym h.4) (none_learnt f old);
      told = h.0;
      says = h.1;
      final = h.2;
      stops = some_told (λ s. answer f ≡ Err s) (stop_view stop) h.0 (ap stop_view (sym h.3) ∙ h.1) stops;
    }
    refused_by Refuses f old new stop (search.Refused e) stops h = record {
      facts = f;
      before = old;
      learnt = none_learnt f old;
      stop = h.0;
      stops = some_told (λ s. answer f ≡ Err s) (stop_view stop) h.0 h.1 stops;
      refuses = h.2;
    }
    refused_by Refuses f old new stop search.Memory stops (inl same) = record { facts = f; between = old; learnt = none_learnt f old; last = inl same }
    refused_by Refuses f old new stop search.Memory stops (inr h) = record {
      facts = f;
      between = old;
      learnt = none_learnt f old;
      last = inr (record { stop = h.0; stops = some_told (λ s. answer f ≡ Err s) (stop_view stop) h.0 h.1 stops; lesson = h.2.part; learns = h.2.learns });
    }

    -- what was known stays known
    extends_all : (f : Facts) (old new : T) (ps : List P) → Are f old ps new → Extends f (fold teaches f ps)
    unfolding AreLearnt
    extends_all f old new [] are = extends_itself f
    extends_all f old new (p ∷ ps) are = extends_twice f (teaches f p) (fold teaches (teaches f p) ps) are.1.more (extends_all (teaches f p) are.0 new ps are.2)

    pub extends_by : (f g : Facts) (old new : T) → Has f old g new → Extends f g
    extends_by f g old new h = subst (Extends f) (sym h.knows) (extends_all f old new h.lessons h.are)

    module _ (unknown : (f : Facts) (stop : Stop) → answer f ≡ Err stop → IsUnknown f stop) where
      -- what is needed is learnt by one step
      learnt_by : (f g : Facts) (old new : T) (stop : Stop) → answer f ≡ Err stop → (step : IsStep teaches Learns stop old new f g) → IsLearnt teaches answer Learns f old step.part new
      learnt_by f g old new stop e step = record { stop = stop; stops = e; learns = step.learns; more = subst (Extends f) step.knows (step.more (unknown f stop e)) }

      pub goes_on : (f g : Facts) (old new : T) (stop : Stopped) → IfSome (stop_view stop) (λ s. answer f ≡ Err s) → (asked : Stop) → stop_view stop ≡ Some asked → IsStep teaches Learns asked old new f g → Has f old g new
      goes_on f g old new stop stops asked told step =
          let e = some_told (λ s. answer f ≡ Err s) (stop_view stop) asked told stops in
          record { lessons = step.part ∷ []; are = one_learnt f old step.part new (learnt_by f g old new asked e step); knows = step.knows }

  -- ---- one release among all

  module _ (front rest : List ImportTree) (i : ImportTree) where
    abbrev one : Facts → Result Content Stop
    one f = content_of f i

    abbrev all : Facts → Result (List Content) Stop
    all f = contents_of f (front ++ i ∷ rest)

    are_among : (f : Facts) (old new : T) (ps : List P) (cs : List Content) → contents_of f front ≡ Ok cs → AreLearnt teaches one Learns f old ps new → AreLearnt teaches all Learns f old ps new
    unfolding AreLearnt
    are_among f old new [] cs known are = are
    are_among f old new (p ∷ ps) cs known are = (
      are.0,
      record { stop = are.1.stop; stops = stops_behind f i front rest cs are.1.stop known are.1.stops; learns = are.1.learns; more = are.1.more },
      are_among (teaches f p) are.0 new ps cs (contents_still f (teaches f p) are.1.more front cs known) are.2,
    )

    pub has_among : (f g : Facts) (old new : T) (cs : List Content) → contents_of f front ≡ Ok cs → HasLearnt teaches one Learns f old g new → HasLearnt teaches all Learns f old g new
    has_among f g old new cs known h = record { lessons = h.lessons; are = are_among f old new h.lessons cs known h.are; knows = h.knows }

    -- the contents in front are known still
    front_still : (f g : Facts) (old new : T) (cs : List Content) → contents_of f front ≡ Ok cs → HasLearnt teaches one Learns f old g new → contents_of g front ≡ Ok cs
    front_still f g old new cs known h = contents_still f g (extends_by one f g old new h) front cs known

    pub unanswered_among : {E : Type 0} (Refuses : T → Stop → E → T → Type 0) (f : Facts) (old new : T) (cs : List Content) (e : SearchError E) → contents_of f front ≡ Ok cs → IsUnanswered teaches one Learns Refuses f old new e
        → IsUnanswered teaches all Learns Refuses f old new e
    unanswered_among Refuses f old new cs (search.NoPlan stop) known h = record {
      facts = h.facts;
      learnt = has_among f h.facts old new cs known h.learnt;
      told = h.told;
      says = h.says;
      final = h.final;
      stops = stops_behind h.facts i front rest cs h.told (front_still f h.facts old new cs known h.learnt) h.stops;
    }
    unanswered_among Refuses f old new cs (search.Refused e) known h = record {
      facts = h.facts;
      before = h.before;
      learnt = has_among f h.facts old h.before cs known h.learnt;
      stop = h.stop;
      stops = stops_behind h.facts i front rest cs h.stop (front_still f h.facts old h.before cs known h.learnt) h.stops;
      refuses = h.refuses;
    }
    unanswered_among Refuses f old new cs search.Memory known h = record { facts = h.facts; between = h.between; learnt = has_among f h.facts old h.between cs known h.learnt; last = by h.last }
      where
        by : (new ≡ h.between) ⊎ IsForgotten teaches one Learns h.facts h.between new → (new ≡ h.between) ⊎ IsForgotten teaches all Learns h.facts h.between new
        by (inl same) = inl same
        by (inr l) = inr (record { stop = l.stop; stops = stops_behind h.facts i front rest cs l.stop (front_still f h.facts old h.between cs known h.learnt) l.stops; lesson = l.lesson; learns = l.learns })

    -- with the next release one more content is known
    pub answered_among : (f g : Facts) (old new : T) (cs : List Content) (c : Content) → contents_of f front ≡ Ok cs → IsAnswered teaches one Learns f old g new c → contents_of g (front ++ i ∷ []) ≡ Ok (cs ++ c ∷ [])
    answered_among f g old new cs c known a = known_behind g i front cs c (front_still f g old new cs known a.learnt) a.gives

  -- the contents of the releases in front are known, by lessons each of which was needed for all
  pub record IsKnownFront (is front : List ImportTree) (f : Facts) (old : T) (g : Facts) (new : T) : Type 0 where
    pub learnt : HasLearnt teaches (λ f. contents_of f is) Learns f old g new
    pub contents : List Content
    pub known : contents_of g front ≡ Ok contents

  pub front_none : (is : List ImportTree) (f g : Facts) (old : T) → g ≡ f → IsKnownFront is [] f old g old
  unfolding contents_of
  front_none is f g old same = record {
    learnt = subst (λ g. HasLearnt teaches (λ f. contents_of f is) Learns f old g old) (sym same) (none_learnt (λ f. contents_of f is) f old);
    contents = [];
    known = refl;
  }

  pub front_more : (is front rest : List ImportTree) (i : ImportTree) (f g h : Facts) (old mid new : T) (c : Content) → is ≡ front ++ i ∷ rest → IsKnownFront is front f old g mid → IsAnswered teaches (λ f. content_of f i) Learns g mid h new c
      → IsKnownFront is (front ++ i ∷ []) f old h new
  front_more is front rest i f g h old mid new c parts k a = record {
    learnt = has_joined (λ f. contents_of f is) f g h old mid new k.learnt
        (subst (λ is. HasLearnt teaches (λ f. contents_of f is) Learns g mid h new) (sym parts) (has_among front rest i g h mid new k.contents k.known a.learnt));
    contents = k.contents ++ c ∷ [];
    known = answered_among front rest i g h mid new k.contents c k.known a;
  }

  pub front_refused : {E : Type 0} (Refuses : T → Stop → E → T → Type 0) (is front rest : List ImportTree) (i : ImportTree) (f g : Facts) (old mid new : T) (e : SearchError E) → is ≡ front ++ i ∷ rest → IsKnownFront is front f old g mid
      → IsUnanswered teaches (λ f. content_of f i) Learns Refuses g mid new e → IsUnanswered teaches (λ f. contents_of f is) Learns Refuses f old new e
  front_refused Refuses is front rest i f g old mid new e parts k h =
      unanswered (λ f. contents_of f is) Refuses f g old mid new e k.learnt
      (subst (λ is. IsUnanswered teaches (λ f. contents_of f is) Learns Refuses g mid new e) (sym parts) (unanswered_among front rest i Refuses g mid new k.contents e k.known h))

-- ---- releases by their places

pub imports_split : (asked : List Asked) (i : ℕ) (a : Asked) → i < length asked → a ≡ get_or asked i a → imports_of asked ≡ imports_of (take i asked) ++ import_tree a.import ∷ imports_of (drop (suc i) asked)
imports_split [] i a lt is = absurd (omega arith)
imports_split (x ∷ asked) zero a lt is = ap (λ (b : Asked). import_tree b.import ∷ imports_of asked) (sym is)
imports_split (x ∷ asked) (suc i) a lt is = ap (λ (js : List ImportTree). import_tree x.import ∷ js) (imports_split asked i a (omega (arith, lt)) is)

pub imports_more : (asked : List Asked) (i : ℕ) (a : Asked) → i < length asked → a ≡ get_or asked i a → imports_of (take (i + 1) asked) ≡ imports_of (take i asked) ++ import_tree a.import ∷ []
imports_more asked i a lt is =
    ap imports_of (take_more asked i a lt)
    ∙ map-append (λ (b : Asked). import_tree b.import) (take i asked) (get_or asked i a ∷ [])
    ∙ ap (λ (b : Asked). imports_of (take i asked) ++ import_tree b.import ∷ []) (sym is)
