-- What a search of a learner has kept, learnt and found.
use Rattle.std.proofs.Common.{◌≡◌, ◌⊎◌, inl, inr, ℕ, Bool, List, [], ◌∷◌, ◌++◌, refl, sym, ap, subst, ◌∙◌, append_assoc}
use Rattle.std.specs.List.{AllByRecursion, flat_map}
use Rattle.sha2.specs.Sha256.{sha256}
use Rattle.compose_config.specs.Plan.{Settings}
use Rattle.warg_exchange.specs.declared.exchange.Exchange.{Exchange}
use Rattle.warg_exchange.specs.Requests.{Asker}
use Rattle.warg_log.specs.Rules.{Accepts}
use Rattle.warg_api.specs.Link.{Asked}
use Rattle.warg_learn.specs.Recording.{Transcript, AreKept}
use Rattle.warg_learn.specs.RecordingLaws.{none_kept}
use Rattle.warg_plan.specs.Walk.{Content, Entry, Facts, Stop, nothing_known}
use Rattle.warg_plan.specs.Plan.{EachAfter, IsEntry}
use Rattle.warg_store.specs.Held.{Registry}
use Rattle.warg_assemble.specs.Known.{Known}
use Rattle.warg_assemble.specs.Parts.{Part, exchanges_in, known_after, known_by, learnt, IsPart}
use Rattle.warg_assemble.specs.Session.{Wanted, AreFacts}
use Rattle.warg_learn.specs.Search.{AreLearnt, Finds, IsSearchRefusal}
use Rattle.warg_learn.specs.SearchLaws.{search_finds}
use Rattle.warg_learn.specs.SearchLaws as laws
use Rattle.warg_learn.specs.SearchError.{SearchError}
use Rattle.warg_learn.specs.SearchError.TheVariants as search
use Rattle.warg_learn.specs.Stored.{IsOwnStore}
use Rattle.warg_learn.specs.declared.error.LearnError.{LearnError}
use Rattle.warg_learn.specs.Seen.{Seen, IsKnown}
use Rattle.warg_learn.specs.Learnt.{IsLearnt}
use Rattle.warg_learn.specs.Unlearnt.{IsUnlearnt}
use Rattle.warg_compose.specs.Read.{IsComponent}
use Rattle.comp_shape.specs.Refusal.{IsRefused}
use Rattle.comp_shape.specs.declared.error.ShapeError.{ShapeError}
use Rattle.warg_compose.specs.Linked.{IsComposeFault, IsLinkable}
use Rattle.warg_compose.specs.Wired.{AreWired}
use Rattle.warg_compose.specs.declared.error.ComposeError.{ComposeError}
use Rattle.warg_compose.specs.declared.error.ComposeError.TheVariants as compose
use Rattle.warg_complete.specs.ExchangeLaws.{exchanges_both}
use Rattle.warg_complete.specs.Sessions.{ProvesSession}
use Rattle.warg_complete.specs.Undisturbed.{IsUndisturbed, IsUnreplied}
use Rattle.warg_complete.specs.Plans.{compose_refusal, search_refusal}
use Rattle.warg_complete.specs.ClientError.TheVariants as told
use Rattle.warg_client.specs.Complete.{IsValidCall}
use Rattle.warg_client.specs.Assembled.{wanted, IsPlanned, IsPlanOfText, IsSearchRefused}
use Rattle.warg_complete.specs.Text.{IsPlanText}
use Rattle.warg_complete.specs.ClientError.{ClientError}

-- ---- exchanges, and then others

module _ {T : Type 0} (Steps : T → Asked → T → Type 0) where
  both_kept : (old mid new : Transcript T) (xs ys : List Exchange) → AreKept Steps old xs mid → AreKept Steps mid ys new → AreKept Steps old (xs ++ ys) new
  both_kept old mid new xs ys first later = record {
    passed = exchanges_both Steps old.link mid.link new.link xs ys first.passed later.passed;
    exchanges = later.exchanges ∙ ap (λ l. l ++ ys) first.exchanges ∙ append_assoc old.exchanges xs ys;
    whole = later.whole ∙ first.whole;
  }

-- ---- parts that were learnt

module _ {T D : Type 0} (Steps : T → Asked → T → Type 0) (Reads : Content → Type 0) (w : Wanted) where
  abbrev Learns : Seen T D → Stop → Part → Seen T D → Type 0
  Learns = IsLearnt Steps Reads

  -- the exchanges of the parts were kept
  pub parts_kept : (f : Facts) (old new : Seen T D) (parts : List Part) (known : Known) → IsKnown old known → AreLearnt learnt w Learns f old parts new → AreKept Steps old.transcript (flat_map exchanges_in parts) new.transcript
  unfolding AreLearnt
  parts_kept f old new [] known knows are = subst (λ (t : Seen T D). AreKept Steps old.transcript [] t.transcript) (sym are) (none_kept Steps old.transcript)
  parts_kept f old new (p ∷ ps) known knows are =
      let right = are.1.learns.right known knows in
      both_kept Steps old.transcript are.0.transcript new.transcript (exchanges_in p) (flat_map exchanges_in ps) right.kept (parts_kept (learnt f p) are.0 new ps (known_after known p) right.knows are.2)

  -- by which signatures a learner goes is as it was
  pub parts_same : (f : Facts) (old new : Seen T D) (parts : List Part) → AreLearnt learnt w Learns f old parts new → new.accepts ≡ old.accepts
  unfolding AreLearnt
  parts_same f old new [] are = ap (λ (t : Seen T D). t.accepts) are
  parts_same f old new (p ∷ ps) are = parts_same (learnt f p) are.0 new ps are.2 ∙ are.1.learns.same.accepts

  -- what the parts teach is known
  pub parts_known : (f : Facts) (old new : Seen T D) (parts : List Part) (known : Known) → IsKnown old known → AreLearnt learnt w Learns f old parts new → IsKnown new (known_by known parts)
  unfolding AreLearnt
  parts_known f old new [] known knows are = subst (λ t. IsKnown t known) (sym are) knows
  parts_known f old new (p ∷ ps) known knows are = parts_known (learnt f p) are.0 new ps (known_after known p) (are.1.learns.right known knows).knows are.2

  -- the store of registries is its client's own
  pub parts_own : (f : Facts) (old new : Seen T D) (parts : List Part) (known : Known) → IsKnown old known → AreLearnt learnt w Learns f old parts new → IsOwnStore old.accepts new.registries
  parts_own f old new parts known knows are = subst (λ accepts. IsOwnStore accepts new.registries) (parts_same f old new parts are) (parts_known f old new parts known knows are).stores.own

  -- so it is where the search ends without a plan
  pub refused_own : {E : Type 0} (said : D → D → Bool → Bool) (Refuses : List ℕ → E → Type 0) (old new : Seen T D) (e : SearchError (LearnError E)) (known : Known) → IsKnown old known
      → IsSearchRefusal learnt w Learns (IsUnlearnt Steps said Refuses) old new e → IsOwnStore old.accepts new.registries
  refused_own said Refuses old new (search.NoPlan stop) known knows h = parts_own nothing_known old new h.parts known knows h.are
  refused_own said Refuses old new (search.Refused e) known knows h =
      subst (λ accepts. IsOwnStore accepts new.registries) (parts_same nothing_known old h.before h.parts h.are)
      (h.refuses.own (known_by known h.parts) (parts_known nothing_known old h.before h.parts known knows h.are))
  refused_own said Refuses old new search.Memory known knows h = parts_own nothing_known old new h.parts known knows h.are

-- ---- contents

module _ (accepts : Accepts) (asker : Registry → Asker) (Reads : Content → Type 0) (known : Known) (xs : List Exchange) (s : Settings) (f : Facts) (facts : AreFacts accepts asker Reads known xs f) where
  -- the content of an entry has the entry's digest
  entry_digest : (before : List Entry) (e : Entry) → IsEntry s f before e → sha256 e.content ≡ e.digest
  entry_digest before e is = ap sha256 is.bytes ∙ (facts.contents e.digest is.made_of is.known).digest_is

  each_digest : (before es : List Entry) → EachAfter (IsEntry s f) before es → AllByRecursion (λ e. sha256 e.content ≡ e.digest) es
  unfolding EachAfter
  each_digest before [] each = record {}
  each_digest before (e ∷ es) each = (entry_digest before e each.0, each_digest (before ++ e ∷ []) es each.1)

-- ---- what is found

module _ {T D : Type 0} (Steps : T → Asked → T → Type 0) (s : Settings) (accepts : Accepts) (asker : Registry → Asker) where
  -- in a state this is known, and it goes by these signatures and asks as this one
  record IsAt (t : Seen T D) (known : Known) : Type 0 where
    pub knows : IsKnown t known
    pub accepts_are : t.accepts ≡ accepts
    pub asker_is : t.asker ≡ asker

  is_right : (old new : Seen T D) (stop : Stop) (p : Part) (known : Known) → IsAt old known → IsLearnt Steps IsComponent old stop p new
      → laws.IsRight (wanted s) (IsLearnt Steps IsComponent) IsAt accepts asker IsComponent old stop p new known
  is_right old new stop p known at learns =
      let right = learns.right known at.knows in
      record {
        serves = right.serves;
        is = subst (λ a. IsPart accepts a IsComponent known p) at.asker_is (subst (λ a. IsPart a old.asker IsComponent known p) at.accepts_are right.is);
        knows = record { knows = right.knows; accepts_are = learns.same.accepts ∙ at.accepts_are; asker_is = learns.same.asker ∙ at.asker_is };
      }

module _ {T D : Type 0} (Steps : T → Asked → T → Type 0) where
  -- what a search finds is the plan of a text's settings
  pub found_is_planned : (s : Settings) (old new : Seen T D) (es : List Entry) (known : Known) → IsKnown old known → Finds learnt (wanted s) (IsLearnt Steps IsComponent) old new es → IsPlanned Steps old new known s es
  found_is_planned s old new es known knows found =
      let start : IsAt Steps s old.accepts old.asker old known = record { knows = knows; accepts_are = refl; asker_is = refl } in
      let is = search_finds (wanted s) (IsLearnt Steps IsComponent) (IsAt Steps s old.accepts old.asker) old.accepts old.asker IsComponent (is_right Steps s old.accepts old.asker) known old new es start found in
      record {
        parts = found.parts;
        session = is.session;
        once = is.once;
        kept = parts_kept Steps IsComponent (wanted s) nothing_known old new found.parts known knows found.are;
        plan = is.plan;
        digests = each_digest old.accepts old.asker IsComponent known (flat_map exchanges_in found.parts) s is.plan.facts is.plan.proved [] es is.plan.plan.each;
        knows = parts_known Steps IsComponent (wanted s) nothing_known old new found.parts known knows found.are;
      }

  pub is_plan_of_text : (s : Settings) (old new : Seen T D) (text : List ℕ) (es : List Entry) → IsPlanText text s → Finds learnt (wanted s) (IsLearnt Steps IsComponent) old new es → IsPlanOfText Steps old new text es
  is_plan_of_text s old new text es reads found = record { settings = s; reads = reads; planned = λ known knows. found_is_planned s old new es known knows found }

  -- whether a plan is found or not, the store of registries is its client's own
  pub found_own : (s : Settings) (old new : Seen T D) (es : List Entry) (known : Known) → IsKnown old known → Finds learnt (wanted s) (IsLearnt Steps IsComponent) old new es → IsOwnStore old.accepts new.registries
  found_own s old new es known knows found = parts_own Steps IsComponent (wanted s) nothing_known old new found.parts known knows found.are

  pub search_own : (said : D → D → Bool → Bool) (s : Settings) (old new : Seen T D) (e : ClientError) (known : Known) → IsKnown old known → IsSearchRefused Steps old new said e s → IsOwnStore old.accepts new.registries
  search_own said s old new e known knows refused = refused_own Steps IsComponent (wanted s) said (λ bytes error. IsRefused error bytes) old new refused.refusal known knows refused.cause

-- ---- calls in whose way nothing stands

module _ {T D : Type 0} (Steps : T → Asked → T → Type 0) (old new : Seen T D) (text : List ℕ) (s : Settings) where
  -- what a search that ends without a plan is refused for
  abbrev pub Undisturbed : Type 0
  Undisturbed = (accepts : Accepts) (asker : Registry → Asker) (w : Wanted) (known : Known) (parts : List Part) (es : List Entry) (said : D → D → Bool → Bool) (e : SearchError (LearnError ShapeError)) (old new : Seen T D)
      → ProvesSession Steps accepts asker w known nothing_known parts es old → IsUndisturbed parts old new → IsSearchRefusal learnt w (IsLearnt Steps IsComponent) (IsUnlearnt Steps said (λ bytes error. IsRefused error bytes)) old new e
      → (search_refusal e ≡ told.Memory) ⊎ ((search_refusal e ≡ told.LinkFault) × IsUnreplied parts old new Steps)

  pub search_short : Undisturbed → (said : D → D → Bool → Bool) (e : ClientError) → IsSearchRefused Steps old new said e s → (v : IsValidCall Steps old new text) → s ≡ v.settings → (e ≡ told.Memory) ⊎ ((e ≡ told.LinkFault) × IsUnreplied v.parts old new Steps)
  search_short law said e refused v same =
      by (law old.accepts old.asker (wanted s) v.known v.parts v.entries said refused.refusal old new
      (subst (λ (t : Settings). ProvesSession Steps old.accepts old.asker (wanted t) v.known nothing_known v.parts v.entries old) (sym same) v.proves) v.undisturbed refused.cause)
    where
      by : (search_refusal refused.refusal ≡ told.Memory) ⊎ ((search_refusal refused.refusal ≡ told.LinkFault) × IsUnreplied v.parts old new Steps) → (e ≡ told.Memory) ⊎ ((e ≡ told.LinkFault) × IsUnreplied v.parts old new Steps)
      by (inl memory) = inl (refused.told ∙ memory)
      by (inr unreplied) = inr (refused.told ∙ unreplied.0, unreplied.1)

  -- that a search finds the session's plan, and that a plan which can be linked is linked
  abbrev pub Found : Type 0
  Found = (accepts : Accepts) (asker : Registry → Asker) (w : Wanted) (known : Known) (parts : List Part) (es other : List Entry) (old new : Seen T D) → ProvesSession Steps accepts asker w known nothing_known parts es old
      → (found : Finds learnt w (IsLearnt Steps IsComponent) old new other) → (other ≡ es) × (found.parts ≡ parts)

  -- that a plan which can be linked is refused for want of memory alone
  abbrev pub Linked : Type 0
  Linked = (disallow : Bool) (es : List Entry) (e : ComposeError) → AreWired es → IsLinkable disallow es → IsComposeFault disallow e es → e ≡ compose.Memory

  pub compose_short : Found → Linked → (es : List Entry) (e : ComposeError) → AreWired es → Finds learnt (wanted s) (IsLearnt Steps IsComponent) old new es
      → IsComposeFault s.disallow_imports e es → (v : IsValidCall Steps old new text) → s ≡ v.settings → compose_refusal e ≡ told.Memory
  compose_short law linked es e wired finds fault v same =
      let here = subst (λ (t : Settings). Finds learnt (wanted t) (IsLearnt Steps IsComponent) old new es) same finds in
      let is : es ≡ v.entries = (law old.accepts old.asker (wanted v.settings) v.known v.parts v.entries es old new v.proves here).0 in
      let held : IsComposeFault v.settings.disallow_imports e v.entries = subst (λ (t : Settings). IsComposeFault t.disallow_imports e v.entries) same (subst (IsComposeFault s.disallow_imports e) is fault) in
      ap compose_refusal (linked v.settings.disallow_imports v.entries e (subst AreWired is wired) v.linkable held)
