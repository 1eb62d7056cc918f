-- That over a link which gives the replies of a session what is learnt are its first parts.
use Rattle.std.proofs.Common.{◌≡◌, ◌++◌, ◌∷◌, [], List, Result, Ok, Err, refl, sym, ◌∙◌, ap, subst}
use Rattle.std.specs.List.{flat_map}
use Rattle.warg_log.specs.Rules.{Accepts}
use Rattle.warg_exchange.specs.declared.exchange.Exchange.{Exchange}
use Rattle.warg_exchange.specs.Requests.{Asker}
use Rattle.warg_api.specs.Link.{Asked, Exchanges}
use Rattle.warg_learn.specs.Recording.{Transcript, AreKept}
use Rattle.warg_store.specs.Held.{Registry}
use Rattle.warg_plan.specs.Walk.{Facts, Stop, Entry}
use Rattle.warg_assemble.specs.Known.{Known}
use Rattle.warg_assemble.specs.Parts.{Part, exchanges_in, known_after, learnt, IsPart}
use Rattle.warg_assemble.specs.Session.{Wanted, walked, Serves, IsSession}
use Rattle.warg_learn.specs.Search.{AreLearnt}
use Rattle.warg_learn.specs.Learnt.{IsLearnt}
use Rattle.warg_learn.specs.Seen.{Seen}
use Rattle.warg_compose.specs.Read.{IsComponent}
use Rattle.warg_course.specs.Replies.{GivesReplies}
use Rattle.warg_complete.specs.Sessions.{ProvesSession, IsFirstOf}

-- that over a link which gives a part's replies a stop is served by this part alone
abbrev pub OnePart : {T : Type 0} → (T → Asked → T → Type 0) → Type 0
OnePart {T = T} Steps = (accepts : Accepts) (asker : Registry → Asker) (known : Known) (stop : Stop) (p q : Part) (begun now : Transcript T) → Serves known stop p → Serves known stop q → IsPart accepts asker IsComponent known p → IsPart accepts asker IsComponent known q
    → AreKept Steps begun (exchanges_in p) now → GivesReplies Steps begun.link (exchanges_in q) → p ≡ q

-- that a link which gives the replies of exchanges gives those of the first ones, and then those of the rest
pub record ReplyLaws {T : Type 0} (Steps : T → Asked → T → Type 0) : Type 0 where
  pub first : (xs ys : List Exchange) (now : T) → GivesReplies Steps now (xs ++ ys) → GivesReplies Steps now xs
  pub rest : (xs ys : List Exchange) (old new : T) → GivesReplies Steps old (xs ++ ys) → Exchanges Steps old xs new → GivesReplies Steps new ys

pub ok-or-err : {A E : Type 0} (r : Result A E) (x : A) (e : E) → r ≡ Ok x → r ≡ Err e → ⊥
ok-or-err r x e is bad = absurd cc

pub ok-is : {A E : Type 0} (x y : A) → ◌≡◌ {A = Result A E} (Ok x) (Ok y) → x ≡ y
ok-is x y e = cc e

err-is : {A E : Type 0} (x y : E) → ◌≡◌ {A = Result A E} (Err x) (Err y) → x ≡ y
err-is x y e = cc e

module _ {T D : Type 0} (Steps : T → Asked → T → Type 0) (accepts : Accepts) (asker : Registry → Asker) (w : Wanted) where
  -- the next part of a session is right by what a learner goes by
  pub part-right : (known : Known) (f : Facts) (p : Part) (parts : List Part) (es : List Entry) (now : Seen T D) → ProvesSession Steps accepts asker w known f (p ∷ parts) es now → IsPart now.accepts now.asker IsComponent known p
  unfolding IsSession
  part-right known f p parts es now s =
      subst (λ (a : Registry → Asker). IsPart now.accepts a IsComponent known p) (sym s.same_asker) (subst (λ (g : Accepts). IsPart g asker IsComponent known p) (sym s.same_accepts) s.session.1)

  -- what is asked for next is learnt by the next part
  next-same : OnePart Steps → ReplyLaws Steps → (known : Known) (f : Facts) (p q : Part) (parts : List Part) (es : List Entry) (old new : Seen T D) (stop : Stop) → ProvesSession Steps accepts asker w known f (p ∷ parts) es old → walked w f ≡ Err stop
      → IsLearnt Steps IsComponent old stop q new → p ≡ q
  unfolding IsSession
  next-same one replies known f p q parts es old new stop s stops learns =
      let right = learns.right known s.knows in
      let asked : s.session.0.stop ≡ stop = err-is s.session.0.stop stop (sym s.session.0.stops ∙ stops) in
      sym (one old.accepts old.asker known stop q p old.transcript new.transcript right.serves (subst (λ (x : Stop). Serves known x p) asked s.session.0.serves) right.is (part-right known f p parts es old s) right.kept
      (replies.first (exchanges_in p) (flat_map exchanges_in parts) old.transcript.link s.replies))

  -- and what the link gives behind it proves the rest
  rest-proved : ReplyLaws Steps → (known : Known) (f : Facts) (q : Part) (parts : List Part) (es : List Entry) (old new : Seen T D) (stop : Stop) → ProvesSession Steps accepts asker w known f (q ∷ parts) es old → IsLearnt Steps IsComponent old stop q new
      → ProvesSession Steps accepts asker w (known_after known q) (learnt f q) parts es new
  unfolding IsSession
  rest-proved replies known f q parts es old new stop s learns =
      let right = learns.right known s.knows in
      record {
        session = s.session.2;
        finds = s.finds;
        knows = right.knows;
        same_accepts = learns.same.accepts ∙ s.same_accepts;
        same_asker = learns.same.asker ∙ s.same_asker;
        replies = replies.rest (exchanges_in q) (flat_map exchanges_in parts) old.transcript.link new.transcript.link s.replies right.kept.passed;
      }

  pub first-of : OnePart Steps → ReplyLaws Steps → (known : Known) (f : Facts) (parts done : List Part) (es : List Entry) (old now : Seen T D) → ProvesSession Steps accepts asker w known f parts es old → AreLearnt learnt w (IsLearnt Steps IsComponent) f old done now
      → IsFirstOf Steps accepts asker w known f parts es done now
  unfolding AreLearnt
  first-of one replies known f parts [] es old now s are = record { rest = parts; front = refl; proves_rest = subst (λ (t : Seen T D). ProvesSession Steps accepts asker w known f parts es t) (sym are) s }
  first-of one replies known f [] (q ∷ done) es old now s are = absurd (ok-or-err (walked w f) es are.1.stop s.finds are.1.stops)
  first-of one replies known f (p ∷ parts) (q ∷ done) es old now s are =
      let same : p ≡ q = next-same one replies known f p q parts es old are.0 are.1.stop s are.1.stops are.1.learns in
      let moved : ProvesSession Steps accepts asker w known f (q ∷ parts) es old = subst (λ (r : Part). ProvesSession Steps accepts asker w known f (r ∷ parts) es old) same s in
      let later = first-of one replies (known_after known q) (learnt f q) parts done es are.0 now (rest-proved replies known f q parts es old are.0 are.1.stop moved are.1.learns) are.2 in
      record { rest = later.rest; front = ap (λ (r : Part). r ∷ parts) same ∙ ap (λ (l : List Part). q ∷ l) later.front; proves_rest = later.proves_rest }

  -- ---- where the walk is over, or asks for more

  -- the walk finds something: nothing is left of the session
  pub over : (known : Known) (f : Facts) (rest : List Part) (es other : List Entry) (now : Seen T D) → ProvesSession Steps accepts asker w known f rest es now → walked w f ≡ Ok other → (other ≡ es) × (rest ≡ [])
  unfolding IsSession
  over known f [] es other now s finds = (ok-is other es (sym finds ∙ s.finds), refl)
  over known f (p ∷ rest) es other now s finds = absurd (ok-or-err (walked w f) other s.session.0.stop finds s.session.0.stops)

  -- the walk asks for the next part of a session
  pub record IsAsked (known : Known) (f : Facts) (parts : List Part) (es : List Entry) (now : Seen T D) (stop : Stop) : Type 0 where
    pub next : Part
    pub rest : List Part
    pub in_turn : parts ≡ next ∷ rest
    pub serves : Serves known stop next
    pub proves : ProvesSession Steps accepts asker w known f (next ∷ rest) es now

  pub asked-next : (known : Known) (f : Facts) (parts : List Part) (es : List Entry) (now : Seen T D) (stop : Stop) → ProvesSession Steps accepts asker w known f parts es now → walked w f ≡ Err stop → IsAsked known f parts es now stop
  unfolding IsSession
  asked-next known f [] es now stop s stops = absurd (ok-or-err (walked w f) es stop s.finds stops)
  asked-next known f (p ∷ rest) es now stop s stops =
      let asked : s.session.0.stop ≡ stop = err-is s.session.0.stop stop (sym s.session.0.stops ∙ stops) in
      record { next = p; rest = rest; in_turn = refl; serves = subst (λ (x : Stop). Serves known x p) asked s.session.0.serves; proves = s }
