-- What a session finds is the plan over the logs that its exchanges prove; it updates each package once; and one part more
-- may follow.
use Rattle.std.proofs.Common.{◌≡◌, ℕ, Bool, true, false, cond, List, [], ◌∷◌, ◌++◌, Option, Some, None, Ok, Err, refl, sym, ap, subst, ◌∙◌, append_assoc, inl, inr, bytes_eq}
use Rattle.std.specs.Prelude.{◌⊎◌}
use Rattle.std.proofs.lemmas.List.{append-nil}
use Rattle.std.proofs.lemmas.Grind.{flat_map-append}
use Rattle.std.specs.List.{flat_map}
use Rattle.std.specs.Map.{lookup}
use Rattle.std.proofs.lemmas.Slice.Eq.{bytes_eq-Decides}
use Rattle.indexmap.specs.IndexMap.{insert_entry}
use Rattle.warg_log.specs.Rules.{Accepts}
use Rattle.warg_exchange.specs.declared.exchange.Exchange.{Exchange}
use Rattle.warg_exchange.specs.Requests.{Asker}
use Rattle.warg_store.specs.Held.{Registry}
use Rattle.warg_plan.specs.Keys.{Release}
use Rattle.warg_plan.specs.Walk.{Content, Facts, nothing_known, log_in, Stop, NeedsLog, NeedsContent, Entry}
use Rattle.warg_plan.specs.CauseLaws.{walk_cause}
use Rattle.warg_plan.specs.PlanLaws.{walk_is_plan}
use Rattle.warg_assemble.specs.Known.{Known, registry_of}
use Rattle.warg_assemble.specs.Parts.{Part, Updated, Loaded, exchanges_in, known_after, known_by, learnt, learnt_by, releases_in, IsPart, AreParts, HasLog}
use Rattle.warg_assemble.specs.Session.{Wanted, walked, Serves, IsWanted, updated_by, IsNone, AreOnce, IsSession, AreProved, IsRead, AreFacts, IsPlanOf}

same_bytes : (a b : List ℕ) → bytes_eq a b ≡ true → a ≡ b
same_bytes a b h = (bytes_eq-Decides a b).0 h

-- ---- what is found with one entry more

module _ {X : Type 0} where
  some_is : (x y : X) → Some x ≡ Some y → x ≡ y
  some_is x y e = cc

  -- what is found is the entry, or was found before
  found_more : (q : List ℕ) (es : List (List ℕ × X)) (k : List ℕ) (x y : X) → lookup (λ p. bytes_eq q p) (insert_entry bytes_eq es k x) ≡ Some y → (lookup (λ p. bytes_eq q p) es ≡ Some y) ⊎ ((q ≡ k) × (x ≡ y))
  found_more q [] k x y e = by (bytes_eq q k) refl e
    where
      by : (b : Bool) → bytes_eq q k ≡ b → cond b (Some x) None ≡ Some y → (lookup {X = X} (λ p. bytes_eq q p) [] ≡ Some y) ⊎ ((q ≡ k) × (x ≡ y))
      by true is e = inr (same_bytes q k is, some_is x y e)
      by false is e = absurd cc
  found_more q (z ∷ es) k x y e = by (bytes_eq k z.0) refl e (found_more q es k x y)
    where
      here : (b : Bool) → bytes_eq q z.0 ≡ b → k ≡ z.0 → cond b (Some x) (lookup (λ p. bytes_eq q p) es) ≡ Some y → (cond b (Some z.1) (lookup (λ p. bytes_eq q p) es) ≡ Some y) ⊎ ((q ≡ k) × (x ≡ y))
      here true is same e = inr (same_bytes q z.0 is ∙ sym same, some_is x y e)
      here false is same e = inl e

      there : (b : Bool) → cond b (Some z.1) (lookup (λ p. bytes_eq q p) (insert_entry bytes_eq es k x)) ≡ Some y → (lookup (λ p. bytes_eq q p) (insert_entry bytes_eq es k x) ≡ Some y → (lookup (λ p. bytes_eq q p) es ≡ Some y) ⊎ ((q ≡ k) × (x ≡ y)))
          → (cond b (Some z.1) (lookup (λ p. bytes_eq q p) es) ≡ Some y) ⊎ ((q ≡ k) × (x ≡ y))
      there true e later = inl e
      there false e later = later e

      by : (b : Bool) → bytes_eq k z.0 ≡ b → lookup (λ p. bytes_eq q p) (cond b ((z.0, x) ∷ es) (z ∷ insert_entry bytes_eq es k x)) ≡ Some y
          → (lookup (λ p. bytes_eq q p) (insert_entry bytes_eq es k x) ≡ Some y → (lookup (λ p. bytes_eq q p) es ≡ Some y) ⊎ ((q ≡ k) × (x ≡ y))) → (lookup (λ p. bytes_eq q p) (z ∷ es) ≡ Some y) ⊎ ((q ≡ k) × (x ≡ y))
      by true is e later = here (bytes_eq q z.0) refl (same_bytes k z.0 is) e
      by false is e later = there (bytes_eq q z.0) e later

  -- what was found is found still, if not the same
  found_still : (q : List ℕ) (es : List (List ℕ × X)) (k : List ℕ) (x y : X) → lookup (λ p. bytes_eq q p) es ≡ Some y → (z : X) × (lookup (λ p. bytes_eq q p) (insert_entry bytes_eq es k x) ≡ Some z)
  found_still q [] k x y e = absurd cc
  found_still q (z ∷ es) k x y e = by (bytes_eq k z.0) e (found_still q es k x y)
    where
      here : (c : Bool) → cond c (Some z.1) (lookup (λ p. bytes_eq q p) es) ≡ Some y → (v : X) × (cond c (Some x) (lookup (λ p. bytes_eq q p) es) ≡ Some v)
      here true e = (x, refl)
      here false e = (y, e)

      there : (c : Bool) → cond c (Some z.1) (lookup (λ p. bytes_eq q p) es) ≡ Some y → (lookup (λ p. bytes_eq q p) es ≡ Some y → (v : X) × (lookup (λ p. bytes_eq q p) (insert_entry bytes_eq es k x) ≡ Some v))
          → (v : X) × (cond c (Some z.1) (lookup (λ p. bytes_eq q p) (insert_entry bytes_eq es k x)) ≡ Some v)
      there true e later = (z.1, refl)
      there false e later = later e

      by : (b : Bool) → lookup (λ p. bytes_eq q p) (z ∷ es) ≡ Some y → (lookup (λ p. bytes_eq q p) es ≡ Some y → (v : X) × (lookup (λ p. bytes_eq q p) (insert_entry bytes_eq es k x) ≡ Some v))
          → (v : X) × (lookup (λ p. bytes_eq q p) (cond b ((z.0, x) ∷ es) (z ∷ insert_entry bytes_eq es k x)) ≡ Some v)
      by true e later = here (bytes_eq q z.0) e
      by false e later = there (bytes_eq q z.0) e later

  -- and so is the entry
  found_now : (k : List ℕ) (es : List (List ℕ × X)) (x : X) → (z : X) × (lookup (λ p. bytes_eq k p) (insert_entry bytes_eq es k x) ≡ Some z)
  found_now k [] x = (x, ap (λ b. cond b (Some x) None) ((bytes_eq-Decides k k).1 refl))
  found_now k (z ∷ es) x = by (bytes_eq k z.0) refl (found_now k es x)
    where
      by : (b : Bool) → bytes_eq k z.0 ≡ b → (v : X) × (lookup (λ p. bytes_eq k p) (insert_entry bytes_eq es k x) ≡ Some v) → (v : X) × (lookup (λ p. bytes_eq k p) (cond b ((z.0, x) ∷ es) (z ∷ insert_entry bytes_eq es k x)) ≡ Some v)
      by true is later = (x, ap (λ b. cond b (Some x) (lookup (λ p. bytes_eq k p) es)) is)
      by false is later = (later.0, ap (λ b. cond b (Some z.1) (lookup (λ p. bytes_eq k p) (insert_entry bytes_eq es k x))) is ∙ later.1)

none_some : {X P : Type 0} (o : Option X) (x : X) → o ≡ None → o ≡ Some x → P
none_some o x a b = absurd cc

-- a log of the package is known
abbrev IsKnown : Facts → List ℕ → Type 0
IsKnown f name = (rs : List Release) × (log_in f name ≡ Some rs)

known_still : (f : Facts) (p : Part) (name : List ℕ) → IsKnown f name → IsKnown (learnt f p) name
known_still f (Updated u) name h = found_still name f.logs u.name (releases_in u.log) h.0 h.1
known_still f (Loaded l) name h = h

-- a log is asked for only where none is known
asked_new : (w : Wanted) (f : Facts) (name : List ℕ) → walked w f ≡ Err (NeedsLog name) → log_in f name ≡ None
asked_new w f name says = (walk_cause w.settings f w.root w.depth (NeedsLog name) says).2.3

module _ (accepts : Accepts) (asker : Registry → Asker) (Reads : Content → Type 0) (w : Wanted) where
  -- a package whose log is known is not updated
  none_known : (known : Known) (f : Facts) (parts : List Part) → IsSession accepts asker Reads w known f parts → (name : List ℕ) → IsKnown f name → IsNone name (flat_map updated_by parts)
  unfolding IsSession
  none_known known f [] s name h = record {}
  none_known known f (Updated u ∷ parts) s name h =
      (λ is. apart s.0.stop s.0.stops s.0.serves is, none_known (known_after known (Updated u)) (learnt f (Updated u)) parts s.2 name (known_still f (Updated u) name h))
    where
      apart : (stop : Stop) → walked w f ≡ Err stop → Serves known stop (Updated u) → name ≡ u.name → ⊥
      apart (NeedsLog asked) says serves is = none_some (log_in f name) h.0 (subst (λ q. log_in f q ≡ None) (sym (is ∙ serves.0)) (asked_new w f asked says)) h.1
      apart stop says serves is = absurd serves
  none_known known f (Loaded l ∷ parts) s name h = none_known (known_after known (Loaded l)) (learnt f (Loaded l)) parts s.2 name h

  -- each package is updated once
  pub once : (known : Known) (f : Facts) (parts : List Part) → IsSession accepts asker Reads w known f parts → AreOnce parts
  unfolding IsSession
  once known f [] s = record {}
  once known f (Updated u ∷ parts) s =
      (none_known (known_after known (Updated u)) (learnt f (Updated u)) parts s.2 u.name (found_now u.name f.logs (releases_in u.log)), once (known_after known (Updated u)) (learnt f (Updated u)) parts s.2)
  once known f (Loaded l ∷ parts) s = once (known_after known (Loaded l)) (learnt f (Loaded l)) parts s.2

module _ (accepts : Accepts) (asker : Registry → Asker) (Reads : Content → Type 0) (known : Known) where
  -- ---- one part more

  pub parts_more : (start : Known) (ps : List Part) (p : Part) → AreParts accepts asker Reads start ps → IsPart accepts asker Reads (known_by start ps) p → AreParts accepts asker Reads start (ps ++ p ∷ [])
  unfolding AreParts
  parts_more start [] p a b = (b, record {})
  parts_more start (q ∷ ps) p a b = (a.0, parts_more (known_after start q) ps p a.1 b)

  pub known_more : (start : Known) (ps : List Part) (p : Part) → known_by start (ps ++ p ∷ []) ≡ known_after (known_by start ps) p
  known_more start [] p = refl
  known_more start (q ∷ ps) p = known_more (known_after start q) ps p

  exchanges_more : (before : List Part) (p : Part) (later : List Exchange) → flat_map exchanges_in before ++ (exchanges_in p ++ later) ≡ flat_map exchanges_in (before ++ p ∷ []) ++ later
  exchanges_more before p later =
      sym (append_assoc (flat_map exchanges_in before) (exchanges_in p) later) ∙ ap (λ l. flat_map exchanges_in before ++ l ++ later) (sym (append-nil (exchanges_in p)))
      ∙ ap (λ l. l ++ later) (sym (flat_map-append exchanges_in before (p ∷ [])))

  -- ---- what is learnt is proved

  facts_more : (xs : List Exchange) (before : List Part) (later : List Exchange) (f : Facts) (p : Part) (s : Stop) → AreParts accepts asker Reads known before → IsPart accepts asker Reads (known_by known before) p → Serves (known_by known before) s p
      → xs ≡ flat_map exchanges_in before ++ (exchanges_in p ++ later) → AreFacts accepts asker Reads known xs f → AreFacts accepts asker Reads known xs (learnt f p)
  facts_more xs before later f (Updated u) (NeedsLog asked) parts right serves is facts = record {
    logs = λ q rs e. by q rs (found_more q f.logs u.name (releases_in u.log) rs e);
    contents = facts.contents;
  }
    where
      own : HasLog accepts asker Reads known xs u.name u.log
      own = record {
        before = before;
        update = u;
        after = later;
        in_turn = is;
        parts = parts;
        is = right;
        of_package = refl;
        under = serves.1 ∙ ap (registry_of (known_by known before)) (sym serves.0);
        has = refl;
      }

      by : (q : List ℕ) (rs : List Release) → (lookup (λ p. bytes_eq q p) f.logs ≡ Some rs) ⊎ ((q ≡ u.name) × (releases_in u.log ≡ rs)) → AreProved accepts asker Reads known xs q rs
      by q rs (inl e) = facts.logs q rs e
      by q rs (inr e) = record { log = u.log; are = sym e.1; has = subst (λ n. HasLog accepts asker Reads known xs n u.log) (sym e.0) own }
  facts_more xs before later f (Loaded l) (NeedsContent asked digest) parts right serves is facts = record {
    logs = facts.logs;
    contents = λ q c e. by q c (found_more q f.contents l.digest l.content c e);
  }
    where
      by : (q : List ℕ) (c : Content) → (lookup (λ p. bytes_eq q p) f.contents ≡ Some c) ⊎ ((q ≡ l.digest) × (l.content ≡ c)) → IsRead accepts asker Reads q c
      by q c (inl e) = facts.contents q c e
      by q c (inr e) = subst (λ c. IsRead accepts asker Reads q c) e.1 (record { digest_is = right.digest ∙ sym e.0; reads = right.reads })
  facts_more xs before later f p s parts right serves is facts = absurd serves

  session_facts : (w : Wanted) (xs : List Exchange) (before parts : List Part) (later : List Exchange) (f : Facts) → AreParts accepts asker Reads known before → IsSession accepts asker Reads w (known_by known before) f parts
      → xs ≡ flat_map exchanges_in before ++ (flat_map exchanges_in parts ++ later) → AreFacts accepts asker Reads known xs f → AreFacts accepts asker Reads known xs (learnt_by f parts)
  unfolding IsSession
  session_facts w xs before [] later f right s is facts = facts
  session_facts w xs before (p ∷ parts) later f right s is facts =
      let here = is ∙ ap (λ l. flat_map exchanges_in before ++ l) (append_assoc (exchanges_in p) (flat_map exchanges_in parts) later) in
      session_facts w xs (before ++ p ∷ []) parts later (learnt f p) (parts_more known before p right s.1) (subst (λ k. IsSession accepts asker Reads w k (learnt f p) parts) (sym (known_more known before p)) s.2)
      (here ∙ exchanges_more before p (flat_map exchanges_in parts ++ later))
      (facts_more xs before (flat_map exchanges_in parts ++ later) f p s.0.stop right s.1 s.0.serves here facts)

  -- The walk over what a session's parts teach finds the plan over the logs that its exchanges prove.
  pub session_plan : (w : Wanted) (parts : List Part) (xs later : List Exchange) (es : List Entry) → xs ≡ flat_map exchanges_in parts ++ later → IsSession accepts asker Reads w known nothing_known parts → walked w (learnt_by nothing_known parts) ≡ Ok es
      → IsPlanOf accepts asker Reads known xs w es
  unfolding AreParts
  session_plan w parts xs later es is s says = record {
    facts = learnt_by nothing_known parts;
    proved = session_facts w xs [] parts later nothing_known (record {}) s is (record { logs = λ name rs e. absurd cc; contents = λ digest c e. absurd cc });
    plan = walk_is_plan w.settings (learnt_by nothing_known parts) w.depth w.root es says;
  }

  -- one part more
  pub session_more : (w : Wanted) (start : Known) (f : Facts) (parts : List Part) (p : Part) → IsSession accepts asker Reads w start f parts → IsWanted w (known_by start parts) (learnt_by f parts) p
      → IsPart accepts asker Reads (known_by start parts) p → IsSession accepts asker Reads w start f (parts ++ p ∷ [])
  unfolding IsSession
  session_more w start f [] p session wanted right = (wanted, right, record {})
  session_more w start f (q ∷ parts) p session wanted right = (session.0, session.1, session_more w (known_after start q) (learnt f q) parts p session.2 wanted right)
