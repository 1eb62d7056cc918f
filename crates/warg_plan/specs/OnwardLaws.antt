-- A visit goes on from what it had found when it stopped.
use Rattle.std.proofs.Common.{◌≡◌, ℕ, zero, suc, ◌<◌, ◌-◌, Bool, true, false, ◌||◌, cond, List, [], ◌∷◌, ◌++◌, Result, Ok, Err, refl, sym, ap, subst, ◌∙◌, arith}
use Rattle.std.proofs.lemmas.List.{map-append}
use Rattle.std.proofs.lemmas.List.Folds.{list_any-append}
use Rattle.std.specs.List.{AllByRecursion}
use Rattle.warg_values.specs.Reading.{◌>>=◌}
use Rattle.warg_values.specs.ReadingLaws.{bind_ok, never}
use Rattle.compose_config.specs.Plan.{Settings}
use Rattle.warg_plan.specs.Keys.{Key, same_key}
use Rattle.warg_plan.specs.Walk.{Facts, Stop, TooDeep, Cycle, Wire, Open, To, Node, Entry, keys, has_key, entry_of, node_of, along_one, along, visit}
use Rattle.warg_plan.specs.Known.{Extends}
use Rattle.warg_plan.specs.KeyLaws.{same_itself, same_is}
use Rattle.warg_plan.specs.FactLaws.{extends_twice, node_below, found_stays}
use Rattle.warg_plan.specs.WalkLaws.{no_truth, has_more, visit_grew}
use Rattle.warg_plan.specs.Onward.{Knows, Holds, GoesOn, GoesAlong, IsOnTheWay}

-- over more that is known, each entry is the same
pub more_knows : (s : Settings) (less more : Facts) → Extends less more → Knows (node_of s less) (node_of s more)
more_knows s less more ext k x e = found_stays more (node_of s less k) (node_of s more k) x (node_below s less more ext k) e

-- ---- keys

pub holds_itself : (path : List Key) (es : List Entry) → Holds path es es
holds_itself path es = record { kept = λ k h. h; apart = λ k h. refl }

holds_twice : (path : List Key) (a b c : List Entry) → Holds path a b → Holds path b c → Holds path a c
holds_twice path a b c g h = record {
  kept = λ k is. h.kept k (g.kept k is);
  apart = λ k is. h.apart k is ∙ g.apart k is;
}

or_none : (a b : Bool) → b ≡ false → (a || b) ≡ a
or_none true b e = refl
or_none false b e = e

-- entries none of which is being visited have no key that is
others : (path : List Key) (k : Key) (es : List Entry) → has_key path k ≡ true → AllByRecursion (λ e. has_key path e.key ≡ false) es → has_key (keys es) k ≡ false
others path k [] there h = refl
others path k (e ∷ es) there h = by (same_key k e.key) refl (others path k es there h.1)
  where
    by : (b : Bool) → same_key k e.key ≡ b → has_key (keys es) k ≡ false → (b || has_key (keys es) k) ≡ false
    by true is later = no_truth (sym (subst (λ j. has_key path j ≡ true) (same_is k e.key is) there) ∙ h.0)
    by false is later = later

opened_too : (path : List Key) (j k : Key) → has_key path k ≡ true → has_key (j ∷ path) k ≡ true
opened_too path j k h = by (same_key k j)
  where
    by : (b : Bool) → (b || has_key path k) ≡ true
    by true = refl
    by false = h

-- ---- what went well goes so where more is known

module _ (less more : Key → Result Node Stop) (knows : Knows less more) where
  along_knows : (a b : List Entry → Key → Result (List Entry) Stop) → ((es mid : List Entry) (k : Key) → a es k ≡ Ok mid → b es k ≡ Ok mid) → (ws : List (List ℕ × Wire)) (es mid : List Entry) → along a es ws ≡ Ok mid → along b es ws ≡ Ok mid
  unfolding along
  along_knows a b law [] es mid e = e
  along_knows a b law (w ∷ ws) es mid e =
      let here = bind_ok (along_one a es w.1) _ _ e in
      ap (λ r. r >>= λ m. along b m ws) (one w.1 here.1) ∙ along_knows a b law ws here.0 mid here.2
    where
      one : {m : List Entry} (v : Wire) → along_one a es v ≡ Ok m → along_one b es v ≡ Ok m
      one Open e = e
      one {m} (To k) e = law es m k e

  visit_step : (n : ℕ) → ((path : List Key) (es mid : List Entry) (k : Key) → visit less n path es k ≡ Ok mid → visit more n path es k ≡ Ok mid) → (path : List Key) (es mid : List Entry) (k : Key) → visit less (suc n) path es k ≡ Ok mid
      → visit more (suc n) path es k ≡ Ok mid
  unfolding visit
  visit_step n law path es mid k e = listed (has_key (keys es) k) e
    where
      rest : (Key → Result Node Stop) → Result (List Entry) Stop
      rest node = node k >>= λ x. along (visit node n (k ∷ path)) es x.wires >>= λ more. Ok (more ++ entry_of k x more ∷ [])

      went : rest less ≡ Ok mid → rest more ≡ Ok mid
      went e =
          let a = bind_ok (less k) _ _ e in
          let b = bind_ok (along (visit less n (k ∷ path)) es a.0.wires) _ _ a.2 in
          ap (λ r. r >>= λ x. along (visit more n (k ∷ path)) es x.wires >>= λ more. Ok (more ++ entry_of k x more ∷ [])) (knows k a.0 a.1)
          ∙ ap (λ r. r >>= λ more. Ok (more ++ entry_of k a.0 more ∷ [])) (along_knows (visit less n (k ∷ path)) (visit more n (k ∷ path)) (law (k ∷ path)) a.0.wires es b.0 b.1)
          ∙ b.2

      met : (b : Bool) → cond b (Err (Cycle k)) (rest less) ≡ Ok mid → cond b (Err (Cycle k)) (rest more) ≡ Ok mid
      met true e = e
      met false e = went e

      listed : (b : Bool) → cond b (Ok es) (cond (has_key path k) (Err (Cycle k)) (rest less)) ≡ Ok mid → cond b (Ok es) (cond (has_key path k) (Err (Cycle k)) (rest more)) ≡ Ok mid
      listed true e = e
      listed false e = met (has_key path k) e

  visit_knows : (n : ℕ) (path : List Key) (es mid : List Entry) (k : Key) → visit less n path es k ≡ Ok mid → visit more n path es k ≡ Ok mid
  unfolding visit
  visit_knows zero path es mid k e = never TooDeep mid e
  visit_knows (suc n) path es mid k e = visit_step n (visit_knows n) path es mid k e

module _ (node : Key → Result Node Stop) where
  -- what a visit that goes well adds
  visit_holds : (n : ℕ) (path : List Key) (es mid : List Entry) (k : Key) → visit node n path es k ≡ Ok mid → Holds path es mid
  visit_holds n path es mid k e =
      let g = (visit_grew node n path es mid k e).0 in
      let whole : keys mid ≡ keys es ++ keys g.new = ap keys g.is ∙ map-append (λ (e : Entry). e.key) es g.new in
      record {
        kept = λ j h. subst (λ l. has_key l j ≡ true) (sym whole) (has_more (keys es) (keys g.new) j h);
        apart = λ j h. ap (λ l. has_key l j) whole ∙ list_any-append (λ i. same_key j i) (keys es) (keys g.new) ∙ or_none (has_key (keys es) j) (has_key (keys g.new) j) (others path j g.new h g.apart);
      }

  -- a key that has an entry is not visited again
  not_again : (more : Key → Result Node Stop) (n : ℕ) (path : List Key) (es mid later : List Entry) (k : Key) → visit node n path es k ≡ Ok mid → has_key (keys later) k ≡ true → visit more n path later k ≡ Ok later
  unfolding visit
  not_again more zero path es mid later k e there = never TooDeep mid e
  not_again more (suc n) path es mid later k e there = rw there refl

  -- ---- where a visit stops

  -- where nothing was found
  pub stays : (n : ℕ) (path : List Key) (es : List Entry) (k : Key) → GoesOn node n path es es k
  stays n path es k = record { holds = holds_itself path es; same = λ more knows. refl }

  -- within the visit of the first wire
  pub stopped_at : (n : ℕ) (path : List Key) (es later : List Entry) (name : List ℕ) (k : Key) (ws : List (List ℕ × Wire)) → GoesOn node n path es later k → GoesAlong node n path es later ((name, To k) ∷ ws)
  unfolding along
  stopped_at n path es later name k ws g = record {
    holds = g.holds;
    same = λ more knows. ap (λ r. r >>= λ m. along (visit more n path) m ws) (g.same more knows);
  }

  -- behind a wire that leads nowhere
  pub stopped_behind : (n : ℕ) (path : List Key) (es later : List Entry) (name : List ℕ) (ws : List (List ℕ × Wire)) → GoesAlong node n path es later ws → GoesAlong node n path es later ((name, Open) ∷ ws)
  unfolding along
  stopped_behind n path es later name ws g = record { holds = g.holds; same = λ more knows. g.same more knows }

  -- behind a wire whose visit went well
  pub stopped_after : (n : ℕ) (path : List Key) (es mid later : List Entry) (name : List ℕ) (k : Key) (ws : List (List ℕ × Wire)) → visit node n path es k ≡ Ok mid → GoesAlong node n path mid later ws
      → GoesAlong node n path es later ((name, To k) ∷ ws)
  unfolding along
  stopped_after n path es mid later name k ws e g = record {
    holds = holds_twice path es mid later (visit_holds n path es mid k e) g.holds;
    same = λ more knows.
        ap (λ r. r >>= λ m. along (visit more n path) m ws) (not_again more n path es mid later k e (g.holds.kept k (visit_grew node n path es mid k e).1))
        ∙ g.same more knows
        ∙ ap (λ r. r >>= λ m. along (visit more n path) m ws) (sym (visit_knows node more knows n path es mid k e));
  }

  -- within the visits of those that its imports are wired to
  pub stopped_within : (n : ℕ) (path : List Key) (es later : List Entry) (k : Key) (x : Node) → 0 < n → has_key (keys es) k ≡ false → has_key path k ≡ false → node k ≡ Ok x → GoesAlong node (n - 1) (k ∷ path) es later x.wires
      → GoesOn node n path es later k
  unfolding visit
  stopped_within zero path es later k x le new free is g = absurd (omega (arith, le))
  stopped_within (suc n) path es later k x le new free is g =
      let less : suc n - 1 ≡ n = omega arith in
      step (subst (λ m. GoesAlong node m (k ∷ path) es later x.wires) less g)
    where
      step : GoesAlong node n (k ∷ path) es later x.wires → GoesOn node (suc n) path es later k
      step g =
          let unfound : has_key (keys later) k ≡ false = g.holds.apart k (ap (λ b. b || has_key path k) (same_itself k)) ∙ new in
          record {
            holds = record { kept = g.holds.kept; apart = λ j h. g.holds.apart j (opened_too path k j h) };
            same = λ more knows. rw (unfound, new, free, knows k x is) (ap (λ r. r >>= λ m. Ok (m ++ entry_of k x m ∷ [])) (g.same more knows));
          }

-- ---- walks

-- where nothing was found
pub begins : (s : Settings) (f : Facts) (n : ℕ) (root : Key) → IsOnTheWay s f n root []
begins s f n root = λ more ext. refl

-- what a walk has found when it stops is on its way, where it began on it
pub goes_further : (s : Settings) (f : Facts) (n : ℕ) (root : Key) (es later : List Entry) → IsOnTheWay s f n root es → GoesOn (node_of s f) n [] es later root → IsOnTheWay s f n root later
goes_further s f n root es later way g = λ more ext. g.same (node_of s more) (more_knows s f more ext) ∙ way more ext

-- and it still is where more is known
pub still_on_way : (s : Settings) (f g : Facts) (n : ℕ) (root : Key) (es : List Entry) → Extends f g → IsOnTheWay s f n root es → IsOnTheWay s g n root es
still_on_way s f g n root es ext way = λ more later. way more (extends_twice f g more ext later)
