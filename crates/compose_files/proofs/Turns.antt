-- By the turns of instances what is built is wired as the whole graph has it.
use Rattle.std.proofs.Common.{◌≡◌, ◌<◌, ℕ, suc, zero, ◌+◌, List, [], ◌∷◌, ◌++◌, length, take, Some, slice_get, refl, sym, ap, ◌∙◌, subst, arith, append_assoc, length-append}
use Rattle.std.specs.Prelude.{flat_map}
use Rattle.std.specs.List.{AllByRecursion}
use Rattle.std.proofs.lemmas.Grind.{flat_map-append}
use Rattle.std.proofs.lemmas.List.{append-nil, length-map, take_all}
use Rattle.std.proofs.lemmas.Option.{same_Some}
use Rattle.comp_entity.specs.Entity.{EntityTree}
use Rattle.compose_graph.specs.Graph.{ComponentEntry, GraphTree}
use Rattle.compose_files.specs.Built.{AfterSteps, Built, HasGoodArguments, Need, Sources, import_names}
use Rattle.compose_files.specs.Composed.{HasTurn, ServesAt}
use Rattle.compose_files.specs.Graph.{Origin, named_from, named_of, needs_by, needs_from, needs_of}
use Rattle.compose_files.proofs.Drawn.{IsDrawn, IsWired}
use Rattle.compose_files.proofs.GraphKept.{Keeps, keeps_both, keeps_itself, needs_kept}
use Rattle.compose_files.proofs.GraphSteps.{serves_stepped}
use Rattle.compose_files.proofs.Once.{none_some}
use Rattle.compose_files.proofs.Origins.{named_behind, named_below}
use Rattle.compose_files.proofs.Stepped.{IsStepped}

-- ---- fronts of lists

-- a front that is longer by one
pub take_suc : {X : Type 0} (xs ys : List X) (n : ℕ) (x : X) → slice_get xs n ≡ Some x → take (suc n) (xs ++ ys) ≡ take n xs ++ x ∷ []
take_suc [] ys n x h = absurd (none_some x (sym h))
take_suc (y ∷ xs) ys zero x h = ap (λ z. z ∷ []) (same_Some y x h)
take_suc (y ∷ xs) ys (suc n) x h = ap (λ l. y ∷ l) (take_suc xs ys n x h)

abbrev pub need_at : List ℕ → ℕ → ℕ → List ℕ → Need
need_at instance target place name = record { instance = instance; target = target; place = place; name = name }

pub needs_at : (instance : List ℕ) (target from n : ℕ) (names : List (List ℕ)) (name : List ℕ) → slice_get names n ≡ Some name
    → slice_get (needs_from instance target from names) n ≡ Some (record { instance = instance; target = target; place = from + n; name = name })
needs_at instance target from n [] name h = absurd (none_some name (sym h))
needs_at instance target from zero (a ∷ names) name h =
    ap (λ x. Some (record { instance = instance; target = target; place = from; name = x })) (same_Some a name h)
    ∙ ap (λ m. Some (record { instance = instance; target = target; place = m; name = name })) (omega arith)
needs_at instance target from (suc n) (a ∷ names) name h =
    needs_at instance target (from + 1) n names name h ∙ ap (λ m. Some (record { instance = instance; target = target; place = m; name = name })) (omega arith)

pub needs_long : (instance : List ℕ) (target from : ℕ) (names : List (List ℕ)) → length (needs_from instance target from names) ≡ length names
needs_long instance target from [] = refl
needs_long instance target from (a ∷ names) = ap suc (needs_long instance target (from + 1) names)

-- the imports of instances that have components stay
all_needs_kept : (s : Sources) (old new : GraphTree) → Keeps old new → (xs : List (List ℕ × ℕ)) (k : ℕ) → AllByRecursion (λ (i : List ℕ × ℕ). HasGoodArguments s.settings old i.0 i.1) xs
    → flat_map (needs_of new) (take k xs) ≡ flat_map (needs_of old) (take k xs)
all_needs_kept s old new keeps [] zero h = refl
all_needs_kept s old new keeps [] (suc k) h = refl
all_needs_kept s old new keeps (x ∷ xs) zero h = refl
all_needs_kept s old new keeps (x ∷ xs) (suc k) h =
    ap (λ l. l ++ flat_map (needs_of new) (take k xs)) (needs_kept old new keeps x h.0.component h.0.made_from) ∙ ap (λ l. needs_of old x ++ l) (all_needs_kept s old new keeps xs k h.1)

-- ---- steps

module _ (s : Sources) (first : List ComponentEntry) where
  stepped_none : (b : Built) (origins : List Origin) (found : List ComponentEntry) (done : List Need) → IsDrawn s first b origins found → IsWired s first b origins done → IsStepped s first b origins done b
  stepped_none b origins found done drawn wired = record { after = origins; more = []; longer = sym (append-nil origins); found = found; drawn = drawn; wired = wired; keeps = keeps_itself b.graph }

  stepped_both : (a b c : Built) (origins : List Origin) (one two : List Need) → (p : IsStepped s first a origins one b) → IsStepped s first b p.after two c → IsStepped s first a origins two c
  stepped_both a b c origins one two p q = record {
    after = q.after;
    more = p.more ++ q.more;
    longer = q.longer ∙ ap (λ l. l ++ q.more) p.longer ∙ append_assoc origins p.more q.more;
    found = q.found;
    drawn = q.drawn;
    wired = q.wired;
    keeps = keeps_both a.graph b.graph c.graph p.keeps q.keeps;
  }

  -- the imports of an instance are served
  pub imports_stepped : (old : Built) (origins : List Origin) (found : List ComponentEntry) (done : List Need) (instance : List ℕ) (target : ℕ) (names : List (List ℕ)) → IsDrawn s first old origins found
      → IsWired s first old origins done → target < length origins → (n : ℕ) (new : Built) → AfterSteps (ServesAt s instance target names) old n new
      → IsStepped s first old origins (done ++ take n (needs_from instance target 0 names)) new
  imports_stepped old origins found done instance target names drawn wired below zero new h =
      subst (IsStepped s first old origins (done ++ [])) (sym h) (subst (λ l. IsStepped s first old origins l old) (sym (append-nil done)) (stepped_none old origins found done drawn wired))
  imports_stepped old origins found done instance target names drawn wired below (suc n) new h = by (imports_stepped old origins found done instance target names drawn wired below n h.0 h.1)
    where
      one_more : take (suc n) (needs_from instance target 0 names) ≡ take n (needs_from instance target 0 names) ++ need_at instance target n h.2.name ∷ []
      one_more =
          ap (take (suc n)) (sym (append-nil (needs_from instance target 0 names)))
          ∙ take_suc (needs_from instance target 0 names) [] n (need_at instance target n h.2.name) (needs_at instance target 0 n names h.2.name h.2.there ∙ ap (λ m. Some (need_at instance target m h.2.name)) (omega arith))

      by : IsStepped s first old origins (done ++ take n (needs_from instance target 0 names)) h.0 → IsStepped s first old origins (done ++ take (suc n) (needs_from instance target 0 names)) new
      by r =
          let front : List Need = take n (needs_from instance target 0 names) in
          let need : Need = need_at instance target n h.2.name in
          let long = ap length r.longer ∙ length-append origins r.more in
          let below_all : target < length r.after = omega arith in
          subst (λ l. IsStepped s first old origins l new) (append_assoc done front (need ∷ []) ∙ ap (λ l. done ++ l) (sym one_more))
          (stepped_both old h.0 new origins (done ++ front) ((done ++ front) ++ need ∷ []) r (serves_stepped s first h.0 r.after r.found r.drawn (done ++ front) r.wired need new below_all h.2.serves))

  -- what is built when the instances in front of this place had their turns
  pub record IsTurned (old : Built) (origins : List Origin) (k : ℕ) (new : Built) : Type 0 where
    pub after : List Origin
    pub more : List Origin
    pub longer : after ≡ origins ++ more
    pub found : List ComponentEntry
    pub drawn : IsDrawn s first new after found
    pub wired : IsWired s first new after (flat_map (needs_of new.graph) (take k (named_of after)))
    pub keeps : Keeps old.graph new.graph

  -- the instance of a place has its turn
  turn_stepped : (old : Built) (origins : List Origin) (found : List ComponentEntry) (k : ℕ) → IsDrawn s first old origins found → IsWired s first old origins (flat_map (needs_of old.graph) (take k (named_of origins)))
      → (new : Built) → HasTurn s k old new → IsTurned old origins (suc k) new
  turn_stepped old origins found k drawn wired new h =
      finish (imports_stepped old origins found (flat_map (needs_of old.graph) (take k (named_of origins))) h.name h.id (import_names h.component.shape) drawn wired below (length h.component.shape.imports) new h.served)
    where
      there : slice_get (named_of origins) k ≡ Some (h.name, h.id)
      there = ap (λ l. slice_get l k) (sym drawn.named) ∙ h.there

      below : h.id < length origins
      below = let within : h.id < 0 + length origins = named_below 0 origins k h.name h.id there in omega arith

      all : take (length h.component.shape.imports) (needs_from h.name h.id 0 (import_names h.component.shape)) ≡ needs_of old.graph (h.name, h.id)
      all =
          take_all (length h.component.shape.imports) (needs_from h.name h.id 0 (import_names h.component.shape))
          (let long = needs_long h.name h.id 0 (import_names h.component.shape) ∙ length-map h.component.shape.imports (λ (i : List ℕ × EntityTree). i.0) in omega arith)
          ∙ sym (ap (needs_by h.name h.id) h.made_from)

      finish : IsStepped s first old origins (flat_map (needs_of old.graph) (take k (named_of origins)) ++ take (length h.component.shape.imports) (needs_from h.name h.id 0 (import_names h.component.shape))) new
          → IsTurned old origins (suc k) new
      finish r = record {
        after = r.after;
        more = r.more;
        longer = r.longer;
        found = r.found;
        drawn = r.drawn;
        wired = subst (IsWired s first new r.after) (sym same) r.wired;
        keeps = r.keeps;
      }
        where
          named : take (suc k) (named_of r.after) ≡ take k (named_of origins) ++ (h.name, h.id) ∷ []
          named =
              ap (λ l. take (suc k) (named_of l)) r.longer ∙ ap (take (suc k)) (named_behind 0 origins r.more)
              ∙ take_suc (named_of origins) (named_from (0 + length origins) r.more) k (h.name, h.id) there

          same : flat_map (needs_of new.graph) (take (suc k) (named_of r.after))
              ≡ flat_map (needs_of old.graph) (take k (named_of origins)) ++ take (length h.component.shape.imports) (needs_from h.name h.id 0 (import_names h.component.shape))
          same =
              ap (flat_map (needs_of new.graph)) named ∙ flat_map-append (needs_of new.graph) (take k (named_of origins)) ((h.name, h.id) ∷ [])
              ∙ ap (λ l. l ++ (needs_of new.graph (h.name, h.id) ++ [])) (all_needs_kept s old.graph new.graph r.keeps (named_of origins) k wired.arguments_good)
              ∙ ap (λ l. flat_map (needs_of old.graph) (take k (named_of origins)) ++ l) (append-nil (needs_of new.graph (h.name, h.id)) ∙ needs_kept old.graph new.graph r.keeps (h.name, h.id) h.component h.made_from ∙ sym all)

  -- the instances in front of a place have their turns
  pub turns_stepped : (start : Built) (origins : List Origin) (found : List ComponentEntry) → IsDrawn s first start origins found → IsWired s first start origins [] → (k : ℕ) (end : Built)
      → AfterSteps (HasTurn s) start k end → IsTurned start origins k end
  turns_stepped start origins found drawn wired zero end h =
      subst (IsTurned start origins 0) (sym h) (record { after = origins; more = []; longer = sym (append-nil origins); found = found; drawn = drawn; wired = wired; keeps = keeps_itself start.graph })
  turns_stepped start origins found drawn wired (suc k) end h = by (turns_stepped start origins found drawn wired k h.0 h.1)
    where
      by : IsTurned start origins k h.0 → IsTurned start origins (suc k) end
      by p = both (turn_stepped h.0 p.after p.found k p.drawn p.wired end h.2)
        where
          both : IsTurned h.0 p.after (suc k) end → IsTurned start origins (suc k) end
          both q = record {
            after = q.after;
            more = p.more ++ q.more;
            longer = q.longer ∙ ap (λ l. l ++ q.more) p.longer ∙ append_assoc origins p.more q.more;
            found = q.found;
            drawn = q.drawn;
            wired = q.wired;
            keeps = keeps_both start.graph h.0.graph end.graph p.keeps q.keeps;
          }
