-- Why the walk stops: at an entry, at a key that needs itself, or at its depth.
use Rattle.std.proofs.Common.{◌≡◌, ℕ, zero, suc, ◌+◌, Bool, true, false, ◌||◌, cond, List, [], ◌∷◌, ◌++◌, length, Result, Ok, Err, refl, sym, ap, subst, append_assoc, inl, inr, arith}
use Rattle.std.specs.Prelude.{◌⊎◌}
use Rattle.warg_values.specs.Reading.{◌>>=◌}
use Rattle.warg_plan.specs.Keys.{Key, same_key}
use Rattle.warg_plan.specs.Walk.{Stop, TooDeep, Cycle, Wire, Open, To, Node, Entry, keys, has_key, entry_of, along_one, along, visit, walk}
use Rattle.warg_plan.specs.Plan.{wired_by, wired, IsIn, IsTrail, Needs, NeedsItself}
use Rattle.warg_plan.specs.KeyLaws.{same_is}
use Rattle.warg_plan.specs.WalkLaws.{no_truth}

abbrev refused : {A : Type 0} → Stop → Result A Stop
refused s = Err s

pub err_is : {A : Type 0} (s t : Stop) → refused {A = A} s ≡ refused {A = A} t → s ≡ t
err_is s t e = cc

pub ok_no_err : {A P : Type 0} (x : A) (s : Stop) → Ok x ≡ Err s → P
ok_no_err x s e = absurd cc

-- a step that stops, or the one after it
pub bind_err : {A B : Type 0} (r : Result A Stop) (f : A → Result B Stop) (s : Stop) → (r >>= f) ≡ Err s → (r ≡ Err s) ⊎ ((x : A) × (r ≡ Ok x) × (f x ≡ Err s))
bind_err (Ok x) f s e = inr (x, refl, e)
bind_err {A} {B} (Err t) f s e = inl (ap (λ (t : Stop). refused {A = A} t) (err_is {A = B} t s e))

module _ (node : Key → Result Node Stop) (root : Key) (depth : ℕ) where
  abbrev pub IsOf : Key → Node → Type 0
  IsOf k x = node k ≡ Ok x

  -- the cause of a stop at a key
  abbrev pub StopsAt : Stop → Key → Type 0
  StopsAt s k = (node k ≡ Err s) ⊎ ((s ≡ Cycle k) × NeedsItself IsOf k) ⊎ ((s ≡ TooDeep) × (path : List Key) × IsTrail IsOf root path k × (length path ≡ depth))

  -- the key stands on a trail from the root
  abbrev pub Stops : Stop → Type 0
  Stops s = (k : Key) × Needs IsOf root k × StopsAt s k

  wired_more : (k : Key) (v : Wire) (ks : List Key) → IsIn k ks → IsIn k (wired_by v ++ ks)
  wired_more k Open ks h = h
  wired_more k (To j) ks h = inr h

  along_stops : (one : List Entry → Key → Result (List Entry) Stop) (s : Stop) (ws : List (List ℕ × Wire)) → ((es : List Entry) (k : Key) → IsIn k (wired ws) → one es k ≡ Err s → Stops s) → (es : List Entry) → along one es ws ≡ Err s → Stops s
  unfolding along
  along_stops one s [] law es e = ok_no_err es s e
  along_stops one s (w ∷ ws) law es e = by w.1 law (bind_err (along_one one es w.1) _ s e) (along_stops one s ws)
    where
      by : (v : Wire) → ((es : List Entry) (k : Key) → IsIn k (wired_by v ++ wired ws) → one es k ≡ Err s → Stops s) → (along_one one es v ≡ Err s) ⊎ ((mid : List Entry) × (along_one one es v ≡ Ok mid) × (along one mid ws ≡ Err s))
          → (((es : List Entry) (k : Key) → IsIn k (wired ws) → one es k ≡ Err s → Stops s) → (es : List Entry) → along one es ws ≡ Err s → Stops s) → Stops s
      by v law (inr e) later = later (λ es k h e. law es k (wired_more k v (wired ws) h) e) e.0 e.2
      by Open law (inl e) later = ok_no_err es s e
      by (To k) law (inl e) later = law es k (inl refl) e

  -- the front of a trail, up to a key on it
  cut : (a b : List Key) (j k : Key) → IsTrail IsOf root (a ++ j ∷ b) k → IsTrail IsOf j (a ++ j ∷ []) k
  cut [] b j k t = (t.0, refl)
  cut (x ∷ a) b j k t = (t.0, cut a b j x t.1)

  not_empty : (a : List Key) (j k : Key) → IsTrail IsOf k (a ++ j ∷ []) k → NeedsItself IsOf k
  not_empty [] j k t = (j, [], t)
  not_empty (x ∷ a) j k t = (x, a ++ j ∷ [], t)

  -- a key that is on the trail to it needs itself
  circle : (path before : List Key) (k : Key) → IsTrail IsOf root (before ++ path) k → has_key path k ≡ true → NeedsItself IsOf k
  circle [] before k trail h = no_truth (sym h)
  circle (j ∷ path) before k trail h = by (same_key k j) refl h (λ later. circle path (before ++ j ∷ []) k (subst (λ l. IsTrail IsOf root l k) (sym (append_assoc before (j ∷ []) path)) trail) later)
    where
      by : (b : Bool) → same_key k j ≡ b → (b || has_key path k) ≡ true → (has_key path k ≡ true → NeedsItself IsOf k) → NeedsItself IsOf k
      by true is h later = not_empty before k k (subst (λ i. IsTrail IsOf i (before ++ i ∷ []) k) (sym (same_is k j is)) (cut before path j k trail))
      by false is h later = later h

  -- a visit with so many keys left to open, where those on the trail are open
  abbrev Law : ℕ → Stop → Type 0
  Law n s = (path : List Key) (es : List Entry) (k : Key) → IsTrail IsOf root path k → length path + n ≡ depth → visit node n path es k ≡ Err s → Stops s

  stops_step : (n : ℕ) (s : Stop) → Law n s → Law (suc n) s
  unfolding visit
  stops_step n s law path es k trail sum e = listed (has_key (keys es) k) e
    where
      rest : Result (List Entry) Stop
      rest = node k >>= λ x. along (visit node n (k ∷ path)) es x.wires >>= λ more. Ok (more ++ entry_of k x more ∷ [])

      longer : length (k ∷ path) + n ≡ depth
      longer = omega (arith, sum)

      inner : (x : Node) → node k ≡ Ok x → ((along (visit node n (k ∷ path)) es x.wires ≡ Err s) ⊎ ((more : List Entry) × (along (visit node n (k ∷ path)) es x.wires ≡ Ok more) × (Ok (more ++ entry_of k x more ∷ []) ≡ Err s))) → Stops s
      inner x is (inl e) = along_stops (visit node n (k ∷ path)) s x.wires (λ es j there e. law (k ∷ path) es j ((x, is, there), trail) longer e) es e
      inner x is (inr e) = ok_no_err _ s e.2

      went : (node k ≡ Err s) ⊎ ((x : Node) × (node k ≡ Ok x) × ((along (visit node n (k ∷ path)) es x.wires >>= λ more. Ok (more ++ entry_of k x more ∷ [])) ≡ Err s)) → Stops s
      went (inl e) = (k, (path, trail), inl e)
      went (inr e) = inner e.0 e.1 (bind_err (along (visit node n (k ∷ path)) es e.0.wires) _ s e.2)

      met : (b : Bool) → has_key path k ≡ b → cond b (Err (Cycle k)) rest ≡ Err s → Stops s
      met true is e = (k, (path, trail), inr (inl (sym (err_is {A = List Entry} (Cycle k) s e), circle path [] k trail is)))
      met false is e = went (bind_err (node k) _ s e)

      listed : (b : Bool) → cond b (Ok es) (cond (has_key path k) (Err (Cycle k)) rest) ≡ Err s → Stops s
      listed true e = ok_no_err es s e
      listed false e = met (has_key path k) refl e

  visit_stops : (n : ℕ) (s : Stop) → Law n s
  unfolding visit
  visit_stops zero s path es k trail sum e = (k, (path, trail), inr (inr (sym (err_is {A = List Entry} TooDeep s e), path, trail, omega (arith, sum))))
  visit_stops (suc n) s path es k trail sum e = stops_step n s (visit_stops n s) path es k trail sum e

  pub walk_stops : (s : Stop) → walk node depth root ≡ Err s → Stops s
  walk_stops s e = visit_stops depth s [] [] root refl (omega arith) e
