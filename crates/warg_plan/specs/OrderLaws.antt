-- What the walk finds is in order.
use Rattle.std.proofs.Common.{◌≡◌, ℕ, zero, suc, ◌≤◌, Bool, true, false, ◌||◌, cond, List, [], ◌∷◌, ◌++◌, length, Option, Some, Result, Ok, Err, refl, sym, ap, subst, ◌∙◌, append_assoc, arith}
use Rattle.std.proofs.lemmas.List.{map-append, append-nil, length-append}
use Rattle.std.specs.Prelude.{slice_get}
use Rattle.std.specs.List.{AllByRecursion}
use Rattle.warg_values.specs.Reading.{◌>>=◌}
use Rattle.warg_values.specs.ReadingLaws.{bind_ok, ok_is, never}
use Rattle.warg_plan.specs.Keys.{Key, same_key}
use Rattle.warg_plan.specs.Walk.{Stop, TooDeep, Cycle, Wire, Open, To, Node, OfEntry, Entry, keys, has_key, place_of, argument, arguments, entry_of, along_one, along, visit, walk}
use Rattle.warg_plan.specs.Plan.{wired_by, wired, key_in, at_arg, arg_keys, post, post_all, taken_by}
use Rattle.warg_plan.specs.KeyLaws.{same_itself, same_is}
use Rattle.warg_plan.specs.WalkLaws.{no_truth, or_false, Visits, along_grew, visit_grew, keys_apart, has_none, keys_more}

get_front : (a b : List Entry) (i : ℕ) (e : Entry) → slice_get a i ≡ Some e → slice_get (a ++ b) i ≡ Some e
get_front [] b i e h = absurd cc
get_front (x ∷ a) b zero e h = h
get_front (x ∷ a) b (suc i) e h = get_front a b i e h

-- the entry at the place of a key
pub record Found (es : List Entry) (i : ℕ) (k : Key) : Type 0 where
  pub entry : Entry
  pub at : slice_get es i ≡ Some entry
  pub key : entry.key ≡ k

pub found : (es : List Entry) (k : Key) → has_key (keys es) k ≡ true → Found es (place_of (keys es) k) k
found [] k h = no_truth (sym h)
found (e ∷ es) k h = by (same_key k e.key) refl (found es k) h
  where
    by : (b : Bool) → same_key k e.key ≡ b → (has_key (keys es) k ≡ true → Found es (place_of (keys es) k) k) → (b || has_key (keys es) k) ≡ true → Found (e ∷ es) (cond b 0 (suc (place_of (keys es) k))) k
    by true is later h = record { entry = e; at = refl; key = sym (same_is k e.key is) }
    by false is later h = let f = later h in record { entry = f.entry; at = f.at; key = f.key }

arg_is : (all before rest : List Entry) → all ≡ before ++ rest → (k : Key) → has_key (keys before) k ≡ true → at_arg all (OfEntry (place_of (keys before) k)) ≡ k ∷ []
arg_is all before rest is k h =
    let f = found before k h in
    at (slice_get all (place_of (keys before) k)) f.entry (ap (λ l. slice_get l (place_of (keys before) k)) is ∙ get_front before rest _ f.entry f.at) f.key
  where
    at : (o : Option Entry) (e : Entry) → o ≡ Some e → e.key ≡ k → key_in o ≡ k ∷ []
    at o e is key = ap key_in is ∙ ap (λ (j : Key). j ∷ []) key

args_are : (all before rest : List Entry) → all ≡ before ++ rest → (ws : List (List ℕ × Wire)) → AllByRecursion (λ k. has_key (keys before) k ≡ true) (wired ws)
    → arg_keys all (arguments (keys before) ws) ≡ wired ws
args_are all before rest is [] h = refl
args_are all before rest is (w ∷ ws) h = by w.1 h (args_are all before rest is ws)
  where
    by : (v : Wire) → AllByRecursion (λ k. has_key (keys before) k ≡ true) (wired_by v ++ wired ws)
        → (AllByRecursion (λ k. has_key (keys before) k ≡ true) (wired ws) → arg_keys all (arguments (keys before) ws) ≡ wired ws)
        → at_arg all (argument (keys before) v) ++ arg_keys all (arguments (keys before) ws) ≡ wired_by v ++ wired ws
    by Open h later = later h
    by (To k) h later = ap (λ l. l ++ arg_keys all (arguments (keys before) ws)) (arg_is all before rest is k h.0) ∙ ap (λ l. k ∷ l) (later h.1)

-- what the first entry of a key takes
taken_at : (all before after : List Entry) (e : Entry) → has_key (keys before) e.key ≡ false → taken_by all (before ++ e ∷ after) e.key ≡ arg_keys all e.arguments
taken_at all [] after e h = ap (λ b. cond b (arg_keys all e.arguments) (taken_by all after e.key)) (same_itself e.key)
taken_at all (x ∷ before) after e h =
    let both = or_false (same_key e.key x.key) (has_key (keys before) e.key) h in
    ap (λ b. cond b (arg_keys all x.arguments) (taken_by all (before ++ e ∷ after) e.key)) both.0 ∙ taken_at all before after e both.1

module _ (node : Key → Result Node Stop) (all : List Entry) where
  abbrev takes : Key → List Key
  takes k = taken_by all all k

  abbrev Posts : ℕ → List Entry → List Entry → Key → Type 0
  Posts m es more k = (rest : List Entry) → all ≡ more ++ rest → length more ≤ m → post takes m k (keys es) ≡ keys more

  keys_front : (a b : List Entry) → keys (a ++ b) ≡ keys a ++ keys b
  keys_front a b = map-append (λ (e : Entry). e.key) a b

  along_posts : (path : List Key) (one : List Entry → Key → Result (List Entry) Stop) → ((es more : List Entry) (k : Key) → one es k ≡ Ok more → Visits node path es more k)
      → (m : ℕ) → ((es more : List Entry) (k : Key) → one es k ≡ Ok more → Posts m es more k) → (ws : List (List ℕ × Wire)) (es more rest : List Entry) → along one es ws ≡ Ok more → all ≡ more ++ rest → length more ≤ m
      → post_all (post takes m) (wired ws) (keys es) ≡ keys more
  unfolding along
  along_posts path one grew m law [] es more rest e is le = ap keys (ok_is es more e)
  along_posts path one grew m law (w ∷ ws) es more rest e is le =
      let a = bind_ok (along_one one es w.1) _ _ e in
      let g = (along_grew node path one grew ws a.0 more a.2).0 in
      by (g.new ++ rest) w.1 a.1 (is ∙ ap (λ l. l ++ rest) g.is ∙ append_assoc a.0 g.new rest) (omega (arith, ap length g.is ∙ length-append a.0 g.new, le)) (along_posts path one grew m law ws a.0 more rest a.2 is le)
    where
      by : {mid : List Entry} (new : List Entry) (v : Wire) → along_one one es v ≡ Ok mid → all ≡ mid ++ new → length mid ≤ m → post_all (post takes m) (wired ws) (keys mid) ≡ keys more
          → post_all (post takes m) (wired_by v ++ wired ws) (keys es) ≡ keys more
      by {mid} new Open e is le later = ap (λ l. post_all (post takes m) (wired ws) (keys l)) (ok_is es mid e) ∙ later
      by {mid} new (To k) e is le later = ap (λ l. post_all (post takes m) (wired ws) l) (law es mid k e new is le) ∙ later

  at_least : (m : ℕ) (es : List Entry) (e : Entry) → length (es ++ e ∷ []) ≤ m → (n : ℕ) × (m ≡ suc n) × (length es ≤ n)
  at_least zero es e le = absurd (omega (arith, length-append es (e ∷ []), le))
  at_least (suc n) es e le = (n, refl, omega (arith, length-append es (e ∷ []), le))

  some_key : (m : ℕ) (es : List Entry) (k : Key) → has_key (keys es) k ≡ true → length es ≤ m → (n : ℕ) × (m ≡ suc n)
  some_key (suc n) es k h le = (n, refl)
  some_key zero [] k h le = no_truth (sym h)
  some_key zero (e ∷ es) k h le = absurd (omega (arith, le))

  posts_step : (n : ℕ) → ((path : List Key) (es more : List Entry) (k : Key) → visit node n path es k ≡ Ok more → (m : ℕ) → Posts m es more k) → (path : List Key) (es more : List Entry) (k : Key)
      → visit node (suc n) path es k ≡ Ok more → (m : ℕ) → Posts m es more k
  unfolding visit post
  posts_step n law path es more k e m rest is le = listed (has_key (keys es) k) refl e
    where
      after : Result (List Entry) Stop
      after = node k >>= λ x. along (visit node n (k ∷ path)) es x.wires >>= λ more. Ok (more ++ entry_of k x more ∷ [])

      goes : (m : ℕ) (x : Node) (mid : List Entry) → has_key (keys es) k ≡ false → along (visit node n (k ∷ path)) es x.wires ≡ Ok mid → mid ++ entry_of k x mid ∷ [] ≡ more → length mid ≤ m → post takes (suc m) k (keys es) ≡ keys more
      goes m x mid new e end le =
          let g = along_grew node (k ∷ path) (visit node n (k ∷ path)) (visit_grew node n (k ∷ path)) x.wires es mid e in
          let whole = is ∙ ap (λ l. l ++ rest) (sym end) ∙ append_assoc mid (entry_of k x mid ∷ []) rest in
          let fresh = subst (λ l. has_key l k ≡ false) (sym (ap keys g.0.is ∙ keys_front es g.0.new)) (has_none (keys es) (keys g.0.new) k new (keys_apart node path k g.0.new g.0.apart)) in
          let wires = ap (λ l. taken_by all l k) whole ∙ taken_at all mid rest (entry_of k x mid) fresh ∙ args_are all mid (entry_of k x mid ∷ rest) whole x.wires g.1 in
          ap (λ b. cond b (keys es) (post_all (post takes m) (takes k) (keys es) ++ k ∷ [])) new
          ∙ ap (λ l. post_all (post takes m) l (keys es) ++ k ∷ []) wires
          ∙ ap (λ l. l ++ k ∷ []) (along_posts (k ∷ path) (visit node n (k ∷ path)) (visit_grew node n (k ∷ path)) m (λ es more j e. law (k ∷ path) es more j e m) x.wires es mid (entry_of k x mid ∷ rest) e whole le)
          ∙ sym (keys_more node mid (entry_of k x mid))
          ∙ ap keys end

      went : has_key (keys es) k ≡ false → after ≡ Ok more → post takes m k (keys es) ≡ keys more
      went new e =
          let a = bind_ok (node k) _ _ e in
          let b = bind_ok (along (visit node n (k ∷ path)) es a.0.wires) _ _ a.2 in
          let end = ok_is _ _ b.2 in
          let s = at_least m b.0 (entry_of k a.0 b.0) (subst (λ l. length l ≤ m) (sym end) le) in
          subst (λ j. post takes j k (keys es) ≡ keys more) (sym s.1) (goes s.0 a.0 b.0 new b.1 end s.2)

      met : (b : Bool) → has_key (keys es) k ≡ false → cond b (Err (Cycle k)) after ≡ Ok more → post takes m k (keys es) ≡ keys more
      met true new e = never (Cycle k) more e
      met false new e = went new e

      listed : (b : Bool) → has_key (keys es) k ≡ b → cond b (Ok es) (cond (has_key path k) (Err (Cycle k)) after) ≡ Ok more → post takes m k (keys es) ≡ keys more
      listed true is e =
          let same_list = ok_is es more e in
          let s = some_key m es k is (subst (λ l. length l ≤ m) (sym same_list) le) in
          subst (λ j. post takes j k (keys es) ≡ keys more) (sym s.1) (ap (λ b. cond b (keys es) (post_all (post takes s.0) (takes k) (keys es) ++ k ∷ [])) is ∙ ap keys same_list)
      listed false is e = met (has_key path k) is e

  visit_posts : (n : ℕ) (path : List Key) (es more : List Entry) (k : Key) → visit node n path es k ≡ Ok more → (m : ℕ) → Posts m es more k
  unfolding visit
  visit_posts zero path es more k e m rest is le = never TooDeep more e
  visit_posts (suc n) path es more k e m rest is le = posts_step n (visit_posts n) path es more k e m rest is le

-- The keys of what the walk finds are in order.
pub walk_in_order : (node : Key → Result Node Stop) (n : ℕ) (root : Key) (es : List Entry) → walk node n root ≡ Ok es → keys es ≡ post (taken_by es es) (suc (length es)) root []
walk_in_order node n root es e = sym (visit_posts node es n [] [] es root e (suc (length es)) [] (sym (append-nil es)) (omega arith))
