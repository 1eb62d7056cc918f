-- Where there is a plan, the walk refuses nothing.
use Rattle.std.proofs.Common.{◌≡◌, ℕ, zero, suc, ◌<◌, ◌≤◌, Bool, true, false, ◌||◌, cond, List, [], ◌∷◌, ◌++◌, length, Result, Ok, Err, refl, sym, ap, subst, ◌∙◌, append_assoc, arith, inl, inr}
use Rattle.std.proofs.lemmas.List.{map-append, append-nil, length-append}
use Rattle.std.specs.Prelude.{◌⊎◌}
use Rattle.std.specs.List.{AllByRecursion}
use Rattle.warg_values.specs.Reading.{◌>>=◌}
use Rattle.warg_plan.specs.Keys.{Key, same_key}
use Rattle.compose_config.specs.Plan.{Settings}
use Rattle.warg_plan.specs.Walk.{Facts, node_of, Stop, Cycle, Wire, Open, To, Node, Entry, keys, has_key, entry_of, along_one, along, visit, walk}
use Rattle.warg_plan.specs.Known.{Extends, IsNeed, IsBelow}
use Rattle.warg_plan.specs.Plan.{wired_by, wired, EachAfter}
use Rattle.warg_plan.specs.KeyLaws.{same_itself, same_is}
use Rattle.warg_plan.specs.WalkLaws.{IsNodeEntry, no_truth, or_false}
use Rattle.warg_plan.specs.FactLaws.{node_below, visit_below}

module _ (node : Key → Result Node Stop) where
  abbrev pub Good : List Entry → Entry → Type 0
  Good before e = IsNodeEntry (λ k x. node k ≡ Ok x) before e

  -- the entry of a key among entries
  record AtKey (start es : List Entry) (k : Key) : Type 0 where
    before : List Entry
    entry : Entry
    after : List Entry
    parts : es ≡ before ++ entry ∷ after
    key : entry.key ≡ k
    each : EachAfter Good start before
    good : Good (start ++ before) entry

  at_key : (start es : List Entry) (k : Key) → EachAfter Good start es → has_key (keys es) k ≡ true → AtKey start es k
  unfolding EachAfter
  at_key start [] k each h = no_truth (sym h)
  at_key start (e ∷ es) k each h = by (same_key k e.key) refl h (λ later. at_key (start ++ e ∷ []) es k each.1 later)
    where
      by : (b : Bool) → same_key k e.key ≡ b → (b || has_key (keys es) k) ≡ true → (has_key (keys es) k ≡ true → AtKey (start ++ e ∷ []) es k) → AtKey start (e ∷ es) k
      by true is h later = record { before = []; entry = e; after = es; parts = refl; key = sym (same_is k e.key is); each = record {}; good = subst (λ l. Good l e) (sym (append-nil start)) each.0 }
      by false is h later = let a = later h in record {
        before = e ∷ a.before;
        entry = a.entry;
        after = a.after;
        parts = ap (λ l. e ∷ l) a.parts;
        key = a.key;
        each = (each.0, a.each);
        good = subst (λ l. Good l a.entry) (append_assoc start (e ∷ []) a.before) a.good;
      }

  abbrev Succeeds : (List Entry → Key → Result (List Entry) Stop) → List Entry → Key → Type 0
  Succeeds one es k = (more : List Entry) × (one es k ≡ Ok more)

  along_succeeds : (one : List Entry → Key → Result (List Entry) Stop) (b : List Entry) → ((es : List Entry) (k : Key) → has_key (keys b) k ≡ true → Succeeds one es k) → (ws : List (List ℕ × Wire)) (es : List Entry)
      → AllByRecursion (λ k. has_key (keys b) k ≡ true) (wired ws) → (more : List Entry) × (along one es ws ≡ Ok more)
  unfolding along
  along_succeeds one b law [] es h = (es, refl)
  along_succeeds one b law (w ∷ ws) es h = by w.1 h (λ mid later. along_succeeds one b law ws mid later)
    where
      by : (v : Wire) → AllByRecursion (λ k. has_key (keys b) k ≡ true) (wired_by v ++ wired ws) → ((mid : List Entry) → AllByRecursion (λ k. has_key (keys b) k ≡ true) (wired ws) → (more : List Entry) × (along one mid ws ≡ Ok more))
          → (more : List Entry) × ((along_one one es v >>= λ mid. along one mid ws) ≡ Ok more)
      by Open h later = later es h
      by (To k) h later = let a = law es k h.0 in let c = later a.0 h.1 in (c.0, ap (λ r. r >>= λ mid. along one mid ws) a.1 ∙ c.1)

  -- a key that is being visited is none of those up to here
  not_visited : (ks path : List Key) (k : Key) → has_key ks k ≡ true → AllByRecursion (λ j. has_key ks j ≡ false) path → has_key path k ≡ false
  not_visited ks [] k there apart = refl
  not_visited ks (j ∷ path) k there apart = by (same_key k j) refl (not_visited ks path k there apart.1)
    where
      by : (b : Bool) → same_key k j ≡ b → has_key path k ≡ false → (b || has_key path k) ≡ false
      by true is later = no_truth (sym there ∙ ap (has_key ks) (same_is k j is) ∙ apart.0)
      by false is later = later

  -- what is not among some is not among their front
  not_front : (a c : List Key) (k : Key) → has_key (a ++ c) k ≡ false → has_key a k ≡ false
  not_front [] c k h = refl
  not_front (j ∷ a) c k h = let both = or_false (same_key k j) (has_key (a ++ c) k) h in by (same_key k j) both.0 (not_front a c k both.1)
    where
      by : (b : Bool) → b ≡ false → has_key a k ≡ false → (b || has_key a k) ≡ false
      by true is later = no_truth is
      by false is later = later

  all_front : (a c path : List Key) → AllByRecursion (λ j. has_key (a ++ c) j ≡ false) path → AllByRecursion (λ j. has_key a j ≡ false) path
  all_front a c [] h = h
  all_front a c (j ∷ path) h = (not_front a c j h.0, all_front a c path h.1)

  itself : (b : List Entry) (e : Entry) → has_key (keys (b ++ e ∷ [])) e.key ≡ true
  itself [] e = ap (λ b. b || false) (same_itself e.key)
  itself (x ∷ b) e = by (same_key e.key x.key) (itself b e)
    where
      by : (t : Bool) → has_key (keys (b ++ e ∷ [])) e.key ≡ true → (t || has_key (keys (b ++ e ∷ [])) e.key) ≡ true
      by true later = refl
      by false later = later

  keys_of : (a c : List Entry) → keys (a ++ c) ≡ keys a ++ keys c
  keys_of a c = map-append (λ (e : Entry). e.key) a c

  -- The visit of an entry's key goes well, where none of those being visited is that entry or before it.
  abbrev Goes : ℕ → Type 0
  Goes n = (path : List Key) (es b : List Entry) (e : Entry) → EachAfter Good [] b → Good b e → length b < n → AllByRecursion (λ j. has_key (keys (b ++ e ∷ [])) j ≡ false) path → (more : List Entry) × (visit node n path es e.key ≡ Ok more)

  goes_step : (n : ℕ) → Goes n → Goes (suc n)
  unfolding visit
  goes_step n law path es b e each good le apart =
      let a = along_succeeds (visit node n (e.key ∷ path)) b inner good.made_of.wires es good.earlier in
      listed (has_key (keys es) e.key) a.0 a.1
    where
      inner : (es : List Entry) (k : Key) → has_key (keys b) k ≡ true → Succeeds (visit node n (e.key ∷ path)) es k
      inner es k h =
          let at = at_key [] b k each h in
          let whole : keys b ≡ keys (at.before ++ at.entry ∷ []) ++ keys at.after = ap keys (at.parts ∙ sym (append_assoc at.before (at.entry ∷ []) at.after)) ∙ keys_of (at.before ++ at.entry ∷ []) at.after in
          let own = not_front (keys (at.before ++ at.entry ∷ [])) (keys at.after) e.key (subst (λ l. has_key l e.key ≡ false) whole good.new) in
          let others = all_front (keys (at.before ++ at.entry ∷ [])) (keys at.after) path (subst (λ l. AllByRecursion (λ j. has_key l j ≡ false) path) whole (all_front (keys b) (keys (e ∷ [])) path (subst (λ l. AllByRecursion (λ j. has_key l j ≡ false) path) (keys_of b (e ∷ [])) apart))) in
          let short = ap length at.parts ∙ length-append at.before (at.entry ∷ at.after) in
          let v = law (e.key ∷ path) es at.before at.entry at.each at.good (omega (arith, short, le)) (own, others) in
          (v.0, subst (λ j. visit node n (e.key ∷ path) es j ≡ Ok v.0) at.key v.1)

      went : (more : List Entry) → along (visit node n (e.key ∷ path)) es good.made_of.wires ≡ Ok more → (out : List Entry) × ((node e.key >>= λ x. along (visit node n (e.key ∷ path)) es x.wires >>= λ more. Ok (more ++ entry_of e.key x more ∷ [])) ≡ Ok out)
      went more is = (more ++ entry_of e.key good.made_of more ∷ [], ap (λ r. r >>= λ x. along (visit node n (e.key ∷ path)) es x.wires >>= λ more. Ok (more ++ entry_of e.key x more ∷ [])) good.is_node ∙ ap (λ r. r >>= λ more. Ok (more ++ entry_of e.key good.made_of more ∷ [])) is)

      listed : (t : Bool) (more : List Entry) → along (visit node n (e.key ∷ path)) es good.made_of.wires ≡ Ok more
          → (out : List Entry) × (cond t (Ok es) (cond (has_key path e.key) (Err (Cycle e.key)) (node e.key >>= λ x. along (visit node n (e.key ∷ path)) es x.wires >>= λ more. Ok (more ++ entry_of e.key x more ∷ []))) ≡ Ok out)
      listed true more is = (es, refl)
      listed false more is =
          let out = went more is in
          (out.0, ap (λ t. cond t (Err (Cycle e.key)) (node e.key >>= λ x. along (visit node n (e.key ∷ path)) es x.wires >>= λ more. Ok (more ++ entry_of e.key x more ∷ []))) (not_visited (keys (b ++ e ∷ [])) path e.key (itself b e) apart) ∙ out.1)

  goes : (n : ℕ) → Goes n
  goes zero path es b e each good le apart = absurd (omega (arith, le))
  goes (suc n) path es b e each good le apart = goes_step n (goes n) path es b e each good le apart

  -- Where there is a plan, the walk goes well.
  pub plan_walks : (root : Key) (all : List Entry) → EachAfter Good [] all → has_key (keys all) root ≡ true → (n : ℕ) → length all ≤ n → (es : List Entry) × (walk node n root ≡ Ok es)
  plan_walks root all each there n le =
      let at = at_key [] all root each there in
      let short = ap length at.parts ∙ length-append at.before (at.entry ∷ at.after) in
      let v = goes n [] [] at.before at.entry at.each at.good (omega (arith, short, le)) (record {}) in
      (v.0, subst (λ j. visit node n [] [] j ≡ Ok v.0) at.key v.1)

-- A walk over less that is known finds the same, or asks for something that is known then; it refuses nothing.
pub walk_goes_on : (s : Settings) (less more : Facts) → Extends less more → (depth : ℕ) (root : Key) (es : List Entry) → walk (node_of s more) depth root ≡ Ok es
    → (walk (node_of s less) depth root ≡ Ok es) ⊎ ((stop : Stop) × (walk (node_of s less) depth root ≡ Err stop) × IsNeed more stop)
walk_goes_on s less more ext depth root es is = by (visit_below more (node_of s less) (node_of s more) (node_below s less more ext) depth [] [] root)
  where
    by : IsBelow more (visit (node_of s less) depth [] [] root) (visit (node_of s more) depth [] [] root) → (walk (node_of s less) depth root ≡ Ok es) ⊎ ((stop : Stop) × (walk (node_of s less) depth root ≡ Err stop) × IsNeed more stop)
    by (inl e) = inl (e ∙ is)
    by (inr e) = inr e
