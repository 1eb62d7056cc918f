-- What the walk finds: entries of nodes, each behind those that it is wired to.
use Rattle.std.proofs.Common.{◌≡◌, ℕ, zero, suc, Bool, true, false, ◌||◌, cond, List, [], ◌∷◌, ◌++◌, Result, Ok, Err, refl, sym, ap, subst, ◌∙◌, append_assoc, inl, inr}
use Rattle.std.proofs.lemmas.List.{map-append, append-nil}
use Rattle.std.proofs.lemmas.Bool.{cases_Bool}
use Rattle.std.specs.List.{AllByRecursion}
use Rattle.warg_values.specs.Reading.{◌>>=◌}
use Rattle.warg_values.specs.ReadingLaws.{bind_ok, ok_is, never}
use Rattle.warg_plan.specs.Keys.{Key, same_key}
use Rattle.warg_plan.specs.Walk.{Stop, TooDeep, Cycle, Wire, Open, To, Node, Entry, keys, has_key, entry_of, along_one, along, visit, walk}
use Rattle.warg_plan.specs.Plan.{wired_by, wired, EachAfter}
use Rattle.warg_plan.specs.KeyLaws.{same_itself, same_is}

-- an entry is that of a node, behind those that it is wired to
pub record IsNodeEntry (node : Key → Node → Type 0) (before : List Entry) (e : Entry) : Type 0 where
  pub new : has_key (keys before) e.key ≡ false
  pub made_of : Node
  pub is_node : node e.key made_of
  pub is : e ≡ entry_of e.key made_of before
  pub earlier : AllByRecursion (λ k. has_key (keys before) k ≡ true) (wired made_of.wires)

pub no_truth : {A : Type 0} → true ≡ false → A
no_truth h = absurd cc

-- ---- keys among others

pub or_false : (a b : Bool) → (a || b) ≡ false → (a ≡ false) × (b ≡ false)
or_false true b e = no_truth e
or_false false b e = (refl, e)

pub has_more : (ks js : List Key) (k : Key) → has_key ks k ≡ true → has_key (ks ++ js) k ≡ true
has_more [] js k e = no_truth (sym e)
has_more (j ∷ ks) js k e = by (same_key k j) (has_more ks js k) e
  where
    by : (b : Bool) → (has_key ks k ≡ true → has_key (ks ++ js) k ≡ true) → (b || has_key ks k) ≡ true → (b || has_key (ks ++ js) k) ≡ true
    by true later e = refl
    by false later e = later e

has_behind : (ks js : List Key) (k : Key) → has_key js k ≡ true → has_key (ks ++ js) k ≡ true
has_behind [] js k e = e
has_behind (j ∷ ks) js k e = by (same_key k j) (has_behind ks js k e)
  where
    by : (b : Bool) → has_key (ks ++ js) k ≡ true → (b || has_key (ks ++ js) k) ≡ true
    by true later = refl
    by false later = later

pub has_none : (ks js : List Key) (k : Key) → has_key ks k ≡ false → has_key js k ≡ false → has_key (ks ++ js) k ≡ false
has_none [] js k a b = b
has_none (j ∷ ks) js k a b = let both = or_false (same_key k j) (has_key ks k) a in by (same_key k j) both.0 (has_none ks js k both.1 b)
  where
    by : (t : Bool) → t ≡ false → has_key (ks ++ js) k ≡ false → (t || has_key (ks ++ js) k) ≡ false
    by true a later = no_truth a
    by false a later = later

-- ---- entries after others

pub each_after : (Good : List Entry → Entry → Type 0) (es xs ys : List Entry) → EachAfter Good es xs → EachAfter Good (es ++ xs) ys → EachAfter Good es (xs ++ ys)
unfolding EachAfter
each_after Good es [] ys a b = subst (λ l. EachAfter Good l ys) (append-nil es) b
each_after Good es (x ∷ xs) ys a b = (a.0, each_after Good (es ++ x ∷ []) xs ys a.1 (subst (λ l. EachAfter Good l ys) (sym (append_assoc es (x ∷ []) xs)) b))

all_both : (P : Entry → Type 0) (xs ys : List Entry) → AllByRecursion P xs → AllByRecursion P ys → AllByRecursion P (xs ++ ys)
all_both P [] ys a b = b
all_both P (x ∷ xs) ys a b = (a.0, all_both P xs ys a.1 b)

all_turned : (P Q : Entry → Type 0) (xs : List Entry) → ((x : Entry) → P x → Q x) → AllByRecursion P xs → AllByRecursion Q xs
all_turned P Q [] f a = a
all_turned P Q (x ∷ xs) f a = (f x a.0, all_turned P Q xs f a.1)

module _ (node : Key → Result Node Stop) where
  abbrev pub IsNode : Key → Node → Type 0
  IsNode k x = node k ≡ Ok x

  -- what a visit adds: entries of nodes, none of whose keys is being visited
  pub record Grew (path : List Key) (es more : List Entry) : Type 0 where
    pub new : List Entry
    pub is : more ≡ es ++ new
    pub each : EachAfter (IsNodeEntry IsNode) es new
    pub apart : AllByRecursion (λ e. has_key path e.key ≡ false) new

  grew_none : (path : List Key) (es : List Entry) → Grew path es es
  unfolding EachAfter
  grew_none path es = record { new = []; is = sym (append-nil es); each = record {}; apart = record {} }

  grew_twice : (path : List Key) (a b c : List Entry) → Grew path a b → Grew path b c → Grew path a c
  grew_twice path a b c g h = record {
    new = g.new ++ h.new;
    is = h.is ∙ ap (λ l. l ++ h.new) g.is ∙ append_assoc a g.new h.new;
    each = each_after (IsNodeEntry IsNode) a g.new h.new g.each (subst (λ l. EachAfter (IsNodeEntry IsNode) l h.new) g.is h.each);
    apart = all_both (λ e. has_key path e.key ≡ false) g.new h.new g.apart h.apart;
  }

  grew_has : (path : List Key) (a b : List Entry) (k : Key) → Grew path a b → has_key (keys a) k ≡ true → has_key (keys b) k ≡ true
  grew_has path a b k g h = subst (λ l. has_key l k ≡ true) (sym (ap keys g.is ∙ map-append (λ (e : Entry). e.key) a g.new)) (has_more (keys a) (keys g.new) k h)

  all_has : (path : List Key) (a b : List Entry) (ks : List Key) → Grew path a b → AllByRecursion (λ k. has_key (keys a) k ≡ true) ks → AllByRecursion (λ k. has_key (keys b) k ≡ true) ks
  all_has path a b [] g h = h
  all_has path a b (k ∷ ks) g h = (grew_has path a b k g h.0, all_has path a b ks g h.1)

  abbrev pub Visits : List Key → List Entry → List Entry → Key → Type 0
  Visits path es more k = Grew path es more × (has_key (keys more) k ≡ true)

  pub along_grew : (path : List Key) (one : List Entry → Key → Result (List Entry) Stop) → ((es more : List Entry) (k : Key) → one es k ≡ Ok more → Visits path es more k) → (ws : List (List ℕ × Wire)) (es more : List Entry)
      → along one es ws ≡ Ok more → Grew path es more × AllByRecursion (λ k. has_key (keys more) k ≡ true) (wired ws)
  unfolding along
  along_grew path one law [] es more e = (subst (λ l. Grew path es l) (ok_is es more e) (grew_none path es), record {})
  along_grew path one law (w ∷ ws) es more e =
      let a = bind_ok (along_one one es w.1) _ _ e in
      let later = along_grew path one law ws a.0 more a.2 in
      by w.1 a.1 later
    where
      by : {mid : List Entry} (v : Wire) → along_one one es v ≡ Ok mid → Grew path mid more × AllByRecursion (λ k. has_key (keys more) k ≡ true) (wired ws)
          → Grew path es more × AllByRecursion (λ k. has_key (keys more) k ≡ true) (wired_by v ++ wired ws)
      by {mid} Open e later = (subst (λ l. Grew path l more) (sym (ok_is es mid e)) later.0, later.1)
      by {mid} (To k) e later = let v = law es mid k e in (grew_twice path es mid more v.0 later.0, (grew_has path mid more k later.0 v.1, later.1))

  -- keys of what a visit within another adds are not the outer one's
  inner_apart : (path : List Key) (k : Key) (e : Entry) → has_key (k ∷ path) e.key ≡ false → (has_key path e.key ≡ false) × (same_key k e.key ≡ false)
  inner_apart path k e h = let a = or_false (same_key e.key k) (has_key path e.key) h in (a.1, turned a.0)
    where
      turned : same_key e.key k ≡ false → same_key k e.key ≡ false
      turned h = elim (cases_Bool (same_key k e.key)) [
        | inl is ↦ no_truth (sym (subst (λ j. same_key j k ≡ true) (same_is k e.key is) (same_itself k)) ∙ h)
        | inr is ↦ is
      ]

  pub keys_apart : (path : List Key) (k : Key) (es : List Entry) → AllByRecursion (λ e. has_key (k ∷ path) e.key ≡ false) es → has_key (keys es) k ≡ false
  keys_apart path k [] h = refl
  keys_apart path k (e ∷ es) h = both (same_key k e.key) (inner_apart path k e h.0).1 (keys_apart path k es h.1)
    where
      both : (b : Bool) → b ≡ false → has_key (keys es) k ≡ false → (b || has_key (keys es) k) ≡ false
      both true a c = no_truth a
      both false a c = c

  has_itself : (ks : List Key) (k : Key) → has_key (ks ++ k ∷ []) k ≡ true
  has_itself ks k = has_behind ks (k ∷ []) k (ap (λ b. b || false) (same_itself k))

  pub keys_more : (es : List Entry) (e : Entry) → keys (es ++ e ∷ []) ≡ keys es ++ e.key ∷ []
  keys_more es e = map-append (λ (e : Entry). e.key) es (e ∷ [])

  -- the entry of a key, behind those that it is wired to
  appended : (path : List Key) (es mid : List Entry) (k : Key) (x : Node) → node k ≡ Ok x → has_key (keys es) k ≡ false → has_key path k ≡ false → Grew (k ∷ path) es mid → AllByRecursion (λ k. has_key (keys mid) k ≡ true) (wired x.wires)
      → Visits path es (mid ++ entry_of k x mid ∷ []) k
  unfolding EachAfter
  appended path es mid k x is new free g wires = (
    record {
      new = g.new ++ entry_of k x mid ∷ [];
      is = ap (λ l. l ++ entry_of k x mid ∷ []) g.is ∙ append_assoc es g.new (entry_of k x mid ∷ []);
      each = each_after (IsNodeEntry IsNode) es g.new (entry_of k x mid ∷ []) g.each (
        subst (λ l. IsNodeEntry IsNode l (entry_of k x mid)) g.is (record {
          new = subst (λ l. has_key l k ≡ false) (sym (ap keys g.is ∙ map-append (λ (e : Entry). e.key) es g.new)) (has_none (keys es) (keys g.new) k new (keys_apart path k g.new g.apart));
          made_of = x;
          is_node = is;
          is = refl;
          earlier = wires;
        }),
        record {},
      );
      apart = all_both (λ e. has_key path e.key ≡ false) g.new (entry_of k x mid ∷ []) (all_turned _ _ g.new (λ e h. (inner_apart path k e h).0) g.apart) (free, record {});
    },
    subst (λ l. has_key l k ≡ true) (sym (keys_more mid (entry_of k x mid))) (has_itself (keys mid) k),
  )

  visit_step : (n : ℕ) → ((path : List Key) (es more : List Entry) (k : Key) → visit node n path es k ≡ Ok more → Visits path es more k) → (path : List Key) (es more : List Entry) (k : Key)
      → visit node (suc n) path es k ≡ Ok more → Visits path es more k
  unfolding visit
  visit_step n law path es more k e = listed (has_key (keys es) k) refl e
    where
      rest : Result (List Entry) Stop
      rest = node k >>= λ x. along (visit node n (k ∷ path)) es x.wires >>= λ more. Ok (more ++ entry_of k x more ∷ [])

      went : has_key (keys es) k ≡ false → has_key path k ≡ false → rest ≡ Ok more → Visits path es more k
      went new free e =
          let a = bind_ok (node k) _ _ e in
          let b = bind_ok (along (visit node n (k ∷ path)) es a.0.wires) _ _ a.2 in
          let g = along_grew (k ∷ path) (visit node n (k ∷ path)) (law (k ∷ path)) a.0.wires es b.0 b.1 in
          subst (λ l. Visits path es l k) (ok_is _ _ b.2) (appended path es b.0 k a.0 a.1 new free g.0 g.1)

      met : (b : Bool) → has_key path k ≡ b → has_key (keys es) k ≡ false → cond b (Err (Cycle k)) rest ≡ Ok more → Visits path es more k
      met true is new e = never (Cycle k) more e
      met false is new e = went new is e

      listed : (b : Bool) → has_key (keys es) k ≡ b → cond b (Ok es) (cond (has_key path k) (Err (Cycle k)) rest) ≡ Ok more → Visits path es more k
      listed true is e = subst (λ l. Visits path es l k) (ok_is es more e) (grew_none path es, is)
      listed false is e = met (has_key path k) refl is e

  pub visit_grew : (n : ℕ) (path : List Key) (es more : List Entry) (k : Key) → visit node n path es k ≡ Ok more → Visits path es more k
  unfolding visit
  visit_grew zero path es more k e = never TooDeep more e
  visit_grew (suc n) path es more k e = visit_step n (visit_grew n) path es more k e

  -- the entries that the walk finds are entries of nodes, each behind those that it is wired to
  pub walk_each : (n : ℕ) (root : Key) (es : List Entry) → walk node n root ≡ Ok es → EachAfter (IsNodeEntry IsNode) [] es
  walk_each n root es e = let g = (visit_grew n [] [] es root e).0 in subst (λ l. EachAfter (IsNodeEntry IsNode) [] l) (sym g.is) g.each
