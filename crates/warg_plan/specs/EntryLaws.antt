-- An entry of a node is one in the words of a plan, and back.
use Rattle.std.proofs.Common.{◌≡◌, ℕ, zero, suc, ◌+◌, Bool, true, false, ◌||◌, cond, List, [], ◌∷◌, ◌++◌, length, Option, Some, None, Result, Ok, refl, sym, ap, subst, ◌∙◌, append_assoc, arith}
use Rattle.std.specs.Prelude.{slice_get}
use Rattle.std.specs.List.{AllByRecursion}
use Rattle.std.proofs.lemmas.List.{length-append, length-map, map-append}
use Rattle.semver.specs.Parse.{Parts}
use Rattle.warg_values.specs.Reading.{◌>>=◌}
use Rattle.warg_values.specs.ReadingLaws.{bind_ok, ok_is}
use Rattle.warg_names.specs.Import.{ImportTree, import_of}
use Rattle.compose_config.specs.Arguments.{is_among, stray}
use Rattle.compose_config.specs.Plan.{Settings, Argument}
use Rattle.warg_plan.specs.Keys.{Key, Release, same_key, asked, choice_for}
use Rattle.warg_plan.specs.Walk.{Facts, Content, log_in, content_in, Stop, NeedsLog, NeedsContent, NoPackage, NoRelease, BadImportName, Wire, Open, To, Node, Arg, Left, OfEntry, Entry, keys, has_key, place_of, argument, arguments, entry_of, or_stop, given, wire_of, wires_of, if_none, wires_at, node_with, node_of}
use Rattle.warg_plan.specs.Plan.{IsFilled, AreFilled, HasLog, Chooses, IsEntry, EachAfter, wired_by, wired}
use Rattle.warg_plan.specs.KeyLaws.{same_itself}
use Rattle.warg_plan.specs.WalkLaws.{IsNodeEntry, or_false, each_after}
use Rattle.warg_plan.specs.OrderLaws.{found}
use Rattle.warg_plan.specs.CauseLaws.{or_stop_ok}

-- ---- from nodes

filled_one : (before : List Entry) (v : Wire) → AllByRecursion (λ k. has_key (keys before) k ≡ true) (wired_by v) → IsFilled before v (argument (keys before) v)
filled_one before Open h = record {}
filled_one before (To k) h = let f = found before k h.0 in (f.entry, f.at, f.key)

first_wire : (before : List Entry) (v : Wire) (ks : List Key) → AllByRecursion (λ k. has_key (keys before) k ≡ true) (wired_by v ++ ks) → AllByRecursion (λ k. has_key (keys before) k ≡ true) (wired_by v)
first_wire before Open ks h = record {}
first_wire before (To k) ks h = (h.0, record {})

other_wires : (before : List Entry) (v : Wire) (ks : List Key) → AllByRecursion (λ k. has_key (keys before) k ≡ true) (wired_by v ++ ks) → AllByRecursion (λ k. has_key (keys before) k ≡ true) ks
other_wires before Open ks h = h
other_wires before (To k) ks h = h.1

are_filled : (before : List Entry) (args : List (List ℕ × Argument)) (names : List (List ℕ)) (ws : List (List ℕ × Wire)) → wires_of args names ≡ Ok ws → AllByRecursion (λ k. has_key (keys before) k ≡ true) (wired ws)
    → AreFilled before args names (arguments (keys before) ws)
unfolding wires_of AreFilled
are_filled before args [] ws e h = subst (λ l. AreFilled before args [] (arguments (keys before) l)) (ok_is [] ws e) (record {})
are_filled before args (name ∷ names) ws e h =
    let a = bind_ok (or_stop (BadImportName name) (import_of name)) _ _ e in
    let b = bind_ok (wires_of args names) _ _ a.2 in
    let is : (name, wire_of args name a.0) ∷ b.0 ≡ ws = ok_is _ ws b.2 in
    let h = subst (λ l. AllByRecursion (λ k. has_key (keys before) k ≡ true) (wired l)) (sym is) h in
    subst (λ l. AreFilled before args (name ∷ names) (arguments (keys before) l)) is (
      refl,
      (a.0, or_stop_ok (BadImportName name) (import_of name) a.0 a.1, filled_one before (wire_of args name a.0) (first_wire before (wire_of args name a.0) (wired b.0) h)),
      are_filled before args names b.0 b.1 (other_wires before (wire_of args name a.0) (wired b.0) h),
    )

all_named : (args : List (List ℕ × Argument)) (names : List (List ℕ)) → stray args names ≡ None → AllByRecursion (λ a. is_among names a.0 ≡ true) args
unfolding stray
all_named [] names e = record {}
all_named (a ∷ args) names e = by (is_among names a.0) refl e (all_named args names)
  where
    by : (b : Bool) → is_among names a.0 ≡ b → cond b (stray args names) (Some a.0) ≡ None → (stray args names ≡ None → AllByRecursion (λ a. is_among names a.0 ≡ true) args)
        → (is_among names a.0 ≡ true) × AllByRecursion (λ a. is_among names a.0 ≡ true) args
    by true is e later = (is, later e)
    by false is e later = absurd cc

-- what a node is made of
pub record MadeOf (s : Settings) (f : Facts) (k : Key) (x : Node) : Type 0 where
  pub chooses : Chooses s f k x.name x.version x.digest
  pub made_of : Content
  pub known : content_in f x.digest ≡ Some made_of
  pub bytes : x.content ≡ made_of.bytes
  pub wires : wires_of (given s k) made_of.imports ≡ Ok x.wires
  pub named : stray (given s k) made_of.imports ≡ None

if_none_ok : {X : Type 0} (k : Key) (o : Option (List ℕ)) (x y : X) → if_none k o x ≡ Ok y → (o ≡ None) × (x ≡ y)
if_none_ok k None x y e = (refl, ok_is x y e)
if_none_ok k (Some name) x y e = absurd cc

module _ (s : Settings) (f : Facts) (k : Key) where
  abbrev ok_wires : List (List ℕ × Wire) → Result (List (List ℕ × Wire)) Stop
  ok_wires ws = Ok ws

  wires_made : (names : List (List ℕ)) (ws : List (List ℕ × Wire)) → wires_at s k names ≡ Ok ws → (wires_of (given s k) names ≡ Ok ws) × (stray (given s k) names ≡ None)
  unfolding wires_at
  wires_made names ws e =
      let w = bind_ok (wires_of (given s k) names) _ _ e in
      let i = if_none_ok k (stray (given s k) names) w.0 ws w.2 in
      (w.1 ∙ ap ok_wires i.1, i.0)

  made_wires : (names : List (List ℕ)) (ws : List (List ℕ × Wire)) → wires_of (given s k) names ≡ Ok ws → stray (given s k) names ≡ None → wires_at s k names ≡ Ok ws
  unfolding wires_at
  made_wires names ws e n = ap (λ q. q >>= λ ws. if_none k (stray (given s k) names) ws) e ∙ ap (λ o. if_none k o ws) n

  abbrev loaded : ImportTree → Parts × List ℕ → Content → Result Node Stop
  loaded i r c = wires_at s k c.imports >>= λ ws. Ok (node_with i.name r c ws)

  abbrev contents : ImportTree → Parts × List ℕ → Result Node Stop
  contents i r = or_stop (NeedsContent i.name r.1) (content_in f r.1) >>= loaded i r

  abbrev releases : ImportTree → List Release → Result Node Stop
  releases i log = or_stop (NoRelease i.name) (choice_for i log) >>= contents i

  abbrev logs : ImportTree → Result Node Stop
  logs i = or_stop (NeedsLog i.name) (log_in f i.name) >>= releases i

  wired_made : (i : ImportTree) (r : Parts × List ℕ) (c : Content) (x : Node) → Chooses s f k i.name r.0 r.1 → content_in f r.1 ≡ Some c → loaded i r c ≡ Ok x → MadeOf s f k x
  wired_made i r c x chooses known e =
      let v = bind_ok (wires_at s k c.imports) _ _ e in
      let w = wires_made c.imports v.0 v.1 in
      subst (MadeOf s f k) (ok_is (node_with i.name r c v.0) x v.2) (record { chooses = chooses; made_of = c; known = known; bytes = refl; wires = w.0; named = w.1 })

  contents_made : (i : ImportTree) (r : Parts × List ℕ) (x : Node) → Chooses s f k i.name r.0 r.1 → contents i r ≡ Ok x → MadeOf s f k x
  contents_made i r x chooses e =
      let d = bind_ok (or_stop (NeedsContent i.name r.1) (content_in f r.1)) (loaded i r) x e in
      wired_made i r d.0 x chooses (or_stop_ok (NeedsContent i.name r.1) (content_in f r.1) d.0 d.1) d.2

  releases_made : (i : ImportTree) (log : List Release) (x : Node) → HasLog s f k i.name i log → releases i log ≡ Ok x → MadeOf s f k x
  releases_made i log x has e =
      let c = bind_ok (or_stop (NoRelease i.name) (choice_for i log)) (contents i) x e in
      contents_made i c.0 x (record { import = i; log = log; has_log = has; chosen = or_stop_ok (NoRelease i.name) (choice_for i log) c.0 c.1 }) c.2

  logs_made : (i : ImportTree) (x : Node) → asked s k ≡ Some i → logs i ≡ Ok x → MadeOf s f k x
  logs_made i x asks e =
      let b = bind_ok (or_stop (NeedsLog i.name) (log_in f i.name)) (releases i) x e in
      releases_made i b.0 x (record { asks = asks; named = refl; known = or_stop_ok (NeedsLog i.name) (log_in f i.name) b.0 b.1 }) b.2

  pub node_made : (x : Node) → node_of s f k ≡ Ok x → MadeOf s f k x
  unfolding node_of
  node_made x e =
      let a = bind_ok (or_stop (NoPackage k) (asked s k)) logs x e in
      logs_made a.0 x (or_stop_ok (NoPackage k) (asked s k) a.0 a.1) a.2

  abbrev node_parts : List ℕ → Parts → List ℕ → List ℕ → List (List ℕ × Wire) → Node
  node_parts n v d c ws = record { name = n; version = v; digest = d; content = c; wires = ws }

  abbrev done : Node → Result Node Stop
  done n = Ok n

  -- and back
  pub made_node : (x : Node) → MadeOf s f k x → node_of s f k ≡ Ok x
  unfolding node_of
  made_node x m =
      let i = m.chooses.import in
      let r : Parts × List ℕ = (x.version, x.digest) in
      ap (λ o. or_stop (NoPackage k) o >>= logs) m.chooses.has_log.asks
      ∙ ap (λ o. or_stop (NeedsLog i.name) o >>= releases i) (ap (log_in f) m.chooses.has_log.named ∙ m.chooses.has_log.known)
      ∙ ap (λ o. or_stop (NoRelease i.name) o >>= contents i) m.chooses.chosen
      ∙ ap (λ o. or_stop (NeedsContent i.name x.digest) o >>= loaded i r) m.known
      ∙ ap (λ q. q >>= λ ws. done (node_with i.name r m.made_of ws)) (made_wires m.made_of.imports x.wires m.wires m.named)
      ∙ ap (λ (n : List ℕ). done (node_parts n x.version x.digest m.made_of.bytes x.wires)) m.chooses.has_log.named
      ∙ ap (λ (c : List ℕ). done (node_parts x.name x.version x.digest c x.wires)) (sym m.bytes)

-- an entry of a node is one in the words of a plan
pub in_words : (s : Settings) (f : Facts) (before : List Entry) (e : Entry) → IsNodeEntry (λ k x. node_of s f k ≡ Ok x) before e → IsEntry s f before e
in_words s f before e n =
    let m = node_made s f e.key n.made_of n.is_node in
    let whole : IsEntry s f before (entry_of e.key n.made_of before) = record {
      new = n.new;
      chooses = m.chooses;
      made_of = m.made_of;
      known = m.known;
      bytes = m.bytes;
      filled = are_filled before (given s e.key) m.made_of.imports n.made_of.wires m.wires n.earlier;
      name_imports = all_named (given s e.key) m.made_of.imports m.named;
    } in
    subst (IsEntry s f before) (sym n.is) whole

pub each_in_words : (s : Settings) (f : Facts) (before es : List Entry) → EachAfter (IsNodeEntry (λ k x. node_of s f k ≡ Ok x)) before es → EachAfter (IsEntry s f) before es
unfolding EachAfter
each_in_words s f before [] h = record {}
each_in_words s f before (e ∷ es) h = (in_words s f before e h.0, each_in_words s f (before ++ e ∷ []) es h.1)

-- ---- and back: the place of a key among keys of which none stands twice

place_behind : (ks js : List Key) (k : Key) → has_key ks k ≡ false → place_of (ks ++ k ∷ js) k ≡ length ks
place_behind [] js k h = ap (λ b. cond b 0 (suc (place_of js k))) (same_itself k)
place_behind (j ∷ ks) js k h =
    let both = or_false (same_key k j) (has_key ks k) h in
    ap (λ b. cond b 0 (suc (place_of (ks ++ k ∷ js) k))) both.0 ∙ ap suc (place_behind ks js k both.1)

some_is : {A : Type 0} (x y : A) → Some x ≡ Some y → x ≡ y
some_is x y h = cc

no_some : {A P : Type 0} (x : A) → None ≡ Some x → P
no_some x h = absurd cc

keys_of : (a c : List Entry) → keys (a ++ c) ≡ keys a ++ keys c
keys_of a c = map-append (λ (e : Entry). e.key) a c

placed_from : (s : Settings) (f : Facts) (start es : List Entry) (n : ℕ) (e : Entry) → EachAfter (IsEntry s f) start es → slice_get es n ≡ Some e → place_of (keys start ++ keys es) e.key ≡ length start + n
unfolding EachAfter
placed_from s f start [] n e each at = no_some e at
placed_from s f start (x ∷ es) zero e each at =
    let same : x ≡ e = some_is x e at in
    let first : place_of (keys start ++ x.key ∷ keys es) x.key ≡ length (keys start) = place_behind (keys start) (keys es) x.key each.0.new in
    let long : length (keys start) ≡ length start + 0 = length-map start (λ (e : Entry). e.key) ∙ omega arith in
    subst (λ (y : Entry). place_of (keys start ++ x.key ∷ keys es) y.key ≡ length start + 0) same (first ∙ long)
placed_from s f start (x ∷ es) (suc n) e each at =
    let later = placed_from s f (start ++ x ∷ []) es n e each.1 at in
    let whole : keys (start ++ x ∷ []) ++ keys es ≡ keys start ++ x.key ∷ keys es = ap (λ l. l ++ keys es) (keys_of start (x ∷ [])) ∙ append_assoc (keys start) (x.key ∷ []) (keys es) in
    let long : length (start ++ x ∷ []) + n ≡ length start + suc n = omega (arith, length-append start (x ∷ [])) in
    ap (λ l. place_of l e.key) (sym whole) ∙ later ∙ long

-- the place of the key of an entry is the entry's
placed : (s : Settings) (f : Facts) (es : List Entry) (n : ℕ) (e : Entry) → EachAfter (IsEntry s f) [] es → slice_get es n ≡ Some e → place_of (keys es) e.key ≡ n
placed s f es n e each at = placed_from s f [] es n e each at ∙ omega arith

key_there : (es : List Entry) (n : ℕ) (e : Entry) → slice_get es n ≡ Some e → has_key (keys es) e.key ≡ true
key_there [] n e at = no_some e at
key_there (x ∷ es) zero e at = subst (λ (y : Entry). has_key (keys (x ∷ es)) y.key ≡ true) (some_is x e at) (ap (λ b. b || has_key (keys es) x.key) (same_itself x.key))
key_there (x ∷ es) (suc n) e at = by (same_key e.key x.key) (key_there es n e at)
  where
    by : (b : Bool) → has_key (keys es) e.key ≡ true → (b || has_key (keys es) e.key) ≡ true
    by true h = refl
    by false h = h

module _ (s : Settings) (f : Facts) (before : List Entry) (each : EachAfter (IsEntry s f) [] before) where
  wire_back : (v : Wire) (a : Arg) → IsFilled before v a → (a ≡ argument (keys before) v) × AllByRecursion (λ k. has_key (keys before) k ≡ true) (wired_by v)
  wire_back Open Left h = (refl, record {})
  wire_back Open (OfEntry n) h = absurd h
  wire_back (To k) Left h = absurd h
  wire_back (To k) (OfEntry n) h = (
    ap OfEntry (sym (placed s f before n h.0 each h.1) ∙ ap (place_of (keys before)) h.2),
    (subst (λ j. has_key (keys before) j ≡ true) h.2 (key_there before n h.0 h.1), record {}),
  )

  -- arguments that are filled are those of wires
  record Wired (args : List (List ℕ × Argument)) (names : List (List ℕ)) (gs : List (List ℕ × Arg)) : Type 0 where
    wires : List (List ℕ × Wire)
    are : wires_of args names ≡ Ok wires
    is : gs ≡ arguments (keys before) wires
    earlier : AllByRecursion (λ k. has_key (keys before) k ≡ true) (wired wires)

  both_wires : (v : Wire) (ks : List Key) → AllByRecursion (λ k. has_key (keys before) k ≡ true) (wired_by v) → AllByRecursion (λ k. has_key (keys before) k ≡ true) ks → AllByRecursion (λ k. has_key (keys before) k ≡ true) (wired_by v ++ ks)
  both_wires Open ks h l = l
  both_wires (To k) ks h l = (h.0, l)

  abbrev argument_of : List ℕ → Arg → List ℕ × Arg
  argument_of name a = (name, a)

  wired_back : (args : List (List ℕ × Argument)) (names : List (List ℕ)) (gs : List (List ℕ × Arg)) → AreFilled before args names gs → Wired args names gs
  unfolding AreFilled wires_of
  wired_back args [] [] h = record { wires = []; are = refl; is = refl; earlier = record {} }
  wired_back args [] (a ∷ gs) h = absurd h
  wired_back args (name ∷ names) [] h = absurd h
  wired_back args (name ∷ names) (a ∷ gs) h =
      let i = h.1.0 in
      let w = wired_back args names gs h.2 in
      let one = wire_back (wire_of args name i) a.1 h.1.2 in
      record {
        wires = (name, wire_of args name i) ∷ w.wires;
        are = ap (λ o. or_stop (BadImportName name) o >>= λ i. wires_of args names >>= λ ws. Ok ((name, wire_of args name i) ∷ ws)) h.1.1 ∙ ap (λ r. r >>= λ ws. Ok ((name, wire_of args name i) ∷ ws)) w.are;
        is = ap (λ n. argument_of n a.1 ∷ gs) h.0 ∙ ap (λ b. argument_of name b ∷ gs) one.0 ∙ ap (λ l. argument_of name (argument (keys before) (wire_of args name i)) ∷ l) w.is;
        earlier = both_wires (wire_of args name i) (wired w.wires) one.1 w.earlier;
      }

  none_stray : (args : List (List ℕ × Argument)) (names : List (List ℕ)) → AllByRecursion (λ a. is_among names a.0 ≡ true) args → stray args names ≡ None
  unfolding stray
  none_stray [] names h = refl
  none_stray (a ∷ args) names h = ap (λ b. cond b (stray args names) (Some a.0)) h.0 ∙ none_stray args names h.1

  abbrev entry_with : Key → List ℕ → Parts → List ℕ → List ℕ → List (List ℕ × Arg) → Entry
  entry_with k p v d c gs = record { key = k; name = p; version = v; digest = d; content = c; arguments = gs }

  -- an entry in the words of a plan is one of a node
  from_words : (e : Entry) → IsEntry s f before e → IsNodeEntry (λ k x. node_of s f k ≡ Ok x) before e
  from_words e i =
      let w = wired_back (given s e.key) i.made_of.imports e.arguments i.filled in
      let x : Node = record { name = e.name; version = e.version; digest = e.digest; content = e.content; wires = w.wires } in
      let m : MadeOf s f e.key x = record { chooses = i.chooses; made_of = i.made_of; known = i.known; bytes = i.bytes; wires = w.are; named = none_stray (given s e.key) i.made_of.imports i.name_imports } in
      record {
        new = i.new;
        made_of = x;
        is_node = made_node s f e.key x m;
        is = ap (entry_with e.key e.name e.version e.digest e.content) w.is;
        earlier = w.earlier;
      }

pub each_from_words : (s : Settings) (f : Facts) (before es : List Entry) → EachAfter (IsEntry s f) [] before → EachAfter (IsEntry s f) before es → EachAfter (IsNodeEntry (λ k x. node_of s f k ≡ Ok x)) before es
unfolding EachAfter
each_from_words s f before [] each h = record {}
each_from_words s f before (e ∷ es) each h =
    let first = from_words s f before each e h.0 in
    (first, each_from_words s f (before ++ e ∷ []) es (each_after (IsEntry s f) [] before (e ∷ []) each (h.0, record {})) h.1)
