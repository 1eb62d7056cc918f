-- Each stop of the walk has its cause.
use Rattle.std.proofs.Common.{◌≡◌, ℕ, Bool, true, false, ◌||◌, cond, List, [], ◌∷◌, Option, Some, None, Result, Ok, Err, refl, sym, ap, subst, inl, inr, bytes_eq}
use Rattle.std.specs.Prelude.{◌⊎◌}
use Rattle.std.proofs.lemmas.Slice.Eq.{bytes_eq-Decides}
use Rattle.semver.specs.Parse.{Parts}
use Rattle.warg_values.specs.Reading.{◌>>=◌}
use Rattle.warg_names.specs.Import.{ImportTree, import_of}
use Rattle.compose_config.specs.Arguments.{is_among, stray}
use Rattle.compose_config.specs.Plan.{Settings, Argument}
use Rattle.warg_plan.specs.Keys.{Key, Release, asked, choice_for}
use Rattle.warg_plan.specs.Walk.{Facts, Content, log_in, content_in, Stop, NeedsLog, NeedsContent, NoPackage, NoRelease, BadImportName, NoSuchImport, Cycle, TooDeep, Wire, Node, or_stop, given, wire_of, wires_of, if_none, wires_at, node_with, node_of, walk}
use Rattle.warg_plan.specs.Plan.{HasLog, Chooses}
use Rattle.warg_plan.specs.Known.{IsUnknown}
use Rattle.warg_plan.specs.Cause.{HasContent, names_of, IsCauseAt, IsCause}
use Rattle.warg_plan.specs.StopLaws.{err_is, ok_no_err, bind_err, StopsAt, walk_stops}

or_stop_err : {X : Type 0} (t s : Stop) (o : Option X) → or_stop t o ≡ Err s → (o ≡ None) × (t ≡ s)
or_stop_err {X} t s None e = (refl, err_is {A = X} t s e)
or_stop_err t s (Some x) e = ok_no_err x s e

pub or_stop_ok : {X : Type 0} (t : Stop) (o : Option X) (x : X) → or_stop t o ≡ Ok x → o ≡ Some x
or_stop_ok t None x e = absurd cc
or_stop_ok t (Some y) x e = cc

among_first : (name : List ℕ) (names : List (List ℕ)) → is_among (name ∷ names) name ≡ true
among_first name names = ap (λ b. b || is_among names name) ((bytes_eq-Decides name name).1 refl)

among_more : (n name : List ℕ) (names : List (List ℕ)) → is_among names name ≡ true → is_among (n ∷ names) name ≡ true
among_more n name names h = by (bytes_eq name n) h
  where
    by : (b : Bool) → is_among names name ≡ true → (b || is_among names name) ≡ true
    by true h = refl
    by false h = h

-- an import whose name is none
record BadName (names : List (List ℕ)) (s : Stop) : Type 0 where
  name : List ℕ
  is : BadImportName name ≡ s
  there : is_among names name ≡ true
  none : import_of name ≡ None

bad_more : (n : List ℕ) (names : List (List ℕ)) (s : Stop) → BadName names s → BadName (n ∷ names) s
bad_more n names s b = record { name = b.name; is = b.is; there = among_more n b.name names b.there; none = b.none }

wires_err : (args : List (List ℕ × Argument)) (names : List (List ℕ)) (s : Stop) → wires_of args names ≡ Err s → BadName names s
unfolding wires_of
wires_err args [] s e = ok_no_err _ s e
wires_err args (name ∷ names) s e = by (bind_err (or_stop (BadImportName name) (import_of name)) _ s e) (λ e. bad_more name names s (wires_err args names s e))
  where
    by : (or_stop (BadImportName name) (import_of name) ≡ Err s) ⊎ ((i : ImportTree) × (or_stop (BadImportName name) (import_of name) ≡ Ok i) × ((wires_of args names >>= λ ws. Ok ((name, wire_of args name i) ∷ ws)) ≡ Err s))
        → (wires_of args names ≡ Err s → BadName (name ∷ names) s) → BadName (name ∷ names) s
    by (inl e) later = let o = or_stop_err (BadImportName name) s (import_of name) e in record { name = name; is = o.1; there = among_first name names; none = o.0 }
    by (inr e) later = after (bind_err (wires_of args names) _ s e.2)
      where
        after : (wires_of args names ≡ Err s) ⊎ ((ws : List (List ℕ × Wire)) × (wires_of args names ≡ Ok ws) × (Ok ((name, wire_of args name e.0) ∷ ws) ≡ Err s)) → BadName (name ∷ names) s
        after (inl e) = later e
        after (inr e) = ok_no_err _ s e.2

-- an argument that names no import
stray_is : (args : List (List ℕ × Argument)) (names : List (List ℕ)) (name : List ℕ) → stray args names ≡ Some name → (is_among (names_of args) name ≡ true) × (is_among names name ≡ false)
unfolding stray
stray_is [] names name e = absurd cc
stray_is (a ∷ args) names name e = by (is_among names a.0) refl e (λ e. stray_is args names name e)
  where
    by : (b : Bool) → is_among names a.0 ≡ b → cond b (stray args names) (Some a.0) ≡ Some name → (stray args names ≡ Some name → (is_among (names_of args) name ≡ true) × (is_among names name ≡ false))
        → (is_among (names_of (a ∷ args)) name ≡ true) × (is_among names name ≡ false)
    by true is e later = let l = later e in (among_more a.0 name (names_of args) l.0, l.1)
    by false is e later =
        let same : a.0 ≡ name = cc in
        (subst (λ n. is_among (names_of (a ∷ args)) n ≡ true) same (among_first a.0 (names_of args)), subst (λ n. is_among names n ≡ false) same is)

if_none_err : {X : Type 0} (k : Key) (o : Option (List ℕ)) (x : X) (s : Stop) → if_none k o x ≡ Err s → (name : List ℕ) × (o ≡ Some name) × (NoSuchImport k name ≡ s)
if_none_err k None x s e = ok_no_err x s e
if_none_err {X} k (Some name) x s e = (name, refl, err_is {A = X} (NoSuchImport k name) s e)

module _ (s : Settings) (f : Facts) (root : Key) (depth : ℕ) where
  abbrev Caused : Key → Stop → Type 0
  Caused k stop = IsCauseAt s f root depth k stop

  wires_at_err : (k : Key) (c : Content) (stop : Stop) → HasContent s f k c → wires_at s k c.imports ≡ Err stop → Caused k stop
  unfolding wires_at
  wires_at_err k c stop has e = by (bind_err (wires_of (given s k) c.imports) _ stop e)
    where
      last : (ws : List (List ℕ × Wire)) → if_none k (stray (given s k) c.imports) ws ≡ Err stop → Caused k stop
      last ws e =
          let a = if_none_err k (stray (given s k) c.imports) ws stop e in
          let is = stray_is (given s k) c.imports a.0 a.1 in
          subst (Caused k) a.2 (refl, c, has, is.0, is.1)

      by : (wires_of (given s k) c.imports ≡ Err stop) ⊎ ((ws : List (List ℕ × Wire)) × (wires_of (given s k) c.imports ≡ Ok ws) × (if_none k (stray (given s k) c.imports) ws ≡ Err stop)) → Caused k stop
      by (inl e) = let b = wires_err (given s k) c.imports stop e in subst (Caused k) b.is (c, has, b.there, b.none)
      by (inr e) = last e.0 e.2

  abbrev wired : Key → List ℕ → Parts × List ℕ → Content → Result Node Stop
  wired k name r c = wires_at s k c.imports >>= λ ws. Ok (node_with name r c ws)

  wired_err : (k : Key) (i : ImportTree) (r : Parts × List ℕ) (c : Content) (stop : Stop) → HasContent s f k c → wired k i.name r c ≡ Err stop → Caused k stop
  wired_err k i r c stop has e = by (bind_err (wires_at s k c.imports) _ stop e)
    where
      by : (wires_at s k c.imports ≡ Err stop) ⊎ ((ws : List (List ℕ × Wire)) × (wires_at s k c.imports ≡ Ok ws) × (Ok (node_with i.name r c ws) ≡ Err stop)) → Caused k stop
      by (inl e) = wires_at_err k c stop has e
      by (inr e) = ok_no_err _ stop e.2

  loaded_err : (k : Key) (i : ImportTree) (r : Parts × List ℕ) (stop : Stop) → Chooses s f k i.name r.0 r.1 → (or_stop (NeedsContent i.name r.1) (content_in f r.1) >>= λ c. wired k i.name r c) ≡ Err stop → Caused k stop
  loaded_err k i r stop chooses e = by (bind_err (or_stop (NeedsContent i.name r.1) (content_in f r.1)) _ stop e)
    where
      by : (or_stop (NeedsContent i.name r.1) (content_in f r.1) ≡ Err stop) ⊎ ((c : Content) × (or_stop (NeedsContent i.name r.1) (content_in f r.1) ≡ Ok c) × (wired k i.name r c ≡ Err stop)) → Caused k stop
      by (inl e) = let o = or_stop_err (NeedsContent i.name r.1) stop (content_in f r.1) e in subst (Caused k) o.1 (r.0, chooses, o.0)
      by (inr e) =
          let has : HasContent s f k e.0 = record { name = i.name; version = r.0; digest = r.1; chooses = chooses; known = or_stop_ok (NeedsContent i.name r.1) (content_in f r.1) e.0 e.1 } in
          wired_err k i r e.0 stop has e.2

  chosen_err : (k : Key) (i : ImportTree) (log : List Release) (stop : Stop) → HasLog s f k i.name i log
      → (or_stop (NoRelease i.name) (choice_for i log) >>= λ r. or_stop (NeedsContent i.name r.1) (content_in f r.1) >>= λ c. wired k i.name r c) ≡ Err stop → Caused k stop
  chosen_err k i log stop has e = by (bind_err (or_stop (NoRelease i.name) (choice_for i log)) _ stop e)
    where
      by : (or_stop (NoRelease i.name) (choice_for i log) ≡ Err stop) ⊎ ((r : Parts × List ℕ) × (or_stop (NoRelease i.name) (choice_for i log) ≡ Ok r) × ((or_stop (NeedsContent i.name r.1) (content_in f r.1) >>= λ c. wired k i.name r c) ≡ Err stop)) → Caused k stop
      by (inl e) = let o = or_stop_err (NoRelease i.name) stop (choice_for i log) e in subst (Caused k) o.1 (i, log, has, o.0)
      by (inr e) =
          let chooses : Chooses s f k i.name e.0.0 e.0.1 = record { import = i; log = log; has_log = has; chosen = or_stop_ok (NoRelease i.name) (choice_for i log) e.0 e.1 } in
          loaded_err k i e.0 stop chooses e.2

  abbrev rest : Key → ImportTree → List Release → Result Node Stop
  rest k i log = or_stop (NoRelease i.name) (choice_for i log) >>= λ r. or_stop (NeedsContent i.name r.1) (content_in f r.1) >>= λ c. wired k i.name r c

  logged_err : (k : Key) (i : ImportTree) (stop : Stop) → asked s k ≡ Some i → (or_stop (NeedsLog i.name) (log_in f i.name) >>= rest k i) ≡ Err stop → Caused k stop
  logged_err k i stop asks e = by (bind_err (or_stop (NeedsLog i.name) (log_in f i.name)) (rest k i) stop e)
    where
      by : (or_stop (NeedsLog i.name) (log_in f i.name) ≡ Err stop) ⊎ ((log : List Release) × (or_stop (NeedsLog i.name) (log_in f i.name) ≡ Ok log) × (rest k i log ≡ Err stop)) → Caused k stop
      by (inl e) = let o = or_stop_err (NeedsLog i.name) stop (log_in f i.name) e in subst (Caused k) o.1 (i, asks, refl, o.0)
      by (inr e) =
          let has : HasLog s f k i.name i e.0 = record { asks = asks; named = refl; known = or_stop_ok (NeedsLog i.name) (log_in f i.name) e.0 e.1 } in
          chosen_err k i e.0 stop has e.2

  node_err : (k : Key) (stop : Stop) → node_of s f k ≡ Err stop → Caused k stop
  unfolding node_of
  node_err k stop e = by (bind_err (or_stop (NoPackage k) (asked s k)) _ stop e)
    where
      by : (or_stop (NoPackage k) (asked s k) ≡ Err stop) ⊎ ((i : ImportTree) × (or_stop (NoPackage k) (asked s k) ≡ Ok i) × ((or_stop (NeedsLog i.name) (log_in f i.name) >>= rest k i) ≡ Err stop)) → Caused k stop
      by (inl e) = let o = or_stop_err (NoPackage k) stop (asked s k) e in subst (Caused k) o.1 (refl, o.0)
      by (inr e) = logged_err k e.0 stop (or_stop_ok (NoPackage k) (asked s k) e.0 e.1) e.2

  caused : (k : Key) (stop : Stop) → StopsAt (node_of s f) root depth stop k → Caused k stop
  caused k stop (inl e) = node_err k stop e
  caused k stop (inr (inl e)) = subst (Caused k) (sym e.0) (refl, e.1)
  caused k stop (inr (inr e)) = subst (Caused k) (sym e.0) (e.1, e.2, e.3)

  -- each stop of the walk has its cause
  pub walk_cause : (stop : Stop) → walk (node_of s f) depth root ≡ Err stop → IsCause s f root depth stop
  walk_cause stop e = let w = walk_stops (node_of s f) root depth stop e in (w.0, w.1, caused w.0 stop w.2)

-- what a walk asks for is not known
pub asked_unknown : (s : Settings) (f : Facts) (n : ℕ) (root : Key) (stop : Stop) → walk (node_of s f) n root ≡ Err stop → IsUnknown f stop
asked_unknown s f n root (NeedsLog name) e = (walk_cause s f root n (NeedsLog name) e).2.3
asked_unknown s f n root (NeedsContent name digest) e = (walk_cause s f root n (NeedsContent name digest) e).2.2
asked_unknown s f n root (NoPackage key) e = record {}
asked_unknown s f n root (NoRelease name) e = record {}
asked_unknown s f n root (BadImportName name) e = record {}
asked_unknown s f n root (NoSuchImport key name) e = record {}
asked_unknown s f n root (Cycle key) e = record {}
asked_unknown s f n root TooDeep e = record {}
