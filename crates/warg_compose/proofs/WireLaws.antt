-- The wires of a plan: each goes from an entry to a later one, into an import that is there, and no two go into one. What no
-- wire goes into is left open.
use Rattle.std.proofs.Common.{◌≡◌, ◌<◌, ◌≤◌, ◌+◌, ◌∙◌, ◌⊎◌, inl, inr, sym, ap, subst, refl, arith, ℕ, suc, Bool, true, false, true≢false, cond, List, [], ◌∷◌, ◌++◌, length, map, Some, None, append_assoc}
use Rattle.std.specs.Prelude.{is_none, slice_get}
use Rattle.std.specs.List.{AllByRecursion}
use Rattle.comp_entity.specs.Entity.{EntityTree, ShapeTree}
use Rattle.compose_left.specs.Origins.{placed}
use Rattle.compose_left.specs.Wiring.{Wiring, is_into, wire_into}
use Rattle.compose_left.specs.declared.wiring.Wire.{Wire}
use Rattle.compose_check.specs.Composition.{HaveOwnImports}
use Rattle.compose_check.specs.Open.{Asked, asked_by, asked_by_all, asked_from}
use Rattle.warg_plan.specs.Plan.{EachAfter}
use Rattle.warg_plan.specs.Walk.{Arg, Left, OfEntry, Entry}
use Rattle.warg_compose.specs.Composed.{wire_to, wires_from, wires_to}
use Rattle.warg_compose.specs.Read.{names_in}
use Rattle.warg_compose.specs.Wired.{IsGiven, IsOpenName, IsWired}

-- ---- lists

pub all_both : {X : Type 0} (P : X → Type 0) (xs ys : List X) → AllByRecursion P xs → AllByRecursion P ys → AllByRecursion P (xs ++ ys)
all_both P [] ys a b = b
all_both P (x ∷ xs) ys a b = (a.0, all_both P xs ys a.1 b)

pub all_weaker : {X : Type 0} (P Q : X → Type 0) (xs : List X) → ((x : X) → P x → Q x) → AllByRecursion P xs → AllByRecursion Q xs
all_weaker P Q [] step all = tt
all_weaker P Q (x ∷ xs) step all = (step x all.0, all_weaker P Q xs step all.1)

pub at_length : {X : Type 0} (xs ys : List X) (x : X) → slice_get (xs ++ x ∷ ys) (length xs) ≡ Some x
at_length [] ys x = refl
at_length (y ∷ xs) ys x = at_length xs ys x

pub length_more : {X : Type 0} (xs : List X) (x : X) → length (xs ++ x ∷ []) ≡ suc (length xs)
length_more [] x = refl
length_more (y ∷ xs) x = ap suc (length_more xs x)

-- ---- where wires lead

pub record IsPlanWire (es : List Entry) (w : Wire) : Type 0 where
  pub entry : Entry
  pub there : slice_get es w.target ≡ Some entry
  pub source : w.source < w.target
  pub import : w.import < length entry.arguments
  pub whole : w.export ≡ None

module _ (es : List Entry) where
  into : (e : Entry) (t i : ℕ) (args : List (List ℕ × Arg)) → slice_get es t ≡ Some e → i + length args ≤ length e.arguments → AllByRecursion (λ a. IsGiven t a.0 a.1) args → AllByRecursion (IsPlanWire es) (wires_to t i args)
  into e t i [] there le given = tt
  into e t i (a ∷ args) there le given = all_both (IsPlanWire es) (wire_to t i a.1) (wires_to t (suc i) args) (one a.1 given.0) (into e t (suc i) args there (omega (arith, le)) given.1)
    where
      one : (x : Arg) → IsGiven t a.0 x → AllByRecursion (IsPlanWire es) (wire_to t i x)
      one Left g = tt
      one (OfEntry s) g = (record { entry = e; there = there; source = g; import = omega (arith, le); whole = refl }, tt)

  pub plan_wires : (before after : List Entry) → es ≡ before ++ after → EachAfter IsWired before after → AllByRecursion (IsPlanWire es) (wires_from (length before) after)
  unfolding EachAfter
  plan_wires before [] same each = tt
  plan_wires before (e ∷ after) same each =
      all_both (IsPlanWire es) (wires_to (length before) 0 e.arguments) (wires_from (suc (length before)) after)
      (into e (length before) 0 e.arguments (ap (λ xs. slice_get xs (length before)) same ∙ at_length before after e) (omega arith) each.0.given)
      (subst (λ n. AllByRecursion (IsPlanWire es) (wires_from n after)) (length_more before e)
      (plan_wires (before ++ e ∷ []) after (same ∙ sym (append_assoc before (e ∷ []) after)) each.1))

-- ---- no two into one import

abbrev IsLater : ℕ → ℕ → Wire → Type 0
IsLater t i w = (t < w.target) ⊎ ((w.target ≡ t) × (i ≤ w.import))

not_into : (t i : ℕ) (w : Wire) → IsLater t (suc i) w → is_into t i w ≡ false
not_into t i w (inl lt) = grind (arith, lt)
not_into t i w (inr later) = let le = later.1 in grind (arith, le)

none_into : (t i : ℕ) (ws : List Wire) → AllByRecursion (IsLater t (suc i)) ws → wire_into ws t i ≡ None
none_into t i [] all = refl
none_into t i (w ∷ ws) all = ap (λ b. cond b (Some w) (wire_into ws t i)) (not_into t i w all.0) ∙ none_into t i ws all.1

sooner : (t i : ℕ) (w : Wire) → IsLater t (suc i) w → IsLater t i w
sooner t i w (inl lt) = inl lt
sooner t i w (inr later) = let le = later.1 in inr (later.0, omega (arith, le))

abbrev AreApart : ℕ → ℕ → List Wire → Type 0
AreApart t i ws = AllByRecursion (IsLater t i) ws × HaveOwnImports ws

apart_to : (t i : ℕ) (args : List (List ℕ × Arg)) (rest : List Wire) → AllByRecursion (λ w. t < w.target) rest → HaveOwnImports rest → AreApart t i (wires_to t i args ++ rest)
apart_to t i [] rest later own = (all_weaker (λ w. t < w.target) (IsLater t i) rest (λ w lt. inl lt) later, own)
apart_to t i (a ∷ args) rest later own = subst (AreApart t i) (sym (append_assoc (wire_to t i a.1) (wires_to t (suc i) args) rest)) (one a.1 (apart_to t (suc i) args rest later own))
  where
    one : (x : Arg) → AreApart t (suc i) (wires_to t (suc i) args ++ rest) → AreApart t i (wire_to t i x ++ (wires_to t (suc i) args ++ rest))
    one Left k = (all_weaker (IsLater t (suc i)) (IsLater t i) (wires_to t (suc i) args ++ rest) (sooner t i) k.0, k.1)
    one (OfEntry s) k = ((inr (refl, omega arith), all_weaker (IsLater t (suc i)) (IsLater t i) (wires_to t (suc i) args ++ rest) (sooner t i) k.0), (none_into t i (wires_to t (suc i) args ++ rest) k.0, k.1))

above : (t : ℕ) (ws : List Wire) → AllByRecursion (λ w. suc t ≤ w.target) ws → AllByRecursion (λ w. t < w.target) ws
above t ws all = all_weaker (λ w. suc t ≤ w.target) (λ w. t < w.target) ws (λ w le. omega (arith, le)) all

at_least : (t i : ℕ) (w : Wire) → IsLater t i w → t ≤ w.target
at_least t i w (inl lt) = omega (arith, lt)
at_least t i w (inr later) = let same = later.0 in omega (arith, same)

pub own_imports : (t : ℕ) (es : List Entry) → AllByRecursion (λ w. t ≤ w.target) (wires_from t es) × HaveOwnImports (wires_from t es)
own_imports t [] = (tt, tt)
own_imports t (e ∷ es) =
    let rest = own_imports (suc t) es in
    let all = apart_to t 0 e.arguments (wires_from (suc t) es) (above t (wires_from (suc t) es) rest.0) rest.1 in
    (all_weaker (IsLater t 0) (λ w. t ≤ w.target) (wires_to t 0 e.arguments ++ wires_from (suc t) es) (at_least t 0) all.0, all.1)

-- ---- what is left open

-- an argument that is an entry has a wire
abbrev IsServed : List Wire → ℕ → ℕ → Arg → Type 0
IsServed ws t i Left = Unit {0}
IsServed ws t i (OfEntry s) = is_none (wire_into ws t i) ≡ false

abbrev AreServed : List Wire → ℕ → ℕ → List (List ℕ × Arg) → Type 0
AreServed ws t i [] = Unit {0}
AreServed ws t i (a ∷ args) = IsServed ws t i a.1 × AreServed ws t (suc i) args

found : (t i : ℕ) (pre ws : List Wire) (w : Wire) → is_into t i w ≡ true → is_none (wire_into (pre ++ w ∷ ws) t i) ≡ false
found t i [] ws w h = ap (λ b. is_none (cond b (Some w) (wire_into ws t i))) h
found t i (p ∷ pre) ws w h = by (is_into t i p) (found t i pre ws w h)
  where
    by : (b : Bool) → is_none (wire_into (pre ++ w ∷ ws) t i) ≡ false → is_none (cond b (Some p) (wire_into (pre ++ w ∷ ws) t i)) ≡ false
    by true later = refl
    by false later = later

itself : (t i s : ℕ) → is_into t i (record { target = t; import = i; source = s; export = None }) ≡ true
itself t i s = grind arith

served_to : (t i : ℕ) (args : List (List ℕ × Arg)) (pre post all : List Wire) → all ≡ pre ++ (wires_to t i args ++ post) → AreServed all t i args
served_to t i [] pre post all same = tt
served_to t i (a ∷ args) pre post all same = (one a.1 same, served_to t (suc i) args (pre ++ wire_to t i a.1) post all (later a.1 same))
  where
    one : (x : Arg) → all ≡ pre ++ ((wire_to t i x ++ wires_to t (suc i) args) ++ post) → IsServed all t i x
    one Left same = tt
    one (OfEntry s) same = subst (λ ws. is_none (wire_into ws t i) ≡ false) (sym same) (found t i pre (wires_to t (suc i) args ++ post) (record { target = t; import = i; source = s; export = None }) (itself t i s))

    later : (x : Arg) → all ≡ pre ++ ((wire_to t i x ++ wires_to t (suc i) args) ++ post) → all ≡ (pre ++ wire_to t i x) ++ (wires_to t (suc i) args ++ post)
    later x same = same ∙ ap (λ ws. pre ++ ws) (append_assoc (wire_to t i x) (wires_to t (suc i) args) post) ∙ sym (append_assoc pre (wire_to t i x) (wires_to t (suc i) args ++ post))

module _ (w : Wiring) where
  abbrev AreOpen : List Asked → Type 0
  AreOpen xs = AllByRecursion (λ x. IsOpenName x.0) xs

  open_from : (t i : ℕ) (imports : List (List ℕ × EntityTree)) (args : List (List ℕ × Arg)) → map (λ a. a.0) args ≡ names_in imports → AreServed w.wires t i args → AllByRecursion (λ a. IsGiven t a.0 a.1) args → AreOpen (asked_from w t i imports)
  open_from t i [] args same served given = tt
  open_from t i (e ∷ imports) [] same served given = absurd cc
  open_from t i (e ∷ imports) (a ∷ args) same served given =
      all_both (λ x. IsOpenName x.0) (asked_by w t i e) (asked_from w t (suc i) imports) (one a.1 served.0 given.0) (open_from t (suc i) imports args (tails same) served.1 given.1)
    where
      heads : a.0 ∷ map (λ a. a.0) args ≡ e.0 ∷ names_in imports → a.0 ≡ e.0
      heads h = cc

      tails : a.0 ∷ map (λ a. a.0) args ≡ e.0 ∷ names_in imports → map (λ a. a.0) args ≡ names_in imports
      tails h = cc

      asks : (b : Bool) → (b ≡ true → IsOpenName e.0) → AreOpen (cond b ((e.0, placed w t e.1) ∷ []) [])
      asks true h = (h refl, tt)
      asks false h = tt

      one : (x : Arg) → IsServed w.wires t i x → IsGiven t a.0 x → AreOpen (asked_by w t i e)
      one Left s g = asks (is_none (wire_into w.wires t i)) (λ h. subst IsOpenName (heads same) g)
      one (OfEntry n) s g = asks (is_none (wire_into w.wires t i)) (λ h. absurd (true≢false (sym h ∙ s)))

  -- the imports of each instance have the names of the arguments of its entry
  abbrev pub AreNamed : List Entry → List ShapeTree → Type 0
  AreNamed [] [] = Unit {0}
  AreNamed (e ∷ es) (s ∷ ss) = (map (λ a. a.0) e.arguments ≡ names_in s.imports) × AreNamed es ss
  AreNamed _ _ = ⊥

  pub open_all : (before after : List Entry) (pre : List Wire) (ss : List ShapeTree) → w.wires ≡ pre ++ wires_from (length before) after → EachAfter IsWired before after → AreNamed after ss → AreOpen (asked_by_all w (length before) ss)
  unfolding EachAfter
  open_all before after pre [] same each named = tt
  open_all before [] pre (s ∷ ss) same each named = absurd named
  open_all before (e ∷ after) pre (s ∷ ss) same each named =
      all_both (λ x. IsOpenName x.0) (asked_from w (length before) 0 s.imports) (asked_by_all w (suc (length before)) ss)
      (open_from (length before) 0 s.imports e.arguments named.0 (served_to (length before) 0 e.arguments pre (wires_from (suc (length before)) after) w.wires same) each.0.given)
      (subst (λ n. AreOpen (asked_by_all w n ss)) (length_more before e)
      (open_all (before ++ e ∷ []) after (pre ++ wires_to (length before) 0 e.arguments) ss
      (same ∙ sym (append_assoc pre (wires_to (length before) 0 e.arguments) (wires_from (suc (length before)) after)) ∙ ap (λ n. (pre ++ wires_to (length before) 0 e.arguments) ++ wires_from n after) (sym (length_more before e)))
      each.1 named.1))
