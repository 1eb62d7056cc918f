-- Walks over entries and arguments, one step further.
use Rattle.std.proofs.Common.{◌≡◌, ◌∙◌, ◌+◌, ◌<◌, ℕ, zero, suc, List, [], ◌∷◌, ◌++◌, length, map, take, get_or, Option, Some, None, refl, sym, ap, arith, append_assoc}
use Rattle.std.specs.Option.{option_or}
use Rattle.std.proofs.lemmas.List.{append-nil, map-append, take_more}
use Rattle.compose_left.specs.declared.wiring.Wire.{Wire}
use Rattle.warg_plan.specs.declared.plan.PlanArg.{PlanArg}
use Rattle.warg_plan.specs.declared.plan.PlanArg.TheVariants as arg
use Rattle.warg_plan.specs.declared.plan.PlanEntry.{PlanEntry}
use Rattle.warg_plan.specs.View.{arg_view, entry_view}
use Rattle.warg_plan.specs.Walk.{Arg, Entry}
use Rattle.warg_compose.specs.Composed.{wire_to, wires_from, wires_to}
use Rattle.warg_compose.specs.Open.{first_open, if_open, open_among}

abbrev pub view : List ℕ × PlanArg → List ℕ × Arg
view a = (a.0, arg_view a.1)

pub map_more : {X Y : Type 0} (f : X → Y) (xs : List X) (i : ℕ) (x : X) → i < length xs → x ≡ get_or xs i x → map f (take (i + 1) xs) ≡ map f (take i xs) ++ f x ∷ []
map_more f xs i x lt is =
    ap (map f) (take_more xs i x lt)
    ∙ map-append f (take i xs) (get_or xs i x ∷ [])
    ∙ ap (λ y. map f (take i xs) ++ f y ∷ []) (sym is)

pub map_length : {X Y : Type 0} (f : X → Y) (xs : List X) (i : ℕ) → i < length xs → length (map f (take i xs)) ≡ i
map_length f [] i lt = absurd (omega (arith, lt))
map_length f (x ∷ xs) zero lt = refl
map_length f (x ∷ xs) (suc i) lt = ap suc (map_length f xs i (omega (arith, lt)))

-- ---- the first

or_none : {X : Type 0} (a b : Option X) → option_or a b ≡ None → (a ≡ None) × (b ≡ None)
or_none None b e = (refl, e)
or_none (Some x) b e = absurd cc

module _ {X : Type 0} (g : X → Option (List ℕ)) where
  abbrev first_by : List X → Option (List ℕ)
  first_by [] = None
  first_by (x ∷ xs) = option_or (g x) (first_by xs)

  none_behind : (xs : List X) (x : X) → first_by xs ≡ None → g x ≡ None → first_by (xs ++ x ∷ []) ≡ None
  none_behind [] x none here = ap (λ o. option_or o None) here
  none_behind (y ∷ ys) x none here =
      let p = or_none (g y) (first_by ys) none in
      ap (λ o. option_or o (first_by (ys ++ x ∷ []))) p.0 ∙ none_behind ys x p.1 here

  none_more : (xs : List X) (i : ℕ) (x : X) → i < length xs → x ≡ get_or xs i x → first_by (take i xs) ≡ None → g x ≡ None → first_by (take (i + 1) xs) ≡ None
  none_more xs i x lt is none here = ap first_by (take_more xs i x lt) ∙ none_behind (take i xs) (get_or xs i x) none (ap g (sym is) ∙ here)

  found_at : (xs : List X) (i : ℕ) (x : X) (name : List ℕ) → i < length xs → x ≡ get_or xs i x → first_by (take i xs) ≡ None → g x ≡ Some name → first_by xs ≡ Some name
  found_at [] i x name lt is none here = absurd (omega (arith, lt))
  found_at (y ∷ ys) zero x name lt is none here = ap (λ o. option_or o (first_by ys)) (ap g (sym is) ∙ here)
  found_at (y ∷ ys) (suc i) x name lt is none here =
      let p = or_none (g y) (first_by (take i ys)) none in
      ap (λ o. option_or o (first_by ys)) p.0 ∙ found_at ys i x name (omega (arith, lt)) is p.1 here

abbrev pub open_argument : List ℕ × PlanArg → Option (List ℕ)
open_argument a = if_open a.0 (arg_view a.1)

abbrev pub open_entry : PlanEntry → Option (List ℕ)
open_entry e = open_among (entry_view e).arguments

by_arguments : (xs : List (List ℕ × PlanArg)) → first_by open_argument xs ≡ open_among (map view xs)
by_arguments [] = refl
by_arguments (x ∷ xs) = ap (option_or (open_argument x)) (by_arguments xs)

by_entries : (es : List PlanEntry) → first_by open_entry es ≡ first_open (map entry_view es)
by_entries [] = refl
by_entries (e ∷ es) = ap (option_or (open_entry e)) (by_entries es)

module _ (xs : List (List ℕ × PlanArg)) (i : ℕ) (x : List ℕ × PlanArg) (lt : i < length xs) (is : x ≡ get_or xs i x) (none : open_among (map view (take i xs)) ≡ None) where
  pub argument_found : x.1 ≡ arg.Left → open_among (map view xs) ≡ Some x.0
  argument_found left = sym (by_arguments xs) ∙ found_at open_argument xs i x x.0 lt is (by_arguments (take i xs) ∙ none) (ap (λ a. if_open x.0 (arg_view a)) left)

  pub arguments_more : (n : ℕ) → x.1 ≡ arg.Entry n → open_among (map view (take (i + 1) xs)) ≡ None
  arguments_more n at = sym (by_arguments (take (i + 1) xs)) ∙ none_more open_argument xs i x lt is (by_arguments (take i xs) ∙ none) (ap (λ a. if_open x.0 (arg_view a)) at)

module _ (es : List PlanEntry) (i : ℕ) (e : PlanEntry) (lt : i < length es) (is : e ≡ get_or es i e) (none : first_open (map entry_view (take i es)) ≡ None) where
  pub entry_found : (name : List ℕ) → open_entry e ≡ Some name → first_open (map entry_view es) ≡ Some name
  entry_found name here = sym (by_entries es) ∙ found_at open_entry es i e name lt is (by_entries (take i es) ∙ none) here

  pub entries_more : open_entry e ≡ None → first_open (map entry_view (take (i + 1) es)) ≡ None
  entries_more here = sym (by_entries (take (i + 1) es)) ∙ none_more open_entry es i e lt is (by_entries (take i es) ∙ none) here

-- ---- wires

wires_behind : (t n : ℕ) (args : List (List ℕ × Arg)) (a : List ℕ × Arg) → wires_to t n (args ++ a ∷ []) ≡ wires_to t n args ++ wire_to t (n + length args) a.1
wires_behind t n [] a = append-nil (wire_to t n a.1) ∙ ap (λ k. wire_to t k a.1) (omega arith)
wires_behind t n (b ∷ args) a =
    ap (λ ws. wire_to t n b.1 ++ ws) (wires_behind t (suc n) args a ∙ ap (λ k. wires_to t (suc n) args ++ wire_to t k a.1) (omega arith))
    ∙ sym (append_assoc (wire_to t n b.1) (wires_to t (suc n) args) (wire_to t (n + suc (length args)) a.1))

pub wires_more : (t : ℕ) (xs : List (List ℕ × PlanArg)) (i : ℕ) (x : List ℕ × PlanArg) → i < length xs → x ≡ get_or xs i x
    → wires_to t 0 (map view (take (i + 1) xs)) ≡ wires_to t 0 (map view (take i xs)) ++ wire_to t i (arg_view x.1)
wires_more t xs i x lt is =
    ap (wires_to t 0) (map_more view xs i x lt is)
    ∙ wires_behind t 0 (map view (take i xs)) (view x)
    ∙ ap (λ k. wires_to t 0 (map view (take i xs)) ++ wire_to t k (arg_view x.1)) (let n = map_length view xs i lt in omega (arith, n))

entries_behind : (t : ℕ) (es : List Entry) (e : Entry) → wires_from t (es ++ e ∷ []) ≡ wires_from t es ++ wires_to (t + length es) 0 e.arguments
entries_behind t [] e = append-nil (wires_to t 0 e.arguments) ∙ ap (λ k. wires_to k 0 e.arguments) (omega arith)
entries_behind t (d ∷ es) e =
    ap (λ ws. wires_to t 0 d.arguments ++ ws) (entries_behind (suc t) es e ∙ ap (λ k. wires_from (suc t) es ++ wires_to k 0 e.arguments) (omega arith))
    ∙ sym (append_assoc (wires_to t 0 d.arguments) (wires_from (suc t) es) (wires_to (t + suc (length es)) 0 e.arguments))

pub entry_more : (es : List PlanEntry) (i : ℕ) (e : PlanEntry) → i < length es → e ≡ get_or es i e
    → wires_from 0 (map entry_view (take (i + 1) es)) ≡ wires_from 0 (map entry_view (take i es)) ++ wires_to i 0 (entry_view e).arguments
entry_more es i e lt is =
    ap (wires_from 0) (map_more entry_view es i e lt is)
    ∙ entries_behind 0 (map entry_view (take i es)) (entry_view e)
    ∙ ap (λ k. wires_from 0 (map entry_view (take i es)) ++ wires_to k 0 (entry_view e).arguments) (let n = map_length entry_view es i lt in omega (arith, n))

module _ (t : ℕ) (xs : List (List ℕ × PlanArg)) (i : ℕ) (x : List ℕ × PlanArg) (lt : i < length xs) (is : x ≡ get_or xs i x) (first now : List Wire) (so_far : now ≡ first ++ wires_to t 0 (map view (take i xs))) where
  pub argument_wired : (n : ℕ) (new : List Wire) → x.1 ≡ arg.Entry n → new ≡ now ++ (record { target = t; import = i; source = n; export = None }) ∷ [] → new ≡ first ++ wires_to t 0 (map view (take (i + 1) xs))
  argument_wired n new at pushed =
      pushed
      ∙ ap (λ ws. ws ++ (record { target = t; import = i; source = n; export = None }) ∷ []) so_far
      ∙ append_assoc first (wires_to t 0 (map view (take i xs))) ((record { target = t; import = i; source = n; export = None }) ∷ [])
      ∙ ap (λ ws. first ++ ws) (sym (wires_more t xs i x lt is ∙ ap (λ a. wires_to t 0 (map view (take i xs)) ++ wire_to t i (arg_view a)) at))

  pub argument_open : x.1 ≡ arg.Left → now ≡ first ++ wires_to t 0 (map view (take (i + 1) xs))
  argument_open left =
      so_far
      ∙ ap (λ ws. first ++ ws) (sym (wires_more t xs i x lt is ∙ ap (λ a. wires_to t 0 (map view (take i xs)) ++ wire_to t i (arg_view a)) left ∙ append-nil (wires_to t 0 (map view (take i xs)))))

pub map_step : {X Y : Type 0} (f : X → Y) (xs : List X) (i : ℕ) (x : X) (ys zs : List Y) → i < length xs → x ≡ get_or xs i x → ys ≡ map f (take i xs) → zs ≡ ys ++ f x ∷ [] → zs ≡ map f (take (i + 1) xs)
map_step f xs i x ys zs lt is before now = now ∙ ap (λ ys. ys ++ f x ∷ []) before ∙ sym (map_more f xs i x lt is)
