-- The visit of a key, by what is known of it.
use Rattle.std.proofs.Common.{◌≡◌, ◌<◌, ◌+◌, ◌-◌, ℕ, zero, suc, true, false, List, [], ◌∷◌, ◌++◌, drop, length, slice_index_or, Result, Ok, Err, refl, sym, ap, subst, ◌∙◌, arith}
use Rattle.std.specs.Borrow.{Bor}
use Rattle.std.specs.Prelude.{Option, Some, None, IfSome}
use Rattle.std.proofs.lemmas.List.{map-append, drop_more}
use Rattle.warg_values.specs.Answers.{Gives}
use Rattle.warg_values.specs.Reading.{◌>>=◌}
use Rattle.warg_plan.specs.Keys.{Key}
use Rattle.warg_plan.specs.Walk.{Stop, TooDeep, Cycle, Wire, Open, To, Node, Entry, keys, has_key, along, entry_of, visit}
use Rattle.warg_plan.specs.WalkLaws.{has_none, keys_apart, along_grew, visit_grew}
use Rattle.warg_plan.specs.Onward.{GoesAlong}
use Rattle.warg_plan.specs.OnwardLaws.{stopped_behind, stopped_after}
use Rattle.warg_plan.specs.Steps.{wire_view, wires_view}
use Rattle.warg_plan.specs.Found.{OnStop, opened}
use Rattle.warg_plan.specs.declared.node.Wire.{Wire as CodeWire}
use Rattle.warg_plan.specs.View.{stop_view}
use Rattle.warg_plan.specs.declared.stop.Stop.{Stop as CodeStop}

abbrev pub stopped : Stop → Result (List Entry) Stop
stopped s = Err s

module _ (node : Key → Result Node Stop) where
  pub visit_deep : (n : ℕ) (path : List Key) (es : List Entry) (k : Key) → n ≡ 0 → visit node n path es k ≡ Err TooDeep
  unfolding visit
  visit_deep zero path es k e = refl
  visit_deep (suc n) path es k e = absurd (omega (arith, e))

  pub visit_found : (n : ℕ) (path : List Key) (es : List Entry) (k : Key) → 0 < n → has_key (keys es) k ≡ true → visit node n path es k ≡ Ok es
  unfolding visit
  visit_found zero path es k le is = absurd (omega (arith, le))
  visit_found (suc n) path es k le is = rw is refl

  pub visit_cycle : (n : ℕ) (path : List Key) (es : List Entry) (k : Key) → 0 < n → has_key (keys es) k ≡ false → has_key path k ≡ true → visit node n path es k ≡ Err (Cycle k)
  unfolding visit
  visit_cycle zero path es k le new is = absurd (omega (arith, le))
  visit_cycle (suc n) path es k le new is = rw (new, is) refl

  pub visit_stops : (n : ℕ) (path : List Key) (es : List Entry) (k : Key) (s : Stop) → 0 < n → has_key (keys es) k ≡ false → has_key path k ≡ false → node k ≡ Err s → visit node n path es k ≡ Err s
  unfolding visit
  visit_stops zero path es k s le new free is = absurd (omega (arith, le))
  visit_stops (suc n) path es k s le new free is = rw (new, free, is) refl

  pub visit_goes : (n : ℕ) (path : List Key) (es : List Entry) (k : Key) (x : Node) → 0 < n → has_key (keys es) k ≡ false → has_key path k ≡ false → node k ≡ Ok x → visit node n path es k ≡ opened node (n - 1) path es k x
  unfolding visit
  visit_goes zero path es k x le new free is = absurd (omega (arith, le))
  visit_goes (suc n) path es k x le new free is =
      let less : n ≡ suc n - 1 = omega arith in
      rw (new, free, is) (ap (λ m. opened node m path es k x) less)

  -- behind those that its imports are wired to, the key has no entry yet
  pub still_new : (n : ℕ) (path : List Key) (es more : List Entry) (k : Key) (x : Node) → has_key (keys es) k ≡ false → along (visit node n (k ∷ path)) es x.wires ≡ Ok more → has_key (keys more) k ≡ false
  still_new n path es more k x new e =
      let g = (along_grew node (k ∷ path) (visit node n (k ∷ path)) (visit_grew node n (k ∷ path)) x.wires es more e).0 in
      subst (λ l. has_key l k ≡ false) (sym (ap keys g.is ∙ map-append (λ (e : Entry). e.key) es g.new)) (has_none (keys es) (keys g.new) k new (keys_apart node path k g.new g.apart))

  -- a visit stops where the key has no entry for it
  pub stops_by : (o : Option Stop) (n : ℕ) (path : List Key) (es : List Entry) (k : Key) → 0 < n → has_key (keys es) k ≡ false → has_key path k ≡ false → IfSome o (λ s. node k ≡ Err s) → IfSome o (λ s. visit node n path es k ≡ Err s)
  stops_by None n path es k le new free h = h
  stops_by (Some s) n path es k le new free h = visit_stops n path es k s le new free h

  -- or where those that its imports are wired to stop
  pub along_stops_by : (o : Option Stop) (n : ℕ) (path : List Key) (es : List Entry) (k : Key) (x : Node) → IfSome o (λ s. along (visit node n (k ∷ path)) es x.wires ≡ Err s) → IfSome o (λ s. opened node n path es k x ≡ Err s)
  along_stops_by None n path es k x h = h
  along_stops_by (Some s) n path es k x h = ap (λ r. r >>= λ more. Ok (more ++ entry_of k x more ∷ [])) h

  pub opened_is : (n : ℕ) (path : List Key) (es more : List Entry) (k : Key) (x : Node) → along (visit node n (k ∷ path)) es x.wires ≡ Ok more → opened node n path es k x ≡ Ok (more ++ entry_of k x more ∷ [])
  opened_is n path es more k x h = ap (λ r. r >>= λ more. Ok (more ++ entry_of k x more ∷ [])) h

  -- those that imports are wired to are visited from the same place
  pub same_along : (n : ℕ) (path there : List Key) (es same : List Entry) (k : Key) (x : Node) (ws : List (List ℕ × Wire)) → there ≡ k ∷ path → same ≡ es → ws ≡ x.wires → along (visit node n (k ∷ path)) es x.wires ≡ along (visit node n there) same ws
  same_along n path there es same k x ws p e w = ap (λ p. along (visit node n p) es x.wires) (sym p) ∙ ap (λ l. along (visit node n there) l x.wires) (sym e) ∙ ap (along (visit node n there) same) (sym w)

-- how far visits along wires have come, and from where they go on
pub record IsAlong (node : Key → Result Node Stop) (n : ℕ) (path : List Key) (es : List Entry) (ws : List (List ℕ × Wire)) (here : List Key) (now : List Entry) (left : List (List ℕ × Wire)) : Type 0 where
  pub stands : here ≡ path
  pub gives : along (visit node n here) now left ≡ along (visit node n path) es ws
  pub goes_on : (later : List Entry) → GoesAlong node n here now later left → GoesAlong node n path es later ws

module _ (node : Key → Result Node Stop) (n : ℕ) (path : List Key) (es : List Entry) (ws : List (List ℕ × Wire)) (here : List Key) (now : List Entry) where
  -- behind a wire that leads nowhere
  pub along_open : (name : List ℕ) (left : List (List ℕ × Wire)) → IsAlong node n path es ws here now ((name, Open) ∷ left) → IsAlong node n path es ws here now left
  unfolding along
  along_open name left a = record { stands = a.stands; gives = a.gives; goes_on = λ later g. a.goes_on later (stopped_behind node n here now later name left g) }

  -- behind a wire whose visit went well
  pub along_to : (name : List ℕ) (k : Key) (left : List (List ℕ × Wire)) (there : List Key) (mid : List Entry) → there ≡ here → visit node n here now k ≡ Ok mid → IsAlong node n path es ws here now ((name, To k) ∷ left)
      → IsAlong node n path es ws there mid left
  unfolding along
  along_to name k left there mid same e a = subst (λ p. IsAlong node n path es ws p mid left) (sym same) (record {
    stands = a.stands;
    gives = ap (λ r. r >>= λ m. along (visit node n here) m left) (sym e) ∙ a.gives;
    goes_on = λ later g. a.goes_on later (stopped_after node n here now mid later name k left e g);
  })

-- the wires that are left begin with the next
pub wires_left : (ws : List (Bor (List ℕ) × CodeWire)) (i : ℕ) (w : Bor (List ℕ) × CodeWire) → i < length ws → w ≡ slice_index_or ws i w → wires_view (drop i ws) ≡ (w.0.now, wire_view w.1) ∷ wires_view (drop (i + 1) ws)
wires_left ws i w lt is = ap wires_view (drop_more ws i w lt ∙ ap (λ y. y ∷ drop (i + 1) ws) (sym is))

-- what holds where a walk stops
pub on_stop : {X : Type 0} (r : Result X CodeStop) {P Q : Type 0} → (P → Q) → OnStop r P → OnStop r Q
on_stop (Ok x) f h = h
on_stop (Err e) f h = by (stop_view e) f h
  where
    by : (o : Option Stop) {P Q : Type 0} → (P → Q) → IfSome o (λ s. P) → IfSome o (λ s. Q)
    by None f h = h
    by (Some s) f h = f h

abbrev pub stops : CodeStop → Result (Unit {0}) CodeStop
stops e = Err e

-- an error that a call hands on tells of the same
pub hands_on : {X : Type 0} (view : X → List Entry) (r : Result X CodeStop) (e : CodeStop) (a b : Result (List Entry) Stop) → r ≡ Err e → a ≡ b → IfSome (stop_view e) (λ s. b ≡ Err s) → Gives stop_view view r a
hands_on view r e a b is same h = subst (λ r. Gives stop_view view r a) (sym is) (subst (λ a. IfSome (stop_view e) (λ s. a ≡ Err s)) (sym same) h)
