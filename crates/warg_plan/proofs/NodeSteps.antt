-- The steps from a key to its entry.
use Rattle.std.proofs.Common.{◌≡◌, ℕ, Bool, true, false, cond, List, [], ◌∷◌, ◌++◌, drop, take, append_assoc, Option, Some, None, Result, Ok, Err, option_and_then, refl, sym, ap, subst, ◌∙◌, ◌+◌}
use Rattle.std.specs.Prelude.{IfSome}
use Rattle.std.proofs.lemmas.List.{take-append-drop, map-append}
use Rattle.std.specs.Borrow.{Bor}
use Rattle.warg_hash.specs.Name.{is_package_name, IsPackageName}
use Rattle.warg_hash.specs.NameLaws.{is_package_name-name}
use Rattle.warg_values.specs.Reading.{◌>>=◌}
use Rattle.warg_values.specs.ReadingLaws.{bind_ok, ok_is}
use Rattle.warg_names.specs.Import.{ImportTree, import_of}
use Rattle.compose_config.specs.Plan.{Settings, Argument}
use Rattle.warg_plan.specs.Keys.{Key, asked, import_at, of_package}
use Rattle.warg_plan.specs.Walk.{Stop, NoPackage, BadImportName, Wire, Facts, or_stop, wire_of, wires_of, node_of}
use Rattle.warg_plan.specs.StopLaws.{err_is}
use Rattle.warg_plan.specs.Steps.{wire_at, wire_view, wires_view, package_at, node_from}
use Rattle.warg_plan.specs.declared.node.Wire.{Wire as CodeWire}

-- a name that is no package's
pub not_package : (k : Key) (i : ImportTree) → (IsPackageName i.name → ⊥) → package_at k i ≡ Err (NoPackage k)
not_package k i other = by (is_package_name i.name) refl
  where
    by : (b : Bool) → is_package_name i.name ≡ b → or_stop (NoPackage k) (cond b (Some i.name) None) ≡ Err (NoPackage k)
    by true is = absurd (other (is_package_name-name i.name is))
    by false is = refl

abbrev pub ok_wires : List (List ℕ × Wire) → Result (List (List ℕ × Wire)) Stop
ok_wires ws = Ok ws

abbrev pub stops : Stop → Result (List (List ℕ × Wire)) Stop
stops s = Err s

-- one import more
pub wires_step : (args : List (List ℕ × Argument)) (names : List (List ℕ)) (ws : List (List ℕ × Wire)) (n : List ℕ) (w : Wire) → wires_of args names ≡ Ok ws → wire_at args n ≡ Ok w → wires_of args (names ++ n ∷ []) ≡ Ok (ws ++ (n, w) ∷ [])
unfolding wires_of
wires_step args [] ws n w e one =
    let a = bind_ok (or_stop (BadImportName n) (import_of n)) _ w one in
    ap (λ o. o >>= λ i. Ok ((n, wire_of args n i) ∷ [])) a.1 ∙ ap (λ v. ok_wires ((n, v) ∷ [])) (ok_is (wire_of args n a.0) w a.2) ∙ ap (λ l. ok_wires (l ++ (n, w) ∷ [])) (ok_is [] ws e)
wires_step args (m ∷ names) ws n w e one =
    let a = bind_ok (or_stop (BadImportName m) (import_of m)) _ ws e in
    let b = bind_ok (wires_of args names) _ ws a.2 in
    ap (λ o. o >>= λ i. wires_of args (names ++ n ∷ []) >>= λ ws. Ok ((m, wire_of args m i) ∷ ws)) a.1
    ∙ ap (λ r. r >>= λ ws. Ok ((m, wire_of args m a.0) ∷ ws)) (wires_step args names b.0 n w b.1 one)
    ∙ ap (λ l. ok_wires (l ++ (n, w) ∷ [])) (ok_is ((m, wire_of args m a.0) ∷ b.0) ws b.2)

-- an import whose name is none
pub wires_stop : (args : List (List ℕ × Argument)) (names rest : List (List ℕ)) (ws : List (List ℕ × Wire)) (n : List ℕ) (s : Stop) → wires_of args names ≡ Ok ws → wire_at args n ≡ Err s → wires_of args (names ++ n ∷ rest) ≡ Err s
unfolding wires_of
wires_stop args [] rest ws n s e one = by (import_of n) one
  where
    by : (o : Option ImportTree) → (or_stop (BadImportName n) o >>= λ i. Ok (wire_of args n i)) ≡ Err s → (or_stop (BadImportName n) o >>= λ i. wires_of args rest >>= λ ws. Ok ((n, wire_of args n i) ∷ ws)) ≡ Err s
    by None h = ap stops (err_is {A = Wire} (BadImportName n) s h)
    by (Some i) h = absurd cc
wires_stop args (m ∷ names) rest ws n s e one =
    let a = bind_ok (or_stop (BadImportName m) (import_of m)) _ ws e in
    let b = bind_ok (wires_of args names) _ ws a.2 in
    ap (λ o. o >>= λ i. wires_of args (names ++ n ∷ rest) >>= λ ws. Ok ((m, wire_of args m i) ∷ ws)) a.1
    ∙ ap (λ r. r >>= λ ws. Ok ((m, wire_of args m a.0) ∷ ws)) (wires_stop args names rest b.0 n s b.1 one)

fails_more : (o : Option Stop) (args : List (List ℕ × Argument)) (names rest : List (List ℕ)) (ws : List (List ℕ × Wire)) (n : List ℕ) → wires_of args names ≡ Ok ws → IfSome o (λ s. wire_at args n ≡ Err s) → IfSome o (λ s. wires_of args (names ++ n ∷ rest) ≡ Err s)
fails_more None args names rest ws n e h = h
fails_more (Some s) args names rest ws n e h = wires_stop args names rest ws n s e h

-- the wires end at an import whose name is none
pub wires_fail : (o : Option Stop) (args : List (List ℕ × Argument)) (names : List (List ℕ)) (i : ℕ) (ws : List (List ℕ × Wire)) (n : List ℕ) → wires_of args (take i names) ≡ Ok ws → take (i + 1) names ≡ take i names ++ n ∷ []
    → IfSome o (λ s. wire_at args n ≡ Err s) → IfSome o (λ s. wires_of args names ≡ Err s)
wires_fail o args names i ws n e front h =
    subst (λ l. IfSome o (λ s. wires_of args l ≡ Err s))
    (sym (append_assoc (take i names) (n ∷ []) (drop (i + 1) names)) ∙ ap (λ l. l ++ drop (i + 1) names) (sym front) ∙ take-append-drop (i + 1) names)
    (fails_more o args (take i names) (drop (i + 1) names) ws n e h)

-- what a named key asks for
pub node_is : (s : Settings) (f : Facts) (k : Key) (i : ImportTree) → import_at s k ≡ Some i → node_of s f k ≡ node_from s f k (of_package i)
unfolding node_of asked
node_is s f k i is = ap (λ o. node_from s f k (option_and_then of_package o)) is

-- a wire more
pub wires_push : (ws : List (Bor (List ℕ) × CodeWire)) (w : Bor (List ℕ) × CodeWire) → wires_view (ws ++ w ∷ []) ≡ wires_view ws ++ (w.0.now, wire_view w.1) ∷ []
wires_push ws w = map-append (λ (w : Bor (List ℕ) × CodeWire). (w.0.now, wire_view w.1)) ws (w ∷ [])
