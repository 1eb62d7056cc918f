-- The keys of what a walk has found, and of what it visits, as maps find them.
use Rattle.std.proofs.Common.{◌≡◌, ℕ, suc, ◌+◌, ◌≤◌, Bool, true, false, not, ◌||◌, cond, List, [], ◌∷◌, ◌++◌, length, map, reverse, Some, None, Result, Ok, nat_lt, refl, sym, ap, ◌∙◌, arith}
use Rattle.semver.specs.Parse.{Parts}
use Rattle.std.specs.List.{list_any, position, position_or_len}
use Rattle.std.proofs.lemmas.Bool.{ltb-false}
use Rattle.std.proofs.lemmas.List.Sums.{prefix_len-le-length}
use Rattle.indexmap.specs.IndexMap.{insert_entry}
use Rattle.compose_config.specs.MapLaws.{insert_new}
use Rattle.std.specs.Map.{keys_of}
use Rattle.std.proofs.lemmas.List.{length-map, reverse-append, map-append}
use Rattle.std.proofs.lemmas.List.Folds.{list_any-append}
use Rattle.indexmap.specs.IndexSet.{insert_key}
use Rattle.warg_plan.specs.declared.key.PlanKey.{PlanKey}
use Rattle.warg_plan.specs.declared.walk.Found.{Found}
use Rattle.warg_plan.specs.contracts.key.PlanKeyPartialEq.TheImpl as of_key
use Rattle.warg_plan.specs.Keys.{Key, same_key}
use Rattle.warg_plan.specs.Walk.{Stop, Arg, Wire, Node, Entry, keys, has_key, place_of, arguments, entry_of}
use Rattle.warg_plan.specs.View.{key_view}
use Rattle.warg_plan.specs.Found.{found_view, found_keys}
use Rattle.warg_plan.proofs.KeyEq.{eq_is}

some_is : {A : Type 0} (x y : A) → Some x ≡ Some y → x ≡ y
some_is x y e = cc

-- ---- places

-- how many entries stand before that of a key
length_is : (k : PlanKey) (es : List (PlanKey × Found)) → position_or_len (of_key.ghosts.eq k) (keys_of es) ≡ place_of (found_keys es) (key_view k)
length_is k [] = refl
length_is k (e ∷ es) = by (of_key.ghosts.eq k e.0) (eq_is k e.0) (length_is k es)
  where
    by : (b : Bool) → b ≡ same_key (key_view k) (key_view e.0) → position_or_len (of_key.ghosts.eq k) (keys_of es) ≡ place_of (found_keys es) (key_view k)
        → cond (not b) (1 + position_or_len (of_key.ghosts.eq k) (keys_of es)) 0 ≡ cond (same_key (key_view k) (key_view e.0)) 0 (suc (place_of (found_keys es) (key_view k)))
    by true is later = ap (λ b. cond b 0 (suc (place_of (found_keys es) (key_view k)))) is
    by false is later =
        let more : 1 + position_or_len (of_key.ghosts.eq k) (keys_of es) ≡ suc (place_of (found_keys es) (key_view k)) = omega (arith, later) in
        more ∙ ap (λ b. cond b 0 (suc (place_of (found_keys es) (key_view k)))) is

pub place_there : (k : PlanKey) (es : List (PlanKey × Found)) (i : ℕ) → position (of_key.ghosts.eq k) (keys_of es) ≡ Some i → i ≡ place_of (found_keys es) (key_view k)
place_there k es i e = by (nat_lt (position_or_len (of_key.ghosts.eq k) (keys_of es)) (length (keys_of es))) e ∙ length_is k es
  where
    by : (b : Bool) → cond b (Some (position_or_len (of_key.ghosts.eq k) (keys_of es))) None ≡ Some i → i ≡ position_or_len (of_key.ghosts.eq k) (keys_of es)
    by true e = sym (some_is _ i e)
    by false e = absurd cc

pub place_behind : (k : PlanKey) (es : List (PlanKey × Found)) → position (of_key.ghosts.eq k) (keys_of es) ≡ None → length es ≡ place_of (found_keys es) (key_view k)
place_behind k es e = by (nat_lt (position_or_len (of_key.ghosts.eq k) (keys_of es)) (length (keys_of es))) refl e ∙ length_is k es
  where
    within : position_or_len (of_key.ghosts.eq k) (keys_of es) ≤ length (keys_of es)
    within = prefix_len-le-length (λ j. not (of_key.ghosts.eq k j)) (keys_of es)

    by : (b : Bool) → nat_lt (position_or_len (of_key.ghosts.eq k) (keys_of es)) (length (keys_of es)) ≡ b → cond b (Some (position_or_len (of_key.ghosts.eq k) (keys_of es))) None ≡ None
        → length es ≡ position_or_len (of_key.ghosts.eq k) (keys_of es)
    by true is e = absurd cc
    by false is e =
        let behind : length (keys_of es) ≤ position_or_len (of_key.ghosts.eq k) (keys_of es) = ltb-false _ _ is in
        let all : length (keys_of es) ≡ length es = length-map es (λ (e : PlanKey × Found). e.0) in
        omega (arith, within, behind, all)

-- ---- keys among others

-- an entry is found by its key
pub any_entry : (k : PlanKey) (es : List (PlanKey × Found)) → list_any (of_key.ghosts.eq k) (keys_of es) ≡ has_key (keys (map found_view es)) (key_view k)
any_entry k [] = refl
any_entry k (e ∷ es) = ap (λ b. b || list_any (of_key.ghosts.eq k) (keys_of es)) (eq_is k e.0) ∙ ap (λ b. same_key (key_view k) (key_view e.0) || b) (any_entry k es)

any_key : (k : PlanKey) (ks : List PlanKey) → list_any (of_key.ghosts.eq k) ks ≡ has_key (map key_view ks) (key_view k)
any_key k [] = refl
any_key k (j ∷ ks) = ap (λ b. b || list_any (of_key.ghosts.eq k) ks) (eq_is k j) ∙ ap (λ b. same_key (key_view k) (key_view j) || b) (any_key k ks)

last_or : (a b : Bool) → (a || (b || false)) ≡ (b || a)
last_or true true = refl
last_or true false = refl
last_or false true = refl
last_or false false = refl

any_turned : (ks : List Key) (k : Key) → has_key (reverse ks) k ≡ has_key ks k
any_turned [] k = refl
any_turned (j ∷ ks) k =
    ap (λ l. has_key l k) (reverse-append (j ∷ []) ks) ∙ list_any-append (λ j. same_key k j) (reverse ks) (j ∷ []) ∙ last_or (has_key (reverse ks) k) (same_key k j) ∙ ap (λ b. same_key k j || b) (any_turned ks k)

-- a key that is visited is found among those that are
pub any_open : (k : PlanKey) (ks : List PlanKey) → list_any (of_key.ghosts.eq k) ks ≡ has_key (reverse (map key_view ks)) (key_view k)
any_open k ks = any_key k ks ∙ sym (any_turned (map key_view ks) (key_view k))

turned_more : (ks : List PlanKey) (k : PlanKey) → reverse (map key_view (ks ++ k ∷ [])) ≡ key_view k ∷ reverse (map key_view ks)
turned_more ks k = ap reverse (map-append key_view ks (k ∷ [])) ∙ reverse-append (map key_view ks) (key_view k ∷ [])

-- one more that is visited
pub opens : (ks : List PlanKey) (k copy : PlanKey) → key_view copy ≡ key_view k → has_key (reverse (map key_view ks)) (key_view k) ≡ false → reverse (map key_view (insert_key of_key.ghosts.eq ks copy)) ≡ key_view k ∷ reverse (map key_view ks)
opens ks k copy same free =
    ap (λ b. reverse (map key_view (cond b ks (ks ++ copy ∷ [])))) (any_open copy ks ∙ ap (has_key (reverse (map key_view ks))) same ∙ free) ∙ turned_more ks copy ∙ ap (λ j. j ∷ reverse (map key_view ks)) same

-- ---- an entry more

keys_found : (es : List (PlanKey × Found)) → keys (map found_view es) ≡ found_keys es
keys_found [] = refl
keys_found (e ∷ es) = ap (λ ks. key_view e.0 ∷ ks) (keys_found es)

first_is : (j k : Key) (js ks : List Key) → j ∷ js ≡ k ∷ ks → j ≡ k
first_is j k js ks e = cc

abbrev built : Key → Node → Parts → List ℕ → List (List ℕ × Arg) → Entry
built key x version content args = record { key = key; name = x.name; version = version; digest = x.digest; content = content; arguments = args }

-- the entry of a node, by the keys of what was found
pub built_of : (key : Key) (x : Node) (es : List (PlanKey × Found)) (version : Parts) (content : List ℕ) (args : List (List ℕ × Arg)) {ws : List (List ℕ × Wire)} → version ≡ x.version → content ≡ x.content → ws ≡ x.wires → arguments (found_keys es) ws ≡ args
    → built key x version content args ≡ entry_of key x (map found_view es)
built_of key x es version content args same text wires is =
    let all : args ≡ arguments (keys (map found_view es)) x.wires = sym is ∙ ap (arguments (found_keys es)) wires ∙ ap (λ ks. arguments ks x.wires) (sym (keys_found es)) in
    ap (λ v. built key x v content args) same ∙ ap (λ t. built key x x.version t args) text ∙ ap (built key x x.version x.content) all

-- the entry of the key that was opened last is appended
pub closes : (es : List (PlanKey × Found)) (ks : List PlanKey) (k : PlanKey) (f : Found) (x : Node) (path : List Key) (key : Key) → reverse (map key_view (ks ++ k ∷ [])) ≡ key ∷ path → has_key (keys (map found_view es)) key ≡ false
    → found_view (k, f) ≡ entry_of (key_view k) x (map found_view es)
    → map found_view es ++ entry_of key x (map found_view es) ∷ [] ≡ map found_view (insert_entry of_key.ghosts.eq es k f)
closes es ks k f x path key turned new found =
    let is : key_view k ≡ key = first_is (key_view k) key (reverse (map key_view ks)) path (sym (turned_more ks k) ∙ turned) in
    let free : list_any (of_key.ghosts.eq k) (keys_of es) ≡ false = any_entry k es ∙ ap (has_key (keys (map found_view es))) is ∙ new in
    let entry : found_view (k, f) ≡ entry_of key x (map found_view es) = found ∙ ap (λ j. entry_of j x (map found_view es)) is in
    sym (ap (map found_view) (insert_new of_key.ghosts.eq es k f free) ∙ map-append found_view es ((k, f) ∷ []) ∙ ap (λ e. map found_view es ++ e ∷ []) entry)

abbrev pub ok_entries : List Entry → Result (List Entry) Stop
ok_entries es = Ok es
