-- Scopes in a vector, the innermost last, and what is written into the innermost.
use Rattle.std.proofs.Common.{◌≡◌, ◌<◌, ◌≤◌, ◌-◌, ◌+◌, Bool, true, false, ◌||◌, get_or, take, drop, arith, length, ℕ, zero, suc, List, [], ◌∷◌, ◌++◌, map, Option, Some, None, refl, sym, ap, ◌∙◌}
use Rattle.std.specs.Prelude.{All, reverse, option_map, option_and_then, is_some, if◌then◌else◌}
use Rattle.std.proofs.lemmas.List.{map_push, reverse-append, take_all, take_more}
use Rattle.comp_format.specs.declared.types.Alias.TheVariants as alias
use Rattle.comp_format.specs.declared.types.Sort.TheVariants as sort
use Rattle.comp_entity.specs.Names.{Mention}
use Rattle.comp_entity.specs.Places.{Path}
use Rattle.compose_writing.specs.Keys.{At, Index, InInstance, KnownThings, known_at, mention_outside, holds_there, from_within}
use Rattle.compose_writing.specs.Scopes.{WrittenScope, Wrote, add_alias, add_instance, along, index_in, on_top, change_top, stood, standing, brought, type_index, closed, knows, with_known}
use Rattle.compose_writing.specs.WriteEntities.{at_end}
use Rattle.compose_types.specs.declared.open.Open.{Open}
use Rattle.compose_types.specs.declared.open.Declared.{Declared}
use Rattle.compose_types.specs.Bodies.{declared}
use Rattle.compose_types.specs.Scopes.{scope_of, scopes_in, with_names}

pub along_none : (from : ℕ) (path : Path) (m : WrittenScope) → length path < 1 → along from path m ≡ (m, from)
unfolding along
along_none from [] m h = refl
along_none from (name ∷ names) m h = absurd (omega (arith, h))

pub along_last : (from i : ℕ) (name : List ℕ) (path rest : Path) (m later : WrittenScope) → path ≡ name ∷ rest → length rest ≡ 0 → add_alias (alias.Export sort.Ty from name) m ≡ (later, i) → along from path m ≡ (later, i)
unfolding along
along_last from i name path rest m later is e h = rw is (last rest e)
  where
    last : (rest : Path) → length rest ≡ 0 → along from (name ∷ rest) m ≡ (later, i)
    last [] e = h
    last (next ∷ names) e = absurd (omega (arith, e))

pub along_more : (from inst i : ℕ) (name : List ℕ) (path rest : Path) (m next later : WrittenScope) → path ≡ name ∷ rest → ¬ (length rest ≡ 0) → add_instance from name m ≡ (next, inst) → along inst rest next ≡ (later, i) → along from path m ≡ (later, i)
unfolding along
along_more from inst i name path rest m next later is e h k = rw is (further rest e k)
  where
    further : (rest : Path) → ¬ (length rest ≡ 0) → along inst rest next ≡ (later, i) → along from (name ∷ rest) m ≡ (later, i)
    further [] e k = absurd (e refl)
    further (x ∷ names) e k = ap (λ (p : WrittenScope × ℕ). along p.1 (x ∷ names) p.0) h ∙ k

pub rest_is : (path : Path) → take (length path - 1) (drop 1 path) ≡ drop 1 path
rest_is [] = take_all 0 [] (omega arith)
rest_is (x ∷ xs) = take_all (suc (length xs) - 1) xs (omega arith)

pub rest_named : (path : Path) → All (λ name. 0 < length name) path → All (λ name. 0 < length name) (drop 1 path)
rest_named [] named = named
rest_named (x ∷ xs) named = λ k d lt. named (suc k) d (omega (arith, lt))

pub scopes_push : (os : List Open) (o outermost : Open) → scopes_in (os ++ o ∷ []) outermost ≡ scope_of o ∷ scopes_in os outermost
scopes_push os o outermost = ap (λ ms. ms ++ scope_of outermost ∷ []) (ap reverse (map_push scope_of os o) ∙ reverse-append (map scope_of os) (scope_of o ∷ []))

pub on_top_is : (f : WrittenScope → WrittenScope × ℕ) (m : WrittenScope) (ms : List WrittenScope) → on_top f (m ∷ ms) ≡ Some ((f m).0 ∷ ms, (f m).1)
unfolding on_top
on_top_is f m ms = refl

-- the innermost scope, which was taken out and put back, changed
pub top_changed : (f : WrittenScope → WrittenScope × ℕ) (old rest new : List Open) (o later outermost : Open) (i : ℕ) → old ≡ rest ++ o ∷ [] → new ≡ rest ++ later ∷ [] → f (scope_of o) ≡ (scope_of later, i)
    → on_top f (scopes_in old outermost) ≡ Some (scopes_in new outermost, i)
unfolding on_top
top_changed f old rest new o later outermost i was is h =
    rw (was, is, scopes_push rest o outermost, scopes_push rest later outermost) (ap (λ (x : WrittenScope × ℕ). Some (x.0 ∷ scopes_in rest outermost, x.1)) h)

-- the outermost scope, where no other is open
pub outermost_changed : (f : WrittenScope → WrittenScope × ℕ) (old new : List Open) (o later : Open) (i : ℕ) → old ≡ [] → new ≡ [] → f (scope_of o) ≡ (scope_of later, i) → on_top f (scopes_in old o) ≡ Some (scopes_in new later, i)
unfolding on_top
outermost_changed f old new o later i was is h = rw (was, is) (ap (λ (x : WrittenScope × ℕ). Some (x.0 ∷ [], x.1)) h)

pub no_items : {X : Type 0} (xs : List X) → length xs ≡ 0 → xs ≡ []
no_items [] h = refl
no_items (x ∷ xs) h = absurd cc

stood_here : (m later : WrittenScope) (ms : List WrittenScope) (further : Wrote (ℕ × ℕ)) (at : Option At) (i : ℕ) → Some (later, i) ≡ option_map (λ at. index_in at m) at → stood m ms further at ≡ Some (later ∷ ms, (0, i))
stood_here m later ms further None i h = absurd cc
stood_here m later ms further (Some at) i h = ap (λ (x : Option (WrittenScope × ℕ)). option_map (λ x. (x.0 ∷ ms, (0, x.1))) x) (sym h)

pub stand_here : (key : Mention) (m later : WrittenScope) (ms : List WrittenScope) (i : ℕ) → Some (later, i) ≡ option_map (λ at. index_in at m) (known_at m.known key) → standing (m ∷ ms) key ≡ Some (later ∷ ms, (0, i))
unfolding standing
stand_here key m later ms i h = stood_here m later ms (option_and_then (standing ms) (mention_outside m.width key)) (known_at m.known key) i h

stood_further : (m : WrittenScope) (ms next : List WrittenScope) (further : Wrote (ℕ × ℕ)) (at : Option At) (up i : ℕ) → None ≡ option_map (λ at. index_in at m) at → further ≡ Some (next, (up, i)) → stood m ms further at ≡ Some (m ∷ next, (suc up, i))
stood_further m ms next further None up i h there = ap (option_map (λ x. (m ∷ x.0, (suc x.1.0, x.1.1)))) there
stood_further m ms next further (Some at) up i h there = absurd cc

pub stand_further : (key outer : Mention) (m : WrittenScope) (ms next : List WrittenScope) (up i : ℕ) → None ≡ option_map (λ at. index_in at m) (known_at m.known key) → Some outer ≡ mention_outside m.width key
    → standing ms outer ≡ Some (next, (up, i)) → standing (m ∷ ms) key ≡ Some (m ∷ next, (suc up, i))
unfolding standing
stand_further key outer m ms next up i h is there =
    stood_further m ms next (option_and_then (standing ms) (mention_outside m.width key)) (known_at m.known key) up i h (ap (option_and_then (standing ms)) (sym is) ∙ there)

pub index_here : (key : Mention) (ms next : List WrittenScope) (up i : ℕ) → up ≡ 0 → standing ms key ≡ Some (next, (up, i)) → type_index key ms ≡ Some (next, i)
unfolding type_index brought
index_here key ms next up i z h = ap (option_and_then (λ x. brought x.0 x.1.0 x.1.1)) (h ∙ ap (λ n. Some (next, (n, i))) z)

pub index_brought : (key : Mention) (ms next last : List WrittenScope) (up i j : ℕ) → ¬ (up ≡ 0) → standing ms key ≡ Some (next, (up, i)) → on_top (add_alias (alias.Outer sort.Ty up i)) next ≡ Some (last, j) → type_index key ms ≡ Some (last, j)
unfolding type_index brought
index_brought key ms next last zero i j z h there = absurd (z refl)
index_brought key ms next last (suc up) i j z h there = ap (option_and_then (λ x. brought x.0 x.1.0 x.1.1)) h ∙ there

pub stand_outermost : (old new : List Open) (o later : Open) (key : Mention) (i : ℕ) → old ≡ [] → new ≡ [] → Some (scope_of later, i) ≡ option_map (λ at. index_in at (scope_of o)) (known_at o.known key)
    → standing (scopes_in old o) key ≡ Some (scopes_in new later, (0, i))
stand_outermost old new o later key i was is h = rw (was, is) (stand_here key (scope_of o) (scope_of later) [] i h)

pub stand_in : (old rest new : List Open) (o later outermost : Open) (key : Mention) (i : ℕ) → old ≡ rest ++ o ∷ [] → new ≡ rest ++ later ∷ []
    → Some (scope_of later, i) ≡ option_map (λ at. index_in at (scope_of o)) (known_at o.known key) → standing (scopes_in old outermost) key ≡ Some (scopes_in new outermost, (0, i))
stand_in old rest new o later outermost key i was is h = rw (was, is, scopes_push rest o outermost, scopes_push rest later outermost) (stand_here key (scope_of o) (scope_of later) (scopes_in rest outermost) i h)

pub stand_around : (old rest further new : List Open) (o later outermost next : Open) (key outer : Mention) (up i : ℕ) → old ≡ rest ++ o ∷ [] → new ≡ further ++ later ∷ [] → scope_of later ≡ scope_of o
    → None ≡ option_map (λ at. index_in at (scope_of o)) (known_at o.known key) → Some outer ≡ mention_outside later.width key
    → standing (scopes_in rest outermost) outer ≡ Some (scopes_in further next, (up, i)) → standing (scopes_in old outermost) key ≡ Some (scopes_in new next, (suc up, i))
stand_around old rest further new o later outermost next key outer up i was is same h out there =
    rw (was, is, scopes_push rest o outermost, scopes_push further later next, same) (stand_further key outer (scope_of o) (scopes_in rest outermost) (scopes_in further next) up i h (out ∙ ap (λ (m : WrittenScope). mention_outside m.width key) same) there)

pub closed_in : (old rest : List Open) (o outermost : Open) → old ≡ rest ++ o ∷ [] → closed (scopes_in old outermost) ≡ Some (scopes_in rest outermost, declared o.declared.body)
unfolding closed
closed_in old rest o outermost was = rw (was, scopes_push rest o outermost) refl

-- one thing more is known
pub known_more : (width : ℕ) (d : Declared) (old new : KnownThings) (key : Mention) (at : At) → new ≡ (if is_some (known_at old key) then old else old ++ (key, at) ∷ []) → with_names width new d ≡ with_known key at (with_names width old d)
known_more width d old new key at is = ap (λ k. with_names width k d) is ∙ one (is_some (known_at old key))
  where
    one : (b : Bool) → with_names width (if b then old else old ++ (key, at) ∷ []) d ≡ (if b then with_names width old d else with_names width (old ++ (key, at) ∷ []) d)
    one true = refl
    one false = refl

pub top_noted : (f : WrittenScope → WrittenScope) (old rest new : List Open) (o later outermost : Open) → old ≡ rest ++ o ∷ [] → new ≡ rest ++ later ∷ [] → scope_of later ≡ f (scope_of o) → scopes_in new outermost ≡ change_top f (scopes_in old outermost)
unfolding change_top
top_noted f old rest new o later outermost was is h = rw (was, is, scopes_push rest o outermost, scopes_push rest later outermost) (ap (λ m. m ∷ scopes_in rest outermost) h)

pub outermost_noted : (f : WrittenScope → WrittenScope) (old new : List Open) (o later : Open) → old ≡ [] → new ≡ [] → scope_of later ≡ f (scope_of o) → scopes_in new later ≡ change_top f (scopes_in old o)
unfolding change_top
outermost_noted f old new o later was is h = rw (was, is) (ap (λ m. m ∷ []) h)

-- ---- what is known

none_further : (width : ℕ) (key : Mention) → from_within width (knows []) key ≡ false
unfolding knows
none_further width key = one (mention_outside width key)
  where
    one : (m : Option Mention) → holds_there (λ k. false) m ≡ false
    one None = refl
    one (Some k) = refl

or_false : (a b : Bool) → b ≡ false → (a || b) ≡ a
or_false true b e = refl
or_false false b e = e

pub knows_outermost : (inner : List Open) (o : Open) (key : Mention) → length inner < 1 → knows (scopes_in inner o) key ≡ is_some (known_at o.known key)
unfolding knows
knows_outermost [] o key lt = or_false (is_some (known_at o.known key)) (from_within o.width (knows []) key) (none_further o.width key)
knows_outermost (x ∷ xs) o key lt = absurd (omega (arith, lt))

knows_inner : (inner rest : List Open) (o outermost : Open) (key : Mention) → inner ≡ rest ++ o ∷ [] → knows (scopes_in inner outermost) key ≡ (is_some (known_at o.known key) || from_within o.width (knows (scopes_in rest outermost)) key)
unfolding knows
knows_inner inner rest o outermost key is = rw (is, scopes_push rest o outermost) refl

pub last_cut : (xs : List Open) (d : Open) → 1 ≤ length xs → d ≡ get_or xs (length xs - 1) d → xs ≡ take (length xs - 1) xs ++ d ∷ []
last_cut xs d some is =
    sym (take_all (length xs - 1 + 1) xs (omega (arith, some))) ∙ take_more xs (length xs - 1) d (omega (arith, some)) ∙ ap (λ z. take (length xs - 1) xs ++ z ∷ []) (sym is)

pub knows_here : (inner rest : List Open) (o outermost : Open) (key : Mention) → inner ≡ rest ++ o ∷ [] → is_some (known_at o.known key) ≡ true → true ≡ knows (scopes_in inner outermost) key
knows_here inner rest o outermost key cut e = sym (knows_inner inner rest o outermost key cut ∙ ap (λ b. b || from_within o.width (knows (scopes_in rest outermost)) key) e)

pub knows_further : (inner rest : List Open) (o outermost : Open) (key further : Mention) → inner ≡ rest ++ o ∷ [] → is_some (known_at o.known key) ≡ false → Some further ≡ mention_outside o.width key → knows (scopes_in rest outermost) further ≡ knows (scopes_in inner outermost) key
knows_further inner rest o outermost key further cut e out = sym (knows_inner inner rest o outermost key cut ∙ ap (λ b. b || from_within o.width (knows (scopes_in rest outermost)) key) e ∙ ap (holds_there (knows (scopes_in rest outermost))) (sym out))

pub knows_nowhere : (inner rest : List Open) (o outermost : Open) (key : Mention) → inner ≡ rest ++ o ∷ [] → is_some (known_at o.known key) ≡ false → None ≡ mention_outside o.width key → false ≡ knows (scopes_in inner outermost) key
knows_nowhere inner rest o outermost key cut e out = sym (knows_inner inner rest o outermost key cut ∙ ap (λ b. b || from_within o.width (knows (scopes_in rest outermost)) key) e ∙ ap (holds_there (knows (scopes_in rest outermost))) (sym out))

-- ---- the end of a path

pub end_empty : (from : ℕ) (path : Path) → length path ≡ 0 → Index from ≡ at_end from path
end_empty from [] e = refl
end_empty from (name ∷ names) e = absurd (omega (arith, e))

pub end_path : (from : ℕ) (path : Path) → ¬ (length path ≡ 0) → InInstance from path ≡ at_end from path
end_path from [] e = absurd (e refl)
end_path from (name ∷ names) e = refl
