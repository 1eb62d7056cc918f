-- What is written before something is written too, where that is.
use Rattle.std.proofs.Common.{◌≡◌, ℕ, suc, List, [], ◌∷◌, ◌++◌, Option, Some, None, refl, sym, ap, subst, ◌∙◌, arith}
use Rattle.std.specs.Prelude.{IsSome, option_map, option_and_then}
use Rattle.comp_entity.specs.Names.{Mention}
use Rattle.compose_writing.specs.Keys.{At, known_at, mention_outside}
use Rattle.compose_writing.specs.Scopes.{WrittenScope, Wrote, index_in, stood, standing, type_index}
use Rattle.compose_types.specs.Largest.{IsWithin, standing_size, written_size}
use Rattle.compose_types.specs.Scopes.{State, scope_of, scopes, scopes_in}
use Rattle.compose_types.specs.declared.open.Open.{Open}
use Rattle.compose_types.proofs.LargestLaws.{index_refused, none_known, stand_around_refused}
use Rattle.compose_types.proofs.ScopeLaws.{scopes_push}

-- A step is one of those behind which something is written: each number that is within what it writes is within that.
pub written_before : {X Y : Type 0} (size : X → ℕ) (later : Y → ℕ) (v : Option X) (w : Option Y) → ((n : ℕ) → IsWithin n size v → IsWithin n later w) → IsSome w → IsSome v
written_before size later (Some x) w h some = refl
written_before size later None None h some = absurd cc
written_before size later None (Some y) h some =
    let more = (h (suc (later y)) (record { within = tt })).within in
    absurd (omega (arith, more))

-- ---- what some scope knows

nothing : {X : Type 0} (w : Option X) → w ≡ None → IsSome w → ⊥
nothing None none some = absurd cc
nothing (Some x) none some = absurd cc

nothing_around : (outer : Option Mention) → option_and_then (standing []) outer ≡ None
unfolding standing
nothing_around None = refl
nothing_around (Some key) = refl

stood_nowhere : (m : WrittenScope) (ms : List WrittenScope) (further : Wrote (ℕ × ℕ)) (at : Option At) → at ≡ None → further ≡ None → stood m ms further at ≡ None
stood_nowhere m ms further at none end = rw (none, end) refl

-- the outermost scope, where no other is open
pub known_alone : (s : State) (old : List Open) (o : Open) (key : Mention) → (o, old) ≡ s → old ≡ [] → None ≡ option_map (λ at. index_in at (scope_of o)) (known_at o.known key) → IsSome (standing (scopes s) key) → ⊥
unfolding standing
known_alone s old o key is none here some =
    nothing (standing (scopes s) key)
    (ap (λ (s : State). standing (scopes s) key) (sym is) ∙ ap (λ xs. standing (scopes_in xs o) key) none
    ∙ stood_nowhere (scope_of o) [] (option_and_then (standing []) (mention_outside o.width key)) (known_at o.known key) (none_known (scope_of o) (known_at o.known key) here) (nothing_around (mention_outside o.width key)))
    some

-- a scope within others, where it is not known
pub known_around : (s : State) (old rest : List Open) (o later outermost : Open) (key : Mention) → (outermost, old) ≡ s → old ≡ rest ++ o ∷ [] → scope_of later ≡ scope_of o
    → None ≡ option_map (λ at. index_in at (scope_of o)) (known_at o.known key) → None ≡ mention_outside later.width key → IsSome (standing (scopes s) key) → ⊥
unfolding standing
known_around s old rest o later outermost key is was same here out some =
    let ms = scopes_in rest outermost in
    let there : None ≡ mention_outside o.width key = out ∙ ap (λ (m : WrittenScope). mention_outside m.width key) same in
    nothing (standing (scopes s) key)
    (ap (λ (s : State). standing (scopes s) key) (sym is) ∙ ap (λ xs. standing (scopes_in xs outermost) key) was ∙ ap (λ ms. standing ms key) (scopes_push rest o outermost)
    ∙ stood_nowhere (scope_of o) ms (option_and_then (standing ms) (mention_outside o.width key)) (known_at o.known key) (none_known (scope_of o) (known_at o.known key) here) (ap (option_and_then (standing ms)) (sym there)))
    some

pub known_further : (s : State) (old rest : List Open) (o later outermost : Open) (key outer : Mention) → (outermost, old) ≡ s → old ≡ rest ++ o ∷ [] → scope_of later ≡ scope_of o
    → None ≡ option_map (λ at. index_in at (scope_of o)) (known_at o.known key) → Some outer ≡ mention_outside later.width key → IsSome (standing (scopes s) key) → IsSome (standing (scopes_in rest outermost) outer)
known_further s old rest o later outermost key outer is was same here out some =
    written_before standing_size standing_size (standing (scopes_in rest outermost) outer) (standing (scopes s) key)
    (λ n h. subst (λ (s : State). IsWithin n standing_size (standing (scopes s) key)) is (stand_around_refused n old rest o later outermost key outer was same here out h))
    some

pub index_stands : (key : Mention) (ms : List WrittenScope) → IsSome (type_index key ms) → IsSome (standing ms key)
index_stands key ms some = written_before standing_size written_size (standing ms key) (type_index key ms) (λ n h. index_refused n key ms h) some
