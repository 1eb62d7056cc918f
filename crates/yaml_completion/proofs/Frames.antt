-- How open lists and maps lie in one another.
use Rattle.std.proofs.Common.{◌≡◌, ◌⊎◌, List, [], ◌∷◌, ◌++◌, Bool, true, false, not, ◌&&◌, refl, sym, ap, ◌∙◌, inl, inr}
use Rattle.yaml_small.specs.declared.state.Frame.{Frame}
use Rattle.yaml_small.specs.declared.state.Frame.TheVariants.{InList, InMap, InSeq, InPairs}
use Rattle.yaml_small.specs.MarkLaws.{and_parts}

abbrev pub is_flow : Frame → Bool
is_flow (InList col) = false
is_flow (InMap col) = false
is_flow (InSeq inner) = true
is_flow (InPairs inner) = true

abbrev pub is_pairs : Frame → Bool
is_pairs (InList col) = false
is_pairs (InMap col) = false
is_pairs (InSeq inner) = false
is_pairs (InPairs inner) = true

abbrev pub agree : Bool → Bool → Bool
agree true b = b
agree false b = not b

-- one that lies in a flow or not: a block lies in none, and a flow says whether it does
abbrev pub sits : Bool → Frame → Bool
sits flow (InList col) = not flow
sits flow (InMap col) = not flow
sits flow (InSeq inner) = agree inner flow
sits flow (InPairs inner) = agree inner flow

abbrev pub nested : Bool → List Frame → Bool
nested flow [] = true
nested flow (f ∷ k) = sits flow f && nested (is_flow f) k

-- whether the innermost is a flow, or a flow map
abbrev pub in_flow : Bool → List Frame → Bool
in_flow flow [] = flow
in_flow flow (f ∷ k) = in_flow (is_flow f) k

abbrev pub in_pairs : Bool → List Frame → Bool
in_pairs pairs [] = pairs
in_pairs pairs (f ∷ k) = in_pairs (is_pairs f) k

pub flow_push : (o : Bool) (k : List Frame) (f : Frame) → in_flow o (k ++ (f ∷ [])) ≡ is_flow f
flow_push o [] f = refl
flow_push o (x ∷ k) f = flow_push (is_flow x) k f

pub pairs_push : (o : Bool) (k : List Frame) (f : Frame) → in_pairs o (k ++ (f ∷ [])) ≡ is_pairs f
pairs_push o [] f = refl
pairs_push o (x ∷ k) f = pairs_push (is_pairs x) k f

both_true : (a b : Bool) → a ≡ true → b ≡ true → a && b ≡ true
both_true a b p q = rw p q

pub nested_push : (o : Bool) (k : List Frame) (f : Frame) → nested o k ≡ true → sits (in_flow o k) f ≡ true → nested o (k ++ (f ∷ [])) ≡ true
nested_push o [] f n s = both_true (sits o f) true s refl
nested_push o (x ∷ k) f n s =
    let p = and_parts (sits o x) (nested (is_flow x) k) n in
    both_true (sits o x) (nested (is_flow x) (k ++ (f ∷ []))) p.0 (nested_push (is_flow x) k f p.1 s)

pub nested_pop : (o : Bool) (k : List Frame) (f : Frame) → nested o (k ++ (f ∷ [])) ≡ true → (nested o k ≡ true) × (sits (in_flow o k) f ≡ true)
nested_pop o [] f n = (refl, (and_parts (sits o f) true n).0)
nested_pop o (x ∷ k) f n =
    let p = and_parts (sits o x) (nested (is_flow x) (k ++ (f ∷ []))) n in
    let q = nested_pop (is_flow x) k f p.1 in
    (both_true (sits o x) (nested (is_flow x) k) p.0 q.0, q.1)

pub agreed : (a b : Bool) → agree a b ≡ true → b ≡ a
agreed true b e = e
agreed false true e = absurd cc
agreed false false e = refl

pub agrees : (a : Bool) → agree a a ≡ true
agrees true = refl
agrees false = refl

-- none, or an innermost one
pub record Innermost (k : List Frame) : Type 0 where
  pub either : (k ≡ []) ⊎ ((j : List Frame) × ((f : Frame) × (k ≡ j ++ (f ∷ []))))

pub innermost : (k : List Frame) → Innermost k
innermost [] = record { either = inl refl }
innermost (x ∷ k) =
    elim ((innermost k).either) [
      | inl none ↦ record { either = inr ([], (x, ap (λ (l : List Frame). x ∷ l) none)) }
      | inr (j, (f, is)) ↦ record { either = inr (x ∷ j, (f, ap (λ (l : List Frame). x ∷ l) is)) }
    ]

pub pairs_flow : (k : List Frame) → in_pairs false k ≡ true → in_flow false k ≡ true
pairs_flow k e =
    elim ((innermost k).either) [
      | inl none ↦ absurd (off (sym (ap (in_pairs false) none) ∙ e))
      | inr (j, (f, is)) ↦ ap (in_flow false) is ∙ flow_push false j f ∙ flows f (sym (pairs_push false j f) ∙ sym (ap (in_pairs false) is) ∙ e)
    ]
  where
    off : false ≡ true → ⊥
    off e = absurd cc

    flows : (f : Frame) → is_pairs f ≡ true → is_flow f ≡ true
    flows (InList col) e = absurd cc
    flows (InMap col) e = absurd cc
    flows (InSeq inner) e = absurd cc
    flows (InPairs inner) e = refl
