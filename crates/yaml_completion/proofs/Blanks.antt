-- Endings outside flows: nothing, a key that is missing, or a scalar without text.
use Rattle.std.proofs.Common.{◌≡◌, ℕ, ◌+◌, List, [], ◌∷◌, length, Bool, true, false, ◌&&◌, eqb, ltb, Option, Some, None, Ok, refl, ap, ◌∙◌, inl}
use Rattle.yaml_small.specs.declared.event.Style.TheVariants as styles
use Rattle.yaml_small.specs.declared.state.Mode.TheVariants.{Root, Item, Key, Value, Done}
use Rattle.yaml_small.specs.declared.state.Frame.{Frame}
use Rattle.yaml_small.specs.Trees.{Scalar, scalar_event}
use Rattle.yaml_small.specs.Places.{next_at, at_dash}
use Rattle.yaml_small.specs.Scalars.{quoted_at, scalar_token_at, key_at, is_key}
use Rattle.yaml_small.specs.Step.{transition, settled, missing_transition, inline_at, node_at, below, item_at, under, value_at, explicit_at, key_transition, key_step, step_at}
use Rattle.yaml_small.specs.GrowthLaws.{the_end}
use Rattle.yaml_small.specs.MarkLaws.{and_false}
use Rattle.yaml_small.specs.RunLaws.{state}
use Rattle.yaml_completion.proofs.Along.{if_false}
use Rattle.yaml_completion.proofs.Contents.{place, next_end}
use Rattle.yaml_completion.proofs.Frames.{in_flow, nested}
use Rattle.yaml_completion.proofs.Endings.{Ending, before, done_ending}

-- a missing node at the text's end
below_end : (d : ℕ) (parent : Option ℕ) → below d parent the_end ≡ Ok (missing_transition the_end)
unfolding below
below_end d None = refl
below_end d (Some col) = if_false (ltb col 0 && false) _ _ (and_false (ltb col 0))

pub at_end : (k : List Frame) (g : Bool) → in_flow false k ≡ false → nested false k ≡ true → Ending (state (Done g) k the_end)
at_end k g out nest = done_ending (length k) k refl nest the_end g (record { either = inl (out, refl) })

pub at_item : (k : List Frame) (col n : ℕ) → in_flow false k ≡ false → nested false k ≡ true → Ending (state (Item col) k (place n [] []))
unfolding step_at item_at
at_item k col n out nest = before (Item col) k (place n [] []) (missing_transition the_end) (ap (below (length k) (Some col)) next_end ∙ below_end (length k) (Some col)) (at_end k false out nest)

pub at_value : (k : List Frame) (col n : ℕ) → in_flow false k ≡ false → nested false k ≡ true → Ending (state (Value col) k (place n [] []))
unfolding step_at value_at under
at_value k col n out nest =
    before (Value col) k (place n [] []) (missing_transition the_end)
    (ap (under (length k) col) next_end ∙ if_false (at_dash col the_end) _ _ (and_false (eqb 0 col)) ∙ below_end (length k) (Some col)) (at_end k false out nest)

pub at_explicit : (k : List Frame) (n : ℕ) → in_flow false k ≡ false → nested false k ≡ true → Ending (state (Root true) k (place n [] []))
unfolding step_at explicit_at
at_explicit k n out nest = before (Root true) k (place n [] []) (missing_transition the_end) (ap (below (length k) None) next_end ∙ below_end (length k) None) (at_end k false out nest)

-- a scalar without text
abbrev empty_scalar : Scalar
empty_scalar = record { text = []; style = styles.SingleQuoted }

pub at_node : (k : List Frame) (n : ℕ) → in_flow false k ≡ false → nested false k ≡ true → Ending (state (Root false) k (place n (39 ∷ 39 ∷ []) []))
unfolding step_at node_at key_at scalar_token_at quoted_at inline_at settled next_at
at_node k n out nest =
    before (Root false) k (place n (39 ∷ 39 ∷ []) []) (transition (scalar_event empty_scalar) the_end (Done false) (missing_transition the_end).change) refl (at_end k false out nest)

-- a key without text
pub key_there : (n : ℕ) → is_key (place n (39 ∷ 39 ∷ 58 ∷ []) []) ≡ true
unfolding key_at scalar_token_at quoted_at
key_there n = refl

pub at_key : (k : List Frame) (n : ℕ) → in_flow false k ≡ false → nested false k ≡ true → Ending (state Key k (place n (39 ∷ 39 ∷ 58 ∷ []) []))
unfolding step_at key_step key_at scalar_token_at quoted_at
at_key k n out nest =
    before Key k (place n (39 ∷ 39 ∷ 58 ∷ []) []) (key_transition n (record { scalar = empty_scalar; end = place (n + 2 + 0 + 1) [] [] })) refl (at_value k n (n + 2 + 0 + 1) out nest)
