-- A node that is no list: its scalar is scanned once, for a key and for itself.
use Rattle.std.proofs.Common.{◌≡◌, ℕ, Bool, true, false, Option, Some, None, Result, Ok, Err, refl, sym, ap, subst}
use Rattle.yaml_small.specs.declared.error.ScanError.{ScanError}
use Rattle.yaml_small.specs.declared.node.Step.{Step}
use Rattle.yaml_small.specs.Places.{At, over, begins, is_dash, is_colon}
use Rattle.yaml_small.specs.Scalars.{Fault, ScalarToken, begins_block, scalar_token_at, key_at}
use Rattle.yaml_small.specs.Step.{Transition, node_at, inline_at, list_start}
use Rattle.yaml_small.specs.ScalarTokens.{if_read}
use Rattle.yaml_small.specs.Steps.{step_view, key_or_scalar}
use Rattle.yaml_small.specs.Answers.{ScanGives}
use Rattle.yaml_small.specs.MarkLaws.{scalar_token_opener}

scanned : (depth : ℕ) (parent : Option ℕ) (a : At) (w : ScalarToken) → is_dash a.line ≡ false → scalar_token_at false a ≡ Ok w → node_at depth parent a ≡ key_or_scalar depth a w
unfolding node_at key_at inline_at
scanned depth parent a w other is =
    let opener = scalar_token_opener false a.col a.line a.later w is in
    from (is_colon (over w.end).line) refl opener.seq opener.map opener.block
  where
    from : (b : Bool) → is_colon (over w.end).line ≡ b → begins 91 a.line ≡ false → begins 123 a.line ≡ false → begins_block a.line ≡ false → node_at depth parent a ≡ key_or_scalar depth a w
    from true colon seq map block = rw (other, is, colon) refl
    from false colon seq map block = rw (other, is, colon, seq, map, block) refl

unscanned : (depth : ℕ) (parent : Option ℕ) (a : At) (fault : Fault) → is_dash a.line ≡ false → scalar_token_at false a ≡ Err fault → node_at depth parent a ≡ inline_at false depth parent a
unfolding node_at key_at
unscanned depth parent a fault other is = rw (other, is) refl

-- What a call gives for a list's start, for a scalar, or else for the line, is what it gives for the node.
pub list_node : (depth : ℕ) (parent : Option ℕ) (a : At) (result : Result Step ScanError) → is_dash a.line ≡ true → ScanGives step_view result (list_start depth a) → ScanGives step_view result (node_at depth parent a)
unfolding node_at
list_node depth parent a result is gives = rw is gives

token_is : (read : Result ScalarToken Fault) (w : ScalarToken) → Some w ≡ if_read read → read ≡ Ok w
token_is (Ok v) w is = ap (λ (o : Option ScalarToken). elim o as (λ (p : Option ScalarToken). Result ScalarToken Fault) [ None ↦ Ok v | Some x ↦ Ok x ]) (sym is)
token_is (Err fault) w is = absurd cc

no_token : (read : Result ScalarToken Fault) → None ≡ if_read read → (fault : Fault) × (read ≡ Err fault)
no_token (Ok w) is = absurd cc
no_token (Err fault) is = (fault, refl)

pub scalar_node : (depth : ℕ) (parent : Option ℕ) (a : At) (w : ScalarToken) (result : Result Step ScanError) → is_dash a.line ≡ false → Some w ≡ if_read (scalar_token_at false a)
    → ScanGives step_view result (key_or_scalar depth a w) → ScanGives step_view result (node_at depth parent a)
scalar_node depth parent a w result other is gives =
    subst (λ (r : Result Transition Fault). ScanGives step_view result r) (sym (scanned depth parent a w other (token_is (scalar_token_at false a) w is))) gives

pub other_node : (depth : ℕ) (parent : Option ℕ) (a : At) (result : Result Step ScanError) → is_dash a.line ≡ false → None ≡ if_read (scalar_token_at false a)
    → ScanGives step_view result (inline_at false depth parent a) → ScanGives step_view result (node_at depth parent a)
other_node depth parent a result other is gives =
    let read = no_token (scalar_token_at false a) is in
    subst (λ (r : Result Transition Fault). ScanGives step_view result r) (sym (unscanned depth parent a read.0 other read.1)) gives
