-- What single steps answer.
use Rattle.std.proofs.Common.{◌≡◌, ℕ, ◌<◌, List, [], ◌∷◌, ◌++◌, length, Bool, true, false, not, cond, ◌&&◌, eqb, Option, Some, Result, Ok, refl, sym, ap, ◌∙◌, subst}
use Rattle.std.proofs.lemmas.Bool.{lt-ltb, eqb-true}
use Rattle.warg_values.specs.Reading.{◌>>=◌}
use Rattle.yaml_small.specs.declared.event.Event.{Event}
use Rattle.yaml_small.specs.declared.event.Event.TheVariants.{SequenceStart, MappingStart}
use Rattle.yaml_small.specs.declared.state.Mode.{Mode}
use Rattle.yaml_small.specs.declared.state.Mode.TheVariants.{Item, Key, Value, Open, AfterKey, Done}
use Rattle.yaml_small.specs.declared.state.Frame.{Frame}
use Rattle.yaml_small.specs.declared.state.Frame.TheVariants.{InList, InMap, InSeq, InPairs}
use Rattle.yaml_small.specs.declared.state.Change.TheVariants.{Push}
use Rattle.yaml_small.specs.Trees.{tilde, scalar_event}
use Rattle.yaml_small.specs.Places.{At, past, flow_next, begins}
use Rattle.yaml_small.specs.Scalars.{Fault, ScalarToken, scalar_token_at, block_at, begins_block}
use Rattle.yaml_small.specs.Step.{Transition, transition, opened, scalar_token_transition, block_transition, missing_transition, inline_at, item_at, value_at, key_step, seq_entry, pairs_entry, open_at, after_key_at, seq_done, pairs_done, list_done, map_done, done_at, step_at}
use Rattle.yaml_small.specs.Stream.{State, Runs}
use Rattle.yaml_small.specs.MarkLaws.{NoOpener, IsHead, and_false}
use Rattle.yaml_small.specs.RunLaws.{From, state}

opened_ok : (d : ℕ) (e : Event) (a : At) (mode : Mode) (f : Frame) → d < 64 → opened d e a mode f ≡ Ok (transition e a mode (Push f))
unfolding opened
opened_ok d e a mode f lt = rw (lt-ltb d 64 lt) refl

-- a list or map that has room
pub pushes : (k : List Frame) (r : Result Transition Fault) (e : Event) (a : At) (mode : Mode) (f : Frame) (es : List Event) (z : State) → r ≡ opened (length k) e a mode f → length k < 64
    → Runs (state mode (k ++ (f ∷ [])) a) es z → From k r (e ∷ es) z
pushes k r e a mode f es z is lt rest = (transition e a mode (Push f), is ∙ opened_ok (length k) e a mode f lt, refl, rest)

-- a scalar that is missing
pub misses : (k : List Frame) (r : Result Transition Fault) (a : At) (es : List Event) (z : State) → r ≡ Ok (missing_transition a) → Runs (state (Done false) k a) es z → From k r (scalar_event tilde ∷ es) z
misses k r a es z is rest = (missing_transition a, is, refl, rest)

seq_chosen : (b : Bool) (x y : Result Transition Fault) → b ≡ true → cond b x y ≡ x
seq_chosen b x y e = rw e refl

map_chosen : (b c : Bool) (x y u : Result Transition Fault) → b ≡ false → c ≡ true → cond b x (cond c y u) ≡ y
map_chosen b c x y u e f = rw (e, f) refl

scalar_token_chosen : (b c fl d : Bool) (x y u v : Result Transition Fault) → b ≡ false → c ≡ false → d ≡ false → cond b x (cond c y (cond (not fl && d) u v)) ≡ v
scalar_token_chosen b c fl d x y u v e f h = rw (e, f, h, and_false (not fl)) refl

block_chosen : (b c d : Bool) (x y u v : Result Transition Fault) → b ≡ false → c ≡ false → d ≡ true → cond b x (cond c y (cond (not false && d) u v)) ≡ u
block_chosen b c d x y u v e f h = rw (e, f, h) refl

pub inline_seq : (fl : Bool) (d : ℕ) (parent : Option ℕ) (a : At) → begins 91 a.line ≡ true → inline_at fl d parent a ≡ opened d SequenceStart (past 1 a) Open (InSeq fl)
unfolding inline_at
inline_seq fl d parent a e = seq_chosen (begins 91 a.line) _ _ e

pub inline_map : (fl : Bool) (d : ℕ) (parent : Option ℕ) (a : At) → begins 91 a.line ≡ false → begins 123 a.line ≡ true → inline_at fl d parent a ≡ opened d MappingStart (past 1 a) Open (InPairs fl)
unfolding inline_at
inline_map fl d parent a e f = map_chosen (begins 91 a.line) (begins 123 a.line) _ _ _ e f

pub inline_scalar_token : (fl : Bool) (d : ℕ) (parent : Option ℕ) (a : At) (w : ScalarToken) → NoOpener a.line → scalar_token_at fl a ≡ Ok w → inline_at fl d parent a ≡ Ok (scalar_token_transition fl w)
unfolding inline_at
inline_scalar_token fl d parent a w o h =
    scalar_token_chosen (begins 91 a.line) (begins 123 a.line) fl (begins_block a.line) _ _ _ _ o.seq o.map o.block
    ∙ ap (λ (r : Result ScalarToken Fault). r >>= λ w. Ok (scalar_token_transition fl w)) h

pub inline_block : (d : ℕ) (parent : Option ℕ) (a : At) (w : ScalarToken) → IsHead a → begins_block a.line ≡ true → block_at parent a ≡ Ok w → inline_at false d parent a ≡ Ok (block_transition w)
unfolding inline_at
inline_block d parent a w o e h =
    block_chosen (begins 91 a.line) (begins 123 a.line) (begins_block a.line) _ _ _ _ o.seq o.map e
    ∙ ap (λ (r : Result ScalarToken Fault). r >>= λ w. Ok (block_transition w)) h

pub begins_other : (c d : ℕ) (line : List ℕ) → eqb c d ≡ false → begins c line ≡ true → begins d line ≡ false
begins_other c d [] e h = refl
begins_other c d (x ∷ xs) e h = rw (eqb-true x c h) e

-- what each mode looks for
pub at_open_seq : (d : ℕ) (fl : Bool) (a : At) → step_at Open (Some (InSeq fl)) d a ≡ seq_entry fl d (flow_next a)
unfolding step_at open_at
at_open_seq d fl a = refl

pub at_open_pairs : (d : ℕ) (fl : Bool) (a : At) → step_at Open (Some (InPairs fl)) d a ≡ pairs_entry fl (flow_next a)
unfolding step_at open_at
at_open_pairs d fl a = refl

pub at_done_seq : (d : ℕ) (g fl : Bool) (a : At) → step_at (Done g) (Some (InSeq fl)) d a ≡ seq_done fl d g (flow_next a)
unfolding step_at done_at
at_done_seq d g fl a = refl

pub at_done_pairs : (d : ℕ) (g fl : Bool) (a : At) → step_at (Done g) (Some (InPairs fl)) d a ≡ pairs_done fl g (flow_next a)
unfolding step_at done_at
at_done_pairs d g fl a = refl

pub at_after_key : (d : ℕ) (q g : Bool) (f : Option Frame) (a : At) → step_at (AfterKey q g) f d a ≡ after_key_at d q g a
unfolding step_at
at_after_key d q g f a = refl

pub at_item : (d col : ℕ) (f : Option Frame) (a : At) → step_at (Item col) f d a ≡ item_at d col a
unfolding step_at
at_item d col f a = refl

pub at_value : (d col : ℕ) (f : Option Frame) (a : At) → step_at (Value col) f d a ≡ value_at d col a
unfolding step_at
at_value d col f a = refl

pub at_key : (d : ℕ) (f : Option Frame) (a : At) → step_at Key f d a ≡ key_step a
unfolding step_at
at_key d f a = refl

pub at_done_list : (d col : ℕ) (g : Bool) (a : At) → step_at (Done g) (Some (InList col)) d a ≡ list_done d col g a
unfolding step_at done_at
at_done_list d col g a = refl

pub at_done_map : (d col : ℕ) (g : Bool) (a : At) → step_at (Done g) (Some (InMap col)) d a ≡ map_done col g a
unfolding step_at done_at
at_done_map d col g a = refl

-- a step, as another term has it
pub by : (k : List Frame) (r q : Result Transition Fault) (es : List Event) (z : State) → r ≡ q → From k q es z → From k r es z
by k r q es z e h = subst (λ (x : Result Transition Fault). From k x es z) (sym e) h
