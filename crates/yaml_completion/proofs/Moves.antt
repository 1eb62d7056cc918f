-- Steps to a place are the same where something else stands at that place.
use Rattle.std.proofs.Common.{◌≡◌, ℕ, List, Bool, true, false, not, ◌&&◌, cond, eqb, Result, Ok, Err, refl, sym, ap, ◌∙◌, subst, inl, inr}
use Rattle.std.proofs.lemmas.Bool.{cases_Bool}
use Rattle.warg_values.specs.Reading.{◌>>=◌}
use Rattle.yaml_scan.specs.Bytes.{is_gap, ends_mark}
use Rattle.yaml_scan.specs.Plain.{parts}
use Rattle.yaml_small.specs.declared.state.Mode.{Mode}
use Rattle.yaml_small.specs.declared.state.Mode.TheVariants.{Begin, Document, Root, Item, Key, Value, Open, AfterKey, Done, Trailing, Last, Ended}
use Rattle.yaml_small.specs.declared.state.Frame.{Frame}
use Rattle.yaml_small.specs.Places.{At, flow_next, begins, is_end, at_dashes}
use Rattle.yaml_small.specs.Scalars.{Fault, ScalarToken, scalar_token_at, is_key}
use Rattle.yaml_small.specs.Grammar.{closes_value, is_flow_colon, is_quoted}
use Rattle.yaml_small.specs.Step.{Transition, transition}
use Rattle.yaml_small.specs.Stream.{changed}
use Rattle.yaml_small.specs.GrowthLaws.{the_end, SameMode}
use Rattle.yaml_small.specs.FoundLaws.{transition_is}
use Rattle.yaml_small.specs.MarkLaws.{both}
use Rattle.yaml_completion.proofs.Along.{if_true, if_false, Along}
use Rattle.yaml_completion.proofs.Contents.{Instead, Ready, end_behind, Parting, comma_behind}
use Rattle.yaml_completion.proofs.Scans.{begins_low, Near}
use Rattle.yaml_completion.proofs.ScalarTokens.{ScalarTokenReads, scalar_token_reads}
use Rattle.yaml_completion.proofs.Blocks.{Next}
use Rattle.yaml_completion.proofs.Frames.{in_flow, in_pairs, nested}

-- behind a dash or a colon
pub record Gap (a d : At) : Type 0 where
  pub col : d.col ≡ a.col
  pub gap : is_gap a.line ≡ true → is_gap d.line ≡ true

-- behind three dashes
pub record BehindDashes (a d : At) : Type 0 where
  pub col : d.col ≡ a.col
  pub mark : ends_mark a.line ≡ true → ends_mark d.line ≡ true

-- where a key stands, and where a document begins without dashes
pub record Keyed (a d : At) : Type 0 where
  pub col : d.col ≡ a.col
  pub key : is_key d ≡ true

pub record Starts (a d : At) : Type 0 where
  pub instead : Instead a d
  pub dashes : at_dashes a ≡ false → at_dashes d ≡ false
  pub percent : begins 37 a.line ≡ false → begins 37 d.line ≡ false

-- behind a node of a flow, or a key, which is quoted where this is not strict
pub record Flowing (strict : Bool) (a d : At) : Type 0 where
  pub col : d.col ≡ a.col
  pub reads : (b : At) (w : ScalarToken) → scalar_token_at true b ≡ Ok w → w.end ≡ a → (strict ≡ false → is_quoted w.scalar ≡ true) → ScalarTokenReads true (scalar_token_at true) b w d
  pub closes : closes_value (flow_next a).line ≡ true → (closes_value (flow_next d).line ≡ true) × ((q : Bool) → is_flow_colon q (flow_next d).line ≡ false) × (parts true d.line ≡ parts true a.line)

strictly : (strict q : Bool) → (strict ≡ false → q ≡ true) → q ≡ false → strict ≡ true
strictly true q h plain = refl
strictly false q h plain = absurd (both q (h refl) plain)

pub reads_from : (strict : Bool) (a d : At) → d.col ≡ a.col → begins 39 d.line ≡ false → (strict ≡ true → Near true a.line d.line) → (strict ≡ true → ends_mark d.line ≡ ends_mark a.line) → (b : At) (w : ScalarToken) → scalar_token_at true b ≡ Ok w → w.end ≡ a → (strict ≡ false → is_quoted w.scalar ≡ true)
    → ScalarTokenReads true (scalar_token_at true) b w d
reads_from strict a d col free near mark b w e at quoted =
    scalar_token_reads true b w d e (col ∙ sym (ap (λ (x : At). x.col) at)) free
    (λ plain. subst (λ (x : At). Near true x.line d.line) (sym at) (near (strictly strict (is_quoted w.scalar) quoted plain)))
    (λ plain. mark (strictly strict (is_quoted w.scalar) quoted plain) ∙ ap (λ (x : At). ends_mark x.line) (sym at))

-- whether the scalar before is quoted is asked less
pub weaker : (strict : Bool) (a d : At) → Flowing true a d → Flowing strict a d
weaker strict a d f = record { col = f.col; reads = λ b w e at quoted. f.reads b w e at (λ none. absurd cc); closes = f.closes }

-- What may stand at a place instead, by what is looked for there, within a flow or not.
abbrev pub Fits : Bool → Mode → At → At → Type 0
Fits flow Begin a d = Ready a d
Fits flow Document a d = Ready a d
Fits flow (Root true) a d = BehindDashes a d
Fits flow (Root false) a d = Starts a d
Fits flow (Item col) a d = Gap a d
Fits flow Key a d = Keyed a d
Fits flow (Value col) a d = Gap a d
Fits flow Open a d = d.col ≡ a.col
Fits flow (AfterKey quoted continues) a d = Flowing (not quoted) a d
Fits true (Done continues) a d = Flowing true a d
Fits false (Done continues) a d = Next a d
Fits flow Trailing a d = ⊥
Fits flow Last a d = d ≡ the_end
Fits flow Ended a d = d ≡ the_end

-- What is open where this is looked for. Where a document's node is there is one, and behind a mark the line does not
-- begin.
abbrev pub ModeMatches : Mode → List Frame → At → Type 0
ModeMatches Begin k a = in_flow false k ≡ false
ModeMatches Document k a = in_flow false k ≡ false
ModeMatches (Root true) k a = (in_flow false k ≡ false) × (eqb a.col 0 ≡ false)
ModeMatches (Root false) k a = (in_flow false k ≡ false) × (is_end a ≡ false)
ModeMatches (Item col) k a = in_flow false k ≡ false
ModeMatches Key k a = in_flow false k ≡ false
ModeMatches (Value col) k a = (in_flow false k ≡ false) × (eqb a.col 0 ≡ false)
ModeMatches Open k a = in_flow false k ≡ true
ModeMatches (AfterKey quoted continues) k a = in_pairs false k ≡ true
ModeMatches (Done continues) k a = Unit {0}
ModeMatches Trailing k a = in_flow false k ≡ false
ModeMatches Last k a = Unit {0}
ModeMatches Ended k a = Unit {0}

pub record Consistent (m : Mode) (k : List Frame) (a : At) : Type 0 where
  pub nest : nested false k ≡ true
  pub mode_matches : ModeMatches m k a

-- What may stand there instead hangs on what was read before: behind a node where more stands on its line than may,
-- and within a flow before a high byte.
abbrev pub is_tied : Mode → Bool → Bool → Bool
is_tied Begin flow low = false
is_tied Document flow low = false
is_tied (Root dashes) flow low = false
is_tied (Item col) flow low = false
is_tied Key flow low = false
is_tied (Value col) flow low = false
is_tied Open flow low = false
is_tied (AfterKey quoted continues) flow low = not low
is_tied (Done continues) flow low = flow && not low
is_tied Trailing flow low = true
is_tied Last flow low = false
is_tied Ended flow low = false

abbrev pub tied : List Frame → Transition → Bool
tied k g = is_tied g.mode (in_flow false (changed g.change k)) (begins_low g.at.line)

-- What is to stand at the place that a step came to: something else that fits, or an end that the step chooses.
pub data Wanted (k : List Frame) (g : Transition) : Type 0 where
  other : (d : At) → Fits (in_flow false (changed g.change k)) g.mode g.at d → Wanted k g
  last : (rest : List ℕ) → tied k g ≡ true → Wanted k g

-- an end: outside flows nothing more, and within one a comma and what is to stand behind it
abbrev pub Lasts : Bool → Mode → List ℕ → At → At → Mode → Type 0
Lasts false m rest there to n = ((tab : Bool) × (there ≡ end_behind tab)) × (to ≡ the_end) × ((continues : Bool) × (n ≡ Done continues))
Lasts true m rest there to n = ((parting : Parting) × ((col : ℕ) × (there ≡ comma_behind parting col rest))) × (to ≡ there) × SameMode m n

-- what stands there, and where the step comes to then
abbrev pub Comes : (k : List Frame) (g : Transition) → Wanted k g → At → At → Mode → Type 0
Comes k g (other d fits) there to mode = (there ≡ d) × (to ≡ d) × SameMode g.mode mode
Comes k g (last rest is) there to mode = Lasts (in_flow false (changed g.change k)) g.mode rest there to mode

pub record Arrives (k : List Frame) (g : Transition) (want : Wanted k g) : Type 0 where
  pub there : At
  pub to : At
  pub mode : Mode
  pub comes : Comes k g want there to mode

-- a step to what stands there instead
pub record Moved (k : List Frame) (P : At → Type 0) (r : At → Result Transition Fault) (a : At) (g : Transition) (want : Wanted k g) : Type 0 where
  pub at : At
  pub like : P at
  pub arrives : Arrives k g want
  pub along : Along a g.at at arrives.there
  pub is : r at ≡ Ok (transition g.event arrives.to arrives.mode g.change)

-- Each step from here can be so moved, and what is open fits what it looks for.
pub record Moves (k : List Frame) (P : At → Type 0) (r : At → Result Transition Fault) (a : At) : Type 0 where
  pub move : (g : Transition) → r a ≡ Ok g → (want : Wanted k g) → Moved k P r a g want
  pub consistent : (g : Transition) → r a ≡ Ok g → Consistent g.mode (changed g.change k) g.at

pub moves_err : (k : List Frame) (P : At → Type 0) (f : At → Fault) (a : At) → Moves k P (λ c. Err (f c)) a
moves_err k P f a = record { move = λ g e. absurd cc; consistent = λ g e. absurd cc }

-- under a test
moves_here : (k : List Frame) (P : At → Type 0) (t : At → Bool) (x y : At → Result Transition Fault) (a : At) → t a ≡ true → Moves k (λ c. P c × (t c ≡ true)) x a → Moves k P (λ c. cond (t c) (x c) (y c)) a
moves_here k P t x y a is m = record {
  move = λ g e want.
      let n = m.move g (sym (if_true (t a) (x a) (y a) is) ∙ e) want in
      record { at = n.at; like = n.like.0; arrives = n.arrives; along = n.along; is = if_true (t n.at) (x n.at) (y n.at) n.like.1 ∙ n.is };
  consistent = λ g e. m.consistent g (sym (if_true (t a) (x a) (y a) is) ∙ e);
}

moves_there : (k : List Frame) (P : At → Type 0) (t : At → Bool) (x y : At → Result Transition Fault) (a : At) → t a ≡ false → Moves k (λ c. P c × (t c ≡ false)) y a → Moves k P (λ c. cond (t c) (x c) (y c)) a
moves_there k P t x y a is m = record {
  move = λ g e want.
      let n = m.move g (sym (if_false (t a) (x a) (y a) is) ∙ e) want in
      record { at = n.at; like = n.like.0; arrives = n.arrives; along = n.along; is = if_false (t n.at) (x n.at) (y n.at) n.like.1 ∙ n.is };
  consistent = λ g e. m.consistent g (sym (if_false (t a) (x a) (y a) is) ∙ e);
}

pub moves_if : (k : List Frame) (P : At → Type 0) (t : At → Bool) (x y : At → Result Transition Fault) (a : At)
    → (t a ≡ true → Moves k (λ c. P c × (t c ≡ true)) x a) → (t a ≡ false → Moves k (λ c. P c × (t c ≡ false)) y a) → Moves k P (λ c. cond (t c) (x c) (y c)) a
moves_if k P t x y a here there =
    elim (cases_Bool (t a)) [ inl is ↦ moves_here k P t x y a is (here is) | inr is ↦ moves_there k P t x y a is (there is) ]

pub moves_map : (k : List Frame) (P Q : At → Type 0) (r : At → Result Transition Fault) (a : At) → ((c : At) → P c → Q c) → Moves k P r a → Moves k Q r a
moves_map k P Q r a f m = record {
  move = λ g e want. let n = m.move g e want in record { at = n.at; like = f n.at n.like; arrives = n.arrives; along = n.along; is = n.is };
  consistent = m.consistent;
}

-- a step of which the event is there
pub record Back (P : At → Type 0) (h : At → Transition) (a d : At) : Type 0 where
  pub at : At
  pub like : P at
  pub along : Along a (h a).at at d
  pub mode : Mode
  pub same : SameMode (h a).mode mode
  pub is : h at ≡ transition (h a).event d mode (h a).change

-- and with an end
pub record EndBack (k : List Frame) (P : At → Type 0) (h : At → Transition) (a : At) (rest : List ℕ) : Type 0 where
  pub at : At
  pub like : P at
  pub there : At
  pub along : Along a (h a).at at there
  pub to : At
  pub mode : Mode
  pub comes : Lasts (in_flow false (changed (h a).change k)) (h a).mode rest there to mode
  pub is : h at ≡ transition (h a).event to mode (h a).change

ok_transition : Transition → Result Transition Fault
ok_transition g = Ok g

pub moves_ok : (k : List Frame) (P : At → Type 0) (h : At → Transition) (a : At) → ((d : At) → Fits (in_flow false (changed (h a).change k)) (h a).mode (h a).at d → Back P h a d) → ((rest : List ℕ) → tied k (h a) ≡ true → EndBack k P h a rest) → Consistent (h a).mode (changed (h a).change k) (h a).at
    → Moves k P (λ c. Ok (h c)) a
unfolding ok_transition
moves_ok k P h a back end_back consistent = record {
  move = λ g e. subst (λ (x : Transition). (want : Wanted k x) → Moved k P (λ c. Ok (h c)) a x want) (transition_is (h a) g e) moved;
  consistent = λ g e. subst (λ (x : Transition). Consistent x.mode (changed x.change k) x.at) (transition_is (h a) g e) consistent;
}
  where
    moved : (want : Wanted k (h a)) → Moved k P (λ c. Ok (h c)) a (h a) want
    moved (other d fits) =
        let b = back d fits in
        record { at = b.at; like = b.like; arrives = record { there = d; to = d; mode = b.mode; comes = (refl, refl, b.same) }; along = b.along; is = ap ok_transition b.is }
    moved (last rest is) =
        let b = end_back rest is in
        record { at = b.at; like = b.like; arrives = record { there = b.there; to = b.to; mode = b.mode; comes = b.comes }; along = b.along; is = ap ok_transition b.is }

-- a step that reads a scalar
pub record ReadBack (P : At → Type 0) (read : At → Result ScalarToken Fault) (f : At → ScalarToken → Transition) (a : At) (w : ScalarToken) (d : At) : Type 0 where
  pub at : At
  pub scalar_token : ScalarToken
  pub read_it : read at ≡ Ok scalar_token
  pub like : P at
  pub along : Along a (f a w).at at d
  pub mode : Mode
  pub same : SameMode (f a w).mode mode
  pub is : f at scalar_token ≡ transition (f a w).event d mode (f a w).change

-- and with an end
pub record ReadEndBack (k : List Frame) (P : At → Type 0) (read : At → Result ScalarToken Fault) (f : At → ScalarToken → Transition) (a : At) (w : ScalarToken) (rest : List ℕ) : Type 0 where
  pub at : At
  pub scalar_token : ScalarToken
  pub read_it : read at ≡ Ok scalar_token
  pub like : P at
  pub there : At
  pub along : Along a (f a w).at at there
  pub to : At
  pub mode : Mode
  pub comes : Lasts (in_flow false (changed (f a w).change k)) (f a w).mode rest there to mode
  pub is : f at scalar_token ≡ transition (f a w).event to mode (f a w).change

pub moves_read : (k : List Frame) (P : At → Type 0) (read : At → Result ScalarToken Fault) (f : At → ScalarToken → Transition) (a : At)
    → ((w : ScalarToken) → read a ≡ Ok w → (d : At) → Fits (in_flow false (changed (f a w).change k)) (f a w).mode (f a w).at d → ReadBack P read f a w d)
    → ((w : ScalarToken) → read a ≡ Ok w → (rest : List ℕ) → tied k (f a w) ≡ true → ReadEndBack k P read f a w rest)
    → ((w : ScalarToken) → read a ≡ Ok w → Consistent (f a w).mode (changed (f a w).change k) (f a w).at) → Moves k P (λ c. read c >>= λ w. Ok (f c w)) a
unfolding ok_transition
moves_read k P read f a back end_back consistent = from (read a) refl
  where
    moved : (w : ScalarToken) → read a ≡ Ok w → (want : Wanted k (f a w)) → Moved k P (λ c. read c >>= λ w. Ok (f c w)) a (f a w) want
    moved w is (other d fits) =
        let b = back w is d fits in
        record {
          at = b.at;
          like = b.like;
          arrives = record { there = d; to = d; mode = b.mode; comes = (refl, refl, b.same) };
          along = b.along;
          is = ap (λ (r : Result ScalarToken Fault). r >>= λ w. Ok (f b.at w)) b.read_it ∙ ap ok_transition b.is;
        }
    moved w is (last rest tie) =
        let b = end_back w is rest tie in
        record {
          at = b.at;
          like = b.like;
          arrives = record { there = b.there; to = b.to; mode = b.mode; comes = b.comes };
          along = b.along;
          is = ap (λ (r : Result ScalarToken Fault). r >>= λ w. Ok (f b.at w)) b.read_it ∙ ap ok_transition b.is;
        }

    from : (r : Result ScalarToken Fault) → read a ≡ r → Moves k P (λ c. read c >>= λ w. Ok (f c w)) a
    from (Err x) is = record {
      move = λ g e. absurd (none g (sym (ap (λ (r : Result ScalarToken Fault). r >>= λ w. Ok (f a w)) is) ∙ e));
      consistent = λ g e. absurd (none g (sym (ap (λ (r : Result ScalarToken Fault). r >>= λ w. Ok (f a w)) is) ∙ e));
    }
      where
        none : (g : Transition) → Err x ≡ ok_transition g → ⊥
        none g e = absurd cc
    from (Ok w) is =
        let to = λ (g : Transition) (e : (read a >>= λ w. Ok (f a w)) ≡ Ok g). transition_is (f a w) g (sym (ap (λ (r : Result ScalarToken Fault). r >>= λ w. Ok (f a w)) is) ∙ e) in
        record {
          move = λ g e. subst (λ (x : Transition). (want : Wanted k x) → Moved k P (λ c. read c >>= λ w. Ok (f c w)) a x want) (to g e) (moved w is);
          consistent = λ g e. subst (λ (x : Transition). Consistent x.mode (changed x.change k) x.at) (to g e) (consistent w is);
        }
