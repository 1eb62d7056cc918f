-- A step that does not come to the text's end is the same whatever lines follow the text.
use Rattle.std.proofs.Common.{◌≡◌, ℕ, ◌⊎◌, List, [], ◌∷◌, ◌++◌, drop, map, length, Bool, true, false, cond, ◌&&◌, Option, Some, None, Result, Ok, Err, refl, sym, ap, ◌∙◌, subst, inl, inr, arith}
use Rattle.std.proofs.lemmas.Bool.{eqb-true}
use Rattle.std.proofs.lemmas.List.{drop_all}
use Rattle.warg_values.specs.Reading.{◌>>=◌}
use Rattle.yaml_scan.specs.Bytes.{spaces, whites, is_clean}
use Rattle.yaml_scan.specs.Lines.{is_passed, is_over, ends, is_white_line}
use Rattle.yaml_scan.specs.QuotedScan.{Found, Open, Bad}
use Rattle.yaml_scan.specs.Block.{indent_of, is_inside, block_lines, behind_block, all_clean, content, together, with_end, block_text}
use Rattle.yaml_small.specs.declared.event.Event.{Event}
use Rattle.yaml_small.specs.declared.event.Style.{Style}
use Rattle.yaml_small.specs.declared.state.Mode.{Mode}
use Rattle.yaml_small.specs.declared.state.Mode.TheVariants.{Begin, Document, Root, Item, Key, Value, Open as Opening, AfterKey, Done, Trailing, Last, Ended}
use Rattle.yaml_small.specs.declared.state.Change.{Change}
use Rattle.yaml_small.specs.declared.state.Change.TheVariants.{Keep}
use Rattle.yaml_small.specs.Trees.{scalar_event}
use Rattle.yaml_small.specs.Places.{At, over, next_at, flow_next, begins, is_colon}
use Rattle.yaml_small.specs.Scalars.{Fault, Form, NotCarried, TooDeep, Cut, ScalarToken, scalar_token, begins_at, plain_at, quoted_at, scalar_token_at, colon_behind, key_at, is_scalar_token, is_key, gathered, headed, folded_style, block_at}
use Rattle.yaml_small.specs.Step.{Transition, transition, settled, block_transition}

-- a place and a scalar with more lines behind them, and the text's end
abbrev pub grown : List (List ℕ) → At → At
grown more a = record { col = a.col; line = a.line; later = a.later ++ more }

abbrev pub grown_scalar_token : List (List ℕ) → ScalarToken → ScalarToken
grown_scalar_token more w = record { scalar = w.scalar; end = grown more w.end }

abbrev pub the_end : At
the_end = record { col = 0; line = []; later = [] }

-- the first content is the same, or there was none
pub record NextGrown (more lines : List (List ℕ)) : Type 0 where
  pub either : (next_at (lines ++ more) ≡ grown more (next_at lines)) ⊎ (next_at lines ≡ the_end)

passed : (more : List (List ℕ)) (b : Bool) (n n' c : At) → (n' ≡ grown more n) ⊎ (n ≡ the_end) → (cond b n' (grown more c) ≡ grown more (cond b n c)) ⊎ (cond b n c ≡ the_end)
passed more true n n' c h = h
passed more false n n' c h = inl refl

pub next_grown : (more lines : List (List ℕ)) → NextGrown more lines
unfolding next_at
next_grown more [] = record { either = inr refl }
next_grown more (line ∷ lines) =
    record { either = passed more (is_passed line) (next_at lines) (next_at (lines ++ more)) (record { col = spaces line; line = drop (spaces line) line; later = lines }) (next_grown more lines).either }

-- modes that differ at most in whether a plain scalar would go on
abbrev pub SameMode : Mode → Mode → Type 0
SameMode m n = (m ≡ n) ⊎ ((g : Bool) × ((h : Bool) × ((m ≡ Done g) × (n ≡ Done h)))) ⊎ ((q : Bool) × ((g : Bool) × ((h : Bool) × ((m ≡ AfterKey q g) × (n ≡ AfterKey q h)))))

pub record Alike (more : List (List ℕ)) (g h : Transition) : Type 0 where
  pub event : h.event ≡ g.event
  pub mode : SameMode g.mode h.mode
  pub change : h.change ≡ g.change
  pub at : h.at ≡ grown more g.at

abbrev pub Follows : List (List ℕ) → Result Transition Fault → Result Transition Fault → Type 0
Follows more (Ok g) (Ok h) = Alike more g h
Follows more (Ok g) (Err f) = ⊥
Follows more (Err f) (Ok h) = ⊥
Follows more (Err f) (Err e) = Unit {0}

-- where the text has ended
abbrev pub quiet : Mode → Bool
quiet Begin = true
quiet Document = true
quiet (Root b) = false
quiet (Item col) = false
quiet Key = false
quiet (Value col) = false
quiet Opening = false
quiet (AfterKey q g) = false
quiet (Done g) = true
quiet Trailing = false
quiet Last = true
quiet Ended = true

abbrev pub Over : Result Transition Fault → Type 0
Over (Ok g) = (g.at ≡ the_end) × (quiet g.mode ≡ true)
Over (Err Form) = ⊥
Over (Err NotCarried) = ⊥
Over (Err TooDeep) = ⊥
Over (Err Cut) = Unit {0}

-- the step with more lines is the same, or the step without them came to the text's end
pub record Grows (more : List (List ℕ)) (r q : Result Transition Fault) : Type 0 where
  pub either : Follows more r q ⊎ Over r

pub chosen : (more : List (List ℕ)) (b : Bool) (x y u v : Result Transition Fault) → Grows more x u → Grows more y v → Grows more (cond b x y) (cond b u v)
chosen more true x y u v p q = p
chosen more false x y u v p q = q

pub faults : (more : List (List ℕ)) (f e : Fault) → Grows more (Err f) (Err e)
faults more f e = record { either = inl tt }

pub continues : (more : List (List ℕ)) (e : Event) (a : At) (m n : Mode) (c : Change) → SameMode m n → Grows more (Ok (transition e a m c)) (Ok (transition e (grown more a) n c))
continues more e a m n c same = record { either = inl (record { event = refl; mode = same; change = refl; at = refl }) }

-- the same at the first content of lines, and at the next token of a flow
pub at_next : (more lines : List (List ℕ)) (r q : At → Result Transition Fault) → ((a : At) → Grows more (r a) (q (grown more a))) → Over (r the_end) → Grows more (r (next_at lines)) (q (next_at (lines ++ more)))
at_next more lines r q each end =
    elim ((next_grown more lines).either) [
      | inl same ↦ subst (λ (x : At). Grows more (r (next_at lines)) (q x)) (sym same) (each (next_at lines))
      | inr none ↦ record { either = inr (subst (λ (x : At). Over (r x)) (sym none) end) }
    ]

pub at_token : (more : List (List ℕ)) (a : At) (r q : At → Result Transition Fault) → ((b : At) → Grows more (r b) (q (grown more b))) → Over (r the_end) → Grows more (r (flow_next a)) (q (flow_next (grown more a)))
unfolding flow_next
at_token more a r q each end = either (ends a.line)
  where
    either : (b : Bool) → Grows more (r (over (cond b (next_at a.later) a))) (q (over (cond b (next_at (a.later ++ more)) (grown more a))))
    either true = at_next more a.later (λ x. r (over x)) (λ x. q (over x)) (λ b. each (over b)) end
    either false = each (over a)

pub settles : (more : List (List ℕ)) (fl g h : Bool) (e : Event) (c : Change) (a : At) → Grows more (Ok (settled fl g e c a)) (Ok (settled fl h e c (grown more a)))
unfolding settled
settles more true g h e c a = continues more e a (Done g) (Done h) c (inr (inl (g, (h, (refl, refl)))))
settles more false g h e c a = either (ends a.line)
  where
    either : (b : Bool) → Grows more (Ok (cond b (transition e (next_at a.later) (Done g) c) (transition e (over a) Trailing c))) (Ok (cond b (transition e (next_at (a.later ++ more)) (Done h) c) (transition e (over (grown more a)) Trailing c)))
    either true = at_next more a.later (λ x. Ok (transition e x (Done g) c)) (λ x. Ok (transition e x (Done h) c)) (λ b. continues more e b (Done g) (Done h) c (inr (inl (g, (h, (refl, refl)))))) (refl, refl)
    either false = continues more e (over a) Trailing Trailing c (inl refl)

-- scalars on one line
abbrev pub ScalarTokenFollows : List (List ℕ) → Result ScalarToken Fault → Result ScalarToken Fault → Type 0
ScalarTokenFollows more (Ok w) (Ok v) = v ≡ grown_scalar_token more w
ScalarTokenFollows more (Ok w) (Err f) = ⊥
ScalarTokenFollows more (Err f) (Ok v) = ⊥
ScalarTokenFollows more (Err f) (Err e) = Unit {0}

pub record ScalarTokenGrows (more : List (List ℕ)) (r q : Result ScalarToken Fault) : Type 0 where
  pub same : ScalarTokenFollows more r q

scalar_token_chosen : (more : List (List ℕ)) (b : Bool) (x y u v : Result ScalarToken Fault) → ScalarTokenGrows more x u → ScalarTokenGrows more y v → ScalarTokenGrows more (cond b x y) (cond b u v)
scalar_token_chosen more true x y u v p q = p
scalar_token_chosen more false x y u v p q = q

plain_grown : (more : List (List ℕ)) (fl : Bool) (a : At) → ScalarTokenGrows more (plain_at fl a) (plain_at fl (grown more a))
unfolding plain_at
plain_grown more fl a = scalar_token_chosen more (begins_at fl a) _ _ _ _ (record { same = refl }) (record { same = tt })

quoted_grown : (more : List (List ℕ)) (style : Style) (a : At) (found : Found) → ScalarTokenGrows more (quoted_at style a found) (quoted_at style (grown more a) found)
unfolding quoted_at
quoted_grown more style a (Ok found) = record { same = refl }
quoted_grown more style a (Err Open) = record { same = tt }
quoted_grown more style a (Err Bad) = record { same = tt }

pub scalar_token_grown : (more : List (List ℕ)) (fl : Bool) (a : At) → ScalarTokenGrows more (scalar_token_at fl a) (scalar_token_at fl (grown more a))
unfolding scalar_token_at
scalar_token_grown more fl a =
    scalar_token_chosen more (begins 39 a.line) _ _ _ _ (quoted_grown more _ a _) (scalar_token_chosen more (begins 34 a.line) _ _ _ _ (quoted_grown more _ a _) (plain_grown more fl a))

bound_grown : (more : List (List ℕ)) (r q : Result ScalarToken Fault) (f : ScalarToken → Result ScalarToken Fault) → ((w : ScalarToken) → ScalarTokenGrows more (f w) (f (grown_scalar_token more w))) → ScalarTokenGrows more r q → ScalarTokenGrows more (r >>= f) (q >>= f)
bound_grown more (Ok w) (Ok v) f each h = subst (λ (x : ScalarToken). ScalarTokenGrows more (f w) (f x)) (sym h.same) (each w)
bound_grown more (Ok w) (Err e) f each h = absurd h.same
bound_grown more (Err e) (Ok v) f each h = absurd h.same
bound_grown more (Err e) (Err x) f each h = record { same = tt }

colon_grown : (more : List (List ℕ)) (w : ScalarToken) → ScalarTokenGrows more (colon_behind w) (colon_behind (grown_scalar_token more w))
colon_grown more w = scalar_token_chosen more (is_colon (over w.end).line) _ _ _ _ (record { same = refl }) (record { same = tt })

pub key_grown : (more : List (List ℕ)) (a : At) → ScalarTokenGrows more (key_at a) (key_at (grown more a))
unfolding key_at
key_grown more a = bound_grown more (scalar_token_at false a) (scalar_token_at false (grown more a)) colon_behind (colon_grown more) (scalar_token_grown more false a)

scalar_token_same : (more : List (List ℕ)) (r q : Result ScalarToken Fault) → ScalarTokenGrows more r q → is_scalar_token q ≡ is_scalar_token r
scalar_token_same more (Ok w) (Ok v) h = refl
scalar_token_same more (Ok w) (Err e) h = absurd h.same
scalar_token_same more (Err e) (Ok v) h = absurd h.same
scalar_token_same more (Err e) (Err x) h = refl

pub same_key : (more : List (List ℕ)) (a : At) → is_key (grown more a) ≡ is_key a
same_key more a = scalar_token_same more (key_at a) (key_at (grown more a)) (key_grown more a)

pub reads : (more : List (List ℕ)) (r q : Result ScalarToken Fault) (f h : ScalarToken → Transition) → ((w : ScalarToken) → Grows more (Ok (f w)) (Ok (h (grown_scalar_token more w)))) → ScalarTokenGrows more r q → Grows more (r >>= λ w. Ok (f w)) (q >>= λ w. Ok (h w))
reads more (Ok w) (Ok v) f h each g = subst (λ (x : ScalarToken). Grows more (Ok (f w)) (Ok (h x))) (sym g.same) (each w)
reads more (Ok w) (Err e) f h each g = absurd g.same
reads more (Err e) (Ok v) f h each g = absurd g.same
reads more (Err e) (Err x) f h each g = faults more e x

-- block scalars
abbrev pub BlockFollows : List (List ℕ) → Result ScalarToken Fault → Result ScalarToken Fault → Type 0
BlockFollows more (Ok w) (Ok v) = (v ≡ grown_scalar_token more w) ⊎ (w.end ≡ the_end)
BlockFollows more (Ok w) (Err f) = w.end ≡ the_end
BlockFollows more (Err f) (Ok v) = ⊥
BlockFollows more (Err f) (Err e) = Unit {0}

pub record BlockGrows (more : List (List ℕ)) (r q : Result ScalarToken Fault) : Type 0 where
  pub same : BlockFollows more r q

block_chosen : (more : List (List ℕ)) (b : Bool) (x y u v : Result ScalarToken Fault) → BlockGrows more x u → BlockGrows more y v → BlockGrows more (cond b x y) (cond b u v)
block_chosen more true x y u v p q = p
block_chosen more false x y u v p q = q

over_ends : (more : List (List ℕ)) (w : ScalarToken) (q : Result ScalarToken Fault) → w.end ≡ the_end → BlockGrows more (Ok w) q
over_ends more w (Ok v) e = record { same = inr e }
over_ends more w (Err f) e = record { same = e }

white_passed : (line : List ℕ) → is_white_line line ≡ true → is_passed line ≡ true
white_passed line e =
    let all : whites line ≡ length line = eqb-true (whites line) (length line) e in
    ap is_over (drop_all (whites line) line (omega arith))

record IndentGrown (parent : Option ℕ) (more lines : List (List ℕ)) : Type 0 where
  either : (indent_of parent (lines ++ more) ≡ indent_of parent lines) ⊎ ((indent_of parent lines ≡ None) × (next_at lines ≡ the_end))

indent_passed : (parent : Option ℕ) (more lines : List (List ℕ)) (line : List ℕ) (b : Bool) (x : Option ℕ) → is_white_line line ≡ b → IndentGrown parent more lines
    → (cond b (indent_of parent (lines ++ more)) x ≡ cond b (indent_of parent lines) x) ⊎ ((cond b (indent_of parent lines) x ≡ None) × (next_at (line ∷ lines) ≡ the_end))
unfolding next_at
indent_passed parent more lines line true x white h =
    elim h.either [ inl same ↦ inl same | inr (none, end) ↦ inr (none, rw (white_passed line white) end) ]
indent_passed parent more lines line false x white h = inl refl

indent_grown : (parent : Option ℕ) (more lines : List (List ℕ)) → IndentGrown parent more lines
unfolding next_at
indent_grown parent more [] = record { either = inr (refl, refl) }
indent_grown parent more (line ∷ lines) = record { either = indent_passed parent more lines line (is_white_line line) _ refl (indent_grown parent more lines) }

record LinesGrown (indent : ℕ) (more lines : List (List ℕ)) : Type 0 where
  either : ((block_lines indent (lines ++ more) ≡ block_lines indent lines) × (behind_block indent (lines ++ more) ≡ behind_block indent lines ++ more)) ⊎ (behind_block indent lines ≡ [])

lines_passed : (indent : ℕ) (more lines : List (List ℕ)) (line : List ℕ) (b : Bool) → LinesGrown indent more lines
    → ((cond b (line ∷ block_lines indent (lines ++ more)) [] ≡ cond b (line ∷ block_lines indent lines) [])
    × (cond b (behind_block indent (lines ++ more)) (line ∷ (lines ++ more)) ≡ cond b (behind_block indent lines) (line ∷ lines) ++ more))
    ⊎ (cond b (behind_block indent lines) (line ∷ lines) ≡ [])
lines_passed indent more lines line true h =
    elim h.either [ inl (same, rest) ↦ inl (ap (λ (x : List (List ℕ)). line ∷ x) same, rest) | inr none ↦ inr none ]
lines_passed indent more lines line false h = inl (refl, refl)

lines_grown : (indent : ℕ) (more lines : List (List ℕ)) → LinesGrown indent more lines
lines_grown indent more [] = record { either = inr refl }
lines_grown indent more (line ∷ lines) = record { either = lines_passed indent more lines line (is_inside indent line) (lines_grown indent more lines) }

-- a line that is not clean stays so
unclean_line : (line : List ℕ) (b : Bool) (x y : List (List ℕ)) → (all_clean x ≡ false → all_clean y ≡ false) → all_clean (cond b (line ∷ x) []) ≡ false → all_clean (cond b (line ∷ y) []) ≡ false
unclean_line line true x y h e = behind (is_clean line) e
  where
    behind : (c : Bool) → c && all_clean x ≡ false → c && all_clean y ≡ false
    behind true e = h e
    behind false e = refl
unclean_line line false x y h e = absurd cc

unclean : (indent : ℕ) (more lines : List (List ℕ)) → all_clean (block_lines indent lines) ≡ false → all_clean (block_lines indent (lines ++ more)) ≡ false
unclean indent more [] e = absurd cc
unclean indent more (line ∷ lines) e = unclean_line line (is_inside indent line) (block_lines indent lines) (block_lines indent (lines ++ more)) (unclean indent more lines) e

content_grown : (more lines : List (List ℕ)) (text : List ℕ) (style : Style) → BlockGrows more (Ok (scalar_token text style (next_at lines))) (Ok (scalar_token text style (next_at (lines ++ more))))
content_grown more lines text style =
    elim ((next_grown more lines).either) [
      | inl same ↦ record { same = inl (ap (scalar_token text style) same) }
      | inr none ↦ record { same = inr none }
    ]

-- Where the block ends with the text, its lines may go on.
open_block : (more lines : List (List ℕ)) (folded strip : Bool) (indent : ℕ) (b : Bool) (q : Result ScalarToken Fault) → all_clean (block_lines indent lines) ≡ b → behind_block indent lines ≡ []
    → q ≡ cond (all_clean (block_lines indent (lines ++ more))) (Ok (scalar_token (block_text folded strip indent (lines ++ more)) (folded_style folded) (next_at (behind_block indent (lines ++ more))))) (Err Form)
    → BlockGrows more (cond b (Ok (scalar_token (block_text folded strip indent lines) (folded_style folded) (next_at (behind_block indent lines)))) (Err Form)) q
unfolding next_at
open_block more lines folded strip indent true q clean none is = over_ends more _ q (ap next_at none)
open_block more lines folded strip indent false q clean none is =
    subst (λ (x : Result ScalarToken Fault). BlockGrows more (Err Form) x) (sym (is ∙ ap (λ (b : Bool). cond b (Ok (scalar_token (block_text folded strip indent (lines ++ more)) (folded_style folded) (next_at (behind_block indent (lines ++ more))))) (Err Form)) (unclean indent more lines clean)))
    (record { same = tt })

gathered_grown : (more lines : List (List ℕ)) (folded strip : Bool) (indent : Option ℕ) → BlockGrows more (gathered folded strip indent lines) (gathered folded strip indent (lines ++ more))
gathered_grown more lines folded strip None = content_grown more lines [] (folded_style folded)
gathered_grown more lines folded strip (Some indent) =
    elim ((lines_grown indent more lines).either) [
      | inl (same, rest) ↦ closed_block same rest
      | inr none ↦ open_block more lines folded strip indent (all_clean (block_lines indent lines)) _ refl none refl
    ]
  where
    closed_block : block_lines indent (lines ++ more) ≡ block_lines indent lines → behind_block indent (lines ++ more) ≡ behind_block indent lines ++ more
        → BlockGrows more (gathered folded strip (Some indent) lines) (gathered folded strip (Some indent) (lines ++ more))
    closed_block same rest =
        let r = gathered folded strip (Some indent) lines in
        let text = λ (ls : List (List ℕ)). with_end strip (together folded false 0 (map (content indent) ls)) in
        let q = λ (ls bs : List (List ℕ)). cond (all_clean ls) (Ok (scalar_token (text ls) (folded_style folded) (next_at bs))) (Err Form) in
        subst (λ (ls : List (List ℕ)). BlockGrows more r (q ls (behind_block indent (lines ++ more)))) (sym same)
        (subst (λ (bs : List (List ℕ)). BlockGrows more r (q (block_lines indent lines) bs)) (sym rest)
        (block_chosen more (all_clean (block_lines indent lines)) _ _ _ _ (content_grown more (behind_block indent lines) (text (block_lines indent lines)) (folded_style folded)) (record { same = tt })))

indented_grown : (more lines : List (List ℕ)) (folded strip : Bool) (parent : Option ℕ) → BlockGrows more (gathered folded strip (indent_of parent lines) lines) (gathered folded strip (indent_of parent (lines ++ more)) (lines ++ more))
indented_grown more lines folded strip parent =
    elim ((indent_grown parent more lines).either) [
      | inl same ↦ subst (λ (i : Option ℕ). BlockGrows more (gathered folded strip (indent_of parent lines) lines) (gathered folded strip i (lines ++ more))) (sym same) (gathered_grown more lines folded strip (indent_of parent lines))
      | inr (none, end) ↦ subst (λ (i : Option ℕ). BlockGrows more (gathered folded strip i lines) (gathered folded strip (indent_of parent (lines ++ more)) (lines ++ more))) (sym none) (over_ends more _ _ end)
    ]

headed_grown : (more lines : List (List ℕ)) (folded strip : Bool) (parent : Option ℕ) (line : List ℕ) → BlockGrows more (headed folded strip parent line lines) (headed folded strip parent line (lines ++ more))
headed_grown more lines folded strip parent line = block_chosen more (ends line) _ _ _ _ (indented_grown more lines folded strip parent) (record { same = tt })

pub block_grown : (more : List (List ℕ)) (parent : Option ℕ) (a : At) → BlockGrows more (block_at parent a) (block_at parent (grown more a))
unfolding block_at
block_grown more parent a = block_chosen more (begins 45 (drop 1 a.line)) _ _ _ _ (headed_grown more a.later (begins 62 a.line) true parent (drop 1 (drop 1 a.line))) (headed_grown more a.later (begins 62 a.line) false parent (drop 1 a.line))

pub block_reads : (more : List (List ℕ)) (r q : Result ScalarToken Fault) → BlockGrows more r q → Grows more (r >>= λ w. Ok (block_transition w)) (q >>= λ w. Ok (block_transition w))
block_reads more (Ok w) (Ok v) h =
    elim h.same [
      | inl same ↦ subst (λ (x : ScalarToken). Grows more (Ok (block_transition w)) (Ok (block_transition x))) (sym same) (continues more (scalar_event w.scalar) w.end (Done false) (Done false) Keep (inl refl))
      | inr end ↦ record { either = inr (end, refl) }
    ]
block_reads more (Ok w) (Err f) h = record { either = inr (h.same, refl) }
block_reads more (Err f) (Ok v) h = absurd h.same
block_reads more (Err f) (Err e) h = faults more f e
