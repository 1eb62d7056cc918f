-- What was emitted so far can be completed.
use Rattle.std.proofs.Common.{◌≡◌, ℕ, List, [], ◌∷◌, ◌++◌, drop, Bool, true, false, not, ◌&&◌, ◌||◌, eqb, nat_eq, refl, sym, ap, ◌∙◌, subst, inl, inr}
use Rattle.std.specs.List.{starts_with}
use Rattle.std.proofs.lemmas.Bool.{cases_Bool}
use Rattle.yaml_scan.specs.Lines.{lines_of}
use Rattle.yaml_small.specs.declared.event.Event.{Event}
use Rattle.yaml_small.specs.declared.state.Mode.TheVariants.{Begin}
use Rattle.yaml_small.specs.Places.{At, next_at}
use Rattle.yaml_small.specs.Scalars.{NotCarried, open_fault}
use Rattle.yaml_small.specs.Grammar.{without_mark, first_at}
use Rattle.yaml_small.specs.Stream.{State, start, Runs}
use Rattle.yaml_small.specs.ScanLaws.{lines_of-open}
use Rattle.yaml_small.specs.MarkLaws.{and_false}
use Rattle.yaml_small.specs.RunLaws.{state}
use Rattle.yaml_small.specs.FoundTextLaws.{found}
use Rattle.yaml_completion.specs.Completion.{Completed}
use Rattle.yaml_completion.proofs.Along.{if_true, if_false, joined, Along, onward}
use Rattle.yaml_completion.proofs.Contents.{Ready, next_reads}
use Rattle.yaml_completion.proofs.Scans.{begins_low, is_low, low, three}
use Rattle.yaml_completion.proofs.Moves.{Consistent, is_tied}
use Rattle.yaml_completion.proofs.Frames.{in_flow}
use Rattle.yaml_completion.proofs.Backward.{consistent_run, Returns, returns, lasts}
use Rattle.yaml_completion.proofs.Endings.{Ending, closers}
use Rattle.yaml_completion.proofs.Completions.{ending, Finish, finish, last_finish}
use Rattle.yaml_completion.proofs.Texts.{no_feeds, text_of, text_start, lines_again, lines_feedless, tidy_place}
use Rattle.yaml_completion.proofs.Cuts.{divided}

-- one run, and then another
runs_on : (s : State) (es : List Event) (m : State) (fs : List Event) (z : State) → Runs s es m → Runs m fs z → Runs s (es ++ fs) z
runs_on s [] m fs z first then = subst (λ (x : State). Runs x fs z) (sym first) then
runs_on s (e ∷ es) m fs z (n, step, rest) then = (n, step, runs_on n es m fs z rest then)

abbrev marked : List ℕ → Bool
marked text = starts_with nat_eq text (239 ∷ 187 ∷ 191 ∷ [])

low_parts : (c : ℕ) → is_low c ≡ true → (eqb 239 c ≡ false) × (eqb 187 c ≡ false) × (eqb 191 c ≡ false)
low_parts c e = from (eqb 239 c) (eqb 187 c) (eqb 191 c) e
  where
    from : (a b d : Bool) → not (a || b || d) ≡ true → (a ≡ false) × (b ≡ false) × (d ≡ false)
    from true b d e = absurd cc
    from false true d e = absurd cc
    from false false true e = absurd cc
    from false false false e = (refl, refl, refl)

none_second : (a b : Bool) → a && (b && false) ≡ false
none_second true true = refl
none_second true false = refl
none_second false b = refl

-- no byte order mark comes of other text in place of the rest
unmarked : (front rest other : List ℕ) → low other ≡ true → marked (front ++ rest) ≡ false → marked (front ++ other) ≡ false
unmarked [] rest [] is old = refl
unmarked [] rest (c ∷ cs) is old = rw (low_parts c is).0 refl
unmarked (x ∷ []) rest [] is old = and_false (eqb 239 x)
unmarked (x ∷ []) rest (c ∷ cs) is old = rw (low_parts c is).1 (and_false (eqb 239 x))
unmarked (x ∷ y ∷ []) rest [] is old = none_second (eqb 239 x) (eqb 187 y)
unmarked (x ∷ y ∷ []) rest (c ∷ cs) is old = rw (low_parts c is).2 (none_second (eqb 239 x) (eqb 187 y))
unmarked (x ∷ y ∷ z ∷ front) rest other is old = old

-- the text in front of a place, with its byte order mark
record Fronted (text head rest other : List ℕ) : Type 0 where
  front : List ℕ
  text_is : text ≡ front ++ rest
  other_is : without_mark (front ++ other) ≡ head ++ other

fronted : (text head rest other : List ℕ) → without_mark text ≡ head ++ rest → low other ≡ true → Fronted text head rest other
fronted text head rest other e is =
    elim (cases_Bool (marked text)) [
      | inl mark ↦ record {
        front = 239 ∷ 187 ∷ 191 ∷ head;
        text_is = three 239 187 191 text mark ∙ ap (λ (x : List ℕ). 239 ∷ 187 ∷ 191 ∷ x) (sym (if_true (marked text) (drop 3 text) text mark) ∙ e);
        other_is = refl;
      }
      | inr none ↦
          let whole : text ≡ head ++ rest = sym (if_false (marked text) (drop 3 text) text none) ∙ e in
          record {
            front = head;
            text_is = whole;
            other_is = if_false (marked (head ++ other)) (drop 3 (head ++ other)) (head ++ other) (unmarked head rest other is (sym (ap marked whole) ∙ none));
          }
    ]

low_text : (line : List ℕ) (lines : List (List ℕ)) → low line ≡ true → low (text_of (line ∷ lines)) ≡ true
low_text [] [] is = refl
low_text [] (m ∷ lines) is = refl
low_text (c ∷ line) [] is = is
low_text (c ∷ line) (m ∷ lines) is = is

-- a document that begins so, which is emitted to the stream's end
document_of : (text : List ℕ) (es : List Event) (s : State) (rest other front : List ℕ) (at : At) (q : State) → text ≡ front ++ rest → lines_of rest ≡ s.at.line ∷ s.at.later → first_at (front ++ other) ≡ at
    → Runs (state Begin [] at) es q → Ending q → Completed text es s.at
document_of text es s rest other front at q text_is rest_is first runs end =
    let document = front ++ other in
    let begins : state Begin [] at ≡ start document = ap (λ (x : At). state Begin [] x) (sym first) in
    let emitted = runs_on (start document) es q end.events end.last (subst (λ (x : State). Runs x es q) begins runs) end.runs in
    let f = found document (es ++ end.events) (end.last, emitted, end.ended) in
    record {
      front = front;
      rest = rest;
      text_is = text_is;
      rest_is = rest_is;
      other = other;
      tree = f.tree;
      carried = f.carried;
      more = end.events;
      count = f.count;
      emitted = sym f.is;
    }

completed_lines : (text : List ℕ) (es : List Event) (s : State) (l : List ℕ) (ls : List (List ℕ)) → lines_of (without_mark text) ≡ l ∷ ls → Returns (start text) es s (Finish s.at) → Completed text es s.at
completed_lines text es s l ls some r =
    let q = r.runs Begin (inl refl) in
    let end = q.1.0 in
    let d = r.there in
    let n = next_reads l ls r.at (subst (λ (x : List (List ℕ)). Ready (next_at x) r.at) some r.fits) in
    let b = onward (l ∷ ls) n.reads.others (next_at (l ∷ ls)) s.at r.at d n.reads.same (subst (λ (x : List (List ℕ)). Along (next_at x) s.at r.at d) some r.along) in
    let clean : no_feeds (joined b.before b.front s.at) ≡ true = sym (ap no_feeds (some ∙ b.lines_are)) ∙ lines_feedless (without_mark text) in
    let tidy = end.tidy (tidy_place b.before b.front s.at clean) in
    let k = divided (without_mark text) b.before b.front s.at.line s.at.later (some ∙ b.lines_are) in
    let other = text_of (d.line ∷ d.later) in
    let lines : lines_of (k.head ++ other) ≡ n.reads.others = k.other other d.line d.later (text_start d.line d.later tidy) (lines_again d.line d.later tidy) ∙ sym b.others_are in
    let f = fronted text k.head k.rest other k.text_is (low_text d.line d.later end.lows) in
    document_of text es s k.rest other f.front r.at q.0 f.text_is k.rest_is (ap (λ (x : List ℕ). next_at (lines_of x)) f.other_is ∙ ap next_at lines ∙ n.reads.to) q.1.1 end.ending

completed_by : (text : List ℕ) (es : List Event) (s : State) → Returns (start text) es s (Finish s.at) → Completed text es s.at
completed_by text es s r = from (lines_of (without_mark text)) refl (lines_of-open (without_mark text))
  where
    from : (lines : List (List ℕ)) → lines_of (without_mark text) ≡ lines → open_fault lines ≡ NotCarried → Completed text es s.at
    from [] is some = absurd cc
    from (l ∷ ls) is some = completed_lines text es s l ls is r

consistent_start : (text : List ℕ) → Consistent Begin [] (first_at text)
consistent_start text = record { nest = refl; mode_matches = refl }

-- where what may stand there does not hang on what was read before
free_completed : (text : List ℕ) (es : List Event) (s : State) → Runs (start text) es s → is_tied s.mode (in_flow false s.frames) (begins_low s.at.line) ≡ false → Completed text es s.at
free_completed text es s runs free =
    let e = ending s.mode s.frames s.at free (consistent_run (start text) es s runs (consistent_start text)) in
    completed_by text es s (returns (start text) es s e.at (Finish s.at) runs (consistent_start text) e.fits (λ m same. finish s.mode m s.frames s.at e same))

-- and where it does
tied_completed : (text : List ℕ) (es : List Event) (s : State) → Runs (start text) es s → is_tied s.mode (in_flow false s.frames) (begins_low s.at.line) ≡ true → Completed text es s.at
tied_completed text [] s runs tie = absurd (no_start (subst (λ (x : State). is_tied x.mode (in_flow false x.frames) (begins_low x.at.line) ≡ true) (sym runs) tie))
  where
    no_start : false ≡ true → ⊥
    no_start e = absurd cc
tied_completed text (e ∷ es) s runs tie =
    let consistent = consistent_run (start text) (e ∷ es) s runs (consistent_start text) in
    completed_by text (e ∷ es) s
    (lasts (start text) e es s (Finish s.at) (closers s.frames) runs (consistent_start text) tie (λ there to n comes. last_finish s.mode n s.frames s.at there to (in_flow false s.frames) refl tie consistent comes))

pub completed : (text : List ℕ) (es : List Event) (s : State) → Runs (start text) es s → Completed text es s.at
completed text es s runs =
    elim (cases_Bool (is_tied s.mode (in_flow false s.frames) (begins_low s.at.line))) [ inl tie ↦ tied_completed text es s runs tie | inr free ↦ free_completed text es s runs free ]
