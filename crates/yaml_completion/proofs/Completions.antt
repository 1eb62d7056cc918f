-- Each state has an ending.
use Rattle.std.proofs.Common.{◌≡◌, ℕ, ◌+◌, List, [], ◌∷◌, ◌++◌, length, Bool, true, false, not, ◌&&◌, ◌==◌, Some, Ok, refl, sym, ap, ◌∙◌, subst, inl, inr, append-nil}
use Rattle.std.proofs.lemmas.Bool.{cases_Bool}
use Rattle.yaml_scan.specs.Bytes.{ends_mark}
use Rattle.yaml_scan.specs.Plain.{plain_len}
use Rattle.yaml_small.specs.declared.state.Mode.{Mode}
use Rattle.yaml_small.specs.declared.state.Mode.TheVariants.{Begin, Document, Root, Item, Key, Value, Open, AfterKey, Done, Trailing, Last, Ended}
use Rattle.yaml_small.specs.declared.state.Frame.{Frame}
use Rattle.yaml_small.specs.declared.state.Frame.TheVariants.{InList, InMap, InSeq, InPairs}
use Rattle.yaml_small.specs.Places.{At, past, flow_next}
use Rattle.yaml_small.specs.Grammar.{closes_value, is_flow_colon}
use Rattle.yaml_small.specs.Step.{missing_transition, seq_entry, pairs_entry, open_at, after_key_at, seq_done, pairs_done, done_at, step_at}
use Rattle.yaml_small.specs.Stream.{State}
use Rattle.yaml_small.specs.GrowthLaws.{the_end, SameMode}
use Rattle.yaml_small.specs.MarkLaws.{and_parts, and_false, both}
use Rattle.yaml_small.specs.RunLaws.{state}
use Rattle.yaml_completion.proofs.Final.{FinalAt, final_at, comma_next}
use Rattle.yaml_completion.proofs.ScalarTokens.{scalar_token_reads, plain_stops}
use Rattle.yaml_completion.proofs.Along.{if_true, if_false, is_solid}
use Rattle.yaml_completion.proofs.Contents.{place, end_behind, Parting, by_tab, by_line_end, by_nothing, comma_behind}
use Rattle.yaml_completion.proofs.Scans.{begins_low, low, Near}
use Rattle.yaml_completion.proofs.Frames.{is_flow, nested, in_flow, flow_push, nested_pop, innermost, pairs_flow}
use Rattle.yaml_completion.proofs.Moves.{Flowing, Fits, Consistent, is_tied, Lasts, weaker}
use Rattle.yaml_completion.proofs.Backward.{fits_out, fits_in}
use Rattle.yaml_completion.proofs.Endings.{Ending, before, over_here, at_last, at_document, at_begin, closer, closers, closers_push, flow_closer, solid_next, Closes, ClosesAt, closes_at, seq_last, pairs_last, done_ending}
use Rattle.yaml_completion.proofs.Blanks.{at_end, at_item, at_value, at_explicit, at_node, key_there, at_key}
use Rattle.yaml_completion.proofs.Texts.{no_feed, no_feeds}

-- what may stand at a place instead, and is emitted from there to the stream's end
pub record EndingAt (m : Mode) (k : List Frame) (a : At) : Type 0 where
  pub at : At
  pub fits : Fits (in_flow false k) m a at
  pub tidy : no_feeds (a.line ∷ a.later) ≡ true → no_feeds (at.line ∷ at.later) ≡ true
  pub lows : low at.line ≡ true
  pub run : (n : Mode) → SameMode m n → Ending (state n k at)

-- a mode that is the same, or the same but for what a plain scalar would do
for_done : (g : Bool) (n : Mode) (k : List Frame) (d : At) → SameMode (Done g) n → ((h : Bool) → Ending (state (Done h) k d)) → Ending (state n k d)
for_done g n k d same each =
    elim same [
      | inl is ↦ subst (λ (m : Mode). Ending (state m k d)) is (each g)
      | inr (inl (x, (h, (old, new)))) ↦ subst (λ (m : Mode). Ending (state m k d)) (sym new) (each h)
      | inr (inr (q, (x, (h, (old, new))))) ↦ absurd cc
    ]

for_after_key : (q g : Bool) (n : Mode) (k : List Frame) (d : At) → SameMode (AfterKey q g) n → ((h : Bool) → Ending (state (AfterKey q h) k d)) → Ending (state n k d)
for_after_key q g n k d same each =
    elim same [
      | inl is ↦ subst (λ (m : Mode). Ending (state m k d)) is (each g)
      | inr (inl (x, (h, (old, new)))) ↦ absurd cc
      | inr (inr (p, (x, (h, (old, new))))) ↦ let same_q : p ≡ q = cc in subst (λ (m : Mode). Ending (state m k d)) (sym new) (subst (λ (b : Bool). Ending (state (AfterKey b h) k d)) (sym same_q) (each h))
    ]

abbrev flagged : Mode → Bool
flagged Begin = false
flagged Document = false
flagged (Root b) = false
flagged (Item col) = false
flagged Key = false
flagged (Value col) = false
flagged Open = false
flagged (AfterKey q g) = true
flagged (Done g) = true
flagged Trailing = false
flagged Last = false
flagged Ended = false

for_one : (m n : Mode) (k : List Frame) (d : At) → flagged m ≡ false → SameMode m n → Ending (state m k d) → Ending (state n k d)
for_one m n k d one same e =
    elim same [
      | inl is ↦ subst (λ (m : Mode). Ending (state m k d)) is e
      | inr (inl (x, (h, (old, new)))) ↦ absurd (off (sym (ap flagged old) ∙ one))
      | inr (inr (q, (x, (h, (old, new))))) ↦ absurd (off (sym (ap flagged old) ∙ one))
    ]
  where
    off : true ≡ false → ⊥
    off e = absurd cc

closers_clean : (k : List Frame) → no_feed (closers k) ≡ true
closers_clean [] = refl
closers_clean (f ∷ k) = behind f (closers k) (closers_clean k)
  where
    one : (l : List ℕ) (x : ℕ) → no_feed (x ∷ []) ≡ true → no_feed l ≡ true → no_feed (l ++ (x ∷ [])) ≡ true
    one [] x e clean = e
    one (c ∷ l) x e clean = let p = and_parts (not (c == 10)) (no_feed l) clean in rw p.0 (one l x e p.1)

    behind : (f : Frame) (l : List ℕ) → no_feed l ≡ true → no_feed (l ++ closer f) ≡ true
    behind (InList col) l clean = ap no_feed (append-nil l) ∙ clean
    behind (InMap col) l clean = ap no_feed (append-nil l) ∙ clean
    behind (InSeq inner) l clean = one l 93 refl clean
    behind (InPairs inner) l clean = one l 125 refl clean

closers_low : (k : List Frame) → low (closers k) ≡ true
closers_low [] = refl
closers_low (f ∷ k) = behind f (closers k) (closers_low k)
  where
    behind : (f : Frame) (l : List ℕ) → low l ≡ true → low (l ++ closer f) ≡ true
    behind (InList col) [] is = refl
    behind (InMap col) [] is = refl
    behind (InSeq inner) [] is = refl
    behind (InPairs inner) [] is = refl
    behind f (c ∷ l) is = is

-- in a flow, before a comma and the closing brackets
comma_step : (h : Bool) (j : List Frame) (f : Frame) (a : At) (n : ℕ) → flow_next a ≡ place n (44 ∷ closers (j ++ (f ∷ []))) [] → is_flow f ≡ true → ClosesAt (Done h) j f a (place (n + 1) (closers (j ++ (f ∷ []))) [])
unfolding step_at done_at seq_done pairs_done
comma_step h j f a n to flow =
    let k = j ++ (f ∷ []) in
    let b = place n (44 ∷ closers k) [] in
    let on : flow_next (past 1 b) ≡ past 1 b = solid_next (past 1 b) (flow_closer k (flow_push false j f ∙ flow)) in
    record {
      seq = λ inner is.
          ap (λ (x : Frame). step_at (Done h) (Some x) (length k) a) is ∙ ap (seq_done inner (length k) h) to ∙ ap (seq_entry inner (length k)) on
          ∙ seq_last inner (length k) (past 1 b) (closers j) (closers_push j f ∙ ap (λ (x : Frame). closer x ++ closers j) is);
      pairs = λ inner is.
          ap (λ (x : Frame). step_at (Done h) (Some x) (length k) a) is ∙ ap (pairs_done inner h) to ∙ ap (pairs_entry inner) on
          ∙ pairs_last inner (past 1 b) (closers j) (closers_push j f ∙ ap (λ (x : Frame). closer x ++ closers j) is);
    }

more_closes : (j : List Frame) (f : Frame) → nested false (j ++ (f ∷ [])) ≡ true → Closes j
more_closes j f nest = done_ending (length j) j refl (nested_pop false j f nest).0

comma_ending : (h : Bool) (k : List Frame) (a : At) (n : ℕ) → flow_next a ≡ place n (44 ∷ closers k) [] → nested false k ≡ true → in_flow false k ≡ true → Ending (state (Done h) k a)
comma_ending h k a n to nest inside =
    elim ((innermost k).either) [
      | inl none ↦ absurd (off (sym (ap (in_flow false) none) ∙ inside))
      | inr (j, (f, is)) ↦
          let whole = sym (ap (nested false) is) ∙ nest in
          let flow = sym (flow_push false j f) ∙ sym (ap (in_flow false) is) ∙ inside in
          let there = to ∙ ap (λ (x : List Frame). place n (44 ∷ closers x) []) is in
          subst (λ (x : List Frame). Ending (state (Done h) x a)) (sym is)
          (closes_at (Done h) j f a (place (n + 1) (closers (j ++ (f ∷ []))) []) whole flow refl refl (comma_step h j f a n there flow) (more_closes j f whole))
    ]
  where
    off : false ≡ true → ⊥
    off e = absurd cc

-- behind a key, whose value is missing then
missing_step : (q h : Bool) (d : ℕ) (a : At) → is_flow_colon q (flow_next a).line ≡ false → closes_value (flow_next a).line ≡ true → after_key_at d q h a ≡ Ok (missing_transition a)
unfolding after_key_at
missing_step q h d a none closes = if_false (is_flow_colon q (flow_next a).line) _ _ none ∙ if_true (closes_value (flow_next a).line) _ _ closes

after_key_ending : (q h : Bool) (k : List Frame) (a : At) (n : ℕ) → flow_next a ≡ place n (44 ∷ closers k) [] → nested false k ≡ true → in_flow false k ≡ true → Ending (state (AfterKey q h) k a)
unfolding step_at
after_key_ending q h k a n to nest inside =
    before (AfterKey q h) k a (missing_transition a) (missing_step q h (length k) a (ap (λ (x : At). is_flow_colon q x.line) to) (ap (λ (x : At). closes_value x.line) to)) (comma_ending false k a n to nest inside)

final_flowing : (rest : List ℕ) (a : At) (x : FinalAt rest a) → Flowing true a x.at
final_flowing rest a x = record {
  col = x.same;
  reads = λ b w e at quoted.
      scalar_token_reads true b w x.at e (x.same ∙ sym (ap (λ (y : At). y.col) at)) x.free
      (λ plain. subst (λ (y : At). Near true y.line x.at.line) (sym at) (x.near (ap (λ (y : At). plain_len true false y.line) (sym at) ∙ plain_stops true b w e plain)))
      (λ plain. x.mark (ap (λ (y : At). plain_len true false y.line) (sym at) ∙ plain_stops true b w e plain) ∙ ap (λ (y : At). ends_mark y.line) (sym at));
  closes = λ is. (ap (λ (y : At). closes_value y.line) x.to, λ q. ap (λ (y : At). is_flow_colon q y.line) x.to, x.part);
}

final_done : (g : Bool) (k : List Frame) (a : At) → begins_low a.line ≡ true → nested false k ≡ true → in_flow false k ≡ true → EndingAt (Done g) k a
final_done g k a small nest inside =
    let x = final_at (closers k) a small in
    record {
      at = x.at;
      fits = fits_in (in_flow false k) g a x.at inside (final_flowing (closers k) a x);
      tidy = λ old. x.tidy (closers_clean k);
      lows = x.lows;
      run = λ n same. for_done g n k x.at same (λ h. comma_ending h k x.at x.col x.to nest inside);
    }

final_after_key : (q g : Bool) (k : List Frame) (a : At) → begins_low a.line ≡ true → nested false k ≡ true → in_flow false k ≡ true → EndingAt (AfterKey q g) k a
final_after_key q g k a small nest inside =
    let x = final_at (closers k) a small in
    record {
      at = x.at;
      fits = weaker (not q) a x.at (final_flowing (closers k) a x);
      tidy = λ old. x.tidy (closers_clean k);
      lows = x.lows;
      run = λ n same. for_after_key q g n k x.at same (λ h. after_key_ending q h k x.at x.col x.to nest inside);
    }

-- behind an opening bracket
open_step : (j : List Frame) (f : Frame) (c : At) → c.line ≡ closers (j ++ (f ∷ [])) → is_flow f ≡ true → ClosesAt Open j f c c
unfolding step_at open_at
open_step j f c line flow =
    let k = j ++ (f ∷ []) in
    let on : flow_next c ≡ c = solid_next c (ap is_solid line ∙ flow_closer k (flow_push false j f ∙ flow)) in
    record {
      seq = λ inner is. ap (λ (x : Frame). step_at Open (Some x) (length k) c) is ∙ ap (seq_entry inner (length k)) on ∙ seq_last inner (length k) c (closers j) (line ∙ closers_push j f ∙ ap (λ (x : Frame). closer x ++ closers j) is);
      pairs = λ inner is. ap (λ (x : Frame). step_at Open (Some x) (length k) c) is ∙ ap (pairs_entry inner) on ∙ pairs_last inner c (closers j) (line ∙ closers_push j f ∙ ap (λ (x : Frame). closer x ++ closers j) is);
    }

open_end : (j : List Frame) (f : Frame) (a : At) → nested false (j ++ (f ∷ [])) ≡ true → is_flow f ≡ true → EndingAt Open (j ++ (f ∷ [])) a
open_end j f a nest flow =
    let k = j ++ (f ∷ []) in
    let c = place a.col (closers k) [] in
    record {
      at = c;
      fits = refl;
      tidy = λ old. rw (closers_clean k) refl;
      lows = closers_low k;
      run = λ n same. for_one Open n k c refl same (closes_at Open j f c c nest flow refl refl (open_step j f c refl flow) (more_closes j f nest));
    }

-- outside flows
blank_end : (m : Mode) (k : List Frame) (a d : At) → flagged m ≡ false → Fits (in_flow false k) m a d → no_feeds (d.line ∷ d.later) ≡ true → low d.line ≡ true → Ending (state m k d) → EndingAt m k a
blank_end m k a d one fits clean first e = record { at = d; fits = fits; tidy = λ old. clean; lows = first; run = λ n same. for_one m n k d one same e }

done_end : (g : Bool) (k : List Frame) (a : At) → in_flow false k ≡ false → nested false k ≡ true → EndingAt (Done g) k a
done_end g k a out nest = record {
  at = the_end;
  fits = fits_out (in_flow false k) g a the_end out (record { either = inl refl });
  tidy = λ old. refl;
  lows = refl;
  run = λ n same. for_done g n k the_end same (λ h. at_end k h out nest);
}

low_there : (low : Bool) → not low ≡ false → low ≡ true
low_there true e = refl
low_there false e = absurd cc

-- What may stand at a place that is not tied does not hang on what was read before.
pub ending : (m : Mode) (k : List Frame) (a : At) → is_tied m (in_flow false k) (begins_low a.line) ≡ false → Consistent m k a → EndingAt m k a
ending Begin k a e consistent = blank_end Begin k a the_end refl (record { either = inl refl }) refl refl (at_begin k)
ending Document k a e consistent = blank_end Document k a the_end refl (record { either = inl refl }) refl refl (at_document k)
ending (Root true) k a e consistent = blank_end (Root true) k a (place a.col [] []) refl (record { col = refl; mark = λ mark. refl }) refl refl (at_explicit k a.col consistent.mode_matches.0 consistent.nest)
ending (Root false) k a e consistent =
    blank_end (Root false) k a (place a.col (39 ∷ 39 ∷ []) []) refl
    (record { instead = record { col = refl; some = consistent.mode_matches.1; other = refl }; dashes = λ none. and_false (a.col == 0); percent = λ none. refl }) refl refl (at_node k a.col consistent.mode_matches.0 consistent.nest)
ending (Item col) k a e consistent = blank_end (Item col) k a (place a.col [] []) refl (record { col = refl; gap = λ gap. refl }) refl refl (at_item k col a.col consistent.mode_matches consistent.nest)
ending Key k a e consistent = blank_end Key k a (place a.col (39 ∷ 39 ∷ 58 ∷ []) []) refl (record { col = refl; key = key_there a.col }) refl refl (at_key k a.col consistent.mode_matches consistent.nest)
ending (Value col) k a e consistent = blank_end (Value col) k a (place a.col [] []) refl (record { col = refl; gap = λ gap. refl }) refl refl (at_value k col a.col consistent.mode_matches.0 consistent.nest)
ending Open k a e consistent =
    elim ((innermost k).either) [
      | inl none ↦ absurd (off (sym (ap (in_flow false) none) ∙ consistent.mode_matches))
      | inr (j, (f, is)) ↦
          subst (λ (k : List Frame). EndingAt Open k a) (sym is) (open_end j f a (sym (ap (nested false) is) ∙ consistent.nest) (sym (flow_push false j f) ∙ sym (ap (in_flow false) is) ∙ consistent.mode_matches))
    ]
  where
    off : false ≡ true → ⊥
    off e = absurd cc
ending (AfterKey q g) k a e consistent = final_after_key q g k a (low_there (begins_low a.line) e) consistent.nest (pairs_flow k consistent.mode_matches)
ending (Done g) k a e consistent =
    elim (cases_Bool (in_flow false k)) [
      | inr out ↦ done_end g k a out consistent.nest
      | inl inside ↦ final_done g k a (low_there (begins_low a.line) (sym (ap (λ (b : Bool). b && not (begins_low a.line)) inside) ∙ e)) consistent.nest inside
    ]
ending Trailing k a e consistent = absurd cc
ending Last k a e consistent = blank_end Last k a the_end refl refl refl refl (at_last k)
ending Ended k a e consistent = blank_end Ended k a the_end refl refl refl refl (over_here k the_end)

-- what stands at a place instead, and a state that is emitted from there to the stream's end
pub record Finish (a there : At) (q : State) : Type 0 where
  pub tidy : no_feeds (a.line ∷ a.later) ≡ true → no_feeds (there.line ∷ there.later) ≡ true
  pub lows : low there.line ≡ true
  pub ending : Ending q

pub finish : (m n : Mode) (k : List Frame) (a : At) (e : EndingAt m k a) → SameMode m n → Finish a e.at (state n k e.at)
finish m n k a e same = record { tidy = e.tidy; lows = e.lows; ending = e.run n same }

-- outside flows, with nothing more
end_finish : (k : List Frame) (a : At) (tab continues : Bool) → in_flow false k ≡ false → nested false k ≡ true → Finish a (end_behind tab) (state (Done continues) k the_end)
end_finish k a true continues out nest = record { tidy = λ old. refl; lows = refl; ending = at_end k continues out nest }
end_finish k a false continues out nest = record { tidy = λ old. refl; lows = refl; ending = at_end k continues out nest }

-- within a flow, with a comma and the closing brackets
comma_finish : (m n : Mode) (k : List Frame) (a : At) (p : Parting) (col : ℕ) → is_tied m (in_flow false k) (begins_low a.line) ≡ true → SameMode m n → Consistent m k a → in_flow false k ≡ true → Finish a (comma_behind p col (closers k)) (state n k (comma_behind p col (closers k)))
comma_finish m n k a p col tie same consistent inside =
    let d = comma_behind p col (closers k) in
    let to = comma_next p col (closers k) in
    record {
      tidy = λ old. clean p;
      lows = first p;
      ending = from m n tie same consistent d to.0 to.1;
    }
  where
    clean : (p : Parting) → no_feeds ((comma_behind p col (closers k)).line ∷ (comma_behind p col (closers k)).later) ≡ true
    clean by_tab = rw (closers_clean k) refl
    clean by_line_end = rw (closers_clean k) refl
    clean by_nothing = rw (closers_clean k) refl

    first : (p : Parting) → low (comma_behind p col (closers k)).line ≡ true
    first by_tab = refl
    first by_line_end = refl
    first by_nothing = refl

    from : (m n : Mode) → is_tied m (in_flow false k) (begins_low a.line) ≡ true → SameMode m n → Consistent m k a → (d : At) (c : ℕ) → flow_next d ≡ place c (44 ∷ closers k) [] → Ending (state n k d)
    from Begin n tie same consistent d c to = absurd cc
    from Document n tie same consistent d c to = absurd cc
    from (Root b) n tie same consistent d c to = absurd cc
    from (Item i) n tie same consistent d c to = absurd cc
    from Key n tie same consistent d c to = absurd cc
    from (Value i) n tie same consistent d c to = absurd cc
    from Open n tie same consistent d c to = absurd cc
    from (AfterKey q g) n tie same consistent d c to = for_after_key q g n k d same (λ h. after_key_ending q h k d c to consistent.nest inside)
    from (Done g) n tie same consistent d c to = for_done g n k d same (λ h. comma_ending h k d c to consistent.nest inside)
    from Trailing n tie same consistent d c to = absurd (both (in_flow false k) inside consistent.mode_matches)
    from Last n tie same consistent d c to = absurd cc
    from Ended n tie same consistent d c to = absurd cc

-- The end that a step chooses is one.
pub last_finish : (m n : Mode) (k : List Frame) (a there to : At) (flow : Bool) → in_flow false k ≡ flow → is_tied m (in_flow false k) (begins_low a.line) ≡ true → Consistent m k a → Lasts flow m (closers k) there to n → Finish a there (state n k to)
last_finish m n k a there to false out tie consistent comes =
    subst (λ (x : At). Finish a x (state n k to)) (sym comes.0.1)
    (subst (λ (x : At). Finish a (end_behind comes.0.0) (state n k x)) (sym comes.1)
    (subst (λ (x : Mode). Finish a (end_behind comes.0.0) (state x k the_end)) (sym comes.2.1) (end_finish k a comes.0.0 comes.2.0 out consistent.nest)))
last_finish m n k a there to true inside tie consistent comes =
    subst (λ (x : At). Finish a there (state n k x)) (sym comes.1)
    (subst (λ (x : At). Finish a x (state n k x)) (sym comes.0.1.1) (comma_finish m n k a comes.0.0 comes.0.1.0 tie comes.2 consistent inside))
