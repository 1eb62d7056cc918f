-- Single steps to a place where something else stands: scalars, and the starts and ends of lists and maps.
use Rattle.std.proofs.Common.{not, ◌≡◌, ℕ, ◌+◌, ◌⊎◌, ◌&&◌, List, [], ◌∷◌, ◌++◌, drop, Bool, true, false, cond, eqb, ltb, Option, Ok, refl, sym, ap, ◌∙◌, subst, inl, inr, append-nil}
use Rattle.std.proofs.lemmas.Bool.{cases_Bool, eqb-true}
use Rattle.warg_values.specs.Reading.{◌>>=◌}
use Rattle.yaml_scan.specs.Bytes.{is_white, ends_mark}
use Rattle.yaml_scan.specs.Lines.{ends}
use Rattle.yaml_small.specs.declared.event.Event.{Event}
use Rattle.yaml_small.specs.declared.state.Mode.{Mode}
use Rattle.yaml_small.specs.declared.state.Mode.TheVariants.{Key, Value, AfterKey, Done, Trailing}
use Rattle.yaml_small.specs.declared.state.Frame.{Frame}
use Rattle.yaml_small.specs.declared.state.Frame.TheVariants.{InMap}
use Rattle.yaml_small.specs.Trees.{scalar_event}
use Rattle.yaml_small.specs.Places.{At, past, over, next_at, begins}
use Rattle.yaml_small.specs.Scalars.{TooDeep, ScalarToken, scalar_token_at, block_at, key_at, is_key, continues_below}
use Rattle.yaml_small.specs.Grammar.{is_quoted}
use Rattle.yaml_small.specs.Step.{Transition, transition, opened, settled, scalar_token_transition, block_transition, missing_transition, key_transition, flow_key, closed, block_end}
use Rattle.yaml_small.specs.Stream.{changed}
use Rattle.yaml_small.specs.GrowthLaws.{the_end, SameMode}
use Rattle.yaml_small.specs.RunLaws.{popped}
use Rattle.yaml_small.specs.MarkLaws.{and_parts, both}
use Rattle.yaml_small.specs.DepthLaws.{settled_change}
use Rattle.yaml_completion.proofs.Along.{not_true, if_true, if_false, Along, stays, ahead, further, all_of, white_ends}
use Rattle.yaml_completion.proofs.Contents.{place, spaced_at, tab_if, end_behind, by_tab, comma_behind, next_end, next_below}
use Rattle.yaml_completion.proofs.Scans.{begins_low, first_of, looks_same, Near, near_of}
use Rattle.yaml_completion.proofs.ScalarTokens.{ScalarTokenReads, scalar_token_reads, key_reads, key_gap, key_col, same_key}
use Rattle.yaml_completion.proofs.ScalarTokenEnds.{scalar_token_halts, halts_no_key, scalar_token_commas}
use Rattle.yaml_completion.proofs.Blocks.{Next, ready, block_moves}
use Rattle.yaml_completion.proofs.Tokens.{ended_free}
use Rattle.yaml_completion.proofs.Frames.{is_flow, sits, in_flow, in_pairs, nested, flow_push, nested_push, pairs_flow}
use Rattle.yaml_completion.proofs.Moves.{Keyed, Flowing, Fits, Consistent, ModeMatches, Moves, moves_err, moves_if, is_tied, tied, Lasts, EndBack, moves_ok, ReadBack, ReadEndBack, moves_read}

-- behind a node, in a flow or not
pub done_out : (flow g : Bool) (a d : At) → flow ≡ false → Fits flow (Done g) a d → Next a d
done_out false g a d e fits = fits
done_out true g a d e fits = absurd cc

pub done_in : (flow g : Bool) (a d : At) → flow ≡ true → Fits flow (Done g) a d → Flowing true a d
done_in true g a d e fits = fits
done_in false g a d e fits = absurd cc

-- where a node on one line ends
abbrev pub LandLike : Bool → At → At → Type 0
LandLike true a c = Flowing true a c
LandLike false a c = (c.line ≡ a.line) × (c.col ≡ a.col) × (ends a.line ≡ true)

record Landing (flow : Bool) (a : At) (e : Event) (g : Bool) (h : Transition) (d : At) : Type 0 where
  at : At
  like : LandLike flow a at
  along : Along a (settled flow g e h.change a).at at d
  is : (other : Bool) → (n : Mode) × ((SameMode (settled flow g e h.change a).mode n) × (settled flow other e h.change at ≡ transition e d n h.change))

done_same : (g other : Bool) → SameMode (Done g) (Done other)
done_same g other = inr (inl (g, (other, (refl, refl))))

land : (flow : Bool) (g : Bool) (e : Event) (h : Transition) (a d : At) (fl : Bool) → fl ≡ flow → Fits fl (settled flow g e h.change a).mode (settled flow g e h.change a).at d → Landing flow a e g h d
unfolding settled
land true g e h a d fl is fits = record {
  at = d;
  like = done_in fl g a d is fits;
  along = stays a d;
  is = λ other. (Done other, (done_same g other, refl));
}
land false g e h a d fl is fits =
    elim (cases_Bool (ends a.line)) [
      | inl ended ↦
          let to = if_true (ends a.line) (transition e (next_at a.later) (Done g) h.change) (transition e (over a) Trailing h.change) ended in
          let next = done_out fl g (next_at a.later) d is (subst (λ (x : Transition). Fits fl x.mode x.at d) to fits) in
          let b = next_below a d (ready (next_at a.later) d next) in
          let c = place a.col a.line b.others in
          record {
            at = c;
            like = (refl, refl, ended);
            along = subst (λ (x : Transition). Along a x.at c d) (sym to) b.along;
            is = λ other. (
              Done other,
              (
                subst (λ (x : Transition). SameMode x.mode (Done other)) (sym to) (done_same g other),
                if_true (ends a.line) (transition e (next_at b.others) (Done other) h.change) (transition e (over c) Trailing h.change) ended ∙ ap (λ (x : At). transition e x (Done other) h.change) b.to,
              ),
            );
          }
      | inr more ↦ absurd (subst (λ (x : Transition). Fits fl x.mode x.at d) (if_false (ends a.line) (transition e (next_at a.later) (Done g) h.change) (transition e (over a) Trailing h.change) more) fits)
    ]

pub untied : {P : Type 0} (flow low : Bool) → flow ≡ false → flow && not low ≡ true → P
untied true low out tie = absurd cc
untied false low out tie = absurd cc

high_there : (flow low : Bool) → flow && not low ≡ true → low ≡ false
high_there flow low tie = not_true low (and_parts flow (not low) tie).1

-- before a colon or a high byte in a flow, or where more stood on the line outside flows
settled_tied : (k : List Frame) (flow g : Bool) (e : Event) (h : Transition) (a : At) → in_flow false (changed (settled flow g e h.change a).change k) ≡ flow → tied k (settled flow g e h.change a) ≡ true
    → ((flow ≡ true) × ((settled flow g e h.change a).mode ≡ Done g) × ((settled flow g e h.change a).at ≡ a) × (begins_low a.line ≡ false)) ⊎ ((flow ≡ false) × ((settled flow g e h.change a).at ≡ over a))
unfolding settled
settled_tied k true g e h a inside tie = inl (refl, refl, refl, high_there (in_flow false (changed h.change k)) (begins_low a.line) tie)
settled_tied k false g e h a inside tie = from (ends a.line) inside tie
  where
    from : (b : Bool) → in_flow false (changed (cond b (transition e (next_at a.later) (Done g) h.change) (transition e (over a) Trailing h.change)).change k) ≡ false → tied k (cond b (transition e (next_at a.later) (Done g) h.change) (transition e (over a) Trailing h.change)) ≡ true
        → ((false ≡ true) × ((cond b (transition e (next_at a.later) (Done g) h.change) (transition e (over a) Trailing h.change)).mode ≡ Done g) × ((cond b (transition e (next_at a.later) (Done g) h.change) (transition e (over a) Trailing h.change)).at ≡ a) × (begins_low a.line ≡ false))
        ⊎ ((false ≡ false) × ((cond b (transition e (next_at a.later) (Done g) h.change) (transition e (over a) Trailing h.change)).at ≡ over a))
    from true inside tie = untied (in_flow false (changed h.change k)) (begins_low (next_at a.later).line) inside tie
    from false inside tie = inr (refl, refl)

settled_flow : (g : Bool) (e : Event) (h : Transition) (a : At) → settled true g e h.change a ≡ transition e a (Done g) h.change
unfolding settled
settled_flow g e h a = refl

-- behind a node with white space alone
settled_blank : (g : Bool) (e : Event) (h : Transition) (a : At) → all_of is_white a.line ≡ true → a.later ≡ [] → settled false g e h.change a ≡ transition e the_end (Done g) h.change
unfolding settled
settled_blank g e h a all last =
    if_true (ends a.line) (transition e (next_at a.later) (Done g) h.change) (transition e (over a) Trailing h.change) (white_ends a.line all) ∙ ap (λ (x : At). transition e x (Done g) h.change) (ap next_at last ∙ next_end)

settled_consistent : (k : List Frame) (flow g : Bool) (e : Event) (h : Transition) (a : At) → nested false (changed h.change k) ≡ true → in_flow false (changed h.change k) ≡ flow → Consistent (settled flow g e h.change a).mode (changed (settled flow g e h.change a).change k) (settled flow g e h.change a).at
unfolding settled
settled_consistent k true g e h a nest inside = record { nest = nest; mode_matches = tt }
settled_consistent k false g e h a nest inside = from (ends a.line)
  where
    from : (b : Bool) → Consistent (cond b (transition e (next_at a.later) (Done g) h.change) (transition e (over a) Trailing h.change)).mode (changed (cond b (transition e (next_at a.later) (Done g) h.change) (transition e (over a) Trailing h.change)).change k)
        (cond b (transition e (next_at a.later) (Done g) h.change) (transition e (over a) Trailing h.change)).at
    from true = record { nest = nest; mode_matches = tt }
    from false = record { nest = nest; mode_matches = inside }

-- the same change of what is open
settled_keeps : (flow g : Bool) (e : Event) (h : Transition) (a d : At) (n : Mode) → transition e d n h.change ≡ transition (settled flow g e h.change a).event d n (settled flow g e h.change a).change
unfolding settled
settled_keeps true g e h a d n = refl
settled_keeps false g e h a d n = from (ends a.line)
  where
    from : (b : Bool) → transition e d n h.change
        ≡ transition (cond b (transition e (next_at a.later) (Done g) h.change) (transition e (over a) Trailing h.change)).event d n (cond b (transition e (next_at a.later) (Done g) h.change) (transition e (over a) Trailing h.change)).change
    from true = refl
    from false = refl

col_of : (fl : Bool) (b c : At) → LandLike fl b c → c.col ≡ b.col
col_of true b c like = like.col
col_of false b c like = like.1

line_of : (fl : Bool) (b c : At) → LandLike fl b c → fl ≡ false → c.line ≡ b.line
line_of true b c like e = absurd cc
line_of false b c like e = like.0

reads_of : (fl : Bool) (a : At) (w : ScalarToken) (c : At) → scalar_token_at fl a ≡ Ok w → LandLike fl w.end c → ScalarTokenReads fl (scalar_token_at fl) a w c
reads_of true a w c e like = like.reads a w e refl (λ none. absurd cc)
reads_of false a w c e like =
    scalar_token_reads false a w c e like.1 (ap (begins 39) like.0 ∙ ended_free w.end.line like.2)
    (λ plain. subst (λ (x : List ℕ). Near false w.end.line x) (sym like.0) (near_of false w.end.line w.end.line (looks_same false w.end.line)))
    (λ plain. ap ends_mark like.0)

-- a plain or quoted scalar
pub moves_scalar_token : (fl : Bool) (k : List Frame) (P : At → Type 0) (a : At) → in_flow false k ≡ fl → nested false k ≡ true → (fl ≡ false → eqb a.col 0 ≡ true → is_key a ≡ false)
    → ((w v : ScalarToken) (c : At) → scalar_token_at fl a ≡ Ok w → scalar_token_at fl c ≡ Ok v → c.col ≡ a.col → first_of c.line ≡ first_of a.line → (fl ≡ false → is_key a ≡ false → is_key c ≡ false) → P c)
    → Moves k P (λ c. scalar_token_at fl c >>= λ w. Ok (scalar_token_transition fl w)) a
moves_scalar_token fl k P a flow nest free like = moves_read k P (scalar_token_at fl) (λ c w. scalar_token_transition fl w) a back end_back (λ w is. settled_consistent k fl (continues_below w.scalar.style w.end) (scalar_event w.scalar) (missing_transition a) w.end nest flow)
  where
    landed : (w : ScalarToken) (d : At) → Fits (in_flow false (changed (scalar_token_transition fl w).change k)) (scalar_token_transition fl w).mode (scalar_token_transition fl w).at d → Landing fl w.end (scalar_event w.scalar) (continues_below w.scalar.style w.end) (missing_transition a) d
    landed w d fits =
        land fl (continues_below w.scalar.style w.end) (scalar_event w.scalar) (missing_transition a) w.end d (in_flow false (changed (scalar_token_transition fl w).change k))
        (ap (in_flow false) (settled_change k fl (continues_below w.scalar.style w.end) (scalar_event w.scalar) (missing_transition a) w.end) ∙ flow) fits

    back : (w : ScalarToken) → scalar_token_at fl a ≡ Ok w → (d : At) → Fits (in_flow false (changed (scalar_token_transition fl w).change k)) (scalar_token_transition fl w).mode (scalar_token_transition fl w).at d → ReadBack P (scalar_token_at fl) (λ c w. scalar_token_transition fl w) a w d
    back w is d fits =
        let l = landed w d fits in
        let r = reads_of fl a w l.at is l.like in
        let v : ScalarToken = record { scalar = w.scalar; end = l.at } in
        let n = l.is (continues_below w.scalar.style l.at) in
        record {
          at = r.at;
          scalar_token = v;
          read_it = r.is;
          like = like w v r.at is r.is r.col r.first (λ out. same_key a r.at (r.whole (line_of fl w.end l.at l.like out)) r.col);
          along = further a w.end r.at l.at (scalar_token_transition fl w).at d r.along l.along;
          mode = n.0;
          same = n.1.0;
          is = n.1.1 ∙ settled_keeps fl (continues_below w.scalar.style w.end) (scalar_event w.scalar) (missing_transition a) w.end d n.0;
        }

    -- before a colon or a high byte in a flow
    comma : (w : ScalarToken) (rest : List ℕ) → scalar_token_at fl a ≡ Ok w → in_flow false (changed (scalar_token_transition fl w).change k) ≡ fl → fl ≡ true → (scalar_token_transition fl w).mode ≡ Done (continues_below w.scalar.style w.end) → (scalar_token_transition fl w).at ≡ w.end → begins_low w.end.line ≡ false
        → ReadEndBack k P (scalar_token_at fl) (λ c w. scalar_token_transition fl w) a w rest
    comma w rest is inside within mode at high =
        let h = scalar_token_commas a w rest (ap (λ (b : Bool). scalar_token_at b a) (sym within) ∙ is) high in
        let end = comma_behind h.parting w.end.col rest in
        let v : ScalarToken = record { scalar = w.scalar; end = end } in
        let continues = continues_below w.scalar.style end in
        let read = ap (λ (b : Bool). scalar_token_at b h.reads.at) within ∙ h.reads.is in
        record {
          at = h.reads.at;
          scalar_token = v;
          read_it = read;
          like = like w v h.reads.at is read h.reads.col h.reads.first (λ out before. absurd (both fl within out));
          there = end;
          along = subst (λ (x : At). Along a x h.reads.at end) (sym at) h.reads.along;
          to = end;
          mode = Done continues;
          comes = subst (λ (b : Bool). Lasts b (scalar_token_transition fl w).mode rest end end (Done continues)) (sym (inside ∙ within))
              ((h.parting, (w.end.col, refl)), refl, subst (λ (m : Mode). SameMode m (Done continues)) (sym mode) (done_same (continues_below w.scalar.style w.end) continues));
          is = ap (λ (b : Bool). settled b continues (scalar_event w.scalar) (missing_transition a).change end) within ∙ settled_flow continues (scalar_event w.scalar) (missing_transition a) end
              ∙ settled_keeps fl (continues_below w.scalar.style w.end) (scalar_event w.scalar) (missing_transition a) w.end end (Done continues);
        }

    -- with nothing more on the line outside flows
    halt : (w : ScalarToken) (rest : List ℕ) → scalar_token_at fl a ≡ Ok w → in_flow false (changed (scalar_token_transition fl w).change k) ≡ fl → fl ≡ false → (scalar_token_transition fl w).at ≡ over w.end → ReadEndBack k P (scalar_token_at fl) (λ c w. scalar_token_transition fl w) a w rest
    halt w rest is inside out at =
        let h = scalar_token_halts a w (ap (λ (b : Bool). scalar_token_at b a) (sym out) ∙ is) (free out) in
        let end = place w.end.col (h.front ++ tab_if h.tab) [] in
        let v : ScalarToken = record { scalar = w.scalar; end = end } in
        let continues = continues_below w.scalar.style end in
        let read = ap (λ (b : Bool). scalar_token_at b h.reads.at) out ∙ h.reads.is in
        record {
          at = h.reads.at;
          scalar_token = v;
          read_it = read;
          like = like w v h.reads.at is read h.reads.col h.reads.first (λ none before. halts_no_key h.reads.at v h.reads.is h.white);
          there = end_behind h.tab;
          along = subst (λ (x : At). Along a x h.reads.at (end_behind h.tab)) (sym at)
              (further a w.end h.reads.at end (over w.end) (end_behind h.tab) h.reads.along (ahead h.front w.end (over w.end) end (end_behind h.tab) h.line h.later refl refl));
          to = the_end;
          mode = Done continues;
          comes = subst (λ (b : Bool). Lasts b (scalar_token_transition fl w).mode rest (end_behind h.tab) the_end (Done continues)) (sym (inside ∙ out)) ((h.tab, refl), refl, (continues, refl));
          is = ap (λ (b : Bool). settled b continues (scalar_event w.scalar) (missing_transition a).change end) out ∙ settled_blank continues (scalar_event w.scalar) (missing_transition a) end h.white refl
              ∙ settled_keeps fl (continues_below w.scalar.style w.end) (scalar_event w.scalar) (missing_transition a) w.end the_end (Done continues);
        }

    end_back : (w : ScalarToken) → scalar_token_at fl a ≡ Ok w → (rest : List ℕ) → tied k (scalar_token_transition fl w) ≡ true → ReadEndBack k P (scalar_token_at fl) (λ c w. scalar_token_transition fl w) a w rest
    end_back w is rest tie =
        let g = continues_below w.scalar.style w.end in
        let inside = ap (in_flow false) (settled_change k fl g (scalar_event w.scalar) (missing_transition a) w.end) ∙ flow in
        elim (settled_tied k fl g (scalar_event w.scalar) (missing_transition a) w.end inside tie) [
          | inl (within, mode, at, high) ↦ comma w rest is inside within mode at high
          | inr (out, at) ↦ halt w rest is inside out at
        ]

pub same_mode : (m : Mode) → SameMode m m
same_mode m = inl refl

-- a block scalar
pub moves_block : (k : List Frame) (parent : Option ℕ) (P : At → Type 0) (a : At) → in_flow false k ≡ false → nested false k ≡ true → ((c : At) → c.line ≡ a.line → c.col ≡ a.col → P c)
    → Moves k P (λ c. block_at parent c >>= λ w. Ok (block_transition w)) a
moves_block k parent P a flow nest like = moves_read k P (block_at parent) (λ c w. block_transition w) a
    (λ w is d fits.
    let b = block_moves parent a w d is (done_out (in_flow false k) false w.end d flow fits) in
    record {
      at = place a.col a.line b.others;
      scalar_token = record { scalar = w.scalar; end = d };
      read_it = b.is;
      like = like (place a.col a.line b.others) refl refl;
      along = b.along;
      mode = Done false;
      same = same_mode (Done false);
      is = refl;
    })
    (λ w is rest tie. untied (in_flow false k) (begins_low w.end.line) flow tie) (λ w is. record { nest = nest; mode_matches = tt })

-- a missing node, outside a flow and in one
pub moves_missing : (k : List Frame) (P : At → Type 0) (a : At) → in_flow false k ≡ false → nested false k ≡ true → ((d : At) → Next a d → P d) → Moves k P (λ c. Ok (missing_transition c)) a
moves_missing k P a flow nest like = moves_ok k P missing_transition a
    (λ d fits. record { at = d; like = like d (done_out (in_flow false k) false a d flow fits); along = stays a d; mode = Done false; same = same_mode (Done false); is = refl })
    (λ rest tie. untied (in_flow false k) (begins_low a.line) flow tie) (record { nest = nest; mode_matches = tt })

pub moves_flow_missing : (k : List Frame) (P : At → Type 0) (a : At) → in_flow false k ≡ true → nested false k ≡ true → begins_low a.line ≡ true → ((d : At) → Flowing true a d → P d) → Moves k P (λ c. Ok (missing_transition c)) a
moves_flow_missing k P a flow nest low like = moves_ok k P missing_transition a
    (λ d fits. record { at = d; like = like d (done_in (in_flow false k) false a d flow fits); along = stays a d; mode = Done false; same = same_mode (Done false); is = refl })
    (λ rest tie. absurd (both (begins_low a.line) low (high_there (in_flow false k) (begins_low a.line) tie))) (record { nest = nest; mode_matches = tt })

pub head_byte : (x : ℕ) (line : List ℕ) → begins x line ≡ true → line ≡ (x ∷ []) ++ drop 1 line
head_byte x [] e = absurd cc
head_byte x (c ∷ cs) e = ap (λ (n : ℕ). n ∷ cs) (eqb-true c x e)

-- a list or map that opens at a byte, and goes on behind it
pub moves_opens : (depth x : ℕ) (e : Event) (m : ℕ → Mode) (f : ℕ → Frame) (k : List Frame) (P : At → Type 0) (a : At) → begins x a.line ≡ true → nested false k ≡ true → sits (in_flow false k) (f a.col) ≡ true
    → ModeMatches (m a.col) (k ++ (f a.col ∷ [])) (past 1 a) → ((flow low : Bool) → is_tied (m a.col) flow low ≡ false)
    → ((d : At) → Fits (is_flow (f a.col)) (m a.col) (past 1 a) d → (d.col ≡ a.col + 1) × P (place a.col (x ∷ d.line) d.later)) → Moves k P (λ c. opened depth e (past 1 c) (m c.col) (f c.col)) a
unfolding opened
moves_opens depth x e m f k P a here nest sit suit free fit =
    moves_if k P (λ c. ltb depth 64) _ _ a
    (λ room. moves_ok k (λ c. P c × (ltb depth 64 ≡ true)) _ a
    (λ d fits.
    let h = fit d (subst (λ (b : Bool). Fits b (m a.col) (past 1 a) d) (flow_push false k (f a.col)) fits) in
    let c = place a.col (x ∷ d.line) d.later in
    record {
      at = c;
      like = (h.1, room);
      along = ahead (x ∷ []) a (past 1 a) c d (head_byte x a.line here) refl refl refl;
      mode = m a.col;
      same = same_mode (m a.col);
      is = rw (← h.0) refl;
    })
    (λ rest tie. absurd (both (is_tied (m a.col) (in_flow false (k ++ (f a.col ∷ []))) (begins_low (past 1 a).line)) tie (free (in_flow false (k ++ (f a.col ∷ []))) (begins_low (past 1 a).line)))) (record { nest = nested_push false k (f a.col) nest sit; mode_matches = suit }))
    (λ full. moves_err k (λ c. P c × (ltb depth 64 ≡ false)) (λ c. TooDeep) a)

-- a block map opens at its first key
pub moves_map_opens : (depth : ℕ) (e : Event) (k : List Frame) (P : At → Type 0) (a : At) → nested false k ≡ true → in_flow false k ≡ false → ((d : At) → Keyed a d → P d)
    → Moves k P (λ c. opened depth e c Key (InMap c.col)) a
unfolding opened
moves_map_opens depth e k P a nest flow like =
    moves_if k P (λ c. ltb depth 64) _ _ a
    (λ room. moves_ok k (λ c. P c × (ltb depth 64 ≡ true)) _ a
    (λ d fits. record {
      at = d;
      like = (like d fits, room);
      along = stays a d;
      mode = Key;
      same = same_mode Key;
      is = rw fits.col refl;
    })
    (λ rest tie. absurd cc) (record { nest = nested_push false k (InMap a.col) nest (rw flow refl); mode_matches = flow_push false k (InMap a.col) }))
    (λ full. moves_err k (λ c. P c × (ltb depth 64 ≡ false)) (λ c. TooDeep) a)

-- a key of a block map
pub moves_key : (k : List Frame) (P : At → Type 0) (a : At) → in_flow false k ≡ false → nested false k ≡ true
    → ((w v : ScalarToken) (c : At) → key_at a ≡ Ok w → key_at c ≡ Ok v → c.col ≡ a.col → first_of c.line ≡ first_of a.line → P c) → Moves k P (λ c. key_at c >>= λ w. Ok (key_transition c.col w)) a
moves_key k P a flow nest like = moves_read k P key_at (λ c w. key_transition c.col w) a
    (λ w is d fits.
    let r = key_reads a w d is fits.col (fits.gap (key_gap a w is)) in
    record {
      at = r.at;
      scalar_token = record { scalar = w.scalar; end = d };
      read_it = r.is;
      like = like w (record { scalar = w.scalar; end = d }) r.at is r.is r.col r.first;
      along = r.along;
      mode = Value a.col;
      same = same_mode (Value a.col);
      is = ap (λ (n : ℕ). key_transition n (record { scalar = w.scalar; end = d })) r.col;
    })
    (λ w is rest tie. absurd cc) (λ w is. record { nest = nest; mode_matches = (flow, key_col a w is) })

-- a key of a flow map
pub moves_flow_key : (k : List Frame) (P : At → Type 0) (a : At) → in_pairs false k ≡ true → nested false k ≡ true
    → ((w v : ScalarToken) (c : At) → scalar_token_at true a ≡ Ok w → scalar_token_at true c ≡ Ok v → c.col ≡ a.col → first_of c.line ≡ first_of a.line → P c) → Moves k P (λ c. scalar_token_at true c >>= λ w. Ok (flow_key w)) a
moves_flow_key k P a pairs nest like = moves_read k P (scalar_token_at true) (λ c w. flow_key w) a
    (λ w is d fits.
    let r = fits.reads a w is refl (quoted (is_quoted w.scalar)) in
    let q = is_quoted w.scalar in
    let g = continues_below w.scalar.style w.end in
    let h = continues_below w.scalar.style d in
    record {
      at = r.at;
      scalar_token = record { scalar = w.scalar; end = d };
      read_it = r.is;
      like = like w (record { scalar = w.scalar; end = d }) r.at is r.is r.col r.first;
      along = r.along;
      mode = AfterKey q h;
      same = inr (inr (q, (g, (h, (refl, refl)))));
      is = refl;
    })
    end_back (λ w is. record { nest = nest; mode_matches = pairs })
  where
    end_back : (w : ScalarToken) → scalar_token_at true a ≡ Ok w → (rest : List ℕ) → tied k (flow_key w) ≡ true → ReadEndBack k P (scalar_token_at true) (λ c w. flow_key w) a w rest
    end_back w is rest tie =
        let h = scalar_token_commas a w rest is (not_true (begins_low w.end.line) tie) in
        let end = comma_behind h.parting w.end.col rest in
        let q = is_quoted w.scalar in
        let g = continues_below w.scalar.style w.end in
        let n = continues_below w.scalar.style end in
        record {
          at = h.reads.at;
          scalar_token = record { scalar = w.scalar; end = end };
          read_it = h.reads.is;
          like = like w (record { scalar = w.scalar; end = end }) h.reads.at is h.reads.is h.reads.col h.reads.first;
          there = end;
          along = h.reads.along;
          to = end;
          mode = AfterKey q n;
          comes = subst (λ (b : Bool). Lasts b (AfterKey q g) rest end end (AfterKey q n)) (sym (pairs_flow k pairs)) ((h.parting, (w.end.col, refl)), refl, inr (inr (q, (g, (n, (refl, refl))))));
          is = refl;
        }

    quoted : (q : Bool) → not q ≡ false → q ≡ true
    quoted true e = refl
    quoted false e = absurd cc

-- the end of a flow list or map
pub moves_closes : (x : ℕ) (e : Event) (inner : Bool) (k : List Frame) (f : Frame) (P : At → Type 0) (a : At) → begins x a.line ≡ true → nested false k ≡ true → in_flow false k ≡ inner
    → ((d : At) → P (place a.col (x ∷ d.line) d.later)) → Moves (k ++ (f ∷ [])) P (λ c. Ok (closed e inner c)) a
moves_closes x e inner k f P a here nest inside like =
    moves_ok (k ++ (f ∷ [])) P (λ c. closed e inner c) a
    (λ d fits.
    let h = block_end e a in
    let l = land inner false e h (past 1 a) d (in_flow false (changed (closed e inner a).change (k ++ (f ∷ []))))
    (ap (in_flow false) (settled_change (k ++ (f ∷ [])) inner false e h (past 1 a) ∙ popped k f) ∙ inside) fits in
    let c = place a.col (x ∷ l.at.line) l.at.later in
    let n = l.is false in
    record {
      at = c;
      like = like l.at;
      along = further a (past 1 a) c l.at (closed e inner a).at d (ahead (x ∷ []) a (past 1 a) c l.at (head_byte x a.line here) refl refl refl) l.along;
      mode = n.0;
      same = n.1.0;
      is =
          ap (λ (m : ℕ). settled inner false e h.change (place m l.at.line l.at.later)) (sym (col_of inner (past 1 a) l.at l.like))
          ∙ n.1.1 ∙ settled_keeps inner false e h (past 1 a) d n.0;
    })
    end_back (settled_consistent (k ++ (f ∷ [])) inner false e (block_end e a) (past 1 a) (ap (nested false) (popped k f) ∙ nest) (ap (in_flow false) (popped k f) ∙ inside))
  where
    comma : (rest : List ℕ) → in_flow false (changed (closed e inner a).change (k ++ (f ∷ []))) ≡ inner → inner ≡ true → (closed e inner a).mode ≡ Done false → (closed e inner a).at ≡ past 1 a → EndBack (k ++ (f ∷ [])) P (λ c. closed e inner c) a rest
    comma rest behind within mode at =
        let h = block_end e a in
        let b = comma_behind by_tab (a.col + 1) rest in
        let c = place a.col (x ∷ b.line) [] in
        record {
          at = c;
          like = like b;
          there = b;
          along = subst (λ (y : At). Along a y c b) (sym at) (ahead (x ∷ []) a (past 1 a) c b (head_byte x a.line here) refl refl refl);
          to = b;
          mode = Done false;
          comes = subst (λ (y : Bool). Lasts y (closed e inner a).mode rest b b (Done false)) (sym (behind ∙ within)) ((by_tab, (a.col + 1, refl)), refl, subst (λ (m : Mode). SameMode m (Done false)) (sym mode) (same_mode (Done false)));
          is = ap (λ (y : Bool). settled y false e h.change b) within ∙ settled_flow false e h b ∙ settled_keeps inner false e h (past 1 a) b (Done false);
        }

    halt : (rest : List ℕ) → in_flow false (changed (closed e inner a).change (k ++ (f ∷ []))) ≡ inner → inner ≡ false → (closed e inner a).at ≡ over (past 1 a) → EndBack (k ++ (f ∷ [])) P (λ c. closed e inner c) a rest
    halt rest behind out at =
        let h = block_end e a in
        let p = spaced_at (past 1 a) in
        let b = place (a.col + 1) p.front [] in
        let c = place a.col (x ∷ p.front) [] in
        record {
          at = c;
          like = like b;
          there = the_end;
          along = subst (λ (y : At). Along a y c the_end) (sym at)
              (further a (past 1 a) c b (over (past 1 a)) the_end (ahead (x ∷ []) a (past 1 a) c b (head_byte x a.line here) refl refl refl)
              (ahead p.front (past 1 a) (over (past 1 a)) b the_end p.line (sym p.later) (sym (append-nil p.front)) refl));
          to = the_end;
          mode = Done false;
          comes = subst (λ (y : Bool). Lasts y (closed e inner a).mode rest the_end the_end (Done false)) (sym (behind ∙ out)) ((false, refl), refl, (false, refl));
          is = ap (λ (y : Bool). settled y false e h.change b) out ∙ settled_blank false e h b p.all refl ∙ settled_keeps inner false e h (past 1 a) the_end (Done false);
        }

    end_back : (rest : List ℕ) → tied (k ++ (f ∷ [])) (closed e inner a) ≡ true → EndBack (k ++ (f ∷ [])) P (λ c. closed e inner c) a rest
    end_back rest tie =
        let h = block_end e a in
        let behind = ap (in_flow false) (settled_change (k ++ (f ∷ [])) inner false e h (past 1 a) ∙ popped k f) ∙ inside in
        elim (settled_tied (k ++ (f ∷ [])) inner false e h (past 1 a) behind tie) [
          | inl (within, mode, at, high) ↦ comma rest behind within mode at
          | inr (out, at) ↦ halt rest behind out at
        ]
