-- Steps outside flows, to a place where something else stands.
use Rattle.std.proofs.Common.{◌≡◌, ℕ, ◌+◌, List, [], ◌∷◌, ◌++◌, Bool, true, false, ◌||◌, eqb, ltb, Option, Some, None, Result, Ok, refl, sym, ap, ◌∙◌, inl, inr, arith}
use Rattle.std.proofs.lemmas.Bool.{eqb-true, eq-eqb, ne_eqb, le-leb}
use Rattle.yaml_scan.specs.Bytes.{is_gap, is_control, ends_mark, spaces, whites}
use Rattle.yaml_scan.specs.Lines.{ends}
use Rattle.yaml_scan.specs.Block.{is_deeper}
use Rattle.yaml_small.specs.declared.event.Event.{Event}
use Rattle.yaml_small.specs.declared.event.Event.TheVariants.{SequenceStart, SequenceEnd, MappingStart, MappingEnd}
use Rattle.yaml_small.specs.declared.state.Mode.TheVariants.{Item, Open, Done}
use Rattle.yaml_small.specs.declared.state.Frame.{Frame}
use Rattle.yaml_small.specs.declared.state.Frame.TheVariants.{InList, InMap, InSeq, InPairs}
use Rattle.yaml_small.specs.Places.{At, past, over, next_at, begins, is_end, is_within, is_dash, at_dash, list_ends, map_ends}
use Rattle.yaml_small.specs.Scalars.{Fault, NotCarried, is_scalar_token, is_key, begins_block}
use Rattle.yaml_small.specs.Step.{Transition, list_start, map_start, inline_at, node_at, below, tabbed, item_at, under, value_at, explicit_at, key_step, line_fault, block_end, list_done, map_done}
use Rattle.yaml_small.specs.Stream.{changed}
use Rattle.yaml_small.specs.GrowthLaws.{the_end}
use Rattle.yaml_small.specs.RunLaws.{popped}
use Rattle.yaml_small.specs.MarkLaws.{and_parts, and_false, or_true, or_parts, both, no_key, opener_no_dash, seq_opens, map_opens}
use Rattle.yaml_completion.proofs.Along.{stays, ahead, further, is_solid, not_ended, solid_white}
use Rattle.yaml_completion.proofs.Contents.{place}
use Rattle.yaml_completion.proofs.ScalarTokens.{scalar_token_place, key_place, key_ok, same_key}
use Rattle.yaml_completion.proofs.Scans.{begins_low, low_control, same_begins}
use Rattle.yaml_completion.proofs.Blocks.{Alike, Next, ready}
use Rattle.yaml_completion.proofs.Frames.{in_flow, nested, flow_push, nested_push}
use Rattle.yaml_completion.proofs.Moves.{Gap, BehindDashes, Keyed, Moves, moves_err, moves_if, moves_map, moves_ok}
use Rattle.yaml_completion.proofs.Leaves.{head_byte, same_mode, done_out, untied, moves_scalar_token, moves_block, moves_missing, moves_opens, moves_map_opens, moves_key}
use Rattle.yaml_completion.proofs.Wraps.{moves_next, moves_over, gap_over, dashes_over, same_white, alike_seq, alike_map, alike_dash, dash_gap, alike_scalar_tokens, alike_line}

-- what stands at a block scalar's head
head_solid : (line : List ℕ) → begins_block line ≡ true → is_solid line ≡ true
head_solid [] e = absurd cc
head_solid (c ∷ cs) e = from (eqb c 124) refl e
  where
    from : (b : Bool) → eqb c 124 ≡ b → b || eqb c 62 ≡ true → is_solid (c ∷ cs) ≡ true
    from true is e = ap (λ (x : ℕ). is_solid (x ∷ cs)) (eqb-true c 124 is)
    from false is e = ap (λ (x : ℕ). is_solid (x ∷ cs)) (eqb-true c 62 e)

head_clean : (line : List ℕ) → begins_block line ≡ true → is_control line ≡ false
head_clean [] e = refl
head_clean (c ∷ cs) e = from (eqb c 124) refl e
  where
    from : (b : Bool) → eqb c 124 ≡ b → b || eqb c 62 ≡ true → is_control (c ∷ cs) ≡ false
    from true is e = ap (λ (x : ℕ). is_control (x ∷ cs)) (eqb-true c 124 is) ∙ low_control 124 cs refl
    from false is e = ap (λ (x : ℕ). is_control (x ∷ cs)) (eqb-true c 62 e) ∙ low_control 62 cs refl

-- a node on one line, or a block scalar
pub inline_block : (k : List Frame) (depth : ℕ) (parent : Option ℕ) (P : At → Type 0) (a : At) → in_flow false k ≡ false → nested false k ≡ true → (eqb a.col 0 ≡ true → is_key a ≡ false)
    → ((c : At) → begins 91 a.line ≡ true → begins 91 c.line ≡ true → c.col ≡ a.col → P c) → ((c : At) → begins 123 a.line ≡ true → begins 123 c.line ≡ true → c.col ≡ a.col → P c)
    → ((c : At) → Alike a c → (is_key a ≡ false → is_key c ≡ false) → P c) → Moves k P (inline_at false depth parent) a
unfolding inline_at
inline_block k depth parent P a flow nest free seq map line =
    moves_if k P (λ c. begins 91 c.line) _ _ a
    (λ is.
    moves_opens depth 91 SequenceStart (λ n. Open) (λ n. InSeq false) k (λ c. P c × (begins 91 c.line ≡ true)) a is nest (rw flow refl) (flow_push false k (InSeq false)) (λ flow low. refl)
    (λ d fits. (fits, (seq (place a.col (91 ∷ d.line) d.later) is refl refl, refl))))
    (λ no_seq.
    moves_if k (λ c. P c × (begins 91 c.line ≡ false)) (λ c. begins 123 c.line) _ _ a
    (λ is.
    moves_opens depth 123 MappingStart (λ n. Open) (λ n. InPairs false) k (λ c. (P c × (begins 91 c.line ≡ false)) × (begins 123 c.line ≡ true)) a is nest (rw flow refl) (flow_push false k (InPairs false)) (λ flow low. refl)
    (λ d fits. (fits, ((map (place a.col (123 ∷ d.line) d.later) is refl refl, refl), refl))))
    (λ no_map.
    moves_if k (λ c. (P c × (begins 91 c.line ≡ false)) × (begins 123 c.line ≡ false)) (λ c. begins_block c.line) _ _ a
    (λ is.
    moves_block k parent (λ c. ((P c × (begins 91 c.line ≡ false)) × (begins 123 c.line ≡ false)) × (begins_block c.line ≡ true)) a flow nest
    (λ c same col. (((line c (alike_line a c (head_solid a.line is) (head_clean a.line is) same col) (same_key a c same col), ap (begins 91) same ∙ no_seq), ap (begins 123) same ∙ no_map), ap begins_block same ∙ is)))
    (λ no_block.
    moves_scalar_token false k (λ c. ((P c × (begins 91 c.line ≡ false)) × (begins 123 c.line ≡ false)) × (begins_block c.line ≡ false)) a flow nest (λ out. free)
    (λ w v c is too col first same.
    let alike = alike_scalar_tokens a c (scalar_token_place false a w is) (scalar_token_place false c v too) col in
    (((line c alike (same refl), same_begins 91 c.line a.line first ∙ no_seq), same_begins 123 c.line a.line first ∙ no_map), rw (same_begins 124 c.line a.line first, same_begins 62 c.line a.line first) no_block)))))

dash_begins : (line : List ℕ) → is_dash line ≡ true → begins 45 line ≡ true
dash_begins [] e = absurd cc
dash_begins (c ∷ cs) e = (and_parts (eqb c 45) (is_gap cs) e).0

pub moves_list : (k : List Frame) (depth : ℕ) (P : At → Type 0) (a : At) → in_flow false k ≡ false → nested false k ≡ true → is_dash a.line ≡ true
    → ((c : At) → Alike a c → is_dash c.line ≡ true → P c) → Moves k P (list_start depth) a
unfolding list_start
moves_list k depth P a flow nest dash like =
    moves_opens depth 45 SequenceStart (λ n. Item n) (λ n. InList n) k P a (dash_begins a.line dash) nest (rw flow refl) (flow_push false k (InList a.col)) (λ flow low. refl)
    (λ d fits.
    let gap = fits.gap (dash_gap a.line dash) in
    (fits.col, like (place a.col (45 ∷ d.line) d.later) (alike_dash a d.line d.later dash gap) gap))

pub moves_node : (k : List Frame) (depth : ℕ) (parent : Option ℕ) (a : At) → in_flow false k ≡ false → nested false k ≡ true → Moves k (Alike a) (node_at depth parent) a
unfolding node_at map_start
moves_node k depth parent a flow nest =
    moves_if k (Alike a) (λ c. is_dash c.line) _ _ a
    (λ dash. moves_list k depth (λ c. Alike a c × (is_dash c.line ≡ true)) a flow nest dash (λ c alike is. (alike, is)))
    (λ no_dash.
    moves_if k (λ c. Alike a c × (is_dash c.line ≡ false)) is_key _ _ a
    (λ key.
    moves_map_opens depth MappingStart k (λ c. (Alike a c × (is_dash c.line ≡ false)) × (is_key c ≡ true)) a nest flow
    (λ d keyed.
    let old = key_ok a key in
    let new = key_ok d keyed.key in
    let there = key_place d new.0 new.1 in
    ((alike_scalar_tokens a d (key_place a old.0 old.1) there keyed.col, there.dash), keyed.key)))
    (λ none.
    inline_block k depth parent (λ c. (Alike a c × (is_dash c.line ≡ false)) × (is_key c ≡ false)) a flow nest (λ top. none)
    (λ c p q col. ((alike_seq a c p q col, opener_no_dash 91 c.line seq_opens q), no_key 91 c seq_opens q))
    (λ c p q col. ((alike_map a c p q col, opener_no_dash 123 c.line map_opens q), no_key 123 c map_opens q))
    (λ c alike same. ((alike, alike.dash ∙ no_dash), same none))))

pub solid_end : (c : At) → is_solid c.line ≡ true → is_end c ≡ false
solid_end c e = from c.line refl e
  where
    from : (line : List ℕ) → c.line ≡ line → is_solid line ≡ true → is_end c ≡ false
    from [] is e = absurd cc
    from (x ∷ xs) is e = ap (λ (l : List ℕ). is_end (place c.col l c.later)) is

-- tests of the place, which are the same at a place that looks the same
within_same : (parent : Option ℕ) (a c : At) → Alike a c → is_within parent c ≡ is_within parent a
within_same parent a c alike = rw (alike.dashes, alike.dots, alike.instead.col, alike.instead.some, solid_end c alike.instead.other) refl

dash_same : (col : ℕ) (a c : At) → Alike a c → at_dash col c ≡ at_dash col a
dash_same col a c alike = rw (alike.instead.col, alike.dash) refl

pub next_alike : (a c : At) → Alike a c → Next a c
next_alike a c alike = record { either = inr alike }

-- a test that holds at the end and at what looks the same
at_next : (t : At → Bool) (a c : At) (b : Bool) → Next a c → t the_end ≡ b → ((alike : Alike a c) → t c ≡ t a) → t a ≡ b → t c ≡ b
at_next t a c b next end same is = elim (next.either) [ inl e ↦ ap t e ∙ end | inr alike ↦ same alike ∙ is ]

pub moves_below : (k : List Frame) (depth : ℕ) (parent : Option ℕ) (a : At) → in_flow false k ≡ false → nested false k ≡ true → Moves k (Next a) (below depth parent) a
unfolding below
moves_below k depth parent a flow nest =
    moves_if k (Next a) (is_within parent) _ _ a
    (λ is. moves_map k (Alike a) (λ c. Next a c × (is_within parent c ≡ true)) _ a (λ c alike. (next_alike a c alike, within_same parent a c alike ∙ is)) (moves_node k depth parent a flow nest))
    (λ is. moves_missing k (λ c. Next a c × (is_within parent c ≡ false)) a flow nest
    (λ d next. (next, at_next (is_within parent) a d false next (and_false (is_deeper parent 0)) (within_same parent a d) is)))

pub moves_under : (k : List Frame) (depth col : ℕ) (a : At) → in_flow false k ≡ false → nested false k ≡ true → Moves k (Next a) (under depth col) a
unfolding under
moves_under k depth col a flow nest =
    moves_if k (Next a) (at_dash col) _ _ a
    (λ is. moves_list k depth (λ c. Next a c × (at_dash col c ≡ true)) a flow nest (and_parts (eqb a.col col) (is_dash a.line) is).1
    (λ c alike dash. (next_alike a c alike, dash_same col a c alike ∙ is)))
    (λ is. moves_map k (Next a) (λ c. Next a c × (at_dash col c ≡ false)) _ a
    (λ c next. (next, at_next (at_dash col) a c false next (and_false (eqb 0 col)) (dash_same col a c) is)) (moves_below k depth (Some col) a flow nest))

-- a node on a mark's line
moves_inline : (k : List Frame) (depth : ℕ) (parent : Option ℕ) (a : At) → in_flow false k ≡ false → nested false k ≡ true → eqb a.col 0 ≡ false → Moves k (Alike a) (inline_at false depth parent) a
moves_inline k depth parent a flow nest col = inline_block k depth parent (Alike a) a flow nest (λ top. absurd (both (eqb a.col 0) top col)) (alike_seq a) (alike_map a) (λ c alike same. alike)

moves_alike_inline : (k : List Frame) (depth : ℕ) (parent : Option ℕ) (a : At) → in_flow false k ≡ false → nested false k ≡ true → is_dash a.line || is_key a ≡ false → Moves k (λ c. Alike a c × (is_dash c.line || is_key c ≡ false)) (inline_at false depth parent) a
moves_alike_inline k depth parent a flow nest good =
    let o = or_parts (is_dash a.line) (is_key a) good in
    inline_block k depth parent (λ c. Alike a c × (is_dash c.line || is_key c ≡ false)) a flow nest (λ top. o.1)
    (λ c p q col. (alike_seq a c p q col, rw (opener_no_dash 91 c.line seq_opens q) (no_key 91 c seq_opens q)))
    (λ c p q col. (alike_map a c p q col, rw (opener_no_dash 123 c.line map_opens q) (no_key 123 c map_opens q)))
    (λ c alike same. (alike, rw (alike.dash ∙ o.0) (same o.1)))

-- behind a mark, with a node on its line or below
behind_line : (a c : At) → c.line ≡ a.line → c.col ≡ a.col → Gap a c
behind_line a c line col = record { col = col; gap = λ gap. ap is_gap line ∙ gap }

pub moves_item : (k : List Frame) (depth col : ℕ) (a : At) → in_flow false k ≡ false → nested false k ≡ true → Moves k (Gap a) (item_at depth col) a
unfolding item_at tabbed
moves_item k depth col a flow nest =
    moves_if k (Gap a) (λ c. ends c.line) _ _ a
    (λ is. moves_next k (Next (next_at a.later)) (λ c. Gap a c × (ends c.line ≡ true)) (below depth (Some col)) a (moves_below k depth (Some col) (next_at a.later) flow nest) (ready (next_at a.later))
    (λ c line col. (behind_line a c line col, ap ends line ∙ is)))
    (λ more.
    moves_if k (λ c. Gap a c × (ends c.line ≡ false)) (λ c. eqb (spaces c.line) (whites c.line)) _ _ a
    (λ is. moves_over k (Alike (over a)) (λ c. (Gap a c × (ends c.line ≡ false)) × (eqb (spaces c.line) (whites c.line) ≡ true)) (node_at depth (Some col)) a (moves_node k depth (Some col) (over a) flow nest) (λ c alike. alike.instead)
    (λ s c alike.
    let solid = alike.instead.other in
    ((gap_over a s c more, not_ended s.front c.line s.all solid), same_white a s c.line (solid_white c.line solid) ∙ is)))
    (λ is. moves_over k (Alike (over a)) (λ c. (Gap a c × (ends c.line ≡ false)) × (eqb (spaces c.line) (whites c.line) ≡ false)) (tabbed depth col) a
    (moves_if k (Alike (over a)) (λ c. is_dash c.line || is_key c) _ _ (over a)
    (λ bad. moves_err k _ (λ c. NotCarried) (over a))
    (λ good. moves_alike_inline k depth (Some col) (over a) flow nest good))
    (λ c alike. alike.instead)
    (λ s c alike.
    let solid = alike.instead.other in
    ((gap_over a s c more, not_ended s.front c.line s.all solid), same_white a s c.line (solid_white c.line solid) ∙ is))))

over_col : (a : At) → eqb a.col 0 ≡ false → eqb (over a).col 0 ≡ false
over_col a col = ne_eqb (over a).col 0 (λ none. let zero_col : a.col ≡ 0 = omega (arith, none) in both (eqb a.col 0) (eq-eqb a.col 0 zero_col) col)

pub moves_value : (k : List Frame) (depth col : ℕ) (a : At) → in_flow false k ≡ false → nested false k ≡ true → eqb a.col 0 ≡ false → Moves k (Gap a) (value_at depth col) a
unfolding value_at
moves_value k depth col a flow nest behind =
    moves_if k (Gap a) (λ c. ends c.line) _ _ a
    (λ is. moves_next k (Next (next_at a.later)) (λ c. Gap a c × (ends c.line ≡ true)) (under depth col) a (moves_under k depth col (next_at a.later) flow nest) (ready (next_at a.later))
    (λ c line col. (behind_line a c line col, ap ends line ∙ is)))
    (λ more. moves_over k (Alike (over a)) (λ c. Gap a c × (ends c.line ≡ false)) (inline_at false depth (Some col)) a (moves_inline k depth (Some col) (over a) flow nest (over_col a behind)) (λ c alike. alike.instead)
    (λ s c alike. (gap_over a s c more, not_ended s.front c.line s.all alike.instead.other)))

dashes_line : (a c : At) → c.line ≡ a.line → c.col ≡ a.col → BehindDashes a c
dashes_line a c line col = record { col = col; mark = λ mark. ap ends_mark line ∙ mark }

pub moves_explicit : (k : List Frame) (depth : ℕ) (a : At) → in_flow false k ≡ false → nested false k ≡ true → eqb a.col 0 ≡ false → Moves k (BehindDashes a) (explicit_at depth) a
unfolding explicit_at
moves_explicit k depth a flow nest behind =
    moves_if k (BehindDashes a) (λ c. ends c.line) _ _ a
    (λ is. moves_next k (Next (next_at a.later)) (λ c. BehindDashes a c × (ends c.line ≡ true)) (below depth None) a (moves_below k depth None (next_at a.later) flow nest) (ready (next_at a.later))
    (λ c line col. (dashes_line a c line col, ap ends line ∙ is)))
    (λ more.
    moves_if k (λ c. BehindDashes a c × (ends c.line ≡ false)) (λ c. eqb (spaces c.line) (whites c.line)) _ _ a
    (λ is. moves_over k (Alike (over a)) (λ c. (BehindDashes a c × (ends c.line ≡ false)) × (eqb (spaces c.line) (whites c.line) ≡ true)) (inline_at false depth None) a (moves_inline k depth None (over a) flow nest (over_col a behind)) (λ c alike. alike.instead)
    (λ s c alike.
    let solid = alike.instead.other in
    ((dashes_over a s c alike.clean more, not_ended s.front c.line s.all solid), same_white a s c.line (solid_white c.line solid) ∙ is)))
    (λ tab. moves_err k _ (λ c. NotCarried) a))

pub moves_key_step : (k : List Frame) (a : At) → in_flow false k ≡ false → nested false k ≡ true → Moves k (Alike a) key_step a
unfolding key_step
moves_key_step k a flow nest = moves_key k (Alike a) a flow nest (λ w v c is too col first. alike_scalar_tokens a c (key_place a w is) (key_place c v too) col)

-- the same for the key itself, which is one
pub moves_keyed : (k : List Frame) (a : At) → in_flow false k ≡ false → nested false k ≡ true → Moves k (Keyed a) key_step a
unfolding key_step
moves_keyed k a flow nest = moves_key k (Keyed a) a flow nest (λ w v c is too col first. record { col = col; key = ap is_scalar_token too })

-- behind a dash or a bracket
pub moves_past : (x : ℕ) (k : List Frame) (P Q : At → Type 0) (r : At → Result Transition Fault) (a : At) → begins x a.line ≡ true → Moves k P r (past 1 a) → ((c : At) → P c → (c.col ≡ a.col + 1) × Q (place a.col (x ∷ c.line) c.later)) → Moves k Q (λ c. r (past 1 c)) a
moves_past x k P Q r a here m like = record {
  move = λ g e want.
      let n = m.move g e want in
      let h = like n.at n.like in
      let c = place a.col (x ∷ n.at.line) n.at.later in
      record {
        at = c;
        like = h.1;
        along = further a (past 1 a) c n.at g.at n.arrives.there (ahead (x ∷ []) a (past 1 a) c n.at (head_byte x a.line here) refl refl refl) n.along;
        arrives = n.arrives;
        is = ap (λ (m : ℕ). r (place m n.at.line n.at.later)) (sym h.0) ∙ n.is;
      };
  consistent = m.consistent;
}

-- the end of a block list or map
pub moves_block_ends : (e : Event) (k : List Frame) (f : Frame) (P : At → Type 0) (a : At) → nested false k ≡ true → in_flow false k ≡ false → ((d : At) → Next a d → P d) → Moves (k ++ (f ∷ [])) P (λ c. Ok (block_end e c)) a
moves_block_ends e k f P a nest flow like = moves_ok (k ++ (f ∷ [])) P (λ c. block_end e c) a
    (λ d fits. record {
      at = d;
      like = like d (done_out (in_flow false (changed (block_end e a).change (k ++ (f ∷ [])))) false a d (ap (in_flow false) (popped k f) ∙ flow) fits);
      along = stays a d;
      mode = Done false;
      same = same_mode (Done false);
      is = refl;
    })
    (λ rest tie. untied (in_flow false (changed (block_end e a).change (k ++ (f ∷ [])))) (begins_low a.line) (ap (in_flow false) (popped k f) ∙ flow) tie) (record { nest = ap (nested false) (popped k f) ∙ nest; mode_matches = tt })

list_ends_same : (col : ℕ) (a c : At) → Alike a c → list_ends col c ≡ list_ends col a
list_ends_same col a c alike = rw (alike.instead.col, alike.dash) refl

pub list_ends_end : (col : ℕ) → list_ends col the_end ≡ true
list_ends_end col = rw (and_false (eqb 0 col), le-leb 0 col (omega arith)) refl

pub moves_list_done : (k : List Frame) (depth col : ℕ) (g : Bool) (a : At) → in_flow false k ≡ false → nested false k ≡ true → Moves (k ++ (InList col ∷ [])) (Next a) (list_done depth col g) a
unfolding list_done
moves_list_done k depth col g a flow nest =
    let j = k ++ (InList col ∷ []) in
    let out = flow_push false k (InList col) in
    let whole = nested_push false k (InList col) nest (rw flow refl) in
    moves_if j (Next a) (list_ends col) _ _ a
    (λ is. moves_block_ends SequenceEnd k (InList col) (λ c. Next a c × (list_ends col c ≡ true)) a nest flow (λ d next. (next, at_next (list_ends col) a d true next (list_ends_end col) (list_ends_same col a d) is)))
    (λ continues. moves_if j (λ c. Next a c × (list_ends col c ≡ false)) (at_dash col) _ _ a
    (λ dash.
    let here = (and_parts (eqb a.col col) (is_dash a.line) dash).1 in
    moves_past 45 j (Gap (past 1 a)) (λ c. (Next a c × (list_ends col c ≡ false)) × (at_dash col c ≡ true)) (item_at depth col) a (dash_begins a.line here) (moves_item j depth col (past 1 a) out whole)
    (λ c gap.
    let alike = alike_dash a c.line c.later here (gap.gap (dash_gap a.line here)) in
    let d = place a.col (45 ∷ c.line) c.later in
    (gap.col, ((next_alike a d alike, list_ends_same col a d alike ∙ continues), dash_same col a d alike ∙ dash))))
    (λ none. moves_err j _ (line_fault g) a))

map_ends_same : (col : ℕ) (a c : At) → Alike a c → map_ends col c ≡ map_ends col a
map_ends_same col a c alike = rw (alike.dashes, alike.dots, alike.instead.col, alike.instead.some, solid_end c alike.instead.other) refl

pub moves_map_done : (k : List Frame) (col : ℕ) (g : Bool) (a : At) → in_flow false k ≡ false → nested false k ≡ true → Moves (k ++ (InMap col ∷ [])) (Next a) (map_done col g) a
unfolding map_done
moves_map_done k col g a flow nest =
    let j = k ++ (InMap col ∷ []) in
    let out = flow_push false k (InMap col) in
    let whole = nested_push false k (InMap col) nest (rw flow refl) in
    moves_if j (Next a) (map_ends col) _ _ a
    (λ is. moves_block_ends MappingEnd k (InMap col) (λ c. Next a c × (map_ends col c ≡ true)) a nest flow (λ d next. (next, at_next (map_ends col) a d true next (or_true (ltb 0 col)) (map_ends_same col a d) is)))
    (λ continues. moves_if j (λ c. Next a c × (map_ends col c ≡ false)) (λ c. eqb c.col col) _ _ a
    (λ here. moves_map j (Alike a) (λ c. (Next a c × (map_ends col c ≡ false)) × (eqb c.col col ≡ true)) key_step a
    (λ c alike. ((next_alike a c alike, map_ends_same col a c alike ∙ continues), ap (λ (n : ℕ). eqb n col) alike.instead.col ∙ here)) (moves_key_step j a out whole))
    (λ none. moves_err j _ (line_fault g) a))
