-- Steps within flows, to a place where something else stands.
use Rattle.std.proofs.Common.{◌≡◌, ℕ, List, [], ◌∷◌, ◌++◌, drop, Bool, true, false, not, ◌&&◌, ◌||◌, eqb, Option, None, Ok, refl, sym, ap, ◌∙◌, subst, inl, inr}
use Rattle.std.proofs.lemmas.Bool.{cases_Bool, eqb-true}
use Rattle.yaml_scan.specs.Bytes.{is_white}
use Rattle.yaml_scan.specs.Lines.{is_passed, ends}
use Rattle.yaml_scan.specs.Plain.{parts}
use Rattle.yaml_small.specs.declared.event.Event.TheVariants.{SequenceStart, SequenceEnd, MappingStart, MappingEnd}
use Rattle.yaml_small.specs.declared.state.Mode.TheVariants.{Open}
use Rattle.yaml_small.specs.declared.state.Frame.{Frame}
use Rattle.yaml_small.specs.declared.state.Frame.TheVariants.{InSeq, InPairs}
use Rattle.yaml_small.specs.Places.{At, past, over, next_at, flow_next, begins, is_end}
use Rattle.yaml_small.specs.Scalars.{ScalarToken, scalar_token_at}
use Rattle.yaml_small.specs.Grammar.{closes_value, is_flow_colon}
use Rattle.yaml_small.specs.Step.{inline_at, seq_entry, pairs_entry, flow_fault, flow_value, after_key_at, seq_fault, seq_done, pairs_done}
use Rattle.yaml_small.specs.MarkLaws.{and_parts, both}
use Rattle.yaml_completion.proofs.Along.{if_false, all_of, is_solid}
use Rattle.yaml_completion.proofs.Contents.{Instead, place, spaced_at}
use Rattle.yaml_completion.proofs.Scans.{begins_low, first_of, same_begins, same_parts, Looks, looks_comma, looks_bracket, looks_brace, looks_colon, near_of}
use Rattle.yaml_completion.proofs.ScalarTokens.{scalar_token_place, head_line}
use Rattle.yaml_completion.proofs.Stops.{white_begins}
use Rattle.yaml_completion.proofs.Tokens.{Token}
use Rattle.yaml_completion.proofs.Frames.{in_flow, nested, flow_push, pairs_push, nested_push, agree, agrees}
use Rattle.yaml_completion.proofs.Moves.{Flowing, Moves, moves_err, moves_if, moves_map, reads_from, weaker}
use Rattle.yaml_completion.proofs.Leaves.{moves_scalar_token, moves_flow_missing, moves_opens, moves_flow_key, moves_closes}
use Rattle.yaml_completion.proofs.Wraps.{moves_token, solid_some}
use Rattle.yaml_completion.proofs.BlockMoves.{moves_past}

-- another entry of a flow
pub record Entry (a c : At) : Type 0 where
  pub instead : Instead a c
  pub first : first_of c.line ≡ first_of a.line

byte_end : (x : ℕ) (a : At) → begins x a.line ≡ true → is_end a ≡ false
byte_end x a e = ap (λ (l : List ℕ). is_end (place 0 l [])) (head_line x a.line e)

byte_first : (x : ℕ) (a : At) → begins x a.line ≡ true → first_of (x ∷ []) ≡ first_of a.line
byte_first x a e = sym (ap first_of (head_line x a.line e))

entry_at : (x : ℕ) (a : At) (t : List ℕ) (later : List (List ℕ)) → begins x a.line ≡ true → is_solid (x ∷ t) ≡ true → Entry a (place a.col (x ∷ t) later)
entry_at x a t later e solid = record { instead = record { col = refl; some = byte_end x a e; other = solid }; first = byte_first x a e }

pub inline_flow : (k : List Frame) (depth : ℕ) (parent : Option ℕ) (a : At) → in_flow false k ≡ true → nested false k ≡ true → Moves k (Entry a) (inline_at true depth parent) a
unfolding inline_at
inline_flow k depth parent a flow nest =
    moves_if k (Entry a) (λ c. begins 91 c.line) _ _ a
    (λ is.
    moves_opens depth 91 SequenceStart (λ n. Open) (λ n. InSeq true) k (λ c. Entry a c × (begins 91 c.line ≡ true)) a is nest flow (flow_push false k (InSeq true)) (λ flow low. refl)
    (λ d fits. (fits, (entry_at 91 a d.line d.later is refl, refl))))
    (λ no_seq.
    moves_if k (λ c. Entry a c × (begins 91 c.line ≡ false)) (λ c. begins 123 c.line) _ _ a
    (λ is.
    moves_opens depth 123 MappingStart (λ n. Open) (λ n. InPairs true) k (λ c. (Entry a c × (begins 91 c.line ≡ false)) × (begins 123 c.line ≡ true)) a is nest flow (flow_push false k (InPairs true)) (λ flow low. refl)
    (λ d fits. (fits, ((entry_at 123 a d.line d.later is refl, refl), refl))))
    (λ no_map.
    moves_scalar_token true k (λ c. (Entry a c × (begins 91 c.line ≡ false)) × (begins 123 c.line ≡ false)) a flow nest (λ out. absurd (both true refl out))
    (λ w v c is too col first same. ((scalar_token_entry a c w v is too col first, same_begins 91 c.line a.line first ∙ no_seq), same_begins 123 c.line a.line first ∙ no_map))))
  where
    scalar_token_entry : (a c : At) (w v : ScalarToken) → scalar_token_at true a ≡ Ok w → scalar_token_at true c ≡ Ok v → c.col ≡ a.col → first_of c.line ≡ first_of a.line → Entry a c
    scalar_token_entry a c w v is too col first = record { instead = record { col = col; some = solid_some a (scalar_token_place true a w is).solid; other = (scalar_token_place true c v too).solid }; first = first }

pub moves_seq_entry : (k : List Frame) (depth : ℕ) (inner : Bool) (a : At) → in_flow false k ≡ inner → nested false k ≡ true → Moves (k ++ (InSeq inner ∷ [])) (Entry a) (seq_entry inner depth) a
unfolding seq_entry
moves_seq_entry k depth inner a inside nest =
    let j = k ++ (InSeq inner ∷ []) in
    moves_if j (Entry a) (λ c. begins 93 c.line) _ _ a
    (λ is. moves_closes 93 SequenceEnd inner k (InSeq inner) (λ c. Entry a c × (begins 93 c.line ≡ true)) a is nest inside (λ d. (entry_at 93 a d.line d.later is refl, refl)))
    (λ none. moves_map j (Entry a) (λ c. Entry a c × (begins 93 c.line ≡ false)) _ a (λ c entry. (entry, same_begins 93 c.line a.line entry.first ∙ none))
    (inline_flow j depth None a (flow_push false k (InSeq inner)) (nested_push false k (InSeq inner) nest (ap (agree inner) inside ∙ agrees inner))))

pub moves_pairs_entry : (k : List Frame) (inner : Bool) (a : At) → in_flow false k ≡ inner → nested false k ≡ true → Moves (k ++ (InPairs inner ∷ [])) (Entry a) (pairs_entry inner) a
unfolding pairs_entry
moves_pairs_entry k inner a inside nest =
    let j = k ++ (InPairs inner ∷ []) in
    moves_if j (Entry a) (λ c. begins 125 c.line) _ _ a
    (λ is. moves_closes 125 MappingEnd inner k (InPairs inner) (λ c. Entry a c × (begins 125 c.line ≡ true)) a is nest inside (λ d. (entry_at 125 a d.line d.later is refl, refl)))
    (λ none. moves_flow_key j (λ c. Entry a c × (begins 125 c.line ≡ false)) a (pairs_push false k (InPairs inner)) (nested_push false k (InPairs inner) nest (ap (agree inner) inside ∙ agrees inner))
    (λ w v c is too col first.
    (record { instead = record { col = col; some = solid_some a (scalar_token_place true a w is).solid; other = (scalar_token_place true c v too).solid }; first = first }, same_begins 125 c.line a.line first ∙ none)))

-- behind a bracket or a comma
pub moves_seq_next : (k : List Frame) (depth : ℕ) (inner : Bool) (a : At) → in_flow false k ≡ inner → nested false k ≡ true → Moves (k ++ (InSeq inner ∷ [])) (λ c. c.col ≡ a.col) (λ c. seq_entry inner depth (flow_next c)) a
moves_seq_next k depth inner a inside nest =
    moves_token (k ++ (InSeq inner ∷ [])) (Entry (flow_next a)) (λ c. c.col ≡ a.col) (seq_entry inner depth) a (moves_seq_entry k depth inner (flow_next a) inside nest) (λ c entry. entry.instead) (λ c t entry. t.col)

pub moves_pairs_next : (k : List Frame) (inner : Bool) (a : At) → in_flow false k ≡ inner → nested false k ≡ true → Moves (k ++ (InPairs inner ∷ [])) (λ c. c.col ≡ a.col) (λ c. pairs_entry inner (flow_next c)) a
moves_pairs_next k inner a inside nest =
    moves_token (k ++ (InPairs inner ∷ [])) (Entry (flow_next a)) (λ c. c.col ≡ a.col) (pairs_entry inner) a (moves_pairs_entry k inner (flow_next a) inside nest) (λ c entry. entry.instead) (λ c t entry. t.col)

-- another token behind a node or a key, which looks the same to what stands before it
pub record Mark (strict : Bool) (a c : At) : Type 0 where
  pub instead : Instead a c
  pub first : first_of c.line ≡ first_of a.line
  pub free : begins 39 c.line ≡ false
  pub looks : strict ≡ true → Looks true a.line c.line

closes_first : (t r : List ℕ) → first_of t ≡ first_of r → closes_value t ≡ closes_value r
closes_first t r e = rw (same_begins 44 t r e, same_begins 125 t r e) refl

closed_colon : (q : Bool) (line : List ℕ) → closes_value line ≡ true → is_flow_colon q line ≡ false
closed_colon q [] e = absurd cc
closed_colon q (c ∷ cs) e = ap (λ (b : Bool). b && (q || parts true cs)) (from (eqb c 44) refl e)
  where
    from : (b : Bool) → eqb c 44 ≡ b → b || eqb c 125 ≡ true → eqb c 58 ≡ false
    from true is e = ap (λ (x : ℕ). eqb x 58) (eqb-true c 44 is)
    from false is e = ap (λ (x : ℕ). eqb x 58) (eqb-true c 125 e)

pub flowing_at : (strict : Bool) (a c : At) (t : Token a c) → Mark strict (flow_next a) c → Flowing strict a t.at
flowing_at strict a c t m = record {
  col = t.col;
  reads = reads_from strict a t.at t.col (t.free m.free) (λ is. near_of true a.line t.at.line (t.looks (m.looks is))) (λ is. (t.looks (m.looks is)).mark);
  closes = λ is. (
    ap (λ (x : At). closes_value x.line) t.to ∙ closes_first c.line (flow_next a).line m.first ∙ is,
    λ q. ap (λ (x : At). is_flow_colon q x.line) t.to ∙ closed_colon q c.line (closes_first c.line (flow_next a).line m.first ∙ is),
    same_parts true t.at.line a.line (t.first m.first),
  );
}

mark_at : (x : ℕ) (a : At) (t : List ℕ) (later : List (List ℕ)) → begins x a.line ≡ true → is_solid (x ∷ t) ≡ true → begins 39 (x ∷ t) ≡ false → Looks true (x ∷ drop 1 a.line) (x ∷ t)
    → Mark true a (place a.col (x ∷ t) later)
mark_at x a t later e solid free looks = record {
  instead = record { col = refl; some = byte_end x a e; other = solid };
  first = byte_first x a e;
  free = free;
  looks = λ strict. subst (λ (l : List ℕ). Looks true l (x ∷ t)) (sym (head_line x a.line e)) looks;
}

pub comma_mark : (a : At) (t : List ℕ) (later : List (List ℕ)) → begins 44 a.line ≡ true → Mark true a (place a.col (44 ∷ t) later)
comma_mark a t later e = mark_at 44 a t later e refl refl (looks_comma (drop 1 a.line) t)

pub bracket_mark : (a : At) (t : List ℕ) (later : List (List ℕ)) → begins 93 a.line ≡ true → Mark true a (place a.col (93 ∷ t) later)
bracket_mark a t later e = mark_at 93 a t later e refl refl (looks_bracket (drop 1 a.line) t)

pub brace_mark : (a : At) (t : List ℕ) (later : List (List ℕ)) → begins 125 a.line ≡ true → Mark true a (place a.col (125 ∷ t) later)
brace_mark a t later e = mark_at 125 a t later e refl refl (looks_brace (drop 1 a.line) t)

moves_seq_mark : (k : List Frame) (depth : ℕ) (inner continues : Bool) (a : At) → in_flow false k ≡ inner → nested false k ≡ true → Moves (k ++ (InSeq inner ∷ [])) (Mark true a) (seq_done inner depth continues) a
unfolding seq_done
moves_seq_mark k depth inner continues a inside nest =
    let j = k ++ (InSeq inner ∷ []) in
    moves_if j (Mark true a) (λ c. begins 44 c.line) _ _ a
    (λ is. moves_past 44 j (λ c. c.col ≡ (past 1 a).col) (λ c. Mark true a c × (begins 44 c.line ≡ true)) (λ c. seq_entry inner depth (flow_next c)) a is (moves_seq_next k depth inner (past 1 a) inside nest)
    (λ c col. (col, (comma_mark a c.line c.later is, refl))))
    (λ none. moves_if j (λ c. Mark true a c × (begins 44 c.line ≡ false)) (λ c. begins 93 c.line) _ _ a
    (λ is. moves_closes 93 SequenceEnd inner k (InSeq inner) (λ c. (Mark true a c × (begins 44 c.line ≡ false)) × (begins 93 c.line ≡ true)) a is nest inside (λ d. ((bracket_mark a d.line d.later is, refl), refl)))
    (λ bad. moves_err j _ (seq_fault continues) a))

moves_pairs_mark : (k : List Frame) (inner continues : Bool) (a : At) → in_flow false k ≡ inner → nested false k ≡ true → Moves (k ++ (InPairs inner ∷ [])) (Mark true a) (pairs_done inner continues) a
unfolding pairs_done
moves_pairs_mark k inner continues a inside nest =
    let j = k ++ (InPairs inner ∷ []) in
    moves_if j (Mark true a) (λ c. begins 44 c.line) _ _ a
    (λ is. moves_past 44 j (λ c. c.col ≡ (past 1 a).col) (λ c. Mark true a c × (begins 44 c.line ≡ true)) (λ c. pairs_entry inner (flow_next c)) a is (moves_pairs_next k inner (past 1 a) inside nest)
    (λ c col. (col, (comma_mark a c.line c.later is, refl))))
    (λ none. moves_if j (λ c. Mark true a c × (begins 44 c.line ≡ false)) (λ c. begins 125 c.line) _ _ a
    (λ is. moves_closes 125 MappingEnd inner k (InPairs inner) (λ c. (Mark true a c × (begins 44 c.line ≡ false)) × (begins 125 c.line ≡ true)) a is nest inside (λ d. ((brace_mark a d.line d.later is, refl), refl)))
    (λ bad. moves_err j _ (flow_fault continues) a))

pub moves_seq_done : (k : List Frame) (depth : ℕ) (inner continues : Bool) (a : At) → in_flow false k ≡ inner → nested false k ≡ true → Moves (k ++ (InSeq inner ∷ [])) (Flowing true a) (λ c. seq_done inner depth continues (flow_next c)) a
moves_seq_done k depth inner continues a inside nest =
    moves_token (k ++ (InSeq inner ∷ [])) (Mark true (flow_next a)) (Flowing true a) (seq_done inner depth continues) a (moves_seq_mark k depth inner continues (flow_next a) inside nest) (λ c mark. mark.instead) (flowing_at true a)

pub moves_pairs_done : (k : List Frame) (inner continues : Bool) (a : At) → in_flow false k ≡ inner → nested false k ≡ true → Moves (k ++ (InPairs inner ∷ [])) (Flowing true a) (λ c. pairs_done inner continues (flow_next c)) a
moves_pairs_done k inner continues a inside nest =
    moves_token (k ++ (InPairs inner ∷ [])) (Mark true (flow_next a)) (Flowing true a) (pairs_done inner continues) a (moves_pairs_mark k inner continues (flow_next a) inside nest) (λ c mark. mark.instead) (flowing_at true a)

-- A comma or a brace behind white space is low.
mark_begins : (v r : List ℕ) → all_of is_white v ≡ true → closes_value r ≡ true → begins_low (v ++ r) ≡ true
mark_begins [] [] all e = refl
mark_begins [] (c ∷ cs) all e = from (eqb c 44) refl e
  where
    from : (b : Bool) → eqb c 44 ≡ b → b || eqb c 125 ≡ true → begins_low (c ∷ cs) ≡ true
    from true is e = ap (λ (x : ℕ). begins_low (x ∷ cs)) (eqb-true c 44 is)
    from false is e = ap (λ (x : ℕ). begins_low (x ∷ cs)) (eqb-true c 125 e)
mark_begins (c ∷ v) r all e = white_begins c (v ++ r) (and_parts (is_white c) (all_of is_white v) all).0

ended_begins : (line : List ℕ) → ends line ≡ true → begins_low line ≡ true
ended_begins [] e = refl
ended_begins (c ∷ cs) e = white_begins c cs (and_parts (is_white c) (is_passed (c ∷ cs)) e).0

closes_low : (a : At) → closes_value (flow_next a).line ≡ true → begins_low a.line ≡ true
unfolding flow_next
closes_low a closes =
    elim (cases_Bool (ends a.line)) [
      | inl ended ↦ ended_begins a.line ended
      | inr more ↦
          let s = spaced_at a in
          let here = ap over (if_false (ends a.line) (next_at a.later) a more) in
          ap begins_low s.line ∙ mark_begins s.front (over a).line s.all (sym (ap (λ (x : At). closes_value x.line) here) ∙ closes)
    ]

-- behind the colon of a flow map
record After (a c : At) : Type 0 where
  col : c.col ≡ a.col
  part : parts true c.line ≡ parts true a.line

moves_flow_value : (k : List Frame) (depth : ℕ) (a : At) → in_flow false k ≡ true → nested false k ≡ true → Moves k (After a) (flow_value depth) a
unfolding flow_value
moves_flow_value k depth a flow nest =
    moves_if k (After a) (λ c. closes_value (flow_next c).line) _ _ a
    (λ is. moves_flow_missing k (λ c. After a c × (closes_value (flow_next c).line ≡ true)) a flow nest (closes_low a is) (λ d like. (record { col = like.col; part = (like.closes is).2 }, (like.closes is).0)))
    (λ none. moves_token k (Entry (flow_next a)) (λ c. After a c × (closes_value (flow_next c).line ≡ false)) (inline_at true depth None) a (inline_flow k depth None (flow_next a) flow nest) (λ c entry. entry.instead)
    (λ c t entry. (
      record { col = t.col; part = same_parts true t.at.line a.line (t.first entry.first) },
      ap (λ (x : At). closes_value x.line) t.to ∙ closes_first c.line (flow_next a).line entry.first ∙ none,
    )))

colon_begins : (q : Bool) (line : List ℕ) → is_flow_colon q line ≡ true → begins 58 line ≡ true
colon_begins q line e = (and_parts (begins 58 line) (q || parts true (drop 1 line)) e).0

colon_parts : (line : List ℕ) → is_flow_colon false line ≡ true → parts true (drop 1 line) ≡ true
colon_parts line e = (and_parts (begins 58 line) (parts true (drop 1 line)) e).1

-- a colon with the same behind it, where what was read before asks for that
pub colon_mark : (quoted : Bool) (a : At) (t : List ℕ) (later : List (List ℕ)) → is_flow_colon quoted a.line ≡ true → (quoted ≡ false → parts true t ≡ true) → Mark (not quoted) a (place a.col (58 ∷ t) later)
colon_mark quoted a t later e part =
    let here = colon_begins quoted a.line e in
    record {
      instead = record { col = refl; some = byte_end 58 a here; other = refl };
      first = byte_first 58 a here;
      free = refl;
      looks = looks quoted e part;
    }
  where
    looks : (q : Bool) → is_flow_colon q a.line ≡ true → (q ≡ false → parts true t ≡ true) → not q ≡ true → Looks true a.line (58 ∷ t)
    looks true e part strict = absurd cc
    looks false e part strict =
        subst (λ (l : List ℕ). Looks true l (58 ∷ t)) (sym (head_line 58 a.line (colon_begins false a.line e))) (looks_colon true (drop 1 a.line) t (colon_parts a.line e) (part refl))

pub colon_there : (quoted : Bool) (t : List ℕ) → (quoted ≡ false → parts true t ≡ true) → is_flow_colon quoted (58 ∷ t) ≡ true
colon_there true t part = refl
colon_there false t part = part refl

same_part : (quoted : Bool) (line t : List ℕ) → is_flow_colon quoted line ≡ true → parts true t ≡ parts true (drop 1 line) → quoted ≡ false → parts true t ≡ true
same_part true line t e same q = absurd cc
same_part false line t e same q = same ∙ colon_parts line e

pub moves_after_key : (k : List Frame) (depth : ℕ) (quoted continues : Bool) (a : At) → in_flow false k ≡ true → nested false k ≡ true → Moves k (Flowing (not quoted) a) (after_key_at depth quoted continues) a
unfolding after_key_at
moves_after_key k depth quoted continues a flow nest =
    moves_if k (Flowing (not quoted) a) (λ c. is_flow_colon quoted (flow_next c).line) _ _ a
    (λ is.
    let b = flow_next a in
    moves_token k (λ c. Mark (not quoted) b c × (is_flow_colon quoted c.line ≡ true)) (λ c. Flowing (not quoted) a c × (is_flow_colon quoted (flow_next c).line ≡ true)) (λ c. flow_value depth (past 1 c)) a
    (moves_past 58 k (After (past 1 b)) (λ c. Mark (not quoted) b c × (is_flow_colon quoted c.line ≡ true)) (flow_value depth) b (colon_begins quoted b.line is) (moves_flow_value k depth (past 1 b) flow nest)
    (λ c after.
    let part = same_part quoted b.line c.line is after.part in
    (after.col, (colon_mark quoted b c.line c.later is part, colon_there quoted c.line part))))
    (λ c mark. mark.0.instead)
    (λ c t mark. (flowing_at (not quoted) a c t mark.0, ap (λ (x : At). is_flow_colon quoted x.line) t.to ∙ mark.1)))
    (λ none. moves_if k (λ c. Flowing (not quoted) a c × (is_flow_colon quoted (flow_next c).line ≡ false)) (λ c. closes_value (flow_next c).line) _ _ a
    (λ is. moves_flow_missing k (λ c. (Flowing (not quoted) a c × (is_flow_colon quoted (flow_next c).line ≡ false)) × (closes_value (flow_next c).line ≡ true)) a flow nest (closes_low a is)
    (λ d like. ((weaker (not quoted) a d like, (like.closes is).1 quoted), (like.closes is).0)))
    (λ bad. moves_err k _ (λ c. flow_fault continues (flow_next c)) a))
