-- Scalars before what may not stand behind them: outside flows the same ones with nothing more on their line, and
-- within a flow with a comma.
use Rattle.std.proofs.Common.{◌≡◌, ℕ, ◌+◌, List, [], ◌∷◌, ◌++◌, Bool, true, false, not, cond, ◌&&◌, ◌||◌, eqb, ltb, Result, Ok, Err, refl, sym, ap, ◌∙◌, subst, inl, inr, append-nil, length}
use Rattle.std.proofs.lemmas.Bool.{cases_Bool, eqb-true}
use Rattle.warg_values.specs.Reading.{◌>>=◌}
use Rattle.yaml_scan.specs.Bytes.{is_space, is_white, is_gap, is_flow_mark, ends_mark}
use Rattle.yaml_scan.specs.Plain.{parts, with_byte, plain_len}
use Rattle.yaml_small.specs.Grammar.{is_quoted}
use Rattle.yaml_small.specs.Places.{At, past, over, begins, is_colon}
use Rattle.yaml_small.specs.Scalars.{Fault, Form, ScalarToken, plain_at, scalar_token_at, colon_behind, key_at, is_scalar_token, is_key}
use Rattle.yaml_small.specs.MarkLaws.{and_parts, and_false, not_so, both}
use Rattle.yaml_completion.proofs.Along.{not_true, all_of, stops, gone_over}
use Rattle.yaml_completion.proofs.Contents.{place, Spaced, spaced_at, tab_if, Parting, by_tab, by_line_end, by_nothing, comma_behind}
use Rattle.yaml_completion.proofs.Scans.{begins_low, three, low_control, NearTo, Looks, looks_same, near_of, looks_behind, looks_far}
use Rattle.yaml_completion.proofs.DocumentMarks.{is_thrice, is_bare_mark, Unmarking, LastByte, whole_text, Behind, behind_near}
use Rattle.yaml_completion.proofs.ScalarTokens.{ScalarTokenReads, plain_last, plain_style, plain_stops, unquoted, scalar_token_again, white_free}
use Rattle.yaml_completion.proofs.Stops.{always_stops, white_len, near_white, near_tab, stop_control, control_ends}

high_other : (n y : ℕ) → ltb n 160 ≡ true → ltb y 160 ≡ false → eqb y n ≡ false
high_other n y low high = not_so (eqb y n) (λ is. both (ltb y 160) (ap (λ (x : ℕ). ltb x 160) (eqb-true y n is) ∙ low) high)

high_plain : (y : ℕ) → ltb y 160 ≡ false → is_flow_mark y ≡ false
high_plain y high = rw (high_other 44 y refl high, high_other 91 y refl high, high_other 93 y refl high, high_other 123 y refl high, high_other 125 y refl high) refl

looks_after : (flow : Bool) (text r t : List ℕ) (l : LastByte text) → Looks flow (l.byte ∷ r) (l.byte ∷ t) → Looks flow (text ++ r) (text ++ t)
looks_after flow text r t l looks =
    subst (λ (x : List ℕ). Looks flow x (text ++ t)) (sym (whole_text text l r))
    (subst (λ (x : List ℕ). Looks flow (l.front ++ (l.byte ∷ r)) x) (sym (whole_text text l t)) (looks_far flow l.front (l.byte ∷ r) (l.byte ∷ t) looks))

-- A tab may stand in place of a high byte that ends a plain scalar. Behind the byte 194 it would make a control
-- character with that, so nothing stands there then.
tab_there : (flow : Bool) (x y : ℕ) (ys t : List ℕ) → eqb x 194 ≡ false → ltb y 160 ≡ false → ((white : Bool) → plain_len flow white (9 ∷ t) ≡ 0) → plain_len flow false (y ∷ ys) ≡ 0 → NearTo flow x (y ∷ ys) (9 ∷ t)
tab_there flow x y ys t other high new none =
    let space : is_space y ≡ false = high_other 32 y refl high in
    record {
      plain = λ white. new white ∙ sym (always_stops flow y ys none white);
      control = rw other refl;
      part = sym (ap (λ (b : Bool). b || (flow && is_flow_mark y)) space ∙ ap (λ (b : Bool). flow && b) (high_plain y high));
    }

none_there : (flow : Bool) (y : ℕ) (ys : List ℕ) → plain_len flow false (y ∷ ys) ≡ 0 → ltb y 160 ≡ false → Looks flow (194 ∷ y ∷ ys) (194 ∷ [])
none_there flow y ys none high = record {
  plain = λ white.
      ap (λ (b : Bool). cond (b || false) 0 (with_byte 194 0)) (and_false flow)
      ∙ sym (ap (λ (b : Bool). cond (b || ltb y 160) 0 (with_byte 194 (plain_len flow false (y ∷ ys)))) (and_false flow)
      ∙ ap (λ (b : Bool). cond b 0 (with_byte 194 (plain_len flow false (y ∷ ys)))) high ∙ ap (with_byte 194) none);
  control = λ c. refl;
  part = refl;
  begun = rw high refl;
  first = refl;
  mark = sym high;
}

-- The text looks the same before a tab, or nothing, as before a high byte.
before_high : (flow : Bool) (text : List ℕ) (y : ℕ) (ys t : List ℕ) (l : LastByte text) → Looks flow (l.byte ∷ y ∷ ys) (l.byte ∷ t) → plain_len flow false t ≡ 0 → Behind flow text (y ∷ ys) t
before_high flow text y ys t l looks none = record { last = l; looks = looks_after flow text (y ∷ ys) t l looks; mark = looks.mark; none = none }

-- and a document mark is one before both, since the byte begins a control character
high_ends : (flow : Bool) (y : ℕ) (ys : List ℕ) → plain_len flow false (y ∷ ys) ≡ 0 → ltb y 160 ≡ false → ends_mark (y ∷ ys) ≡ true
high_ends flow y ys none high =
    control_ends (y ∷ ys)
    (stop_control flow y ys (rw (high_other 32 y refl high, high_other 9 y refl high) refl) (ap (λ (b : Bool). b && parts flow ys) (high_other 58 y refl high))
    (ap (λ (b : Bool). flow && b) (high_plain y high) ∙ and_false flow) none)

white_none : (v : List ℕ) → all_of is_white v ≡ true → (white : Bool) → plain_len false white (v ++ []) ≡ 0
white_none [] all white = refl
white_none (c ∷ v) all white = let p = and_parts (is_white c) (all_of is_white v) all in white_len false white c (v ++ []) p.0 (white_none v p.1 (is_white c))

-- a text before white space and content, which looks the same where a tab or nothing stands in place of the content
record Blanked (col : ℕ) (text v r : List ℕ) : Type 0 where
  tab : Bool
  behind : Behind false text (v ++ r) (v ++ tab_if tab)
  kept : Unmarking col text (v ++ r) (v ++ tab_if tab)

-- A tab may stand in place of content at the line's start that is no colon of a key.
tab_kept : (col : ℕ) (text : List ℕ) (y : ℕ) (ys : List ℕ) → is_white y ≡ false → (eqb col 0 ≡ true → is_colon (y ∷ ys) ≡ false) → plain_len false false (y ∷ ys) ≡ 0 → Unmarking col text (y ∷ ys) (9 ∷ [])
tab_kept col text y ys dark free none bare =
    let top = (and_parts (eqb col 0) (is_thrice 45 text || is_thrice 46 text) bare).0 in
    sym (control_ends (y ∷ ys) (stop_control false y ys dark (part (eqb y 58) (is_gap ys) (free top)) refl none))
  where
    part : (a b : Bool) → a && b ≡ false → a && (b || false) ≡ false
    part true true e = e
    part true false e = refl
    part false b e = refl

blanked : (col : ℕ) (text v r : List ℕ) → LastByte text → all_of is_white v ≡ true → stops is_white r ≡ true → (eqb col 0 ≡ true → is_colon r ≡ false) → plain_len false false (v ++ r) ≡ 0 → Blanked col text v r
blanked col text [] [] l all stop free none = record { tab = false; behind = record { last = l; looks = looks_same false (text ++ []); mark = refl; none = refl }; kept = λ bare. refl }
blanked col text [] (y ∷ ys) l all stop free none =
    let dark = not_true (is_white y) stop in
    let kept = tab_kept col text y ys dark free none in
    elim (cases_Bool (ltb y 160)) [
      | inl small ↦ record { tab = true; behind = behind_near false text (y ∷ ys) (9 ∷ []) l (near_tab false y ys [] dark refl small (λ w. refl) none) none; kept = kept }
      | inr high ↦ elim (cases_Bool (eqb l.byte 194)) [
        | inl is ↦ record {
          tab = false;
          behind = before_high false text y ys [] l (subst (λ (x : ℕ). Looks false (x ∷ y ∷ ys) (x ∷ [])) (sym (eqb-true l.byte 194 is)) (none_there false y ys none high)) refl;
          kept = λ bare. sym (high_ends false y ys none high);
        }
        | inr other ↦ record {
          tab = true;
          behind = before_high false text y ys (9 ∷ []) l (looks_behind false l.byte (y ∷ ys) (9 ∷ []) (tab_there false l.byte y ys [] other high (λ w. refl) none)) refl;
          kept = kept;
        }
      ]
    ]
blanked col text (c ∷ v) r l all stop free none =
    let p = and_parts (is_white c) (all_of is_white v) all in
    record {
      tab = false;
      behind = behind_near false text (c ∷ (v ++ r)) (c ∷ (v ++ [])) l (near_white false c (v ++ r) (v ++ []) p.0 (white_none v p.1) none) none;
      kept = λ bare. rw p.0 refl;
    }

tab_free : (tab : Bool) → begins 39 (tab_if tab) ≡ false
tab_free true = refl
tab_free false = refl

tab_white : (v : List ℕ) (tab : Bool) → all_of is_white v ≡ true → all_of is_white (v ++ tab_if tab) ≡ true
tab_white [] true all = refl
tab_white [] false all = refl
tab_white (c ∷ v) tab all = let p = and_parts (is_white c) (all_of is_white v) all in rw p.0 (tab_white v tab p.1)

-- a scalar, and the white space behind it with nothing more
pub record Halts (a : At) (w : ScalarToken) : Type 0 where
  pub tab : Bool
  pub front : List ℕ
  pub line : w.end.line ≡ front ++ (over w.end).line
  pub later : w.end.later ≡ (over w.end).later
  pub white : all_of is_white (front ++ tab_if tab) ≡ true
  pub reads : ScalarTokenReads false (scalar_token_at false) a w (place w.end.col (front ++ tab_if tab) [])

halts_with : (a : At) (w : ScalarToken) (s : Spaced w.end) (tab : Bool) → scalar_token_at false a ≡ Ok w → (plain_at false a ≡ Ok w → Behind false w.scalar.text w.end.line (s.front ++ tab_if tab))
    → (plain_at false a ≡ Ok w → Unmarking a.col w.scalar.text w.end.line (s.front ++ tab_if tab)) → Halts a w
halts_with a w s tab e behind kept = record {
  tab = tab;
  front = s.front;
  line = s.line;
  later = sym s.later;
  white = tab_white s.front tab s.all;
  reads = scalar_token_again false a w (place w.end.col (s.front ++ tab_if tab) []) e refl (white_free s.front (tab_if tab) s.all (tab_free tab)) behind kept;
}

no_colon : (a : At) (w : ScalarToken) → scalar_token_at false a ≡ Ok w → is_key a ≡ false → is_colon (over w.end).line ≡ false
unfolding key_at
no_colon a w e none = from (is_colon (over w.end).line) (sym (ap (λ (r : Result ScalarToken Fault). is_scalar_token (r >>= colon_behind)) e) ∙ none)
  where
    from : (b : Bool) → is_scalar_token (cond b (Ok (record { scalar = w.scalar; end = past 1 (over w.end) })) (Err Form)) ≡ false → b ≡ false
    from true e = absurd cc
    from false e = refl

-- A scalar at the line's start halts where it is no key.
pub scalar_token_halts : (a : At) (w : ScalarToken) → scalar_token_at false a ≡ Ok w → (eqb a.col 0 ≡ true → is_key a ≡ false) → Halts a w
scalar_token_halts a w e free =
    let s = spaced_at w.end in
    let r = (over w.end).line in
    elim (cases_Bool (is_quoted w.scalar)) [
      | inl quoted ↦ halts_with a w s false e (λ plain. absurd (both (is_quoted w.scalar) quoted (plain_style false a w plain))) (λ plain. absurd (both (is_quoted w.scalar) quoted (plain_style false a w plain)))
      | inr plain ↦
          let there = unquoted false a w e plain in
          let b = blanked a.col w.scalar.text s.front r (plain_last false a w there) s.all s.stop (λ top. no_colon a w e (free top)) (sym (ap (plain_len false false) s.line) ∙ plain_stops false a w e plain) in
          halts_with a w s b.tab e (λ plain. subst (λ (l : List ℕ). Behind false w.scalar.text l (s.front ++ tab_if b.tab)) (sym s.line) b.behind)
          (λ plain. subst (λ (l : List ℕ). Unmarking a.col w.scalar.text l (s.front ++ tab_if b.tab)) (sym s.line) b.kept)
    ]

-- White space alone behind a scalar makes no key of it.
pub halts_no_key : (c : At) (w : ScalarToken) → scalar_token_at false c ≡ Ok w → all_of is_white w.end.line ≡ true → is_key c ≡ false
unfolding key_at
halts_no_key c w e all =
    let b = w.end in
    let o : over b ≡ place (b.col + length b.line) [] b.later = ap (λ (l : List ℕ). over (place b.col l b.later)) (sym (append-nil b.line)) ∙ gone_over b.col b.line [] b.later all refl in
    ap (λ (r : Result ScalarToken Fault). is_scalar_token (r >>= colon_behind)) e
    ∙ ap (λ (x : At). is_scalar_token (cond (is_colon x.line) (Ok (record { scalar = w.scalar; end = past 1 x })) (Err Form))) o

-- a scalar of a flow before a colon or a high byte, and a comma behind it
pub record Commas (a : At) (w : ScalarToken) (rest : List ℕ) : Type 0 where
  pub parting : Parting
  pub reads : ScalarTokenReads true (scalar_token_at true) a w (comma_behind parting w.end.col rest)

commas_with : (a : At) (w : ScalarToken) (rest : List ℕ) (p : Parting) → scalar_token_at true a ≡ Ok w → (plain_at true a ≡ Ok w → Behind true w.scalar.text w.end.line (comma_behind p w.end.col rest).line)
    → (plain_at true a ≡ Ok w → Unmarking a.col w.scalar.text w.end.line (comma_behind p w.end.col rest).line) → Commas a w rest
commas_with a w rest by_tab e behind kept = record { parting = by_tab; reads = scalar_token_again true a w (comma_behind by_tab w.end.col rest) e refl refl behind kept }
commas_with a w rest by_line_end e behind kept = record { parting = by_line_end; reads = scalar_token_again true a w (comma_behind by_line_end w.end.col rest) e refl refl behind kept }
commas_with a w rest by_nothing e behind kept = record { parting = by_nothing; reads = scalar_token_again true a w (comma_behind by_nothing w.end.col rest) e refl refl behind kept }

-- The text of a document mark is a plain scalar before a comma as before a colon.
bare_comma : (n : ℕ) (ys rest : List ℕ) → eqb n 194 ≡ false → Looks true (n ∷ n ∷ 58 ∷ ys) (n ∷ n ∷ 44 ∷ rest) → plain_len true false (58 ∷ ys) ≡ 0 → (text : List ℕ) → is_thrice n text ≡ true → Behind true text (58 ∷ ys) (44 ∷ rest)
bare_comma n ys rest other looks none [] is = absurd cc
bare_comma n ys rest other looks none (a ∷ []) is = absurd cc
bare_comma n ys rest other looks none (a ∷ b ∷ []) is = absurd cc
bare_comma n ys rest other looks none (a ∷ b ∷ c ∷ d ∷ u) is = absurd cc
bare_comma n ys rest other looks none (a ∷ b ∷ c ∷ []) is =
    let line = three n n n (a ∷ b ∷ c ∷ []) is in
    subst (λ (x : List ℕ). Behind true x (58 ∷ ys) (44 ∷ rest)) (sym line) (record {
      last = record { front = n ∷ n ∷ []; byte = n; is = refl };
      looks = looks_behind true n (n ∷ n ∷ 58 ∷ ys) (n ∷ n ∷ 44 ∷ rest) (near_of true (n ∷ n ∷ 58 ∷ ys) (n ∷ n ∷ 44 ∷ rest) looks n);
      mark = ap (λ (b : Bool). is_white n || b) (low_control n (44 ∷ rest) other ∙ sym (low_control n (58 ∷ ys) other));
      none = refl;
    })

-- The same behind the first two bytes of it.
dashes_comma : (ys rest : List ℕ) → plain_len true false (58 ∷ ys) ≡ 0 → Looks true (45 ∷ 45 ∷ 58 ∷ ys) (45 ∷ 45 ∷ 44 ∷ rest)
dashes_comma ys rest none = record {
  plain = λ white. sym (ap (λ (m : ℕ). with_byte 45 (with_byte 45 m)) none);
  control = λ c. refl;
  part = refl;
  begun = refl;
  first = refl;
  mark = refl;
}

dots_comma : (ys rest : List ℕ) → plain_len true false (58 ∷ ys) ≡ 0 → Looks true (46 ∷ 46 ∷ 58 ∷ ys) (46 ∷ 46 ∷ 44 ∷ rest)
dots_comma ys rest none = record {
  plain = λ white. sym (ap (λ (m : ℕ). with_byte 46 (with_byte 46 m)) none);
  control = λ c. refl;
  part = refl;
  begun = refl;
  first = refl;
  mark = refl;
}

before_comma : (text ys rest : List ℕ) → plain_len true false (58 ∷ ys) ≡ 0 → is_thrice 45 text || is_thrice 46 text ≡ true → Behind true text (58 ∷ ys) (44 ∷ rest)
before_comma text ys rest none is =
    elim (cases_Bool (is_thrice 45 text)) [
      | inl dashes ↦ bare_comma 45 ys rest refl (dashes_comma ys rest none) none text dashes
      | inr other ↦ bare_comma 46 ys rest refl (dots_comma ys rest none) none text (sym (ap (λ (b : Bool). b || is_thrice 46 text) other) ∙ is)
    ]

pub scalar_token_commas : (a : At) (w : ScalarToken) (rest : List ℕ) → scalar_token_at true a ≡ Ok w → begins_low w.end.line ≡ false → Commas a w rest
scalar_token_commas a w rest e high =
    elim (cases_Bool (is_quoted w.scalar)) [
      | inl quoted ↦ commas_with a w rest by_tab e (λ plain. absurd (both (is_quoted w.scalar) quoted (plain_style true a w plain))) (λ plain. absurd (both (is_quoted w.scalar) quoted (plain_style true a w plain)))
      | inr plain ↦ plainly w.end.line refl high (plain_stops true a w e plain) (plain_last true a w (unquoted true a w e plain))
    ]
  where
    with_line : (p : Parting) (line : List ℕ) → w.end.line ≡ line → Behind true w.scalar.text line (comma_behind p w.end.col rest).line → Unmarking a.col w.scalar.text line (comma_behind p w.end.col rest).line → Commas a w rest
    with_line p line is behind kept =
        commas_with a w rest p e (λ plain. subst (λ (x : List ℕ). Behind true w.scalar.text x (comma_behind p w.end.col rest).line) (sym is) behind)
        (λ plain. subst (λ (x : List ℕ). Unmarking a.col w.scalar.text x (comma_behind p w.end.col rest).line) (sym is) kept)

    -- before a colon
    colon : (ys : List ℕ) → w.end.line ≡ 58 ∷ ys → plain_len true false (58 ∷ ys) ≡ 0 → LastByte w.scalar.text → Commas a w rest
    colon ys is none l =
        elim (cases_Bool (is_bare_mark a.col w.scalar.text)) [
          | inl bare ↦ with_line by_nothing (58 ∷ ys) is (before_comma w.scalar.text ys rest none (and_parts (eqb a.col 0) (is_thrice 45 w.scalar.text || is_thrice 46 w.scalar.text) bare).1) (λ again. low_control 44 rest refl ∙ sym (low_control 58 ys refl))
          | inr other ↦ with_line by_tab (58 ∷ ys) is (behind_near true w.scalar.text (58 ∷ ys) (9 ∷ 44 ∷ rest) l (near_tab true 58 ys (44 ∷ rest) refl refl refl (λ w. refl) none) none) (λ bare. absurd (both (is_bare_mark a.col w.scalar.text) bare other))
        ]

    plainly : (line : List ℕ) → w.end.line ≡ line → begins_low line ≡ false → plain_len true false line ≡ 0 → LastByte w.scalar.text → Commas a w rest
    plainly [] is high none l = absurd cc
    plainly (y ∷ ys) is high none l =
        elim (cases_Bool (ltb y 160)) [
          | inl small ↦
              let colon_is = eqb-true y 58 (coloned (ltb y 160) (eqb y 58) small high) in
              colon ys (is ∙ ap (λ (x : ℕ). x ∷ ys) colon_is) (ap (λ (x : ℕ). plain_len true false (x ∷ ys)) (sym colon_is) ∙ none) l
          | inr high ↦ elim (cases_Bool (eqb l.byte 194)) [
            | inl first ↦ with_line by_line_end (y ∷ ys) is
                (before_high true w.scalar.text y ys [] l (subst (λ (x : ℕ). Looks true (x ∷ y ∷ ys) (x ∷ [])) (sym (eqb-true l.byte 194 first)) (none_there true y ys none high)) refl)
                (λ bare. sym (high_ends true y ys none high))
            | inr other ↦ with_line by_tab (y ∷ ys) is
                (before_high true w.scalar.text y ys (9 ∷ 44 ∷ rest) l (looks_behind true l.byte (y ∷ ys) (9 ∷ 44 ∷ rest) (tab_there true l.byte y ys (44 ∷ rest) other high (λ w. refl) none)) refl)
                (λ bare. sym (high_ends true y ys none high))
          ]
        ]
      where
        coloned : (a b : Bool) → a ≡ true → a && not b ≡ false → b ≡ true
        coloned true true p e = refl
        coloned true false p e = absurd cc
        coloned false b p e = absurd cc
