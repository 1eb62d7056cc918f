-- Scalars on one line, when something else stands behind them.
use Rattle.std.proofs.Common.{◌≡◌, ℕ, ◌+◌, ◌-◌, List, [], ◌∷◌, ◌++◌, take, drop, length, Bool, true, false, not, cond, ◌||◌, eqb, Result, Ok, Err, refl, sym, ap, ◌∙◌, subst, inl, inr, arith, length-append, take-append-drop, length-take, append_assoc}
use Rattle.std.proofs.lemmas.Bool.{cases_Bool, eqb-true, ne_eqb}
use Rattle.warg_values.specs.Reading.{◌>>=◌}
use Rattle.yaml_scan.specs.Bytes.{is_white, is_gap, is_control, ends_mark}
use Rattle.yaml_scan.specs.Plain.{is_indicator, plain_len, begins_plain, parts}
use Rattle.yaml_scan.specs.QuotedLaws.{found_is}
use Rattle.yaml_scan.specs.QuotedScan.{Found, Open, Bad, single_at, double_quoted_at}
use Rattle.yaml_small.specs.declared.event.Style.{Style}
use Rattle.yaml_small.specs.declared.event.Style.TheVariants as styles
use Rattle.yaml_small.specs.Trees.{Scalar}
use Rattle.yaml_small.specs.Grammar.{is_quoted}
use Rattle.yaml_small.specs.Places.{At, past, over, begins, at_dashes, at_dots, at_mark, is_dash, is_colon}
use Rattle.yaml_small.specs.Scalars.{Fault, Form, is_plain, ScalarToken, scalar_token, begins_at, start_fault, plain_at, quoted_at, scalar_token_at, colon_behind, key_at, is_scalar_token, is_key}
use Rattle.yaml_small.specs.MarkLaws.{and_parts, and_false, or_parts, not_so, both, scalar_token_opener}
use Rattle.yaml_completion.proofs.Along.{if_true, if_false, Along, ahead, further, all_of, parted, is_solid, dropped, gone_over}
use Rattle.yaml_completion.proofs.Contents.{place}
use Rattle.yaml_completion.proofs.DocumentMarks.{Unmarking, LastByte, last_byte, Behind, behind_near, same_at_mark}
use Rattle.yaml_completion.proofs.Scans.{low_control, first_of, same_begins, Looks, looks_far, looks_colon, plain_within, Closed, no_quote, anything, single_closed, double_closed, Near, near_of, plain_some, rest_stops}

-- A scalar is read at a place, and with another place behind it at a place that looks the same.
pub record ScalarTokenReads (flow : Bool) (read : At → Result ScalarToken Fault) (a : At) (w : ScalarToken) (d : At) : Type 0 where
  pub at : At
  pub is : read at ≡ Ok (record { scalar = w.scalar; end = d })
  pub along : Along a w.end at d
  pub col : at.col ≡ a.col
  pub first : first_of at.line ≡ first_of a.line
  pub whole : d.line ≡ w.end.line → at.line ≡ a.line
  pub later : at.later ≡ d.later

unfoldable pub read_scalar_token : ScalarToken → Result ScalarToken Fault
read_scalar_token w = Ok w

pub scalar_token_is : (v w : ScalarToken) → read_scalar_token v ≡ read_scalar_token w → v ≡ w
unfolding read_scalar_token
scalar_token_is v w e = cc

-- A word of these parts, read with a front of this line
read_on : (flow : Bool) (read : At → Result ScalarToken Fault) (a : At) (w : ScalarToken) (d : At) (front : List ℕ) → a.line ≡ front ++ w.end.line → a.later ≡ w.end.later → first_of (front ++ d.line) ≡ first_of a.line
    → read (place a.col (front ++ d.line) d.later) ≡ Ok (record { scalar = w.scalar; end = d }) → ScalarTokenReads flow read a w d
read_on flow read a w d front is later first e = record {
  at = place a.col (front ++ d.line) d.later;
  is = e;
  along = ahead front a w.end (place a.col (front ++ d.line) d.later) d is later refl refl;
  col = refl;
  first = first;
  whole = λ same. ap (λ (x : List ℕ). front ++ x) same ∙ sym is;
  later = refl;
}

same_begin : (flow : Bool) (a d : At) → at_mark d ≡ at_mark a → Looks flow a.line d.line → begins_at flow d ≡ begins_at flow a
same_begin flow a d mark looks = rw (mark, looks.begun) refl

record Begun (flow : Bool) (a : At) (w : ScalarToken) : Type 0 where
  begun : begins_at flow a ≡ true
  is : scalar_token (take (plain_len flow false a.line) a.line) styles.Plain (past (plain_len flow false a.line) a) ≡ w

plain_begun : (flow : Bool) (a : At) (w : ScalarToken) → plain_at flow a ≡ Ok w → Begun flow a w
unfolding plain_at read_scalar_token
plain_begun flow a w e = from (begins_at flow a) refl e
  where
    from : (b : Bool) → begins_at flow a ≡ b → cond b (read_scalar_token (scalar_token (take (plain_len flow false a.line) a.line) styles.Plain (past (plain_len flow false a.line) a))) (Err (start_fault a)) ≡ Ok w → Begun flow a w
    from true is e = record { begun = is; is = scalar_token_is _ w e }
    from false is e = absurd cc

taken : (u t : List ℕ) (n : ℕ) → length u ≡ n → take n (u ++ t) ≡ u
taken u t n e = rw (← e) (whole u t)
  where
    whole : (u t : List ℕ) → take (length u) (u ++ t) ≡ u
    whole [] t = refl
    whole (c ∷ u) t = ap (λ (x : List ℕ). c ∷ x) (whole u t)

dropped_at : (u t : List ℕ) (n : ℕ) → length u ≡ n → drop n (u ++ t) ≡ t
dropped_at u t n e = rw (← e) (dropped u t)

-- a plain scalar has a byte
pub plain_text : (flow : Bool) (a : At) (w : ScalarToken) → plain_at flow a ≡ Ok w → (c : ℕ) × ((u : List ℕ) × (w.scalar.text ≡ c ∷ u))
plain_text flow a w e =
    let b = plain_begun flow a w e in
    let s = plain_some flow a.line (and_parts (not (at_mark a)) (begins_plain flow a.line) b.begun).1 in (s.0, (s.1.0, sym (ap (λ (x : ScalarToken). x.scalar.text) b.is) ∙ s.1.1))

-- where a plain scalar ends none goes on
plain_ends : (flow : Bool) (a : At) (w : ScalarToken) → plain_at flow a ≡ Ok w → plain_len flow false w.end.line ≡ 0
plain_ends flow a w e =
    let b = plain_begun flow a w e in
    let s = plain_some flow a.line (and_parts (not (at_mark a)) (begins_plain flow a.line) b.begun).1 in
    elim (rest_stops flow false a.line) [
      | inl none ↦ absurd (empty s.0 s.1.0 (sym (ap (λ (n : ℕ). take n a.line) none) ∙ s.1.1))
      | inr stop ↦ ap (λ (x : ScalarToken). plain_len flow false x.end.line) (sym b.is) ∙ stop
    ]
  where
    empty : (c : ℕ) (u : List ℕ) → take {A = ℕ} 0 a.line ≡ c ∷ u → ⊥
    empty c u e = absurd cc

plain_reads : (flow : Bool) (a : At) (w : ScalarToken) (d : At) → plain_at flow a ≡ Ok w → d.col ≡ w.end.col → Behind flow w.scalar.text w.end.line d.line → Unmarking a.col w.scalar.text w.end.line d.line → ScalarTokenReads flow (plain_at flow) a w d
unfolding plain_at
plain_reads flow a w d e col same kept =
    let b = plain_begun flow a w e in
    let n = plain_len flow false a.line in
    let u = take n a.line in
    let size : length u ≡ n = omega (arith, plain_within flow false a.line, length-take n a.line) in
    let line : a.line ≡ u ++ w.end.line = sym (take-append-drop n a.line) ∙ ap (λ (x : List ℕ). u ++ x) (ap (λ (x : ScalarToken). x.end.line) b.is) in
    let c = place a.col (u ++ d.line) d.later in
    let near : Looks flow (u ++ w.end.line) (u ++ d.line) =
    subst (λ (v : List ℕ). Looks flow (v ++ w.end.line) (v ++ d.line)) (sym (ap (λ (x : ScalarToken). x.scalar.text) b.is)) same.looks in
    let far : Looks flow a.line (u ++ d.line) = subst (λ (x : List ℕ). Looks flow x (u ++ d.line)) (sym line) near in
    let text : w.scalar.text ≡ u = sym (ap (λ (x : ScalarToken). x.scalar.text) b.is) in
    let mark : at_mark c ≡ at_mark a =
    ap (λ (x : List ℕ). at_mark (place a.col (x ++ d.line) d.later)) (sym text)
    ∙ same_at_mark flow a.col w.scalar.text w.end.line d.line a.later d.later (plain_ends flow a w e) same kept
    ∙ ap (λ (x : List ℕ). at_mark (place a.col x a.later)) (ap (λ (x : List ℕ). x ++ w.end.line) text ∙ sym line) in
    let here : begins_at flow c ≡ true = same_begin flow a c mark far ∙ b.begun in
    let long : plain_len flow false (u ++ d.line) ≡ n = far.plain false in
    read_on flow (plain_at flow) a w d u line (ap (λ (x : ScalarToken). x.end.later) b.is) far.first
    (ap (λ (b : Bool). cond b (Ok (scalar_token (take (plain_len flow false c.line) c.line) styles.Plain (past (plain_len flow false c.line) c))) (Err (start_fault c))) here
    ∙ ap (λ (m : ℕ). Ok (scalar_token (take m c.line) styles.Plain (past m c))) long
    ∙ ap (λ (x : List ℕ). Ok (scalar_token x styles.Plain (past n c))) (taken u d.line n size ∙ ap (λ (x : ScalarToken). x.scalar.text) b.is)
    ∙ ap (λ (x : List ℕ). Ok (scalar_token w.scalar.text styles.Plain (place (a.col + n) x d.later))) (dropped_at u d.line n size)
    ∙ ap (λ (k : ℕ). Ok (scalar_token w.scalar.text styles.Plain (place k d.line d.later))) (ap (λ (x : ScalarToken). x.end.col) b.is ∙ sym col)
    ∙ ap (λ (x : Style). Ok (scalar_token w.scalar.text x d)) (ap (λ (x : ScalarToken). x.scalar.style) b.is))

-- a quoted scalar that is there
record Quotes (style : Style) (a : At) (found : Found) (w : ScalarToken) : Type 0 where
  text : List ℕ
  rest : List ℕ
  found_it : found ≡ found_is text rest
  is : scalar_token text style (past (length a.line - length rest) a) ≡ w

quotes : (style : Style) (a : At) (found : Found) (w : ScalarToken) → quoted_at style a found ≡ Ok w → Quotes style a found w
unfolding quoted_at read_scalar_token found_is
quotes style a (Ok p) w e = record { text = p.0; rest = p.1; found_it = refl; is = scalar_token_is _ w e }
quotes style a (Err Open) w e = absurd cc
quotes style a (Err Bad) w e = absurd cc

behind_size : (u r : List ℕ) → length (u ++ r) - length r ≡ length u
behind_size u r = omega (arith, length-append u r)

pub head_line : (c : ℕ) (line : List ℕ) → begins c line ≡ true → line ≡ c ∷ drop 1 line
head_line c [] e = absurd cc
head_line c (x ∷ xs) e = ap (λ (n : ℕ). n ∷ xs) (eqb-true x c e)

quoted_reads : (flow : Bool) (style : Style) (q : ℕ) (scan : List ℕ → Found) (may : List ℕ → Bool) (a : At) (w : ScalarToken) (d : At)
    → ((text rest : List ℕ) → scan (drop 1 a.line) ≡ found_is text rest → Closed scan may (drop 1 a.line) text rest) → begins q a.line ≡ true → quoted_at style a (scan (drop 1 a.line)) ≡ Ok w
    → d.col ≡ w.end.col → may d.line ≡ true → ScalarTokenReads flow (λ c. quoted_at style c (scan (drop 1 c.line))) a w d
unfolding quoted_at found_is
quoted_reads flow style q scan may a w d closed here e col fit =
    let x = quotes style a (scan (drop 1 a.line)) w e in
    let h = closed x.text x.rest x.found_it in
    let u = q ∷ h.byte ∷ h.front in
    let line : a.line ≡ u ++ x.rest = head_line q a.line here ∙ ap (λ (l : List ℕ). q ∷ l) h.is in
    let size : length a.line - length x.rest ≡ length u = ap (λ (l : List ℕ). length l - length x.rest) line ∙ behind_size u x.rest in
    let rest : w.end.line ≡ x.rest =
    sym (ap (λ (v : ScalarToken). v.end.line) x.is) ∙ ap (λ (n : ℕ). drop n a.line) size ∙ ap (drop (length u)) line ∙ dropped u x.rest in
    let c = place a.col (u ++ d.line) d.later in
    let end : a.col + length u ≡ d.col = ap (λ (n : ℕ). a.col + n) (sym size) ∙ ap (λ (v : ScalarToken). v.end.col) x.is ∙ sym col in
    read_on flow (λ c. quoted_at style c (scan (drop 1 c.line))) a w d u (line ∙ ap (λ (l : List ℕ). u ++ l) (sym rest)) (ap (λ (v : ScalarToken). v.end.later) x.is) (ap first_of (sym line))
    (ap (quoted_at style c) (h.found d.line fit)
    ∙ ap (λ (n : ℕ). Ok (scalar_token x.text style (past n c))) (behind_size u d.line)
    ∙ ap (λ (l : List ℕ). Ok (scalar_token x.text style (place (a.col + length u) l d.later))) (dropped u d.line)
    ∙ ap (λ (n : ℕ). Ok (scalar_token x.text style (place n d.line d.later))) end
    ∙ ap (λ (t : Scalar). Ok (record { scalar = t; end = d })) (ap (λ (v : ScalarToken). v.scalar) x.is))

pub plain_style : (flow : Bool) (a : At) (w : ScalarToken) → plain_at flow a ≡ Ok w → is_quoted w.scalar ≡ false
plain_style flow a w e = ap (λ (x : ScalarToken). is_quoted x.scalar) (sym (plain_begun flow a w e).is)

-- a scalar before what does not change how it is read
pub scalar_token_again : (flow : Bool) (a : At) (w : ScalarToken) (d : At) → scalar_token_at flow a ≡ Ok w → d.col ≡ w.end.col → begins 39 d.line ≡ false
    → (plain_at flow a ≡ Ok w → Behind flow w.scalar.text w.end.line d.line) → (plain_at flow a ≡ Ok w → Unmarking a.col w.scalar.text w.end.line d.line) → ScalarTokenReads flow (scalar_token_at flow) a w d
unfolding scalar_token_at
scalar_token_again flow a w d e col free behind kept =
    elim (cases_Bool (begins 39 a.line)) [
      | inl single ↦
          let r = quoted_reads flow styles.SingleQuoted 39 single_at no_quote a w d (single_closed (drop 1 a.line)) single (sym (first _ _ single) ∙ e) col (rw free refl) in
          record { at = r.at; is = first _ _ (same_begins 39 r.at.line a.line r.first ∙ single) ∙ r.is; along = r.along; col = r.col; first = r.first; whole = r.whole; later = r.later }
      | inr no_single ↦ elim (cases_Bool (begins 34 a.line)) [
        | inl double ↦
            let r = quoted_reads flow styles.DoubleQuoted 34 double_quoted_at anything a w d (double_closed (drop 1 a.line)) double (sym (second _ _ _ no_single double) ∙ e) col refl in
            record { at = r.at; is = second _ _ _ (same_begins 39 r.at.line a.line r.first ∙ no_single) (same_begins 34 r.at.line a.line r.first ∙ double) ∙ r.is; along = r.along; col = r.col; first = r.first; whole = r.whole; later = r.later }
        | inr no_double ↦
            let plain = sym (third _ _ _ no_single no_double) ∙ e in
            let r = plain_reads flow a w d plain col (behind plain) (kept plain) in
            record { at = r.at; is = third _ _ _ (same_begins 39 r.at.line a.line r.first ∙ no_single) (same_begins 34 r.at.line a.line r.first ∙ no_double) ∙ r.is; along = r.along; col = r.col; first = r.first; whole = r.whole; later = r.later }
      ]
    ]
  where
    first : {b : Bool} (x y : Result ScalarToken Fault) → b ≡ true → cond b x y ≡ x
    first x y e = rw e refl

    second : {b c : Bool} (x y z : Result ScalarToken Fault) → b ≡ false → c ≡ true → cond b x (cond c y z) ≡ y
    second x y z e f = rw (e, f) refl

    third : {b c : Bool} (x y z : Result ScalarToken Fault) → b ≡ false → c ≡ false → cond b x (cond c y z) ≡ z
    third x y z e f = rw (e, f) refl

pub plain_last : (flow : Bool) (a : At) (w : ScalarToken) → plain_at flow a ≡ Ok w → LastByte w.scalar.text
plain_last flow a w e = let t = plain_text flow a w e in subst LastByte (sym t.1.1) (last_byte t.0 t.1.0)

pub plain_behind : (flow : Bool) (a : At) (w : ScalarToken) (t : List ℕ) → plain_at flow a ≡ Ok w → Near flow w.end.line t → Behind flow w.scalar.text w.end.line t
plain_behind flow a w t e near = behind_near flow w.scalar.text w.end.line t (plain_last flow a w e) near (plain_ends flow a w e)

pub scalar_token_reads : (flow : Bool) (a : At) (w : ScalarToken) (d : At) → scalar_token_at flow a ≡ Ok w → d.col ≡ w.end.col → begins 39 d.line ≡ false → (is_quoted w.scalar ≡ false → Near flow w.end.line d.line)
    → (is_quoted w.scalar ≡ false → ends_mark d.line ≡ ends_mark w.end.line) → ScalarTokenReads flow (scalar_token_at flow) a w d
scalar_token_reads flow a w d e col free near mark =
    scalar_token_again flow a w d e col free (λ plain. plain_behind flow a w d.line plain (near (plain_style flow a w plain)))
    (λ plain bare. mark (plain_style flow a w plain))

-- behind white space stands no other quote
pub white_free : (v r : List ℕ) → all_of is_white v ≡ true → begins 39 r ≡ false → begins 39 (v ++ r) ≡ false
white_free [] r all free = free
white_free (c ∷ v) r all free = not_so (eqb c 39) (λ is. both (is_white c) (and_parts (is_white c) (all_of is_white v) all).0 (ap is_white (eqb-true c 39 is)))

-- a key's scalar, and the colon behind it
record Coloned (v : ScalarToken) (w : ScalarToken) : Type 0 where
  front : List ℕ
  all : all_of is_white front ≡ true
  line : v.end.line ≡ front ++ (58 ∷ w.end.line)
  gap : is_gap w.end.line ≡ true
  col : v.end.col + length front + 1 ≡ w.end.col
  later : v.end.later ≡ w.end.later
  scalar : v.scalar ≡ w.scalar

colon_rest : (v w : ScalarToken) (front rest : List ℕ) → v.end.line ≡ front ++ rest → all_of is_white front ≡ true → over v.end ≡ place (v.end.col + length front) rest v.end.later
    → is_colon (over v.end).line ≡ true → record { scalar = v.scalar; end = past 1 (over v.end) } ≡ w → Coloned v w
colon_rest v w front [] is all o colon there =
    let e : is_colon [] ≡ true = sym (ap (λ (x : At). is_colon x.line) o) ∙ colon in absurd cc
colon_rest v w front (c ∷ cs) is all o colon there =
    let p = and_parts (eqb c 58) (is_gap cs) (sym (ap (λ (x : At). is_colon x.line) o) ∙ colon) in
    let end : place (v.end.col + length front + 1) cs v.end.later ≡ w.end = sym (ap (λ (x : At). past 1 x) o) ∙ ap (λ (x : ScalarToken). x.end) there in
    record {
      front = front;
      all = all;
      line = is ∙ ap (λ (n : ℕ). front ++ (n ∷ cs)) (eqb-true c 58 p.0) ∙ ap (λ (x : At). front ++ (58 ∷ x.line)) end;
      gap = ap (λ (x : At). is_gap x.line) (sym end) ∙ p.1;
      col = ap (λ (x : At). x.col) end;
      later = ap (λ (x : At). x.later) end;
      scalar = ap (λ (x : ScalarToken). x.scalar) there;
    }

coloned : (v w : ScalarToken) → colon_behind v ≡ Ok w → Coloned v w
unfolding read_scalar_token
coloned v w e =
    let p = parted is_white v.end.line in
    let h = there (is_colon (over v.end).line) (record { scalar = v.scalar; end = past 1 (over v.end) }) e in
    colon_rest v w p.front p.rest p.is p.all (ap (λ (l : List ℕ). over (place v.end.col l v.end.later)) p.is ∙ gone_over v.end.col p.front p.rest v.end.later p.all p.stop) h.0 h.1
  where
    there : (b : Bool) (x : ScalarToken) → cond b (read_scalar_token x) (Err Form) ≡ read_scalar_token w → (b ≡ true) × (x ≡ w)
    there true x h = (refl, scalar_token_is x w h)
    there false x h = absurd cc

gap_part : (line : List ℕ) → is_gap line ≡ true → parts false line ≡ true
gap_part line e = rw e refl

-- the colon behind a key's scalar, and something else behind it
colon_over : (v w : ScalarToken) (d : At) (c : Coloned v w) → d.col ≡ w.end.col → is_gap d.line ≡ true
    → colon_behind (record { scalar = v.scalar; end = place v.end.col (c.front ++ (58 ∷ d.line)) d.later }) ≡ Ok (record { scalar = w.scalar; end = d })
colon_over v w d c col gap =
    let e = place v.end.col (c.front ++ (58 ∷ d.line)) d.later in
    let o : over e ≡ place (v.end.col + length c.front) (58 ∷ d.line) d.later = gone_over v.end.col c.front (58 ∷ d.line) d.later c.all refl in
    ap (λ (x : At). cond (is_colon x.line) (Ok (record { scalar = v.scalar; end = past 1 x })) (Err Form)) o
    ∙ ap (λ (b : Bool). cond b (Ok (record { scalar = v.scalar; end = place (v.end.col + length c.front + 1) d.line d.later })) (Err Form)) gap
    ∙ ap (λ (n : ℕ). Ok (record { scalar = v.scalar; end = place n d.line d.later })) (c.col ∙ sym col)
    ∙ ap (λ (s : Scalar). Ok (record { scalar = s; end = d })) c.scalar

pub key_reads : (a : At) (w : ScalarToken) (d : At) → key_at a ≡ Ok w → d.col ≡ w.end.col → is_gap d.line ≡ true → ScalarTokenReads false key_at a w d
unfolding key_at
key_reads a w d e col gap = from (scalar_token_at false a) refl e
  where
    from : (r : Result ScalarToken Fault) → scalar_token_at false a ≡ r → (r >>= colon_behind) ≡ Ok w → ScalarTokenReads false key_at a w d
    from (Err f) is e = absurd cc
    from (Ok v) is e =
        let c = coloned v w e in
        let b = place v.end.col (c.front ++ (58 ∷ d.line)) d.later in
        let looks : Looks false v.end.line b.line =
        subst (λ (x : List ℕ). Looks false x b.line) (sym c.line) (looks_far false c.front (58 ∷ w.end.line) (58 ∷ d.line) (looks_colon false w.end.line d.line (gap_part w.end.line c.gap) (gap_part d.line gap))) in
        let r = scalar_token_reads false a v b is refl (white_free c.front (58 ∷ d.line) c.all refl) (λ plain. near_of false v.end.line b.line looks) (λ plain. looks.mark) in
        record {
          at = r.at;
          is = ap (λ (x : Result ScalarToken Fault). x >>= colon_behind) r.is ∙ colon_over v w d c col gap;
          along = further a v.end r.at b w.end d r.along
              (ahead (c.front ++ (58 ∷ [])) v.end w.end b d (c.line ∙ sym (append_assoc c.front (58 ∷ []) w.end.line)) c.later (sym (append_assoc c.front (58 ∷ []) d.line)) refl);
          col = r.col;
          first = r.first;
          whole = λ same. r.whole (ap (λ (x : List ℕ). c.front ++ (58 ∷ x)) same ∙ sym c.line);
          later = r.later;
        }

pub key_gap : (a : At) (w : ScalarToken) → key_at a ≡ Ok w → is_gap w.end.line ≡ true
unfolding key_at
key_gap a w e = from (scalar_token_at false a) e
  where
    from : (r : Result ScalarToken Fault) → (r >>= colon_behind) ≡ Ok w → is_gap w.end.line ≡ true
    from (Err f) e = absurd cc
    from (Ok v) e = (coloned v w e).gap

-- and it stands behind the line's start
pub key_col : (a : At) (w : ScalarToken) → key_at a ≡ Ok w → eqb w.end.col 0 ≡ false
unfolding key_at
key_col a w e = from (scalar_token_at false a) e
  where
    from : (r : Result ScalarToken Fault) → (r >>= colon_behind) ≡ Ok w → eqb w.end.col 0 ≡ false
    from (Err f) e = absurd cc
    from (Ok v) e = ne_eqb w.end.col 0 (λ none. absurd (omega (arith, (coloned v w e).col)))

-- a key stands on a line whatever lines follow
pub key_ok : (a : At) → is_key a ≡ true → (w : ScalarToken) × (key_at a ≡ Ok w)
key_ok a e = from (key_at a) refl e
  where
    from : (r : Result ScalarToken Fault) → key_at a ≡ r → is_scalar_token r ≡ true → (w : ScalarToken) × (key_at a ≡ Ok w)
    from (Ok w) is e = (w, is)
    from (Err f) is e = absurd cc

pub same_key : (a c : At) → c.line ≡ a.line → c.col ≡ a.col → is_key a ≡ false → is_key c ≡ false
same_key a c line col none =
    not_so (is_key c) (λ is.
    let k = key_ok c is in
    let r = key_reads c k.0 (place k.0.end.col k.0.end.line a.later) k.1 refl (key_gap c k.0 k.1) in
    let at : r.at ≡ a =
    ap (λ (n : ℕ). place n r.at.line r.at.later) (r.col ∙ col) ∙ ap (λ (l : List ℕ). place a.col l r.at.later) (r.whole refl ∙ line) ∙ ap (λ (ls : List (List ℕ)). place a.col a.line ls) r.later in
    both (is_key a) (ap is_key (sym at) ∙ ap is_scalar_token r.is) none)

-- what stands where a scalar is read
pub record ScalarTokenPlace (a : At) : Type 0 where
  pub solid : is_solid a.line ≡ true
  pub dash : is_dash a.line ≡ false
  pub dashes : at_dashes a ≡ false
  pub dots : at_dots a ≡ false
  pub percent : begins 37 a.line ≡ false
  pub clean : is_control a.line ≡ false

quote_place : (c : ℕ) (a : At) → ((cs : List ℕ) → ScalarTokenPlace (place a.col (c ∷ cs) a.later)) → begins c a.line ≡ true → ScalarTokenPlace a
quote_place c a each e = subst (λ (x : List ℕ). ScalarTokenPlace (place a.col x a.later)) (sym (head_line c a.line e)) (each (drop 1 a.line))

plain_place : (flow : Bool) (a : At) (line : List ℕ) → a.line ≡ line → at_mark a ≡ false → begins_plain flow line ≡ true → is_dash a.line ≡ false → ScalarTokenPlace a
plain_place flow a [] is mark begun dash = absurd cc
plain_place flow a (c ∷ cs) is mark begun dash =
    let m = or_parts (at_dashes a) (at_dots a) mark in
    let p = and_parts (not (is_white c || is_indicator c || is_control (c ∷ cs))) _ begun in
    record {
      solid = ap is_solid is ∙ rw (white (is_white c) (is_indicator c) (is_control (c ∷ cs)) p.0, no_byte 35 refl) refl;
      dash = dash;
      dashes = m.0;
      dots = m.1;
      percent = ap (begins 37) is ∙ no_byte 37 refl;
      clean = ap is_control is ∙ not_control (is_white c) (is_indicator c) (is_control (c ∷ cs)) p.0;
    }
  where
    not_control : (a b c : Bool) → not (a || b || c) ≡ true → c ≡ false
    not_control true b c e = absurd cc
    not_control false true c e = absurd cc
    not_control false false true e = absurd cc
    not_control false false false e = refl

    white : (a b c : Bool) → not (a || b || c) ≡ true → a ≡ false
    white true b c e = absurd cc
    white false b c e = refl

    no_byte : (n : ℕ) → begins_plain flow (n ∷ cs) ≡ false → eqb c n ≡ false
    no_byte n never = not_so (eqb c n) (λ is. both (begins_plain flow (c ∷ cs)) begun (ap (λ (x : ℕ). begins_plain flow (x ∷ cs)) (eqb-true c n is) ∙ never))

pub scalar_token_place : (flow : Bool) (a : At) (w : ScalarToken) → scalar_token_at flow a ≡ Ok w → ScalarTokenPlace a
unfolding scalar_token_at
scalar_token_place flow a w e =
    elim (cases_Bool (begins 39 a.line)) [
      | inl single ↦ quote_place 39 a (λ cs. record { solid = refl; dash = refl; dashes = and_false (eqb a.col 0); dots = and_false (eqb a.col 0); percent = refl; clean = low_control 39 cs refl }) single
      | inr no_single ↦ elim (cases_Bool (begins 34 a.line)) [
        | inl double ↦ quote_place 34 a (λ cs. record { solid = refl; dash = refl; dashes = and_false (eqb a.col 0); dots = and_false (eqb a.col 0); percent = refl; clean = low_control 34 cs refl }) double
        | inr no_double ↦
            let plain = sym (if_false (begins 39 a.line) _ _ no_single ∙ if_false (begins 34 a.line) _ _ no_double) ∙ e in
            let b = and_parts (not (at_mark a)) (begins_plain flow a.line) (plain_begun flow a w plain).begun in
            plain_place flow a a.line refl (unmarked (at_mark a) b.0) b.1 (scalar_token_opener flow a.col a.line a.later w e).dash
      ]
    ]
  where
    unmarked : (b : Bool) → not b ≡ true → b ≡ false
    unmarked true e = absurd cc
    unmarked false e = refl

pub key_place : (a : At) (w : ScalarToken) → key_at a ≡ Ok w → ScalarTokenPlace a
unfolding key_at
key_place a w e = from (scalar_token_at false a) refl e
  where
    from : (r : Result ScalarToken Fault) → scalar_token_at false a ≡ r → (r >>= colon_behind) ≡ Ok w → ScalarTokenPlace a
    from (Ok v) is e = scalar_token_place false a v is
    from (Err f) is e = absurd cc

-- where a plain scalar ends stands none
quoted_style : (style : Style) (a : At) (found : Found) (w : ScalarToken) → quoted_at style a found ≡ Ok w → w.scalar.style ≡ style
quoted_style style a found w e = sym (ap (λ (x : ScalarToken). x.scalar.style) (quotes style a found w e).is)

pub unquoted : (flow : Bool) (a : At) (w : ScalarToken) → scalar_token_at flow a ≡ Ok w → is_quoted w.scalar ≡ false → plain_at flow a ≡ Ok w
unfolding scalar_token_at
unquoted flow a w e plain =
    elim (cases_Bool (begins 39 a.line)) [
      | inl single ↦
          let style = quoted_style styles.SingleQuoted a (single_at (drop 1 a.line)) w (sym (if_true (begins 39 a.line) _ _ single) ∙ e) in
          absurd (both (is_quoted w.scalar) (ap (λ (x : Style). not (is_plain x)) style) plain)
      | inr no_single ↦ elim (cases_Bool (begins 34 a.line)) [
        | inl double ↦
            let style = quoted_style styles.DoubleQuoted a (double_quoted_at (drop 1 a.line)) w (sym (if_false (begins 39 a.line) _ _ no_single ∙ if_true (begins 34 a.line) _ _ double) ∙ e) in
            absurd (both (is_quoted w.scalar) (ap (λ (x : Style). not (is_plain x)) style) plain)
        | inr no_double ↦ sym (if_false (begins 39 a.line) _ _ no_single ∙ if_false (begins 34 a.line) _ _ no_double) ∙ e
      ]
    ]

pub plain_stops : (flow : Bool) (a : At) (w : ScalarToken) → scalar_token_at flow a ≡ Ok w → is_quoted w.scalar ≡ false → plain_len flow false w.end.line ≡ 0
plain_stops flow a w e plain = plain_ends flow a w (unquoted flow a w e plain)
