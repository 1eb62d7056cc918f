-- Scans of one line, when something else stands behind what they read.
use Rattle.std.proofs.Common.{◌≡◌, ℕ, zero, suc, ◌≤◌, ◌+◌, ◌-◌, ◌*◌, ◌⊎◌, List, [], ◌∷◌, ◌++◌, drop, length, Bool, true, false, not, cond, ◌&&◌, ◌||◌, eqb, ltb, Option, Some, None, Ok, Err, nat_eq, refl, sym, ap, ◌∙◌, subst, inl, inr, arith, take}
use Rattle.std.specs.List.{starts_with}
use Rattle.std.specs.Char.{digit_value, is_digit}
use lib.Utf8.{scalar}
use Rattle.std.proofs.lemmas.Bool.{eqb-true}
use Rattle.yaml_scan.specs.Bytes.{is_space, is_white, is_control_byte, is_control, is_flow_mark, ends_mark}
use Rattle.yaml_scan.specs.Plain.{is_indicator, parts, ends_plain, with_byte, plain_len, begins_plain}
use Rattle.yaml_scan.specs.Quoted.{digits_wanted, escaped}
use Rattle.yaml_scan.specs.QuotedLaws.{found_is, same_text, same_rest, texted, text_on}
use Rattle.yaml_scan.specs.QuotedScan.{Found, Open, Bad, with_text, single_at, Turn, text_turn, escape_turn, hex_turn, digit_turn, turn_at, continued, closes, double_at, double_quoted_at}
use Rattle.yaml_small.specs.Places.{begins}
use Rattle.yaml_small.specs.MarkLaws.{and_parts, and_false, not_so, both}

abbrev pub first_of : List ℕ → Option ℕ
first_of [] = None
first_of (c ∷ cs) = Some c

-- no byte of a byte order mark stands here
abbrev pub is_low : ℕ → Bool
is_low c = not (eqb 239 c || eqb 187 c || eqb 191 c)

abbrev pub low : List ℕ → Bool
low [] = true
low (c ∷ cs) = is_low c

-- neither a colon begins the line, nor a byte above those of ASCII and of the control characters behind it
abbrev pub begins_low : List ℕ → Bool
begins_low [] = true
begins_low (c ∷ cs) = ltb c 160 && not (eqb c 58)

pub white_low : (c : ℕ) → is_white c ≡ true → is_low c ≡ true
white_low c e = from (eqb c 32) refl e
  where
    from : (b : Bool) → eqb c 32 ≡ b → b || eqb c 9 ≡ true → is_low c ≡ true
    from true is e = rw (eqb-true c 32 is) refl
    from false is e = rw (eqb-true c 9 e) refl

-- three bytes
pub three : (x y z : ℕ) (line : List ℕ) → starts_with nat_eq line (x ∷ y ∷ z ∷ []) ≡ true → line ≡ x ∷ y ∷ z ∷ drop 3 line
three x y z [] e = absurd cc
three x y z (a ∷ []) e = absurd (short (eqb x a) e)
  where
    short : (b : Bool) → b && false ≡ true → ⊥
    short true e = absurd cc
    short false e = absurd cc
three x y z (a ∷ b ∷ []) e = absurd (short (eqb x a) (eqb y b) e)
  where
    short : (b c : Bool) → b && (c && false) ≡ true → ⊥
    short true true e = absurd cc
    short true false e = absurd cc
    short false c e = absurd cc
three x y z (a ∷ b ∷ c ∷ cs) e =
    let p = and_parts (eqb x a) (eqb y b && (eqb z c && true)) e in
    let q = and_parts (eqb y b) (eqb z c && true) p.1 in
    let r = and_parts (eqb z c) true q.1 in
    rw (eqb-true x a p.0, eqb-true y b q.0, eqb-true z c r.0) refl

some_byte : ℕ → Option ℕ
some_byte c = Some c

byte_is : (c d : ℕ) → some_byte c ≡ some_byte d → c ≡ d
unfolding some_byte
byte_is c d e = cc

pub same_begins : (n : ℕ) (t r : List ℕ) → first_of t ≡ first_of r → begins n t ≡ begins n r
unfolding some_byte
same_begins n [] [] e = refl
same_begins n [] (d ∷ r) e = absurd cc
same_begins n (c ∷ t) [] e = absurd cc
same_begins n (c ∷ t) (d ∷ r) e = ap (λ (x : ℕ). eqb x n) (byte_is c d e)

pub same_parts : (flow : Bool) (t r : List ℕ) → first_of t ≡ first_of r → parts flow t ≡ parts flow r
unfolding some_byte
same_parts flow [] [] e = refl
same_parts flow [] (d ∷ r) e = absurd cc
same_parts flow (c ∷ t) [] e = absurd cc
same_parts flow (c ∷ t) (d ∷ r) e = ap (λ (x : ℕ). is_space x || (flow && is_flow_mark x)) (byte_is c d e)

-- what a scan of a line's front asks of the line's rest is the same of two rests
pub record Looks (flow : Bool) (r t : List ℕ) : Type 0 where
  pub plain : (white : Bool) → plain_len flow white t ≡ plain_len flow white r
  pub control : (c : ℕ) → is_control (c ∷ t) ≡ is_control (c ∷ r)
  pub part : parts flow t ≡ parts flow r
  pub begun : begins_plain flow t ≡ begins_plain flow r
  pub first : first_of t ≡ first_of r
  pub mark : ends_mark t ≡ ends_mark r

pub looks_same : (flow : Bool) (r : List ℕ) → Looks flow r r
looks_same flow r = record { plain = λ white. refl; control = λ c. refl; part = refl; begun = refl; first = refl; mark = refl }

-- the same, but for how the rests begin: behind one byte, and behind each
pub record NearTo (flow : Bool) (c : ℕ) (r t : List ℕ) : Type 0 where
  pub plain : (white : Bool) → plain_len flow white t ≡ plain_len flow white r
  pub control : is_control (c ∷ t) ≡ is_control (c ∷ r)
  pub part : parts flow t ≡ parts flow r

abbrev pub Near : Bool → List ℕ → List ℕ → Type 0
Near flow r t = (c : ℕ) → NearTo flow c r t

pub near_of : (flow : Bool) (r t : List ℕ) → Looks flow r t → Near flow r t
near_of flow r t l = λ c. record { plain = l.plain; control = l.control c; part = l.part }

plain_behind : (flow white : Bool) (c : ℕ) (r t : List ℕ) → NearTo flow c r t → plain_len flow white (c ∷ t) ≡ plain_len flow white (c ∷ r)
plain_behind flow white c r t l = rw (l.part, l.control, l.plain (is_white c)) refl

control_behind : (c d : ℕ) (r t : List ℕ) → is_control (c ∷ d ∷ t) ≡ is_control (c ∷ d ∷ r)
control_behind c d r t = refl

part_behind : (flow : Bool) (c : ℕ) (r t : List ℕ) → parts flow (c ∷ t) ≡ parts flow (c ∷ r)
part_behind flow c r t = refl

begun_behind : (flow : Bool) (c : ℕ) (r t : List ℕ) → NearTo flow c r t → begins_plain flow (c ∷ t) ≡ begins_plain flow (c ∷ r)
begun_behind flow c r t l = rw (l.part, l.control) refl

-- one byte more in front
pub looks_behind : (flow : Bool) (c : ℕ) (r t : List ℕ) → NearTo flow c r t → Looks flow (c ∷ r) (c ∷ t)
looks_behind flow c r t l = record {
  plain = λ white. plain_behind flow white c r t l;
  control = λ b. control_behind b c r t;
  part = part_behind flow c r t;
  begun = begun_behind flow c r t l;
  first = refl;
  mark = ap (λ (b : Bool). is_white c || b) l.control;
}

pub looks_far : (flow : Bool) (u r t : List ℕ) → Looks flow r t → Looks flow (u ++ r) (u ++ t)
looks_far flow [] r t l = l
looks_far flow (c ∷ u) r t l = looks_behind flow c (u ++ r) (u ++ t) (near_of flow (u ++ r) (u ++ t) (looks_far flow u r t l) c)

-- a byte that begins no control character of two bytes
pub low_control : (c : ℕ) (r : List ℕ) → eqb c 194 ≡ false → is_control (c ∷ r) ≡ is_control (c ∷ [])
low_control c [] e = refl
low_control c (d ∷ r) e = ap (λ (b : Bool). is_control_byte c || (b && ltb d 160)) e ∙ alone (is_control_byte c)
  where
    alone : (b : Bool) → b || false ≡ b
    alone true = refl
    alone false = refl

record IsStop (flow : Bool) (c : ℕ) (r : List ℕ) : Type 0 where
  ends : (white : Bool) → ends_plain flow white (c ∷ r) ≡ true
  begun : begins_plain flow (c ∷ r) ≡ false

stop_len : (flow white : Bool) (c : ℕ) (r : List ℕ) → IsStop flow c r → plain_len flow white (c ∷ r) ≡ 0
stop_len flow white c r s = ap (λ (b : Bool). cond b 0 (with_byte c (plain_len flow (is_white c) r))) (s.ends white)

looks_stop : (flow : Bool) (c : ℕ) (r t : List ℕ) → eqb c 194 ≡ false → IsStop flow c r → IsStop flow c t → Looks flow (c ∷ r) (c ∷ t)
looks_stop flow c r t other s z = record {
  plain = λ white. stop_len flow white c t z ∙ sym (stop_len flow white c r s);
  control = λ b. refl;
  part = refl;
  begun = z.begun ∙ sym s.begun;
  first = refl;
  mark = ap (λ (b : Bool). is_white c || b) (low_control c t other ∙ sym (low_control c r other));
}

pub looks_comma : (r t : List ℕ) → Looks true (44 ∷ r) (44 ∷ t)
looks_comma r t = looks_stop true 44 r t refl (record { ends = λ white. refl; begun = refl }) (record { ends = λ white. refl; begun = refl })

pub looks_bracket : (r t : List ℕ) → Looks true (93 ∷ r) (93 ∷ t)
looks_bracket r t = looks_stop true 93 r t refl (record { ends = λ white. refl; begun = refl }) (record { ends = λ white. refl; begun = refl })

pub looks_brace : (r t : List ℕ) → Looks true (125 ∷ r) (125 ∷ t)
looks_brace r t = looks_stop true 125 r t refl (record { ends = λ white. refl; begun = refl }) (record { ends = λ white. refl; begun = refl })

colon_stop : (flow : Bool) (r : List ℕ) → parts flow r ≡ true → IsStop flow 58 r
colon_stop flow r e = record { ends = λ white. rw e refl; begun = rw e (and_false _) }

pub looks_colon : (flow : Bool) (r t : List ℕ) → parts flow r ≡ true → parts flow t ≡ true → Looks flow (58 ∷ r) (58 ∷ t)
looks_colon flow r t e f = looks_stop flow 58 r t refl (colon_stop flow r e) (colon_stop flow t f)

-- the bytes of a plain scalar are there
len_step : (c n : ℕ) (cs : List ℕ) → n ≤ length cs → with_byte c n ≤ suc (length cs)
len_step c zero cs le = from (is_white c)
  where
    from : (b : Bool) → cond b 0 1 ≤ suc (length cs)
    from true = omega arith
    from false = omega arith
len_step c (suc n) cs le = omega arith

pub plain_within : (flow white : Bool) (line : List ℕ) → plain_len flow white line ≤ length line
plain_within flow white [] = omega arith
plain_within flow white (c ∷ cs) = from (ends_plain flow white (c ∷ cs)) (len_step c (plain_len flow (is_white c) cs) cs (plain_within flow (is_white c) cs))
  where
    from : (b : Bool) → with_byte c (plain_len flow (is_white c) cs) ≤ suc (length cs) → cond b 0 (with_byte c (plain_len flow (is_white c) cs)) ≤ suc (length cs)
    from true le = omega arith
    from false le = le

-- where a plain scalar begins it has a byte
no_start : (flow : Bool) (c n : ℕ) (cs : List ℕ) → begins_plain flow (n ∷ cs) ≡ false → begins_plain flow (c ∷ cs) ≡ true → eqb c n ≡ false
no_start flow c n cs never e = not_so (eqb c n) (λ is. both (begins_plain flow (c ∷ cs)) e (ap (λ (x : ℕ). begins_plain flow (x ∷ cs)) (eqb-true c n is) ∙ never))

not_ending : (flow : Bool) (c : ℕ) (cs : List ℕ) → begins_plain flow (c ∷ cs) ≡ true → (ends_plain flow false (c ∷ cs) ≡ false) × (is_white c ≡ false)
not_ending flow c cs e =
    let p = and_parts (not (is_white c || is_indicator c || is_control (c ∷ cs))) _ e in
    let colon : eqb c 58 && parts flow cs ≡ false = from (parts flow cs) refl in
    let flow_mark : is_flow_mark c ≡ false = rw (no_start flow c 44 cs refl e, no_start flow c 91 cs refl e, no_start flow c 93 cs refl e, no_start flow c 123 cs refl e, no_start flow c 125 cs refl e) refl in
    let q = none (is_white c) (is_indicator c) (is_control (c ∷ cs)) p.0 in
    (rw (and_false (eqb c 35), colon, flow_mark, and_false flow, q.1) refl, q.0)
  where
    none : (a b d : Bool) → not (a || b || d) ≡ true → (a ≡ false) × (d ≡ false)
    none true b d e = absurd cc
    none false true d e = absurd cc
    none false false true e = absurd cc
    none false false false e = (refl, refl)

    from : (b : Bool) → parts flow cs ≡ b → eqb c 58 && parts flow cs ≡ false
    from true is = ap (λ (b : Bool). b && parts flow cs) (no_start flow c 58 cs (rw is (and_false _)) e)
    from false is = rw is (and_false (eqb c 58))

pub plain_some : (flow : Bool) (line : List ℕ) → begins_plain flow line ≡ true → (c : ℕ) × ((u : List ℕ) × (take (plain_len flow false line) line ≡ c ∷ u))
plain_some flow [] e = absurd cc
plain_some flow (c ∷ cs) e =
    let n = not_ending flow c cs e in
    let long = byte_long (plain_len flow (is_white c) cs) n.1 in
    (c, (take long.0 cs, ap (λ (m : ℕ). take m (c ∷ cs)) (ap (λ (b : Bool). cond b 0 (with_byte c (plain_len flow (is_white c) cs))) n.0 ∙ long.1)))
  where
    byte_long : (m : ℕ) → is_white c ≡ false → (k : ℕ) × (with_byte c m ≡ suc k)
    byte_long zero dark = (0, rw dark refl)
    byte_long (suc m) dark = (suc m, refl)

-- behind a plain scalar stands none
pub rest_stops : (flow white : Bool) (line : List ℕ) → (plain_len flow white line ≡ 0) ⊎ (plain_len flow false (drop (plain_len flow white line) line) ≡ 0)
rest_stops flow white [] = inl refl
rest_stops flow white (c ∷ cs) = from (ends_plain flow white (c ∷ cs)) (plain_len flow (is_white c) cs) refl (rest_stops flow (is_white c) cs)
  where
    some : (m : ℕ) → suc m ≡ 0 → ⊥
    some m e = omega arith

    single : (b : Bool) → is_white c ≡ b → plain_len flow (is_white c) cs ≡ 0 → (cond {A = ℕ} b 0 1 ≡ 0) ⊎ (plain_len flow false (drop (cond b 0 1) (c ∷ cs)) ≡ 0)
    single true is none = inl refl
    single false is none = inr (ap (λ (w : Bool). plain_len flow w cs) (sym is) ∙ none)

    from : (b : Bool) (m : ℕ) → plain_len flow (is_white c) cs ≡ m → (plain_len flow (is_white c) cs ≡ 0) ⊎ (plain_len flow false (drop (plain_len flow (is_white c) cs) cs) ≡ 0)
        → (cond b 0 (with_byte c m) ≡ 0) ⊎ (plain_len flow false (drop (cond b 0 (with_byte c m)) (c ∷ cs)) ≡ 0)
    from true m is h = inl refl
    from false zero is h = single (is_white c) refl is
    from false (suc m) is h = elim h [
      | inl none ↦ absurd (some m (sym is ∙ none))
      | inr stop ↦ inr (ap (λ (n : ℕ). plain_len flow false (drop n cs)) (sym is) ∙ stop)
    ]

-- quoted scalars
-- What is found is the same whatever stands behind it, but for what does not pass this test.
pub record Closed (scan : List ℕ → Found) (may : List ℕ → Bool) (line text rest : List ℕ) : Type 0 where
  pub byte : ℕ
  pub front : List ℕ
  pub is : line ≡ byte ∷ (front ++ rest)
  pub found : (t : List ℕ) → may t ≡ true → scan (byte ∷ (front ++ t)) ≡ found_is text t

refused : {P : Type 0} (text rest : List ℕ) (b : Bool) → cond b (Err Bad) (Err Open) ≡ found_is text rest → P
unfolding found_is
refused text rest true e = absurd cc
refused text rest false e = absurd cc

-- a closing quote
closing : (c : ℕ) (cs text rest : List ℕ) → eqb c 39 ≡ true → found_is [] cs ≡ found_is text rest → Closed single_at (λ t. not (begins 39 t)) (c ∷ cs) text rest
unfolding found_is
closing c cs text rest is e = record {
  byte = c;
  front = [];
  is = ap (λ (x : List ℕ). c ∷ x) (same_rest [] text cs rest e);
  found = λ t may. over t may ∙ ap (λ (x : List ℕ). found_is x t) (same_text [] text cs rest e);
}
  where
    over : (t : List ℕ) → not (begins 39 t) ≡ true → single_at (c ∷ t) ≡ found_is [] t
    over [] may = rw is refl
    over (d ∷ ds) may = rw (is, other (eqb d 39) may) refl
      where
        other : (b : Bool) → not b ≡ true → b ≡ false
        other true e = absurd cc
        other false e = refl

-- two quotes, which are one
doubled : (c d : ℕ) (cs text rest behind : List ℕ) → eqb c 39 ≡ true → eqb d 39 ≡ true → text ≡ (39 ∷ []) ++ behind → Closed single_at (λ t. not (begins 39 t)) cs behind rest → Closed single_at (λ t. not (begins 39 t)) (c ∷ d ∷ cs) text rest
doubled c d cs text rest behind first second all h = record {
  byte = c;
  front = d ∷ h.byte ∷ h.front;
  is = ap (λ (x : List ℕ). c ∷ d ∷ x) h.is;
  found = λ t may. rw (first, second) (text_on (39 ∷ []) behind t text (single_at (h.byte ∷ (h.front ++ t))) (h.found t may) all);
}

-- a byte of the text
longer : (c d : ℕ) (cs text rest behind : List ℕ) → eqb c 39 ≡ false → is_control (c ∷ d ∷ cs) ≡ false → text ≡ (c ∷ []) ++ behind → Closed single_at (λ t. not (begins 39 t)) (d ∷ cs) behind rest → Closed single_at (λ t. not (begins 39 t)) (c ∷ d ∷ cs) text rest
longer c d cs text rest behind other clean all h = record {
  byte = c;
  front = h.byte ∷ h.front;
  is = ap (λ (x : List ℕ). c ∷ x) h.is;
  found = λ t may. rw (other, near t) (text_on (c ∷ []) behind t text (single_at (h.byte ∷ (h.front ++ t))) (h.found t may) all);
}
  where
    near : (t : List ℕ) → is_control (c ∷ h.byte ∷ (h.front ++ t)) ≡ false
    near t = ap (λ (x : List ℕ). is_control (c ∷ x)) (sym h.is) ∙ clean

-- what may stand behind a closing single quote
abbrev pub no_quote : List ℕ → Bool
no_quote t = not (begins 39 t)

at_first : (c : ℕ) (text rest : List ℕ) (b : Bool) → eqb c 39 ≡ b → cond b (found_is [] []) (cond (is_control (c ∷ [])) (Err Bad) (Err Open)) ≡ found_is text rest → Closed single_at no_quote (c ∷ []) text rest
at_first c text rest true is e = closing c [] text rest is e
at_first c text rest false is e = refused text rest (is_control (c ∷ [])) e

at_second : (c d : ℕ) (cs text rest : List ℕ) (b : Bool) → ((behind : List ℕ) → single_at cs ≡ found_is behind rest → Closed single_at no_quote cs behind rest) → eqb c 39 ≡ true → eqb d 39 ≡ b
    → cond b (with_text (39 ∷ []) (single_at cs)) (found_is [] (d ∷ cs)) ≡ found_is text rest → Closed single_at no_quote (c ∷ d ∷ cs) text rest
at_second c d cs text rest true onward first second e =
    let t = texted (39 ∷ []) text rest (single_at cs) e in
    doubled c d cs text rest t.behind first second t.all (onward t.behind t.is)
at_second c d cs text rest false onward first second e = closing c (d ∷ cs) text rest first e

at_byte : (c d : ℕ) (cs text rest : List ℕ) (b : Bool) → ((behind : List ℕ) → single_at (d ∷ cs) ≡ found_is behind rest → Closed single_at no_quote (d ∷ cs) behind rest) → eqb c 39 ≡ false → is_control (c ∷ d ∷ cs) ≡ b
    → cond b (Err Bad) (with_text (c ∷ []) (single_at (d ∷ cs))) ≡ found_is text rest → Closed single_at no_quote (c ∷ d ∷ cs) text rest
unfolding found_is
at_byte c d cs text rest true onward other clean e = absurd cc
at_byte c d cs text rest false onward other clean e =
    let t = texted (c ∷ []) text rest (single_at (d ∷ cs)) e in
    longer c d cs text rest t.behind other clean t.all (onward t.behind t.is)

at_two : (c d : ℕ) (cs text rest : List ℕ) (b : Bool) → ((behind : List ℕ) → single_at cs ≡ found_is behind rest → Closed single_at no_quote cs behind rest)
    → ((behind : List ℕ) → single_at (d ∷ cs) ≡ found_is behind rest → Closed single_at no_quote (d ∷ cs) behind rest) → eqb c 39 ≡ b
    → cond b (cond (eqb d 39) (with_text (39 ∷ []) (single_at cs)) (found_is [] (d ∷ cs))) (cond (is_control (c ∷ d ∷ cs)) (Err Bad) (with_text (c ∷ []) (single_at (d ∷ cs)))) ≡ found_is text rest
    → Closed single_at no_quote (c ∷ d ∷ cs) text rest
at_two c d cs text rest true quoted next is e = at_second c d cs text rest (eqb d 39) quoted is refl e
at_two c d cs text rest false quoted next is e = at_byte c d cs text rest (is_control (c ∷ d ∷ cs)) next is refl e

-- Single quotes.
pub single_closed : (line text rest : List ℕ) → single_at line ≡ found_is text rest → Closed single_at no_quote line text rest
unfolding found_is
single_closed [] text rest e = absurd cc
single_closed (c ∷ []) text rest e = at_first c text rest (eqb c 39) refl e
single_closed (c ∷ d ∷ cs) text rest e =
    at_two c d cs text rest (eqb c 39) (λ behind h. single_closed cs behind rest h) (λ behind h. single_closed (d ∷ cs) behind rest h) refl e

-- What the next byte of a double-quoted scalar gives depends on no more than the byte behind it.
pub record Known (t : Turn) : Type 0 where
  pub either : ((c : ℕ) (cs : List ℕ) → turn_at t.next c cs ≡ text_turn c cs) ⊎ ((c : ℕ) (cs : List ℕ) → turn_at t.next c cs ≡ escape_turn (digits_wanted c) (escaped c))
      ⊎ ((wanted : ℕ) × ((value : ℕ) × ((c : ℕ) (cs : List ℕ) → turn_at t.next c cs ≡ digit_turn wanted value c)))

abbrev KnownOf : Option Turn → Type 0
KnownOf None = Unit {0}
KnownOf (Some t) = Known t

known_if : (b : Bool) (x y : Option Turn) → KnownOf x → KnownOf y → KnownOf (cond b x y)
known_if true x y p q = p
known_if false x y p q = q

known_text : (c : ℕ) (cs : List ℕ) → KnownOf (text_turn c cs)
known_text c cs =
    known_if (eqb c 92) _ _ (record { either = inr (inl (λ d ds. refl)) }) (known_if (is_control (c ∷ cs)) None _ tt (record { either = inl (λ d ds. refl) }))

known_escape : (wanted character : Option ℕ) → KnownOf (escape_turn wanted character)
known_escape (Some wanted) character = record { either = inr (inr (wanted, (0, λ d ds. refl))) }
known_escape None (Some character) = record { either = inl (λ d ds. refl) }
known_escape None None = tt

known_hex : (wanted value : ℕ) → KnownOf (hex_turn wanted value)
known_hex wanted value =
    known_if (ltb value 0x110000) _ None
    (known_if (eqb wanted 1) _ _ (known_if (scalar value) _ None (record { either = inl (λ d ds. refl) }) tt) (record { either = inr (inr (wanted - 1, (value, λ d ds. refl))) })) tt

known_digit : (wanted value c : ℕ) → KnownOf (digit_turn wanted value c)
known_digit wanted value c = known_if (is_digit c 16) _ None (known_hex wanted (16 * value + digit_value c)) tt

known_next : (t u : Turn) (c : ℕ) (cs : List ℕ) → Known t → turn_at t.next c cs ≡ Some u → Known u
known_next t u c cs k e =
    elim (k.either) [
      | inl text ↦ subst KnownOf (sym (text c cs) ∙ e) (known_text c cs)
      | inr (inl escape) ↦ subst KnownOf (sym (escape c cs) ∙ e) (known_escape (digits_wanted c) (escaped c))
      | inr (inr (wanted, (value, digit))) ↦ subst KnownOf (sym (digit c cs) ∙ e) (known_digit wanted value c)
    ]

near : (t : Turn) (c x : ℕ) (p q : List ℕ) → Known t → turn_at t.next c (x ∷ p) ≡ turn_at t.next c (x ∷ q)
near t c x p q k =
    elim (k.either) [
      | inl text ↦ text c (x ∷ p) ∙ sym (text c (x ∷ q))
      | inr (inl escape) ↦ escape c (x ∷ p) ∙ sym (escape c (x ∷ q))
      | inr (inr (wanted, (value, digit))) ↦ digit c (x ∷ p) ∙ sym (digit c (x ∷ q))
    ]

abbrev pub anything : List ℕ → Bool
anything t = true

abbrev pub double_from : Turn → List ℕ → Found
double_from t line = double_at line t.next

turned : (c : ℕ) (cs text rest : List ℕ) (t : Turn) (o : Option Turn) → Known t
    → ((u : Turn) (behind : List ℕ) → Known u → double_from u cs ≡ found_is behind rest → Closed (double_from u) anything cs behind rest)
    → closes t.next c ≡ false → turn_at t.next c cs ≡ o → continued o (double_at cs) ≡ found_is text rest → Closed (double_from t) anything (c ∷ cs) text rest
unfolding found_is
turned c cs text rest t None k onward other is e = absurd cc
turned c cs text rest t (Some u) k onward other is e =
    let x = texted u.text text rest (double_from u cs) e in
    let h = onward u x.behind (known_next t u c cs k is) x.is in
    record {
      byte = c;
      front = h.byte ∷ h.front;
      is = ap (λ (x : List ℕ). c ∷ x) h.is;
      found = λ s may.
          let same : turn_at t.next c (h.byte ∷ (h.front ++ s)) ≡ Some u = near t c h.byte (h.front ++ s) (h.front ++ rest) k ∙ ap (turn_at t.next c) (sym h.is) ∙ is in
          ap (λ (b : Bool). cond b (Ok ([], h.byte ∷ (h.front ++ s))) (continued (turn_at t.next c (h.byte ∷ (h.front ++ s))) (double_at (h.byte ∷ (h.front ++ s))))) other
          ∙ ap (λ (o : Option Turn). continued o (double_at (h.byte ∷ (h.front ++ s)))) same
          ∙ text_on u.text x.behind s text (double_from u (h.byte ∷ (h.front ++ s))) (h.found s may) x.all;
    }

at_turn : (c : ℕ) (cs text rest : List ℕ) (t : Turn) (b : Bool) → Known t
    → ((u : Turn) (behind : List ℕ) → Known u → double_from u cs ≡ found_is behind rest → Closed (double_from u) anything cs behind rest)
    → closes t.next c ≡ b → cond b (found_is [] cs) (continued (turn_at t.next c cs) (double_at cs)) ≡ found_is text rest → Closed (double_from t) anything (c ∷ cs) text rest
unfolding found_is
at_turn c cs text rest t true k onward is e = record {
  byte = c;
  front = [];
  is = ap (λ (x : List ℕ). c ∷ x) (same_rest [] text cs rest e);
  found = λ s may.
      ap (λ (b : Bool). cond b (found_is [] s) (continued (turn_at t.next c s) (double_at s))) is ∙ ap (λ (x : List ℕ). found_is x s) (same_text [] text cs rest e);
}
at_turn c cs text rest t false k onward is e = turned c cs text rest t (turn_at t.next c cs) k onward is refl e

double_within : (line : List ℕ) (t : Turn) (text rest : List ℕ) → Known t → double_from t line ≡ found_is text rest → Closed (double_from t) anything line text rest
unfolding found_is
double_within [] t text rest k e = absurd cc
double_within (c ∷ cs) t text rest k e = at_turn c cs text rest t (closes t.next c) k (λ u behind known h. double_within cs u behind rest known h) refl e

abbrev ClosedOf : Option Turn → List ℕ → List ℕ → List ℕ → Type 0
ClosedOf None line text rest = Unit {0}
ClosedOf (Some t) line text rest = double_from t line ≡ found_is text rest → Closed (double_from t) anything line text rest

closed_of : (o : Option Turn) (line text rest : List ℕ) → KnownOf o → ClosedOf o line text rest
closed_of None line text rest k = tt
closed_of (Some t) line text rest k = λ e. double_within line t text rest k e

-- Double quotes.
pub double_closed : (line text rest : List ℕ) → double_quoted_at line ≡ found_is text rest → Closed double_quoted_at anything line text rest
double_closed line text rest e = closed_of (text_turn 97 []) line text rest (known_text 97 []) e
