-- A text, cut at a place of its lines.
use Rattle.std.proofs.Common.{◌≡◌, ℕ, ◌⊎◌, List, [], ◌∷◌, ◌++◌, Bool, true, false, cond, ◌&&◌, eqb, refl, sym, ap, ◌∙◌, subst, inl, inr, append_assoc}
use Rattle.std.proofs.lemmas.Bool.{cases_Bool, eqb-true}
use Rattle.yaml_scan.specs.Lines.{lines_of, lengthened, begins_feed}
use Rattle.yaml_small.specs.Scalars.{NotCarried, open_fault}
use Rattle.yaml_small.specs.ScanLaws.{lines_of-open}
use Rattle.yaml_small.specs.MarkLaws.{and_parts, and_false}

-- The text in front of the place, and behind it; and other text may stand there that begins with no line feed.
pub record Divided (text : List ℕ) (before : List (List ℕ)) (front line : List ℕ) (later : List (List ℕ)) : Type 0 where
  pub head : List ℕ
  pub rest : List ℕ
  pub text_is : text ≡ head ++ rest
  pub rest_is : lines_of rest ≡ line ∷ later
  pub other : (t : List ℕ) (l : List ℕ) (ls : List (List ℕ)) → begins_feed t ≡ false → lines_of t ≡ l ∷ ls → lines_of (head ++ t) ≡ before ++ ((front ++ l) ∷ ls)

-- at the text's start
cut_here : (text line : List ℕ) (later : List (List ℕ)) → lines_of text ≡ line ∷ later → Divided text [] [] line later
cut_here text line later e = record { head = []; rest = text; text_is = refl; rest_is = e; other = λ t l ls none is. is }

head_of : (l m : List ℕ) (ls ms : List (List ℕ)) → l ∷ ls ≡ m ∷ ms → l ≡ m
head_of l m ls ms e = cc

tail_of : (l m : List ℕ) (ls ms : List (List ℕ)) → l ∷ ls ≡ m ∷ ms → ls ≡ ms
tail_of l m ls ms e = cc

-- behind a line's end, which these bytes make
cut_ended : (ending text : List ℕ) (before : List (List ℕ)) (front line : List ℕ) (later : List (List ℕ)) → ((t : List ℕ) → lines_of (ending ++ t) ≡ [] ∷ lines_of t) → [] ∷ lines_of text ≡ before ++ ((front ++ line) ∷ later)
    → ((more : List (List ℕ)) → lines_of text ≡ more ++ ((front ++ line) ∷ later) → Divided text more front line later) → Divided (ending ++ text) before front line later
cut_ended ending text [] [] line later ends e on = cut_here (ending ++ text) line later (ends text ∙ e)
cut_ended ending text [] (c ∷ front) line later ends e on = absurd (none (head_of [] (c ∷ (front ++ line)) (lines_of text) later e))
  where
    none : [] ≡ c ∷ (front ++ line) → ⊥
    none e = absurd cc
cut_ended ending text (b ∷ before) front line later ends e on =
    let c = on before (tail_of [] b (lines_of text) (before ++ ((front ++ line) ∷ later)) e) in
    let empty : [] ≡ b = head_of [] b (lines_of text) (before ++ ((front ++ line) ∷ later)) e in
    record {
      head = ending ++ c.head;
      rest = c.rest;
      text_is = ap (λ (x : List ℕ). ending ++ x) c.text_is ∙ sym (append_assoc ending c.head c.rest);
      rest_is = c.rest_is;
      other = λ t l ls none is.
          ap lines_of (append_assoc ending c.head t) ∙ ends (c.head ++ t) ∙ ap (λ (x : List (List ℕ)). [] ∷ x) (c.other t l ls none is)
          ∙ ap (λ (x : List ℕ). x ∷ (before ++ ((front ++ l) ∷ ls))) empty;
    }

-- a byte of a line
feed_front : (cs head rest t : List ℕ) → cs ≡ head ++ rest → begins_feed cs ≡ false → begins_feed t ≡ false → begins_feed (head ++ t) ≡ false
feed_front cs [] rest t is none new = new
feed_front cs (d ∷ head) rest t is none new = sym (ap begins_feed is) ∙ none

no_return : (c : ℕ) (cs : List ℕ) → (eqb c 13 && begins_feed cs ≡ false) → (eqb c 13 ≡ false) ⊎ (begins_feed cs ≡ false)
no_return c cs e = from (eqb c 13) e
  where
    from : (b : Bool) → b && begins_feed cs ≡ false → (b ≡ false) ⊎ (begins_feed cs ≡ false)
    from true e = inr e
    from false e = inl refl

byte_on : (c : ℕ) (cs : List ℕ) → eqb c 10 ≡ false → eqb c 13 && begins_feed cs ≡ false → lines_of (c ∷ cs) ≡ lengthened c (lines_of cs)
byte_on c cs p q = from (eqb c 10) (eqb c 13 && begins_feed cs) p q
  where
    from : (a b : Bool) → a ≡ false → b ≡ false → cond a ([] ∷ lines_of cs) (cond b (lines_of cs) (lengthened c (lines_of cs))) ≡ lengthened c (lines_of cs)
    from true b p q = absurd cc
    from false true p q = absurd cc
    from false false p q = refl

still_on : (c : ℕ) (cs head rest t : List ℕ) → cs ≡ head ++ rest → eqb c 13 && begins_feed cs ≡ false → begins_feed t ≡ false → eqb c 13 && begins_feed (head ++ t) ≡ false
still_on c cs head rest t is old new =
    elim (no_return c cs old) [
      | inl other ↦ ap (λ (b : Bool). b && begins_feed (head ++ t)) other
      | inr none ↦ ap (λ (b : Bool). eqb c 13 && b) (feed_front cs head rest t is none new) ∙ and_false (eqb c 13)
    ]

byte_cut : (c : ℕ) (cs : List ℕ) (before : List (List ℕ)) (front line : List ℕ) (later more : List (List ℕ)) (start : List ℕ) → eqb c 10 ≡ false → eqb c 13 && begins_feed cs ≡ false
    → ((l : List ℕ) (ls : List (List ℕ)) → lengthened c (more ++ ((start ++ l) ∷ ls)) ≡ before ++ ((front ++ l) ∷ ls)) → Divided cs more start line later → Divided (c ∷ cs) before front line later
byte_cut c cs before front line later more start p q longer k = record {
  head = c ∷ k.head;
  rest = k.rest;
  text_is = ap (λ (x : List ℕ). c ∷ x) k.text_is;
  rest_is = k.rest_is;
  other = λ t l ls none is.
      byte_on c (k.head ++ t) p (still_on c cs k.head k.rest t k.text_is q none) ∙ ap (lengthened c) (k.other t l ls none is) ∙ longer l ls;
}

cut_byte : (c : ℕ) (cs : List ℕ) (before : List (List ℕ)) (front line : List ℕ) (later : List (List ℕ)) (m : List ℕ) (ms : List (List ℕ)) → eqb c 10 ≡ false → eqb c 13 && begins_feed cs ≡ false → lines_of cs ≡ m ∷ ms
    → (c ∷ m) ∷ ms ≡ before ++ ((front ++ line) ∷ later) → ((more : List (List ℕ)) (start : List ℕ) → lines_of cs ≡ more ++ ((start ++ line) ∷ later) → Divided cs more start line later) → Divided (c ∷ cs) before front line later
cut_byte c cs [] [] line later m ms p q is e on = cut_here (c ∷ cs) line later (byte_on c cs p q ∙ ap (lengthened c) is ∙ e)
cut_byte c cs [] (d ∷ front) line later m ms p q is e on =
    let h = head_of (c ∷ m) (d ∷ (front ++ line)) ms later e in
    let byte : c ≡ d = cc in
    let line_is : m ≡ front ++ line = cc in
    byte_cut c cs [] (d ∷ front) line later [] front p q (λ l ls. ap (λ (x : ℕ). (x ∷ (front ++ l)) ∷ ls) byte)
    (on [] front (is ∙ ap (λ (x : List ℕ). x ∷ ms) line_is ∙ ap (λ (x : List (List ℕ)). (front ++ line) ∷ x) (tail_of (c ∷ m) (d ∷ (front ++ line)) ms later e)))
cut_byte c cs (b ∷ before) front line later m ms p q is e on =
    let h = head_of (c ∷ m) b ms (before ++ ((front ++ line) ∷ later)) e in
    let r = tail_of (c ∷ m) b ms (before ++ ((front ++ line) ∷ later)) e in
    byte_cut c cs (b ∷ before) front line later (m ∷ before) front p q (λ l ls. ap (λ (x : List ℕ). x ∷ (before ++ ((front ++ l) ∷ ls))) h)
    (on (m ∷ before) front (is ∙ ap (λ (x : List (List ℕ)). m ∷ x) r))

some_lines : (cs : List ℕ) (lines : List (List ℕ)) → lines_of cs ≡ lines → (m : List ℕ) × ((ms : List (List ℕ)) × (lines_of cs ≡ m ∷ ms))
some_lines cs [] is = absurd (none (sym (lines_of-open cs) ∙ ap open_fault is))
  where
    none : NotCarried ≡ open_fault [] → ⊥
    none e = absurd cc
some_lines cs (m ∷ ms) is = (m, (ms, is))

cut_other : (c : ℕ) (cs : List ℕ) (before : List (List ℕ)) (front line : List ℕ) (later : List (List ℕ)) → eqb c 10 ≡ false → eqb c 13 && begins_feed cs ≡ false → lines_of (c ∷ cs) ≡ before ++ ((front ++ line) ∷ later)
    → ((more : List (List ℕ)) (start : List ℕ) → lines_of cs ≡ more ++ ((start ++ line) ∷ later) → Divided cs more start line later) → Divided (c ∷ cs) before front line later
cut_other c cs before front line later p q e on =
    let s = some_lines cs (lines_of cs) refl in
    cut_byte c cs before front line later s.0 s.1.0 p q s.1.1 (sym (byte_on c cs p q ∙ ap (lengthened c) s.1.1) ∙ e) on

-- a text without bytes
cut_none : (before : List (List ℕ)) (front line : List ℕ) (later : List (List ℕ)) → [] ∷ [] ≡ before ++ ((front ++ line) ∷ later) → Divided [] before front line later
cut_none [] [] line later e = cut_here [] line later e
cut_none [] (c ∷ front) line later e = absurd (none (head_of [] (c ∷ (front ++ line)) [] later e))
  where
    none : [] ≡ c ∷ (front ++ line) → ⊥
    none e = absurd cc
cut_none (b ∷ before) front line later e = absurd (none before (tail_of [] b [] (before ++ ((front ++ line) ∷ later)) e))
  where
    none : (before : List (List ℕ)) → [] ≡ before ++ ((front ++ line) ∷ later) → ⊥
    none [] e = absurd cc
    none (b ∷ before) e = absurd cc

-- a line's end
cut_feed : (c : ℕ) (cs : List ℕ) (before : List (List ℕ)) (front line : List ℕ) (later : List (List ℕ)) → eqb c 10 ≡ true → lines_of (c ∷ cs) ≡ before ++ ((front ++ line) ∷ later)
    → ((more : List (List ℕ)) → lines_of cs ≡ more ++ ((front ++ line) ∷ later) → Divided cs more front line later) → Divided (c ∷ cs) before front line later
cut_feed c cs before front line later feed e on =
    let is = eqb-true c 10 feed in
    subst (λ (x : ℕ). Divided (x ∷ cs) before front line later) (sym is)
    (cut_ended (10 ∷ []) cs before front line later (λ t. refl) (sym (ap (λ (x : ℕ). lines_of (x ∷ cs)) is) ∙ e) on)

cut_return : (c d : ℕ) (cs : List ℕ) (before : List (List ℕ)) (front line : List ℕ) (later : List (List ℕ)) → eqb c 13 && eqb d 10 ≡ true → lines_of (c ∷ d ∷ cs) ≡ before ++ ((front ++ line) ∷ later)
    → ((more : List (List ℕ)) → lines_of cs ≡ more ++ ((front ++ line) ∷ later) → Divided cs more front line later) → Divided (c ∷ d ∷ cs) before front line later
cut_return c d cs before front line later return e on =
    let p = and_parts (eqb c 13) (eqb d 10) return in
    let first = eqb-true c 13 p.0 in
    let second = eqb-true d 10 p.1 in
    subst (λ (x : ℕ). Divided (x ∷ d ∷ cs) before front line later) (sym first)
    (subst (λ (x : ℕ). Divided (13 ∷ x ∷ cs) before front line later) (sym second)
    (cut_ended (13 ∷ 10 ∷ []) cs before front line later (λ t. refl) (sym (ap (λ (x : ℕ). lines_of (x ∷ d ∷ cs)) first ∙ ap (λ (x : ℕ). lines_of (13 ∷ x ∷ cs)) second) ∙ e) on))

-- A text is cut at any place of its lines.
pub divided : (text : List ℕ) (before : List (List ℕ)) (front line : List ℕ) (later : List (List ℕ)) → lines_of text ≡ before ++ ((front ++ line) ∷ later) → Divided text before front line later
divided [] before front line later e = cut_none before front line later e
divided (c ∷ []) before front line later e =
    elim (cases_Bool (eqb c 10)) [
      | inl feed ↦ cut_feed c [] before front line later feed e (λ more h. divided [] more front line later h)
      | inr other ↦ cut_other c [] before front line later other (and_false (eqb c 13)) e (λ more start h. divided [] more start line later h)
    ]
divided (c ∷ d ∷ cs) before front line later e =
    elim (cases_Bool (eqb c 10)) [
      | inl feed ↦ cut_feed c (d ∷ cs) before front line later feed e (λ more h. divided (d ∷ cs) more front line later h)
      | inr other ↦ elim (cases_Bool (eqb c 13 && eqb d 10)) [
        | inl return ↦ cut_return c d cs before front line later return e (λ more h. divided cs more front line later h)
        | inr none ↦ cut_other c (d ∷ cs) before front line later other none e (λ more start h. divided (d ∷ cs) more start line later h)
      ]
    ]
