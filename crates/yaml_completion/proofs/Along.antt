-- A place leads to a later one over the same text as another place does.
use Rattle.std.proofs.Common.{◌≡◌, ℕ, suc, ◌+◌, List, [], ◌∷◌, ◌++◌, drop, length, Bool, true, false, not, cond, ◌&&◌, ◌||◌, eqb, refl, sym, ap, ◌∙◌, inl, inr, append_assoc, append-nil, one-add}
use Rattle.std.specs.List.{prefix_len}
use Rattle.std.proofs.lemmas.Bool.{cases_Bool}
use Rattle.yaml_scan.specs.Bytes.{is_space, is_white, is_clean}
use Rattle.yaml_scan.specs.Lines.{is_over, is_passed, ends}
use Rattle.yaml_small.specs.Places.{At, past, over}
use Rattle.yaml_small.specs.MarkLaws.{and_parts, and_false}

-- a choice that is made
pub if_true : {A : Type 0} (b : Bool) (x y : A) → b ≡ true → cond b x y ≡ x
if_true b x y e = rw e refl

pub if_false : {A : Type 0} (b : Bool) (x y : A) → b ≡ false → cond b x y ≡ y
if_false b x y e = rw e refl

pub not_true : (b : Bool) → not b ≡ true → b ≡ false
not_true true e = absurd cc
not_true false e = refl

-- lines, and the front of a line, before a place
abbrev pub joined : List (List ℕ) → List ℕ → At → List (List ℕ)
joined before front a = before ++ ((front ++ a.line) ∷ a.later)

pub record Along (a b c d : At) : Type 0 where
  pub before : List (List ℕ)
  pub front : List ℕ
  pub here : a.line ∷ a.later ≡ joined before front b
  pub there : c.line ∷ c.later ≡ joined before front d

pub stays : (a b : At) → Along a a b b
stays a b = record { before = []; front = []; here = refl; there = refl }

-- behind the same bytes
pub ahead : (u : List ℕ) (a b c d : At) → a.line ≡ u ++ b.line → a.later ≡ b.later → c.line ≡ u ++ d.line → c.later ≡ d.later → Along a b c d
ahead u a b c d p q r s = record { before = []; front = u; here = cc; there = cc }

head_is : (l m : List ℕ) (ls ms : List (List ℕ)) → l ∷ ls ≡ m ∷ ms → l ≡ m
head_is l m ls ms e = cc

tail_is : (l m : List ℕ) (ls ms : List (List ℕ)) → l ∷ ls ≡ m ∷ ms → ls ≡ ms
tail_is l m ls ms e = cc

-- what stands before a place stands before those behind it
rejoined : (lines before : List (List ℕ)) (front : List ℕ) (a b : At) (more : List (List ℕ)) (v : List ℕ) → lines ≡ joined before front a → a.line ∷ a.later ≡ joined more v b
    → lines ≡ joined (elim more as (λ (m : List (List ℕ)). List (List ℕ)) [ [] ↦ before | l ∷ ls ↦ before ++ ((front ++ l) ∷ ls) ]) (elim more as (λ (m : List (List ℕ)). List ℕ) [ [] ↦ front ++ v | l ∷ ls ↦ v ]) b
rejoined lines before front a b [] v p q =
    p ∙ ap (λ (x : List ℕ). before ++ ((front ++ x) ∷ a.later)) (head_is a.line (v ++ b.line) a.later b.later q)
    ∙ ap (λ (x : List (List ℕ)). before ++ ((front ++ (v ++ b.line)) ∷ x)) (tail_is a.line (v ++ b.line) a.later b.later q)
    ∙ ap (λ (x : List ℕ). before ++ (x ∷ b.later)) (sym (append_assoc front v b.line))
rejoined lines before front a b (l ∷ ls) v p q =
    p ∙ ap (λ (x : List ℕ). before ++ ((front ++ x) ∷ a.later)) (head_is a.line l a.later (ls ++ ((v ++ b.line) ∷ b.later)) q)
    ∙ ap (λ (x : List (List ℕ)). before ++ ((front ++ l) ∷ x)) (tail_is a.line l a.later (ls ++ ((v ++ b.line) ∷ b.later)) q)
    ∙ sym (append_assoc before ((front ++ l) ∷ ls) ((v ++ b.line) ∷ b.later))

-- lines before places, which stand at the same one of both
pub record Before (lines others : List (List ℕ)) (a c : At) : Type 0 where
  pub before : List (List ℕ)
  pub front : List ℕ
  pub lines_are : lines ≡ joined before front a
  pub others_are : others ≡ joined before front c

pub onward : (lines others : List (List ℕ)) (a b c d : At) → Before lines others a c → Along a b c d → Before lines others b d
onward lines others a b c d p q = record {
  before = elim (q.before) as (λ (m : List (List ℕ)). List (List ℕ)) [ [] ↦ p.before | l ∷ ls ↦ p.before ++ ((p.front ++ l) ∷ ls) ];
  front = elim (q.before) as (λ (m : List (List ℕ)). List ℕ) [ [] ↦ p.front ++ q.front | l ∷ ls ↦ q.front ];
  lines_are = rejoined lines p.before p.front a b q.before q.front p.lines_are q.here;
  others_are = rejoined others p.before p.front c d q.before q.front p.others_are q.there;
}

pub further : (a b c d e f : At) → Along a b c d → Along b e d f → Along a e c f
further a b c d e f p q =
    let r = onward (a.line ∷ a.later) (c.line ∷ c.later) b e d f (record { before = p.before; front = p.front; lines_are = p.here; others_are = p.there }) q in
    record { before = r.before; front = r.front; here = r.lines_are; there = r.others_are }

-- the front of a line, of bytes of one class, and what stands behind it
abbrev pub all_of : (ℕ → Bool) → List ℕ → Bool
all_of p [] = true
all_of p (c ∷ cs) = p c && all_of p cs

abbrev pub stops : (ℕ → Bool) → List ℕ → Bool
stops p [] = true
stops p (c ∷ cs) = not (p c)

pub record Parted (p : ℕ → Bool) (line : List ℕ) : Type 0 where
  pub front : List ℕ
  pub rest : List ℕ
  pub is : line ≡ front ++ rest
  pub all : all_of p front ≡ true
  pub stop : stops p rest ≡ true

pub parted : (p : ℕ → Bool) (line : List ℕ) → Parted p line
parted p [] = record { front = []; rest = []; is = refl; all = refl; stop = refl }
parted p (c ∷ cs) =
    elim (cases_Bool (p c)) [
      | inl is ↦ let r = parted p cs in record { front = c ∷ r.front; rest = r.rest; is = ap (λ (x : List ℕ). c ∷ x) r.is; all = rw is r.all; stop = r.stop }
      | inr other ↦ record { front = []; rest = c ∷ cs; is = refl; all = refl; stop = rw other refl }
    ]

pub counted : (p : ℕ → Bool) (v r : List ℕ) → all_of p v ≡ true → stops p r ≡ true → prefix_len p (v ++ r) ≡ length v
counted p [] [] all stop = refl
counted p [] (c ∷ cs) all stop = none (p c) stop
  where
    none : (b : Bool) → not b ≡ true → cond b (1 + prefix_len p cs) 0 ≡ 0
    none true e = absurd cc
    none false e = refl
counted p (c ∷ v) r all stop =
    let a = and_parts (p c) (all_of p v) all in
    rw a.0 (one-add (prefix_len p (v ++ r)) ∙ ap (λ (n : ℕ). suc n) (counted p v r a.1 stop))

pub dropped : (v r : List ℕ) → drop (length v) (v ++ r) ≡ r
dropped [] r = refl
dropped (c ∷ v) r = dropped v r

-- content: neither white space nor a comment stands here
abbrev pub is_solid : List ℕ → Bool
is_solid [] = false
is_solid (c ∷ cs) = not (is_white c) && not (eqb c 35)

pub solid_white : (r : List ℕ) → is_solid r ≡ true → stops is_white r ≡ true
solid_white [] e = refl
solid_white (c ∷ cs) e = (and_parts (not (is_white c)) (not (eqb c 35)) e).0

pub white_space : (r : List ℕ) → stops is_white r ≡ true → stops is_space r ≡ true
white_space [] e = refl
white_space (c ∷ cs) e = from (eqb c 32) (eqb c 9) e
  where
    from : (a b : Bool) → not (a || b) ≡ true → not a ≡ true
    from true b e = e
    from false b e = refl

pub space_white : (v : List ℕ) → all_of is_space v ≡ true → all_of is_white v ≡ true
space_white [] e = refl
space_white (c ∷ v) e = let a = and_parts (is_space c) (all_of is_space v) e in rw a.0 (space_white v a.1)

pub solid_over : (r : List ℕ) → is_solid r ≡ true → is_over r ≡ false
solid_over [] e = absurd cc
solid_over (c ∷ cs) e = from (is_white c) (eqb c 35) e
  where
    from : (a b : Bool) → not a && not b ≡ true → b && is_clean cs ≡ false
    from true b e = absurd cc
    from false true e = absurd cc
    from false false e = refl

-- behind white space
pub passes : (v r : List ℕ) → all_of is_white v ≡ true → stops is_white r ≡ true → is_passed (v ++ r) ≡ is_over r
passes v r all stop = ap (λ (n : ℕ). is_over (drop n (v ++ r))) (counted is_white v r all stop) ∙ ap is_over (dropped v r)

pub not_ended : (v r : List ℕ) → all_of is_white v ≡ true → is_solid r ≡ true → ends (v ++ r) ≡ false
not_ended [] [] all solid = absurd cc
not_ended [] (c ∷ cs) all solid = from (is_white c) (and_parts (not (is_white c)) (not (eqb c 35)) solid).0
  where
    from : (b : Bool) → not b ≡ true → b && is_passed (c ∷ cs) ≡ false
    from true e = absurd cc
    from false e = refl
not_ended (c ∷ v) r all solid =
    ap (λ (b : Bool). is_white c && b) (passes (c ∷ v) r all (solid_white r solid) ∙ solid_over r solid) ∙ and_false (is_white c)

-- a line of white space has nothing more
pub white_ends : (v : List ℕ) → all_of is_white v ≡ true → ends v ≡ true
white_ends [] all = refl
white_ends (c ∷ v) all =
    ap (λ (b : Bool). b && is_passed (c ∷ v)) (and_parts (is_white c) (all_of is_white v) all).0 ∙ ap is_passed (sym (append-nil (c ∷ v))) ∙ passes (c ∷ v) [] all refl

pub gone_over : (col : ℕ) (v r : List ℕ) (later : List (List ℕ)) → all_of is_white v ≡ true → stops is_white r ≡ true
    → over (record { col = col; line = v ++ r; later = later }) ≡ record { col = col + length v; line = r; later = later }
gone_over col v r later all stop =
    ap (λ (n : ℕ). past n (record { col = col; line = v ++ r; later = later })) (counted is_white v r all stop)
    ∙ ap (λ (x : List ℕ). record { col = col + length v; line = x; later = later }) (dropped v r)
