-- A block is read back as its text, whatever lines of spaces and less deep content stand behind it.
use Rattle.std.proofs.Common.{◌≡◌, ℕ, zero, suc, ◌+◌, ◌<◌, ◌≤◌, List, [], ◌∷◌, ◌++◌, map, Bool, true, false, not, ◌||◌, eqb, flat_map, ◌⊎◌, inl, inr, refl, sym, ap, ap₂, ◌∙◌, append_assoc, append-nil, arith}
use Rattle.std.specs.Prelude.{replicate}
use Rattle.std.proofs.lemmas.Bool.{cases_Bool, le-leb, lt-leb, eqb-true}
use Rattle.std.proofs.lemmas.Grind.{replicate_next}
use Rattle.yaml_scan.specs.Bytes.{is_control, is_clean, spaces}
use Rattle.yaml_scan.specs.Lines.{lines_of, is_white_line, is_passed}
use Rattle.yaml_scan.specs.Block.{is_inside, block_lines, behind_block, content, all_clean, feeds, together, with_end, block_text}
use Rattle.yaml_small.specs.Places.{next_at}
use Rattle.yaml_text.proofs.Lines.{and_parts, not_true, is_inline, is_inline_byte, line_of, later_of, lines_of-append, line_of-append, later_of-append, IsBreak, line_of-break, drop_spaces}
use Rattle.yaml_text.proofs.BlockText.{joined}

-- Lines of fewer spaces than n, up to the first with content: those before it are white.
abbrev pub Shallow : ℕ → List (List ℕ) → Type 0
Shallow n [] = Unit {0}
Shallow n (line ∷ lines) =
    (spaces line < n) × ((is_white_line line ≡ false) ⊎ ((is_white_line line ≡ true) × (is_clean line ≡ true) × (is_passed line ≡ true) × Shallow n lines))

pub shallower : (m n : ℕ) (lines : List (List ℕ)) → m ≤ n → Shallow m lines → Shallow n lines
shallower m n [] le s = tt
shallower m n (line ∷ lines) le (less, inl full) = (omega arith, inl full)
shallower m n (line ∷ lines) le (less, inr (white, clean, passed, more)) = (omega arith, inr (white, clean, passed, shallower m n lines le more))

abbrev AllEmpty : List (List ℕ) → Type 0
AllEmpty [] = Unit {0}
AllEmpty ([] ∷ lines) = AllEmpty lines
AllEmpty ((c ∷ cs) ∷ lines) = ⊥

white_inside : (n : ℕ) (line : List ℕ) → is_white_line line ≡ true → is_inside n line ≡ true
white_inside n line e = rw e refl

full_outside : (n : ℕ) (line : List ℕ) → is_white_line line ≡ false → spaces line < n → is_inside n line ≡ false
full_outside n line e less = rw (e, lt-leb n (spaces line) less) refl

few_content : (n : ℕ) (line : List ℕ) → spaces line < n → content n line ≡ []
few_content n line less = rw (lt-leb n (spaces line) less) refl

-- what a block takes of the lines behind it
behind_empty : (n : ℕ) (lines : List (List ℕ)) → Shallow n lines → AllEmpty (map (content n) (block_lines n lines))
behind_empty n [] s = tt
behind_empty n (line ∷ lines) (less, inl full) = rw (full_outside n line full less) tt
behind_empty n (line ∷ lines) (less, inr (white, clean, passed, more)) =
    rw (white_inside n line white) (rw (few_content n line less) (behind_empty n lines more))

behind_clean : (n : ℕ) (lines : List (List ℕ)) → Shallow n lines → all_clean (block_lines n lines) ≡ true
behind_clean n [] s = refl
behind_clean n (line ∷ lines) (less, inl full) = rw (full_outside n line full less) refl
behind_clean n (line ∷ lines) (less, inr (white, clean, passed, more)) = rw (white_inside n line white) (rw clean (behind_clean n lines more))

behind_next : (n : ℕ) (lines : List (List ℕ)) → Shallow n lines → next_at (behind_block n lines) ≡ next_at lines
unfolding next_at
behind_next n [] s = refl
behind_next n (line ∷ lines) (less, inl full) = rw (full_outside n line full less) refl
behind_next n (line ∷ lines) (less, inr (white, clean, passed, more)) = rw (white_inside n line white) (rw passed (behind_next n lines more))

-- lines with spaces in front
pub spaces_more : (n : ℕ) (line : List ℕ) → spaces (replicate n 32 ++ line) ≡ n + spaces line
spaces_more zero line = let e : spaces line ≡ 0 + spaces line = omega arith in e
spaces_more (suc n) line = let e : 1 + spaces (replicate n 32 ++ line) ≡ suc n + spaces line = omega (arith, spaces_more n line) in e

or_true : (a : Bool) → (a || true) ≡ true
or_true true = refl
or_true false = refl

deep_inside : (m : ℕ) (line : List ℕ) → is_inside (suc m) (replicate (suc m) 32 ++ line) ≡ true
deep_inside m line = rw (spaces_more (suc m) line, le-leb (suc m) (suc m + spaces line) (omega arith)) (or_true _)

deep_content : (m : ℕ) (line : List ℕ) → content (suc m) (replicate (suc m) 32 ++ line) ≡ line
deep_content m line = rw (spaces_more (suc m) line, le-leb (suc m) (suc m + spaces line) (omega arith)) (drop_spaces (suc m) line)

pub clean_spaces : (n : ℕ) (line : List ℕ) → is_clean (replicate n 32 ++ line) ≡ is_clean line
clean_spaces zero line = refl
clean_spaces (suc n) line = rw (no_control (replicate n 32 ++ line)) (clean_spaces n line)
  where
    no_control : (xs : List ℕ) → is_control (32 ∷ xs) ≡ false
    no_control [] = refl
    no_control (c ∷ cs) = refl

abbrev pub indented : ℕ → List (List ℕ) → List (List ℕ)
indented n lines = map (λ line. replicate n 32 ++ line) lines

deep_lines : (m : ℕ) (ls behind : List (List ℕ)) → block_lines (suc m) (indented (suc m) ls ++ behind) ≡ indented (suc m) ls ++ block_lines (suc m) behind
deep_lines m [] behind = refl
deep_lines m (l ∷ ls) behind = rw (deep_inside m l) (ap (λ (xs : List (List ℕ)). (replicate (suc m) 32 ++ l) ∷ xs) (deep_lines m ls behind))

deep_behind : (m : ℕ) (ls behind : List (List ℕ)) → behind_block (suc m) (indented (suc m) ls ++ behind) ≡ behind_block (suc m) behind
deep_behind m [] behind = refl
deep_behind m (l ∷ ls) behind = rw (deep_inside m l) (deep_behind m ls behind)

deep_contents : (m : ℕ) (ls behind : List (List ℕ)) → map (content (suc m)) (indented (suc m) ls ++ behind) ≡ ls ++ map (content (suc m)) behind
deep_contents m [] behind = refl
deep_contents m (l ∷ ls) behind = ap₂ (λ (x : List ℕ) (xs : List (List ℕ)). x ∷ xs) (deep_content m l) (deep_contents m ls behind)

deep_clean : (n : ℕ) (ls behind : List (List ℕ)) → all_clean ls ≡ true → all_clean behind ≡ true → all_clean (indented n ls ++ behind) ≡ true
deep_clean n [] behind e f = f
deep_clean n (l ∷ ls) behind e f =
    let p = and_parts (is_clean l) (all_clean ls) e in
    rw (clean_spaces n l, p.0) (deep_clean n ls behind p.1 f)

-- the contents together: the last line of the text is not empty
abbrev pub EndsFull : List (List ℕ) → Type 0
EndsFull [] = ⊥
EndsFull ([] ∷ []) = ⊥
EndsFull ((c ∷ cs) ∷ []) = Unit {0}
EndsFull (l ∷ next ∷ ls) = EndsFull (next ∷ ls)

together_empty : (n : ℕ) (behind : List (List ℕ)) → AllEmpty behind → together false false n behind ≡ []
together_empty n [] e = refl
together_empty n ([] ∷ lines) e = together_empty (n + 1) lines e
together_empty n ((c ∷ cs) ∷ lines) e = absurd e

together_is : (n : ℕ) (ls behind : List (List ℕ)) → EndsFull ls → AllEmpty behind → together false false n (ls ++ behind) ≡ feeds n ++ joined (10 ∷ []) ls
together_is n [] behind full e = absurd full
together_is n ([] ∷ []) behind full e = absurd full
together_is n ((c ∷ cs) ∷ []) behind full e =
    rw (together_empty 1 behind e) (append_assoc (feeds n) (c ∷ cs) [])
together_is n ([] ∷ next ∷ ls) behind full e =
    together_is (n + 1) (next ∷ ls) behind full e
    ∙ ap (λ (xs : List ℕ). xs ++ joined (10 ∷ []) (next ∷ ls)) (replicate_next n 10)
    ∙ append_assoc (feeds n) (10 ∷ []) (joined (10 ∷ []) (next ∷ ls))
together_is n ((c ∷ cs) ∷ next ∷ ls) behind full e =
    ap (λ (xs : List ℕ). (feeds n ++ (c ∷ cs)) ++ xs) (together_is 1 (next ∷ ls) behind full e)
    ∙ append_assoc (feeds n) (c ∷ cs) (10 ∷ joined (10 ∷ []) (next ∷ ls))

ended : (text : List ℕ) → with_end true text ≡ text
ended [] = refl
ended (c ∷ cs) = refl

-- the text, the place behind and the cleanness of a block's lines
pub block_text_is : (m : ℕ) (ls behind : List (List ℕ)) → EndsFull ls → Shallow (suc m) behind
    → block_text false true (suc m) (indented (suc m) ls ++ behind) ≡ joined (10 ∷ []) ls
block_text_is m ls behind full s =
    rw (deep_lines m ls behind, deep_contents m ls (block_lines (suc m) behind))
    (rw (together_is 0 ls (map (content (suc m)) (block_lines (suc m) behind)) full (behind_empty (suc m) behind s)) (ended (joined (10 ∷ []) ls)))

pub block_clean : (m : ℕ) (ls behind : List (List ℕ)) → all_clean ls ≡ true → Shallow (suc m) behind → all_clean (block_lines (suc m) (indented (suc m) ls ++ behind)) ≡ true
block_clean m ls behind clean s = rw (deep_lines m ls behind) (deep_clean (suc m) ls (block_lines (suc m) behind) clean (behind_clean (suc m) behind s))

pub block_next : (m : ℕ) (ls behind : List (List ℕ)) → Shallow (suc m) behind → next_at (behind_block (suc m) (indented (suc m) ls ++ behind)) ≡ next_at behind
block_next m ls behind s = ap next_at (deep_behind m ls behind) ∙ behind_next (suc m) behind s

-- the lines of a written block
clean_inline : (line : List ℕ) → is_clean line ≡ true → is_inline line ≡ true
clean_inline [] e = refl
clean_inline (c ∷ cs) e =
    let p = and_parts (not (is_control (c ∷ cs))) (is_clean cs) e in
    rw (inline_byte c cs (not_true (is_control (c ∷ cs)) p.0)) (clean_inline cs p.1)
  where
    differs : (c k : ℕ) (cs : List ℕ) → ((xs : List ℕ) → is_control (k ∷ xs) ≡ true) → is_control (c ∷ cs) ≡ false → eqb c k ≡ false
    differs c k cs always clean = elim (cases_Bool (eqb c k)) [
      | inl is ↦ let f : true ≡ false = sym (always cs) ∙ ap (λ (x : ℕ). is_control (x ∷ cs)) (sym (eqb-true c k is)) ∙ clean in absurd cc
      | inr other ↦ other
    ]

    feed : (xs : List ℕ) → is_control (10 ∷ xs) ≡ true
    feed [] = refl
    feed (d ∷ ds) = refl

    return : (xs : List ℕ) → is_control (13 ∷ xs) ≡ true
    return [] = refl
    return (d ∷ ds) = refl

    inline_byte : (c : ℕ) (cs : List ℕ) → is_control (c ∷ cs) ≡ false → is_inline_byte c ≡ true
    inline_byte c cs clean = rw (differs c 10 cs feed clean, differs c 13 cs return clean) refl

inline_more : (n : ℕ) (line : List ℕ) → is_inline line ≡ true → is_inline (replicate n 32 ++ line) ≡ true
inline_more zero line e = e
inline_more (suc n) line e = inline_more n line e

abbrev written_lines : ℕ → List (List ℕ) → List ℕ
written_lines n ls = flat_map (λ line. (10 ∷ replicate n 32) ++ line) ls

no_line : (n : ℕ) (ls : List (List ℕ)) (k : List ℕ) → IsBreak k → line_of (written_lines n ls ++ k) ≡ []
no_line n [] k b = line_of-break k b
no_line n (l ∷ ls) k b = refl

its_lines : (n : ℕ) (ls : List (List ℕ)) (k : List ℕ) → all_clean ls ≡ true → IsBreak k → later_of (written_lines n ls ++ k) ≡ indented n ls ++ later_of k
its_lines n [] k e b = refl
its_lines n (l ∷ ls) k e b =
    let p = and_parts (is_clean l) (all_clean ls) e in
    ap lines_of (append_assoc (replicate n 32 ++ l) (written_lines n ls) k)
    ∙ lines_of-append (replicate n 32 ++ l) (written_lines n ls ++ k) (inline_more n l (clean_inline l p.0))
    ∙ ap₂ (λ (x : List ℕ) (xs : List (List ℕ)). x ∷ xs)
    (ap (λ (xs : List ℕ). (replicate n 32 ++ l) ++ xs) (no_line n ls k b) ∙ append-nil (replicate n 32 ++ l))
    (its_lines n ls k p.1 b)

pub block_line : (n : ℕ) (ls : List (List ℕ)) (k : List ℕ) → IsBreak k → line_of (((124 ∷ 45 ∷ []) ++ written_lines n ls) ++ k) ≡ 124 ∷ 45 ∷ []
block_line n ls k b = line_of-append (124 ∷ 45 ∷ []) (written_lines n ls ++ k) refl ∙ ap (λ (xs : List ℕ). 124 ∷ 45 ∷ xs) (no_line n ls k b)

pub block_later : (n : ℕ) (ls : List (List ℕ)) (k : List ℕ) → all_clean ls ≡ true → IsBreak k → later_of (((124 ∷ 45 ∷ []) ++ written_lines n ls) ++ k) ≡ indented n ls ++ later_of k
block_later n ls k e b = later_of-append (124 ∷ 45 ∷ []) (written_lines n ls ++ k) refl ∙ its_lines n ls k e b
