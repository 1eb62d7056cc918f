-- Where the values of a level stand, and what may stand behind them.
use Rattle.std.proofs.Common.{◌≡◌, ℕ, ◌+◌, ◌<◌, ◌≤◌, List, [], ◌∷◌, ◌++◌, Bool, true, false, not, cond, nat_le, eqb, Some, inl, inr, refl, sym, append-nil, arith}
use Rattle.std.specs.Prelude.{replicate}
use Rattle.std.proofs.lemmas.Bool.{ne_eqb, eq-eqb, lt-ltb, le-leb, leb-true}
use Rattle.std.proofs.lemmas.List.{length-replicate}
use Rattle.yaml_scan.specs.Lines.{lines_of, is_white_line}
use Rattle.yaml_scan.specs.Block.{is_deeper}
use Rattle.yaml_small.specs.Places.{At, next_at, is_within, at_dash, list_ends, map_ends}
use Rattle.yaml_text.specs.Texts.{indentation}
use Rattle.yaml_text.specs.Written.{new_line}
use Rattle.yaml_text.proofs.Lines.{and_parts, opens, opens_is, opens_white, line_of, later_of, lines_of-append, line_of-opens, IsBreak, line_of-break, at_text, after, next_spaces, next_blank, inline_spaces, spaces_spaces, spaces_all, whites_all, blank_passed}
use Rattle.yaml_text.proofs.Blocks.{Shallow, shallower, clean_spaces}
use Rattle.yaml_text.proofs.Texts.{white_differs}

-- the column of a level
abbrev pub column : ℕ → ℕ
column level = cond (eqb level 0) 0 (level + 1)

pub indentation_is : (level : ℕ) → indentation level ≡ replicate (column level) 32
indentation_is level = either (eqb level 0)
  where
    either : (b : Bool) → cond {A = List ℕ} b [] (replicate {A = ℕ} (level + 1) 32) ≡ replicate {A = ℕ} (cond b 0 (level + 1)) 32
    either true = refl
    either false = refl

pub column_le : (level : ℕ) → column level ≤ level + 1
column_le level = either (eqb level 0)
  where
    either : (b : Bool) → cond b 0 (level + 1) ≤ level + 1
    either true = omega arith
    either false = omega arith

pub column_next : (level : ℕ) → column (level + 1) ≡ level + 2
column_next level = rw (ne_eqb (level + 1) 0 (λ e. omega arith)) (omega arith)

pub deeper : (level : ℕ) → column level < column (level + 1)
deeper level = omega (arith, column_le level, column_next level)

-- What ends lists and maps at a column: content left of it.
pub record Ends (col : ℕ) (a : At) : Type 0 where
  pub list : list_ends col a ≡ true
  pub map : map_ends col a ≡ true

ends_left : (col : ℕ) (a : At) → a.col < col → Ends col a
ends_left col a less = record {
  list = rw (ne_eqb a.col col (λ e. omega arith), le-leb a.col col (omega arith)) refl;
  map = rw (lt-ltb a.col col less) refl;
}

ends_col : (col : ℕ) (a : At) → list_ends col a ≡ true → a.col ≤ col
ends_col col a e = leb-true a.col col (and_parts (not (at_dash col a)) (nat_le a.col col) e).1

-- What may stand behind a value of a level: a line's end or nothing, lines of fewer spaces than the block would
-- have, and content that ends the lists and maps of the level.
pub record Follows (level : ℕ) (k : List ℕ) : Type 0 where
  pub break : IsBreak k
  pub shallow : Shallow (level + 2) (later_of k)
  pub ends : Ends (column level) (after k)

pub follows_deeper : (level : ℕ) (k : List ℕ) → Follows level k → Follows (level + 1) k
follows_deeper level k f = record {
  break = f.break;
  shallow = shallower (level + 2) (level + 1 + 2) (later_of k) (omega arith) f.shallow;
  ends = ends_left (column (level + 1)) (after k) (omega (arith, deeper level, ends_col (column level) (after k) f.ends.list));
}

-- behind a new line the next content stands at the level's column
pub after_new_line : (level : ℕ) (text : List ℕ) → opens text ≡ true → after (new_line level ++ text) ≡ at_text (column level) text
after_new_line level text e = rw (indentation_is level) (next_spaces (column level) text e)

pub after_blank : (level : ℕ) (k : List ℕ) → IsBreak k → after (new_line level ++ k) ≡ after k
after_blank level k b = rw (indentation_is level) (next_blank (column level) k b)

content_shallow : (n m : ℕ) (text : List ℕ) → m < n → opens text ≡ true → Shallow n (lines_of (replicate m 32 ++ text))
content_shallow n m [] less e = absurd cc
content_shallow n m (c ∷ cs) less e =
    let o = opens_is c cs e in
    rw (lines_of-append (replicate m 32) (c ∷ cs) (inline_spaces m), line_of-opens c cs o)
    (rw (spaces_spaces m c (line_of cs) (ne_eqb c 32 (λ f. omega (arith, o.low)))) less, inl (white_differs m c (line_of cs) (opens_white c o)))

blank_shallow : (n m : ℕ) (k : List ℕ) → m < n → IsBreak k → Shallow n (later_of k) → Shallow n (lines_of (replicate m 32 ++ k))
blank_shallow n m k less b s =
    rw (lines_of-append (replicate m 32) k (inline_spaces m), line_of-break k b, append-nil {A = ℕ} (replicate m 32))
    (rw (spaces_all m) less, inr (all_white m, rw (sym (append-nil {A = ℕ} (replicate m 32))) (clean_spaces m []), blank_passed m, s))
  where
    all_white : (m : ℕ) → is_white_line (replicate m 32) ≡ true
    all_white m = rw (whites_all m, length-replicate {A = ℕ} m 32) (eq-eqb m m refl)

-- what stands behind a value of a list or map: a new line of its level, with more content or with what follows it
pub follows_content : (level : ℕ) (text : List ℕ) → opens text ≡ true → Follows (level + 1) (new_line level ++ text)
follows_content level text e = record {
  break = refl;
  shallow = rw (indentation_is level) (content_shallow (level + 1 + 2) (column level) text (omega (arith, column_le level)) e);
  ends = ends_left (column (level + 1)) (after (new_line level ++ text)) (rw (after_new_line level text e) (deeper level));
}

pub follows_blank : (level : ℕ) (k : List ℕ) → Follows level k → Follows (level + 1) (new_line level ++ k)
follows_blank level k f = record {
  break = refl;
  shallow =
      rw (indentation_is level)
      (blank_shallow (level + 1 + 2) (column level) k (omega (arith, column_le level)) f.break (shallower (level + 2) (level + 1 + 2) (later_of k) (omega arith) f.shallow));
  ends = rw (after_blank level k f.break) (follows_deeper level k f).ends;
}

-- a value one level deeper stands within its parent
pub is_inner : (level : ℕ) (text : List ℕ) → opens text ≡ true → is_within (Some (column level)) (at_text (column (level + 1)) text) ≡ true
is_inner level [] e = absurd cc
is_inner level (c ∷ cs) e =
    let o = opens_is c cs e in
    let zero_col : eqb (column (level + 1)) 0 ≡ false = ne_eqb (column (level + 1)) 0 (λ f. omega (arith, deeper level)) in
    rw (line_of-opens c cs o, lt-ltb (column level) (column (level + 1)) (deeper level), zero_col) refl

pub no_dash_here : (level : ℕ) (text : List ℕ) → at_dash (column level) (at_text (column (level + 1)) text) ≡ false
no_dash_here level text = rw (ne_eqb (column (level + 1)) (column level) (λ e. omega (arith, deeper level))) refl

-- nothing stands behind the document's value
pub follows_nothing : Follows 0 []
unfolding next_at
follows_nothing = record { break = tt; shallow = tt; ends = record { list = refl; map = refl } }

pub level_deeper : (level : ℕ) → is_deeper (Some (column level)) (column (level + 1)) ≡ true
level_deeper level = lt-ltb (column level) (column (level + 1)) (deeper level)
