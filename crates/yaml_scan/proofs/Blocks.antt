-- One more line of a block scalar.
use Rattle.std.proofs.Common.{◌≡◌, ℕ, ◌+◌, ◌<◌, ◌≤◌, List, [], ◌∷◌, ◌++◌, map, length, Bool, true, false, ◌&&◌, Option, Some, None, refl, sym, ap, ◌∙◌, append_assoc, arith, ◌≢◌, Bor, option_copied, IfSome}
use Rattle.yaml_scan.specs.Bytes.{is_clean}
use Rattle.yaml_scan.specs.Block.{is_inside, block_lines, behind_block, all_clean, content, is_joined, between, together}

-- how many bytes the lines behind have
abbrev pub bytes_behind : Option (List ℕ) → ℕ
bytes_behind None = 0
bytes_behind (Some text) = length text

-- what stands between all lines of a block and those that are left
pub record Progress (folded : Bool) (indent : ℕ) (all rest : List (List ℕ)) (text : List ℕ) (joined : Bool) (n : ℕ) : Type 0 where
  pub text_is : text ++ together folded joined n (map (content indent) (block_lines indent rest)) ≡ together folded false 0 (map (content indent) (block_lines indent all))
  pub clean : all_clean (block_lines indent rest) ≡ all_clean (block_lines indent all)
  pub behind : behind_block indent rest ≡ behind_block indent all

inside_lines : (indent : ℕ) (line : List ℕ) (lines : List (List ℕ)) → is_inside indent line ≡ true → block_lines indent (line ∷ lines) ≡ line ∷ block_lines indent lines
inside_lines indent line lines e = rw e refl

regroup : (text glue piece rest : List ℕ) → ((text ++ glue) ++ piece) ++ rest ≡ text ++ ((glue ++ piece) ++ rest)
regroup text glue piece rest = simp append_assoc

-- a line that gives something
pub progress_line : (folded joined joins : Bool) (indent n : ℕ) (all lines now : List (List ℕ)) (line piece text text' : List ℕ) → Progress folded indent all now text joined n
    → now ≡ line ∷ lines → is_inside indent line ≡ true → is_clean line ≡ true → piece ≡ content indent line → length piece ≢ 0 → joins ≡ is_joined folded piece
    → text' ≡ (text ++ between (joined && joins) n) ++ piece → Progress folded indent all lines text' joins 1
progress_line folded joined joins indent n all lines now line [] text text' p at inside clean gives some joined_is text_is = absurd (some refl)
progress_line folded joined joins indent n all lines now line (c ∷ cs) text text' p at inside clean gives some joined_is text_is =
    let block : block_lines indent now ≡ line ∷ block_lines indent lines = ap (block_lines indent) at ∙ inside_lines indent line lines inside in
    record {
      text_is =
          rw (text_is, regroup text (between (joined && joins) n) (c ∷ cs) (together folded joins 1 (map (content indent) (block_lines indent lines))), joined_is)
          (ap (λ (cells : List ℕ). text ++ together folded joined n (cells ∷ map (content indent) (block_lines indent lines))) gives
          ∙ sym (ap (λ (ls : List (List ℕ)). text ++ together folded joined n (map (content indent) ls)) block)
          ∙ p.text_is);
      clean = sym (ap (λ (b : Bool). b && all_clean (block_lines indent lines)) clean) ∙ sym (ap all_clean block) ∙ p.clean;
      behind = sym (rw (at, inside) refl) ∙ p.behind;
    }

pub fewer_bytes : (n : ℕ) (later : Option (Bor (List ℕ))) → 0 < n → IfSome later (λ text. length text.now < n) → 1 + bytes_behind (option_copied later) ≤ n
fewer_bytes n None some less = omega arith
fewer_bytes n (Some text) some less = omega arith
