-- A text that is no key is read back: as a block, or in quotes.
use Rattle.std.proofs.Common.{◌≡◌, ℕ, suc, ◌+◌, List, ◌∷◌, ◌++◌, length, true, false, eqb, IsUtf8, Option, Some, Ok, refl, ap, ◌∙◌, subst, length-append, arith}
use Rattle.std.specs.Prelude.{replicate}
use Rattle.std.proofs.lemmas.List.{length-replicate}
use Rattle.std.proofs.lemmas.Bool.{ne_eqb}
use Rattle.yaml_scan.specs.Bytes.{is_white}
use Rattle.yaml_scan.specs.Lines.{lines_of, is_white_line}
use Rattle.yaml_scan.specs.Block.{is_deeper, indent_of}
use Rattle.yaml_small.specs.declared.event.Style.TheVariants as styles
use Rattle.yaml_small.specs.Places.{next_at}
use Rattle.yaml_small.specs.Scalars.{scalar_token, block_at, begins_block, gathered}
use Rattle.yaml_text.specs.Texts.{block, is_block}
use Rattle.yaml_text.proofs.Lines.{line_of, later_of, lines_parted, IsBreak, after, at_text, whites_spaces, spaces_spaces}
use Rattle.yaml_text.proofs.BlockText.{or_parts}
use Rattle.yaml_text.proofs.Blocks.{Shallow, indented, block_text_is, block_clean, block_next, block_line, block_later}
use Rattle.yaml_text.proofs.BlockShape.{BlockShape, block_shape}

-- the indentation of the lines is that of the first
pub white_differs : (m c : ℕ) (cs : List ℕ) → is_white c ≡ false → is_white_line (replicate m 32 ++ (c ∷ cs)) ≡ false
white_differs m c cs e = rw (whites_spaces m c cs e) (ne_eqb m (length (replicate m 32 ++ (c ∷ cs))) (λ f. omega (arith, f, length-append (replicate m 32) (c ∷ cs), length-replicate {A = ℕ} m 32)))

indent_is : (m c : ℕ) (cs : List ℕ) (lines : List (List ℕ)) (parent : Option ℕ) → is_white c ≡ false → is_deeper parent (suc m) ≡ true
    → indent_of parent ((replicate (suc m) 32 ++ (c ∷ cs)) ∷ lines) ≡ Some (suc m)
indent_is m c cs lines parent white deeper =
    rw (white_differs (suc m) c cs white, spaces_spaces (suc m) c cs (no_space c white), deeper) refl
  where
    no_space : (c : ℕ) → is_white c ≡ false → eqb c 32 ≡ false
    no_space c e = (or_parts (eqb c 32) (eqb c 9) e).0

gathered_is : (m : ℕ) (text : List ℕ) (parent : Option ℕ) (lines behind : List (List ℕ)) → BlockShape text → Shallow (suc m) behind → is_deeper parent (suc m) ≡ true
    → lines ≡ indented (suc m) (lines_of text) ++ behind
    → gathered false true (indent_of parent lines) lines ≡ Ok (scalar_token text styles.Literal (next_at behind))
gathered_is m text parent lines behind shape shallow deeper is =
    let lines_are : lines_of text ≡ (shape.first ∷ shape.rest) ∷ later_of text = lines_parted text ∙ ap (λ (l : List ℕ). l ∷ later_of text) shape.first_is in
    let indent : indent_of parent (indented (suc m) (lines_of text) ++ behind) ≡ Some (suc m) =
    ap (λ (ls : List (List ℕ)). indent_of parent (indented (suc m) ls ++ behind)) lines_are
    ∙ indent_is m shape.first shape.rest (indented (suc m) (later_of text) ++ behind) parent shape.no_white deeper in
    rw (is, indent, block_clean m (lines_of text) behind shape.clean shallow, block_text_is m (lines_of text) behind shape.full shallow, shape.joined_is, block_next m (lines_of text) behind shallow) refl

-- a block at a level, before a line's end and shallow lines
pub block_read : (level col : ℕ) (text : List ℕ) (parent : Option ℕ) (k : List ℕ) → IsUtf8 text → is_block text ≡ true → IsBreak k → Shallow (level + 2) (later_of k)
    → is_deeper parent (level + 2) ≡ true
    → (begins_block (line_of (block level text ++ k)) ≡ true) × (block_at parent (at_text col (block level text ++ k)) ≡ Ok (scalar_token text styles.Literal (after k)))
unfolding block block_at
block_read level col text parent k utf8 is break shallow deeper =
    let shape = block_shape text utf8 is in
    let two : level + 2 ≡ suc (level + 1) = omega arith in
    let line = block_line (level + 2) (lines_of text) k break in
    let later = block_later (level + 2) (lines_of text) k shape.clean break ∙ ap (λ (n : ℕ). indented n (lines_of text) ++ later_of k) two in
    let low : Shallow (suc (level + 1)) (later_of k) = subst (λ (n : ℕ). Shallow n (later_of k)) two shallow in
    let deep : is_deeper parent (suc (level + 1)) ≡ true = subst (λ (n : ℕ). is_deeper parent n ≡ true) two deeper in
    (rw line refl, rw line (gathered_is (level + 1) text parent _ (later_of k) shape low deep later))
