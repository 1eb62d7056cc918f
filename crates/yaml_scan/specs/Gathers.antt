-- What the functions on block scalars answer, against what their lines give.
use Rattle.std.specs.Prelude.{◌≡◌, ℕ, List, Bool, true, false, map, option_copied, Result, Ok, Err}
use Rattle.yaml_scan.specs.declared.block.Block.{Block}
use Rattle.yaml_scan.specs.declared.block.BlockError.{BlockError}
use Rattle.yaml_scan.specs.declared.block.BlockError.TheVariants as errors
use Rattle.yaml_scan.specs.Lines.{lines_behind}
use Rattle.yaml_scan.specs.Block.{block_lines, behind_block, all_clean, content, together, block_text}

-- The text and the lines behind are as said, and each line is clean; or one is not.
abbrev pub GivesBlock : Result Block BlockError → List ℕ → Bool → List (List ℕ) → Type 0
GivesBlock (Ok b) text clean behind =
    (clean ≡ true) × (b.text.items ≡ text) × (lines_behind (option_copied b.later) ≡ behind)
GivesBlock (Err errors.Memory) text clean behind = Unit {0}
GivesBlock (Err (errors.Bad left)) text clean behind = clean ≡ false

abbrev pub Joins : Result Block BlockError → Bool → ℕ → List (List ℕ) → Type 0
Joins result folded indent lines =
    GivesBlock result (together folded false 0 (map (content indent) (block_lines indent lines)))
    (all_clean (block_lines indent lines)) (behind_block indent lines)

abbrev pub Gathers : Result Block BlockError → Bool → Bool → ℕ → List (List ℕ) → Type 0
Gathers result folded strip indent lines =
    GivesBlock result (block_text folded strip indent lines)
    (all_clean (block_lines indent lines)) (behind_block indent lines)
