-- Which values come back: written and then read, they are themselves.
use Rattle.std.specs.Prelude.{◌≡◌, ℕ, List, Bool, true, false, Option, Some, None, All, ℤ, bytes_eq}
use Rattle.std.specs.List.{IsDistinct}
use Rattle.std.specs.Map.{keys_of}
use Rattle.std.specs.Str.{IsUtf8}
use Rattle.yaml_small.specs.Trees.{Tree, Leaf, Seq, Map}
use Rattle.yaml_text.specs.Written.{Written, tree_of}
use Rattle.yaml_read.specs.Scalar.{is_null, within}

-- a number between limits
abbrev pub IsBetween : ℤ → ℤ → ℤ → Type 0
IsBetween least most n = within least most n ≡ true

-- each value
abbrev pub EachReturns : {X : Type 0} → X → Type 0
EachReturns _ = Unit {0}

-- a scalar that stands for nothing: `null` or `~`, of any style
abbrev pub stands_for_nothing : Tree → Bool
stands_for_nothing (Leaf s) = is_null s.text
stands_for_nothing (Seq ts) = false
stands_for_nothing (Map ps) = false

-- What may be missing comes back where it is missing, and where the value that is there does and is not written as
-- what stands for nothing.
abbrev pub OptionReturns : {X : Type 0} → (X → Written) → (X → Type 0) → Option X → Type 0
OptionReturns written Returns None = Unit {0}
OptionReturns written Returns (Some x) = Returns x × (stands_for_nothing (tree_of (written x)) ≡ false)

-- A map comes back where its values do. Its keys are texts, and none stands twice.
abbrev pub EntryReturns : {X : Type 0} → (X → Type 0) → List ℕ × X → Type 0
EntryReturns Returns e = IsUtf8 e.0 × Returns e.1

abbrev pub MapReturns : {X : Type 0} → (X → Type 0) → List (List ℕ × X) → Type 0
MapReturns Returns es = IsDistinct bytes_eq (keys_of es) × All (EntryReturns Returns) es
