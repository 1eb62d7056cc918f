-- Texts of locked packages, of requirements, and of the nodes of a tree.
use Rattle.std.specs.Prelude.{ℕ, Bool, true, false, if◌then◌else◌, List, [], ◌∷◌, ◌++◌, codes, Option, Some, None}
use Rattle.std.specs.Fmt.{decimal}
use Rattle.semver.specs.Parse.{Parts, Held}
use Rattle.semver.specs.Identifiers.{parts_text}
use Rattle.semver.specs.declared.Op.{Op}
use Rattle.semver.specs.declared.Op.TheVariants as op
use Rattle.warg_names.specs.Cut.{behind, cut_first, cut_last}
use Rattle.warg_names.specs.Import.{angle}
use Rattle.warg_names.specs.Mark.{mark_text}

-- the name of a package with a version behind an `@`
abbrev pub versioned_name : List ℕ → List ℕ → List ℕ
versioned_name name version = name ++ (codes "@" ++ version)

-- a release of a package as an import's name, with the digest of its content
abbrev pub locked_text : List ℕ → Parts → List ℕ → List ℕ
locked_text name version digest = codes "locked-dep=<" ++ (versioned_name name (parts_text version) ++ (codes ">,integrity=<" ++ (mark_text digest ++ codes ">")))

-- ---- requirements

abbrev pub op_text : Op → List ℕ
op_text op.Exact = codes "="
op_text op.Greater = codes ">"
op_text op.GreaterEq = codes ">="
op_text op.Less = codes "<"
op_text op.LessEq = codes "<="
op_text op.Tilde = codes "~"
op_text op.Caret = codes "^"
op_text op.Wildcard = []

-- what stands for the numbers that a comparator leaves out
abbrev pub left_out : Op → List ℕ
left_out op.Wildcard = codes ".*"
left_out _ = []

-- a version's numbers, as far as a comparator has them
abbrev pub numbers_text : Op → ℕ → Option ℕ → Option ℕ → List ℕ → List ℕ
numbers_text op major None patch pre = decimal major ++ left_out op
numbers_text op major (Some minor) None pre = decimal major ++ (codes "." ++ (decimal minor ++ left_out op))
numbers_text op major (Some minor) (Some patch) pre = parts_text (major, minor, patch, pre, [])

-- a comparator, as Cargo writes it: an operator, and a version without build metadata
abbrev pub comparator_text : Held → List ℕ
comparator_text c = op_text c.0 ++ numbers_text c.0 c.1 c.2 c.3 c.4

-- comparators, each behind a space
unfoldable pub following : List Held → List ℕ
following [] = []
following (c ∷ cs) = codes " " ++ (comparator_text c ++ following cs)

-- comparators with a space between each two
abbrev pub spaced : List Held → List ℕ
spaced [] = []
spaced (c ∷ cs) = comparator_text c ++ following cs

abbrev pub braced : List Held → List ℕ
braced cs = codes "{" ++ (spaced cs ++ codes "}")

-- a package's name with a requirement: nothing stands for the one that any release meets
abbrev pub versioned_text : List ℕ → List Held → List ℕ
versioned_text name [] = name
versioned_text name (c ∷ cs) = versioned_name name (braced (c ∷ cs))

abbrev pub is_exact : Op → Bool
is_exact op.Exact = true
is_exact _ = false

-- a requirement: a star where any release meets it, the comparator where it is one version, and else comparators in braces
abbrev pub requirement_text : List Held → List ℕ
requirement_text [] = codes "*"
requirement_text (c ∷ []) = if is_exact c.0 then comparator_text c else braced (c ∷ [])
requirement_text (c ∷ d ∷ cs) = braced (c ∷ d ∷ cs)

-- ---- a name without its kind

abbrev pub first_or : List ℕ → Option (List ℕ × List ℕ) → List ℕ
first_or text None = text
first_or text (Some cut) = cut.0

abbrev kindless_at : List ℕ → Option (List ℕ) → Option (List ℕ) → List ℕ
kindless_at text (Some rest) locked_rest = first_or text (cut_last angle rest)
kindless_at text None (Some rest) = first_or text (cut_first angle rest)
kindless_at text None None = text

-- behind `unlocked-dep=<` the text up to the last `>`, behind `locked-dep=<` the text up to the next one; the whole text
-- where it begins with neither or has no `>` there
unfoldable pub kindless : List ℕ → List ℕ
kindless text = kindless_at text (behind (codes "unlocked-dep=<") text) (behind (codes "locked-dep=<") text)
