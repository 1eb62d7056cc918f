-- Imports that ask for the same.
use Rattle.std.specs.Prelude.{ℕ, Bool, true, false, ◌&&◌, List, bytes_eq, nat_eq}
use Rattle.std.specs.Option.{option_eq}
use Rattle.std.specs.Cmp.Lexicographic.{pointwise}
use Rattle.semver.specs.Parse.{Held}
use Rattle.semver.specs.declared.Op.{Op}
use Rattle.semver.specs.declared.Op.TheVariants as op
use Rattle.warg_log.specs.History.{same_version}
use Rattle.warg_names.specs.Import.{KindTree, Locked, Unlocked, Interface, ImportTree}

abbrev pub op_number : Op → ℕ
op_number op.Exact = 0
op_number op.Greater = 1
op_number op.GreaterEq = 2
op_number op.Less = 3
op_number op.LessEq = 4
op_number op.Tilde = 5
op_number op.Caret = 6
op_number op.Wildcard = 7

-- whether two comparators are the same
abbrev pub same_held : Held → Held → Bool
same_held a b = nat_eq (op_number a.0) (op_number b.0) && (nat_eq a.1 b.1 && (option_eq nat_eq a.2 b.2 && (option_eq nat_eq a.3 b.3 && bytes_eq a.4 b.4)))

abbrev pub same_requirement : List Held → List Held → Bool
same_requirement a b = pointwise same_held a b

abbrev pub same_kind : KindTree → KindTree → Bool
same_kind (Locked a) (Locked b) = option_eq bytes_eq a b
same_kind Unlocked Unlocked = true
same_kind (Interface a) (Interface b) = option_eq bytes_eq a b
same_kind _ _ = false

-- whether two imports are the same, part by part
unfoldable pub same_import : ImportTree → ImportTree → Bool
same_import a b = bytes_eq a.name b.name && (same_requirement a.requirement b.requirement && (same_kind a.kind b.kind && option_eq same_version a.exact b.exact))
