-- Imports are equal, as maps and sets of them find them, exactly where they are the same.
use Rattle.std.proofs.Common.{◌≡◌, ◌&&◌, List, [], ◌∷◌, map, Option, Some, None, refl, ap, ◌∙◌}
use Rattle.std.specs.Cmp.Lexicographic.{pointwise}
use Rattle.std.specs.Option.{option_eq}
use Rattle.std.specs.Prelude.{option_map}
use Rattle.semver.specs.Identifiers.{parts_of, pre_text, comparator_view}
use Rattle.semver.specs.declared.Comparator.{Comparator}
use Rattle.semver.specs.declared.Op.{Op}
use Rattle.semver.specs.declared.Op.TheVariants as op
use Rattle.semver.specs.declared.Version.{Version}
use Rattle.semver.specs.contracts.ComparatorPartialEq.TheImpl as of_comparator
use Rattle.semver.specs.contracts.OpPartialEq.TheImpl as of_op
use Rattle.semver.specs.contracts.VersionPartialEq.TheImpl as of_version
use Rattle.warg_log.specs.History.{same_version}
use Rattle.warg_names.specs.declared.import.Import.{Import}
use Rattle.warg_names.specs.declared.import.ImportKind.{ImportKind}
use Rattle.warg_names.specs.declared.import.ImportKind.TheVariants as kind
use Rattle.warg_names.specs.contracts.import.ImportPartialEq.TheImpl as of_import
use Rattle.warg_names.specs.contracts.import.ImportKindPartialEq.TheImpl as of_kind
use Rattle.warg_names.specs.Same.{op_number, same_held, same_kind, same_requirement, same_import}
use Rattle.warg_names.specs.View.{import_tree, kind_tree, requirement_view}
use Rattle.std.specs.Prelude.{bytes_eq, nat_eq}

ops : (a b : Op) → of_op.ghosts.eq a b ≡ nat_eq (op_number a) (op_number b)
ops op.Exact op.Exact = refl
ops op.Greater op.Greater = refl
ops op.GreaterEq op.GreaterEq = refl
ops op.Less op.Less = refl
ops op.LessEq op.LessEq = refl
ops op.Tilde op.Tilde = refl
ops op.Caret op.Caret = refl
ops op.Wildcard op.Wildcard = refl
ops a b = refl

comparators : (a b : Comparator) → of_comparator.ghosts.eq a b ≡ same_held (comparator_view a) (comparator_view b)
comparators a b = ap (λ t. t && (nat_eq a.major b.major && (option_eq nat_eq a.minor b.minor && (option_eq nat_eq a.patch b.patch && bytes_eq (pre_text a.pre) (pre_text b.pre))))) (ops a.op b.op)

requirements : (xs ys : List Comparator) → pointwise of_comparator.ghosts.eq xs ys ≡ pointwise same_held (map comparator_view xs) (map comparator_view ys)
requirements [] [] = refl
requirements [] (b ∷ ys) = refl
requirements (a ∷ xs) [] = refl
requirements (a ∷ xs) (b ∷ ys) = ap (λ t. t && pointwise of_comparator.ghosts.eq xs ys) (comparators a b) ∙ ap (λ t. same_held (comparator_view a) (comparator_view b) && t) (requirements xs ys)

kinds : (a b : ImportKind) → of_kind.ghosts.eq a b ≡ same_kind (kind_tree a) (kind_tree b)
kinds (kind.Locked a) (kind.Locked b) = refl
kinds kind.Unlocked kind.Unlocked = refl
kinds (kind.Interface a) (kind.Interface b) = refl
kinds a b = refl

versions : (a b : Option Version) → option_eq of_version.ghosts.eq a b ≡ option_eq same_version (option_map parts_of a) (option_map parts_of b)
versions None None = refl
versions None (Some b) = refl
versions (Some a) None = refl
versions (Some a) (Some b) = refl

pub equal_imports : (a b : Import) → of_import.ghosts.eq a b ≡ same_import (import_tree a) (import_tree b)
unfolding same_import
equal_imports a b = ap (λ t. bytes_eq a.name b.name && (t && (of_kind.ghosts.eq a.kind b.kind && option_eq of_version.ghosts.eq a.exact b.exact))) (requirements a.req.comparators.items b.req.comparators.items) ∙ ap (λ t. bytes_eq a.name b.name && (same_requirement (requirement_view a.req) (requirement_view b.req) && (t && option_eq of_version.ghosts.eq a.exact b.exact))) (kinds a.kind b.kind) ∙ ap (λ t. bytes_eq a.name b.name && (same_requirement (requirement_view a.req) (requirement_view b.req) && (same_kind (kind_tree a.kind) (kind_tree b.kind) && t))) (versions a.exact b.exact)
