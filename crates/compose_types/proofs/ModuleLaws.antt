-- Types of core modules as they are written.
use Rattle.std.proofs.Common.{◌≡◌, ℕ, suc, ◌+◌, ◌<◌, ◌≤◌, ◌^◌, length, drop, drop-cons, get_or, arith, List, [], ◌∷◌, refl, sym, ap, subst, ◌∙◌, inl, inr}
use Rattle.std.specs.Prelude.{◌⊎◌}
use Rattle.std.proofs.lemmas.List.{drop_all}
use Rattle.std.proofs.lemmas.List.Elements.{recursion_from_All}
use Rattle.std.specs.List.{AllByRecursion}
use Rattle.comp_format.specs.CoreTypes as core
use Rattle.comp_format.specs.CoreTypes.{CoreTree, ModuleDeclTree, ModuleDecls, module_count, with_module_decl}
use Rattle.comp_encoder.specs.Largest.{core_largest, module_decl_largest, module_largest}
use Rattle.comp_format.specs.Forms.{AreModuleDecls, IsModuleDecl, IsCoreDesc}
use Rattle.comp_format.specs.Views.{core_tree, core_step, module_decl_step, module_step}
use Rattle.comp_format.specs.declared.core_types.CoreVal.{CoreVal}
use Rattle.comp_format.specs.declared.core_types.CoreDesc.{CoreDesc}
use Rattle.comp_format.specs.declared.core_types.CoreType.{fold-roll-CoreType}
use Rattle.comp_format.specs.declared.core_types.CoreType.TheOpen as layer
use Rattle.comp_format.specs.declared.core_types.CoreType.TheVariants as made
use Rattle.comp_entity.specs.declared.module.CoreShape.{CoreShape}
use Rattle.comp_entity.specs.declared.module.CoreShape.TheVariants as core_shape
use Rattle.comp_entity.specs.declared.module.ModuleShape.{ModuleShape}
use Rattle.compose_writing.specs.Conditions.{KeepsCore, KeepsModule}
use Rattle.compose_types.specs.Largest.{IsTooLarge, module_size}
use Rattle.compose_types.specs.Modules.{IsCounted}
use Rattle.compose_writing.specs.WriteModules.{ModuleScope, with_module, before, core_description, module_import, module_export, module_imports, module_exports, write_module}

pub core_func : (params results : List CoreVal) → core_tree (made.Func params results) ≡ core.Func params results
core_func params results = ap core_tree (sym (made.rolls-Func params results)) ∙ fold-roll-CoreType CoreTree ModuleDeclTree ModuleDecls core_step module_decl_step module_step (layer.Func params results)

pub imports_end : (xs : List (List ℕ × List ℕ × CoreShape)) (i : ℕ) (m all : ModuleScope) → length xs ≤ i → module_imports (drop i xs) m ≡ all → m ≡ all
unfolding module_imports
imports_end xs i m all le h =
    let none : module_imports (drop i xs) m ≡ m = rw drop_all refl in
    sym none ∙ h

pub imports_step : (xs : List (List ℕ × List ℕ × CoreShape)) (i : ℕ) (x : List ℕ × List ℕ × CoreShape) (m next : ModuleScope) → i < length xs → x ≡ get_or xs i x → next ≡ module_import x m → module_imports (drop (i + 1) xs) next ≡ module_imports (drop i xs) m
unfolding module_imports
imports_step xs i x m next lt is h =
    let more_by_one : suc i ≡ i + 1 = omega arith in
    let cut : drop i xs ≡ x ∷ drop (i + 1) xs = drop-cons xs i x lt ∙ ap (λ z. z ∷ drop (suc i) xs) (sym is) ∙ ap (λ n. x ∷ drop n xs) more_by_one in
    rw cut (ap (module_imports (drop (i + 1) xs)) h)

pub exports_end : (xs : List (List ℕ × CoreShape)) (i : ℕ) (m all : ModuleScope) → length xs ≤ i → module_exports (drop i xs) m ≡ all → m ≡ all
unfolding module_exports
exports_end xs i m all le h =
    let none : module_exports (drop i xs) m ≡ m = rw drop_all refl in
    sym none ∙ h

pub exports_step : (xs : List (List ℕ × CoreShape)) (i : ℕ) (x : List ℕ × CoreShape) (m next : ModuleScope) → i < length xs → x ≡ get_or xs i x → next ≡ module_export x m → module_exports (drop (i + 1) xs) next ≡ module_exports (drop i xs) m
unfolding module_exports
exports_step xs i x m next lt is h =
    let more_by_one : suc i ≡ i + 1 = omega arith in
    let cut : drop i xs ≡ x ∷ drop (i + 1) xs = drop-cons xs i x lt ∙ ap (λ z. z ∷ drop (suc i) xs) (sym is) ∙ ap (λ n. x ∷ drop n xs) more_by_one in
    rw cut (ap (module_exports (drop (i + 1) xs)) h)

pub import_named : (x : List ℕ × List ℕ × CoreShape) (m mid next : ModuleScope) (desc : CoreDesc) (a b : List ℕ) → mid ≡ before x.2 m → desc ≡ core_description x.2 m.types → a ≡ x.0 → b ≡ x.1 → next ≡ with_module (core.Import a b desc) mid → next ≡ module_import x m
import_named x m mid next desc a b mids descs firsts seconds h = h ∙ (λ i. with_module (core.Import (firsts i) (seconds i) (descs i)) (mids i))

pub export_named : (x : List ℕ × CoreShape) (m mid next : ModuleScope) (desc : CoreDesc) (a : List ℕ) → mid ≡ before x.1 m → desc ≡ core_description x.1 m.types → a ≡ x.0 → next ≡ with_module (core.Export a desc) mid → next ≡ module_export x m
export_named x m mid next desc a mids descs firsts h = h ∙ (λ i. with_module (core.Export (firsts i) (descs i)) (mids i))

pub module_written : (m : ModuleShape) (start mid last : ModuleScope) → start ≡ record { decls = core.none; types = 0 } → mid ≡ module_imports m.imports start → last ≡ module_exports m.exports mid → last.decls ≡ write_module m
unfolding write_module
module_written m start mid last s a b = ap (λ x. x.decls) (b ∙ ap (module_exports m.exports) (a ∙ ap (module_imports m.imports) s))

-- ---- forms

decls_kept : (ds : ModuleDecls) (d : ModuleDeclTree) → AreModuleDecls ds → IsModuleDecl d → AreModuleDecls (with_module_decl ds d)
decls_kept core.none d are is = (is, tt)
decls_kept (core.more first ds) d are is = (are.0, decls_kept ds d are.1 is)

before_kept : (s : CoreShape) (m : ModuleScope) → AreModuleDecls m.decls → AreModuleDecls (before s m).decls
before_kept (core_shape.Func params results) m are = decls_kept m.decls (core.CoreTy (core.Func params results)) are tt
before_kept (core_shape.Table element limits) m are = are
before_kept (core_shape.Memory limits) m are = are
before_kept (core_shape.Global v is_mutable) m are = are

described_kept : (s : CoreShape) (types : ℕ) → KeepsCore s → IsCoreDesc (core_description s types)
described_kept (core_shape.Func params results) types k = tt
described_kept (core_shape.Table element limits) types k = k
described_kept (core_shape.Memory limits) types k = tt
described_kept (core_shape.Global v is_mutable) types k = tt

imports_kept : (xs : List (List ℕ × List ℕ × CoreShape)) (m : ModuleScope) → AllByRecursion (λ x. KeepsCore x.2) xs → AreModuleDecls m.decls → AreModuleDecls (module_imports xs m).decls
unfolding module_imports
imports_kept [] m k are = are
imports_kept (x ∷ xs) m k are = imports_kept xs (module_import x m) k.1 (decls_kept (before x.2 m).decls (core.Import x.0 x.1 (core_description x.2 m.types)) (before_kept x.2 m are) (described_kept x.2 m.types k.0))

exports_kept : (xs : List (List ℕ × CoreShape)) (m : ModuleScope) → AllByRecursion (λ x. KeepsCore x.1) xs → AreModuleDecls m.decls → AreModuleDecls (module_exports xs m).decls
unfolding module_exports
exports_kept [] m k are = are
exports_kept (x ∷ xs) m k are = exports_kept xs (module_export x m) k.1 (decls_kept (before x.1 m).decls (core.Export x.0 (core_description x.1 m.types)) (before_kept x.1 m are) (described_kept x.1 m.types k.0))

pub module_kept : (m : ModuleShape) → KeepsModule m → AreModuleDecls (write_module m)
unfolding write_module
module_kept m k =
    exports_kept m.exports (module_imports m.imports (record { decls = core.none; types = 0 })) (recursion_from_All (λ x. KeepsCore x.1) m.exports k.exports)
    (imports_kept m.imports (record { decls = core.none; types = 0 }) (recursion_from_All (λ x. KeepsCore x.2) m.imports k.imports) tt)

-- ---- sizes

same_count : (ds : ModuleDecls) (d : ModuleDeclTree) → module_count (with_module_decl ds d) ≡ suc (module_count ds)
same_count core.none d = refl
same_count (core.more first ds) d = ap suc (same_count ds d)

-- what declarations have, and what one more has, is in those with it
largest_kept : (ds : ModuleDecls) (d : ModuleDeclTree) → module_largest ds ≤ module_largest (with_module_decl ds d)
unfolding module_largest
largest_kept core.none d = omega arith
largest_kept (core.more first ds) d = let rest = largest_kept ds d in grind (arith, rest)

largest_last : (ds : ModuleDecls) (d : ModuleDeclTree) → module_decl_largest d ≤ module_largest (with_module_decl ds d)
unfolding module_largest
largest_last core.none d = grind arith
largest_last (core.more first ds) d = let rest = largest_last ds d in grind (arith, rest)

pub size_counts : (ds : ModuleDecls) → module_count ds ≤ module_size ds
unfolding core_largest
size_counts ds = grind arith

size_largest : (ds : ModuleDecls) → module_largest ds ≤ module_size ds
unfolding core_largest
size_largest ds = grind arith

size_kept : (ds : ModuleDecls) (d : ModuleDeclTree) → module_size ds ≤ module_size (with_module_decl ds d)
unfolding core_largest
size_kept ds d = let one = same_count ds d in let two = largest_kept ds d in grind (arith, one, two)

-- a length in the last declaration
pub size_last : (n : ℕ) (ds : ModuleDecls) (d : ModuleDeclTree) → n ≤ module_decl_largest d → n ≤ module_size (with_module_decl ds d)
size_last n ds d le = let a = largest_last ds d in let b = size_largest (with_module_decl ds d) in omega (arith, le, a, b)

pub count_last : (n : ℕ) (ds : ModuleDecls) (d : ModuleDeclTree) → n ≤ module_count ds + 1 → n ≤ module_size (with_module_decl ds d)
count_last n ds d le = let a = same_count ds d in let b = size_counts (with_module_decl ds d) in omega (arith, le, a, b)

before_grows : (s : CoreShape) (m : ModuleScope) → module_size m.decls ≤ module_size (before s m).decls
before_grows (core_shape.Func params results) m = size_kept m.decls (core.CoreTy (core.Func params results))
before_grows (core_shape.Table element limits) m = omega arith
before_grows (core_shape.Memory limits) m = omega arith
before_grows (core_shape.Global v is_mutable) m = omega arith

pub before_counted : (s : CoreShape) (m : ModuleScope) → IsCounted m → IsCounted (before s m)
before_counted (core_shape.Func params results) m h = let one = same_count m.decls (core.CoreTy (core.Func params results)) in omega (arith, one, h)
before_counted (core_shape.Table element limits) m h = h
before_counted (core_shape.Memory limits) m h = h
before_counted (core_shape.Global v is_mutable) m h = h

with_counted : (d : ModuleDeclTree) (m : ModuleScope) → IsCounted m → IsCounted (with_module d m)
with_counted d m h = let one = same_count m.decls d in omega (arith, one, h)

pub import_counted : (x : List ℕ × List ℕ × CoreShape) (m : ModuleScope) → IsCounted m → IsCounted (module_import x m)
import_counted x m h = with_counted (core.Import x.0 x.1 (core_description x.2 m.types)) (before x.2 m) (before_counted x.2 m h)

pub export_counted : (x : List ℕ × CoreShape) (m : ModuleScope) → IsCounted m → IsCounted (module_export x m)
export_counted x m h = with_counted (core.Export x.0 (core_description x.1 m.types)) (before x.1 m) (before_counted x.1 m h)

import_grows : (x : List ℕ × List ℕ × CoreShape) (m : ModuleScope) → module_size (before x.2 m).decls ≤ module_size (module_import x m).decls
import_grows x m = size_kept (before x.2 m).decls (core.Import x.0 x.1 (core_description x.2 m.types))

export_grows : (x : List ℕ × CoreShape) (m : ModuleScope) → module_size (before x.1 m).decls ≤ module_size (module_export x m).decls
export_grows x m = size_kept (before x.1 m).decls (core.Export x.0 (core_description x.1 m.types))

imports_grow : (xs : List (List ℕ × List ℕ × CoreShape)) (m : ModuleScope) → module_size m.decls ≤ module_size (module_imports xs m).decls
unfolding module_imports
imports_grow [] m = omega arith
imports_grow (x ∷ xs) m = let a = before_grows x.2 m in let b = import_grows x m in let c = imports_grow xs (module_import x m) in omega (arith, a, b, c)

exports_grow : (xs : List (List ℕ × CoreShape)) (m : ModuleScope) → module_size m.decls ≤ module_size (module_exports xs m).decls
unfolding module_exports
exports_grow [] m = omega arith
exports_grow (x ∷ xs) m = let a = before_grows x.1 m in let b = export_grows x m in let c = exports_grow xs (module_export x m) in omega (arith, a, b, c)

too_large_in : (n a b : ℕ) → IsTooLarge n a → a ≤ b → IsTooLarge n b
too_large_in n a b h le = record { large = h.large; among = let among = h.among in omega (arith, among, le) }

-- one of the imports that are left, and of the exports
module _ (xs : List (List ℕ × List ℕ × CoreShape)) (i : ℕ) (x : List ℕ × List ℕ × CoreShape) (m : ModuleScope) (all : ModuleScope) (n : ℕ) (lt : i < length xs) (is : x ≡ get_or xs i x) (left : module_imports (drop i xs) m ≡ all) where
  rest_of_imports : module_imports (drop (i + 1) xs) (module_import x m) ≡ all
  rest_of_imports = imports_step xs i x m (module_import x m) lt is refl ∙ left

  pub import_too_large : IsTooLarge n (module_size (module_import x m).decls) → IsTooLarge n (module_size all.decls)
  import_too_large h = subst (λ (s : ModuleScope). IsTooLarge n (module_size s.decls)) rest_of_imports (too_large_in n (module_size (module_import x m).decls) (module_size (module_imports (drop (i + 1) xs) (module_import x m)).decls) h (imports_grow (drop (i + 1) xs) (module_import x m)))

  pub before_import_too_large : IsTooLarge n (module_size (before x.2 m).decls) → IsTooLarge n (module_size all.decls)
  before_import_too_large h = import_too_large (too_large_in n (module_size (before x.2 m).decls) (module_size (module_import x m).decls) h (import_grows x m))

module _ (xs : List (List ℕ × CoreShape)) (i : ℕ) (x : List ℕ × CoreShape) (m : ModuleScope) (all : ModuleScope) (n : ℕ) (lt : i < length xs) (is : x ≡ get_or xs i x) (left : module_exports (drop i xs) m ≡ all) where
  rest_of_exports : module_exports (drop (i + 1) xs) (module_export x m) ≡ all
  rest_of_exports = exports_step xs i x m (module_export x m) lt is refl ∙ left

  pub export_too_large : IsTooLarge n (module_size (module_export x m).decls) → IsTooLarge n (module_size all.decls)
  export_too_large h = subst (λ (s : ModuleScope). IsTooLarge n (module_size s.decls)) rest_of_exports (too_large_in n (module_size (module_export x m).decls) (module_size (module_exports (drop (i + 1) xs) (module_export x m)).decls) h (exports_grow (drop (i + 1) xs) (module_export x m)))

  pub before_export_too_large : IsTooLarge n (module_size (before x.1 m).decls) → IsTooLarge n (module_size all.decls)
  before_export_too_large h = export_too_large (too_large_in n (module_size (before x.1 m).decls) (module_size (module_export x m).decls) h (export_grows x m))

-- the imports of a module stand before its exports
pub imports_too_large : (m : ModuleShape) (n : ℕ) (start : ModuleScope) → start ≡ record { decls = core.none; types = 0 } → IsTooLarge n (module_size (module_imports m.imports start).decls) → IsTooLarge n (module_size (write_module m))
unfolding write_module
imports_too_large m n start is h =
    subst (λ (s : ModuleScope). IsTooLarge n (module_size (module_exports m.exports (module_imports m.imports s)).decls)) is
    (too_large_in n (module_size (module_imports m.imports start).decls) (module_size (module_exports m.exports (module_imports m.imports start)).decls) h (exports_grow m.exports (module_imports m.imports start)))

pub exports_too_large : (m : ModuleShape) (n : ℕ) (start mid : ModuleScope) → start ≡ record { decls = core.none; types = 0 } → mid ≡ module_imports m.imports start → IsTooLarge n (module_size (module_exports m.exports mid).decls) → IsTooLarge n (module_size (write_module m))
unfolding write_module
exports_too_large m n start mid is a h = subst (λ (s : ModuleScope). IsTooLarge n (module_size (module_exports m.exports s).decls)) (a ∙ ap (module_imports m.imports) is) h

pub imports_counted : (xs : List (List ℕ × List ℕ × CoreShape)) (m : ModuleScope) → IsCounted m → IsCounted (module_imports xs m)
unfolding module_imports
imports_counted [] m h = h
imports_counted (x ∷ xs) m h = imports_counted xs (module_import x m) (import_counted x m h)

-- a function needs a core type in front of it
pub func_too_large : (s : CoreShape) (params results : List CoreVal) (m : ModuleScope) (n : ℕ) → s ≡ core_shape.Func params results → 2 ^ 32 ≤ n → n ≤ module_count m.decls + 1 → IsTooLarge n (module_size (before s m).decls)
func_too_large s params results m n is large le =
    subst (λ (x : CoreShape). IsTooLarge n (module_size (before x m).decls)) (sym is) (record { large = large; among = count_last n m.decls (core.CoreTy (core.Func params results)) le })

-- a name, or the number of declarations, is too large
import_last : (x : List ℕ × List ℕ × CoreShape) (m : ModuleScope) (n : ℕ) → (n ≡ length x.0) ⊎ ((n ≡ length x.1) ⊎ (n ≡ module_count (before x.2 m).decls + 1)) → n ≤ module_size (module_import x m).decls
unfolding module_decl_largest
import_last x m n (inl e) = size_last n (before x.2 m).decls (core.Import x.0 x.1 (core_description x.2 m.types)) (grind (arith, e))
import_last x m n (inr (inl e)) = size_last n (before x.2 m).decls (core.Import x.0 x.1 (core_description x.2 m.types)) (grind (arith, e))
import_last x m n (inr (inr e)) = count_last n (before x.2 m).decls (core.Import x.0 x.1 (core_description x.2 m.types)) (omega (arith, e))

pub import_refused : (x : List ℕ × List ℕ × CoreShape) (m mid : ModuleScope) (a b : List ℕ) (n : ℕ) → mid ≡ before x.2 m → a ≡ x.0 → b ≡ x.1 → 2 ^ 32 ≤ n → (n ≡ length a) ⊎ ((n ≡ length b) ⊎ (n ≡ module_count mid.decls + 1)) → IsTooLarge n (module_size (module_import x m).decls)
import_refused x m mid a b n mids firsts seconds large h = record {
  large = large;
  among = import_last x m n (subst (λ (s : ModuleScope). (n ≡ length x.0) ⊎ ((n ≡ length x.1) ⊎ (n ≡ module_count s.decls + 1))) mids
      (subst (λ (c : List ℕ). (n ≡ length c) ⊎ ((n ≡ length x.1) ⊎ (n ≡ module_count mid.decls + 1))) firsts (subst (λ (c : List ℕ). (n ≡ length a) ⊎ ((n ≡ length c) ⊎ (n ≡ module_count mid.decls + 1))) seconds h)));
}

export_last : (x : List ℕ × CoreShape) (m : ModuleScope) (n : ℕ) → (n ≡ length x.0) ⊎ (n ≡ module_count (before x.1 m).decls + 1) → n ≤ module_size (module_export x m).decls
unfolding module_decl_largest
export_last x m n (inl e) = size_last n (before x.1 m).decls (core.Export x.0 (core_description x.1 m.types)) (grind (arith, e))
export_last x m n (inr e) = count_last n (before x.1 m).decls (core.Export x.0 (core_description x.1 m.types)) (omega (arith, e))

pub export_refused : (x : List ℕ × CoreShape) (m mid : ModuleScope) (a : List ℕ) (n : ℕ) → mid ≡ before x.1 m → a ≡ x.0 → 2 ^ 32 ≤ n → (n ≡ length a) ⊎ (n ≡ module_count mid.decls + 1) → IsTooLarge n (module_size (module_export x m).decls)
export_refused x m mid a n mids firsts large h = record {
  large = large;
  among = export_last x m n (subst (λ (s : ModuleScope). (n ≡ length x.0) ⊎ (n ≡ module_count s.decls + 1)) mids (subst (λ (c : List ℕ). (n ≡ length c) ⊎ (n ≡ module_count mid.decls + 1)) firsts h));
}
