-- Laws of core types and of scopes of core types, also in a table that has grown.
use Rattle.std.specs.Prelude.{◌≡◌, ℕ, zero, suc, ◌<◌, ◌≤◌, List, [], ◌∷◌, ◌++◌, map, length, option_map, Result, Ok, Err, slice_index_or, refl, Vec}
use Rattle.std.specs.Global.{Global}
use Rattle.std.proofs.Common.{sym, ◌∙◌, ap, subst}
use Rattle.std.proofs.lemmas.List.{map-append}
use Rattle.std.proofs.lemmas.Option.{slice_get-map, slice_get-get_or, slice_get_past}
use Rattle.warg_values.specs.Reading.{◌>>=◌}
use Rattle.warg_values.specs.ReadingLaws.{bind_ok, ok_is}
use Rattle.comp_entity.specs.Bounds.{ShapeFault, Index}
use Rattle.comp_entity.specs.declared.module.CoreShape.{CoreShape}
use Rattle.comp_scope.specs.CoreScopes as scope
use Rattle.comp_scope.specs.CoreScopes.{outer_core}
use Rattle.comp_scope.specs.Spaces.{KnownCoreType, OfItem, OfModules, Unknown, at_index, item_or_fault}
use Rattle.comp_space.specs.declared.core_types.CoreStanding.{CoreStanding}
use Rattle.comp_space.specs.declared.core_types.CoreStanding.TheVariants as by_number
use Rattle.comp_space.specs.declared.core_types.ModuleScope.{ModuleScope}
use Rattle.comp_space.specs.CoreStandings.{ShowsCore, AllShowCore, ScopesShow, IsCoreBelow, CoresAreThere, ScopesAreThere, ShowsModule, ModuleIsThere, standing_out}
use Rattle.comp_space.specs.Faults.{Found}
use Rattle.comp_space.specs.StandingLaws.{pairwise_kept, pairwise_push, pairwise_at, pairwise_fails, number_kept, numbers_kept, same_fault}
use Rattle.std.specs.List.{AllByRecursion}
use Rattle.comp_table.specs.Plain.{plain_core, plain_module, plain_import, plain_export}
use Rattle.comp_table.specs.StandLaws.{stands_kept, all_kept, all_push}
use Rattle.comp_table.specs.Trees.{PlainTree, Stands, AllStand, Extends}

module _ (ts us : List PlainTree) (grown : Extends ts us) where
  pub shows_core_kept : (x : CoreStanding) (t : KnownCoreType) → ShowsCore ts x t → ShowsCore us x t
  shows_core_kept (by_number.OfItem n) (OfItem t) s = stands_kept ts us grown n (plain_core t) s
  shows_core_kept (by_number.OfItem n) (OfModules m) s = absurd s
  shows_core_kept (by_number.OfItem n) Unknown s = absurd s
  shows_core_kept (by_number.OfModules n) (OfItem t) s = absurd s
  shows_core_kept (by_number.OfModules n) (OfModules m) s = stands_kept ts us grown n (plain_module m) s
  shows_core_kept (by_number.OfModules n) Unknown s = absurd s
  shows_core_kept by_number.Unknown (OfItem t) s = absurd s
  shows_core_kept by_number.Unknown (OfModules m) s = absurd s
  shows_core_kept by_number.Unknown Unknown s = tt

  pub cores_kept : (xs : List CoreStanding) (known : List KnownCoreType) → AllShowCore ts xs known → AllShowCore us xs known
  cores_kept xs known a = pairwise_kept (ShowsCore ts) (ShowsCore us) shows_core_kept xs known a

  pub scopes_kept : (xss : List (List CoreStanding)) (scopes : List (List KnownCoreType)) → ScopesShow ts xss scopes → ScopesShow us xss scopes
  scopes_kept xss scopes a = pairwise_kept (AllShowCore ts) (AllShowCore us) cores_kept xss scopes a

  core_below_kept : (x : CoreStanding) → IsCoreBelow (length ts) x → IsCoreBelow (length us) x
  core_below_kept (by_number.OfItem n) b = number_kept ts us grown n b
  core_below_kept (by_number.OfModules n) b = number_kept ts us grown n b
  core_below_kept by_number.Unknown b = tt

  pub cores_there_kept : (xs : List CoreStanding) → CoresAreThere ts xs → CoresAreThere us xs
  cores_there_kept [] b = tt
  cores_there_kept (x ∷ xs) b = (core_below_kept x b.0, cores_there_kept xs b.1)

  pub scopes_there_kept : (xss : List (List CoreStanding)) → ScopesAreThere ts xss → ScopesAreThere us xss
  scopes_there_kept [] b = tt
  scopes_there_kept (xs ∷ xss) b = (cores_there_kept xs b.0, scopes_there_kept xss b.1)

  pub module_kept : (m : ModuleScope) (known : scope.ModuleScope) → ShowsModule ts m known → ShowsModule us m known
  module_kept m known s = record { types = cores_kept m.types.items known.types s.types; imports = all_kept ts us grown m.imports.items _ s.imports; exports = all_kept ts us grown m.exports.items _ s.exports }

  pub module_there_kept : (m : ModuleScope) → ModuleIsThere ts m → ModuleIsThere us m
  module_there_kept m b = record { types = cores_there_kept m.types.items b.types; imports = numbers_kept ts us grown m.imports.items b.imports; exports = numbers_kept ts us grown m.exports.items b.exports }

-- one more
pub with_import : (ts : List PlainTree) (m : ModuleScope) (known : scope.ModuleScope) (v : Vec ℕ Global) (n : ℕ) (i : List ℕ × List ℕ × CoreShape) → ShowsModule ts m known → Stands ts n (plain_import i) → v.items ≡ m.imports.items ++ n ∷ [] → ShowsModule ts (record { types = m.types; imports = v; exports = m.exports }) (record known { imports = known.imports ++ i ∷ [] })
with_import ts m known v n i s stands e = record {
  types = s.types;
  imports = rw e (subst (AllStand ts (m.imports.items ++ n ∷ [])) (sym (map-append plain_import known.imports (i ∷ []))) (all_push ts m.imports.items (map plain_import known.imports) n (plain_import i) s.imports stands));
  exports = s.exports;
}

pub with_export : (ts : List PlainTree) (m : ModuleScope) (known : scope.ModuleScope) (v : Vec ℕ Global) (n : ℕ) (x : List ℕ × CoreShape) → ShowsModule ts m known → Stands ts n (plain_export x) → v.items ≡ m.exports.items ++ n ∷ [] → ShowsModule ts (record { types = m.types; imports = m.imports; exports = v }) (record known { exports = known.exports ++ x ∷ [] })
with_export ts m known v n x s stands e = record {
  types = s.types;
  imports = s.imports;
  exports = rw e (subst (AllStand ts (m.exports.items ++ n ∷ [])) (sym (map-append plain_export known.exports (x ∷ []))) (all_push ts m.exports.items (map plain_export known.exports) n (plain_export x) s.exports stands));
}

pub with_type : (ts : List PlainTree) (m : ModuleScope) (known : scope.ModuleScope) (v : Vec CoreStanding Global) (x : CoreStanding) (t : KnownCoreType) → ShowsModule ts m known → ShowsCore ts x t → v.items ≡ m.types.items ++ x ∷ [] → ShowsModule ts (record { types = v; imports = m.imports; exports = m.exports }) (record known { types = known.types ++ t ∷ [] })
with_type ts m known v x t s shows e = record {
  types = rw e (pairwise_push (ShowsCore ts) m.types.items known.types x t s.types shows);
  imports = s.imports;
  exports = s.exports;
}

pub cores_push : (k : ℕ) (xs : List CoreStanding) (x : CoreStanding) → AllByRecursion (IsCoreBelow k) xs → IsCoreBelow k x → AllByRecursion (IsCoreBelow k) (xs ++ x ∷ [])
cores_push k [] x b h = (h, tt)
cores_push k (y ∷ xs) x b h = (b.0, cores_push k xs x b.1 h)

-- what stands at an index
core_at : (k : ℕ) (xs : List CoreStanding) (i : ℕ) (x : CoreStanding) → AllByRecursion (IsCoreBelow k) xs → at_index xs i ≡ Ok x → IsCoreBelow k x
core_at k [] i x b e = absurd cc
core_at k (y ∷ xs) zero x b e = subst (IsCoreBelow k) (ok_is y x e) b.0
core_at k (y ∷ xs) (suc i) x b e = core_at k xs i x b.1 e

pub core_there : (ts : List PlainTree) (xs : List CoreStanding) (i : ℕ) (x : CoreStanding) → CoresAreThere ts xs → at_index xs i ≡ Ok x → IsCoreBelow (length ts) x
core_there ts xs i x b e = core_at (length ts) xs i x b e

scope_there : (ts : List PlainTree) (xss : List (List CoreStanding)) (i : ℕ) (xs : List CoreStanding) → ScopesAreThere ts xss → at_index xss i ≡ Ok xs → CoresAreThere ts xs
scope_there ts [] i xs b e = absurd cc
scope_there ts (ys ∷ xss) zero xs b e = subst (CoresAreThere ts) (ok_is ys xs e) b.0
scope_there ts (ys ∷ xss) (suc i) xs b e = scope_there ts xss i xs b.1 e

pub out_there : (ts : List PlainTree) (xss : List (List CoreStanding)) (count index : ℕ) (x : CoreStanding) → ScopesAreThere ts xss → standing_out xss count index ≡ Ok x → IsCoreBelow (length ts) x
out_there ts xss count index x b e = let a = bind_ok (at_index xss count) _ _ e in core_there ts a.0 index x (scope_there ts xss count a.0 b a.1) a.2

pub out_found : (ts : List PlainTree) (xss : List (List CoreStanding)) (scopes : List (List KnownCoreType)) (count index : ℕ) (x : CoreStanding) → ScopesShow ts xss scopes → standing_out xss count index ≡ Ok x → Found (ShowsCore ts) x (outer_core scopes count index)
out_found ts xss scopes count index x s e =
    let a = bind_ok (at_index xss count) _ _ e in
    let f = pairwise_at (AllShowCore ts) xss scopes count a.0 s a.1 in
    let g = pairwise_at (ShowsCore ts) a.0 f.value index x f.shown a.2 in
    record { value = g.value; given_is = ap (λ r. r >>= λ types. at_index types index) f.given_is ∙ g.given_is; shown = g.shown }

out_of : (ts : List PlainTree) (xss : List (List CoreStanding)) (scopes : List (List KnownCoreType)) (count index : ℕ) (fault : ShapeFault) (r : Result (List CoreStanding) ShapeFault) → at_index xss count ≡ r → ScopesShow ts xss scopes → (r >>= λ types. at_index types index) ≡ Err fault → outer_core scopes count index ≡ Err fault
out_of ts xss scopes count index fault (Ok xs) is s e =
    let f = pairwise_at (AllShowCore ts) xss scopes count xs s is in
    ap (λ r. r >>= λ types. at_index types index) f.given_is ∙ pairwise_fails (ShowsCore ts) xs f.value index fault f.shown e
out_of ts xss scopes count index fault (Err g) is s e = ap (λ r. r >>= λ types. at_index types index) (pairwise_fails (AllShowCore ts) xss scopes count g s is) ∙ ap Err (same_fault g fault e)

pub out_fails : (ts : List PlainTree) (xss : List (List CoreStanding)) (scopes : List (List KnownCoreType)) (count index : ℕ) (fault : ShapeFault) → ScopesShow ts xss scopes → standing_out xss count index ≡ Err fault → outer_core scopes count index ≡ Err fault
out_fails ts xss scopes count index fault s e = out_of ts xss scopes count index fault (at_index xss count) refl s e

-- scopes further out than the innermost
pub out_here : {B : Type 0} (now : B → List CoreStanding) (own : List CoreStanding) (around : List B) (count outer index : ℕ) (d : B) → count ≡ suc outer → outer < length around → standing_out (own ∷ map now around) count index ≡ at_index (now (slice_index_or around outer d)) index
out_here now own around count outer index d is lt =
    ap (λ c. standing_out (own ∷ map now around) c index) is
    ∙ ap (λ o. item_or_fault o >>= λ types. at_index types index) (slice_get-map now around outer ∙ ap (option_map now) (slice_get-get_or around outer d lt))

pub out_past : {B : Type 0} (now : B → List CoreStanding) (own : List CoreStanding) (around : List B) (count outer index : ℕ) → count ≡ suc outer → length around ≤ outer → standing_out (own ∷ map now around) count index ≡ Err Index
out_past now own around count outer index is le =
    ap (λ c. standing_out (own ∷ map now around) c index) is
    ∙ ap (λ o. item_or_fault o >>= λ types. at_index types index) (slice_get-map now around outer ∙ ap (option_map now) (slice_get_past around outer le))

-- what stands for something is there
core_is_there : (ts : List PlainTree) (x : CoreStanding) (t : KnownCoreType) → ShowsCore ts x t → IsCoreBelow (length ts) x
core_is_there ts (by_number.OfItem n) (OfItem t) s = s.there
core_is_there ts (by_number.OfItem n) (OfModules m) s = absurd s
core_is_there ts (by_number.OfItem n) Unknown s = absurd s
core_is_there ts (by_number.OfModules n) (OfItem t) s = absurd s
core_is_there ts (by_number.OfModules n) (OfModules m) s = s.there
core_is_there ts (by_number.OfModules n) Unknown s = absurd s
core_is_there ts by_number.Unknown t s = tt

pub cores_are_there : (ts : List PlainTree) (xs : List CoreStanding) (known : List KnownCoreType) → AllShowCore ts xs known → CoresAreThere ts xs
cores_are_there ts [] [] a = tt
cores_are_there ts [] (t ∷ known) a = absurd a
cores_are_there ts (x ∷ xs) [] a = absurd a
cores_are_there ts (x ∷ xs) (t ∷ known) a = (core_is_there ts x t a.0, cores_are_there ts xs known a.1)
