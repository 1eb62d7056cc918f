-- What is written for a core module is the type of that module.
use Rattle.std.proofs.Common.{◌≡◌, ℕ, suc, true, List, [], ◌∷◌, ◌++◌, length, Some, Ok, Err, refl, sym, ap, subst, ◌∙◌, append-nil, append_assoc}
use Rattle.std.specs.Prelude.{Result}
use Rattle.std.proofs.lemmas.Option.{same_Some}
use Rattle.warg_values.specs.Reading.{◌>>=◌}
use Rattle.comp_format.specs.declared.types.TypeRef.{TypeRef}
use Rattle.comp_format.specs.declared.types.TypeRef.TheVariants as description
use Rattle.comp_format.specs.CoreTypes as core
use Rattle.comp_format.specs.CoreTypes.{CoreTree, ModuleDeclTree, ModuleDecls}
use Rattle.comp_format.specs.CoreTypes.{with_module_decl as module_and}
use Rattle.comp_format.specs.Definitions as tree
use Rattle.comp_entity.specs.declared.module.CoreShape.{CoreShape}
use Rattle.comp_entity.specs.declared.module.CoreShape.TheVariants as shape
use Rattle.comp_entity.specs.declared.module.ModuleShape.{ModuleShape}
use Rattle.comp_entity.specs.Entity.{IsModule}
use Rattle.comp_entity.specs.Bounds.{unbounded, ShapeFault}
use Rattle.comp_scope.specs.Spaces.{Spaces, Known, KnownCoreType, OfItem, OfModules, with_core_type}
use Rattle.comp_scope.specs.CoreScopes.{core_item, core_type_of, module_of, with_module_decl, no_module_scope}
use Rattle.comp_scope.specs.CoreScopes.{ModuleScope as ReadScope}
use Rattle.comp_scope.specs.Descriptions.{described}
use Rattle.comp_scope.specs.Aliases.{core_scopes}
use Rattle.comp_scope.specs.Types.{with_decls, with_spaces}
use Rattle.compose_writing.specs.Scopes.{WrittenScope, wrote_as, add_core_type, on_top}
use Rattle.compose_writing.specs.WriteModules.{ModuleScope, before, module_import, module_export, module_imports, module_exports, write_module}
use Rattle.compose_writing.specs.WriteModules.{core_description as described_core}
use Rattle.compose_meaning.specs.Meaning.{Meaning, meant}
use Rattle.compose_meaning.specs.Stands.{Grown, spaces_of, Kept}
use Rattle.compose_meaning.specs.Readable.{Spot}
use Rattle.compose_meaning.proofs.ListLaws.{get_before, get_last, length_more}
use Rattle.compose_meaning.proofs.SpaceLaws.{all_grown_refl, knows_grown, Turns, reads_on, OnTop}
use Rattle.compose_meaning.proofs.ValueLaws.{Written}
use Rattle.compose_meaning.proofs.DescribedLaws.{Describes}

module_push : (scopes : List (List KnownCoreType)) (m : ReadScope) (ds : ModuleDecls) (d : ModuleDeclTree) → module_of unbounded scopes m (module_and ds d) ≡ (module_of unbounded scopes m ds >>= λ n. with_module_decl unbounded scopes n d)
unfolding module_of
module_push scopes m core.none d = one (with_module_decl unbounded scopes m d)
  where
    one : (r : Result ReadScope ShapeFault) → (r >>= λ n. Ok n) ≡ r
    one (Ok n) = refl
    one (Err f) = refl
module_push scopes m (core.more first ds) d = one (λ n. module_push scopes n ds d) (with_module_decl unbounded scopes m first)
  where
    one : ((n : ReadScope) → module_of unbounded scopes n (module_and ds d) ≡ (module_of unbounded scopes n ds >>= λ n. with_module_decl unbounded scopes n d)) → (r : Result ReadScope ShapeFault)
        → (r >>= λ n. module_of unbounded scopes n (module_and ds d)) ≡ ((r >>= λ n. module_of unbounded scopes n ds) >>= λ n. with_module_decl unbounded scopes n d)
    one later (Ok n) = later n
    one later (Err f) = refl

-- what is written so far is read so
record ModuleReads (w : ModuleScope) (m : ReadScope) : Type 0 where
  reads : (scopes : List (List KnownCoreType)) → module_of unbounded scopes no_module_scope w.decls ≡ Ok m
  types : w.types ≡ length m.types

module_on : (w : ModuleScope) (m : ReadScope) (d : ModuleDeclTree) (later : ReadScope) → ModuleReads w m → ((scopes : List (List KnownCoreType)) → with_module_decl unbounded scopes m d ≡ Ok later)
    → (scopes : List (List KnownCoreType)) → module_of unbounded scopes no_module_scope (module_and w.decls d) ≡ Ok later
module_on w m d later h step scopes = module_push scopes no_module_scope w.decls d ∙ ap (λ (r : Result ReadScope ShapeFault). r >>= λ n. with_module_decl unbounded scopes n d) (h.reads scopes) ∙ step scopes

-- the item reads as it is, behind the type that it needs
record ItemReads (item : CoreShape) (w : ModuleScope) (imports : List (List ℕ × List ℕ × CoreShape)) (exports : List (List ℕ × CoreShape)) : Type 0 where
  types : List KnownCoreType
  reads : ModuleReads (before item w) (record { types = types; imports = imports; exports = exports })
  is : core_item types (described_core item w.types) ≡ Ok item

item_reads : (item : CoreShape) (w : ModuleScope) (m : ReadScope) → ModuleReads w m → ItemReads item w m.imports m.exports
unfolding module_of core_item
item_reads (shape.Func params results) w m h = record {
  types = m.types ++ OfItem (shape.Func params results) ∷ [];
  reads = record {
    reads = module_on w m (core.CoreTy (core.Func params results)) (record m { types = m.types ++ OfItem (shape.Func params results) ∷ [] }) h (λ scopes. refl);
    types = ap suc h.types ∙ sym (length_more m.types (OfItem (shape.Func params results)));
  };
  is = rw (h.types, get_last m.types (OfItem (shape.Func params results))) refl;
}
item_reads (shape.Table element limits) w m h = record { types = m.types; reads = h; is = refl }
item_reads (shape.Memory limits) w m h = record { types = m.types; reads = h; is = refl }
item_reads (shape.Global v is_mutable) w m h = record { types = m.types; reads = h; is = refl }

-- all imports, and all exports
record SoFar (w : ModuleScope) (imports : List (List ℕ × List ℕ × CoreShape)) (exports : List (List ℕ × CoreShape)) : Type 0 where
  types : List KnownCoreType
  reads : ModuleReads w (record { types = types; imports = imports; exports = exports })

imports_read : (is : List (List ℕ × List ℕ × CoreShape)) (w : ModuleScope) (imports : List (List ℕ × List ℕ × CoreShape)) (exports : List (List ℕ × CoreShape)) → SoFar w imports exports → SoFar (module_imports is w) (imports ++ is) exports
unfolding module_imports module_of
imports_read [] w imports exports h = subst (λ is. SoFar w is exports) (sym (append-nil imports)) h
imports_read (i ∷ is) w imports exports h =
    let item = item_reads i.2 w (record { types = h.types; imports = imports; exports = exports }) h.reads in
    let d : ModuleDeclTree = core.Import i.0 i.1 (described_core i.2 (before i.2 w).types) in
    subst (λ all. SoFar (module_imports is (module_import i w)) all exports) (append_assoc imports (i ∷ []) is)
    (imports_read is (module_import i w) (imports ++ i ∷ []) exports (record {
      types = item.types;
      reads = record { reads = module_on (before i.2 w) _ _ _ item.reads (λ scopes. rw item.is refl); types = item.reads.types };
    }))

exports_read : (es : List (List ℕ × CoreShape)) (w : ModuleScope) (imports : List (List ℕ × List ℕ × CoreShape)) (exports : List (List ℕ × CoreShape)) → SoFar w imports exports → SoFar (module_exports es w) imports (exports ++ es)
unfolding module_exports module_of
exports_read [] w imports exports h = subst (λ es. SoFar w imports es) (sym (append-nil exports)) h
exports_read (e ∷ es) w imports exports h =
    let item = item_reads e.1 w (record { types = h.types; imports = imports; exports = exports }) h.reads in
    subst (λ all. SoFar (module_exports es (module_export e w)) imports all) (append_assoc exports (e ∷ []) es)
    (exports_read es (module_export e w) imports (exports ++ e ∷ []) (record {
      types = item.types;
      reads = record { reads = module_on (before e.1 w) _ _ _ item.reads (λ scopes. rw item.is refl); types = item.reads.types };
    }))

-- the type of a core module
pub module_reads : (m : ModuleShape) (scopes : List (List KnownCoreType)) → core_type_of unbounded scopes (core.Module (write_module m)) ≡ Ok (OfModules m)
unfolding module_of write_module
module_reads m scopes =
    let w = exports_read m.exports (module_imports m.imports (record { decls = core.none; types = 0 })) m.imports []
    (imports_read m.imports (record { decls = core.none; types = 0 }) [] [] (record { types = []; reads = record { reads = λ scopes. refl; types = refl } })) in
    rw (w.reads.reads scopes) refl

-- ---- in a scope

abbrev with_module : Known → ModuleShape → Known
with_module k m = with_spaces k (with_core_type k.spaces (OfModules m))

module_turns : (m : ModuleShape) (k : Known) (around : List Spaces) → Turns (tree.CoreTy (core.Module (write_module m))) k (with_module k m) around
unfolding with_decls
module_turns m k around = λ outer g. rw (module_reads m (core_scopes (k.spaces ∷ outer))) refl

pub module_entity_reads : (mean : Meaning) (p : Spot) (m : ModuleShape) (ms : List WrittenScope) (k : Known) (around : List Known) (x : List WrittenScope × TypeRef) → Kept 0 (meant mean) ms (k ∷ around) → wrote_as description.Module (on_top (add_core_type (core.Module (write_module m))) ms) ≡ Some x
    → Written mean (k ∷ around) ms x.0 (Describes mean p x.1 (IsModule m))
unfolding on_top Describes OnTop described
module_entity_reads mean p m [] k around x kept h = absurd cc
module_entity_reads mean p m (s ∷ ms) k around x kept h =
    subst (λ (x : List WrittenScope × TypeRef). Written mean (k ∷ around) (s ∷ ms) x.0 (Describes mean p x.1 (IsModule m))) (same_Some _ _ h) (record {
      scopes = with_module k m ∷ around;
      grown = (g, all_grown_refl (spaces_of around));
      kept = record {
        stand = (
          record {
            reads = reads_on s k (with_module k m) (spaces_of around) (tree.CoreTy (core.Module (write_module m))) kept.stand.0 (module_turns m k (spaces_of around));
            types = kept.stand.0.types;
            instances = kept.stand.0.instances;
            core_types = ap suc kept.stand.0.core_types ∙ sym (length_more k.spaces.core_types (OfModules m));
          },
          kept.stand.1,
        );
        know = (knows_grown 0 (meant mean) s k (with_module k m) g kept.know.0, kept.know.1);
      };
      same = refl;
      heads = refl;
      says = λ same. record {
        what = record { standing = (IsModule m, true); brings = record { resources = 0; places = 0 } };
        is = rw (kept.stand.0.core_types, get_last k.spaces.core_types (OfModules m)) refl;
        shows = refl;
        brings = refl;
        matches = (m, refl);
      };
    })
  where
    g : Grown k.spaces (with_module k m).spaces
    g = record { types = λ i e h. h; instances = λ i e h. h; core_types = λ i t h. get_before k.spaces.core_types (OfModules m ∷ []) i t h; is_closed = refl }
