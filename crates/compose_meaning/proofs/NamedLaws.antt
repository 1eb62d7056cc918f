-- A scope with an import or an export more stands for what stood there and what is imported or exported.
use Rattle.std.proofs.Common.{◌≡◌, ℕ, suc, Bool, true, false, ◌||◌, List, [], ◌∷◌, length, map, Ok, refl, sym, ap, subst, ◌∙◌, arith}
use Rattle.std.specs.List.{list_any}
use Rattle.std.specs.Str.{str_eq_ignore_ascii_case}
use Rattle.comp_format.specs.declared.types.TypeRef.{TypeRef}
use Rattle.comp_format.specs.declared.types.TypeRef.TheVariants as description
use Rattle.comp_format.specs.Definitions as tree
use Rattle.comp_format.specs.Definitions.{DeclTree}
use Rattle.comp_entity.specs.Entity.{EntityTree, IsType, IsFunc, IsInstance, IsComponent, IsModule, IsOwnModule}
use Rattle.comp_entity.specs.Bounds.{unbounded}
use Rattle.comp_scope.specs.Spaces.{Spaces, Known, Standing, nothing_known, placed, added, is_taken, counts_sum}
use Rattle.comp_scope.specs.Descriptions.{Described, described, imported, declared_export, with_import, with_export}
use Rattle.comp_scope.specs.Types.{with_decls}
use Rattle.compose_writing.specs.Scopes.{WrittenScope, declared}
use Rattle.compose_writing.specs.WriteEntities.{counted}
use Rattle.compose_meaning.specs.Stands.{Grown, Stands}
use Rattle.compose_meaning.specs.Readable.{SpotKind, Importing, Exporting}
use Rattle.compose_meaning.specs.Described.{new_of, listed, Matches}
use Rattle.compose_meaning.proofs.ListLaws.{get_before, length_more}
use Rattle.compose_meaning.proofs.SpaceLaws.{Turns, reads_on}

abbrev pub item_of : SpotKind → List ℕ → TypeRef → DeclTree
item_of Importing = tree.Import
item_of Exporting = tree.Export

-- the imports or exports of the other side
abbrev pub others : SpotKind → Known → List (List ℕ × Standing)
others Importing k = k.exports
others Exporting k = k.imports

-- how many resources there are on the other side
abbrev pub other_count : SpotKind → Spaces → ℕ
other_count Importing s = s.made.resources
other_count Exporting s = s.brought.resources

-- a scope with an import or an export more
abbrev pub named : SpotKind → Known → List ℕ → Described → Known
named Importing k name d = with_import k name d.standing (placed (record k.spaces { brought = counts_sum k.spaces.brought d.brings }) d.standing.0 d.standing.1)
named Exporting k name d = with_export k name d.standing (placed (record k.spaces { made = counts_sum k.spaces.made d.brings }) d.standing.0 d.standing.1)

pub named_turns : (side : SpotKind) (k : Known) (around : List Spaces) (name : List ℕ) (ty : TypeRef) (d : Described) → is_taken name (listed side k) ≡ false → described k.spaces (new_of side k.spaces) ty ≡ Ok d
    → Turns (item_of side name ty) k (named side k name d) around
unfolding with_decls imported declared_export added
named_turns Importing k around name ty d free is = λ outer g. rw (free, is) refl
named_turns Exporting k around name ty d free is = λ outer g. rw (free, is) refl

record Numbers (m : WrittenScope) (s : Spaces) : Type 0 where
  types : m.types ≡ length s.types
  instances : m.instances ≡ length s.instances
  core_types : m.core_types ≡ length s.core_types

-- the numbers of the scope count it
counts : (d : DeclTree) (m : WrittenScope) (s : Spaces) (b : Bool) (ty : TypeRef) (e : EntityTree) → Matches ty e → Numbers m s → Numbers (counted ty (declared d m)) (placed s e b)
counts d m s b (description.Module i) e is n = subst (λ e. Numbers (declared d m) (placed s e b)) (sym is.1) (record { types = n.types; instances = n.instances; core_types = n.core_types })
counts d m s b (description.Func i) e is n = subst (λ e. Numbers (declared d m) (placed s e b)) (sym is.1) (record { types = n.types; instances = n.instances; core_types = n.core_types })
counts d m s b (description.TyEqual i) e is n = subst (λ e. Numbers (counted (description.TyEqual i) (declared d m)) (placed s e b)) (sym is.1) (record { types = ap suc n.types ∙ sym (length_more s.types (IsType is.0, b)); instances = n.instances; core_types = n.core_types })
counts d m s b description.TyFresh e is n = subst (λ e. Numbers (counted description.TyFresh (declared d m)) (placed s e b)) (sym is.1) (record { types = ap suc n.types ∙ sym (length_more s.types (IsType is.0, b)); instances = n.instances; core_types = n.core_types })
counts d m s b (description.Component i) e is n = subst (λ e. Numbers (declared d m) (placed s e b)) (sym is.2) (record { types = n.types; instances = n.instances; core_types = n.core_types })
counts d m s b (description.Instance i) e is n = subst (λ e. Numbers (counted (description.Instance i) (declared d m)) (placed s e b)) (sym is.1) (record { types = n.types; instances = ap suc n.instances ∙ sym (length_more s.instances (IsInstance is.0, b)); core_types = n.core_types })

placed_grows : (s : Spaces) (e : EntityTree) (b : Bool) → Grown s (placed s e b)
placed_grows s (IsType t) b = record { types = λ i x h. get_before s.types ((IsType t, b) ∷ []) i x h; instances = λ i x h. h; core_types = λ i t h. h; is_closed = refl }
placed_grows s (IsFunc f) b = record { types = λ i x h. h; instances = λ i x h. h; core_types = λ i t h. h; is_closed = refl }
placed_grows s (IsInstance es) b = record { types = λ i x h. h; instances = λ i x h. get_before s.instances ((IsInstance es, b) ∷ []) i x h; core_types = λ i t h. h; is_closed = refl }
placed_grows s (IsComponent is es) b = record { types = λ i x h. h; instances = λ i x h. h; core_types = λ i t h. h; is_closed = refl }
placed_grows s (IsModule m) b = record { types = λ i x h. h; instances = λ i x h. h; core_types = λ i t h. h; is_closed = refl }
placed_grows s IsOwnModule b = record { types = λ i x h. h; instances = λ i x h. h; core_types = λ i t h. h; is_closed = refl }

pub named_grows : (side : SpotKind) (k : Known) (name : List ℕ) (d : Described) → Grown k.spaces (named side k name d).spaces
named_grows Importing k name d =
    let g = placed_grows (record k.spaces { brought = counts_sum k.spaces.brought d.brings }) d.standing.0 d.standing.1 in record { types = g.types; instances = g.instances; core_types = g.core_types; is_closed = g.is_closed }
named_grows Exporting k name d =
    let g = placed_grows (record k.spaces { made = counts_sum k.spaces.made d.brings }) d.standing.0 d.standing.1 in record { types = g.types; instances = g.instances; core_types = g.core_types; is_closed = g.is_closed }

pub stands_named : (side : SpotKind) (m : WrittenScope) (k : Known) (around : List Spaces) (name : List ℕ) (ty : TypeRef) (d : Described) → Stands m k around → is_taken name (listed side k) ≡ false → described k.spaces (new_of side k.spaces) ty ≡ Ok d
    → Matches ty d.standing.0 → Stands (counted ty (declared (item_of side name ty) m)) (named side k name d) around
stands_named side m k around name ty d h free is matches = record {
  reads = λ outer g. ap (λ b. with_decls unbounded outer (nothing_known b) (counted ty (declared (item_of side name ty) m)).decls) (named_grows side k name d).is_closed
      ∙ ap (with_decls unbounded outer (nothing_known k.spaces.is_closed)) (same_decls ty)
      ∙ reads_on m k (named side k name d) around (item_of side name ty) h (named_turns side k around name ty d free is) outer g;
  types = (numbers side).types;
  instances = (numbers side).instances;
  core_types = (numbers side).core_types;
}
  where
    same_decls : (ty' : TypeRef) → (counted ty' (declared (item_of side name ty) m)).decls ≡ tree.with_decl m.decls (item_of side name ty)
    same_decls (description.Module i) = refl
    same_decls (description.Func i) = refl
    same_decls (description.TyEqual i) = refl
    same_decls description.TyFresh = refl
    same_decls (description.Component i) = refl
    same_decls (description.Instance i) = refl

    numbers : (side' : SpotKind) → Numbers (counted ty (declared (item_of side name ty) m)) (named side' k name d).spaces
    numbers Importing = counts (item_of side name ty) m (record k.spaces { brought = counts_sum k.spaces.brought d.brings }) d.standing.1 ty d.standing.0 matches (record { types = h.types; instances = h.instances; core_types = h.core_types })
    numbers Exporting = counts (item_of side name ty) m (record k.spaces { made = counts_sum k.spaces.made d.brings }) d.standing.1 ty d.standing.0 matches (record { types = h.types; instances = h.instances; core_types = h.core_types })

-- what the scope is called by, and what it knows, stays
pub same_known : (ty : TypeRef) (d : DeclTree) (m : WrittenScope) → ((counted ty (declared d m)).known ≡ m.known) × ((counted ty (declared d m)).width ≡ m.width)
same_known (description.Module i) d m = (refl, refl)
same_known (description.Func i) d m = (refl, refl)
same_known (description.TyEqual i) d m = (refl, refl)
same_known description.TyFresh d m = (refl, refl)
same_known (description.Component i) d m = (refl, refl)
same_known (description.Instance i) d m = (refl, refl)

-- names that are not taken
pub not_taken : (name : List ℕ) (es : List (List ℕ × Standing)) → list_any (str_eq_ignore_ascii_case name) (map (λ e. e.0) es) ≡ false → is_taken name es ≡ false
not_taken name [] h = refl
not_taken name (e ∷ es) h = one (str_eq_ignore_ascii_case name e.0) (not_taken name es) h
  where
    one : (b : Bool) → (list_any (str_eq_ignore_ascii_case name) (map (λ e. e.0) es) ≡ false → is_taken name es ≡ false) → (b || list_any (str_eq_ignore_ascii_case name) (map (λ e. e.0) es)) ≡ false → (b || is_taken name es) ≡ false
    one true rest h = absurd cc
    one false rest h = rest h

pub eq_itself : (name : List ℕ) → str_eq_ignore_ascii_case name name ≡ true
eq_itself [] = refl
eq_itself (b ∷ bs) = grind (arith, eq_itself bs)
