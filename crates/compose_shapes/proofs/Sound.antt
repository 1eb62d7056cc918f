-- Sound compositions of components that lie in memory have what writing asks of them.
use Rattle.std.proofs.Common.{◌≡◌, ◌<◌, ℕ, zero, suc, List, [], ◌∷◌, length, map, None, subst, sym}
use Rattle.std.specs.Prelude.{flat_map, slice_get, option_to_list}
use Rattle.std.specs.Borrow.{Bor}
use Rattle.std.specs.List.{AllByRecursion, AllByRecursion-prop}
use Rattle.comp_entity.specs.Views.{entries_of}
use Rattle.compose_check.specs.Composition.{ComponentTree, CompositionTree, component_tree, shape_numbered}
use Rattle.compose_component.specs.declared.component.Component.{Component}
use Rattle.compose_component.specs.Component.{name_of}
use Rattle.compose_settled.specs.Imports.{component_of, used, used_components}
use Rattle.compose_naming.specs.Settled.{settled}
use Rattle.compose_known.specs.Importable.{IsImportable, KeepsImports}
use Rattle.compose_known.specs.InOrder.{IsInOrder}
use Rattle.compose_known.specs.Whole.{IsWhole}
use Rattle.compose_needs.specs.Exports.{component_hides}
use Rattle.compose_order.specs.Needs.{LeftTree}
use Rattle.compose_settled.specs.Written.{HasImportsInOrder}
use Rattle.compose_writing.specs.Conditions.{KeepsEntries}
use Rattle.compose_shapes.proofs.OneFact.{one_in_order}
use Rattle.compose_shapes.proofs.Things.{joined, of_both}

-- ---- the components of which instances are made

module _ (P : ComponentTree → Type 0) where
  at_number : (ks : List ComponentTree) (n : ℕ) → AllByRecursion P ks
      → AllByRecursion P (option_to_list (slice_get ks n))
  at_number [] n h = tt
  at_number (k ∷ ks) zero h = (h.0, tt)
  at_number (k ∷ ks) (suc n) h = at_number ks n h.1

  at_numbers : (c : CompositionTree) (ns : List ℕ) → AllByRecursion P c.components
      → AllByRecursion P (flat_map (component_of c) ns)
  at_numbers c [] h = tt
  at_numbers c (n ∷ ns) h =
      joined P (component_of c n) (flat_map (component_of c) ns) (at_number c.components n h) (at_numbers c ns h)

  pub of_used : (c : CompositionTree) → AllByRecursion P c.components → AllByRecursion P (used_components c)
  of_used c h = at_numbers c (used c) h

-- what is asked of a component that is imported, but that it hides nothing
pub record IsReady (k : ComponentTree) : Type 0 where
  pub named : 0 < length k.name
  pub imports : KeepsEntries (entries_of k.shape.imports)
  pub exports : KeepsEntries (entries_of k.shape.exports)
  pub whole : IsWhole k.shape

pub importable : (ks : List ComponentTree) → AllByRecursion IsReady ks
    → AllByRecursion (λ (k : ComponentTree). component_hides k.shape ≡ None) ks → AllByRecursion IsImportable ks
importable ks h hides =
    of_both IsReady (λ (k : ComponentTree). component_hides k.shape ≡ None) IsImportable
    (λ k r e. record { named = r.named; imports = r.imports; exports = r.exports; whole = r.whole; hides_nothing = e })
    ks h hides

each_has_name : ((component : Component) → 0 < length (name_of component)) → (cs : List (Bor Component))
    → AllByRecursion (λ (k : ComponentTree). 0 < length k.name) (map component_tree cs)
each_has_name h [] = tt
each_has_name h (c ∷ cs) = (h c.now, each_has_name h cs)

pub all_have_names : ((component : Component) → 0 < length (name_of component))
    → (ks : List ComponentTree) (held : List (Bor Component)) → ks ≡ map component_tree held
    → AllByRecursion (λ (k : ComponentTree). 0 < length k.name) ks
all_have_names h ks held are =
    subst (AllByRecursion (λ (k : ComponentTree). 0 < length k.name)) (sym are) (each_has_name h held)

pub all_ready : (ks : List ComponentTree) → AllByRecursion (λ (k : ComponentTree). 0 < length k.name) ks
    → AllByRecursion KeepsImports ks → AllByRecursion (λ (k : ComponentTree). KeepsEntries (entries_of k.shape.exports))
    ks → AllByRecursion (λ (k : ComponentTree). IsWhole k.shape) ks → AllByRecursion IsReady ks
all_ready [] named imports exports whole = tt
all_ready (k ∷ ks) named imports exports whole = (
  record { named = named.0; imports = imports.0; exports = exports.0; whole = whole.0 },
  all_ready ks named.1
      imports.1 exports.1 whole.1,
)

-- ---- the imports of instances stand in order

numbered : (ks : List ComponentTree) (n : ℕ) → AllByRecursion (λ (k : ComponentTree). IsWhole k.shape) ks
    → HasImportsInOrder (shape_numbered ks n)
numbered [] n h = tt
numbered (k ∷ ks) zero h = h.0.imports
numbered (k ∷ ks) (suc n) h = numbered ks n h.1

pub all_numbered : (ks : List ComponentTree) (instances : List ℕ)
    → AllByRecursion (λ (k : ComponentTree). IsWhole k.shape) ks
    → AllByRecursion HasImportsInOrder (map (shape_numbered ks) instances)
all_numbered ks [] h = tt
all_numbered ks (n ∷ ns) h = (numbered ks n h, all_numbered ks ns h)

pub one_order : (ls : List LeftTree) → IsProp (AllByRecursion (λ (l : LeftTree). IsInOrder (settled l).entity) ls)
one_order ls =
    AllByRecursion-prop (λ (l : LeftTree). IsInOrder (settled l).entity) (λ l. one_in_order (settled l).entity) ls
