-- Compositions that can be written: what their instances leave open, also behind the components that are imported.
use Rattle.std.proofs.Common.{◌≡◌, ℕ, Bool, true, false, List, [], ◌∷◌, ◌++◌, map, Option, Some, None, refl}
use Rattle.std.specs.Prelude.{slice_get}
use Rattle.std.specs.Option.{option_map_or}
use Rattle.std.specs.List.{AllByRecursion}
use Rattle.compose_left.specs.Wiring.{no_shape}
use Rattle.compose_needs.specs.Lefts.{lefts_of}
use Rattle.compose_order.specs.Brought.{IsBrought}
use Rattle.compose_order.specs.Needs.{LeftTree, is_brought}
use Rattle.compose_writing.specs.Scopes.{WrittenScope, knows, outermost}
use Rattle.compose_check.specs.Checked.{IsSound}
use Rattle.compose_check.specs.Composition.{ComponentTree, CompositionTree, shape_numbered, wiring}
use Rattle.compose_check.specs.Open.{lefts}
use Rattle.compose_image.specs.Imports.{component_import, imports_of, used_components}
use Rattle.compose_image.specs.Writable.{AreWritable}
use Rattle.compose_naming.specs.Settled.{settled}
use Rattle.compose_known.specs.Importable.{IsImportable, KeepsImports, NamesImports}
use Rattle.compose_known.specs.InOrder.{IsInOrder}
use Rattle.compose_known.proofs.ComponentLaws.{component_known}
use Rattle.compose_known.proofs.FormLaws.{ShapeKeeps}
use Rattle.compose_known.proofs.KnowLaws.{IsOpen, left_imported}
use Rattle.compose_known.proofs.MergeLaws.{all_at}
use Rattle.compose_known.proofs.SoundLaws.{agreed_writable}

shape_keeps : (cs : List ComponentTree) (n : ℕ) → AllByRecursion KeepsImports cs → AllByRecursion NamesImports cs
    → ShapeKeeps (shape_numbered cs n)
shape_keeps cs n keep names = one (slice_get cs n) refl
  where
    one : (o : Option ComponentTree) → slice_get cs n ≡ o
        → ShapeKeeps (option_map_or (λ (c : ComponentTree). c.shape) o no_shape)
    one None there = record { form = tt; apart = tt; placed = tt }
    one (Some k) there =
        let named = all_at NamesImports cs n k names there in
        record { form = all_at KeepsImports cs n k keep there; apart = named.apart; placed = named.placed }

shapes_keep : (cs : List ComponentTree) (ns : List ℕ) → AllByRecursion KeepsImports cs → AllByRecursion NamesImports cs
    → AllByRecursion ShapeKeeps (map (shape_numbered cs) ns)
shapes_keep cs [] keep names = tt
shapes_keep cs (n ∷ ns) keep names = (shape_keeps cs n keep names, shapes_keep cs ns keep names)

-- the rule by which imports are brought, as the definition decides it
abbrev pub BroughtRule : Type 0
BroughtRule =
    (left : ℕ → Option (List ℕ)) (l : LeftTree) → is_brought left l ≡ true → IsBrought left l

module _ (rule : BroughtRule) (c : CompositionTree) (order : List ℕ) (out : List LeftTree) (sound : IsSound c order out)
    (keep : AllByRecursion KeepsImports c.components) (names : AllByRecursion NamesImports c.components)
    (orders : AllByRecursion (λ (l : LeftTree). IsInOrder (settled l).entity) (lefts (wiring c))) where
  lefts_writable : (ms : List WrittenScope) → IsOpen ms → AreWritable (map settled out) ms
  lefts_writable ms o =
      agreed_writable (wiring c) (shapes_keep c.components c.instances keep names) out ms o sound.agree.merges orders
      (rule (lefts_of (wiring c))) sound.agree.ordered

  components_first : (ks : List ComponentTree) → AllByRecursion IsImportable ks → (ms : List WrittenScope) → IsOpen ms
      → AreWritable (map component_import ks ++ map settled out) ms
  components_first [] fit ms o = lefts_writable ms o
  components_first (k ∷ ks) fit ms o = (
    record {
      named =
          fit.0.named;
      form =
          (fit.0.imports, fit.0.exports);
      known =
          component_known k.shape (knows ms) fit.0.whole fit.0.imports fit.0.exports fit.0.hides_nothing;
    },
    λ next is. components_first ks fit.1 next (left_imported (component_import k) ms next o is).open_still,
  )

  written : (define : Bool) → (define ≡ false → AllByRecursion IsImportable (used_components c))
      → AreWritable (imports_of c define out) (outermost ∷ [])
  written true fit = lefts_writable (outermost ∷ []) tt
  written false fit = components_first (used_components c) (fit refl) (outermost ∷ []) tt

pub sound_writable : BroughtRule → (c : CompositionTree) (define : Bool) (order : List ℕ) (out : List LeftTree)
    → IsSound c order out → AllByRecursion KeepsImports c.components → AllByRecursion NamesImports c.components
    → AllByRecursion (λ (l : LeftTree). IsInOrder (settled l).entity) (lefts (wiring c))
    → (define ≡ false → AllByRecursion IsImportable (used_components c))
    → AreWritable (imports_of c define out) (outermost ∷ [])
sound_writable rule c define order out sound keep names orders fit =
    written rule c order out sound keep names orders define fit
