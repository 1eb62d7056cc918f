-- Imports of a composition, by the numbers of components.
use Rattle.std.proofs.Common.{◌≡◌, ◌∙◌, ◌≤◌, ◌^◌, inl, inr, ℕ, Bool, List, [], ◌∷◌, ◌++◌, map, Option, Some, option_and_then, refl, sym, ap, arith}
use Rattle.std.specs.Prelude.{flat_map}
use Rattle.std.specs.List.{AllByRecursion}
use Rattle.std.proofs.lemmas.List.{map-append}
use Rattle.comp_format.specs.Items.{ItemTree}
use Rattle.compose_order.specs.Needs.{LeftTree}
use Rattle.compose_check.specs.Composition.{CompositionTree}
use Rattle.compose_image.specs.Imports.{component_import, component_of}
use Rattle.compose_image.specs.Imports.{import_items, items_in, write_lefts}
use Rattle.compose_writing.specs.Scopes.{WrittenScope, outermost}
use Rattle.compose_types.specs.Largest.{scope_size, scopes_size}
use Rattle.compose_meaning.specs.Items.{items_for}
use Rattle.compose_naming.specs.Settled.{settled}
use Rattle.compose_imports.specs.Begun.{imports_numbered}
use Rattle.compose_imports.specs.Calls.{HasNamedCalls}
use Rattle.compose_encode.specs.Encoded.{IsTooLargeFor}

pub all_numbered : (c : CompositionTree) (numbers : List ℕ)
    → imports_numbered c numbers ≡ map component_import (flat_map (component_of c) numbers)
all_numbered c [] = refl
all_numbered c (n ∷ ns) =
    ap (λ ls. map component_import (component_of c n) ++ ls) (all_numbered c ns)
    ∙ sym (map-append component_import (component_of c n) (flat_map (component_of c) ns))

-- what is called in settled imports is what was called in them
pub settled_calls : (ls : List LeftTree) → AllByRecursion HasNamedCalls ls → AllByRecursion HasNamedCalls (map settled ls)
settled_calls [] h = tt
settled_calls (l ∷ ls) h = (h.0, settled_calls ls h.1)

-- what the imports are written as, by the scope that they end in
pub items_are : (ls : List LeftTree) (scope : WrittenScope) (items : List ItemTree)
    → write_lefts ls (outermost ∷ []) ≡ Some (scope ∷ []) → import_items ls ≡ Some items → items ≡ items_for scope.decls
items_are ls scope items written is =
    let same : Some items ≡ Some (items_for scope.decls) = sym is ∙ ap (option_and_then items_in) written in cc

pub largest_alone : (n : ℕ) (scope : WrittenScope) → n ≤ scopes_size (scope ∷ []) → n ≤ scope_size scope
largest_alone n scope le = omega (arith, le)

pub large_for : (n : ℕ) (c : CompositionTree) (define : Bool) (export : Option ℕ) (order : List ℕ) (items : List ItemTree)
    → IsTooLargeFor n c define export order items → 2 ^ 32 ≤ n
large_for n c define export order items (inl h) = h.large
large_for n c define export order items (inr h) = h.2.above
