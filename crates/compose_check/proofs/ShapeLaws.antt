-- The numbers of components' shapes, and those of instances.
use Rattle.std.proofs.Common.{◌≡◌, ℕ, zero, suc, ◌<◌, List, [], ◌∷◌, ◌++◌, length, arith, get_or, refl, sym, ap, subst, ◌∙◌}
use Rattle.std.specs.Prelude.{map, slice_get, Some, option_map}
use Rattle.std.specs.Borrow.{Bor}
use Rattle.std.proofs.lemmas.Option.{slice_get-map, slice_get_read}
use Rattle.compose_component.specs.Component.{shape_of}
use Rattle.compose_component.specs.declared.component.Component.{Component}
use Rattle.std.specs.List.{AllByRecursion}
use Rattle.std.specs.Option.{option_map_or}
use Rattle.comp_entity.specs.Entity.{ShapeTree}
use Rattle.comp_table.specs.Trees.{Extends, PlainTree}
use Rattle.compose_fit.specs.KeptLaws.{numbered_kept}
use Rattle.compose_fit.specs.Seen.{AreInstances, IsNumbered, IsOf}
use Rattle.compose_fit.specs.declared.numbered.ShapeNumbers.{ShapeNumbers}
use Rattle.compose_left.specs.Wiring.{no_shape}
use Rattle.compose_check.specs.Composition.{ComponentTree, IsComposition, component_tree, composition_tree, shape_numbered, wiring}
use Rattle.compose_check.specs.declared.composition.Composition.{Composition}
use Rattle.compose_check.specs.Shapes.{AreNumbered, lent_shape_tree}

-- numbers stay those of the shapes in a table that grows, and one more is behind them
pub numbered_more : (ts us : List PlainTree) → Extends ts us → (ns : List ShapeNumbers) (ss : List ShapeTree) (n : ShapeNumbers) (s : ShapeTree) → AreNumbered ts ns ss → IsNumbered us n s → AreNumbered us (ns ++ n ∷ []) (ss ++ s ∷ [])
numbered_more ts us grown [] [] n s a b = (b, tt)
numbered_more ts us grown [] (t ∷ ss) n s a b = absurd a
numbered_more ts us grown (m ∷ ns) [] n s a b = absurd a
numbered_more ts us grown (m ∷ ns) (t ∷ ss) n s a b = (numbered_kept ts us grown m t a.0, numbered_more ts us grown ns ss n s a.1 b)

-- the component of an instance has its numbers
number_of : (ts : List PlainTree) (ns : List ShapeNumbers) (cs : List ComponentTree) (k : ℕ) → k < length cs → AreNumbered ts ns (map (λ (c : ComponentTree). c.shape) cs) → IsOf ts (slice_get ns k) (shape_numbered cs k)
number_of ts ns [] k there a = absurd (omega (arith, there))
number_of ts [] (c ∷ cs) k there a = absurd a
number_of ts (n ∷ ns) (c ∷ cs) zero there a = a.0
number_of ts (n ∷ ns) (c ∷ cs) (suc k) there a = number_of ts ns cs k (omega (arith, there)) a.1

instances_of : (ts : List PlainTree) (ns : List ShapeNumbers) (cs : List ComponentTree) (is : List ℕ) → AllByRecursion (λ k. k < length cs) is → AreNumbered ts ns (map (λ (c : ComponentTree). c.shape) cs) → AreInstances ts ns is (map (shape_numbered cs) is)
instances_of ts ns cs [] made a = tt
instances_of ts ns cs (k ∷ is) made a = (number_of ts ns cs k made.0 a, instances_of ts ns cs is made.1 a)

-- what holds of each holds of that of a number
pub all_at : {X : Type 0} (P : X → Type 0) (xs : List X) (k : ℕ) (d : X) → k < length xs → AllByRecursion P xs → P (get_or xs k d)
all_at P [] k d there a = absurd (omega (arith, there))
all_at P (x ∷ xs) zero d there a = a.0
all_at P (x ∷ xs) (suc k) d there a = all_at P xs k d (omega (arith, there)) a.1

pub component_at : (cs : List (Bor Component)) (k : ℕ) (c : Bor Component) → k < length cs → c ≡ get_or cs k c → slice_get (map component_tree cs) k ≡ Some (component_tree c)
component_at cs k c there is = slice_get-map component_tree cs k ∙ ap (option_map component_tree) (slice_get_read cs (length cs) k c refl there is)

-- the shape of the component of a number
pub shape_is : (cs : List (Bor Component)) (k : ℕ) (c : Bor Component) → k < length cs → c ≡ get_or cs k c → shape_numbered (map component_tree cs) k ≡ shape_of c.now
shape_is cs k c there is = ap (λ o. option_map_or (λ (c : ComponentTree). c.shape) o no_shape) (component_at cs k c there is)

-- the shapes of components that are lent
lent_shapes : (cs : List (Bor Component)) → map lent_shape_tree cs ≡ map (λ (c : ComponentTree). c.shape) (map component_tree cs)
lent_shapes [] = refl
lent_shapes (c ∷ cs) = ap (λ ss. lent_shape_tree c ∷ ss) (lent_shapes cs)

-- instances of a composition have the shapes of its components
pub instances_have : (ts : List PlainTree) (c : Composition) (ns given : List ShapeNumbers) (is : List ℕ) → IsComposition (composition_tree c) → AreNumbered ts ns (map lent_shape_tree c.components.items) → given ≡ ns → is ≡ c.instances.items
    → AreInstances ts given is (wiring (composition_tree c)).shapes
instances_have ts c ns given is made numbered same instances =
    let numbers = subst (AreNumbered ts ns) (lent_shapes c.components.items) numbered in
    subst (λ js. AreInstances ts given js (wiring (composition_tree c)).shapes) (sym instances) (subst (λ ms. AreInstances ts ms c.instances.items (wiring (composition_tree c)).shapes) (sym same)
    (instances_of ts ns (composition_tree c).components c.instances.items made.made numbers))
