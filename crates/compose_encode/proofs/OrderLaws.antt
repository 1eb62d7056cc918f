-- The instances of an order are there, and imports have names.
use Rattle.std.proofs.Common.{◌≡◌, ◌∙◌, ◌+◌, ◌<◌, ◌≤◌, ℕ, zero, suc, Bool, List, [], ◌∷◌, ◌++◌, length, subst, arith}
use Rattle.std.specs.List.{AllByRecursion, range_with_len}
use Rattle.std.proofs.lemmas.List.{length-map}
use Rattle.comp_entity.specs.Entity.{EntityTree}
use Rattle.comp_entity.specs.Views.{entries_of}
use Rattle.compose_agree.specs.Order.{Takes, all_of, is_ready}
use Rattle.compose_writing.specs.Conditions.{KeepsEntries}
use Rattle.compose_check.specs.Checked.{IsInstanceOrder, sources}
use Rattle.compose_check.specs.Composition.{ComponentTree, CompositionTree, sources_of}

module _ {X : Type 0} (P : X → Type 0) where
  all_here : (front back : List X) (x : X) → AllByRecursion P (front ++ x ∷ back) → P x
  all_here [] back x h = h.0
  all_here (y ∷ front) back x h = all_here front back x h.1

  all_others : (front back : List X) (x : X) → AllByRecursion P (front ++ x ∷ back) → AllByRecursion P (front ++ back)
  all_others [] back x h = h.1
  all_others (y ∷ front) back x h = (h.0, all_others front back x h.1)

  all_taken : (ready : List X → X → Bool) (done left taken rest : List X) → Takes ready done left taken rest
      → AllByRecursion P left → AllByRecursion P taken
  all_taken ready done left [] rest t h = tt
  all_taken ready done left (x ∷ taken) rest t h =
      let k = subst (AllByRecursion P) t.2 h in
      (all_here t.0 t.1 x k, all_taken ready (done ++ x ∷ []) (t.0 ++ t.1) taken rest t.5 (all_others t.0 t.1 x k))

range_below : (a k top : ℕ) → a + k ≤ top → AllByRecursion (λ n. n < top) (range_with_len a k)
range_below a zero top h = tt
range_below a (suc k) top h = (omega (arith, h), range_below (a + 1) k top (omega (arith, h)))

length-range : (a k : ℕ) → length (range_with_len a k) ≡ k
length-range a zero = omega arith
length-range a (suc k) = let rest = length-range (a + 1) k in omega (arith, rest)

pub instances_there : (c : CompositionTree) (order : List ℕ) → IsInstanceOrder c order
    → AllByRecursion (λ i. i < length c.instances) order
instances_there c order h =
    let n = length c.instances in
    let count : length (sources c) ≡ n = length-map (range_with_len 0 n) (sources_of c.wires) ∙ length-range 0 n in
    all_taken (λ i. i < n) (is_ready (sources c)) [] (all_of (sources c)) order [] h
    (range_below 0 (length (sources c)) n (omega (arith, count)))

abbrev IsNamed : List ℕ × EntityTree → Type 0
IsNamed e = 0 < length e.0

names_kept : (es : List (List ℕ × EntityTree)) → KeepsEntries (entries_of es) → AllByRecursion IsNamed es
names_kept [] k = tt
names_kept (e ∷ es) k = (k.0, names_kept es k.2)

pub all_named : (ks : List ComponentTree)
    → AllByRecursion (λ (k : ComponentTree). KeepsEntries (entries_of k.shape.imports)) ks
    → AllByRecursion (λ (k : ComponentTree). AllByRecursion IsNamed k.shape.imports) ks
all_named [] h = tt
all_named (k ∷ ks) h = (names_kept k.shape.imports h.0, all_named ks h.1)
