-- A plan that can be linked is refused for want of memory alone.
use Rattle.std.proofs.Common.{◌≡◌, ◌<◌, ◌≤◌, ◌^◌, ◌∙◌, sym, subst, refl, arith, ℕ, Bool, false, List, [], ◌∷◌, Option, Some, None, inl, inr}
use Rattle.compose_check.specs.Composition.{ComponentTree, CompositionTree, IsComposition}
use Rattle.compose_check.specs.declared.error.CheckError.TheVariants as check
use Rattle.compose_complete.specs.Unwritten.{IsUnwritten}
use Rattle.compose_encode.specs.Whole.{CanBeEncoded, IsEncodeRefusal, IsRefusedBy, IsTooLargeIn, IsWhole}
use Rattle.compose_encode.specs.declared.refused.CompositionError.{CompositionError}
use Rattle.compose_encode.specs.declared.refused.CompositionError.TheVariants as refusal
use Rattle.compose_order.specs.Needs.{LeftTree}
use Rattle.warg_plan.specs.Walk.{Entry}
use Rattle.warg_compose.specs.Composed.{AreComponentsOf, IsComponentOf, IsComposed, releases, root_of}
use Rattle.warg_compose.specs.Linked.{IsComposeFault, IsLinkable, IsLockFault, IsLockable}
use Rattle.warg_compose.specs.Open.{first_open}
use Rattle.warg_compose.specs.Wired.{AreWired}
use Rattle.warg_compose.specs.declared.error.ComposeError.{ComposeError}
use Rattle.warg_compose.specs.declared.error.ComposeError.TheVariants as error
use Rattle.warg_compose.proofs.CompositionLaws.{OneShape, is_composition}

none_some : {X P : Type 0} (o : Option X) (x : X) → o ≡ None → o ≡ Some x → P
none_some o x a b = absurd cc

-- ---- one composition

one_component : OneShape → (e : Entry) (c d : ComponentTree) → IsComponentOf e c → IsComponentOf e d → c ≡ d
one_component law e c d a b =
    let shapes = law e.content c.shape d.shape a.has_shape b.has_shape in
    λ i. record { name = (a.named ∙ sym b.named) i; bytes = (a.bytes ∙ sym b.bytes) i; shape = shapes i }

one_list : OneShape → (es : List Entry) (cs ds : List ComponentTree) → AreComponentsOf es cs → AreComponentsOf es ds → cs ≡ ds
one_list law [] [] [] a b = refl
one_list law [] [] (d ∷ ds) a b = absurd b
one_list law [] (c ∷ cs) ds a b = absurd a
one_list law (e ∷ es) [] ds a b = absurd a
one_list law (e ∷ es) (c ∷ cs) [] a b = absurd b
one_list law (e ∷ es) (c ∷ cs) (d ∷ ds) a b = λ i. one_component law e c d a.0 b.0 i ∷ one_list law es cs ds a.1 b.1 i

one_composition : OneShape → (es : List Entry) (c d : CompositionTree) → IsComposed es c → IsComposed es d → c ≡ d
one_composition law es c d a b =
    let components = one_list law (releases es) c.components d.components a.components b.components in
    λ i. record { components = components i; instances = (a.instances ∙ sym b.instances) i; wires = (a.wires ∙ sym b.wires) i }

-- ---- what can be linked

-- what can be encoded is refused for its numbers
abbrev pub ForNumbers : Type 0
ForNumbers = (c : CompositionTree) (define : Bool) (export : Option ℕ) (order : List ℕ) (lefts : List LeftTree) (e : CompositionError)
    → IsComposition c → CanBeEncoded c define export order lefts → IsEncodeRefusal c define export e → IsUnwritten c define export order lefts e

lockable : {disallow : Bool} {es : List Entry} → IsLinkable disallow es → IsLockable disallow es
lockable can = record {
  allowed = can.allowed;
  composition = can.composition;
  composed = can.composed;
  order = can.order;
  lefts = can.lefts;
  possible = can.possible;
  small = can.small;
}

module _ (numbers : ForNumbers) (one_shape : OneShape) where
  pub locked : (disallow : Bool) (es : List Entry) (e : ComposeError) → AreWired es → IsLockable disallow es → IsLockFault disallow e es → e ≡ error.Memory
  locked disallow es (error.ImportsDisallowed name) wired can fault = none_some (first_open es) name (can.allowed fault.disallowed) fault.first
  locked disallow es (error.Incompatible w) wired can fault =
      let same = one_composition one_shape es fault.composition can.composition fault.composed can.composed in
      let refused = subst (λ c. IsRefusedBy c false (root_of es) (check.Incompatible w)) same fault.holds in
      absurd (numbers can.composition false (root_of es) can.order can.lefts (refusal.Refused (check.Incompatible w)) (is_composition es can.composition wired can.composed one_shape) can.possible refused)
  locked disallow es (error.TooLarge n) wired can fault =
      let same = one_composition one_shape es fault.composition can.composition fault.composed can.composed in
      let refused = subst (λ c. IsTooLargeIn c false (root_of es) n) same fault.holds in
      let number = numbers can.composition false (root_of es) can.order can.lefts (refusal.TooLarge n) (is_composition es can.composition wired can.composed one_shape) can.possible refused in
      let small : n < 2 ^ 32 = can.small n number.among in
      let above : 2 ^ 32 ≤ n = number.large in
      absurd (omega (arith, small, above))
  locked disallow es error.Memory wired can fault = refl

  -- its lock can be made, and what that is bundled as is small
  pub linked : (disallow : Bool) (es : List Entry) (e : ComposeError) → AreWired es → IsLinkable disallow es → IsComposeFault disallow e es → e ≡ error.Memory
  linked disallow es (error.ImportsDisallowed name) wired can fault = locked disallow es (error.ImportsDisallowed name) wired (lockable can) fault
  linked disallow es (error.Incompatible w) wired can fault = locked disallow es (error.Incompatible w) wired (lockable can) fault
  linked disallow es (error.TooLarge n) wired can fault =
      elim fault.holds [
        | inl large ↦ locked disallow es (error.TooLarge n) wired (lockable can) (record { allowed = fault.allowed; composition = fault.composition; composed = fault.composed; holds = large })
        | inr bundled ↦
            let same = one_composition one_shape es fault.composition can.composition fault.composed can.composed in
            absurd (can.bundle_small bundled.lock n (subst (λ c. IsWhole c false (root_of es) bundled.lock) same bundled.locked) bundled.large)
      ]
  linked disallow es error.Memory wired can fault = refl
