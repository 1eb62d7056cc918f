-- The composition of a plan, as it is encoded.
use Rattle.std.proofs.Common.{◌≡◌, ◌<◌, ◌∙◌, ◌⊎◌, sym, ap, subst, refl, arith, ℕ, zero, suc, Bool, false, List, [], ◌∷◌, ◌++◌, length, map, get_or, Option, Some, Result, Ok, Err, inl, inr}
use Rattle.std.specs.Prelude.{IfOk, IfSome}
use Rattle.std.specs.List.{AllByRecursion}
use Rattle.comp_format.specs.Fault.{Fault, Form, NotCarried, TooDeep}
use Rattle.comp_format.specs.Fits.{IsComponent}
use Rattle.comp_format.specs.Items.{ItemTree}
use Rattle.comp_format.specs.Sections.{ComponentForm, Reads, Sections, component_at}
use Rattle.comp_shape.specs.declared.error.ShapeError.{ShapeError}
use Rattle.comp_shape.specs.declared.error.ShapeError.TheVariants as shape
use Rattle.compose_bundle.specs.Bundled.{IsBundled}
use Rattle.compose_bundle.specs.Refusing.{IsBad, IsTooLarge}
use Rattle.compose_bundle.specs.Whole.{AreContentsOf, IsWholeBundle}
use Rattle.compose_check.specs.Checked.{IsCircle}
use Rattle.compose_check.specs.Composition.{ComponentTree, CompositionTree, IsComposition}
use Rattle.compose_check.specs.declared.error.CheckError.TheVariants as check
use Rattle.compose_encode.specs.Whole.{AreApart, IsNameClash, IsRefusedBy, IsTooLargeIn, IsWhole}
use Rattle.compose_image.specs.Imports.{import_items, imports_in, imports_of, name_and_sort}
use Rattle.compose_image.specs.Instances.{written}
use Rattle.compose_order.specs.Needs.{LeftTree}
use Rattle.warg_plan.specs.Plan.{EachAfter}
use Rattle.warg_plan.specs.View.{entry_view}
use Rattle.warg_plan.specs.Walk.{Entry}
use Rattle.warg_plan.specs.declared.plan.PlanEntry.{PlanEntry}
use Rattle.warg_compose.specs.Composed.{AreComponentsOf, IsComposed, content_of, release_place, releases, root_of, wires_from}
use Rattle.warg_compose.specs.Held.{HasComponent}
use Rattle.warg_compose.specs.Left.{is_release, open_names}
use Rattle.warg_compose.specs.Linked.{IsComposeFault, IsLock, IsLockFault, IsOfPlan, IsPlanLinked, IsPlanLocked, IsUnbundled, IsUnlocked}
use Rattle.warg_compose.specs.Open.{IsAllowed}
use Rattle.warg_compose.specs.Wired.{AreWired, IsOpenName, IsWired}
use Rattle.warg_compose.specs.declared.error.ComposeError.{ComposeError}
use Rattle.warg_compose.specs.declared.error.ComposeError.TheVariants as error
use Rattle.warg_compose.specs.declared.lock.Lock.{Lock}
use Rattle.warg_compose.proofs.CompositionLaws as laws
use Rattle.warg_compose.proofs.CompositionLaws.{OneShape}
use Rattle.warg_compose.proofs.ContentLaws.{are_contents}
use Rattle.warg_compose.proofs.OpenLaws.{left_are}
use Rattle.warg_compose.proofs.ReleaseLaws.{no_release, used_are_released}
use Rattle.warg_compose.proofs.WireLaws.{all_weaker}

-- what is written imports what is to be imported
abbrev pub ImportsThese : Type 0
ImportsThese = (c : CompositionTree) (define : Bool) (export : Option ℕ) (order : List ℕ) (lefts : List LeftTree) (imports : List ItemTree)
    → import_items (imports_of c define lefts) ≡ Some imports
    → imports_in (written c define export order imports).items ≡ map name_and_sort (imports_of c define lefts)

module _ (law : OneShape) (c : CompositionTree) (root : Option ℕ) (of : IsOfPlan c root) where
  pub made : IsComposition c
  made = laws.is_composition of.entries c of.wired of.composed law

  pub apart : AreApart c.components
  apart = laws.are_apart of.entries c of.wired of.composed

  pub exported : IfSome root (λ i. i < length c.instances)
  exported = subst (λ (o : Option ℕ). IfSome o (λ i. i < length c.instances)) (sym of.rooted) (laws.rooted of.entries c of.wired of.composed law)

  pub no_cycle : (n : ℕ) (name : List ℕ) → IsCircle c n name → ⊥
  no_cycle = laws.no_cycle of.entries c of.wired of.composed law

  pub no_clash : (name : List ℕ) → IsNameClash c false root name → ⊥
  no_clash name clash = laws.no_clash of.entries c of.wired of.composed law root name clash

  unreleased : (bytes : List ℕ) (whole : IsWhole c false root bytes) → AllByRecursion (λ (l : LeftTree). is_release l.name ≡ false) whole.lefts
  unreleased bytes whole =
      all_weaker (λ (l : LeftTree). IsOpenName l.name) (λ (l : LeftTree). is_release l.name ≡ false) whole.lefts (λ l opened. no_release l.name opened)
      (laws.open_names of.entries c of.wired of.composed law whole.lefts whole.order whole.possible.sound)

  imports_are : ImportsThese → (bytes : List ℕ) (whole : IsWhole c false root bytes) (items : List ItemTree) → Reads bytes items → imports_in items ≡ map name_and_sort (imports_of c false whole.lefts)
  imports_are these bytes whole items reads = ap imports_in (whole.encoded.once items reads) ∙ these c false root whole.order whole.lefts whole.items whole.imports

  -- the names that a lock leaves open
  pub left_named : ImportsThese → (bytes : List ℕ) (whole : IsWhole c false root bytes) (items : List ItemTree) → Reads bytes items → open_names items ≡ map (λ (l : LeftTree). l.name) whole.lefts
  left_named these bytes whole items reads =
      left_are c whole.lefts items (imports_are these bytes whole items reads)
      (used_are_released c (releases of.entries) of.composed.components)
      (unreleased bytes whole)

  -- the contents of what a lock imports
  pub lock_contents : ImportsThese → (bytes : List ℕ) → IsWhole c false root bytes → AreContentsOf c (content_of of.entries) bytes
  lock_contents these bytes whole =
      are_contents of.entries c whole.lefts bytes of.composed.components (laws.own of.entries c of.wired of.composed) (unreleased bytes whole) (imports_are these bytes whole)

-- ---- components are bundled

-- what the law `each_component_is_read` says
abbrev pub EachIsRead : Type 0
EachIsRead = (ss : Sections) (scopes : ℕ) (bytes : List ℕ) → ComponentForm ss bytes → (component_at scopes bytes ≡ Err TooDeep) ⊎ (component_at scopes bytes ≡ Ok ss)

abbrev failed : Fault → Result Sections Fault
failed fault = Err fault

no_form : EachIsRead → (bytes : List ℕ) → IsComponent bytes → component_at 200 bytes ≡ Err Form → ⊥
no_form each bytes is e =
    elim (each is.1.0 200 bytes is.1.2) [
      | inl deep ↦ let same : failed TooDeep ≡ failed Form = sym deep ∙ e in absurd cc
      | inr read ↦ let same : Ok is.1.0 ≡ failed Form = sym read ∙ e in absurd cc
    ]

not_carried : EachIsRead → (bytes : List ℕ) → IsComponent bytes → component_at 200 bytes ≡ Err NotCarried → ⊥
not_carried each bytes is e =
    elim (each is.1.0 200 bytes is.1.2) [
      | inl deep ↦ let same : failed TooDeep ≡ failed NotCarried = sym deep ∙ e in absurd cc
      | inr read ↦ let same : Ok is.1.0 ≡ failed NotCarried = sym read ∙ e in absurd cc
    ]

pub not_bad : EachIsRead → (e : ShapeError) (bytes : List ℕ) → IsComponent bytes → IsBad e bytes → ⊥
not_bad each (shape.Form at) bytes is bad = no_form each bytes is bad.cause
not_bad each (shape.NotCarried at) bytes is bad = not_carried each bytes is bad.cause
not_bad each (shape.Index at) bytes is bad = bad.cause
not_bad each (shape.DoesNotFit at) bytes is bad = bad.cause
not_bad each shape.TooDeep bytes is bad = bad.cause
not_bad each shape.TooBig bytes is bad = bad.cause
not_bad each shape.Memory bytes is bad = bad.tells refl

-- ---- a plan, by its composition

pub composed_of : (es : List Entry) (c : CompositionTree) (instances : List ℕ) (components : List ComponentTree) → AreComponentsOf (releases es) components → instances ≡ map (release_place es) es
    → c.components ≡ components → c.instances ≡ instances → c.wires ≡ wires_from 0 es → IsComposed es c
composed_of es c instances components are places same_components same_instances wires =
    record { components = subst (AreComponentsOf (releases es)) (sym same_components) are; instances = same_instances ∙ places; wires = wires }

pub answer_locked : (es : List Entry) (c : CompositionTree) (root : Option ℕ) (r : Result Lock ComposeError) → root ≡ root_of es → IsComposed es c → IfOk r (IsLock c root) → IfOk r (λ lock. IsPlanLocked es lock.left.items lock.bytes.items)
answer_locked es c root (Ok lock) same composed locked =
    let lock_is = subst (λ o. IsLock c o lock) same locked in
    record { composition = c; composed = composed; locked = lock_is.whole; open_names = lock_is.open_names }
answer_locked es c root (Err e) same composed locked = tt

pub lock_read : {es : List Entry} {left : List (List ℕ)} {lock : List ℕ} → IsPlanLocked es left lock → IsComponent lock
lock_read {es} locked =
    let whole = locked.locked in
    ((written locked.composition false (root_of es) whole.order whole.items).items, whole.encoded.reads)

-- what the law `bundles_are_whole` says
abbrev pub BundlesAreWhole : Type 0
BundlesAreWhole = (c : CompositionTree) (content : List ℕ → Option (List ℕ)) (export : Option ℕ) (bytes out : List ℕ) (whole : IsWhole c false export bytes)
    → AreContentsOf c content bytes → IsBundled content bytes out → IsWholeBundle c export whole.order out

pub plan_linked : OneShape → ImportsThese → BundlesAreWhole → (es : List Entry) (content : List ℕ → Option (List ℕ)) (left : List (List ℕ)) (lock bytes : List ℕ)
    → AreWired es → content ≡ content_of es → IsPlanLocked es left lock → IsBundled content lock bytes → IsPlanLinked es left lock bytes
plan_linked law these wholes es content left lock bytes wired contents locked bundled =
    let c = locked.composition in
    let of : IsOfPlan c (root_of es) = record { entries = es; wired = wired; composed = locked.composed; rooted = refl } in
    let bundle = subst (λ f. IsBundled f lock bytes) contents bundled in
    record {
      composition = c;
      composed = locked.composed;
      locked = locked.locked;
      open_names = locked.open_names;
      bundled = bundle;
      whole = wholes c (content_of es) (root_of es) lock bytes locked.locked (lock_contents law c (root_of es) of these lock locked.locked) bundle;
    }

-- ---- refusals

pub unlocked_fault : (disallow : Bool) (es : List Entry) (c : CompositionTree) (root : Option ℕ) (e : ComposeError) → root ≡ root_of es → IsAllowed disallow es → IsComposed es c → IsUnlocked c root e → IsLockFault disallow e es
unlocked_fault disallow es c root (error.ImportsDisallowed name) same allowed composed fault = absurd fault
unlocked_fault disallow es c root (error.Incompatible w) same allowed composed fault =
    record { allowed = allowed; composition = c; composed = composed; holds = subst (λ r. IsRefusedBy c false r (check.Incompatible w)) same fault }
unlocked_fault disallow es c root (error.TooLarge n) same allowed composed fault =
    record { allowed = allowed; composition = c; composed = composed; holds = subst (λ r. IsTooLargeIn c false r n) same fault }
unlocked_fault disallow es c root error.Memory same allowed composed fault = tt

-- why there is no lock is why nothing is linked
pub no_lock_fault : (disallow : Bool) (es : List Entry) (e : ComposeError) → IsLockFault disallow e es → IsComposeFault disallow e es
no_lock_fault disallow es (error.ImportsDisallowed name) fault = fault
no_lock_fault disallow es (error.Incompatible w) fault = fault
no_lock_fault disallow es (error.TooLarge n) fault =
    record { allowed = fault.allowed; composition = fault.composition; composed = fault.composed; holds = inl fault.holds }
no_lock_fault disallow es error.Memory fault = tt

pub unbundled_fault : (disallow : Bool) (es : List Entry) (content : List ℕ → Option (List ℕ)) (left : List (List ℕ)) (lock : List ℕ) (e : ComposeError)
    → IsAllowed disallow es → content ≡ content_of es → IsPlanLocked es left lock → IsUnbundled content lock e → IsComposeFault disallow e es
unbundled_fault disallow es content left lock (error.ImportsDisallowed name) allowed contents locked fault = absurd fault
unbundled_fault disallow es content left lock (error.Incompatible w) allowed contents locked fault = absurd fault
unbundled_fault disallow es content left lock (error.TooLarge n) allowed contents locked fault = record {
  allowed = allowed;
  composition = locked.composition;
  composed = locked.composed;
  holds = inr (record { lock = lock; locked = locked.locked; large = subst (λ f. IsTooLarge n f lock) contents fault });
}
unbundled_fault disallow es content left lock error.Memory allowed contents locked fault = tt

pub each_component : (before : List Entry) (es : List PlanEntry) → EachAfter IsWired before (map entry_view es) → (k : ℕ) (d : PlanEntry) → k < length es → HasComponent (get_or es k d)
unfolding EachAfter
each_component before [] each k d lt = absurd (omega (arith, lt))
each_component before (e ∷ es) each zero d lt = (each.0.tree, each.0.has_shape)
each_component before (e ∷ es) each (suc k) d lt = each_component (before ++ entry_view e ∷ []) es each.1 k d (omega (arith, lt))
