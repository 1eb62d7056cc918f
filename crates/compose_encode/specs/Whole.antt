-- Compositions as components: which bytes are one, and why there are none (Component Model, Explainer.md, "Component
-- Definitions" and "Instance Definitions").
use Rattle.std.specs.Prelude.{◌≡◌, ◌≤◌, ◌<◌, ◌^◌, ℕ, Bool, false, List, [], map, bytes_eq, slice_get, Option, Some, None, option_and_then, if◌then◌else◌}
use Rattle.std.specs.Option.{option_or}
use Rattle.comp_format.specs.Items.{ItemTree}
use Rattle.comp_entity.specs.Entity.{EntityTree}
use Rattle.comp_scope.specs.Image.{image}
use Rattle.compose_order.specs.Needs.{LeftTree}
use Rattle.compose_check.specs.Checked.{IsCheckRefusal, IsSound, hidden_export}
use Rattle.compose_check.specs.Composition.{ComponentTree, CompositionTree, wiring}
use Rattle.compose_check.specs.declared.error.CheckError.{CheckError}
use Rattle.compose_check.specs.declared.error.CheckError.TheVariants as check
use Rattle.compose_check.specs.declared.error.Why.TheVariants as why
use Rattle.compose_image.specs.CompositionImage.{composition_image, is_component}
use Rattle.compose_image.specs.Imports.{component_import, import_items, imports_of, used, used_components}
use Rattle.compose_image.specs.Instances.{written}
use Rattle.compose_image.specs.Writable.{HaveOwnNames}
use Rattle.compose_encode.specs.Encoded.{IsEncoded, IsOfWritten}
use Rattle.compose_encode.specs.Refusing.{clash_at, first_of, hidden_at}
use Rattle.compose_encode.specs.declared.refused.CompositionError.{CompositionError}
use Rattle.compose_encode.specs.declared.refused.CompositionError.TheVariants as refusal

-- the components that are imported, by their numbers
abbrev pub imported : CompositionTree → Bool → List ℕ
imported c define = if define then [] else used c

-- no two of some components have one name
abbrev pub AreApart : List ComponentTree → Type 0
AreApart ks = (i j : ℕ) (x y : ComponentTree) → i < j → slice_get ks i ≡ Some x → slice_get ks j ≡ Some y
    → bytes_eq x.name y.name ≡ false

-- no two of those of which instances are made have one name
abbrev pub HaveComponentNames : CompositionTree → Type 0
HaveComponentNames c = HaveOwnNames (map component_import (used_components c))

-- the first export of the exported instance, or else the first import or export of an imported component, that mentions what
-- can't be had outside
abbrev pub hides : CompositionTree → Bool → Option ℕ → Option (List ℕ)
hides c define export =
    option_or (option_and_then (hidden_export (wiring c)) export) (first_of (hidden_at c) (imported c define))

-- the name of the first imported component that a left import has
abbrev pub shared_name : CompositionTree → Bool → List LeftTree → Option (List ℕ)
shared_name c define lefts = first_of (clash_at c lefts) (imported c define)

-- The composition can be written, in this order and with these left imports. All that is exported and imported can be had
-- outside, and no imported component has the name of a left import.
pub record CanBeEncoded (c : CompositionTree) (define : Bool) (export : Option ℕ) (order : List ℕ)
    (lefts : List LeftTree) : Type 0 where
  pub sound : IsSound c order lefts
  pub had : hides c define export ≡ None
  pub apart : shared_name c define lefts ≡ None

-- The bytes are those of what is written for a composition that can be encoded. They have one reading, and the link image of
-- that is the composition's.
pub record IsWhole (c : CompositionTree) (define : Bool) (export : Option ℕ) (bytes : List ℕ) : Type 0 where
  pub order : List ℕ
  pub lefts : List LeftTree
  pub possible : CanBeEncoded c define export order lefts
  pub items : List ItemTree
  pub imports : import_items (imports_of c define lefts) ≡ Some items
  pub encoded : IsEncoded c define export order items bytes
  pub image : (shown : List (List ℕ × EntityTree))
      → image (is_component c define) shown (written c define export order items).items
      ≡ Some (composition_image c define export order shown)

-- ---- refusals, each with what held of those before it

pub record IsHidden (c : CompositionTree) (define : Bool) (export : Option ℕ) (name : List ℕ) : Type 0 where
  pub order : List ℕ
  pub lefts : List LeftTree
  pub sound : IsSound c order lefts
  pub first : hides c define export ≡ Some name

pub record IsNameClash (c : CompositionTree) (define : Bool) (export : Option ℕ) (name : List ℕ) : Type 0 where
  pub order : List ℕ
  pub lefts : List LeftTree
  pub sound : IsSound c order lefts
  pub had : hides c define export ≡ None
  pub first : shared_name c define lefts ≡ Some name

-- a number that would have to be written, and can't be
pub record IsTooLargeIn (c : CompositionTree) (define : Bool) (export : Option ℕ) (n : ℕ) : Type 0 where
  pub order : List ℕ
  pub lefts : List LeftTree
  pub possible : CanBeEncoded c define export order lefts
  pub large : 2 ^ 32 ≤ n
  pub among : IsOfWritten n c define export order lefts

abbrev pub IsRefusedBy : CompositionTree → Bool → Option ℕ → CheckError → Type 0
IsRefusedBy c define export (check.Incompatible (why.ExportNeeds name)) = IsHidden c define export name
IsRefusedBy c define export check.Memory = ⊥
IsRefusedBy c define export e = IsCheckRefusal c e

-- why there are no bytes; want of memory has no cause here, and is told in one way alone
abbrev pub IsEncodeRefusal : CompositionTree → Bool → Option ℕ → CompositionError → Type 0
IsEncodeRefusal c define export (refusal.Refused e) = IsRefusedBy c define export e
IsEncodeRefusal c define export (refusal.ImportNameClash name) = IsNameClash c define export name
IsEncodeRefusal c define export (refusal.TooLarge n) = IsTooLargeIn c define export n
IsEncodeRefusal c define export refusal.Memory = Unit {0}
