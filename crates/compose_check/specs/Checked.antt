-- Which compositions can be written, and by what others are refused: their wires have no circle and fit, and what they leave
-- open agrees.
use Rattle.std.specs.Prelude.{◌≡◌, ◌⊎◌, ℕ, true, List, [], map, length, Some, Option, slice_get}
use Rattle.std.specs.List.{range_with_len}
use Rattle.comp_entity.specs.Entity.{EntityTree}
use Rattle.compose_agree.specs.Order.{IsOrder, all_of, is_ready}
use Rattle.compose_fit.specs.Fit.{IsMisfit, WiresFit}
use Rattle.compose_fit.specs.declared.misfit.Misfit.{Misfit}
use Rattle.compose_fit.specs.declared.misfit.Unfit.TheVariants as unfit
use Rattle.compose_left.specs.Origins.{placed}
use Rattle.compose_left.specs.Wiring.{HasNoCircle, Wiring, shape_at}
use Rattle.compose_naming.specs.Bits.{HaveBits, LacksBit}
use Rattle.compose_order.specs.Agreed.{AreOrdered, HasNoPlace, IsCaseClash, IsUnbrought, NoClash}
use Rattle.compose_needs.specs.Exports.{export_hides}
use Rattle.compose_order.specs.Needs.{LeftTree}
use Rattle.compose_needs.specs.Lefts.{Lefts, lefts_of}
use Rattle.compose_check.specs.Circles.{IsLastOnCircle}
use Rattle.compose_check.specs.Composition.{ComponentTree, CompositionTree, sources_of, wiring}
use Rattle.compose_check.specs.Open.{IsDisagreement, all_agree, left_open, lefts}
use Rattle.compose_check.specs.declared.error.CheckError.{CheckError}
use Rattle.compose_check.specs.declared.error.CheckError.TheVariants as refusal
use Rattle.compose_check.specs.declared.error.Why.{Why}
use Rattle.compose_check.specs.declared.error.Why.TheVariants as why

-- the instances that each one is given
abbrev pub sources : CompositionTree → List (List ℕ)
sources c = map (sources_of c.wires) (range_with_len 0 (length c.instances))

-- Instances in the order in which they are written: of those of which all that they are given is written, always the one
-- that was made first.
abbrev pub IsInstanceOrder : CompositionTree → List ℕ → Type 0
IsInstanceOrder c order = IsOrder (is_ready (sources c)) (all_of (sources c)) order

-- the component of an instance has this name
pub record IsComponentOf (c : CompositionTree) (instance : ℕ) (name : List ℕ) : Type 0 where
  pub number : ℕ
  pub component : ComponentTree
  pub made : slice_get c.instances instance ≡ Some number
  pub there : slice_get c.components number ≡ Some component
  pub named : name ≡ component.name

-- What instances leave open agrees: all that is asked under one name merges, no names differ in letter case alone, all
-- that is mentioned can be had, there is this order, and each function has the naming bit as it is written.
pub record IsAgreement (w : Wiring) (out : List LeftTree) : Type 0 where
  pub merges : all_agree [] (left_open w) ≡ true
  pub apart : NoClash (lefts w)
  pub ordered : AreOrdered (lefts_of w) (lefts w) out
  pub bits : HaveBits out

-- a composition that can be written, with the order of its instances and of what they leave open
pub record IsSound (c : CompositionTree) (order : List ℕ) (out : List LeftTree) : Type 0 where
  pub in_order : IsInstanceOrder c order
  pub no_circle : HasNoCircle (wiring c)
  pub fit : WiresFit (wiring c)
  pub agree : IsAgreement (wiring c) out

-- ---- refusals, each with what held of those before it

-- the name of the first left import, in their order, that has a function without the naming bit
pub record IsWithoutBit (left : Lefts) (ls : List LeftTree) (name : List ℕ) : Type 0 where
  pub out : List LeftTree
  pub ordered : AreOrdered left ls out
  pub lacks : LacksBit out name

-- An import mentions what it can't have there, or has a function over a type with parts that no place named.
abbrev pub IsUnfounded : Lefts → List LeftTree → List ℕ → Type 0
IsUnfounded left ls name = IsUnbrought left ls name ⊎ IsWithoutBit left ls name

-- the wire that does not fit, by the name of its import and the cause
abbrev pub IsUnfitWire : Why → Misfit → Type 0
IsUnfitWire (why.NotInstance import) m = (m.why ≡ unfit.NotInstance) × (import ≡ m.import)
IsUnfitWire (why.Unfit export import) m = (m.why ≡ unfit.Export export) × (import ≡ m.import)
IsUnfitWire _ m = ⊥

-- each wire fits, and this is why what is left open does not agree
pub record IsOpenRefusal (w : Wiring) (P : Type 0) : Type 0 where
  pub fit : WiresFit w
  pub cause : P

-- and all that is asked under one name merges
pub record IsMergedRefusal (w : Wiring) (P : Type 0) : Type 0 where
  pub fit : WiresFit w
  pub merges : all_agree [] (left_open w) ≡ true
  pub cause : P

abbrev pub IsIncompatible : Wiring → Why → Type 0
IsIncompatible w (why.NotInstance import) = (m : Misfit) × IsMisfit w m × IsUnfitWire (why.NotInstance import) m
IsIncompatible w (why.Unfit export import) = (m : Misfit) × IsMisfit w m × IsUnfitWire (why.Unfit export import) m
IsIncompatible w (why.Disagree name) = IsOpenRefusal w (IsDisagreement (left_open w) name)
IsIncompatible w (why.CaseClash earlier later) = IsMergedRefusal w (IsCaseClash (lefts w) earlier later)
IsIncompatible w (why.NeedsUnbrought name) = IsMergedRefusal w (NoClash (lefts w) × IsUnfounded (lefts_of w) (lefts w) name)
IsIncompatible w (why.Circle name) = IsMergedRefusal w (NoClash (lefts w) × HasNoPlace (lefts_of w) (lefts w) name)
IsIncompatible w (why.ExportNeeds name) = ⊥

pub record IsCircle (c : CompositionTree) (instance : ℕ) (name : List ℕ) : Type 0 where
  pub last : IsLastOnCircle (sources c) instance
  pub component : IsComponentOf c instance name

pub record IsRefusedFor (w : Wiring) (reason : Why) : Type 0 where
  pub no_circle : HasNoCircle w
  pub cause : IsIncompatible w reason

-- why a composition is refused; want of memory has no cause here
abbrev pub IsCheckRefusal : CompositionTree → CheckError → Type 0
IsCheckRefusal c (refusal.Cycle instance name) = IsCircle c instance name
IsCheckRefusal c (refusal.Incompatible reason) = IsRefusedFor (wiring c) reason
IsCheckRefusal c refusal.Memory = Unit {0}

-- ---- exports, where an instance is exported and where components are imported

-- the exports of an instance, with the numbers of origins in place
abbrev pub entities_placed : Wiring → ℕ → List (List ℕ × EntityTree) → List (List ℕ × EntityTree)
entities_placed w instance es = map (λ (e : List ℕ × EntityTree). (e.0, placed w instance e.1)) es

abbrev pub placed_exports : Wiring → ℕ → List (List ℕ × EntityTree)
placed_exports w instance = entities_placed w instance (shape_at w.shapes instance).exports

-- the first export of an instance that mentions a resource which it can't
abbrev pub hidden_export : Wiring → ℕ → Option (List ℕ)
hidden_export w instance = export_hides (lefts_of w) [] (placed_exports w instance)
