-- Why left imports are refused that are in order.
use Rattle.std.specs.Prelude.{◌≡◌, true, List, []}
use Rattle.compose_left.specs.Wiring.{Wiring}
use Rattle.compose_needs.specs.Lefts.{lefts_of}
use Rattle.compose_naming.specs.Bits.{LacksBit}
use Rattle.compose_order.specs.Agreed.{AreOrdered, NoClash}
use Rattle.compose_order.specs.Needs.{LeftTree}
use Rattle.compose_check.specs.Open.{all_agree, left_open, lefts}
use Rattle.compose_check.specs.declared.error.CheckError.{CheckError}
use Rattle.compose_check.specs.declared.error.CheckError.TheVariants as refusal
use Rattle.compose_check.specs.declared.error.Why.TheVariants as why

-- what is left open merges, no names clash, and this is its order
pub record IsOrdered (w : Wiring) (out : List LeftTree) : Type 0 where
  pub merges : all_agree [] (left_open w) ≡ true
  pub apart : NoClash (lefts w)
  pub ordered : AreOrdered (lefts_of w) (lefts w) out

-- the first that has a function without the naming bit has this name
abbrev pub IsBitRefusal : List LeftTree → CheckError → Type 0
IsBitRefusal ls (refusal.Incompatible (why.NeedsUnbrought name)) = LacksBit ls name
IsBitRefusal ls refusal.Memory = Unit {0}
IsBitRefusal ls _ = ⊥
