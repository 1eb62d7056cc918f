-- Whether core modules of a component's own, whose type is not known, stand in trees of heads.
use Rattle.std.specs.Prelude.{◌≡◌, ℕ, Bool, true, false, ◌&&◌, ◌||◌, List}
use Rattle.std.specs.List.{AllByRecursion}
use Rattle.comp_instance.specs.declared.own_modules.Within.{Within}
use Rattle.comp_instance.specs.declared.own_modules.Within.TheVariants as within
use Rattle.comp_table.specs.declared.head.Head.{Head}
use Rattle.comp_table.specs.declared.head.Head.TheVariants as head
use Rattle.comp_table.specs.Trees.{PlainTree, tree, PlainTrees, none, more, tree_at}

abbrev pub is_own : Head → Bool
is_own head.OwnModule = true
is_own _ = false

abbrev pub is_everything : Within → Bool
is_everything within.Instances = false
is_everything within.Everything = true

-- core modules are looked for in the parts of such a head
abbrev pub goes_into : Head → Within → Bool
goes_into head.Instance w = true
goes_into (head.Entry mark name) w = true
goes_into head.Entries w = is_everything w
goes_into head.Component w = is_everything w
goes_into head.InstanceType w = is_everything w
goes_into head.ComponentType w = is_everything w
goes_into _ w = false

abbrev mutual
  pub holds : Within → PlainTree → Bool
  holds w (tree h parts) = is_own h || (goes_into h w && any_holds w parts)

  pub any_holds : Within → PlainTrees → Bool
  any_holds w none = false
  any_holds w (more t ts) = holds w t || any_holds w ts

-- these numbers stand for what holds none
abbrev pub AreWithout : Within → List PlainTree → List ℕ → Type 0
AreWithout w table numbers = AllByRecursion (λ n. holds w (tree_at table n) ≡ false) numbers
