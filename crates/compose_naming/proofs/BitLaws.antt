-- Naming bits of the parts of a type, one more each time.
use Rattle.std.proofs.Common.{◌≡◌, ◌<◌, ◌+◌, ℕ, Bool, true, false, List, ◌∷◌, drop, get_or, length, Option, Some, None, refl, sym, ap, ◌∙◌}
use Rattle.std.specs.Global.{Global}
use Rattle.std.specs.Prelude.{Box}
use Rattle.std.proofs.lemmas.List.{at_drop_more}
use Rattle.comp_entity.specs.declared.entity.ValueShape.{ValueShape, fold-roll-ValueShape}
use Rattle.comp_entity.specs.declared.entity.ValueShape.TheOpen as value_layer
use Rattle.comp_entity.specs.declared.entity.ValueShape.TheVariants as value
use Rattle.comp_entity.specs.Entity.{ValueTree, ListOf, OptionOf}
use Rattle.comp_entity.specs.Views.{value_step, value_tree}
use Rattle.compose_naming.specs.Bits.{both}

both_true : (o : Option Bool) → both (Some true) o ≡ o
both_true None = refl
both_true (Some b) = refl

true_both : (o : Option Bool) → both o (Some true) ≡ o
true_both None = refl
true_both (Some true) = refl
true_both (Some false) = refl

both_both : (a b c : Option Bool) → both (both a b) c ≡ both a (both b c)
both_both None b c = refl
both_both (Some x) None c = refl
both_both (Some x) (Some y) None = refl
both_both (Some true) (Some y) (Some z) = refl
both_both (Some false) (Some y) (Some z) = refl

pub nothing_yet : (o : Option Bool) → both (Some true) o ≡ o
nothing_yet = both_true

-- what is read of a list from its front
module _ {X : Type 0} (F : List X → Option Bool) (f : X → Option Bool) (step : (x : X) (xs : List X) → F (x ∷ xs) ≡ both (f x) (F xs)) where
  pub one_more : (xs : List X) (i : ℕ) (x : X) (bit new all : Option Bool) → i < length xs → x ≡ get_or xs i x
      → new ≡ both bit (f x) → both bit (F (drop i xs)) ≡ all → both new (F (drop (i + 1) xs)) ≡ all
  one_more xs i x bit new all lt is more h =
      ap (λ o. both o (F (drop (i + 1) xs))) more ∙ both_both bit (f x) (F (drop (i + 1) xs))
      ∙ ap (both bit) (sym (at_drop_more F xs i x lt ∙ ap (λ y. F (y ∷ drop (i + 1) xs)) (sym is) ∙ step x (drop (i + 1) xs))) ∙ h

  pub none_more : (xs : List X) (i : ℕ) (x : X) (bit all : Option Bool) → i < length xs → x ≡ get_or xs i x
      → f x ≡ Some true → both bit (F (drop i xs)) ≡ all → both bit (F (drop (i + 1) xs)) ≡ all
  none_more xs i x bit all lt is nothing h = one_more xs i x bit bit all lt is (sym (ap (both bit) nothing ∙ true_both bit)) h

-- ---- types, by cases

pub list_is : (t : Box ValueShape Global) → value_tree (value.ListOf t) ≡ ListOf (value_tree t.value)
list_is t = ap value_tree (sym (value.rolls-ListOf t)) ∙ fold-roll-ValueShape ValueTree value_step (value_layer.ListOf t)

pub option_is : (t : Box ValueShape Global) → value_tree (value.OptionOf t) ≡ OptionOf (value_tree t.value)
option_is t = ap value_tree (sym (value.rolls-OptionOf t)) ∙ fold-roll-ValueShape ValueTree value_step (value_layer.OptionOf t)
