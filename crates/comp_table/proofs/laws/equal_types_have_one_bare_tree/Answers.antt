use Rattle.std.proofs.Common.{◌≡◌, ◌∙◌, ap, sym, subst, refl, true}
use Rattle.comp_entity.specs.Entity.{Value, IsType}
use Rattle.comp_entity.specs.Fits.{same_name, values_equal}
use Rattle.comp_entity.specs.Names.{without_places, value_by}
use Rattle.comp_table.specs.Plain.{plain_value}
use Rattle.comp_table.proofs.PlainLaws.{value_same}
use Rattle.comp_table.proofs.EqualLaws.{value_told, value_itself}
use Rattle.comp_table.proofs.laws.equal_types_have_one_bare_tree.Goals as goal

pub returns : goal.returns
returns c = λ v w. (
  λ e. ap plain_value (value_told 0 v w e),
  λ e.
      let same = value_same (value_by without_places 0 v) (value_by without_places 0 w) e in
      let equal = subst (λ x. values_equal same_name (value_by without_places 0 v) x ≡ true) same (value_itself (value_by without_places 0 v)) in
      let kept = c.a_change_keeps_equality.ensures without_places same_name same_name (λ d m n. refl) 0 (IsType (Value v)) (IsType (Value w)) in
      sym kept ∙ equal,
)
