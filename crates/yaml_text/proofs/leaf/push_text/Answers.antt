use Rattle.std.proofs.Common.{◌≡◌, Bool, true, false, not, ◌&&◌, refl, sym}
use Rattle.yaml_text.specs.Texts as spec
use Rattle.yaml_text.specs.Texts.{is_block}
use Rattle.yaml_text.proofs.leaf.push_text.Goals as goal

middle : (a b c d : Bool) → a && not b && c && d ≡ true → b ≡ false
middle true true c d e = absurd cc
middle true false c d e = refl
middle false b c d e = absurd cc

pub push_block-requires : goal.push_block-requires
unfolding is_block
push_block-requires c = middle _ (spec.has_other_escape c.args.text.now) _ _ (sym c.if-is_block.ensures)
