-- What is left of exports that are asked for, where those before fit.
use Rattle.std.specs.Prelude.{◌≡◌, ℕ, Bool, true, false, List, [], ◌∷◌, map, Some, None, refl, cond}
use Rattle.std.proofs.Common.{sym, ◌∙◌, ap, subst}
use Rattle.comp_entity.specs.Entity.{EntityTree, Entries, entry}
use Rattle.comp_table.specs.declared.head.Head.TheVariants as head
use Rattle.comp_table.specs.Plain.{around, plain_entity, plain_entries}
use Rattle.comp_table.specs.Shown.{IsShown, AreShown}
use Rattle.comp_table.specs.Trees.{PlainTree, tree_at, trees_of}
use Rattle.compose_fit.specs.Fit.{first_unfit, fits_under}
use Rattle.compose_fit.specs.Seen.{plainly}
use Rattle.compose_fit.proofs.ExportLaws.{IsNext, next, none_left}

pub record IsLeft (ts : List PlainTree) (ps : List ℕ) (given asked : Entries) : Type 0 where
  pub rest : Entries
  pub trees : trees_of (map (tree_at ts) ps) ≡ plain_entries rest
  pub shown : AreShown rest
  pub unfit : first_unfit plainly 0 given 0 asked ≡ first_unfit plainly 0 given 0 rest

pub all_left : (ts : List PlainTree) (ps : List ℕ) (given asked : Entries) → trees_of (map (tree_at ts) ps) ≡ plain_entries asked → AreShown asked → IsLeft ts ps given asked
all_left ts ps given asked e s = record { rest = asked; trees = e; shown = s; unfit = refl }

module _ (ts : List PlainTree) (p : ℕ) (ps : List ℕ) (given asked : Entries) (l : IsLeft ts (p ∷ ps) given asked) where
  pub here : IsNext ts p ps l.rest
  here = next ts p ps l.rest l.trees

  shown_here : AreShown (entry here.name here.item here.mark here.rest)
  shown_here = subst AreShown here.is l.shown

  pub item_shown : IsShown here.item
  unfolding shown_here
  item_shown = shown_here.0

  pub asked_here : (name : List ℕ) × (mark : Bool) × (item : EntityTree) × (tree_at ts p ≡ around (head.Entry mark name) (plain_entity item)) × IsShown item
  asked_here = (here.name, here.mark, here.item, here.here, item_shown)

  split : first_unfit plainly 0 given 0 asked ≡ cond (fits_under plainly 0 given 0 here.name here.item) (first_unfit plainly 0 given 0 here.rest) (Some here.name)
  split = l.unfit ∙ ap (first_unfit plainly 0 given 0) here.is

  pub left_later : true ≡ fits_under plainly 0 given 0 here.name here.item → IsLeft ts ps given asked
  unfolding shown_here
  left_later a = record {
    rest = here.rest;
    trees = here.later;
    shown = shown_here.1;
    unfit = split ∙ ap (λ b. cond b (first_unfit plainly 0 given 0 here.rest) (Some here.name)) (sym a);
  }

  pub unfit_here : false ≡ fits_under plainly 0 given 0 here.name here.item → Some here.name ≡ first_unfit plainly 0 given 0 asked
  unfit_here a = sym (split ∙ ap (λ b. cond b (first_unfit plainly 0 given 0 here.rest) (Some here.name)) (sym a))

pub nothing_unfit : (ts : List PlainTree) (given asked : Entries) → IsLeft ts [] given asked → None ≡ first_unfit plainly 0 given 0 asked
nothing_unfit ts given asked l = sym (l.unfit ∙ ap (first_unfit plainly 0 given 0) (none_left ts l.rest l.trees))
