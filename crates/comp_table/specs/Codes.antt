-- The code of a tree, by which proofs tell trees apart: a list of heads, each in front of its parts, with a mark behind
-- them.
use Rattle.std.specs.Prelude.{◌≡◌, List, [], ◌∷◌, Option, Some, None}
use Rattle.std.specs.Coded.{Coded, code_by, coded_list, coded_option}
use Rattle.std.proofs.Common.{refl, ap, ◌∙◌}
use Rattle.comp_table.specs.declared.head.Head.{Head}
use Rattle.comp_table.specs.declared.head.Head.TheVariants as head
use Rattle.comp_table.specs.Trees.{PlainTree, tree, PlainTrees, none, more}

abbrev mutual
  pub tree_marks : PlainTree → List (Option Head) → List (Option Head)
  tree_marks (tree h parts) rest = Some h ∷ trees_marks parts (None ∷ rest)

  pub trees_marks : PlainTrees → List (Option Head) → List (Option Head)
  trees_marks none rest = rest
  trees_marks (more t ts) rest = tree_marks t (trees_marks ts rest)

-- what has been read from the end: the trees in front of the mark, and those in front of the marks behind it
pub record Read : Type 0 where
  pub here : PlainTrees
  pub behind : List PlainTrees

abbrev pub under_head : Head → PlainTrees → List PlainTrees → Read
under_head h parts [] = record { here = none; behind = [] }
under_head h parts (ts ∷ rest) = record { here = more (tree h parts) ts; behind = rest }

abbrev pub read_mark : Option Head → Read → Read
read_mark None r = record { here = none; behind = r.here ∷ r.behind }
read_mark (Some h) r = under_head h r.here r.behind

abbrev pub read_marks : List (Option Head) → Read
read_marks [] = record { here = none; behind = [] }
read_marks (m ∷ ms) = read_mark m (read_marks ms)

abbrev pub first_tree : PlainTrees → PlainTree
first_tree none = tree head.Absent none
first_tree (more t ts) = t

abbrev in_front : PlainTrees → PlainTrees → PlainTrees
in_front none us = us
in_front (more t ts) us = more t (in_front ts us)

before_none : (ts : PlainTrees) → in_front ts none ≡ ts
before_none none = refl
before_none (more t ts) = ap (more t) (before_none ts)

mutual
  tree_read : (t : PlainTree) (rest : List (Option Head)) → read_marks (tree_marks t rest) ≡ record { here = more t (read_marks rest).here; behind = (read_marks rest).behind }
  tree_read (tree h parts) rest =
      ap (read_mark (Some h)) (trees_read parts (None ∷ rest))
      ∙ ap (λ ts. record { here = more (tree h ts) (read_marks rest).here; behind = (read_marks rest).behind }) (before_none parts)

  trees_read : (ts : PlainTrees) (rest : List (Option Head)) → read_marks (trees_marks ts rest) ≡ record { here = in_front ts (read_marks rest).here; behind = (read_marks rest).behind }
  trees_read none rest = refl
  trees_read (more t ts) rest =
      tree_read t (trees_marks ts rest)
      ∙ ap (λ (r : Read). record { here = more t r.here; behind = r.behind }) (trees_read ts rest)

abbrev pub marks : PlainTree → List (Option Head)
marks t = tree_marks t []

abbrev pub tree_of : List (Option Head) → PlainTree
tree_of ms = first_tree (read_marks ms).here

pub tree_given_back : (t : PlainTree) → tree_of (marks t) ≡ t
tree_given_back t = ap (λ (r : Read). first_tree r.here) (tree_read t [])

abbrev pub tree_code : Coded Head → Coded PlainTree
tree_code coded = code_by (List (Option Head)) (coded_list (coded_option coded)) marks tree_of tree_given_back
