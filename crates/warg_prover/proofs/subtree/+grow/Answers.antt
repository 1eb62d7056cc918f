use Rattle.std.proofs.Common.{◌≡◌, ℕ, ◌-◌, ◌<◌, List, [], length, get_or, sym, ap, subst, ◌∙◌, arith}
use Rattle.std.proofs.lemmas.Bool.{eqb-true}
use Rattle.std.proofs.lemmas.Result.{IfOk-weaker}
use Rattle.warg_proof.specs.MapTree.{subtree_root}
use Rattle.warg_prover.specs.declared.subtree.Member.{Member}
use Rattle.warg_prover.specs.declared.subtree.Subtree.{Subtree}
use Rattle.warg_prover.specs.Subtrees.{Only, Parted, IsTreeOf, tree_of, entries_of}
use Rattle.warg_prover.proofs.Trees.{leaf_root, leaf_tree, left_some, grown_left, grown_right, grown_both, split_is}
use Rattle.warg_prover.proofs.subtree.+grow.Goals as goal

pub returns-then-height-eq0-clause-root : goal.returns-then-height-eq0-clause-root
returns-then-height-eq0-clause-root t c =
    IfOk-weaker c.leaf_of.result _ _
    (λ grown e. e ∙ leaf_root c.args.members.now c.index-members-0.result c.requires.some c.index-members-0.is ∙ ap (λ (h : ℕ). subtree_root h (entries_of c.args.members.now)) (sym c.if-height-eq0.true))
    c.leaf_of.ensures.root

pub returns-then-height-eq0-clause-tree : goal.returns-then-height-eq0-clause-tree
returns-then-height-eq0-clause-tree t c =
    let tree = leaf_tree c.args.members.now c.index-members-0.result c.requires.some c.index-members-0.is in
    let at = subst (λ (h : ℕ). IsTreeOf h (entries_of c.args.members.now) (Only c.index-members-0.result.key)) (sym c.if-height-eq0.true) tree in
    IfOk-weaker c.leaf_of.result _ _ (λ grown e. subst (IsTreeOf c.args.height (entries_of c.args.members.now)) (sym e) at) c.leaf_of.ensures.tree

pub grow-requires : goal.grow-requires
grow-requires t c =
    let empty = eqb-true _ _ (sym c.is_empty.ensures ∙ c.if-is_empty.true) in
    let none : length c.in_ok-left.right.items ≡ 0 = omega (arith, empty, c.in_ok-left.right.ok.0) in
    let some = left_some (255 - (c.args.height - 1)) c.args.members.now c.in_ok-left.left.items c.in_ok-left.right.items c.in_ok-left.ensures.left c.in_ok-left.ensures.right none c.requires.some in
    (omega arith, (c.requires.roots, (omega arith, subst (λ (ms : List Member). 0 < length ms) (sym c.as_slice.ensures.value) some)))

pub returns-then-is_empty-clause-root : goal.returns-then-is_empty-clause-root
returns-then-is_empty-clause-root t c =
    let below = c.args.height - 1 in
    let empty = eqb-true _ _ (sym c.is_empty.ensures ∙ c.if-is_empty.true) in
    let none : length c.in_ok-left.right.items ≡ 0 = omega (arith, empty, c.in_ok-left.right.ok.0) in
    let root : c.in_ok-root.root ≡ subtree_root below (entries_of c.in_ok-left.left.items) = c.in_ok-root.ensures.root ∙ ap (λ (ms : List Member). subtree_root below (entries_of ms)) c.as_slice.ensures.value in
    let tree : IsTreeOf below (entries_of c.in_ok-left.left.items) (tree_of c.in_ok-root.tree) = subst (λ (ms : List Member). IsTreeOf below (entries_of ms) (tree_of c.in_ok-root.tree)) c.as_slice.ensures.value c.in_ok-root.ensures.tree in
    let grown = grown_left below c.args.height (omega arith) c.args.members.now c.in_ok-left.left.items c.in_ok-left.right.items c.requires.some c.in_ok-left.ensures.left c.in_ok-left.ensures.right
    (get_or c.args.empty.now below []) c.in_ok-root.root (tree_of c.in_ok-root.tree) none (c.requires.roots.each below (omega arith)) root tree in
    c.branch_hash.ensures ∙ grown.is_root

pub returns-then-is_empty-clause-tree : goal.returns-then-is_empty-clause-tree
returns-then-is_empty-clause-tree t c =
    let below = c.args.height - 1 in
    let empty = eqb-true _ _ (sym c.is_empty.ensures ∙ c.if-is_empty.true) in
    let none : length c.in_ok-left.right.items ≡ 0 = omega (arith, empty, c.in_ok-left.right.ok.0) in
    let root : c.in_ok-root.root ≡ subtree_root below (entries_of c.in_ok-left.left.items) = c.in_ok-root.ensures.root ∙ ap (λ (ms : List Member). subtree_root below (entries_of ms)) c.as_slice.ensures.value in
    let tree : IsTreeOf below (entries_of c.in_ok-left.left.items) (tree_of c.in_ok-root.tree) = subst (λ (ms : List Member). IsTreeOf below (entries_of ms) (tree_of c.in_ok-root.tree)) c.as_slice.ensures.value c.in_ok-root.ensures.tree in
    let grown = grown_left below c.args.height (omega arith) c.args.members.now c.in_ok-left.left.items c.in_ok-left.right.items c.requires.some c.in_ok-left.ensures.left c.in_ok-left.ensures.right
    (get_or c.args.empty.now below []) c.in_ok-root.root (tree_of c.in_ok-root.tree) none (c.requires.roots.each below (omega arith)) root tree in
    grown.is_tree

pub returns-then-is_empty-2-clause-root : goal.returns-then-is_empty-2-clause-root
returns-then-is_empty-2-clause-root t c =
    let below = c.args.height - 1 in
    let empty = eqb-true _ _ (sym c.is_empty-2.ensures ∙ c.if-is_empty-2.true) in
    let none : length c.in_ok-left.left.items ≡ 0 = omega (arith, empty, c.in_ok-left.left.ok.0) in
    let root : c.in_ok-root-2.root ≡ subtree_root below (entries_of c.in_ok-left.right.items) = c.in_ok-root-2.ensures.root ∙ ap (λ (ms : List Member). subtree_root below (entries_of ms)) c.as_slice-then-is_empty-2.ensures.value in
    let tree : IsTreeOf below (entries_of c.in_ok-left.right.items) (tree_of c.in_ok-root-2.tree) = subst (λ (ms : List Member). IsTreeOf below (entries_of ms) (tree_of c.in_ok-root-2.tree)) c.as_slice-then-is_empty-2.ensures.value c.in_ok-root-2.ensures.tree in
    let grown = grown_right below c.args.height (omega arith) c.args.members.now c.in_ok-left.left.items c.in_ok-left.right.items c.requires.some c.in_ok-left.ensures.left c.in_ok-left.ensures.right
    (get_or c.args.empty.now below []) c.in_ok-root-2.root (tree_of c.in_ok-root-2.tree) none (c.requires.roots.each below (omega arith)) root tree in
    c.branch_hash-then-is_empty-2.ensures ∙ grown.is_root

pub returns-then-is_empty-2-clause-tree : goal.returns-then-is_empty-2-clause-tree
returns-then-is_empty-2-clause-tree t c =
    let below = c.args.height - 1 in
    let empty = eqb-true _ _ (sym c.is_empty-2.ensures ∙ c.if-is_empty-2.true) in
    let none : length c.in_ok-left.left.items ≡ 0 = omega (arith, empty, c.in_ok-left.left.ok.0) in
    let root : c.in_ok-root-2.root ≡ subtree_root below (entries_of c.in_ok-left.right.items) = c.in_ok-root-2.ensures.root ∙ ap (λ (ms : List Member). subtree_root below (entries_of ms)) c.as_slice-then-is_empty-2.ensures.value in
    let tree : IsTreeOf below (entries_of c.in_ok-left.right.items) (tree_of c.in_ok-root-2.tree) = subst (λ (ms : List Member). IsTreeOf below (entries_of ms) (tree_of c.in_ok-root-2.tree)) c.as_slice-then-is_empty-2.ensures.value c.in_ok-root-2.ensures.tree in
    let grown = grown_right below c.args.height (omega arith) c.args.members.now c.in_ok-left.left.items c.in_ok-left.right.items c.requires.some c.in_ok-left.ensures.left c.in_ok-left.ensures.right
    (get_or c.args.empty.now below []) c.in_ok-root-2.root (tree_of c.in_ok-root-2.tree) none (c.requires.roots.each below (omega arith)) root tree in
    grown.is_tree

pub returns-clause-root : goal.returns-clause-root
returns-clause-root t c =
    let below = c.args.height - 1 in
    let left = c.in_ok-left.left.items in
    let right = c.in_ok-left.right.items in
    let left_tree = tree_of c.in_ok-left_root.left in
    let right_tree = tree_of c.in_ok-right_root.right in
    let a : c.in_ok-left_root.left_root ≡ subtree_root below (entries_of left) = c.in_ok-left_root.ensures.root ∙ ap (λ (ms : List Member). subtree_root below (entries_of ms)) c.as_slice-2.ensures.value in
    let l : IsTreeOf below (entries_of left) left_tree = subst (λ (ms : List Member). IsTreeOf below (entries_of ms) left_tree) c.as_slice-2.ensures.value c.in_ok-left_root.ensures.tree in
    let b : c.in_ok-right_root.right_root ≡ subtree_root below (entries_of right) = c.in_ok-right_root.ensures.root ∙ ap (λ (ms : List Member). subtree_root below (entries_of ms)) c.as_slice-3.ensures.value in
    let r : IsTreeOf below (entries_of right) right_tree = subst (λ (ms : List Member). IsTreeOf below (entries_of ms) right_tree) c.as_slice-3.ensures.value c.in_ok-right_root.ensures.tree in
    let grown = grown_both below c.args.height (omega arith) c.args.members.now left right c.requires.some c.in_ok-left.ensures.left c.in_ok-left.ensures.right
    c.in_ok-left_root.left_root c.in_ok-right_root.right_root left_tree right_tree a l b r in
    c.branch_hash-2.ensures ∙ grown.is_root

pub returns-clause-tree : goal.returns-clause-tree
returns-clause-tree t c =
    let below = c.args.height - 1 in
    let left = c.in_ok-left.left.items in
    let right = c.in_ok-left.right.items in
    let left_tree = tree_of c.in_ok-left_root.left in
    let right_tree = tree_of c.in_ok-right_root.right in
    let a : c.in_ok-left_root.left_root ≡ subtree_root below (entries_of left) = c.in_ok-left_root.ensures.root ∙ ap (λ (ms : List Member). subtree_root below (entries_of ms)) c.as_slice-2.ensures.value in
    let l : IsTreeOf below (entries_of left) left_tree = subst (λ (ms : List Member). IsTreeOf below (entries_of ms) left_tree) c.as_slice-2.ensures.value c.in_ok-left_root.ensures.tree in
    let b : c.in_ok-right_root.right_root ≡ subtree_root below (entries_of right) = c.in_ok-right_root.ensures.root ∙ ap (λ (ms : List Member). subtree_root below (entries_of ms)) c.as_slice-3.ensures.value in
    let r : IsTreeOf below (entries_of right) right_tree = subst (λ (ms : List Member). IsTreeOf below (entries_of ms) right_tree) c.as_slice-3.ensures.value c.in_ok-right_root.ensures.tree in
    let grown = grown_both below c.args.height (omega arith) c.args.members.now left right c.requires.some c.in_ok-left.ensures.left c.in_ok-left.ensures.right
    c.in_ok-left_root.left_root c.in_ok-right_root.right_root left_tree right_tree a l b r in
    let is =
    split_is (255 - below) c.in_ok-left_root.left_root c.in_ok-new.field-0 c.in_ok-right_root.right_root c.in_ok-new-2.field-0
    ∙ ap (λ (x : Subtree). Parted (255 - below) c.in_ok-left_root.left_root (tree_of x) c.in_ok-right_root.right_root (tree_of c.in_ok-new-2.field-0.value)) c.in_ok-new.ensures.ok
    ∙ ap (λ (x : Subtree). Parted (255 - below) c.in_ok-left_root.left_root left_tree c.in_ok-right_root.right_root (tree_of x)) c.in_ok-new-2.ensures.ok in
    subst (IsTreeOf c.args.height (entries_of c.args.members.now)) (sym is) grown.is_tree
