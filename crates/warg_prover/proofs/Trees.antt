-- The tree of a map as it grows from its members.
use Rattle.std.proofs.Common.{◌≡◌, ℕ, suc, ◌+◌, ◌-◌, ◌<◌, Bool, true, false, cond, List, [], ◌∷◌, ◌++◌, length, get_or, take, refl, sym, ap, subst, ◌∙◌, inl, inr, append_assoc, arith}
use Rattle.std.specs.Global.{Global}
use Rattle.std.specs.Prelude.{Box}
use Rattle.std.specs.List.{filter}
use Rattle.std.proofs.lemmas.Bool.{cases_Bool}
use Rattle.std.proofs.lemmas.List.{append-nil, length-map, map_push, take_more}
use Rattle.std.proofs.lemmas.List.Elements.{filter-append}
use Rattle.warg_proof.specs.Leaves.{map_value}
use Rattle.warg_proof.specs.Merkle.{leaf_hash, branch_hash}
use Rattle.warg_proof.specs.MapTree.{Entries, empty_root, has_bit, left_of, right_of, subtree_root}
use Rattle.warg_prover.specs.declared.subtree.Member.{Member}
use Rattle.warg_prover.specs.declared.subtree.Subtree.{Subtree, fold-roll-Subtree}
use Rattle.warg_prover.specs.declared.subtree.Subtree.TheOpen as layer
use Rattle.warg_prover.specs.declared.subtree.Subtree.TheVariants as variant
use Rattle.warg_prover.specs.Subtrees.{Tree, Only, Parted, IsTreeOf, tree_of, tree_step, entries_of, way_of, end_of}
use Rattle.warg_prover.proofs.Ways.{empty_subtree, way_left, way_right}

-- ---- what a subtree is

pub leaf_is : (key : List ℕ) → tree_of (variant.Leaf key) ≡ Only key
leaf_is key = ap tree_of (sym (variant.rolls-Leaf key)) ∙ fold-roll-Subtree Tree tree_step (layer.Leaf key)

pub split_is : (depth : ℕ) (left_root : List ℕ) (left : Box Subtree Global) (right_root : List ℕ) (right : Box Subtree Global)
    → tree_of (variant.Split depth left_root left right_root right) ≡ Parted depth left_root (tree_of left.value) right_root (tree_of right.value)
split_is depth left_root left right_root right = ap tree_of (sym (variant.rolls-Split depth left_root left right_root right)) ∙ fold-roll-Subtree Tree tree_step (layer.Split depth left_root left right_root right)

-- ---- members on the sides of a split

abbrev entry_of : Member → List ℕ × List ℕ
entry_of m = (m.key, map_value m.record_id)

module _ (p : List ℕ × List ℕ → Bool) (side members : List Member) (i : ℕ) (m : Member) (lt : i < length members) (is : m ≡ get_or members i m) (before : entries_of side ≡ filter p (entries_of (take i members))) where
  one_on : entries_of (take (i + 1) members) ≡ entries_of (take i members) ++ entry_of m ∷ []
  one_on = ap entries_of (take_more members i m lt ∙ ap (λ (x : Member). take i members ++ x ∷ []) (sym is)) ∙ map_push entry_of (take i members) m

  pub side_goes : p (entry_of m) ≡ true → entries_of (side ++ m ∷ []) ≡ filter p (entries_of (take (i + 1) members))
  side_goes passes =
      map_push entry_of side m ∙ ap (λ (es : Entries). es ++ entry_of m ∷ []) before
      ∙ sym (ap (filter p) one_on ∙ filter-append p (entries_of (take i members)) (entry_of m ∷ []) ∙ ap (λ (b : Bool). filter p (entries_of (take i members)) ++ cond b (entry_of m ∷ []) []) passes)

  pub side_stays : p (entry_of m) ≡ false → entries_of side ≡ filter p (entries_of (take (i + 1) members))
  side_stays fails =
      before
      ∙ sym (ap (filter p) one_on ∙ filter-append p (entries_of (take i members)) (entry_of m ∷ []) ∙ ap (λ (b : Bool). filter p (entries_of (take i members)) ++ cond b (entry_of m ∷ []) []) fails ∙ append-nil (filter p (entries_of (take i members))))

-- each member is on one side
sides_fill : (depth : ℕ) (entries : Entries) → length (left_of depth entries) + length (right_of depth entries) ≡ length entries
sides_fill depth [] = refl
sides_fill depth (e ∷ entries) = elim (cases_Bool (has_bit e.0 depth)) [
  | inl right ↦ rw right (omega (arith, sides_fill depth entries))
  | inr left ↦ rw left (omega (arith, sides_fill depth entries))
]

-- a side that has no member leaves all of them to the other
pub left_some : (depth : ℕ) (members left right : List Member) → entries_of left ≡ left_of depth (entries_of members) → entries_of right ≡ right_of depth (entries_of members) → length right ≡ 0 → 0 < length members → 0 < length left
left_some depth members left right is_left is_right none some =
    let fill = sides_fill depth (entries_of members) in
    let a : length left ≡ length (left_of depth (entries_of members)) = sym (length-map left entry_of) ∙ ap length is_left in
    let b : length right ≡ length (right_of depth (entries_of members)) = sym (length-map right entry_of) ∙ ap length is_right in
    let all = length-map members entry_of in
    omega (arith, fill, a, b, all)

pub right_some : (depth : ℕ) (members left right : List Member) → entries_of left ≡ left_of depth (entries_of members) → entries_of right ≡ right_of depth (entries_of members) → length left ≡ 0 → 0 < length members → 0 < length right
right_some depth members left right is_left is_right none some =
    let fill = sides_fill depth (entries_of members) in
    let a : length left ≡ length (left_of depth (entries_of members)) = sym (length-map left entry_of) ∙ ap length is_left in
    let b : length right ≡ length (right_of depth (entries_of members)) = sym (length-map right entry_of) ∙ ap length is_right in
    let all = length-map members entry_of in
    omega (arith, fill, a, b, all)

pub no_entries : (members : List Member) → length members ≡ 0 → entries_of members ≡ []
no_entries [] none = refl
no_entries (m ∷ members) none = absurd (omega arith)

-- ---- a leaf

pub leaf_root : (members : List Member) (m : Member) → 0 < length members → m ≡ get_or members 0 m → leaf_hash (map_value m.record_id) ≡ subtree_root 0 (entries_of members)
unfolding subtree_root
leaf_root [] m some is = absurd (omega arith)
leaf_root (x ∷ members) m some is = ap (λ (y : Member). leaf_hash (map_value y.record_id)) is

pub leaf_tree : (members : List Member) (m : Member) → 0 < length members → m ≡ get_or members 0 m → IsTreeOf 0 (entries_of members) (Only m.key)
unfolding IsTreeOf
leaf_tree [] m some is = absurd (omega arith)
leaf_tree (x ∷ members) m some is = ap (λ (y : Member). y.key) is

-- ---- a split

split_root : (below : ℕ) (members : List Member) → 0 < length members
    → subtree_root (suc below) (entries_of members) ≡ branch_hash (subtree_root below (left_of (255 - below) (entries_of members))) (subtree_root below (right_of (255 - below) (entries_of members)))
unfolding subtree_root
split_root below [] some = absurd (omega arith)
split_root below (m ∷ members) some = refl

one_left : (below : ℕ) (entries : Entries) (tree : Tree) → right_of (255 - below) entries ≡ [] → IsTreeOf below (left_of (255 - below) entries) tree → IsTreeOf (suc below) entries tree
unfolding IsTreeOf
one_left below entries (Only key) none is = inl (none, is)
one_left below entries (Parted depth left_root left right_root right) none is = inl (none, is)

one_right : (below : ℕ) (entries : Entries) (tree : Tree) → left_of (255 - below) entries ≡ [] → IsTreeOf below (right_of (255 - below) entries) tree → IsTreeOf (suc below) entries tree
unfolding IsTreeOf
one_right below entries (Only key) none is = inr (none, is)
one_right below entries (Parted depth left_root left right_root right) none is = inr (inl (none, is))

both_sides : (below : ℕ) (entries : Entries) (left_root : List ℕ) (left : Tree) (right_root : List ℕ) (right : Tree) → left_root ≡ subtree_root below (left_of (255 - below) entries) → IsTreeOf below (left_of (255 - below) entries) left
    → right_root ≡ subtree_root below (right_of (255 - below) entries) → IsTreeOf below (right_of (255 - below) entries) right → IsTreeOf (suc below) entries (Parted (255 - below) left_root left right_root right)
unfolding IsTreeOf
both_sides below entries left_root left right_root right a l b r = inr (inr (refl, a, l, b, r))

-- what has grown at a height
pub record IsGrown (height : ℕ) (entries : Entries) (root : List ℕ) (tree : Tree) : Type 0 where
  pub is_root : root ≡ subtree_root height entries
  pub is_tree : IsTreeOf height entries tree

module _ (below height : ℕ) (at : height ≡ suc below) (members left right : List Member) (some : 0 < length members)
    (is_left : entries_of left ≡ left_of (255 - below) (entries_of members)) (is_right : entries_of right ≡ right_of (255 - below) (entries_of members)) where
  higher : (root : List ℕ) (tree : Tree) → IsGrown (suc below) (entries_of members) root tree → IsGrown height (entries_of members) root tree
  higher root tree g = subst (λ (h : ℕ). IsGrown h (entries_of members) root tree) (sym at) g

  pub grown_left : (empty root : List ℕ) (tree : Tree) → length right ≡ 0 → empty ≡ empty_root below → root ≡ subtree_root below (entries_of left) → IsTreeOf below (entries_of left) tree
      → IsGrown height (entries_of members) (branch_hash root empty) tree
  grown_left empty root tree none is_empty is_root is_tree =
      let nothing : right_of (255 - below) (entries_of members) ≡ [] = sym is_right ∙ no_entries right none in
      let beside : empty ≡ subtree_root below (right_of (255 - below) (entries_of members)) = is_empty ∙ sym (ap (subtree_root below) nothing ∙ empty_subtree below) in
      higher (branch_hash root empty) tree (record {
        is_root = ap (λ (r : List ℕ). branch_hash r empty) (is_root ∙ ap (subtree_root below) is_left) ∙ ap (branch_hash (subtree_root below (left_of (255 - below) (entries_of members)))) beside ∙ sym (split_root below members some);
        is_tree = one_left below (entries_of members) tree nothing (subst (λ (es : Entries). IsTreeOf below es tree) is_left is_tree);
      })

  pub grown_right : (empty root : List ℕ) (tree : Tree) → length left ≡ 0 → empty ≡ empty_root below → root ≡ subtree_root below (entries_of right) → IsTreeOf below (entries_of right) tree
      → IsGrown height (entries_of members) (branch_hash empty root) tree
  grown_right empty root tree none is_empty is_root is_tree =
      let nothing : left_of (255 - below) (entries_of members) ≡ [] = sym is_left ∙ no_entries left none in
      let beside : empty ≡ subtree_root below (left_of (255 - below) (entries_of members)) = is_empty ∙ sym (ap (subtree_root below) nothing ∙ empty_subtree below) in
      higher (branch_hash empty root) tree (record {
        is_root = ap (λ (r : List ℕ). branch_hash r root) beside ∙ ap (branch_hash (subtree_root below (left_of (255 - below) (entries_of members)))) (is_root ∙ ap (subtree_root below) is_right) ∙ sym (split_root below members some);
        is_tree = one_right below (entries_of members) tree nothing (subst (λ (es : Entries). IsTreeOf below es tree) is_right is_tree);
      })

  pub grown_both : (left_root right_root : List ℕ) (left_tree right_tree : Tree) → left_root ≡ subtree_root below (entries_of left) → IsTreeOf below (entries_of left) left_tree → right_root ≡ subtree_root below (entries_of right) → IsTreeOf below (entries_of right) right_tree
      → IsGrown height (entries_of members) (branch_hash left_root right_root) (Parted (255 - below) left_root left_tree right_root right_tree)
  grown_both left_root right_root left_tree right_tree a l b r =
      let a' : left_root ≡ subtree_root below (left_of (255 - below) (entries_of members)) = a ∙ ap (subtree_root below) is_left in
      let b' : right_root ≡ subtree_root below (right_of (255 - below) (entries_of members)) = b ∙ ap (subtree_root below) is_right in
      higher (branch_hash left_root right_root) (Parted (255 - below) left_root left_tree right_root right_tree) (record {
        is_root = ap (λ (x : List ℕ). branch_hash x right_root) a' ∙ ap (branch_hash (subtree_root below (left_of (255 - below) (entries_of members)))) b' ∙ sym (split_root below members some);
        is_tree = both_sides below (entries_of members) left_root left_tree right_root right_tree
            a' (subst (λ (es : Entries). IsTreeOf below es left_tree) is_left l) b' (subst (λ (es : Entries). IsTreeOf below es right_tree) is_right r);
      })

-- ---- a step down a key's way

pub record IsOnWay (done : List (ℕ × List ℕ)) (at whole : Tree) (key : List ℕ) : Type 0 where
  pub way : done ++ way_of at key ≡ way_of whole key
  pub ends : end_of at key ≡ end_of whole key

pub step_right : (done : List (ℕ × List ℕ)) (depth : ℕ) (left_root : List ℕ) (left : Tree) (right_root : List ℕ) (right whole : Tree) (key : List ℕ) → has_bit key depth ≡ true
    → IsOnWay done (Parted depth left_root left right_root right) whole key → IsOnWay (done ++ (depth, left_root) ∷ []) right whole key
step_right done depth left_root left right_root right whole key bit on =
    let w = way_right depth left_root left right_root right key bit in
    record {
      way = append_assoc done ((depth, left_root) ∷ []) (way_of right key) ∙ ap (λ (x : List (ℕ × List ℕ)). done ++ x) (sym w.0) ∙ on.way;
      ends = sym w.1 ∙ on.ends;
    }

pub step_left : (done : List (ℕ × List ℕ)) (depth : ℕ) (left_root : List ℕ) (left : Tree) (right_root : List ℕ) (right whole : Tree) (key : List ℕ) → has_bit key depth ≡ false
    → IsOnWay done (Parted depth left_root left right_root right) whole key → IsOnWay (done ++ (depth, right_root) ∷ []) left whole key
step_left done depth left_root left right_root right whole key bit on =
    let w = way_left depth left_root left right_root right key bit in
    record {
      way = append_assoc done ((depth, right_root) ∷ []) (way_of left key) ∙ ap (λ (x : List (ℕ × List ℕ)). done ++ x) (sym w.0) ∙ on.way;
      ends = sym w.1 ∙ on.ends;
    }

pub way_ended : (done : List (ℕ × List ℕ)) (only : List ℕ) (whole : Tree) (key : List ℕ) → IsOnWay done (Only only) whole key → (done ≡ way_of whole key) × (only ≡ end_of whole key)
way_ended done only whole key on = (sym (append-nil done) ∙ on.way, on.ends)
