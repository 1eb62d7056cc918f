-- Laws of what instances export under names.
use Rattle.std.specs.Prelude.{◌≡◌, ℕ, zero, suc, ◌+◌, ◌<◌, Bool, true, false, cond, List, [], ◌∷◌, map, length, drop, slice_index_or, Option, Some, None, bytes_eq, refl}
use Rattle.std.proofs.Common.{sym, ◌∙◌, ap, subst, arith}
use Rattle.std.proofs.lemmas.List.{drop_more}
use Rattle.comp_declare.specs.Exported.{ShowsExport}
use Rattle.comp_entity.specs.Entity.{Entries, no_entry, entry, EntityTree}
use Rattle.comp_entity.specs.Fits.{under}
use Rattle.comp_space.specs.declared.standing.Standing.{Standing}
use Rattle.comp_table.specs.declared.head.Head.{Head}
use Rattle.comp_table.specs.declared.head.Head.TheVariants as head
use Rattle.comp_table.specs.Plain.{around, plain_entity, plain_entries}
use Rattle.comp_table.specs.Trees.{PlainTree, PlainTrees, none, more, Stands, IsBelow, trees_of, tree_at, root, below_root}

abbrev one : PlainTree → PlainTrees → PlainTrees
one t ts = more t ts

same_first : (s t : PlainTree) (ss ts : PlainTrees) → one s ss ≡ one t ts → s ≡ t
same_first s t ss ts e = cc

same_rest : (s t : PlainTree) (ss ts : PlainTrees) → one s ss ≡ one t ts → ss ≡ ts
same_rest s t ss ts e = cc

same_label : (m m' : Bool) (n n' : List ℕ) → head.Entry m n ≡ head.Entry m' n' → n ≡ n'
same_label m m' n n' e = cc

same_mark : (m m' : Bool) (n n' : List ℕ) → head.Entry m n ≡ head.Entry m' n' → m ≡ m'
same_mark m m' n n' e = cc

-- what the export under which a number stands is
module _ (ts : List PlainTree) (x : ℕ) (name n : List ℕ) (e : EntityTree) (mark : Bool) (s : Stands ts x (around (head.Entry mark n) (plain_entity e))) where
  pub no_export_here : (h : Head) → h ≡ root (tree_at ts x) → ((m : Bool) (l : List ℕ) → h ≡ head.Entry m l → ⊥) → ShowsExport ts None (cond (bytes_eq name n) (Some (e, mark)) None)
  no_export_here h is wrong = absurd (wrong mark n (is ∙ ap root s.tree_is))

  pub other_name_here : (h : Head) (m : Bool) (l : List ℕ) → h ≡ root (tree_at ts x) → h ≡ head.Entry m l → bytes_eq name l ≡ false → ShowsExport ts None (cond (bytes_eq name n) (Some (e, mark)) None)
  other_name_here h m l is labelled other =
      let same = same_label m mark l n (sym labelled ∙ is ∙ ap root s.tree_is) in
      subst (λ b. ShowsExport ts None (cond b (Some (e, mark)) None)) (sym (ap (bytes_eq name) (sym same) ∙ other)) tt

  pub export_here : (h : Head) (m : Bool) (l : List ℕ) (parts : List ℕ) (k : ℕ) → h ≡ root (tree_at ts x) → h ≡ head.Entry m l → bytes_eq name l ≡ true → trees_of (map (tree_at ts) parts) ≡ below_root (tree_at ts x) → IsBelow x parts → (rest : List ℕ) → parts ≡ k ∷ rest → ShowsExport ts (Some (record { number = k; named = m })) (cond (bytes_eq name n) (Some (e, mark)) None)
  export_here h m l parts k is labelled same below lower rest first =
      let heads = sym labelled ∙ is ∙ ap root s.tree_is in
      let there = subst (IsBelow x) first lower in
      let trees = ap (λ ps. trees_of (map (tree_at ts) ps)) (sym first) ∙ below ∙ ap below_root s.tree_is in
      let a = there.0 in
      let b = s.there in
      subst (λ b. ShowsExport ts (Some (record { number = k; named = m })) (cond b (Some (e, mark)) None)) (sym (ap (bytes_eq name) (sym (same_label m mark l n heads)) ∙ same))
      (record { stands = record { there = omega (arith, a, b); tree_is = same_first (tree_at ts k) (plain_entity e) (trees_of (map (tree_at ts) rest)) none trees }; named_is = same_mark m mark l n heads })

  pub no_part_here : (parts : List ℕ) → trees_of (map (tree_at ts) parts) ≡ below_root (tree_at ts x) → parts ≡ [] → ShowsExport ts None (cond (bytes_eq name n) (Some (e, mark)) None)
  no_part_here parts below none_is = absurd (let wrong = ap (λ ps. trees_of (map (tree_at ts) ps)) (sym none_is) ∙ below ∙ ap below_root s.tree_is in cc)

-- what is left to be looked at
pub record IsLeft (ts : List PlainTree) (name : List ℕ) (whole : Entries) (left : List ℕ) : Type 0 where
  pub rest : Entries
  pub left_is : trees_of (map (tree_at ts) left) ≡ plain_entries rest
  pub under_is : under name whole ≡ under name rest

record IsSplit (ts : List PlainTree) (p : ℕ) (ps : List ℕ) (rest : Entries) : Type 0 where
  n : List ℕ
  e : EntityTree
  mark : Bool
  later : Entries
  rest_is : rest ≡ entry n e mark later
  first_is : tree_at ts p ≡ around (head.Entry mark n) (plain_entity e)
  later_is : trees_of (map (tree_at ts) ps) ≡ plain_entries later

split : (ts : List PlainTree) (p : ℕ) (ps : List ℕ) (rest : Entries) → trees_of (map (tree_at ts) (p ∷ ps)) ≡ plain_entries rest → IsSplit ts p ps rest
split ts p ps no_entry is = absurd cc
split ts p ps (entry n e mark later) is = record {
  n = n;
  e = e;
  mark = mark;
  later = later;
  rest_is = refl;
  first_is = same_first (tree_at ts p) (around (head.Entry mark n) (plain_entity e)) (trees_of (map (tree_at ts) ps)) (plain_entries later) is;
  later_is = same_rest (tree_at ts p) (around (head.Entry mark n) (plain_entity e)) (trees_of (map (tree_at ts) ps)) (plain_entries later) is;
}

module _ (ts : List PlainTree) (name : List ℕ) (whole : Entries) where
  abbrev IsHere : ℕ → Option Standing → Type 0
  IsHere p found = (n : List ℕ) (e : EntityTree) (mark : Bool) → Stands ts p (around (head.Entry mark n) (plain_entity e)) → ShowsExport ts found (cond (bytes_eq name n) (Some (e, mark)) None)

  not_here : (b : Bool) (x : EntityTree × Bool) (later : Option (EntityTree × Bool)) → ShowsExport ts None (cond b (Some x) None) → cond b (Some x) later ≡ later
  not_here true x later h = absurd h
  not_here false x later h = refl

  is_here : (b : Bool) (x : EntityTree × Bool) (s : Standing) (later : Option (EntityTree × Bool)) → ShowsExport ts (Some s) (cond b (Some x) None) → ShowsExport ts (Some s) (cond b (Some x) later)
  is_here true x s later h = h
  is_here false x s later h = absurd h

  next : (p : ℕ) (ps : List ℕ) → p < length ts → IsLeft ts name whole (p ∷ ps) → IsHere p None → IsLeft ts name whole ps
  next p ps lt left here =
      let a = split ts p ps left.rest left.left_is in
      record {
        rest = a.later;
        left_is = a.later_is;
        under_is = left.under_is ∙ ap (under name) a.rest_is ∙ not_here (bytes_eq name a.n) (a.e, a.mark) (under name a.later) (here a.n a.e a.mark (record { there = lt; tree_is = a.first_is }));
      }

  there : (p : ℕ) (ps : List ℕ) (s : Standing) → p < length ts → IsLeft ts name whole (p ∷ ps) → IsHere p (Some s) → ShowsExport ts (Some s) (under name whole)
  there p ps s lt left here =
      let a = split ts p ps left.rest left.left_is in
      subst (ShowsExport ts (Some s)) (sym (left.under_is ∙ ap (under name) a.rest_is)) (is_here (bytes_eq name a.n) (a.e, a.mark) s (under name a.later) (here a.n a.e a.mark (record { there = lt; tree_is = a.first_is })))

  below_at : (k : ℕ) (ns : List ℕ) (i d : ℕ) → IsBelow k ns → i < length ns → slice_index_or ns i d < k
  below_at k [] i d b lt = absurd (omega (arith, lt))
  below_at k (n ∷ ns) zero d b lt = b.0
  below_at k (n ∷ ns) (suc i) d b lt = below_at k ns i d b.1 (omega (arith, lt))

  pub left_more : (parts : List ℕ) (i d : ℕ) → IsBelow (length ts) parts → i < length parts → IsHere (slice_index_or parts i d) None → IsLeft ts name whole (drop i parts) → IsLeft ts name whole (drop (i + 1) parts)
  left_more parts i d below lt here left =
      next (slice_index_or parts i d) (drop (i + 1) parts) (below_at (length ts) parts i d below lt) (subst (IsLeft ts name whole) (drop_more parts i d lt) left) here

  pub left_found : (parts : List ℕ) (i d : ℕ) (s : Standing) → IsBelow (length ts) parts → i < length parts → IsHere (slice_index_or parts i d) (Some s) → IsLeft ts name whole (drop i parts) → ShowsExport ts (Some s) (under name whole)
  left_found parts i d s below lt here left =
      there (slice_index_or parts i d) (drop (i + 1) parts) s (below_at (length ts) parts i d below lt) (subst (IsLeft ts name whole) (drop_more parts i d lt) left) here

  nothing : (rest : Entries) → none ≡ plain_entries rest → under name rest ≡ None
  nothing no_entry e = refl
  nothing (entry n x mark rest) e = absurd cc

  pub left_none : IsLeft ts name whole [] → ShowsExport ts None (under name whole)
  left_none left = subst (ShowsExport ts None) (sym (left.under_is ∙ nothing left.rest left.left_is)) tt

  pub all_left : (parts : List ℕ) → trees_of (map (tree_at ts) parts) ≡ plain_entries whole → IsLeft ts name whole parts
  all_left parts is = record { rest = whole; left_is = is; under_is = refl }
