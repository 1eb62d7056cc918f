-- What is noted on the way.
use Rattle.std.specs.Prelude.{◌≡◌, ℕ, ◌+◌, ◌<◌, Bool, true, false, cond, ◌||◌, ◌&&◌, ◌==◌, List, [], ◌∷◌, ◌++◌, map, length, take, slice_index_or, refl}
use Rattle.std.specs.List.{AllByRecursion, list_any}
use Rattle.std.proofs.Common.{ap, sym, subst, ◌∙◌}
use Rattle.std.proofs.lemmas.Bool.{and_parts, or_left, or_right, eqb-true, eq-eqb}
use Rattle.std.proofs.lemmas.Grind.{flat_map-append, fold-append}
use Rattle.std.proofs.lemmas.List.{append-nil, append_assoc, map-append, take_more}
use Rattle.indexmap.specs.IndexSet.{insert_key}
use Rattle.comp_entity.specs.Names.{Mention}
use Rattle.comp_mention.specs.declared.what.What.{What}
use Rattle.comp_mention.specs.declared.walk.Visited.{Visited}
use Rattle.comp_mention.specs.Mentions.{picked, picked_in, head_mentions, below_mentions, tree_mentions, trees_mentions, mentions_at}
use Rattle.comp_mention.specs.Walked.{has, with_number, with_numbers, IsVisited}
use Rattle.comp_table.specs.declared.head.Head.{Head}
use Rattle.comp_table.specs.Changes.{scopes_in}
use Rattle.comp_table.specs.Trees.{PlainTree, tree, trees_of, root, tree_at}

no_truth : {A : Type 0} → true ≡ false → A
no_truth h = absurd cc

-- ---- numbers, each once

pub numbers_then : (seen ns ms : List ℕ) → with_numbers seen (ns ++ ms) ≡ with_numbers (with_numbers seen ns) ms
numbers_then seen ns ms = fold-append with_number seen ns ms

has_push : (seen : List ℕ) (x n : ℕ) → has (seen ++ x ∷ []) n ≡ (has seen n || (x == n))
has_push [] x n = one (x == n)
  where
    one : (b : Bool) → (b || false) ≡ b
    one true = refl
    one false = refl
has_push (m ∷ seen) x n = ap (λ b. (m == n) || b) (has_push seen x n) ∙ one (m == n) (has seen n) (x == n)
  where
    one : (a b c : Bool) → (a || (b || c)) ≡ ((a || b) || c)
    one true b c = refl
    one false b c = refl

-- what is seen stays seen
still_seen : (seen : List ℕ) (x n : ℕ) → has seen n ≡ true → has (with_number seen x) n ≡ true
still_seen seen x n there = by (has seen x) refl
  where
    by : (b : Bool) → has seen x ≡ b → has (cond b seen (seen ++ x ∷ [])) n ≡ true
    by true is = there
    by false is = has_push seen x n ∙ or_left (has seen n) (x == n) there

now_seen : (seen : List ℕ) (x : ℕ) → has (with_number seen x) x ≡ true
now_seen seen x = by (has seen x) refl
  where
    by : (b : Bool) → has seen x ≡ b → has (cond b seen (seen ++ x ∷ [])) x ≡ true
    by true is = is
    by false is = has_push seen x x ∙ or_right (has seen x) (x == x) (eq-eqb x x refl)

still_seen_all : (seen ns : List ℕ) (n : ℕ) → has seen n ≡ true → has (with_numbers seen ns) n ≡ true
still_seen_all seen [] n there = there
still_seen_all seen (x ∷ ns) n there = still_seen_all (with_number seen x) ns n (still_seen seen x n there)

abbrev AllSeen : List ℕ → List ℕ → Type 0
AllSeen seen ns = AllByRecursion (λ n. has seen n ≡ true) ns

all_kept : (seen ms ns : List ℕ) → AllSeen seen ns → AllSeen (with_numbers seen ms) ns
all_kept seen ms [] all = tt
all_kept seen ms (n ∷ ns) all = (still_seen_all seen ms n all.0, all_kept seen ms ns all.1)

all_now : (seen ns : List ℕ) → AllSeen (with_numbers seen ns) ns
all_now seen [] = tt
all_now seen (x ∷ ns) = (still_seen_all (with_number seen x) ns x (now_seen seen x), all_now (with_number seen x) ns)

-- what is seen already adds nothing
pub nothing_new : (seen ns : List ℕ) → AllSeen seen ns → seen ≡ with_numbers seen ns
nothing_new seen [] all = refl
nothing_new seen (x ∷ ns) all =
    let same : with_number seen x ≡ seen = ap (λ b. cond b seen (seen ++ x ∷ [])) all.0 in
    nothing_new seen ns all.1 ∙ ap (λ s. with_numbers s ns) (sym same)

-- ---- a set's keys

swapped : (keys : List ℕ) (n : ℕ) → list_any (λ m. n == m) keys ≡ has keys n
swapped [] n = refl
swapped (k ∷ keys) n = λ i. other n k i || swapped keys n i
  where
    other : (a b : ℕ) → (a == b) ≡ (b == a)
    other a b = by (a == b) refl (b == a) refl
      where
        by : (x : Bool) → (a == b) ≡ x → (y : Bool) → (b == a) ≡ y → x ≡ y
        by true e true f = refl
        by false e false f = refl
        by true e false f = no_truth (sym (eq-eqb b a (sym (eqb-true a b e))) ∙ f)
        by false e true f = no_truth (sym (eq-eqb a b (sym (eqb-true b a f))) ∙ e)

pub one_noted : (keys new : List ℕ) (n : ℕ) (ns : List ℕ) → new ≡ insert_key (λ a b. a == b) keys n → n ∷ [] ≡ ns → new ≡ with_numbers keys ns
one_noted keys new n ns is e = is ∙ ap (λ b. cond b keys (keys ++ n ∷ [])) (swapped keys n) ∙ ap (with_numbers keys) e

-- ---- what was visited

abbrev same_visit : Visited → Visited → Bool
same_visit a b = (a.number == b.number) && (a.depth == b.depth)

visit_is : (a b : Visited) → same_visit a b ≡ true → a ≡ b
visit_is a b e =
    let both = and_parts (a.number == b.number) (a.depth == b.depth) e in
    λ i. record { number = eqb-true a.number b.number both.0 i; depth = eqb-true a.depth b.depth both.1 i }

pub visited_there : (P : Visited → Type 0) (keys : List Visited) (v : Visited) → AllByRecursion P keys → list_any (same_visit v) keys ≡ true → P v
visited_there P [] v all there = no_truth (sym there)
visited_there P (k ∷ keys) v all there = by (same_visit v k) refl (λ later. visited_there P keys v all.1 later)
  where
    by : (b : Bool) → same_visit v k ≡ b → (list_any (same_visit v) keys ≡ true → P v) → P v
    by true is further = subst P (sym (visit_is v k is)) all.0
    by false is further = further (sym (ap (λ b. b || list_any (same_visit v) keys) is) ∙ there)

push : (P : Visited → Type 0) (keys : List Visited) (v : Visited) → AllByRecursion P keys → P v → AllByRecursion P (keys ++ v ∷ [])
push P [] v all here = (here, tt)
push P (k ∷ keys) v all here = (all.0, push P keys v all.1 here)

pub visited_more : (P : Visited → Type 0) (keys new : List Visited) (v : Visited) → new ≡ insert_key same_visit keys v → AllByRecursion P keys → P v → AllByRecursion P new
visited_more P keys new v is all here = subst (AllByRecursion P) (sym is) (by (list_any (same_visit v) keys))
  where
    by : (b : Bool) → AllByRecursion P (cond b keys (keys ++ v ∷ []))
    by true = all
    by false = push P keys v all here

module _ (w : What) (out : ℕ) (ts : List PlainTree) where
  visited_kept : (seen ms : List ℕ) (keys : List Visited) → AllByRecursion (IsVisited w out ts seen) keys → AllByRecursion (IsVisited w out ts (with_numbers seen ms)) keys
  visited_kept seen ms [] all = tt
  visited_kept seen ms (k ∷ keys) all = (all_kept seen ms (picked_in w out (tree_mentions k.depth (tree_at ts k.number))) all.0, visited_kept seen ms keys all.1)

  pub visited_since : (seen new ms : List ℕ) (keys : List Visited) → new ≡ with_numbers seen ms → AllByRecursion (IsVisited w out ts seen) keys → AllByRecursion (IsVisited w out ts new) keys
  visited_since seen new ms keys is all = subst (λ s. AllByRecursion (IsVisited w out ts s) keys) (sym is) (visited_kept seen ms keys all)

  pub visited_now : (seen new : List ℕ) (v : Visited) → new ≡ with_numbers seen (picked_in w out (tree_mentions v.depth (tree_at ts v.number))) → IsVisited w out ts new v
  visited_now seen new v is = subst (λ s. IsVisited w out ts s v) (sym is) (all_now seen (picked_in w out (tree_mentions v.depth (tree_at ts v.number))))

-- ---- parts in turn

picked_then : (w : What) (out : ℕ) (ms ns : List (ℕ × Mention)) → picked_in w out (ms ++ ns) ≡ picked_in w out ms ++ picked_in w out ns
picked_then w out ms ns = flat_map-append (picked w out) ms ns

-- what is noted of mentions, and then of others, is noted of both
pub noted_both : (w : What) (out : ℕ) (first mid last : List ℕ) (ms ns : List (ℕ × Mention)) → mid ≡ with_numbers first (picked_in w out ms) → last ≡ with_numbers mid (picked_in w out ns) → last ≡ with_numbers first (picked_in w out (ms ++ ns))
noted_both w out first mid last ms ns a b =
    b ∙ ap (λ s. with_numbers s (picked_in w out ns)) a ∙ sym (numbers_then first (picked_in w out ms) (picked_in w out ns)) ∙ ap (with_numbers first) (sym (picked_then w out ms ns))

tree_splits : (d : ℕ) (t : PlainTree) → tree_mentions d t ≡ head_mentions d (root t) ++ below_mentions (scopes_in (root t) d) t
tree_splits d (tree h parts) = refl

-- what is noted of a head, and then of the parts, is noted of the tree
pub tree_noted : (w : What) (out : ℕ) (first mid last : List ℕ) (d e : ℕ) (t : PlainTree) (h : Head) → h ≡ root t → e ≡ scopes_in h d → mid ≡ with_numbers first (picked_in w out (head_mentions d h)) → last ≡ with_numbers mid (picked_in w out (below_mentions e t))
    → last ≡ with_numbers first (picked_in w out (tree_mentions d t))
tree_noted w out first mid last d e t h is deep a b =
    noted_both w out first mid last (head_mentions d h) (below_mentions e t) a b
    ∙ ap (λ k. with_numbers first (picked_in w out (head_mentions d h ++ below_mentions k t))) deep
    ∙ ap (λ g. with_numbers first (picked_in w out (head_mentions d g ++ below_mentions (scopes_in g d) t))) is
    ∙ ap (λ ms. with_numbers first (picked_in w out ms)) (sym (tree_splits d t))

trees_then : (d : ℕ) (us : List PlainTree) (u : PlainTree) → trees_mentions d (trees_of (us ++ u ∷ [])) ≡ trees_mentions d (trees_of us) ++ tree_mentions d u
trees_then d [] u = append-nil (tree_mentions d u)
trees_then d (t ∷ us) u = ap (λ ms. tree_mentions d t ++ ms) (trees_then d us u) ∙ sym (append_assoc (tree_mentions d t) (trees_mentions d (trees_of us)) (tree_mentions d u))

pub one_part_more : (d : ℕ) (ts : List PlainTree) (parts : List ℕ) (i : ℕ) → i < length parts
    → trees_mentions d (trees_of (map (tree_at ts) (take (i + 1) parts))) ≡ trees_mentions d (trees_of (map (tree_at ts) (take i parts))) ++ tree_mentions d (tree_at ts (slice_index_or parts i 0))
one_part_more d ts parts i lt =
    ap (λ ps. trees_mentions d (trees_of (map (tree_at ts) ps))) (take_more parts i 0 lt)
    ∙ ap (λ us. trees_mentions d (trees_of us)) (map-append (tree_at ts) (take i parts) (slice_index_or parts i 0 ∷ []))
    ∙ trees_then d (map (tree_at ts) (take i parts)) (tree_at ts (slice_index_or parts i 0))

pub all_at : (ts : List PlainTree) (numbers : List ℕ) → trees_mentions 0 (trees_of (map (tree_at ts) numbers)) ≡ mentions_at ts numbers
all_at ts [] = refl
all_at ts (n ∷ numbers) = ap (λ ms. tree_mentions 0 (tree_at ts n) ++ ms) (all_at ts numbers)
