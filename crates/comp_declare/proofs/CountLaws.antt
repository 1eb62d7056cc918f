-- Laws of the largest of some numbers.
use Rattle.std.specs.Prelude.{◌≡◌, ℕ, suc, ◌+◌, ◌≤◌, ◌<◌, Bool, true, false, cond, ◌||◌, ◌==◌, max, List, [], ◌∷◌, ◌++◌, length, take, slice_index_or, refl}
use Rattle.std.specs.List.{list_any, fold}
use Rattle.std.proofs.Common.{ap, sym, ◌∙◌, arith}
use Rattle.std.proofs.Math.Nat.{le-max_left, le-max_right, max-eq_left}
use Rattle.std.proofs.lemmas.Bool.{eqb-true}
use Rattle.std.proofs.lemmas.Grind.{fold-append}
use Rattle.std.proofs.lemmas.List.{append-nil, take_more}
use Rattle.comp_entity.specs.Entity.{EntityTree}
use Rattle.comp_entity.specs.Names.{beyond, in_entity}
use Rattle.comp_mention.specs.Mentions.{mentions_at, tree_mentions}
use Rattle.comp_scope.specs.Closing.{first_mentions}
use Rattle.comp_table.specs.Plain.{plain_entity}
use Rattle.comp_table.specs.Trees.{PlainTree, Stands, tree_at}

abbrev further : ℕ → List ℕ → ℕ
further m ns = fold (λ most n. max most (suc n)) m ns

no_truth : {A : Type 0} → true ≡ false → A
no_truth h = absurd cc

-- what is among them makes no difference
stays : (k m : ℕ) (ns : List ℕ) → k ≤ m → k ≤ further m ns
stays k m [] le = le
stays k m (n ∷ ns) le = let h = le-max_left m (suc n) in stays k (max m (suc n)) ns (omega (arith, le, h))

among : (m n : ℕ) (ns : List ℕ) → list_any (λ k. k == n) ns ≡ true → suc n ≤ further m ns
among m n [] is = no_truth (sym is)
among m n (k ∷ ns) is = by (k == n) refl (λ there. among (max m (suc k)) n ns (sym (ap (λ b. b || list_any (λ k. k == n) ns) there) ∙ is))
  where
    by : (b : Bool) → (k == n) ≡ b → ((k == n) ≡ false → suc n ≤ further (max m (suc k)) ns) → suc n ≤ further (max m (suc k)) ns
    by true here later =
        let e = eqb-true k n here in
        let h = le-max_right m (suc k) in
        stays (suc n) (max m (suc k)) ns (omega (arith, e, h))
    by false there later = later there

-- each number once, and its first mention last
once : List ℕ → ℕ → List ℕ
once seen n = cond (list_any (λ m. m == n) seen) seen (seen ++ n ∷ [])

one_more : (seen : List ℕ) (n : ℕ) → beyond (once seen n) ≡ max (beyond seen) (suc n)
unfolding once
one_more seen n = by (list_any (λ m. m == n) seen) refl
  where
    by : (b : Bool) → list_any (λ m. m == n) seen ≡ b → beyond (cond b seen (seen ++ n ∷ [])) ≡ max (beyond seen) (suc n)
    by true is = sym (max-eq_left (among 0 n seen is))
    by false is = fold-append (λ most n. max most (suc n)) 0 seen (n ∷ [])

all_once : (seen ns : List ℕ) → beyond (fold once seen ns) ≡ further (beyond seen) ns
all_once seen [] = refl
all_once seen (n ∷ ns) = all_once (once seen n) ns ∙ ap (λ m. further m ns) (one_more seen n)

-- the largest of some numbers is that of the same, each once
beyond_once : (ns : List ℕ) → beyond (first_mentions ns) ≡ beyond ns
unfolding once
beyond_once ns = all_once [] ns

-- one number more of a list
pub beyond_more : (ns : List ℕ) (i d n most : ℕ) → i < length ns → most ≡ max (beyond (take i ns)) n → n ≡ slice_index_or ns i d + 1 → most ≡ beyond (take (i + 1) ns)
beyond_more ns i d n most lt is next =
    is ∙ ap (λ k. max (beyond (take i ns)) k) (next ∙ omega arith)
    ∙ sym (fold-append (λ most n. max most (suc n)) 0 (take i ns) (slice_index_or ns i d ∷ []))
    ∙ ap beyond (sym (take_more ns i d lt))

-- the largest of what is mentioned, each once
pub counted_once : (keys ns : List ℕ) → keys ≡ first_mentions ns → beyond keys ≡ beyond ns
counted_once keys ns is = ap beyond is ∙ beyond_once ns

-- what one entity mentions
pub mentioned_by : (ts : List PlainTree) (n : ℕ) (e : EntityTree) → Stands ts n (plain_entity e)
    → ((d : ℕ) (e : EntityTree) → tree_mentions d (plain_entity e) ≡ in_entity d e)
    → mentions_at ts (n ∷ []) ≡ in_entity 0 e
mentioned_by ts n e s law = append-nil (tree_mentions 0 (tree_at ts n)) ∙ ap (tree_mentions 0) s.tree_is ∙ law 0 e
