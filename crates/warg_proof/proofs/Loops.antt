-- Reading values one after the other, as a loop does, and what other loops compute.
use Rattle.std.proofs.Common.{◌≡◌, ℕ, zero, suc, ◌-◌, ◌+◌, ◌≤◌, ◌<◌, Bool, true, false, List, [], ◌∷◌, ◌++◌, length, get_or, Ok, Err, refl, sym, ap, ◌∙◌, append_assoc, add-one, arith}
use Rattle.std.specs.List.{AllAdjacentBelow, IsAllAdjacentAnswer}
use Rattle.std.proofs.lemmas.List.{append-nil}
use Rattle.std.proofs.lemmas.Bool.{and_from, and_left, and_right, cond_both}
use Rattle.warg_values.specs.Reading.{◌>>=◌}
use Rattle.warg_proof.specs.declared.fault.ProofFault.{ProofFault}
use Rattle.warg_proof.specs.declared.fault.ProofFault.TheVariants.{Form, Memory, WrongCount, WrongLeaf, WrongLength, MissingHash, OtherRoot}
use Rattle.warg_proof.specs.declared.node.Node.{Node}
use Rattle.warg_proof.specs.LogProofs.{comes_before, is_ascending}
use Rattle.warg_proof.specs.MapTree.{has_bit}
use Rattle.warg_proof.specs.MapProofs.{given_before}
use Rattle.warg_proof.specs.Reading.{Read, Refuses, each_at}

module _ {X : Type 0} (one : List ℕ → Read (X × List ℕ)) where
  -- what was read before, and what is still read
  abbrev pub with_front : List X → Read (List X × List ℕ) → Read (List X × List ℕ)
  with_front front read = read >>= λ x. Ok (front ++ x.0, x.1)

  regroup : (front : List X) (value : X) (read : Read (List X × List ℕ)) → with_front front (read >>= λ x. Ok (value ∷ x.0, x.1)) ≡ with_front (front ++ value ∷ []) read
  regroup front value (Ok x) = ap (λ (xs : List X). Ok (xs, x.1)) (simp append_assoc)
  regroup front value (Err fault) = refl

  pub goes_on : (front : List X) (count i : ℕ) (bytes : List ℕ) (value : X) (after : List ℕ) (total : Read (List X × List ℕ)) → i < count → one bytes ≡ Ok (value, after)
      → with_front front (each_at one (count - i) bytes) ≡ total → with_front (front ++ value ∷ []) (each_at one (count - (i + 1)) after) ≡ total
  unfolding each_at
  goes_on front count i bytes value after total lt h so_far =
      let k : count - i ≡ suc (count - (i + 1)) = omega arith in
      let step : with_front front (each_at one (count - i) bytes) ≡ with_front (front ++ value ∷ []) (each_at one (count - (i + 1)) after) = rw (k, h) (regroup front value (each_at one (count - (i + 1)) after)) in
      sym step ∙ so_far

  at_fault : (front : List X) (count i : ℕ) (bytes : List ℕ) (total : Read (List X × List ℕ)) (fault : ProofFault) → i < count → one bytes ≡ Err fault
      → with_front front (each_at one (count - i) bytes) ≡ total → total ≡ Err fault
  unfolding each_at
  at_fault front count i bytes total fault lt h so_far =
      let k : count - i ≡ suc (count - (i + 1)) = omega arith in
      let step : with_front front (each_at one (count - i) bytes) ≡ Err fault = rw (k, h) refl in
      sym so_far ∙ step

  pub ends : (fault : ProofFault) (front : List X) (count i : ℕ) (bytes : List ℕ) (total : Read (List X × List ℕ)) → i < count → Refuses fault (one bytes)
      → with_front front (each_at one (count - i) bytes) ≡ total → Refuses fault total
  ends Memory front count i bytes total lt h so_far = tt
  ends Form front count i bytes total lt h so_far = at_fault front count i bytes total Form lt h so_far
  ends WrongCount front count i bytes total lt h so_far = h
  ends WrongLeaf front count i bytes total lt h so_far = h
  ends WrongLength front count i bytes total lt h so_far = h
  ends MissingHash front count i bytes total lt h so_far = h
  ends (OtherRoot root found) front count i bytes total lt h so_far = h

  pub is_done : (front : List X) (count i : ℕ) (bytes : List ℕ) (total : Read (List X × List ℕ)) → count ≤ i → with_front front (each_at one (count - i) bytes) ≡ total → total ≡ Ok (front, bytes)
  unfolding each_at
  is_done front count i bytes total le so_far =
      let k : count - i ≡ 0 = omega arith in
      let step : with_front front (each_at one (count - i) bytes) ≡ Ok (front, bytes) = rw k (ap (λ (xs : List X). Ok (xs, bytes)) (append-nil front)) in
      sym so_far ∙ step

-- ---- nodes in order

suc-next : (k : ℕ) → suc k + 1 ≡ suc (k + 1)
suc-next k = omega arith

ascending_if : (nodes : List Node) → AllAdjacentBelow (λ a b. true ≡ comes_before a b) nodes (length nodes) → is_ascending nodes ≡ true
unfolding is_ascending
ascending_if [] h = refl
ascending_if (node ∷ []) h = refl
ascending_if (node ∷ next ∷ nodes) h =
    and_from (comes_before node next) (is_ascending (next ∷ nodes)) (sym (h 0 node (omega arith))) (ascending_if (next ∷ nodes) (λ k d lt. h (suc k) d (omega arith) ∙ ap (λ (i : ℕ). comes_before (get_or (next ∷ nodes) k d) (get_or (node ∷ next ∷ nodes) i d)) (suc-next k)))

not_ascending : (nodes : List Node) (k : ℕ) → k + 1 < length nodes → ((d : Node) → false ≡ comes_before (get_or nodes k d) (get_or nodes (k + 1) d)) → is_ascending nodes ≡ false
unfolding is_ascending
not_ascending [] k lt h = absurd (omega arith)
not_ascending (node ∷ []) k lt h = absurd (omega arith)
not_ascending (node ∷ next ∷ nodes) zero lt h = and_left (comes_before node next) (is_ascending (next ∷ nodes)) (sym (h node))
not_ascending (node ∷ next ∷ nodes) (suc k) lt h = and_right (comes_before node next) (is_ascending (next ∷ nodes)) (not_ascending (next ∷ nodes) k (omega arith) (λ d. h d ∙ ap (λ (i : ℕ). comes_before (get_or (next ∷ nodes) k d) (get_or (node ∷ next ∷ nodes) i d)) (suc-next k)))

-- what a test of each node and the next answers
pub ascending_answer : (nodes : List Node) (r : Bool) → IsAllAdjacentAnswer (λ a b answer. answer ≡ comes_before a b) nodes r → r ≡ is_ascending nodes
ascending_answer nodes true h = sym (ascending_if nodes h)
ascending_answer nodes false h = sym (not_ascending nodes h.0 h.1 h.2)

-- ---- siblings

pub given_before-le : (depth : ℕ) (given : List ℕ) → given_before depth given ≤ depth
unfolding given_before
given_before-le zero given = omega arith
given_before-le (suc depth) given =
    let before = given_before-le depth given in
    cond_both (has_bit given depth) 1 0 (λ (n : ℕ). given_before depth given + n ≤ suc depth) (λ _. omega arith) (λ _. omega arith)

pub given_before-none : (given : List ℕ) → given_before 0 given ≡ 0
unfolding given_before
given_before-none given = refl

pub given_before-set : (depth : ℕ) (given : List ℕ) → has_bit given depth ≡ true → given_before (depth + 1) given ≡ given_before depth given + 1
unfolding given_before
given_before-set depth given set = rw (add-one, set) refl

pub given_before-unset : (depth : ℕ) (given : List ℕ) → has_bit given depth ≡ false → given_before (depth + 1) given ≡ given_before depth given
unfolding given_before
given_before-unset depth given unset = rw (add-one, unset) (omega arith)
