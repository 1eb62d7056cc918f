-- The path of the siblings beside a way.
use Rattle.std.proofs.Common.{◌≡◌, ◌⊎◌, ℕ, zero, suc, ◌-◌, ◌<◌, ◌≤◌, ◌==◌, ◌||◌, Bool, true, false, List, [], ◌∷◌, ◌++◌, length, map, get_or, refl, sym, ap, subst, ◌∙◌, inl, inr, append_assoc, arith}
use Rattle.std.specs.List.{AllByRecursion, list_any}
use Rattle.std.proofs.lemmas.Bool.{cases_Bool, cond-true, cond-false, eq-eqb, eqb-true}
use Rattle.std.proofs.lemmas.List.{append-nil, length-append}
use Rattle.std.proofs.lemmas.List.Folds.{list_any-append}
use Rattle.warg_proof.specs.MapTree.{empty_root, has_bit}
use Rattle.warg_proof.specs.MapProofs.{MapPath, path_of, given_before, sibling_at, siblings_within, siblings}
use Rattle.warg_prover.specs.Subtrees.{siblings_by}
use Rattle.warg_prover.proofs.Marks.{Way}
use Rattle.warg_prover.proofs.Ways.{IsWay, way_from, other_depth}

-- whether a sibling stands at a depth of a way
abbrev pub stands_at : ℕ → Way → Bool
stands_at depth way = list_any (λ s. s.0 == depth) way

none_before : (depth : ℕ) (way : Way) → AllByRecursion (λ s. s.0 < depth) way → stands_at depth way ≡ false
none_before depth [] all = refl
none_before depth (s ∷ way) all =
    let other : (s.0 == depth) ≡ false = elim (cases_Bool (s.0 == depth)) [
      | inl same ↦ absurd (omega (arith, eqb-true s.0 depth same, all.0))
      | inr other ↦ other
    ] in
    rw other (none_before depth way all.1)

none_behind : (depth : ℕ) (way : Way) → AllByRecursion (λ s. depth < s.0) way → stands_at depth way ≡ false
none_behind depth [] all = refl
none_behind depth (s ∷ way) all = rw (other_depth s.0 depth all.0) (none_behind depth way all.1)

all_below : (m n : ℕ) (way : Way) → m ≤ n → AllByRecursion (λ s. s.0 < m) way → AllByRecursion (λ s. s.0 < n) way
all_below m n [] le all = tt
all_below m n (s ∷ way) le all = (omega (arith, all.0), all_below m n way le all.1)

below_push : (n : ℕ) (way : Way) (s : ℕ × List ℕ) → AllByRecursion (λ s. s.0 < n) way → s.0 < n → AllByRecursion (λ s. s.0 < n) (way ++ s ∷ [])
below_push n [] s all lt = (lt, tt)
below_push n (t ∷ way) s all lt = (all.0, below_push n way s all.1 lt)

above : (m n : ℕ) (way : Way) → m < n → AllByRecursion (λ s. n ≤ s.0) way → AllByRecursion (λ s. m < s.0) way
above m n [] lt all = tt
above m n (s ∷ way) lt all = (omega (arith, all.0), above m n way lt all.1)

found_at : (front back : Way) (s : ℕ × List ℕ) → get_or (map (λ (s : ℕ × List ℕ). s.1) (front ++ s ∷ back)) (length front) [] ≡ s.1
found_at [] back s = refl
found_at (t ∷ front) back s = found_at front back s

given_one : (depth : ℕ) (given : List ℕ) → has_bit given depth ≡ true → given_before (suc depth) given ≡ suc (given_before depth given)
unfolding given_before
given_one depth given is = rw is (omega arith)

given_none : (depth : ℕ) (given : List ℕ) → has_bit given depth ≡ false → given_before (suc depth) given ≡ given_before depth given
unfolding given_before
given_none depth given is = rw is (omega arith)

no_depth : (given : List ℕ) → given_before 0 given ≡ 0
unfolding given_before
no_depth given = refl

module _ (given : List ℕ) (whole : Way) (marks : (depth : ℕ) → depth < 256 → has_bit given depth ≡ stands_at depth whole) where
  abbrev pub path : MapPath
  path = path_of given (map (λ (s : ℕ × List ℕ). s.1) whole)

  -- from a height down: the siblings are those of the way that is left, and all that are given stand on the way
  pub record IsDone (height : ℕ) (left : Way) : Type 0 where
    pub siblings_are : siblings_within height path ≡ siblings_by height left
    pub count : given_before 256 given ≡ length whole

  -- a depth without a sibling
  empty_at : (height : ℕ) (front back : Way) → height < 256 → whole ≡ front ++ back → AllByRecursion (λ s. s.0 < 255 - height) front → AllByRecursion (λ s. 256 - height ≤ s.0) back
      → has_bit given (255 - height) ≡ false
  empty_at height front back lt is before behind =
      marks (255 - height) (omega arith) ∙ ap (stands_at (255 - height)) is ∙ list_any-append (λ s. s.0 == 255 - height) front back
      ∙ rw (none_before (255 - height) front before, none_behind (255 - height) back (above (255 - height) (256 - height) back (omega arith) behind)) refl

  given_at : (height : ℕ) (front back : Way) (s : ℕ × List ℕ) → height < 256 → whole ≡ front ++ s ∷ back → s.0 ≡ 255 - height → has_bit given (255 - height) ≡ true
  given_at height front back s lt is at =
      let here : (s.0 == 255 - height) ≡ true = eq-eqb _ _ at in
      marks (255 - height) (omega arith) ∙ ap (stands_at (255 - height)) is ∙ list_any-append (λ s. s.0 == 255 - height) front (s ∷ back)
      ∙ rw here (or_true (stands_at (255 - height) front))
    where
      or_true : (b : Bool) → (b || true) ≡ true
      or_true true = refl
      or_true false = refl

  next_count : (height : ℕ) (n : ℕ) → height < 256 → given_before (suc (255 - height)) given ≡ n → given_before (256 - height) given ≡ n
  next_count height n lt is = let same : suc (255 - height) ≡ 256 - height = omega arith in subst (λ (d : ℕ). given_before d given ≡ n) same is

  empty_sibling : (height : ℕ) → height < 256 → has_bit given (255 - height) ≡ false → sibling_at path (255 - height) ≡ empty_root height
  empty_sibling height lt bit =
      let same : 255 - (255 - height) ≡ height = omega arith in
      cond-false (has_bit given (255 - height)) _ _ bit ∙ ap empty_root same

  given_sibling : (height : ℕ) (front back : Way) (s : ℕ × List ℕ) → has_bit given (255 - height) ≡ true → given_before (255 - height) given ≡ length front → whole ≡ front ++ s ∷ back
      → sibling_at path (255 - height) ≡ s.1
  given_sibling height front back s bit count is =
      cond-true (has_bit given (255 - height)) _ _ bit
      ∙ ap (λ (n : ℕ). get_or (map (λ (s : ℕ × List ℕ). s.1) whole) n []) count
      ∙ ap (λ (w : Way). get_or (map (λ (s : ℕ × List ℕ). s.1) w) (length front) []) is
      ∙ found_at front back s

  no_more : (height : ℕ) → IsWay height []
  unfolding IsWay
  no_more zero = tt
  no_more (suc height) = tt

  -- one height more, with nothing beside the way there
  empty_step : (height : ℕ) (front left : Way) → height < 256 → has_bit given (255 - height) ≡ false → IsDone height left → siblings_by (suc height) left ≡ empty_root height ∷ siblings_by height left → IsDone (suc height) left
  unfolding siblings_within
  empty_step height front left lt bit below by = record {
    siblings_are =
        ap (λ (r : List ℕ). r ∷ siblings_within height path) (empty_sibling height lt bit)
        ∙ ap (λ (rs : List (List ℕ)). empty_root height ∷ rs) below.siblings_are ∙ sym by;
    count = below.count;
  }

  given_step : (height : ℕ) (front left : Way) (s : ℕ × List ℕ) → sibling_at path (255 - height) ≡ s.1 → IsDone height left → siblings_by (suc height) (s ∷ left) ≡ s.1 ∷ siblings_by height left → IsDone (suc height) (s ∷ left)
  unfolding siblings_within
  given_step height front left s is below by = record {
    siblings_are =
        ap (λ (r : List ℕ). r ∷ siblings_within height path) is
        ∙ ap (λ (rs : List (List ℕ)). s.1 ∷ rs) below.siblings_are ∙ sym by;
    count = below.count;
  }

  by_none : (height : ℕ) → siblings_by (suc height) [] ≡ empty_root height ∷ siblings_by height []
  unfolding siblings_by
  by_none height = refl

  by_other : (height : ℕ) (s : ℕ × List ℕ) (left : Way) → (s.0 == 255 - height) ≡ false → siblings_by (suc height) (s ∷ left) ≡ empty_root height ∷ siblings_by height (s ∷ left)
  unfolding siblings_by
  by_other height s left other = cond-false (s.0 == 255 - height) _ _ other

  by_one : (height : ℕ) (s : ℕ × List ℕ) (left : Way) → s.0 ≡ 255 - height → siblings_by (suc height) (s ∷ left) ≡ s.1 ∷ siblings_by height left
  unfolding siblings_by
  by_one height s left at = cond-true (s.0 == 255 - height) _ _ (eq-eqb _ _ at)

  ended : (left : Way) → IsWay 0 left → (siblings_within 0 path ≡ siblings_by 0 left) × (left ≡ [])
  unfolding IsWay siblings_within siblings_by
  ended [] is = (refl, refl)
  ended (s ∷ left) is = absurd is

  goes_on : (height : ℕ) (s : ℕ × List ℕ) (left : Way) → IsWay (suc height) (s ∷ left) → ((s.0 ≡ 255 - height) × IsWay height left) ⊎ IsWay height (s ∷ left)
  unfolding IsWay
  goes_on height s left is = is

  pub done : (height : ℕ) (front left : Way) → height ≤ 256 → whole ≡ front ++ left → AllByRecursion (λ s. s.0 < 256 - height) front → IsWay height left → given_before (256 - height) given ≡ length front → IsDone height left
  done zero front left le is before way count =
      let e = ended left way in
      record {
        siblings_are = e.0;
        count = count ∙ ap length (sym (append-nil front) ∙ ap (λ (w : Way). front ++ w) (sym e.1) ∙ sym is);
      }
  done (suc height) front [] le is before way count =
      let depth : 256 - suc height ≡ 255 - height = omega arith in
      let before' = subst (λ (n : ℕ). AllByRecursion (λ s. s.0 < n) front) depth before in
      let count' = subst (λ (n : ℕ). given_before n given ≡ length front) depth count in
      let bit = empty_at height front [] (omega arith) is before' tt in
      let below = done height front [] (omega arith) is (all_below (255 - height) (256 - height) front (omega arith) before') (no_more height)
      (next_count height (length front) (omega arith) (given_none (255 - height) given bit ∙ count')) in
      empty_step height front [] (omega arith) bit below (by_none height)
  done (suc height) front (s ∷ left) le is before way count =
      let depth : 256 - suc height ≡ 255 - height = omega arith in
      let before' = subst (λ (n : ℕ). AllByRecursion (λ s. s.0 < n) front) depth before in
      let count' = subst (λ (n : ℕ). given_before n given ≡ length front) depth count in
      let higher = all_below (255 - height) (256 - height) front (omega arith) before' in
      elim (goes_on height s left way) [
        | inl at ↦
            let bit = given_at height front left s (omega arith) is at.0 in
            let longer : length (front ++ s ∷ []) ≡ suc (length front) = length-append front (s ∷ []) ∙ omega arith in
            let below = done height (front ++ s ∷ []) left (omega arith) (is ∙ sym (append_assoc front (s ∷ []) left)) (below_push (256 - height) front s higher (omega (arith, at.0))) at.1
            (next_count height (length (front ++ s ∷ [])) (omega arith) (given_one (255 - height) given bit ∙ ap suc count' ∙ sym longer)) in
            given_step height front left s (given_sibling height front left s bit count' is) below (by_one height s left at.0)
        | inr on ↦
            let from = way_from height (s ∷ left) (omega arith) on in
            let bit = empty_at height front (s ∷ left) (omega arith) is before' from in
            let below = done height front (s ∷ left) (omega arith) is higher on (next_count height (length front) (omega arith) (given_none (255 - height) given bit ∙ count')) in
            empty_step height front (s ∷ left) (omega arith) bit below (by_other height s left (other_depth s.0 (255 - height) (omega (arith, from.0))))
      ]

  -- the path has the siblings of the way, and a sibling for each bit
  pub path_is : IsWay 256 whole → (siblings path ≡ siblings_by 256 whole) × (given_before 256 given ≡ length whole)
  path_is way =
      let all = done 256 [] whole (omega arith) refl tt way (no_depth given) in
      (all.siblings_are, all.count)
