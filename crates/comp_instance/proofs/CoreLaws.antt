-- Laws of indices of core items, and of counts of them.
use Rattle.std.specs.Prelude.{◌≡◌, ℕ, zero, suc, ◌+◌, ◌<◌, ◌≤◌, nat_lt, Bool, true, false, cond, List, [], ◌∷◌, drop, length, slice_index_or, Result, Ok, Err, refl, ◌⊎◌}
use Rattle.std.proofs.Common.{sym, ◌∙◌, ap, subst, arith, inl, inr}
use Rattle.std.proofs.lemmas.Bool.{cases_lt, lt-ltb, le-ltb}
use Rattle.warg_values.specs.Answers.{Gives}
use Rattle.warg_values.specs.Reading.{◌>>=◌}
use Rattle.warg_values.specs.ReadingLaws.{bind_ok}
use Rattle.comp_entity.specs.Bounds.{ShapeFault, Index}
use Rattle.comp_format.specs.declared.types.CoreSort.{CoreSort}
use Rattle.comp_format.specs.declared.types.CanonOption.{CanonOption}
use Rattle.comp_scope.specs.Canons.{with_option, with_options}
use Rattle.comp_scope.specs.Instances.{all_below, core_member, core_members}
use Rattle.comp_scope.specs.Spaces as scope
use Rattle.comp_scope.specs.Spaces.{Spaces, at_index, if_below}
use Rattle.comp_space.specs.declared.error.ScopeError.{ScopeError}
use Rattle.comp_space.specs.declared.space.CoreCounts.{CoreCounts}
use Rattle.comp_space.specs.declared.space.Space.{Space}
use Rattle.comp_space.specs.Faults.{Fails, fault_of}
use Rattle.comp_space.specs.SpaceViews.{ShowsSpaces, core_counts}
use Rattle.comp_space.specs.Standings.{Pairwise}
use Rattle.comp_space.specs.StandingLaws.{fails_bind, fails_same, same_fault}
use Rattle.comp_table.specs.Trees.{PlainTree, IsBelow}

dropped_at : {X : Type 0} (xs : List X) (i : ℕ) (d : X) → i < length xs → drop i xs ≡ slice_index_or xs i d ∷ drop (suc i) xs
dropped_at [] i d lt = absurd (omega (arith, lt))
dropped_at (x ∷ xs) zero d lt = refl
dropped_at (x ∷ xs) (suc i) d lt = dropped_at xs i d (omega (arith, lt))

pub dropped : {X : Type 0} (xs : List X) (i : ℕ) (d : X) → i < length xs → drop i xs ≡ slice_index_or xs i d ∷ drop (i + 1) xs
dropped xs i d lt = let later : suc i ≡ i + 1 = omega arith in dropped_at xs i d lt ∙ ap (λ j. slice_index_or xs i d ∷ drop j xs) later

pub nothing_left : {X : Type 0} (xs : List X) (i : ℕ) → i ≡ length xs → drop i xs ≡ []
nothing_left [] zero e = refl
nothing_left [] (suc i) e = absurd (omega (arith, e))
nothing_left (x ∷ xs) zero e = absurd (omega (arith, e))
nothing_left (x ∷ xs) (suc i) e = nothing_left xs i (omega (arith, e))

-- parts of a number that is there
pub below_wider : (n k : ℕ) (ns : List ℕ) → n < k → IsBelow n ns → IsBelow k ns
below_wider n k [] lt b = tt
below_wider n k (m ∷ ns) lt b = let h = b.0 in (omega (arith, h, lt), below_wider n k ns lt b.1)

-- an index that is there, whatever is asked where it is
module _ {X Y : Type 0} (count i : ℕ) (x : X) (y : Y) where
  pub below_fails : (error : ScopeError) → Fails error (if_below count i x) → Fails error (if_below count i y)
  below_fails error h = fails_same (if_below count i x) (if_below count i y) error (λ fault. by (nat_lt i count) fault) h
    where
      by : (b : Bool) (fault : ShapeFault) → cond b (Ok x) (Err Index) ≡ Err fault → cond b (Ok y) (Err Index) ≡ Err fault
      by true fault e = absurd cc
      by false fault e = ap Err (same_fault Index fault e)

  pub below_goes : if_below count i x ≡ Ok x → if_below count i y ≡ Ok y
  below_goes h = by (nat_lt i count) h
    where
      by : (b : Bool) → cond b (Ok x) (Err Index) ≡ Ok x → cond b (Ok y) (Err Index) ≡ Ok y
      by true e = refl
      by false e = absurd cc

pub below_is : {X : Type 0} (count i : ℕ) (x : X) → i < count → if_below count i x ≡ Ok x
below_is count i x lt = ap (λ b. cond b (Ok x) (Err Index)) (lt-ltb i count lt)

pub past_is : {X : Type 0} (count i : ℕ) (x : X) → count ≤ i → if_below count i x ≡ Err Index
past_is count i x le = ap (λ b. cond b (Ok x) (Err Index)) (le-ltb i count le)

-- an index of a list
pub at_below : {X Y : Type 0} (xs : List X) (i : ℕ) (y : Y) → (at_index xs i >>= λ x. Ok y) ≡ if_below (length xs) i y
at_below [] i y = sym (past_is 0 i y (omega arith))
at_below (x ∷ xs) zero y = sym (below_is (length (x ∷ xs)) 0 y (omega arith))
at_below (x ∷ xs) (suc i) y = at_below xs i y ∙ below_more (cases_lt i (length xs))
  where
    below_more : (i < length xs) ⊎ (length xs ≤ i) → if_below (length xs) i y ≡ if_below (length (x ∷ xs)) (suc i) y
    below_more (inl lt) = below_is (length xs) i y lt ∙ sym (below_is (length (x ∷ xs)) (suc i) y (omega (arith, lt)))
    below_more (inr le) = past_is (length xs) i y le ∙ sym (past_is (length (x ∷ xs)) (suc i) y (omega (arith, le)))

pub same_length : {X Y : Type 0} (R : X → Y → Type 0) (xs : List X) (ys : List Y) → Pairwise R xs ys → length xs ≡ length ys
same_length R [] [] a = refl
same_length R [] (y ∷ ys) a = absurd a
same_length R (x ∷ xs) [] a = absurd a
same_length R (x ∷ xs) (y ∷ ys) a = ap suc (same_length R xs ys a.1)

-- the same of a list that another one shows
module _ {X Y Z : Type 0} (R : X → Y → Type 0) (xs : List X) (ys : List Y) (i k : ℕ) (z : Z) (a : Pairwise R xs ys) (is : k ≡ length xs) where
  pub at_shown : (at_index ys i >>= λ y. Ok z) ≡ if_below k i z
  at_shown = at_below ys i z ∙ ap (λ n. if_below n i z) (sym (is ∙ same_length R xs ys a))

  pub at_fails_below : (error : ScopeError) → Fails error (if_below k i z) → Fails error (at_index ys i)
  at_fails_below error h = fails_same (at_index ys i >>= λ y. Ok z) (at_index ys i) error (λ fault. by (at_index ys i) fault) (subst (Fails error) (sym at_shown) h)
    where
      by : (r : Result Y ShapeFault) (fault : ShapeFault) → (r >>= λ y. Ok z) ≡ Err fault → r ≡ Err fault
      by (Ok y) fault e = absurd cc
      by (Err f) fault e = ap Err (same_fault f fault e)

  pub at_goes_below : if_below k i z ≡ Ok z → (y : Y) × (at_index ys i ≡ Ok y)
  at_goes_below h = let b = bind_ok (at_index ys i) (λ y. Ok z) z (at_shown ∙ h) in (b.0, b.1)

-- a scope with other counts
pub shows_core : (ts : List PlainTree) (space : Space) (s : Spaces) (c : CoreCounts) (d : scope.CoreCounts) → core_counts c ≡ d → ShowsSpaces ts space s → ShowsSpaces ts (record space { core = c }) (record s { core = d })
shows_core ts space s c d is shows = record {
  is_closed = shows.is_closed;
  core = is;
  core_types = shows.core_types;
  modules = shows.modules;
  funcs = shows.funcs;
  types = shows.types;
  components = shows.components;
  instances = shows.instances;
  brought = shows.brought;
  made = shows.made;
}

-- what goes on
pub gives_on : {X Y Z : Type 0} (f : Y → Z) (y : Y) (answer : Result X ScopeError) (given : Result Y ShapeFault) → Gives fault_of (λ x. y) answer given → Gives fault_of (λ x. f y) answer (given >>= λ y. Ok (f y))
gives_on f y (Ok x) given h = ap (λ r. r >>= λ y. Ok (f y)) h
gives_on f y (Err error) given h = fails_bind given (λ y. Ok (f y)) error h

pub gives_from : {X Y : Type 0} (y : Y) (answer : Result X ScopeError) (given other : Result Y ShapeFault) → given ≡ other → Gives fault_of (λ x. y) answer given → Gives fault_of (λ x. y) answer other
gives_from y answer given other e h = subst (Gives fault_of (λ x. y) answer) e h

-- rows that are looked at one by one, each of which leaves the scope as it is
module _ {X : Type 0} (rows : List X → Result Spaces ShapeFault) (row : X → Result Spaces ShapeFault) (next : List X → Spaces → Result Spaces ShapeFault) (s : Spaces) (split : (x : X) (xs : List X) → rows (x ∷ xs) ≡ (row x >>= next xs)) (same : (xs : List X) → next xs s ≡ rows xs) (xs : List X) (i : ℕ) (d : X) (lt : i < length xs) (so_far : rows xs ≡ rows (drop i xs)) where
  here : rows xs ≡ (row (slice_index_or xs i d) >>= next (drop (i + 1) xs))
  here = so_far ∙ ap rows (dropped xs i d lt) ∙ split (slice_index_or xs i d) (drop (i + 1) xs)

  row_fails : (error : ScopeError) → Fails error (row (slice_index_or xs i d)) → Fails error (rows xs)
  row_fails error h = subst (Fails error) (sym here) (fails_bind (row (slice_index_or xs i d)) (next (drop (i + 1) xs)) error h)

  row_goes : row (slice_index_or xs i d) ≡ Ok s → rows xs ≡ rows (drop (i + 1) xs)
  row_goes h = here ∙ ap (λ r. r >>= next (drop (i + 1) xs)) h ∙ same (drop (i + 1) xs)

-- an index that is there
abbrev is_below : ℕ → ℕ → Result (Unit {0}) ShapeFault
is_below count i = if_below count i tt

-- the arguments of a core instance
module _ (count : ℕ) (s : Spaces) (args : List (List ℕ × ℕ)) (i : ℕ) (a : List ℕ × ℕ) (lt : i < length args) (is : a ≡ slice_index_or args i a) (so_far : all_below count args s ≡ all_below count (drop i args) s) where
  pub argument_fails : (error : ScopeError) → Fails error (is_below count a.1) → Fails error (all_below count args s)
  unfolding all_below
  argument_fails error h =
      row_fails (λ xs. all_below count xs s) (λ x. if_below count x.1 s) (λ xs t. all_below count xs t) s (λ x xs. refl) (λ xs. refl) args i a lt so_far error
      (below_fails count (slice_index_or args i a).1 tt s error (subst (λ (x : List ℕ × ℕ). Fails error (is_below count x.1)) is h))

  pub argument_goes : is_below count a.1 ≡ Ok tt → all_below count args s ≡ all_below count (drop (i + 1) args) s
  unfolding all_below
  argument_goes h =
      row_goes (λ xs. all_below count xs s) (λ x. if_below count x.1 s) (λ xs t. all_below count xs t) s (λ x xs. refl) (λ xs. refl) args i a lt so_far
      (below_goes count (slice_index_or args i a).1 tt s (subst (λ (x : List ℕ × ℕ). is_below count x.1 ≡ Ok tt) is h))

-- what a core instance of items exports
module _ (count : ℕ) (s : Spaces) (items : List (List ℕ × CoreSort × ℕ)) (i : ℕ) (a : List ℕ × CoreSort × ℕ) (lt : i < length items) (is : a ≡ slice_index_or items i a) (counted : (index : ℕ) → core_member s a.1 index ≡ if_below count index s) (so_far : core_members s items ≡ core_members s (drop i items)) where
  pub member_fails : (error : ScopeError) → Fails error (is_below count a.2) → Fails error (core_members s items)
  unfolding core_members
  member_fails error h =
      row_fails (λ xs. core_members s xs) (λ x. core_member s x.1 x.2) (λ xs t. core_members t xs) s (λ x xs. refl) (λ xs. refl) items i a lt so_far error
      (subst (λ (x : List ℕ × CoreSort × ℕ). Fails error (core_member s x.1 x.2)) is (subst (Fails error) (sym (counted a.2)) (below_fails count a.2 tt s error h)))

  pub member_goes : is_below count a.2 ≡ Ok tt → core_members s items ≡ core_members s (drop (i + 1) items)
  unfolding core_members
  member_goes h =
      row_goes (λ xs. core_members s xs) (λ x. core_member s x.1 x.2) (λ xs t. core_members t xs) s (λ x xs. refl) (λ xs. refl) items i a lt so_far
      (subst (λ (x : List ℕ × CoreSort × ℕ). core_member s x.1 x.2 ≡ Ok s) is (counted a.2 ∙ below_goes count a.2 tt s h))

-- the options of a canonical definition
module _ (s : Spaces) (options : List CanonOption) (i : ℕ) (d : CanonOption) (lt : i < length options) (so_far : with_options s options ≡ with_options s (drop i options)) where
  pub option_fails : (error : ScopeError) → Fails error (with_option s (slice_index_or options i d)) → Fails error (with_options s options)
  unfolding with_options
  option_fails error h = row_fails (λ xs. with_options s xs) (λ x. with_option s x) (λ xs t. with_options t xs) s (λ x xs. refl) (λ xs. refl) options i d lt so_far error h

  pub option_goes : with_option s (slice_index_or options i d) ≡ Ok s → with_options s options ≡ with_options s (drop (i + 1) options)
  unfolding with_options
  option_goes h = row_goes (λ xs. with_options s xs) (λ x. with_option s x) (λ xs t. with_options t xs) s (λ x xs. refl) (λ xs. refl) options i d lt so_far h

pub no_rows : {X : Type 0} (rows : List X → Result Spaces ShapeFault) (s : Spaces) (xs : List X) (i : ℕ) → i ≡ length xs → rows [] ≡ Ok s → rows xs ≡ rows (drop i xs) → rows xs ≡ Ok s
no_rows rows s xs i end none so_far = so_far ∙ ap rows (nothing_left xs i end) ∙ none

-- of an index that is looked up in a count
pub gives_below : (count i : ℕ) (s : Spaces) (answer : Result (Unit {0}) ScopeError) → Gives fault_of (λ u. u) answer (if_below count i tt) → Gives fault_of (λ u. s) answer (if_below count i s)
gives_below count i s (Ok u) h = below_goes count i tt s h
gives_below count i s (Err error) h = below_fails count i tt s error h
