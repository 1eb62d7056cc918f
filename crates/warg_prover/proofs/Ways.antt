-- A key's way through the tree of a map, and what lies beside it.
use Rattle.std.proofs.Common.{◌≡◌, ◌⊎◌, ℕ, zero, suc, ◌+◌, ◌-◌, ◌<◌, ◌≤◌, ◌==◌, Bool, true, false, not, cond, List, [], ◌∷◌, get_or, below_more, Option, Some, None, refl, sym, ap, subst, ◌∙◌, inl, inr, arith}
use Rattle.std.specs.Prelude.{bytes_eq, IsSome}
use Rattle.std.specs.List.{All, AllByRecursion}
use Rattle.std.proofs.lemmas.Bool.{cases_Bool, cond-true, cond-false, eq-eqb, eqb-true, not-true}
use Rattle.std.proofs.lemmas.Option.{none-some}
use Rattle.std.proofs.lemmas.List.Elements.{All-filter, filter_passes}
use Rattle.std.proofs.lemmas.Map.Entries.{lookup-filter-keys}
use Rattle.std.proofs.lemmas.Slice.Eq.{bytes_eq-Decides}
use Rattle.warg_hash.specs.Hash.{IsDigest}
use Rattle.warg_proof.specs.MapTree.{Entries, value_at, empty_root, has_bit, left_of, right_of, subtree_root}
use Rattle.warg_proof.specs.TrueProofs.{siblings_beside}
use Rattle.warg_prover.specs.Subtrees.{Tree, Only, Parted, IsTreeOf, way_of, end_of, siblings_by}

-- ---- values on the sides of a split

value_on_left : (key : List ℕ) (depth : ℕ) (entries : Entries) → value_at (left_of depth entries) key ≡ cond (not (has_bit key depth)) (value_at entries key) None
value_on_left key depth entries =
    lookup-filter-keys (λ known. bytes_eq known key) (λ known. not (has_bit known depth)) (not (has_bit key depth))
    (λ known same. ap (λ (k : List ℕ). not (has_bit k depth)) ((bytes_eq-Decides known key).0 same)) entries

value_on_right : (key : List ℕ) (depth : ℕ) (entries : Entries) → value_at (right_of depth entries) key ≡ cond (has_bit key depth) (value_at entries key) None
value_on_right key depth entries =
    lookup-filter-keys (λ known. bytes_eq known key) (λ known. has_bit known depth) (has_bit key depth)
    (λ known same. ap (λ (k : List ℕ). has_bit k depth) ((bytes_eq-Decides known key).0 same)) entries

value_left : (key : List ℕ) (depth : ℕ) (entries : Entries) → has_bit key depth ≡ false → value_at (left_of depth entries) key ≡ value_at entries key
value_left key depth entries left = value_on_left key depth entries ∙ ap (λ (b : Bool). cond (not b) (value_at entries key) None) left

value_right : (key : List ℕ) (depth : ℕ) (entries : Entries) → has_bit key depth ≡ true → value_at (right_of depth entries) key ≡ value_at entries key
value_right key depth entries right = value_on_right key depth entries ∙ ap (λ (b : Bool). cond b (value_at entries key) None) right

-- a key that has a value leads to the side where keys lie
leads_left : (key value : List ℕ) (depth : ℕ) (entries : Entries) → right_of depth entries ≡ [] → value_at entries key ≡ Some value → has_bit key depth ≡ false
leads_left key value depth entries none there = elim (cases_Bool (has_bit key depth)) [
  | inl right ↦ absurd (none-some value (sym (ap (λ (es : Entries). value_at es key) none) ∙ value_right key depth entries right ∙ there))
  | inr left ↦ left
]

leads_right : (key value : List ℕ) (depth : ℕ) (entries : Entries) → left_of depth entries ≡ [] → value_at entries key ≡ Some value → has_bit key depth ≡ true
leads_right key value depth entries none there = elim (cases_Bool (has_bit key depth)) [
  | inl right ↦ right
  | inr left ↦ absurd (none-some value (sym (ap (λ (es : Entries). value_at es key) none) ∙ value_left key depth entries left ∙ there))
]

-- ---- ways

-- the depths of a way ascend, and lie within the subtree of a height
unfoldable pub IsWay : ℕ → List (ℕ × List ℕ) → Type 0
IsWay zero [] = Unit {0}
IsWay zero (s ∷ way) = ⊥
IsWay (suc height) [] = Unit {0}
IsWay (suc height) (s ∷ way) = ((s.0 ≡ 255 - height) × IsWay height way) ⊎ IsWay height (s ∷ way)

stays : (height : ℕ) (way : List (ℕ × List ℕ)) → IsWay height way → IsWay (suc height) way
unfolding IsWay
stays height [] is = tt
stays height (s ∷ way) is = inr is

from_on : (height : ℕ) (way : List (ℕ × List ℕ)) → AllByRecursion (λ s. 256 - height ≤ s.0) way → AllByRecursion (λ s. 256 - suc height ≤ s.0) way
from_on height [] all = tt
from_on height (s ∷ way) all = (omega (arith, all.0), from_on height way all.1)

pub way_from : (height : ℕ) (way : List (ℕ × List ℕ)) → height ≤ 256 → IsWay height way → AllByRecursion (λ s. 256 - height ≤ s.0) way
unfolding IsWay
way_from zero [] le is = tt
way_from zero (s ∷ way) le is = absurd is
way_from (suc height) [] le is = tt
way_from (suc height) (s ∷ way) le is = elim is [
  | inl at ↦ (omega (arith, at.0), from_on height way (way_from height way (omega arith) at.1))
  | inr on ↦ from_on height (s ∷ way) (way_from height (s ∷ way) (omega arith) on)
]

pub other_depth : (a b : ℕ) → b < a → (a == b) ≡ false
other_depth a b lt = elim (cases_Bool (a == b)) [
  | inl same ↦ absurd (omega (arith, eqb-true a b same))
  | inr other ↦ other
]

-- a split of which nothing is beside the way
skipped : (height : ℕ) (way : List (ℕ × List ℕ)) → height < 256 → IsWay height way → siblings_by (suc height) way ≡ empty_root height ∷ siblings_by height way
unfolding siblings_by
skipped height [] lt is = refl
skipped height (s ∷ way) lt is =
    let from = way_from height (s ∷ way) (omega arith) is in
    cond-false (s.0 == 255 - height) _ _ (other_depth s.0 (255 - height) (omega (arith, from.0)))

-- the way is one within the subtree, and gives the siblings of the key in it
pub record IsBeside (height : ℕ) (entries : Entries) (key : List ℕ) (way : List (ℕ × List ℕ)) : Type 0 where
  pub is_way : IsWay height way
  pub gives : siblings_by height way ≡ siblings_beside height key entries

pub empty_subtree : (height : ℕ) → subtree_root height [] ≡ empty_root height
unfolding subtree_root
empty_subtree zero = refl
empty_subtree (suc height) = refl

beside_right : (height : ℕ) (key : List ℕ) (entries : Entries) → has_bit key (255 - height) ≡ true
    → siblings_beside (suc height) key entries ≡ subtree_root height (left_of (255 - height) entries) ∷ siblings_beside height key (right_of (255 - height) entries)
unfolding siblings_beside
beside_right height key entries right = cond-true (has_bit key (255 - height)) _ _ right

beside_left : (height : ℕ) (key : List ℕ) (entries : Entries) → has_bit key (255 - height) ≡ false
    → siblings_beside (suc height) key entries ≡ subtree_root height (right_of (255 - height) entries) ∷ siblings_beside height key (left_of (255 - height) entries)
unfolding siblings_beside
beside_left height key entries left = cond-false (has_bit key (255 - height)) _ _ left

none_right : (height : ℕ) (entries : Entries) (key : List ℕ) (way : List (ℕ × List ℕ)) → height < 256 → right_of (255 - height) entries ≡ [] → has_bit key (255 - height) ≡ false
    → IsBeside height (left_of (255 - height) entries) key way → IsBeside (suc height) entries key way
none_right height entries key way lt none left below = record {
  is_way = stays height way below.is_way;
  gives =
      skipped height way lt below.is_way
      ∙ ap (λ (xs : List (List ℕ)). empty_root height ∷ xs) below.gives
      ∙ ap (λ (r : List ℕ). r ∷ siblings_beside height key (left_of (255 - height) entries)) (sym (ap (subtree_root height) none ∙ empty_subtree height))
      ∙ sym (beside_left height key entries left);
}

none_left : (height : ℕ) (entries : Entries) (key : List ℕ) (way : List (ℕ × List ℕ)) → height < 256 → left_of (255 - height) entries ≡ [] → has_bit key (255 - height) ≡ true
    → IsBeside height (right_of (255 - height) entries) key way → IsBeside (suc height) entries key way
none_left height entries key way lt none right below = record {
  is_way = stays height way below.is_way;
  gives =
      skipped height way lt below.is_way
      ∙ ap (λ (xs : List (List ℕ)). empty_root height ∷ xs) below.gives
      ∙ ap (λ (r : List ℕ). r ∷ siblings_beside height key (right_of (255 - height) entries)) (sym (ap (subtree_root height) none ∙ empty_subtree height))
      ∙ sym (beside_right height key entries right);
}

-- a split with a sibling beside the way
one_more : (height depth : ℕ) (root : List ℕ) (way : List (ℕ × List ℕ)) (siblings : List (List ℕ)) → depth ≡ 255 - height → siblings_by height way ≡ siblings
    → siblings_by (suc height) ((depth, root) ∷ way) ≡ root ∷ siblings
unfolding siblings_by
one_more height depth root way siblings at gives = cond-true (depth == 255 - height) _ _ (eq-eqb _ _ at) ∙ ap (λ (xs : List (List ℕ)). root ∷ xs) gives

split_way : (height depth : ℕ) (root : List ℕ) (way : List (ℕ × List ℕ)) → depth ≡ 255 - height → IsWay height way → IsWay (suc height) ((depth, root) ∷ way)
unfolding IsWay
split_way height depth root way at is = inl (at, is)

went_right : (height depth : ℕ) (root : List ℕ) (entries : Entries) (key : List ℕ) (way : List (ℕ × List ℕ)) → depth ≡ 255 - height → root ≡ subtree_root height (left_of (255 - height) entries)
    → has_bit key (255 - height) ≡ true → IsBeside height (right_of (255 - height) entries) key way → IsBeside (suc height) entries key ((depth, root) ∷ way)
went_right height depth root entries key way at is right below = record {
  is_way = split_way height depth root way at below.is_way;
  gives =
      one_more height depth root way _ at below.gives
      ∙ ap (λ (r : List ℕ). r ∷ siblings_beside height key (right_of (255 - height) entries)) is
      ∙ sym (beside_right height key entries right);
}

went_left : (height depth : ℕ) (root : List ℕ) (entries : Entries) (key : List ℕ) (way : List (ℕ × List ℕ)) → depth ≡ 255 - height → root ≡ subtree_root height (right_of (255 - height) entries)
    → has_bit key (255 - height) ≡ false → IsBeside height (left_of (255 - height) entries) key way → IsBeside (suc height) entries key ((depth, root) ∷ way)
went_left height depth root entries key way at is left below = record {
  is_way = split_way height depth root way at below.is_way;
  gives =
      one_more height depth root way _ at below.gives
      ∙ ap (λ (r : List ℕ). r ∷ siblings_beside height key (left_of (255 - height) entries)) is
      ∙ sym (beside_left height key entries left);
}

no_siblings : (entries : Entries) (key : List ℕ) → IsBeside 0 entries key []
unfolding IsWay siblings_by siblings_beside
no_siblings entries key = record { is_way = tt; gives = refl }

pub way_right : (depth : ℕ) (left_root : List ℕ) (left : Tree) (right_root : List ℕ) (right : Tree) (key : List ℕ) → has_bit key depth ≡ true
    → (way_of (Parted depth left_root left right_root right) key ≡ (depth, left_root) ∷ way_of right key) × (end_of (Parted depth left_root left right_root right) key ≡ end_of right key)
way_right depth left_root left right_root right key is = (cond-true (has_bit key depth) _ _ is, cond-true (has_bit key depth) _ _ is)

pub way_left : (depth : ℕ) (left_root : List ℕ) (left : Tree) (right_root : List ℕ) (right : Tree) (key : List ℕ) → has_bit key depth ≡ false
    → (way_of (Parted depth left_root left right_root right) key ≡ (depth, right_root) ∷ way_of left key) × (end_of (Parted depth left_root left right_root right) key ≡ end_of left key)
way_left depth left_root left right_root right key is = (cond-false (has_bit key depth) _ _ is, cond-false (has_bit key depth) _ _ is)

-- a key's way gives its siblings, where it has a value
pub way_is : (height : ℕ) (entries : Entries) (tree : Tree) (key value : List ℕ) → height ≤ 256 → IsTreeOf height entries tree → value_at entries key ≡ Some value → IsBeside height entries key (way_of tree key)
unfolding IsTreeOf
way_is zero [] tree key value le is there = absurd is
way_is zero (entry ∷ entries) (Only only) key value le is there = no_siblings (entry ∷ entries) key
way_is zero (entry ∷ entries) (Parted depth left_root left right_root right) key value le is there = absurd is
way_is (suc height) entries (Only only) key value le is there = elim is [
  | inl l ↦
      let bit = leads_left key value (255 - height) entries l.0 there in
      none_right height entries key [] (omega arith) l.0 bit (way_is height (left_of (255 - height) entries) (Only only) key value (omega arith) l.1 (value_left key (255 - height) entries bit ∙ there))
  | inr r ↦
      let bit = leads_right key value (255 - height) entries r.0 there in
      none_left height entries key [] (omega arith) r.0 bit (way_is height (right_of (255 - height) entries) (Only only) key value (omega arith) r.1 (value_right key (255 - height) entries bit ∙ there))
]
way_is (suc height) entries (Parted depth left_root left right_root right) key value le is there = elim is [
  | inl l ↦
      let bit = leads_left key value (255 - height) entries l.0 there in
      none_right height entries key _ (omega arith) l.0 bit (way_is height (left_of (255 - height) entries) (Parted depth left_root left right_root right) key value (omega arith) l.1 (value_left key (255 - height) entries bit ∙ there))
  | inr more ↦ elim more [
    | inl r ↦
        let bit = leads_right key value (255 - height) entries r.0 there in
        none_left height entries key _ (omega arith) r.0 bit (way_is height (right_of (255 - height) entries) (Parted depth left_root left right_root right) key value (omega arith) r.1 (value_right key (255 - height) entries bit ∙ there))
    | inr both ↦ elim (cases_Bool (has_bit key (255 - height))) [
      | inl bit ↦
          let on = way_right depth left_root left right_root right key (ap (has_bit key) both.0 ∙ bit) in
          let below = way_is height (right_of (255 - height) entries) right key value (omega arith) both.4 (value_right key (255 - height) entries bit ∙ there) in
          subst (IsBeside (suc height) entries key) (sym on.0) (went_right height depth left_root entries key (way_of right key) both.0 both.1 bit below)
      | inr bit ↦
          let on = way_left depth left_root left right_root right key (ap (has_bit key) both.0 ∙ bit) in
          let below = way_is height (left_of (255 - height) entries) left key value (omega arith) both.2 (value_left key (255 - height) entries bit ∙ there) in
          subst (IsBeside (suc height) entries key) (sym on.0) (went_left height depth right_root entries key (way_of left key) both.0 both.3 bit below)
    ]
  ]
]

-- ---- where ways end

-- a value on one side is a value of all
some_left : (key : List ℕ) (depth : ℕ) (entries : Entries) → IsSome (value_at (left_of depth entries) key) → IsSome (value_at entries key)
some_left key depth entries there = by (has_bit key depth) (value_at entries key) (subst (λ (o : Option (List ℕ)). IsSome o) (value_on_left key depth entries) there)
  where
    by : (b : Bool) (o : Option (List ℕ)) → IsSome (cond (not b) o None) → IsSome o
    by true o h = absurd cc
    by false o h = h

some_right : (key : List ℕ) (depth : ℕ) (entries : Entries) → IsSome (value_at (right_of depth entries) key) → IsSome (value_at entries key)
some_right key depth entries there = by (has_bit key depth) (value_at entries key) (subst (λ (o : Option (List ℕ)). IsSome o) (value_on_right key depth entries) there)
  where
    by : (b : Bool) (o : Option (List ℕ)) → IsSome (cond b o None) → IsSome o
    by true o h = h
    by false o h = absurd cc

first_value : (entry : List ℕ × List ℕ) (entries : Entries) (key : List ℕ) → entry.0 ≡ key → value_at (entry ∷ entries) key ≡ Some entry.1
first_value entry entries key same = cond-true (bytes_eq entry.0 key) _ _ ((bytes_eq-Decides entry.0 key).1 same)

-- a way that ends at its key found a value
pub end_has_value : (height : ℕ) (entries : Entries) (tree : Tree) (key : List ℕ) → IsTreeOf height entries tree → end_of tree key ≡ key → IsSome (value_at entries key)
unfolding IsTreeOf
end_has_value zero [] tree key is ends = absurd is
end_has_value zero (entry ∷ entries) (Only only) key is ends = subst (λ (o : Option (List ℕ)). IsSome o) (sym (first_value entry entries key (sym is ∙ ends))) refl
end_has_value zero (entry ∷ entries) (Parted depth left_root left right_root right) key is ends = absurd is
end_has_value (suc height) entries (Only only) key is ends = elim is [
  | inl l ↦ some_left key (255 - height) entries (end_has_value height (left_of (255 - height) entries) (Only only) key l.1 ends)
  | inr r ↦ some_right key (255 - height) entries (end_has_value height (right_of (255 - height) entries) (Only only) key r.1 ends)
]
end_has_value (suc height) entries (Parted depth left_root left right_root right) key is ends = elim is [
  | inl l ↦ some_left key (255 - height) entries (end_has_value height (left_of (255 - height) entries) (Parted depth left_root left right_root right) key l.1 ends)
  | inr more ↦ elim more [
    | inl r ↦ some_right key (255 - height) entries (end_has_value height (right_of (255 - height) entries) (Parted depth left_root left right_root right) key r.1 ends)
    | inr both ↦ elim (cases_Bool (has_bit key depth)) [
      | inl bit ↦ some_right key (255 - height) entries (end_has_value height (right_of (255 - height) entries) right key both.4 (sym (way_right depth left_root left right_root right key bit).1 ∙ ends))
      | inr bit ↦ some_left key (255 - height) entries (end_has_value height (left_of (255 - height) entries) left key both.2 (sym (way_left depth left_root left right_root right key bit).1 ∙ ends))
    ]
  ]
]

-- a key goes the way of another down to a depth
abbrev pub GoesWith : List ℕ → ℕ → List ℕ → Type 0
GoesWith key depth other = (d : ℕ) → d < depth → has_bit other d ≡ has_bit key d

abbrev pub AllGo : List ℕ → ℕ → Entries → Type 0
AllGo key depth entries = All (λ entry. IsDigest entry.0 × GoesWith key depth entry.0) entries

deeper : (key : List ℕ) (height : ℕ) (other : List ℕ) → height < 256 → GoesWith key (256 - suc height) other → has_bit other (255 - height) ≡ has_bit key (255 - height) → GoesWith key (256 - height) other
deeper key height other lt way here =
    let was : 256 - suc height ≡ 255 - height = omega arith in
    let more : 255 - height + 1 ≡ 256 - height = omega arith in
    subst (λ (n : ℕ). GoesWith key n other) more (below_more (λ (d : ℕ). has_bit other d ≡ has_bit key d) (255 - height) (subst (λ (n : ℕ). GoesWith key n other) was way) here)

go_left : (key : List ℕ) (height : ℕ) (entries : Entries) → height < 256 → has_bit key (255 - height) ≡ false → AllGo key (256 - suc height) entries → AllGo key (256 - height) (left_of (255 - height) entries)
go_left key height entries small left all k d lt =
    let test : List ℕ × List ℕ → Bool = λ entry. not (has_bit entry.0 (255 - height)) in
    let other = (get_or (left_of (255 - height) entries) k d).0 in
    let went : IsDigest other × GoesWith key (256 - suc height) other = All-filter test (λ entry. IsDigest entry.0 × GoesWith key (256 - suc height) entry.0) entries all k d lt in
    let here : has_bit other (255 - height) ≡ false = not-true (has_bit other (255 - height)) (filter_passes test entries k d lt) in
    (went.0, deeper key height other small went.1 (here ∙ sym left))

go_right : (key : List ℕ) (height : ℕ) (entries : Entries) → height < 256 → has_bit key (255 - height) ≡ true → AllGo key (256 - suc height) entries → AllGo key (256 - height) (right_of (255 - height) entries)
go_right key height entries small right all k d lt =
    let test : List ℕ × List ℕ → Bool = λ entry. has_bit entry.0 (255 - height) in
    let other = (get_or (right_of (255 - height) entries) k d).0 in
    let went : IsDigest other × GoesWith key (256 - suc height) other = All-filter test (λ entry. IsDigest entry.0 × GoesWith key (256 - suc height) entry.0) entries all k d lt in
    let here : has_bit other (255 - height) ≡ true = filter_passes test entries k d lt in
    (went.0, deeper key height other small went.1 (here ∙ sym right))

-- keys of which each bit is the same are the same
abbrev pub BitsTell : Type 0
BitsTell = (key other : List ℕ) → IsDigest key → IsDigest other → ((depth : ℕ) → depth < 256 → has_bit key depth ≡ has_bit other depth) → key ≡ other

module _ (tell : BitsTell) (key value : List ℕ) (is_key : IsDigest key) where
  -- a key that has a value is at the end of its way
  pub ends_at_key : (height : ℕ) (entries : Entries) (tree : Tree) → height ≤ 256 → IsTreeOf height entries tree → AllGo key (256 - height) entries → value_at entries key ≡ Some value → end_of tree key ≡ key
  unfolding IsTreeOf
  ends_at_key zero [] tree le is go there = absurd is
  ends_at_key zero (entry ∷ entries) (Only only) le is go there =
      let first = go 0 entry (omega arith) in
      is ∙ tell entry.0 key first.0 is_key first.1
  ends_at_key zero (entry ∷ entries) (Parted depth left_root left right_root right) le is go there = absurd is
  ends_at_key (suc height) entries (Only only) le is go there = elim is [
    | inl l ↦
        let bit = leads_left key value (255 - height) entries l.0 there in
        ends_at_key height (left_of (255 - height) entries) (Only only) (omega arith) l.1 (go_left key height entries (omega arith) bit go) (value_left key (255 - height) entries bit ∙ there)
    | inr r ↦
        let bit = leads_right key value (255 - height) entries r.0 there in
        ends_at_key height (right_of (255 - height) entries) (Only only) (omega arith) r.1 (go_right key height entries (omega arith) bit go) (value_right key (255 - height) entries bit ∙ there)
  ]
  ends_at_key (suc height) entries (Parted depth left_root left right_root right) le is go there = elim is [
    | inl l ↦
        let bit = leads_left key value (255 - height) entries l.0 there in
        ends_at_key height (left_of (255 - height) entries) (Parted depth left_root left right_root right) (omega arith) l.1 (go_left key height entries (omega arith) bit go) (value_left key (255 - height) entries bit ∙ there)
    | inr more ↦ elim more [
      | inl r ↦
          let bit = leads_right key value (255 - height) entries r.0 there in
          ends_at_key height (right_of (255 - height) entries) (Parted depth left_root left right_root right) (omega arith) r.1 (go_right key height entries (omega arith) bit go) (value_right key (255 - height) entries bit ∙ there)
      | inr both ↦ elim (cases_Bool (has_bit key (255 - height))) [
        | inl bit ↦
            (way_right depth left_root left right_root right key (ap (has_bit key) both.0 ∙ bit)).1
            ∙ ends_at_key height (right_of (255 - height) entries) right (omega arith) both.4 (go_right key height entries (omega arith) bit go) (value_right key (255 - height) entries bit ∙ there)
        | inr bit ↦
            (way_left depth left_root left right_root right key (ap (has_bit key) both.0 ∙ bit)).1
            ∙ ends_at_key height (left_of (255 - height) entries) left (omega arith) both.2 (go_left key height entries (omega arith) bit go) (value_left key (255 - height) entries bit ∙ there)
      ]
    ]
  ]
