-- The nodes at places: they are listed, ascend where the places do, and have the roots of their entries.
use Rattle.std.proofs.Common.{◌≡◌, ◌↔◌, ℕ, zero, suc, ◌*◌, ◌^◌, ◌<◌, ◌≤◌, true, eqb, ltb, ◌&&◌, ◌||◌, List, [], ◌∷◌, length, get_or, take, drop, map, Some, Ordering, refl, sym, ap, subst, ◌∙◌, inl, inr, arith}
use Rattle.std.specs.List.{All, AllByRecursion, Contains, flat_map}
use Rattle.std.specs.List.Sorted.{IsStrictlySortedBy}
use Rattle.std.specs.Ordering.{nat_cmp, ordering_then}
use Rattle.std.specs.declared.cmp.Ordering.TheVariants.{Less, Equal, Greater}
use Rattle.std.proofs.Math.Nat.{le-mul_of_pos_right}
use Rattle.std.proofs.lemmas.Nat.{pow_pos}
use Rattle.std.proofs.lemmas.Bool.{cases_Bool, cases_order, and_parts, and_from, or_left, or_right, cond-true, cond-false, eqb-true, lt-ltb, le-ltb, eq-eqb, ne_eqb}
use Rattle.std.proofs.lemmas.List.{take-map, drop-map, length-map, length-take, length-take-le, length-drop}
use Rattle.std.proofs.lemmas.List.Elements.{All-from_recursion, recursion_from_All, All-contains, Contains-get_or, Contains-append_left, Contains-append_right}
use Rattle.warg_hash.specs.Hash.{IsDigest}
use Rattle.warg_proof.specs.declared.node.Node.{Node}
use Rattle.warg_proof.specs.declared.node.Inclusion.{Inclusion}
use Rattle.warg_proof.specs.HashedTree.{hashed_root}
use Rattle.warg_proof.specs.Merkle.{leaf_hash}
use Rattle.warg_proof.specs.LogTree.{range, root, inclusion_ranges, consistency_ranges}
use Rattle.warg_proof.specs.LogProofs.{AreCounted, IsNode, IsConsistency, IsInclusion, bundle_of, comes_before, is_ascending, listed}
use Rattle.warg_proof.specs.TrueProofs.{range_root, IsTrueNode, ListsTruly}
use Rattle.warg_prover.specs.Asked.{inclusion_needs, consistency_needs, inclusion_in, AreNodesOf, ListsInclusions, ListsConsistency, IsInclusionBundle, IsConsistencyBundle}
use Rattle.warg_prover.specs.Places.{place_cmp, IsPlaceOf, node_at}

abbrev Places : Type 0
Places = List (ℕ × ℕ)

-- ---- what is listed

same_pair : (a b : ℕ × ℕ) → a.0 ≡ b.0 → a.1 ≡ b.1 → a ≡ b
same_pair a b p q = λ i. (p i, q i)

listed_from : (hashes : List (List ℕ)) (places : Places) (at : ℕ × ℕ) (k : ℕ) → k < length places → get_or places k at ≡ at
    → listed (map (node_at hashes) places) at.0 at.1 ≡ Some (node_at hashes at).hash
unfolding listed
listed_from hashes [] at k lt e = absurd (omega arith)
listed_from hashes (x ∷ places) at zero lt e =
    cond-true (eqb x.0 at.0 && eqb x.1 at.1) _ _ (and_from (eqb x.0 at.0) (eqb x.1 at.1) (eq-eqb _ _ (ap (λ (p : ℕ × ℕ). p.0) e)) (eq-eqb _ _ (ap (λ (p : ℕ × ℕ). p.1) e)))
    ∙ ap (λ (p : ℕ × ℕ). Some (node_at hashes p).hash) e
listed_from hashes (x ∷ places) at (suc k) lt e =
    elim (cases_Bool (eqb x.0 at.0 && eqb x.1 at.1)) [
      | inl same ↦
          let both = and_parts (eqb x.0 at.0) (eqb x.1 at.1) same in
          cond-true (eqb x.0 at.0 && eqb x.1 at.1) _ _ same ∙ ap (λ (p : ℕ × ℕ). Some (node_at hashes p).hash) (same_pair x at (eqb-true _ _ both.0) (eqb-true _ _ both.1))
      | inr other ↦ cond-false (eqb x.0 at.0 && eqb x.1 at.1) _ _ other ∙ listed_from hashes places at k (omega arith) e
    ]

pub listed_at : (hashes : List (List ℕ)) (places : Places) (at : ℕ × ℕ) → Contains places at → listed (map (node_at hashes) places) at.0 at.1 ≡ Some (node_at hashes at).hash
listed_at hashes places at has = listed_from hashes places at has.0 has.1 has.2

-- ---- order

less≢equal : Less ≡ Equal → ⊥
less≢equal e = cc

less≢greater : Greater ≡ Less → ⊥
less≢greater e = cc

equal≢less : Equal ≡ Less → ⊥
equal≢less e = cc

nat_less : (a b : ℕ) → nat_cmp a b ≡ Less → a < b
nat_less a b e =
    elim (cases_order a b) [
      | inl same ↦ absurd (equal≢less (sym (cond-false (ltb a b) _ _ (le-ltb _ _ (omega arith)) ∙ cond-true (eqb a b) _ _ (eq-eqb _ _ same)) ∙ e))
      | inr apart ↦ elim apart [
        | inl lt ↦ lt
        | inr gt ↦ absurd (less≢greater (sym (cond-false (ltb a b) _ _ (le-ltb _ _ (omega arith)) ∙ cond-false (eqb a b) _ _ (ne_eqb _ _ (λ s. omega arith))) ∙ e))
      ]
    ]

before_from : (a b c d : ℕ) → ordering_then (nat_cmp a b) (nat_cmp c d) ≡ Less → (ltb a b || (eqb a b && ltb c d)) ≡ true
before_from a b c d e =
    elim (cases_order a b) [
      | inl same ↦
          let tied = cond-false (ltb a b) _ _ (le-ltb a b (omega arith)) ∙ cond-true (eqb a b) Equal Greater (eq-eqb _ _ same) in
          or_right (ltb a b) (eqb a b && ltb c d) (and_from (eqb a b) (ltb c d) (eq-eqb _ _ same) (lt-ltb _ _ (nat_less c d (sym (ap (λ (o : Ordering). ordering_then o (nat_cmp c d)) tied) ∙ e))))
      | inr apart ↦ elim apart [
        | inl lt ↦ or_left (ltb a b) (eqb a b && ltb c d) (lt-ltb _ _ lt)
        | inr gt ↦
            let past = cond-false (ltb a b) _ _ (le-ltb a b (omega arith)) ∙ cond-false (eqb a b) Equal Greater (ne_eqb _ _ (λ s. omega arith)) in
            absurd (less≢greater (sym (ap (λ (o : Ordering). ordering_then o (nat_cmp c d)) past) ∙ e))
      ]
    ]

pub ascending : (hashes : List (List ℕ)) (places : Places) → IsStrictlySortedBy place_cmp places → is_ascending (map (node_at hashes) places) ≡ true
unfolding IsStrictlySortedBy is_ascending
ascending hashes [] h = refl
ascending hashes (x ∷ []) h = refl
ascending hashes (x ∷ y ∷ places) h =
    and_from (comes_before (node_at hashes x) (node_at hashes y)) (is_ascending (map (node_at hashes) (y ∷ places))) (before_from x.0 y.0 x.1 y.1 h.0.0) (ascending hashes (y ∷ places) h.1)

-- ---- the nodes

-- a node of a log whose length fits 64 bits
node_is : (hashes : List (List ℕ)) (at : ℕ × ℕ) → length hashes < 2 ^ 64 → IsPlaceOf (length hashes) at → IsDigest (node_at hashes at).hash → IsNode (node_at hashes at)
node_is hashes at fits is digest =
    let level = is.level in
    let within = is.within in
    let up : at.1 ≤ at.1 * 2 ^ at.0 = le-mul_of_pos_right at.1 (pow_pos at.0) in
    let one = pow_pos at.0 in
    record { level = omega arith; place = omega arith; hash = digest }

-- the law that the root of entries is that by the hashes of their leaves
abbrev pub RootByHashes : Type 0
RootByHashes = (entries : List (List ℕ)) → length entries ≤ 2 ^ 64 → hashed_root (map leaf_hash entries) ≡ root entries

-- the hash of a node is the root of its entries
pub node_hash : RootByHashes → (entries : List (List ℕ)) (at : ℕ × ℕ) → length entries < 2 ^ 64
    → (node_at (map leaf_hash entries) at).hash ≡ range_root entries (range at.0 at.1 (2 ^ at.0))
node_hash law entries at fits =
    let part = take (2 ^ at.0) (drop (at.1 * 2 ^ at.0) entries) in
    ap (λ (hs : List (List ℕ)). hashed_root (take (2 ^ at.0) hs)) (drop-map leaf_hash (at.1 * 2 ^ at.0) entries)
    ∙ ap hashed_root (take-map leaf_hash (2 ^ at.0) (drop (at.1 * 2 ^ at.0) entries))
    ∙ law part (omega (arith, length-take (2 ^ at.0) (drop (at.1 * 2 ^ at.0) entries), length-drop (at.1 * 2 ^ at.0) entries))

-- places that are all among those of a list are listed truly
pub truly_listed : RootByHashes → (entries : List (List ℕ)) (places wanted : Places) → length entries < 2 ^ 64 → ((at : ℕ × ℕ) → Contains wanted at → Contains places at)
    → AllByRecursion (IsTrueNode (map (node_at (map leaf_hash entries)) places) entries) wanted
truly_listed law entries places [] fits has = tt
truly_listed law entries places (at ∷ wanted) fits has = (
  listed_at (map leaf_hash entries) places at (has at (0, omega arith, refl)) ∙ ap (λ (h : List ℕ). Some h) (node_hash law entries at fits),
  truly_listed law entries places wanted fits (λ other h. has other (Contains-append_right (at ∷ []) wanted other h)),
)

-- ---- lists of nodes

-- roots are digests
abbrev pub RootsAreDigests : Type 0
RootsAreDigests = (entries : List (List ℕ)) → IsDigest (root entries)

nodes_formed : RootByHashes → RootsAreDigests → (entries : List (List ℕ)) (places : Places) → length entries < 2 ^ 64 → AllByRecursion (IsPlaceOf (length (map leaf_hash entries))) places
    → AllByRecursion IsNode (map (node_at (map leaf_hash entries)) places)
nodes_formed law digests entries [] fits h = tt
nodes_formed law digests entries (at ∷ places) fits h =
    let part = take (2 ^ at.0) (drop (at.1 * 2 ^ at.0) entries) in (
      node_is (map leaf_hash entries) at (omega (arith, length-map entries leaf_hash)) h.0 (subst IsDigest (sym (node_hash law entries at fits)) (digests part)),
      nodes_formed law digests entries places fits h.1,
    )

nodes_needed : (hashes : List (List ℕ)) (places wanted : Places) → ((at : ℕ × ℕ) → Contains places at → Contains wanted at)
    → AllByRecursion (λ node. Contains wanted (node.level, node.place)) (map (node_at hashes) places)
nodes_needed hashes [] wanted has = tt
nodes_needed hashes (at ∷ places) wanted has =
    (has at (0, omega arith, refl), nodes_needed hashes places wanted (λ other h. has other (Contains-append_right (at ∷ []) places other h)))

-- what sorting keeps
abbrev pub SamePlaces : Places → Places → Type 0
SamePlaces wanted places = (at : ℕ × ℕ) → Contains wanted at ↔ Contains places at

-- the nodes at places that were asked for
pub nodes_just : RootByHashes → RootsAreDigests → (entries hashes : List (List ℕ)) (wanted places : Places) → length entries < 2 ^ 64 → hashes ≡ map leaf_hash entries
    → IsStrictlySortedBy place_cmp places → SamePlaces wanted places → All (IsPlaceOf (length hashes)) places → AreNodesOf (map (node_at hashes) places) wanted
nodes_just law digests entries hashes wanted places fits are ordered same whole =
    let nodes = map (node_at hashes) places in
    record {
      each =
          subst (λ (hs : List (List ℕ)). All IsNode (map (node_at hs) places)) (sym are)
          (All-from_recursion IsNode (map (node_at (map leaf_hash entries)) places)
          (nodes_formed law digests entries places fits
          (recursion_from_All (IsPlaceOf (length (map leaf_hash entries))) places (subst (λ (hs : List (List ℕ)). All (IsPlaceOf (length hs)) places) are whole))));
      ascending = ascending hashes places ordered;
      needed = All-from_recursion (λ node. Contains wanted (node.level, node.place)) nodes (nodes_needed hashes places wanted (λ at. (same at).1));
    }

-- places that are kept have what all had
pub whole_kept : (P : ℕ × ℕ → Type 0) (wanted places : Places) → SamePlaces wanted places → All P wanted → All P places
whole_kept P wanted places same all k d lt = All-contains P wanted (get_or places k d) all ((same (get_or places k d)).1 (Contains-get_or places k d lt))

-- one of some lists that are put together
flat_map-has : {A : Type 0} (f : A → Places) (xs : List A) (k : ℕ) (d : A) (at : ℕ × ℕ) → k < length xs → Contains (f (get_or xs k d)) at → Contains (flat_map f xs) at
flat_map-has f [] k d at lt h = absurd (omega arith)
flat_map-has f (x ∷ xs) zero d at lt h = Contains-append_left (f x) (flat_map f xs) at h
flat_map-has f (x ∷ xs) (suc k) d at lt h = Contains-append_right (f x) (flat_map f xs) at (flat_map-has f xs k d at (omega arith) h)

pub inclusions_listed : RootByHashes → RootsAreDigests → (entries hashes : List (List ℕ)) (count : ℕ) (indices : List ℕ) (places : Places) → count ≡ length entries → count < 2 ^ 64 → hashes ≡ map leaf_hash entries
    → IsStrictlySortedBy place_cmp places → SamePlaces (flat_map (inclusion_needs count) indices) places → All (IsPlaceOf (length hashes)) places
    → ListsInclusions (map (node_at hashes) places) entries indices
inclusions_listed law digests entries hashes count indices places is fits are ordered same whole =
    let all = flat_map (inclusion_needs (length entries)) indices in
    let fits' : length entries < 2 ^ 64 = omega arith in
    let same' : SamePlaces all places = subst (λ (n : ℕ). SamePlaces (flat_map (inclusion_needs n) indices) places) is same in
    record {
      just = nodes_just law digests entries hashes all places fits' are ordered same' whole;
      truly = λ k d lt.
          subst (λ (hs : List (List ℕ)). ListsTruly (map (node_at hs) places) entries (inclusion_ranges (length entries) (get_or indices k d))) (sym are)
          (truly_listed law entries places (inclusion_needs (length entries) (get_or indices k d)) fits' (λ at h. (same' at).0 (flat_map-has (inclusion_needs (length entries)) indices k d at lt h)));
    }

pub consistency_listed : RootByHashes → RootsAreDigests → (entries hashes : List (List ℕ)) (old count : ℕ) (places : Places) → count ≡ length entries → count < 2 ^ 64 → hashes ≡ map leaf_hash entries
    → IsStrictlySortedBy place_cmp places → SamePlaces (consistency_needs old count) places → All (IsPlaceOf (length hashes)) places
    → ListsConsistency (map (node_at hashes) places) entries old
consistency_listed law digests entries hashes old count places is fits are ordered same whole =
    let all = consistency_needs old (length entries) in
    let fits' : length entries < 2 ^ 64 = omega arith in
    let same' : SamePlaces all places = subst (λ (n : ℕ). SamePlaces (consistency_needs old n) places) is same in
    record {
      just = nodes_just law digests entries hashes all places fits' are ordered same' whole;
      truly =
          subst (λ (hs : List (List ℕ)). ListsTruly (map (node_at hs) places) entries (consistency_ranges old (length entries))) (sym are)
          (truly_listed law entries places all fits' (λ at h. (same' at).0 h));
    }

-- ---- the first leaves

-- the first hashes are those of the first entries
pub front_are : (entries all front : List (List ℕ)) (count : ℕ) → front ≡ take count all → all ≡ map leaf_hash entries → front ≡ map leaf_hash (take count entries)
front_are entries all front count cut are = cut ∙ ap (take count) are ∙ take-map leaf_hash count entries

-- there are so many first entries
pub front_length : (entries all : List (List ℕ)) (count : ℕ) → count ≤ length all → all ≡ map leaf_hash entries → count ≡ length (take count entries)
front_length entries all count le are = omega (arith, length-take count entries, ap length are, length-map entries leaf_hash)

pub front_root : RootByHashes → (entries all front : List (List ℕ)) (count : ℕ) → count < 2 ^ 64 → front ≡ take count all → all ≡ map leaf_hash entries → hashed_root front ≡ root (take count entries)
front_root law entries all front count fits cut are = ap hashed_root (front_are entries all front count cut are) ∙ law (take count entries) (omega (arith, length-take count entries))

pub front_size : (all front : List (List ℕ)) (count : ℕ) → count ≤ length all → front ≡ take count all → count ≡ length front
front_size all front count le cut = sym (ap length cut ∙ length-take-le count all le)

-- ---- bundles

inclusions_formed : (count : ℕ) (indices : List ℕ) → count < 2 ^ 64 → AllByRecursion (λ index. index < count) indices → AllByRecursion IsInclusion (map (inclusion_in count) indices)
inclusions_formed count [] fits h = tt
inclusions_formed count (index ∷ indices) fits h = let lt = h.0 in (record { log_length = fits; index = omega arith }, inclusions_formed count indices fits h.1)

counted_nodes : (nodes : List Node) → length nodes < 2 ^ 32 → All IsNode nodes → AreCounted IsNode nodes
counted_nodes nodes few each = record { few = few; each = recursion_from_All IsNode nodes each }

none_counted : {A : Type 0} (P : A → Type 0) → AreCounted P []
none_counted P = record { few = omega arith; each = tt }

pub inclusions_bundled : (nodes : List Node) (inclusions : List Inclusion) (entries : List (List ℕ)) (indices : List ℕ) (count : ℕ) → count ≡ length entries → count < 2 ^ 64
    → length nodes < 2 ^ 32 → length indices < 2 ^ 32 → All (λ index. index < count) indices → inclusions ≡ map (inclusion_in count) indices → ListsInclusions nodes entries indices
    → IsInclusionBundle (bundle_of nodes [] inclusions) entries indices
inclusions_bundled nodes inclusions entries indices count is fits few few' below made listed =
    let proofs = bundle_of nodes [] inclusions in
    let asked = inclusions_formed count indices fits (recursion_from_All (λ index. index < count) indices below) in
    record {
      bundle =
          record {
            nodes = counted_nodes nodes few listed.just.each;
            ascending = listed.just.ascending;
            consistencies = none_counted IsConsistency;
            inclusions =
                subst (AreCounted IsInclusion) (sym made) (record { few = omega (arith, length-map indices (inclusion_in count)); each = asked });
          };
      consistencies = refl;
      inclusions = made ∙ ap (λ (n : ℕ). map (inclusion_in n) indices) is;
      nodes = listed;
    }

pub consistency_bundled : (nodes : List Node) (entries : List (List ℕ)) (old count : ℕ) → count ≡ length entries → old < 2 ^ 64 → count < 2 ^ 64 → length nodes < 2 ^ 32
    → ListsConsistency nodes entries old → IsConsistencyBundle (bundle_of nodes (record { old_length = old; new_length = count } ∷ []) []) entries old
consistency_bundled nodes entries old count is low fits few listed =
    record {
      bundle =
          record {
            nodes = counted_nodes nodes few listed.just.each;
            ascending = listed.just.ascending;
            consistencies = record { few = omega arith; each = (record { old_length = low; new_length = fits }, tt) };
            inclusions = none_counted IsInclusion;
          };
      consistencies = ap (λ (n : ℕ). record { old_length = old; new_length = n } ∷ []) is;
      inclusions = refl;
      nodes = listed;
    }
