-- That the bytes of a bundle of proofs are those of one bundle alone.
use Rattle.std.proofs.Common.{◌≡◌, ◌<◌, ◌^◌, ◌++◌, ◌∷◌, [], List, ℕ, refl, sym, ◌∙◌, ap, length, append_assoc, append-nil, arith}
use Rattle.std.specs.List.{flat_map, AllByRecursion}
use Rattle.std.specs.Int.{w32, w64, from_be_bytes, to_be_bytes}
use Rattle.std.proofs.lemmas.Nat.{from_be_bytes-to_be_bytes_4, from_be_bytes-to_be_bytes_8}
use Rattle.warg_hash.specs.Hash.{IsDigest}
use Rattle.warg_proof.specs.declared.node.Node.{Node}
use Rattle.warg_proof.specs.declared.node.Consistency.{Consistency}
use Rattle.warg_proof.specs.declared.node.Inclusion.{Inclusion}
use Rattle.warg_proof.specs.LogProofs.{LogProofs, node_text, consistency_text, inclusion_text, counted, log_text, IsNode, IsConsistency, IsInclusion, AreCounted, IsLogBundle}
use Rattle.warg_proof.specs.MapProofs.{MapPath, given_before, path_text, map_text, IsMapPath, IsMapBundle}

head-is : (x y : ℕ) (xs ys : List ℕ) → x ∷ xs ≡ y ∷ ys → x ≡ y
head-is x y xs ys e = cc e

tail-is : (x y : ℕ) (xs ys : List ℕ) → x ∷ xs ≡ y ∷ ys → xs ≡ ys
tail-is x y xs ys e = cc e

-- two texts are cut at one length
cut : (a b r q : List ℕ) → length a ≡ length b → a ++ r ≡ b ++ q → (a ≡ b) × (r ≡ q)
cut [] [] r q same e = (refl, e)
cut [] (y ∷ b) r q same e = absurd (omega (arith, same))
cut (x ∷ a) [] r q same e = absurd (omega (arith, same))
cut (x ∷ a) (y ∷ b) r q same e =
    let rest = cut a b r q (omega (arith, same)) (tail-is x y (a ++ r) (b ++ q) e) in
    (ap (λ (n : ℕ). n ∷ a) (head-is x y (a ++ r) (b ++ q) e) ∙ ap (λ (l : List ℕ). y ∷ l) rest.0, rest.1)

-- texts tell values apart, whatever stands behind them
abbrev Tells : {X : Type 0} → (X → List ℕ) → (X → Type 0) → Type 0
Tells {X = X} text Is = (x y : X) (r q : List ℕ) → Is x → Is y → text x ++ r ≡ text y ++ q → (x ≡ y) × (r ≡ q)

number-tells : (n m : ℕ) (r q : List ℕ) → n < 2 ^ 64 → m < 2 ^ 64 → to_be_bytes w64 n ++ r ≡ to_be_bytes w64 m ++ q → (n ≡ m) × (r ≡ q)
number-tells n m r q small also e =
    let parts = cut (to_be_bytes w64 n) (to_be_bytes w64 m) r q refl e in
    (sym (from_be_bytes-to_be_bytes_8 n small) ∙ ap (from_be_bytes w64) parts.0 ∙ from_be_bytes-to_be_bytes_8 m also, parts.1)

count-tells : (n m : ℕ) (r q : List ℕ) → n < 2 ^ 32 → m < 2 ^ 32 → to_be_bytes w32 n ++ r ≡ to_be_bytes w32 m ++ q → (n ≡ m) × (r ≡ q)
count-tells n m r q small also e =
    let parts = cut (to_be_bytes w32 n) (to_be_bytes w32 m) r q refl e in
    (sym (from_be_bytes-to_be_bytes_4 n small) ∙ ap (from_be_bytes w32) parts.0 ∙ from_be_bytes-to_be_bytes_4 m also, parts.1)

digest-tells : (a b r q : List ℕ) → IsDigest a → IsDigest b → a ++ r ≡ b ++ q → (a ≡ b) × (r ≡ q)
digest-tells a b r q is also e = cut a b r q (is.0 ∙ sym also.0) e

-- ---- lists of values

each-tells : {X : Type 0} (text : X → List ℕ) (Is : X → Type 0) → Tells text Is → (xs ys : List X) (r q : List ℕ) → length xs ≡ length ys → AllByRecursion Is xs → AllByRecursion Is ys
    → flat_map text xs ++ r ≡ flat_map text ys ++ q → (xs ≡ ys) × (r ≡ q)
each-tells text Is tells [] [] r q same are also e = (refl, e)
each-tells text Is tells [] (y ∷ ys) r q same are also e = absurd (omega (arith, same))
each-tells text Is tells (x ∷ xs) [] r q same are also e = absurd (omega (arith, same))
each-tells {X = X} text Is tells (x ∷ xs) (y ∷ ys) r q same are also e =
    let one = tells x y (flat_map text xs ++ r) (flat_map text ys ++ q) are.0 also.0 (sym (append_assoc (text x) (flat_map text xs) r) ∙ e ∙ append_assoc (text y) (flat_map text ys) q) in
    let rest = each-tells text Is tells xs ys r q (omega (arith, same)) are.1 also.1 one.1 in
    (ap (λ (z : X). z ∷ xs) one.0 ∙ ap (λ (l : List X). y ∷ l) rest.0, rest.1)

counted-tells : {X : Type 0} (text : X → List ℕ) (Is : X → Type 0) → Tells text Is → Tells (counted text) (AreCounted Is)
counted-tells text Is tells xs ys r q are also e =
    let count = count-tells (length xs) (length ys) (flat_map text xs ++ r) (flat_map text ys ++ q) are.few also.few
    (sym (append_assoc (to_be_bytes w32 (length xs)) (flat_map text xs) r) ∙ e ∙ append_assoc (to_be_bytes w32 (length ys)) (flat_map text ys) q) in
    each-tells text Is tells xs ys r q count.0 are.each also.each count.1

-- ---- bundles of a log

same-node : (x y : Node) → x.level ≡ y.level → x.place ≡ y.place → x.hash ≡ y.hash → x ≡ y
same-node x y level place hash =
    ap (λ (n : ℕ). record { level = n; place = x.place; hash = x.hash }) level ∙ ap (λ (n : ℕ). record { level = y.level; place = n; hash = x.hash }) place
    ∙ ap (λ (l : List ℕ). record { level = y.level; place = y.place; hash = l }) hash

node-tells : Tells node_text IsNode
node-tells x y r q is also e =
    let place = number-tells x.place y.place (x.hash ++ r) (y.hash ++ q) is.place also.place
    (sym (append_assoc (to_be_bytes w64 x.place) x.hash r) ∙ tail-is x.level y.level ((to_be_bytes w64 x.place ++ x.hash) ++ r) ((to_be_bytes w64 y.place ++ y.hash) ++ q) e ∙ append_assoc (to_be_bytes w64 y.place) y.hash q) in
    let hash = digest-tells x.hash y.hash r q is.hash also.hash place.1 in
    (same-node x y (head-is x.level y.level ((to_be_bytes w64 x.place ++ x.hash) ++ r) ((to_be_bytes w64 y.place ++ y.hash) ++ q) e) place.0 hash.0, hash.1)

same-consistency : (x y : Consistency) → x.old_length ≡ y.old_length → x.new_length ≡ y.new_length → x ≡ y
same-consistency x y old new = ap (λ (n : ℕ). record { old_length = n; new_length = x.new_length }) old ∙ ap (λ (n : ℕ). record { old_length = y.old_length; new_length = n }) new

consistency-tells : Tells consistency_text IsConsistency
consistency-tells x y r q is also e =
    let old = number-tells x.old_length y.old_length (to_be_bytes w64 x.new_length ++ r) (to_be_bytes w64 y.new_length ++ q) is.old_length also.old_length
    (sym (append_assoc (to_be_bytes w64 x.old_length) (to_be_bytes w64 x.new_length) r) ∙ e ∙ append_assoc (to_be_bytes w64 y.old_length) (to_be_bytes w64 y.new_length) q) in
    let new = number-tells x.new_length y.new_length r q is.new_length also.new_length old.1 in
    (same-consistency x y old.0 new.0, new.1)

same-inclusion : (x y : Inclusion) → x.log_length ≡ y.log_length → x.index ≡ y.index → x ≡ y
same-inclusion x y log_length index = ap (λ (n : ℕ). record { log_length = n; index = x.index }) log_length ∙ ap (λ (n : ℕ). record { log_length = y.log_length; index = n }) index

inclusion-tells : Tells inclusion_text IsInclusion
inclusion-tells x y r q is also e =
    let log_length = number-tells x.log_length y.log_length (to_be_bytes w64 x.index ++ r) (to_be_bytes w64 y.index ++ q) is.log_length also.log_length
    (sym (append_assoc (to_be_bytes w64 x.log_length) (to_be_bytes w64 x.index) r) ∙ e ∙ append_assoc (to_be_bytes w64 y.log_length) (to_be_bytes w64 y.index) q) in
    let index = number-tells x.index y.index r q is.index also.index log_length.1 in
    (same-inclusion x y log_length.0 index.0, index.1)

same-bundle : (x y : LogProofs) → x.nodes ≡ y.nodes → x.consistencies ≡ y.consistencies → x.inclusions ≡ y.inclusions → x ≡ y
same-bundle x y nodes consistencies inclusions =
    ap (λ (l : List Node). record { nodes = l; consistencies = x.consistencies; inclusions = x.inclusions }) nodes
    ∙ ap (λ (l : List Consistency). record { nodes = y.nodes; consistencies = l; inclusions = x.inclusions }) consistencies
    ∙ ap (λ (l : List Inclusion). record { nodes = y.nodes; consistencies = y.consistencies; inclusions = l }) inclusions

pub one-log-bundle : (x y : LogProofs) (bytes : List ℕ) → IsLogBundle x → bytes ≡ log_text x → IsLogBundle y → bytes ≡ log_text y → x ≡ y
one-log-bundle x y bytes is its also its_too =
    let texts : log_text x ≡ log_text y = sym its ∙ its_too in
    let inclusions_x = counted inclusion_text x.inclusions in
    let inclusions_y = counted inclusion_text y.inclusions in
    let rest_x = counted consistency_text x.consistencies ++ inclusions_x in
    let rest_y = counted consistency_text y.consistencies ++ inclusions_y in
    let nodes = counted-tells node_text IsNode node-tells x.nodes y.nodes rest_x rest_y is.nodes also.nodes (tail-is 0 0 (counted node_text x.nodes ++ rest_x) (counted node_text y.nodes ++ rest_y) texts) in
    let consistencies = counted-tells consistency_text IsConsistency consistency-tells x.consistencies y.consistencies inclusions_x inclusions_y is.consistencies also.consistencies nodes.1 in
    let inclusions = counted-tells inclusion_text IsInclusion inclusion-tells x.inclusions y.inclusions [] [] is.inclusions also.inclusions (append-nil inclusions_x ∙ consistencies.1 ∙ sym (append-nil inclusions_y)) in
    same-bundle x y nodes.0 consistencies.0 inclusions.0

-- ---- bundles of a map

same-path : (x y : MapPath) → x.given ≡ y.given → x.siblings ≡ y.siblings → x ≡ y
same-path x y given siblings = ap (λ (l : List ℕ). record { given = l; siblings = x.siblings }) given ∙ ap (λ (l : List (List ℕ)). record { given = y.given; siblings = l }) siblings

path-tells : Tells path_text IsMapPath
path-tells x y r q is also e =
    let hashes_x = flat_map (λ (hash : List ℕ). hash) x.siblings in
    let hashes_y = flat_map (λ (hash : List ℕ). hash) y.siblings in
    let given = digest-tells x.given y.given (hashes_x ++ r) (hashes_y ++ q) is.given also.given (sym (append_assoc x.given hashes_x r) ∙ e ∙ append_assoc y.given hashes_y q) in
    let count : length x.siblings ≡ length y.siblings = is.count ∙ ap (given_before 256) given.0 ∙ sym also.count in
    let siblings = each-tells (λ (hash : List ℕ). hash) IsDigest digest-tells x.siblings y.siblings r q count is.siblings also.siblings given.1 in
    (same-path x y given.0 siblings.0, siblings.1)

pub one-map-bundle : (x y : List MapPath) (bytes : List ℕ) → IsMapBundle x → bytes ≡ map_text x → IsMapBundle y → bytes ≡ map_text y → x ≡ y
one-map-bundle x y bytes is its also its_too =
    let paths_x = counted path_text x in
    let paths_y = counted path_text y in
    let texts : paths_x ≡ paths_y = tail-is 0 0 paths_x paths_y (sym its ∙ its_too) in
    (counted-tells path_text IsMapPath path-tells x y [] [] is also (append-nil paths_x ∙ texts ∙ sym (append-nil paths_y))).0
