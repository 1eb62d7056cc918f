-- What is read is the text of a value, and the text of a value is read again: of each field, and then of whole
-- bundles.
use Rattle.std.proofs.Common.{◌≡◌, ℕ, zero, suc, ◌+◌, ◌^◌, ◌<◌, ◌≤◌, false, ltb, List, [], ◌∷◌, ◌++◌, length, take, drop, Ok, refl, sym, ap, subst, ◌∙◌, append_assoc, arith, inl, inr}
use Rattle.std.specs.List.{flat_map, AllByRecursion}
use Rattle.std.specs.Int.{Width, w32, w64, byte_len, from_be_bytes, to_be_bytes}
use Rattle.std.proofs.lemmas.Bool.{cases_lt, ltb-false, le-ltb}
use Rattle.std.proofs.lemmas.List.{take_at, drop_at, take-append-drop, length-append, length-take, get_or-drop, get_or-take, get_or_past}
use Rattle.std.proofs.lemmas.List.Concat.{flat_map-cons}
use Rattle.std.proofs.lemmas.Nat.{be_bytes_4, be_bytes_8, from_be_bytes-to_be_bytes_4, from_be_bytes-to_be_bytes_8}
use Rattle.hex.specs.Hex.{IsBytes}
use Rattle.warg_values.specs.Reading.{◌>>=◌}
use Rattle.warg_values.specs.ReadingLaws.{bind_ok, ok_is, guard_ok, never}
use Rattle.warg_hash.specs.Hash.{IsDigest}
use Rattle.warg_proof.specs.declared.fault.ProofFault.TheVariants.{Form}
use Rattle.warg_proof.specs.declared.node.Node.{Node}
use Rattle.warg_proof.specs.declared.node.Consistency.{Consistency}
use Rattle.warg_proof.specs.declared.node.Inclusion.{Inclusion}
use Rattle.warg_proof.specs.LogProofs.{node_text, consistency_text, inclusion_text, counted, IsNode, IsConsistency, IsInclusion, AreCounted}
use Rattle.warg_proof.specs.Reading.{Read, byte_at, number_at, hash_at, node_at, consistency_at, inclusion_at, each_at, counted_at}

-- ---- byte strings

IsBytes-drop : (n : ℕ) (bytes : List ℕ) → IsBytes bytes → IsBytes (drop n bytes)
IsBytes-drop n bytes h i = rw get_or-drop (h (n + i))

IsBytes-take : (n : ℕ) (bytes : List ℕ) → IsBytes bytes → IsBytes (take n bytes)
IsBytes-take n bytes h i =
    elim (cases_lt i n) [
      | inl lt ↦ rw (get_or-take n bytes i 0 lt) (h i)
      | inr le ↦ rw (get_or_past (take n bytes) i 0 (omega (arith, length-take n bytes))) (omega arith)
    ]

-- ---- readers

-- what a reader took from the front
pub record Takes (bytes text rest : List ℕ) : Type 0 where
  pub parts : bytes ≡ text ++ rest
  pub rest_fits : IsBytes rest

Takes-then : (a x b y c : List ℕ) → Takes a x b → Takes b y c → Takes a (x ++ y) c
Takes-then a x b y c p q = record { parts = p.parts ∙ ap (λ (t : List ℕ). x ++ t) q.parts ∙ sym (append_assoc x y c); rest_fits = q.rest_fits }

-- a reader reads the texts of the values that are of a form, and nothing else
pub record Reads {X : Type 0} (one : List ℕ → Read (X × List ℕ)) (text : X → List ℕ) (Is : X → Type 0) : Type 0 where
  pub takes : (bytes : List ℕ) (x : X × List ℕ) → IsBytes bytes → one bytes ≡ Ok x → Takes bytes (text x.0) x.1 × Is x.0
  pub again : (x : X) (rest : List ℕ) → Is x → one (text x ++ rest) ≡ Ok (x, rest)

-- ---- numbers, a byte and a hash

record IsWide (w : Width) (limit : ℕ) : Type 0 where
  len : (n : ℕ) → length (to_be_bytes w n) ≡ byte_len w
  back : (bytes : List ℕ) → length bytes ≡ byte_len w → IsBytes bytes → to_be_bytes w (from_be_bytes w bytes) ≡ bytes
  again : (n : ℕ) → n < limit → from_be_bytes w (to_be_bytes w n) ≡ n
  below : (bytes : List ℕ) → IsBytes bytes → from_be_bytes w bytes < limit

wide32 : IsWide w32 (2 ^ 32)
wide32 = record {
  len = λ n. refl;
  back = λ bytes len fits. be_bytes_4 bytes _ len fits refl;
  again = λ n lt. from_be_bytes-to_be_bytes_4 n lt;
  below = λ bytes fits. omega (arith, fits 0, fits 1, fits 2, fits 3);
}

wide64 : IsWide w64 (2 ^ 64)
wide64 = record {
  len = λ n. refl;
  back = λ bytes len fits. be_bytes_8 bytes _ len fits refl;
  again = λ n lt. from_be_bytes-to_be_bytes_8 n lt;
  below = λ bytes fits. omega (arith, fits 0, fits 1, fits 2, fits 3, fits 4, fits 5, fits 6, fits 7);
}

number_reads : (w : Width) (limit : ℕ) → IsWide w limit → Reads (number_at w) (to_be_bytes w) (λ n. n < limit)
number_reads w limit wide = record {
  takes = λ bytes x fits e.
      let made : ℕ × List ℕ = (from_be_bytes w (take (byte_len w) bytes), drop (byte_len w) bytes) in
      let g = guard_ok (ltb (length bytes) (byte_len w)) Form (Ok made) x e in
      let long : byte_len w ≤ length bytes = ltb-false _ _ g.0 in
      let front : to_be_bytes w made.0 ≡ take (byte_len w) bytes = wide.back (take (byte_len w) bytes) (omega (arith, length-take (byte_len w) bytes)) (IsBytes-take (byte_len w) bytes fits) in
      let P : ℕ × List ℕ → Type 0 = λ y. Takes bytes (to_be_bytes w y.0) y.1 × (y.0 < limit) in
      subst P (ok_is made x g.1) (record { parts = rw front (sym (take-append-drop (byte_len w) bytes)); rest_fits = IsBytes-drop (byte_len w) bytes fits }, wide.below (take (byte_len w) bytes) (IsBytes-take (byte_len w) bytes fits));
  again = λ n rest lt.
      let len = wide.len n in
      let long : ltb (length (to_be_bytes w n ++ rest)) (byte_len w) ≡ false = le-ltb _ _ (omega (arith, length-append (to_be_bytes w n) rest)) in
      rw (long, take_at (to_be_bytes w n) rest (byte_len w) len, drop_at (to_be_bytes w n) rest (byte_len w) len, wide.again n lt) refl;
}

number32 : Reads (number_at w32) (to_be_bytes w32) (λ n. n < 2 ^ 32)
number32 = number_reads w32 (2 ^ 32) wide32

number64 : Reads (number_at w64) (to_be_bytes w64) (λ n. n < 2 ^ 64)
number64 = number_reads w64 (2 ^ 64) wide64

byte_takes : (bytes : List ℕ) (x : ℕ × List ℕ) → IsBytes bytes → byte_at bytes ≡ Ok x → Takes bytes (x.0 ∷ []) x.1 × (x.0 < 2 ^ 8)
unfolding byte_at
byte_takes [] x fits e = never Form x e
byte_takes (byte ∷ rest) x fits e =
    let P : ℕ × List ℕ → Type 0 = λ y. Takes (byte ∷ rest) (y.0 ∷ []) y.1 × (y.0 < 2 ^ 8) in
    subst P (ok_is (byte, rest) x e) (record { parts = refl; rest_fits = λ i. fits (suc i) }, fits 0)

byte_again : (byte : ℕ) (rest : List ℕ) → byte < 2 ^ 8 → byte_at (byte ∷ [] ++ rest) ≡ Ok (byte, rest)
unfolding byte_at
byte_again byte rest lt = refl

pub hash_reads : Reads hash_at (λ hash. hash) IsDigest
hash_reads = record {
  takes = λ bytes x fits e.
      let made : List ℕ × List ℕ = (take 32 bytes, drop 32 bytes) in
      let g = guard_ok (ltb (length bytes) 32) Form (Ok made) x e in
      let long : 32 ≤ length bytes = ltb-false _ _ g.0 in
      let P : List ℕ × List ℕ → Type 0 = λ y. Takes bytes y.0 y.1 × IsDigest y.0 in
      subst P (ok_is made x g.1) (record { parts = sym (take-append-drop 32 bytes); rest_fits = IsBytes-drop 32 bytes fits }, (omega (arith, length-take 32 bytes), IsBytes-take 32 bytes fits));
  again = λ hash rest is.
      let len = is.0 in
      let long : ltb (length (hash ++ rest)) 32 ≡ false = le-ltb _ _ (omega (arith, length-append hash rest)) in
      rw (long, take_at hash rest 32 len, drop_at hash rest 32 len) refl;
}

-- ---- what a bundle lists

node_takes : (bytes : List ℕ) (x : Node × List ℕ) → IsBytes bytes → node_at bytes ≡ Ok x → Takes bytes (node_text x.0) x.1 × IsNode x.0
unfolding node_at
node_takes bytes x fits e =
    let a = bind_ok (byte_at bytes) (λ level. number_at w64 level.1 >>= λ place. hash_at place.1 >>= λ hash. Ok (record { level = level.0; place = place.0; hash = hash.0 }, hash.1)) x e in
    let b = bind_ok (number_at w64 a.0.1) (λ place. hash_at place.1 >>= λ hash. Ok (record { level = a.0.0; place = place.0; hash = hash.0 }, hash.1)) x a.2 in
    let d = bind_ok (hash_at b.0.1) (λ hash. Ok (record { level = a.0.0; place = b.0.0; hash = hash.0 }, hash.1)) x b.2 in
    let t0 = byte_takes bytes a.0 fits a.1 in
    let t1 = number64.takes a.0.1 b.0 t0.0.rest_fits b.1 in
    let t2 = hash_reads.takes b.0.1 d.0 t1.0.rest_fits d.1 in
    let tail = Takes-then a.0.1 (to_be_bytes w64 b.0.0) b.0.1 d.0.0 d.0.1 t1.0 t2.0 in
    let whole = Takes-then bytes (a.0.0 ∷ []) a.0.1 (to_be_bytes w64 b.0.0 ++ d.0.0) d.0.1 t0.0 tail in
    let made : Node × List ℕ = (record { level = a.0.0; place = b.0.0; hash = d.0.0 }, d.0.1) in
    let P : Node × List ℕ → Type 0 = λ y. Takes bytes (node_text y.0) y.1 × IsNode y.0 in
    subst P (ok_is made x d.2) (whole, record { level = t0.1; place = t1.1; hash = t2.1 })

node_again : (node : Node) (rest : List ℕ) → IsNode node → node_at (node_text node ++ rest) ≡ Ok (node, rest)
unfolding node_at
node_again node rest is =
    let regrouped : node_text node ++ rest ≡ node.level ∷ [] ++ (to_be_bytes w64 node.place ++ (node.hash ++ rest)) = ap (λ (t : List ℕ). node.level ∷ t) (append_assoc (to_be_bytes w64 node.place) node.hash rest) in
    ap node_at regrouped ∙ rw (byte_again node.level (to_be_bytes w64 node.place ++ (node.hash ++ rest)) is.level, number64.again node.place (node.hash ++ rest) is.place, hash_reads.again node.hash rest is.hash) refl

pub node_reads : Reads node_at node_text IsNode
node_reads = record { takes = node_takes; again = node_again }

consistency_takes : (bytes : List ℕ) (x : Consistency × List ℕ) → IsBytes bytes → consistency_at bytes ≡ Ok x → Takes bytes (consistency_text x.0) x.1 × IsConsistency x.0
unfolding consistency_at
consistency_takes bytes x fits e =
    let a = bind_ok (number_at w64 bytes) (λ old. number_at w64 old.1 >>= λ new. Ok (record { old_length = old.0; new_length = new.0 }, new.1)) x e in
    let b = bind_ok (number_at w64 a.0.1) (λ new. Ok (record { old_length = a.0.0; new_length = new.0 }, new.1)) x a.2 in
    let t0 = number64.takes bytes a.0 fits a.1 in
    let t1 = number64.takes a.0.1 b.0 t0.0.rest_fits b.1 in
    let whole = Takes-then bytes (to_be_bytes w64 a.0.0) a.0.1 (to_be_bytes w64 b.0.0) b.0.1 t0.0 t1.0 in
    let made : Consistency × List ℕ = (record { old_length = a.0.0; new_length = b.0.0 }, b.0.1) in
    let P : Consistency × List ℕ → Type 0 = λ y. Takes bytes (consistency_text y.0) y.1 × IsConsistency y.0 in
    subst P (ok_is made x b.2) (whole, record { old_length = t0.1; new_length = t1.1 })

consistency_again : (pair : Consistency) (rest : List ℕ) → IsConsistency pair → consistency_at (consistency_text pair ++ rest) ≡ Ok (pair, rest)
unfolding consistency_at
consistency_again pair rest is =
    ap consistency_at (append_assoc (to_be_bytes w64 pair.old_length) (to_be_bytes w64 pair.new_length) rest)
    ∙ rw (number64.again pair.old_length (to_be_bytes w64 pair.new_length ++ rest) is.old_length, number64.again pair.new_length rest is.new_length) refl

pub consistency_reads : Reads consistency_at consistency_text IsConsistency
consistency_reads = record { takes = consistency_takes; again = consistency_again }

inclusion_takes : (bytes : List ℕ) (x : Inclusion × List ℕ) → IsBytes bytes → inclusion_at bytes ≡ Ok x → Takes bytes (inclusion_text x.0) x.1 × IsInclusion x.0
unfolding inclusion_at
inclusion_takes bytes x fits e =
    let a = bind_ok (number_at w64 bytes) (λ log. number_at w64 log.1 >>= λ index. Ok (record { log_length = log.0; index = index.0 }, index.1)) x e in
    let b = bind_ok (number_at w64 a.0.1) (λ index. Ok (record { log_length = a.0.0; index = index.0 }, index.1)) x a.2 in
    let t0 = number64.takes bytes a.0 fits a.1 in
    let t1 = number64.takes a.0.1 b.0 t0.0.rest_fits b.1 in
    let whole = Takes-then bytes (to_be_bytes w64 a.0.0) a.0.1 (to_be_bytes w64 b.0.0) b.0.1 t0.0 t1.0 in
    let made : Inclusion × List ℕ = (record { log_length = a.0.0; index = b.0.0 }, b.0.1) in
    let P : Inclusion × List ℕ → Type 0 = λ y. Takes bytes (inclusion_text y.0) y.1 × IsInclusion y.0 in
    subst P (ok_is made x b.2) (whole, record { log_length = t0.1; index = t1.1 })

inclusion_again : (pair : Inclusion) (rest : List ℕ) → IsInclusion pair → inclusion_at (inclusion_text pair ++ rest) ≡ Ok (pair, rest)
unfolding inclusion_at
inclusion_again pair rest is =
    ap inclusion_at (append_assoc (to_be_bytes w64 pair.log_length) (to_be_bytes w64 pair.index) rest)
    ∙ rw (number64.again pair.log_length (to_be_bytes w64 pair.index ++ rest) is.log_length, number64.again pair.index rest is.index) refl

pub inclusion_reads : Reads inclusion_at inclusion_text IsInclusion
inclusion_reads = record { takes = inclusion_takes; again = inclusion_again }

-- ---- as many values as a count says

module _ {X : Type 0} (one : List ℕ → Read (X × List ℕ)) (text : X → List ℕ) (Is : X → Type 0) (reads : Reads one text Is) where
  pub each_takes : (n : ℕ) (bytes : List ℕ) (x : List X × List ℕ) → IsBytes bytes → each_at one n bytes ≡ Ok x → Takes bytes (flat_map text x.0) x.1 × (length x.0 ≡ n) × AllByRecursion Is x.0
  unfolding each_at
  each_takes zero bytes x fits e =
      let P : List X × List ℕ → Type 0 = λ y. Takes bytes (flat_map text y.0) y.1 × (length y.0 ≡ 0) × AllByRecursion Is y.0 in
      subst P (ok_is ([], bytes) x e) (record { parts = refl; rest_fits = fits }, refl, tt)
  each_takes (suc n) bytes x fits e =
      let a = bind_ok (one bytes) (λ first. each_at one n first.1 >>= λ others. Ok (first.0 ∷ others.0, others.1)) x e in
      let b = bind_ok (each_at one n a.0.1) (λ others. Ok (a.0.0 ∷ others.0, others.1)) x a.2 in
      let first = reads.takes bytes a.0 fits a.1 in
      let second = each_takes n a.0.1 b.0 first.0.rest_fits b.1 in
      let both = Takes-then bytes (text a.0.0) a.0.1 (flat_map text b.0.0) b.0.1 first.0 second.0 in
      let made : List X × List ℕ = (a.0.0 ∷ b.0.0, b.0.1) in
      let P : List X × List ℕ → Type 0 = λ y. Takes bytes (flat_map text y.0) y.1 × (length y.0 ≡ suc n) × AllByRecursion Is y.0 in
      subst P (ok_is made x b.2) (rw flat_map-cons both, ap suc second.1, (first.1, second.2))

  pub each_again : (xs : List X) (rest : List ℕ) → AllByRecursion Is xs → each_at one (length xs) (flat_map text xs ++ rest) ≡ Ok (xs, rest)
  unfolding each_at
  each_again [] rest is = refl
  each_again (x ∷ xs) rest is =
      let regrouped : flat_map text (x ∷ xs) ++ rest ≡ text x ++ (flat_map text xs ++ rest) = ap (λ (t : List ℕ). t ++ rest) (flat_map-cons text x xs) ∙ append_assoc (text x) (flat_map text xs) rest in
      ap (each_at one (suc (length xs))) regrouped ∙ rw (reads.again x (flat_map text xs ++ rest) is.0, each_again xs rest is.1) refl

  counted_takes : (bytes : List ℕ) (x : List X × List ℕ) → IsBytes bytes → counted_at one bytes ≡ Ok x → Takes bytes (counted text x.0) x.1 × AreCounted Is x.0
  unfolding counted_at
  counted_takes bytes x fits e =
      let a = bind_ok (number_at w32 bytes) (λ count. each_at one count.0 count.1) x e in
      let first = number32.takes bytes a.0 fits a.1 in
      let second = each_takes a.0.0 a.0.1 x first.0.rest_fits a.2 in
      let both = Takes-then bytes (to_be_bytes w32 a.0.0) a.0.1 (flat_map text x.0) x.1 first.0 second.0 in
      let few = first.1 in
      let many = second.1 in
      (subst (λ (n : ℕ). Takes bytes (to_be_bytes w32 n ++ flat_map text x.0) x.1) (sym many) both, record { few = omega arith; each = second.2 })

  counted_again : (xs : List X) (rest : List ℕ) → AreCounted Is xs → counted_at one (counted text xs ++ rest) ≡ Ok (xs, rest)
  unfolding counted_at
  counted_again xs rest is =
      ap (counted_at one) (append_assoc (to_be_bytes w32 (length xs)) (flat_map text xs) rest)
      ∙ rw (number32.again (length xs) (flat_map text xs ++ rest) is.few) (each_again xs rest is.each)

  pub counted_reads : Reads (counted_at one) (counted text) (AreCounted Is)
  counted_reads = record { takes = counted_takes; again = counted_again }
