-- What is left where some things are taken, in order.
use Rattle.std.proofs.Common.{◌≡◌, ℕ, zero, suc, ◌+◌, ◌-◌, ◌<◌, ◌≤◌, Bool, true, false, cond, List, [], ◌∷◌, ◌++◌, length, length-append, refl, sym, ap, subst, ◌∙◌, arith}
use Rattle.std.specs.Prelude.{◌==◌, ◌||◌, not, filter}
use Rattle.std.specs.List.{AllByRecursion, range_with_len}
use Rattle.std.proofs.lemmas.Bool.{ne_eqb, eq-eqb}
use Rattle.std.proofs.lemmas.List.{append_assoc}
use Rattle.std.proofs.lemmas.List.Elements.{filter-append}
use Rattle.compose_agree.specs.Order.{Takes, has}
use Rattle.compose_agree.specs.Turns.{left_of, IsFirstLeft}

-- numbers in order, cut at one of them
range_cut : (a k c : ℕ) → range_with_len a (k + suc c) ≡ range_with_len a k ++ (a + k) ∷ range_with_len (a + k + 1) c
range_cut a zero c =
    let same : a ≡ a + zero = omega arith in
    let long : zero + suc c ≡ suc c = omega arith in
    ap (range_with_len a) long ∙ ap (λ b. b ∷ range_with_len (b + 1) c) same
range_cut a (suc k) c =
    let same : a + 1 + k ≡ a + suc k = omega arith in
    let long : suc k + suc c ≡ suc (k + suc c) = omega arith in
    ap (range_with_len a) long ∙ ap (λ xs. a ∷ xs) (range_cut (a + 1) k c ∙ ap (λ b. range_with_len (a + 1) k ++ b ∷ range_with_len (b + 1) c) same)

all_range : (R : ℕ → Type 0) (a c : ℕ) → ((n : ℕ) → a ≤ n → n < a + c → R n) → AllByRecursion R (range_with_len a c)
all_range R a zero h = tt
all_range R a (suc c) h = (h a (omega arith) (omega arith), all_range R (a + 1) c (λ n l u. h n (omega (arith, l)) (omega (arith, u))))

filter_alike : (p q : ℕ → Bool) (xs : List ℕ) → AllByRecursion (λ n. p n ≡ q n) xs → filter p xs ≡ filter q xs
filter_alike p q [] a = refl
filter_alike p q (x ∷ xs) a = λ i. cond (a.0 i) (x ∷ filter_alike p q xs a.1 i) (filter_alike p q xs a.1 i)

pub filter_all : (p : ℕ → Bool) (R : ℕ → Type 0) (xs : List ℕ) → AllByRecursion (λ n. p n ≡ true → R n) xs → AllByRecursion R (filter p xs)
filter_all p R [] a = tt
filter_all p R (x ∷ xs) a = one (p x) refl (filter_all p R xs a.1)
  where
    one : (b : Bool) → p x ≡ b → AllByRecursion R (filter p xs) → AllByRecursion R (cond b (x ∷ filter p xs) (filter p xs))
    one true e h = (a.0 e, h)
    one false e h = h

-- the test of what is left
abbrev pub is_left : List ℕ → ℕ → Bool
is_left done n = not (has done n)

pub left_is : (done : List ℕ) (n : ℕ) → is_left done n ≡ true → has done n ≡ false
left_is done n e = one (has done n) e
  where
    one : (b : Bool) → not b ≡ true → b ≡ false
    one true e = absurd cc
    one false e = refl

pub has_push : (done : List ℕ) (x n : ℕ) → has (done ++ x ∷ []) n ≡ cond (x == n) true (has done n)
has_push [] x n = one (x == n)
  where
    one : (b : Bool) → (b || false) ≡ cond b true false
    one true = refl
    one false = refl
has_push (m ∷ done) x n = ap (λ b. (m == n) || b) (has_push done x n) ∙ one (m == n) (x == n)
  where
    one : (a b : Bool) → (a || cond b true (has done n)) ≡ cond b true (a || has done n)
    one true true = refl
    one true false = refl
    one false true = refl
    one false false = refl

others_left : (done : List ℕ) (x n : ℕ) → (x == n) ≡ false → is_left (done ++ x ∷ []) n ≡ is_left done n
others_left done x n e = ap not (has_push done x n ∙ ap (λ b. cond b true (has done n)) e)

-- what is left, cut at something, and what is left when that is taken too
pub record IsCut (done : List ℕ) (end n : ℕ) : Type 0 where
  pub front : List ℕ
  pub back : List ℕ
  pub whole : left_of done end ≡ front ++ n ∷ back
  pub later : left_of (done ++ n ∷ []) end ≡ front ++ back
  pub below : AllByRecursion (λ m. (m < n) × (has done m ≡ false)) front

cut_filter : (p : ℕ → Bool) (n c : ℕ) (b : Bool) → p n ≡ b → filter p (range_with_len 0 (n + suc c)) ≡ filter p (range_with_len 0 n) ++ cond b (n ∷ filter p (range_with_len (n + 1) c)) (filter p (range_with_len (n + 1) c))
cut_filter p n c b e =
    let same : 0 + n ≡ n = omega arith in
    ap (filter p) (range_cut 0 n c ∙ ap (λ m. range_with_len 0 n ++ m ∷ range_with_len (m + 1) c) same)
    ∙ filter-append p (range_with_len 0 n) (n ∷ range_with_len (n + 1) c)
    ∙ ap (λ d. filter p (range_with_len 0 n) ++ cond d (n ∷ filter p (range_with_len (n + 1) c)) (filter p (range_with_len (n + 1) c))) e

cut_at : (done : List ℕ) (n c : ℕ) → has done n ≡ false → IsCut done (n + suc c) n
cut_at done n c none = record {
  front = filter (is_left done) (range_with_len 0 n);
  back = filter (is_left done) (range_with_len (n + 1) c);
  whole = cut_filter (is_left done) n c true (ap not none);
  later =
      cut_filter (is_left (done ++ n ∷ [])) n c false (ap not (has_push done n n ∙ ap (λ b. cond b true (has done n)) (eq-eqb n n refl)))
      ∙ (λ i. filter_alike (is_left (done ++ n ∷ [])) (is_left done) (range_with_len 0 n)
      (all_range (λ m. is_left (done ++ n ∷ []) m ≡ is_left done m) 0 n (λ m l u. others_left done n m (ne_eqb n m (λ e. absurd (omega (arith, u, e)))))) i
      ++ filter_alike (is_left (done ++ n ∷ [])) (is_left done) (range_with_len (n + 1) c)
      (all_range (λ m. is_left (done ++ n ∷ []) m ≡ is_left done m) (n + 1) c (λ m l u. others_left done n m (ne_eqb n m (λ e. absurd (omega (arith, l, e)))))) i);
  below = filter_all (is_left done) (λ m. (m < n) × (has done m ≡ false)) (range_with_len 0 n)
      (all_range (λ m. is_left done m ≡ true → (m < n) × (has done m ≡ false)) 0 n (λ m l u is. (omega (arith, u), left_is done m is)));
}

pub cut : (done : List ℕ) (end n : ℕ) → n < end → has done n ≡ false → IsCut done end n
cut done end n lt none =
    let far : n + suc (end - suc n) ≡ end = omega (arith, lt) in
    subst (λ e. IsCut done e n) far (cut_at done n (end - suc n) none)

-- one thing more is taken in turn
pub takes_more : (ready : List ℕ → ℕ → Bool) (start done : List ℕ) (end n : ℕ) (c : IsCut done end n) → AllByRecursion (λ m. ready done m ≡ false) c.front → ready done n ≡ true
    → ((taken rest : List ℕ) → Takes ready done (left_of done end) taken rest → Takes ready [] start (done ++ taken) rest)
    → (taken rest : List ℕ) → Takes ready (done ++ n ∷ []) (left_of (done ++ n ∷ []) end) taken rest → Takes ready [] start ((done ++ n ∷ []) ++ taken) rest
takes_more ready start done end n c none is before taken rest after =
    subst (λ ys. Takes ready [] start ys rest) (sym (append_assoc done (n ∷ []) taken))
    (before (n ∷ taken) rest (c.front, c.back, c.whole, none, is, subst (λ ls. Takes ready (done ++ n ∷ []) ls taken rest) c.later after))

pub nothing_taken : (end : ℕ) → left_of [] end ≡ range_with_len 0 end
nothing_taken end = all_pass (range_with_len 0 end)
  where
    all_pass : (xs : List ℕ) → filter (is_left []) xs ≡ xs
    all_pass [] = refl
    all_pass (x ∷ xs) = ap (λ ys. x ∷ ys) (all_pass xs)

-- less is left when something more is taken
pub smaller : (done : List ℕ) (end n : ℕ) → IsCut done end n → length (left_of (done ++ n ∷ []) end) < length (left_of done end)
smaller done end n c =
    let whole = ap length c.whole ∙ length-append c.front (n ∷ c.back) in
    let later = ap length c.later ∙ length-append c.front c.back in
    omega (arith, whole, later)

-- ---- the first that is left

pub none_left_more : (done : List ℕ) (n : ℕ) → left_of done n ≡ [] → has done n ≡ true → left_of done (n + 1) ≡ []
none_left_more done n before there =
    let next : n + 1 ≡ n + suc 0 = omega arith in
    ap (left_of done) next ∙ cut_filter (is_left done) n 0 false (ap not there) ∙ ap (λ xs. xs ++ []) before

first_at : (done : List ℕ) (n c : ℕ) → left_of done n ≡ [] → has done n ≡ false → IsFirstLeft done (n + suc c) n
first_at done n c before none = record {
  rest = filter (is_left done) (range_with_len (n + 1) c);
  is = cut_filter (is_left done) n c true (ap not none) ∙ ap (λ xs. xs ++ n ∷ filter (is_left done) (range_with_len (n + 1) c)) before;
}

pub first_left_is : (done : List ℕ) (end n : ℕ) → n < end → left_of done n ≡ [] → has done n ≡ false → IsFirstLeft done end n
first_left_is done end n lt before none =
    let far : n + suc (end - suc n) ≡ end = omega (arith, lt) in
    subst (λ e. IsFirstLeft done e n) far (first_at done n (end - suc n) before none)

pub idle_left : (ready : ℕ → Bool) (done : List ℕ) (end : ℕ) → ((n : ℕ) → n < end → has done n ≡ false → ready n ≡ false) → AllByRecursion (λ n. ready n ≡ false) (left_of done end)
idle_left ready done end idle = filter_all (is_left done) (λ n. ready n ≡ false) (range_with_len 0 end)
    (all_range (λ n. is_left done n ≡ true → ready n ≡ false) 0 end (λ n l u is. idle n (omega (arith, u)) (left_is done n is)))

-- what is below is not ready, where it is left
pub front_idle : (ready : ℕ → Bool) (done front : List ℕ) (n : ℕ) → ((m : ℕ) → m < n → has done m ≡ false → ready m ≡ false) → AllByRecursion (λ m. (m < n) × (has done m ≡ false)) front → AllByRecursion (λ m. ready m ≡ false) front
front_idle ready done [] n idle a = tt
front_idle ready done (m ∷ front) n idle a = (idle m a.0.0 a.0.1, front_idle ready done front n idle a.1)

pub has_range : (a c n : ℕ) → a ≤ n → n < a + c → has (range_with_len a c) n ≡ true
has_range a zero n l u = absurd (omega (arith, l, u))
has_range a (suc c) n l u = one (a == n) refl (λ more. has_range (a + 1) c n more (omega (arith, u)))
  where
    one : (b : Bool) → (a == n) ≡ b → (a + 1 ≤ n → has (range_with_len (a + 1) c) n ≡ true) → (b || has (range_with_len (a + 1) c) n) ≡ true
    one true e rest = refl
    one false e rest = rest (apart (λ same. absurd (let bad : true ≡ false = sym (eq-eqb a n same) ∙ e in cc)))
      where
        apart : (a ≡ n → ⊥) → a + 1 ≤ n
        apart other = omega (arith, l, other)
