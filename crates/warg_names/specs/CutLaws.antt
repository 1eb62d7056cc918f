-- What is known of cuts: they part a text, and give what a text was put together of.
use Rattle.std.proofs.Common.{◌≡◌, ℕ, ◌==◌, not, Bool, true, false, cond, List, [], ◌∷◌, ◌++◌, length, Option, Some, None, refl, sym, ap, ◌∙◌, arith, inl, inr}
use Rattle.std.specs.Prelude.{option_map, option_and_then}
use Rattle.std.specs.Option.{option_or}
use Rattle.std.proofs.lemmas.Bool.{and_parts, and_from, cases_Bool, eqb-true, eq-eqb, not-true, not_from_false}
use Rattle.std.proofs.lemmas.Option.{none-some, cond_some}
use Rattle.warg_names.specs.Cut.{is_empty, lacks, behind, cut_first, cut_last, whole_before, closed_by, ended_by}

pub none_from : {A : Type 0} (o : Option A) → ((x : A) → o ≡ Some x → ⊥) → o ≡ None
none_from None h = refl
none_from (Some x) h = absurd (h x refl)

pub when_some : {A : Type 0} (t : Bool) (o : Option A) (y : A) → cond t o None ≡ Some y → (t ≡ true) × (o ≡ Some y)
when_some true o y e = (refl, e)
when_some false o y e = absurd (none-some y e)

-- ---- behind a front

-- a front and what stands behind it are the text
pub behind-sound : (front text rest : List ℕ) → behind front text ≡ Some rest → text ≡ front ++ rest
unfolding behind
behind-sound [] text rest e = cc
behind-sound (c ∷ front) [] rest e = absurd (none-some rest e)
behind-sound (c ∷ front) (b ∷ text) rest e =
    let w = when_some (b == c) (behind front text) rest e in
    let same : b ≡ c = eqb-true b c w.0 in
    let more = behind-sound front text rest w.1 in
    (λ k. same k ∷ more k)

-- what stands behind a front is found
pub behind-append : (front rest : List ℕ) → behind front (front ++ rest) ≡ Some rest
unfolding behind
behind-append [] rest = refl
behind-append (c ∷ front) rest = rw (eq-eqb c c refl) (behind-append front rest)

-- a text that begins otherwise has nothing behind the front
pub behind-none : (front text : List ℕ) → ((rest : List ℕ) → text ≡ front ++ rest → ⊥) → behind front text ≡ None
behind-none front text h = none_from (behind front text) (λ rest read. h rest (behind-sound front text rest read))

-- ---- at a byte

-- a text that lacks the byte is not cut
pub cut_first-none : (c : ℕ) (text : List ℕ) → lacks c text ≡ true → cut_first c text ≡ None
unfolding cut_first
cut_first-none c [] h = refl
cut_first-none c (b ∷ text) h =
    let a = and_parts (not (b == c)) (lacks c text) h in
    rw (not-true (b == c) a.0, cut_first-none c text a.1) refl

-- the first cut of a text is where what stands before lacks the byte
pub cut_first-append : (c : ℕ) (before after : List ℕ) → lacks c before ≡ true → cut_first c (before ++ c ∷ after) ≡ Some (before, after)
unfolding cut_first
cut_first-append c [] after h = rw (eq-eqb c c refl) refl
cut_first-append c (b ∷ before) after h =
    let a = and_parts (not (b == c)) (lacks c before) h in
    rw (not-true (b == c) a.0, cut_first-append c before after a.1) refl

pub cut_last-none : (c : ℕ) (text : List ℕ) → lacks c text ≡ true → cut_last c text ≡ None
unfolding cut_last
cut_last-none c [] h = refl
cut_last-none c (b ∷ text) h =
    let a = and_parts (not (b == c)) (lacks c text) h in
    rw (not-true (b == c) a.0, cut_last-none c text a.1) refl

-- the last cut of a text is where what stands after lacks the byte
pub cut_last-append : (c : ℕ) (before after : List ℕ) → lacks c after ≡ true → cut_last c (before ++ c ∷ after) ≡ Some (before, after)
unfolding cut_last
cut_last-append c [] after h = rw (cut_last-none c after h, eq-eqb c c refl) refl
cut_last-append c (b ∷ before) after h = rw (cut_last-append c before after h) refl

-- ---- what a cut gives is the text

pub some_is : {A : Type 0} (x y : A) → Some x ≡ Some y → x ≡ y
some_is x y e = cc

-- one step of a chain that gave a value
pub then_some : {A B : Type 0} (f : A → Option B) (o : Option A) (y : B) → option_and_then f o ≡ Some y → (x : A) × (o ≡ Some x) × (f x ≡ Some y)
then_some f None y e = absurd (none-some y e)
then_some f (Some x) y e = (x, refl, e)

pub map_some : {A B : Type 0} (f : A → B) (o : Option A) (y : B) → option_map f o ≡ Some y → (x : A) × (o ≡ Some x) × (f x ≡ y)
map_some f None y e = absurd (none-some y e)
map_some f (Some x) y e = (x, refl, some_is (f x) y e)

-- a cut of a text at a byte
abbrev pub IsCut : ℕ → List ℕ → List ℕ × List ℕ → Type 0
IsCut c text cut = text ≡ cut.0 ++ c ∷ cut.1

-- a cut behind one byte more
abbrev longer : ℕ → List ℕ × List ℕ → List ℕ × List ℕ
longer b cut = (b ∷ cut.0, cut.1)

abbrev first_at : ℕ → ℕ → List ℕ → Bool → Option (List ℕ × List ℕ)
first_at c b text t = cond t (Some ([], text)) (option_map (longer b) (cut_first c text))

-- the first cut is one, and what stands before it lacks the byte
pub cut_first-sound : (c : ℕ) (text : List ℕ) (cut : List ℕ × List ℕ) → cut_first c text ≡ Some cut → IsCut c text cut × (lacks c cut.0 ≡ true)
unfolding cut_first
cut_first-sound c [] cut e = absurd (none-some cut e)
cut_first-sound c (b ∷ text) cut e = elim (cases_Bool (b == c)) [
  | inl same ↦
      let got : Some ([], text) ≡ Some cut = sym (ap (first_at c b text) same) ∙ e in
      rw (← some_is ([], text) cut got) ((λ k. eqb-true b c same k ∷ text), refl)
  | inr other ↦
      let m = map_some (longer b) (cut_first c text) cut (sym (ap (first_at c b text) other) ∙ e) in
      let more = cut_first-sound c text m.0 m.1 in
      rw (← m.2) (ap (λ t. b ∷ t) more.0, and_from _ _ (not_from_false (b == c) other) more.1)
]

abbrev last_at : ℕ → List ℕ → Bool → Option (List ℕ × List ℕ)
last_at c text t = cond t (Some ([], text)) None

-- the last cut is one
pub cut_last-sound : (c : ℕ) (text : List ℕ) (cut : List ℕ × List ℕ) → cut_last c text ≡ Some cut → IsCut c text cut
unfolding cut_last
cut_last-sound c [] cut e = absurd (none-some cut e)
cut_last-sound c (b ∷ text) cut e = by (cut_last c text) (cut_last-sound c text) e
  where
    by : (o : Option (List ℕ × List ℕ)) → ((x : List ℕ × List ℕ) → o ≡ Some x → IsCut c text x)
        → option_or (option_map (longer b) o) (cond (b == c) (Some ([], text)) None) ≡ Some cut → IsCut c (b ∷ text) cut
    by (Some x) below got = rw (← some_is (longer b x) cut got) (ap (λ t. b ∷ t) (below x refl))
    by None below got =
        let w = cond_some (b == c) ([], text) cut got in
        rw (← w.1) (λ k. eqb-true b c w.0 k ∷ text)

empty_is : (text : List ℕ) → is_empty text ≡ true → text ≡ []
empty_is [] e = refl
empty_is (b ∷ text) e = let none : length (b ∷ text) ≡ 0 = eqb-true (length (b ∷ text)) 0 e in absurd (omega (arith, none))

whole_before-sound : (cut : List ℕ × List ℕ) (front : List ℕ) → whole_before cut ≡ Some front → (cut.0 ≡ front) × (cut.1 ≡ [])
whole_before-sound cut front e =
    let w = cond_some (is_empty cut.1) cut.0 front e in
    (w.1, empty_is cut.1 w.0)

-- a text that a byte closes
pub closed_by-sound : (c : ℕ) (text front : List ℕ) → closed_by c text ≡ Some front → text ≡ front ++ c ∷ []
unfolding closed_by
closed_by-sound c text front e =
    let t = then_some whole_before (cut_last c text) front e in
    let w = whole_before-sound t.0 front t.2 in
    cut_last-sound c text t.0 t.1 ∙ (λ k. w.0 k ++ c ∷ w.1 k)

pub closed_by-append : (c : ℕ) (front : List ℕ) → closed_by c (front ++ c ∷ []) ≡ Some front
unfolding closed_by
closed_by-append c front = rw (cut_last-append c front [] refl) refl

-- a text that a byte ends, which stands nowhere else in it
pub ended_by-sound : (c : ℕ) (text front : List ℕ) → ended_by c text ≡ Some front → (text ≡ front ++ c ∷ []) × (lacks c front ≡ true)
unfolding ended_by
ended_by-sound c text front e =
    let t = then_some whole_before (cut_first c text) front e in
    let w = whole_before-sound t.0 front t.2 in
    let s = cut_first-sound c text t.0 t.1 in
    (s.0 ∙ (λ k. w.0 k ++ c ∷ w.1 k), ap (lacks c) (sym w.0) ∙ s.1)

pub ended_by-append : (c : ℕ) (front : List ℕ) → lacks c front ≡ true → ended_by c (front ++ c ∷ []) ≡ Some front
unfolding ended_by
ended_by-append c front h = rw (cut_first-append c front [] h) refl

-- a text that is not cut lacks the byte
pub cut_first-lacks : (c : ℕ) (text : List ℕ) → cut_first c text ≡ None → lacks c text ≡ true
unfolding cut_first
cut_first-lacks c [] e = refl
cut_first-lacks c (b ∷ text) e = elim (cases_Bool (b == c)) [
  | inl same ↦
      let cut : List ℕ × List ℕ = ([], text) in
      absurd (none-some cut (sym e ∙ ap (first_at c b text) same))
  | inr other ↦ and_from _ _ (not_from_false (b == c) other) (cut_first-lacks c text (unmapped (cut_first c text) (sym (ap (first_at c b text) other) ∙ e)))
]
  where
    unmapped : (o : Option (List ℕ × List ℕ)) → option_map (longer b) o ≡ None → o ≡ None
    unmapped None h = refl
    unmapped (Some x) h = absurd (none-some (longer b x) (sym h))
