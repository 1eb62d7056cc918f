-- What ends a plain scalar, and what may stand there instead.
use Rattle.std.proofs.Common.{zero, suc, arith, ◌≡◌, ℕ, List, [], ◌∷◌, Bool, true, false, cond, ◌&&◌, ◌||◌, eqb, ltb, refl, sym, ap, ◌∙◌, inl, inr}
use Rattle.std.proofs.lemmas.Bool.{cases_Bool, eqb-true}
use Rattle.yaml_scan.specs.Bytes.{is_space, is_white, is_flow_mark, is_control, ends_mark}
use Rattle.yaml_scan.specs.Plain.{parts, ends_plain, with_byte, plain_len}
use Rattle.yaml_small.specs.MarkLaws.{and_false, or_true, or_parts, not_so, both}
use Rattle.yaml_completion.proofs.Scans.{begins_low, low_control, Near}

-- where no plain scalar goes on, none does behind white space either
pub always_stops : (flow : Bool) (x : ℕ) (xs : List ℕ) → plain_len flow false (x ∷ xs) ≡ 0 → (white : Bool) → plain_len flow white (x ∷ xs) ≡ 0
always_stops flow x xs e false = e
always_stops flow x xs e true =
    elim (cases_Bool (eqb x 35)) [
      | inl is ↦ ap (λ (n : ℕ). plain_len flow true (n ∷ xs)) (eqb-true x 35 is)
      | inr other ↦ ap (λ (b : Bool). cond ((b && true) || (eqb x 58 && parts flow xs) || (flow && is_flow_mark x) || is_control (x ∷ xs)) 0 (with_byte x (plain_len flow (is_white x) xs))) other
          ∙ sym (ap (λ (b : Bool). cond ((b && false) || (eqb x 58 && parts flow xs) || (flow && is_flow_mark x) || is_control (x ∷ xs)) 0 (with_byte x (plain_len flow (is_white x) xs))) other) ∙ e
    ]

-- white space before where no plain scalar goes on
pub white_len : (flow white : Bool) (x : ℕ) (t : List ℕ) → is_white x ≡ true → plain_len flow (is_white x) t ≡ 0 → plain_len flow white (x ∷ t) ≡ 0
white_len flow white x t e none = ap (λ (m : ℕ). cond (ends_plain flow white (x ∷ t)) 0 (with_byte x m)) none ∙ passed (ends_plain flow white (x ∷ t))
  where
    passed : (b : Bool) → cond b 0 (cond {A = ℕ} (is_white x) 0 1) ≡ 0
    passed true = refl
    passed false = ap (λ (b : Bool). cond {A = ℕ} b 0 1) e

near_heads : (flow : Bool) (x y : ℕ) (xs t : List ℕ) → ltb x 160 ≡ true → ltb y 160 ≡ true → is_space y ≡ is_space x → flow && is_flow_mark y ≡ flow && is_flow_mark x → ((white : Bool) → plain_len flow white (x ∷ xs) ≡ 0)
    → ((white : Bool) → plain_len flow white (y ∷ t) ≡ 0) → Near flow (x ∷ xs) (y ∷ t)
near_heads flow x y xs t p q space mark old new = λ c. record {
  plain = λ white. new white ∙ sym (old white);
  control = rw (p, q) refl;
  part = ap (λ (b : Bool). b || (flow && is_flow_mark y)) space ∙ ap (λ (b : Bool). is_space x || b) mark;
}

small_is : (x n : ℕ) → ltb n 160 ≡ true → eqb x n ≡ true → ltb x 160 ≡ true
small_is x n small e = ap (λ (y : ℕ). ltb y 160) (eqb-true x n e) ∙ small

white_small : (x : ℕ) → is_white x ≡ true → ltb x 160 ≡ true
white_small x e =
    elim (cases_Bool (eqb x 32)) [
      | inl is ↦ small_is x 32 refl is
      | inr other ↦ small_is x 9 refl (sym (ap (λ (b : Bool). b || eqb x 9) other) ∙ e)
    ]

-- white space begins low
pub white_begins : (x : ℕ) (xs : List ℕ) → is_white x ≡ true → begins_low (x ∷ xs) ≡ true
white_begins x xs e =
    elim (cases_Bool (eqb x 32)) [
      | inl is ↦ ap (λ (y : ℕ). begins_low (y ∷ xs)) (eqb-true x 32 is)
      | inr other ↦ ap (λ (y : ℕ). begins_low (y ∷ xs)) (eqb-true x 9 (sym (ap (λ (b : Bool). b || eqb x 9) other) ∙ e))
    ]

mark_small : (x : ℕ) → is_flow_mark x ≡ true → ltb x 160 ≡ true
mark_small x e = from (eqb x 44) (eqb x 91) (eqb x 93) (eqb x 123) (eqb x 125) refl refl refl refl refl e
  where
    from : (a b c d f : Bool) → eqb x 44 ≡ a → eqb x 91 ≡ b → eqb x 93 ≡ c → eqb x 123 ≡ d → eqb x 125 ≡ f → a || b || c || d || f ≡ true → ltb x 160 ≡ true
    from true b c d f p q r s t e = small_is x 44 refl p
    from false true c d f p q r s t e = small_is x 91 refl q
    from false false true d f p q r s t e = small_is x 93 refl r
    from false false false true f p q r s t e = small_is x 123 refl s
    from false false false false true p q r s t e = small_is x 125 refl t
    from false false false false false p q r s t e = absurd cc

-- a byte that ends no plain scalar
continues_below : (flow : Bool) (n : ℕ) (xs : List ℕ) → ends_plain flow false (n ∷ xs) ≡ false → is_white n ≡ false → plain_len flow false (n ∷ xs) ≡ 0 → ⊥
continues_below flow n xs e dark none = longer (plain_len flow (is_white n) xs) (sym (ap (λ (b : Bool). cond b 0 (with_byte n (plain_len flow (is_white n) xs))) e) ∙ none)
  where
    off : (m : ℕ) → m ≡ 1 → m ≡ 0 → ⊥
    off m p q = omega arith

    longer : (m : ℕ) → with_byte n m ≡ 0 → ⊥
    longer zero e = off (with_byte n 0) (ap (λ (b : Bool). cond {A = ℕ} b 0 1) dark) e
    longer (suc m) e = omega arith

no_byte : (flow : Bool) (n x : ℕ) (xs : List ℕ) → ((ys : List ℕ) → ends_plain flow false (n ∷ ys) ≡ false) → is_white n ≡ false → plain_len flow false (x ∷ xs) ≡ 0 → eqb n x ≡ false
no_byte flow n x xs e dark none = not_so (eqb n x) (λ is. continues_below flow n xs (e xs) dark (ap (λ (y : ℕ). plain_len flow false (y ∷ xs)) (eqb-true n x is) ∙ none))

no_end : (flow : Bool) (n : ℕ) → ((ys : List ℕ) → is_control (n ∷ ys) ≡ false) → eqb n 35 ≡ false → eqb n 58 ≡ false → is_flow_mark n ≡ false → (ys : List ℕ) → ends_plain flow false (n ∷ ys) ≡ false
no_end flow n clean p q r ys = rw (p, q, r, and_false flow, clean ys) refl

dash_clean : (ys : List ℕ) → is_control (45 ∷ ys) ≡ false
dash_clean [] = refl
dash_clean (d ∷ ds) = refl

dot_clean : (ys : List ℕ) → is_control (46 ∷ ys) ≡ false
dot_clean [] = refl
dot_clean (d ∷ ds) = refl

-- no plain scalar ends before a dash or a dot
pub no_dash : (flow : Bool) (x : ℕ) (xs : List ℕ) → plain_len flow false (x ∷ xs) ≡ 0 → eqb 45 x ≡ false
no_dash flow x xs none = no_byte flow 45 x xs (no_end flow 45 dash_clean refl refl refl) refl none

pub no_dot : (flow : Bool) (x : ℕ) (xs : List ℕ) → plain_len flow false (x ∷ xs) ≡ 0 → eqb 46 x ≡ false
no_dot flow x xs none = no_byte flow 46 x xs (no_end flow 46 dot_clean refl refl refl) refl none

-- Content where no plain scalar goes on, and that is no mark, is a control character.
pub stop_control : (flow : Bool) (x : ℕ) (xs : List ℕ) → is_white x ≡ false → eqb x 58 && parts flow xs ≡ false → flow && is_flow_mark x ≡ false → plain_len flow false (x ∷ xs) ≡ 0 → is_control (x ∷ xs) ≡ true
stop_control flow x xs dark colon plain none =
    elim (cases_Bool (ends_plain flow false (x ∷ xs))) [
      | inl is ↦ last (eqb x 35 && false) (eqb x 58 && parts flow xs) (flow && is_flow_mark x) (is_control (x ∷ xs)) (and_false (eqb x 35)) colon plain is
      | inr more ↦ absurd (continues_below flow x xs more dark none)
    ]
  where
    last : (a b c d : Bool) → a ≡ false → b ≡ false → c ≡ false → a || b || c || d ≡ true → d ≡ true
    last true b c d p q r e = absurd cc
    last false true c d p q r e = absurd cc
    last false false true d p q r e = absurd cc
    last false false false d p q r e = e

-- a document mark in front of a control character is one
pub control_ends : (line : List ℕ) → is_control line ≡ true → ends_mark line ≡ true
control_ends [] e = absurd cc
control_ends (x ∷ xs) e = rw e (or_true (is_white x))

-- a byte of white space before another token
pub near_white : (flow : Bool) (x : ℕ) (xs t : List ℕ) → is_white x ≡ true → ((white : Bool) → plain_len flow white t ≡ 0) → plain_len flow false (x ∷ xs) ≡ 0 → Near flow (x ∷ xs) (x ∷ t)
near_white flow x xs t e new none =
    near_heads flow x x xs t (white_small x e) (white_small x e) refl refl (always_stops flow x xs none)
    (λ white. white_len flow white x t e (new (is_white x)))

-- no document mark ends before a mark of a flow
pub mark_unended : (x : ℕ) (xs : List ℕ) → is_flow_mark x ≡ true → ends_mark (x ∷ xs) ≡ false
mark_unended x xs e = from (eqb x 44) (eqb x 91) (eqb x 93) (eqb x 123) (eqb x 125) refl refl refl refl refl e
  where
    is : (n : ℕ) → eqb n 194 ≡ false → is_white n || is_control (n ∷ []) ≡ false → eqb x n ≡ true → ends_mark (x ∷ xs) ≡ false
    is n low none same = ap (λ (y : ℕ). ends_mark (y ∷ xs)) (eqb-true x n same) ∙ ap (λ (b : Bool). is_white n || b) (low_control n xs low) ∙ none

    from : (a b c d f : Bool) → eqb x 44 ≡ a → eqb x 91 ≡ b → eqb x 93 ≡ c → eqb x 123 ≡ d → eqb x 125 ≡ f → a || b || c || d || f ≡ true → ends_mark (x ∷ xs) ≡ false
    from true b c d f p q r s t e = is 44 refl refl p
    from false true c d f p q r s t e = is 91 refl refl q
    from false false true d f p q r s t e = is 93 refl refl r
    from false false false true f p q r s t e = is 123 refl refl s
    from false false false false true p q r s t e = is 125 refl refl t
    from false false false false false p q r s t e = absurd cc

-- a comma in place of a mark of a flow
pub near_comma : (x : ℕ) (xs t : List ℕ) → is_flow_mark x ≡ true → plain_len true false (x ∷ xs) ≡ 0 → Near true (x ∷ xs) (44 ∷ t)
near_comma x xs t e none =
    near_heads true x 44 xs t (mark_small x e) refl (sym (no_space x e)) (sym e) (always_stops true x xs none) (λ white. refl)
  where
    no_space : (x : ℕ) → is_flow_mark x ≡ true → is_space x ≡ false
    no_space x e = not_so (is_space x) (λ is. both (is_flow_mark x) e (ap is_flow_mark (eqb-true x 32 is)))

-- a tab in place of anything else
pub near_tab : (flow : Bool) (x : ℕ) (xs t : List ℕ) → is_white x ≡ false → flow && is_flow_mark x ≡ false → ltb x 160 ≡ true → ((white : Bool) → plain_len flow white (9 ∷ t) ≡ 0) → plain_len flow false (x ∷ xs) ≡ 0
    → Near flow (x ∷ xs) (9 ∷ t)
near_tab flow x xs t dark plain small new none =
    near_heads flow x 9 xs t small refl (sym (or_parts (is_space x) (eqb x 9) dark).0) (and_false flow ∙ sym plain) (always_stops flow x xs none) new
