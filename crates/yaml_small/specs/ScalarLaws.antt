-- What a scan of a scalar finds is a scalar of the grammar, and each of those is found.
use Rattle.std.proofs.Common.{◌≡◌, ℕ, ◌-◌, List, [], ◌∷◌, take, drop, length, Bool, true, false, not, cond, ◌&&◌, eqb, Result, Ok, Err, refl, sym, ap, ◌∙◌, subst, inl, inr}
use Rattle.std.proofs.lemmas.Bool.{eqb-true}
use Rattle.warg_values.specs.Reading.{◌>>=◌}
use Rattle.yaml_scan.specs.Plain.{begins_plain, plain_len}
use Rattle.yaml_scan.specs.Quoted.{SingleQuoted, DoubleQuoted}
use Rattle.yaml_scan.specs.QuotedScan.{Found, Open, Bad, single_at, double_quoted_at}
use Rattle.yaml_scan.specs.QuotedLaws.{found_is, single_found, single_scanned, double_found, double_scanned}
use Rattle.yaml_small.specs.declared.event.Style.{Style}
use Rattle.yaml_small.specs.declared.event.Style.TheVariants as styles
use Rattle.yaml_small.specs.Trees.{Scalar}
use Rattle.yaml_small.specs.Places.{At, past, over, begins, at_mark, is_colon}
use Rattle.yaml_small.specs.Scalars.{Fault, Form, ScalarToken, scalar_token, begins_at, start_fault, plain_at, quoted_at, scalar_token_at, colon_behind, key_at}
use Rattle.yaml_small.specs.Grammar.{IsQuoted, IsPlain, IsScalarToken, IsKey}

unfoldable token_is : ScalarToken → Result ScalarToken Fault
token_is w = Ok w

same_token : (v w : ScalarToken) → token_is v ≡ token_is w → v ≡ w
unfolding token_is
same_token v w e = ap (λ (r : Result ScalarToken Fault). elim r as (λ (x : Result ScalarToken Fault). ScalarToken) [ Ok u ↦ u | Err f ↦ v ]) e

abbrev token : Scalar → At → ScalarToken
token s b = record { scalar = s; end = b }

-- a scalar in quotes, which a scan finds
quoted_scanned : (Quoted : List ℕ → List ℕ → List ℕ → Type 0) (scan : List ℕ → Found) (quote : ℕ) (style : Style) (s : Scalar) (a b : At)
    → ((line text rest : List ℕ) → Quoted line text rest → scan line ≡ found_is text rest) → IsQuoted Quoted quote style s a b → quoted_at style a (scan (drop 1 a.line)) ≡ token_is (token s b)
unfolding quoted_at found_is token_is
quoted_scanned Quoted scan quote style s a b scanned (rest, begin, quoted, is, end) =
    ap (quoted_at style a) (scanned (drop 1 a.line) s.text rest quoted)
    ∙ ap (λ (x : Style). token_is (token (record { text = s.text; style = x }) (past (length a.line - length rest) a))) (sym is)
    ∙ ap (λ (x : At). token_is (token s x)) (sym end)

quoted_form : (Quoted : List ℕ → List ℕ → List ℕ → Type 0) (quote : ℕ) (style : Style) (a : At) (found : Found) (w : ScalarToken)
    → begins quote a.line ≡ true → ((text rest : List ℕ) → found ≡ found_is text rest → Quoted (drop 1 a.line) text rest) → quoted_at style a found ≡ token_is w → IsQuoted Quoted quote style w.scalar a w.end
unfolding quoted_at found_is token_is
quoted_form Quoted quote style a (Ok p) w begin found e =
    subst (λ (v : ScalarToken). IsQuoted Quoted quote style v.scalar a v.end) (same_token (scalar_token p.0 style (past (length a.line - length p.1) a)) w e)
    (p.1, begin, found p.0 p.1 refl, refl, refl)
quoted_form Quoted quote style a (Err Open) w begin found e = absurd cc
quoted_form Quoted quote style a (Err Bad) w begin found e = absurd cc

-- a plain scalar
both_true : (a b : Bool) → a && b ≡ true → (a ≡ true) × (b ≡ true)
both_true true b e = (refl, e)
both_true false b e = absurd cc

no_quote : (flow : Bool) (n : ℕ) (line : List ℕ) → ((cs : List ℕ) → begins_plain flow (n ∷ cs) ≡ false) → begins_plain flow line ≡ true → begins n line ≡ false
no_quote flow n [] never e = refl
no_quote flow n (c ∷ cs) never e = from (eqb c n) refl
  where
    from : (b : Bool) → eqb c n ≡ b → b ≡ false
    from true is = let off : true ≡ false = sym e ∙ ap (λ (x : ℕ). begins_plain flow (x ∷ cs)) (eqb-true c n is) ∙ never cs in absurd cc
    from false is = refl

plain_scanned : (flow : Bool) (s : Scalar) (a b : At) → IsPlain flow s a b → scalar_token_at flow a ≡ token_is (token s b)
unfolding scalar_token_at plain_at token_is
plain_scanned flow s a b (begin, is, end) =
    let begun = (both_true (not (at_mark a)) (begins_plain flow a.line) begin).1 in
    let single = no_quote flow 39 a.line (λ cs. refl) begun in
    let double = no_quote flow 34 a.line (λ cs. refl) begun in
    third _ _ _ single double
    ∙ chosen (scalar_token (take (plain_len flow false a.line) a.line) styles.Plain (past (plain_len flow false a.line) a)) begin
    ∙ ap (λ (x : Scalar). token_is (token x (past (plain_len flow false a.line) a))) (sym is)
    ∙ ap (λ (x : At). token_is (token s x)) (sym end)
  where
    third : {b c : Bool} (x y z : Result ScalarToken Fault) → b ≡ false → c ≡ false → cond b x (cond c y z) ≡ z
    third x y z e f = rw (e, f) refl

    chosen : (w : ScalarToken) → begins_at flow a ≡ true → cond (begins_at flow a) (token_is w) (Err (start_fault a)) ≡ token_is w
    chosen w e = rw e refl

plain_form : (flow : Bool) (a : At) (w : ScalarToken) → plain_at flow a ≡ token_is w → IsPlain flow w.scalar a w.end
unfolding plain_at token_is
plain_form flow a w e = from (begins_at flow a) refl e
  where
    from : (b : Bool) → begins_at flow a ≡ b → cond b (token_is (scalar_token (take (plain_len flow false a.line) a.line) styles.Plain (past (plain_len flow false a.line) a))) (Err (start_fault a)) ≡ token_is w → IsPlain flow w.scalar a w.end
    from true is e =
        subst (λ (v : ScalarToken). IsPlain flow v.scalar a v.end) (same_token (scalar_token (take (plain_len flow false a.line) a.line) styles.Plain (past (plain_len flow false a.line) a)) w e) (is, refl, refl)
    from false is e = absurd cc

-- Each scalar on a line is found,
pub token_scanned : (flow : Bool) (s : Scalar) (a b : At) → IsScalarToken flow s a b → scalar_token_at flow a ≡ Ok (record { scalar = s; end = b })
unfolding scalar_token_at token_is
token_scanned flow s a b (inl single) = first _ _ (begin single) ∙ quoted_scanned SingleQuoted single_at 39 styles.SingleQuoted s a b single_scanned single
  where
    begin : IsQuoted SingleQuoted 39 styles.SingleQuoted s a b → begins 39 a.line ≡ true
    begin q = q.1

    first : {b : Bool} (x y : Result ScalarToken Fault) → b ≡ true → cond b x y ≡ x
    first x y e = rw e refl
token_scanned flow s a b (inr (inl double)) =
    second _ _ _ (other a.line (begin double)) (begin double) ∙ quoted_scanned DoubleQuoted double_quoted_at 34 styles.DoubleQuoted s a b double_scanned double
  where
    begin : IsQuoted DoubleQuoted 34 styles.DoubleQuoted s a b → begins 34 a.line ≡ true
    begin q = q.1

    other : (line : List ℕ) → begins 34 line ≡ true → begins 39 line ≡ false
    other [] e = refl
    other (c ∷ cs) e = ap (λ (x : ℕ). eqb x 39) (eqb-true c 34 e)

    second : {b c : Bool} (x y z : Result ScalarToken Fault) → b ≡ false → c ≡ true → cond b x (cond c y z) ≡ y
    second x y z e f = rw (e, f) refl
token_scanned flow s a b (inr (inr plain)) = plain_scanned flow s a b plain

-- and what is found is one.
pub token_form : (flow : Bool) (a : At) (w : ScalarToken) → scalar_token_at flow a ≡ Ok w → IsScalarToken flow w.scalar a w.end
unfolding scalar_token_at token_is
token_form flow a w e = from (begins 39 a.line) (begins 34 a.line) refl refl e
  where
    from : (b c : Bool) → begins 39 a.line ≡ b → begins 34 a.line ≡ c → cond b (quoted_at styles.SingleQuoted a (single_at (drop 1 a.line))) (cond c (quoted_at styles.DoubleQuoted a (double_quoted_at (drop 1 a.line))) (plain_at flow a)) ≡ token_is w
        → IsScalarToken flow w.scalar a w.end
    from true c single double e = inl (quoted_form SingleQuoted 39 styles.SingleQuoted a (single_at (drop 1 a.line)) w single (λ text rest is. single_found (drop 1 a.line) text rest is) e)
    from false true single double e = inr (inl (quoted_form DoubleQuoted 34 styles.DoubleQuoted a (double_quoted_at (drop 1 a.line)) w double (λ text rest is. double_found (drop 1 a.line) text rest is) e))
    from false false single double e = inr (inr (plain_form flow a w e))

-- The same of keys.
pub key_scanned : (s : Scalar) (a b : At) → IsKey s a b → key_at a ≡ Ok (record { scalar = s; end = b })
unfolding key_at token_is
key_scanned s a b (m, is, colon, end) =
    ap (λ (r : Result ScalarToken Fault). r >>= colon_behind) (token_scanned false s a m is)
    ∙ chosen (past 1 (over m)) colon ∙ ap (λ (x : At). token_is (token s x)) (sym end)
  where
    chosen : (x : At) → is_colon (over m).line ≡ true → cond (is_colon (over m).line) (token_is (token s x)) (Err Form) ≡ token_is (token s x)
    chosen x e = rw e refl

pub key_form : (a : At) (w : ScalarToken) → key_at a ≡ Ok w → IsKey w.scalar a w.end
unfolding key_at token_is
key_form a w e = from (scalar_token_at false a) refl e
  where
    behind : (v : ScalarToken) (b : Bool) → is_colon (over v.end).line ≡ b → IsScalarToken false v.scalar a v.end → cond b (token_is (token v.scalar (past 1 (over v.end)))) (Err Form) ≡ token_is w → IsKey w.scalar a w.end
    behind v true is form e = subst (λ (x : ScalarToken). IsKey x.scalar a x.end) (same_token (token v.scalar (past 1 (over v.end))) w e) (v.end, form, is, refl)
    behind v false is form e = absurd cc

    from : (r : Result ScalarToken Fault) → scalar_token_at false a ≡ r → (r >>= colon_behind) ≡ token_is w → IsKey w.scalar a w.end
    from (Ok v) is e = behind v (is_colon (over v.end).line) refl (token_form false a v is) e
    from (Err f) is e = absurd cc
