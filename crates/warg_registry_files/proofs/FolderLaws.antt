-- Folders of registries: their names have no slash, and two registries have two.
use Rattle.std.proofs.Common.{◌≡◌, ◌<◌, ◌/◌, ◌%◌, ℕ, zero, suc, Bool, true, false, not, ◌||◌, ◌&&◌, cond, nat_eq, nat_lt, List, [], ◌∷◌, ◌++◌, length, get_or, bytes_eq, Some, None, refl, sym, ap, ◌∙◌, arith, inl, inr}
use Rattle.std.specs.Char.{is_ascii_alphanumeric}
use Rattle.std.specs.Cmp.Lexicographic.{nat_list_eq_equiv}
use Rattle.std.specs.List.{list_all}
use Rattle.std.specs.Str.{is_utf8}
use Rattle.std.proofs.lemmas.Bool.{and_parts, cases_Bool, eqb-true, lt-ltb, ltb-true}
use Rattle.std.proofs.lemmas.List.{append_cancel_left}
use Rattle.std.proofs.lemmas.List.Folds.{list_any-append}
use Rattle.std.proofs.lemmas.Slice.Eq.{bytes_eq-Decides}
use Rattle.hex.specs.Hex.{IsBytes, encode_upper, encode_with, upper_digits, decode_of}
use Rattle.hex.proofs.HexLemmas.{decode_of-encode_upper, decode_of-same}
use Rattle.warg_store.specs.Held.{Registry}
use Rattle.warg_registry_files.specs.Resets.{is_folder, is_of_name, is_plain}
use Rattle.warg_registry_files.specs.Paths.{Place, are_bytes, escaped, escaped_byte, escaped_bytes, folder_name, folder_path, has_slash, is_named, is_text, stands}

-- ---- digits

-- what passes for all of some numbers and for 0 passes at each place
at_each : (p : ℕ → Bool) (xs : List ℕ) → list_all p xs ≡ true → p 0 ≡ true → (i : ℕ) → p (get_or xs i 0) ≡ true
at_each p [] all none i = none
at_each p (x ∷ xs) all none zero = (and_parts (p x) (list_all p xs) all).0
at_each p (x ∷ xs) all none (suc i) = at_each p xs (and_parts (p x) (list_all p xs) all).1 none i

not_true : (b : Bool) → not b ≡ true → b ≡ false
not_true true e = sym e
not_true false e = refl

no_slash_digit : (i : ℕ) → nat_eq (get_or upper_digits i 0) 47 ≡ false
no_slash_digit i = not_true _ (at_each (λ x. not (nat_eq x 47)) upper_digits refl refl i)

no_percent_digit : (i : ℕ) → nat_eq (get_or upper_digits i 0) 37 ≡ false
no_percent_digit i = not_true _ (at_each (λ x. not (nat_eq x 37)) upper_digits refl refl i)

-- ---- bytes

percent_is_escaped : (first : Bool) → stands first 37 ≡ false
percent_is_escaped true = refl
percent_is_escaped false = refl

slash_is_escaped : (first : Bool) → stands first 47 ≡ false
slash_is_escaped true = refl
slash_is_escaped false = refl

one_byte : (b : ℕ) → b < 256 → IsBytes (b ∷ [])
one_byte b lt zero = lt
one_byte b lt (suc i) = omega arith

same_byte : (a b : ℕ) → a < 256 → b < 256 → encode_upper (a ∷ []) ≡ encode_upper (b ∷ []) → a ≡ b
same_byte a b of_a of_b same =
    let one : a ∷ [] ≡ b ∷ [] =
    decode_of-same (encode_upper (a ∷ [])) (a ∷ []) (b ∷ []) (decode_of-encode_upper (a ∷ []) (one_byte a of_a)) (ap decode_of same ∙ decode_of-encode_upper (b ∷ []) (one_byte b of_b)) in
    cc

-- a byte that stands is none that is escaped
pub apart : (first : Bool) (a : ℕ) (x y : List ℕ) → stands first a ≡ true → a ∷ x ≡ 37 ∷ y → ⊥
apart first a x y is same = let e : a ≡ 37 = cc in let f : true ≡ false = sym is ∙ ap (stands first) e ∙ percent_is_escaped first in cc

split_bytes : (first : Bool) (a b : ℕ) (x y : List ℕ) (s t : Bool) → a < 256 → b < 256 → stands first a ≡ s → stands first b ≡ t
    → cond s (a ∷ []) (37 ∷ encode_upper (a ∷ [])) ++ x ≡ cond t (b ∷ []) (37 ∷ encode_upper (b ∷ [])) ++ y → (a ≡ b) × (x ≡ y)
unfolding encode_with
split_bytes first a b x y true true of_a of_b is_a is_b same = (cc, cc)
split_bytes first a b x y true false of_a of_b is_a is_b same = absurd (apart first a x (encode_upper (b ∷ []) ++ y) is_a same)
split_bytes first a b x y false true of_a of_b is_a is_b same = absurd (apart first b y (encode_upper (a ∷ []) ++ x) is_b (sym same))
split_bytes first a b x y false false of_a of_b is_a is_b same =
    let digits : encode_upper (a ∷ []) ≡ encode_upper (b ∷ []) = cc in
    (same_byte a b of_a of_b digits, cc)

some_bytes : (s : Bool) (b : ℕ) (y : List ℕ) → [] ≡ cond s (b ∷ []) (37 ∷ encode_upper (b ∷ [])) ++ y → ⊥
some_bytes true b y e = cc
some_bytes false b y e = cc

pub rest_bytes : (b : ℕ) (bs : List ℕ) → IsBytes (b ∷ bs) → IsBytes bs
rest_bytes b bs is i = is (suc i)

bytes_back : (first : Bool) (xs bs : List ℕ) → IsBytes xs → IsBytes bs → escaped_bytes first xs ≡ escaped_bytes first bs → xs ≡ bs
bytes_back first [] [] of_a of_b same = refl
bytes_back first [] (b ∷ bs) of_a of_b same = absurd (some_bytes (stands first b) b (escaped_bytes false bs) same)
bytes_back first (a ∷ xs) [] of_a of_b same = absurd (some_bytes (stands first a) a (escaped_bytes false xs) (sym same))
bytes_back first (a ∷ xs) (b ∷ bs) of_a of_b same =
    let parts = split_bytes first a b (escaped_bytes false xs) (escaped_bytes false bs) (stands first a) (stands first b) (of_a zero) (of_b zero) refl refl same in
    let rest = bytes_back false xs bs (rest_bytes a xs of_a) (rest_bytes b bs of_b) parts.1 in
    (λ i. parts.0 i ∷ rest i)

-- ---- names

percent_alone : (s : Bool) (b : ℕ) (y : List ℕ) → stands true b ≡ s → 37 ∷ [] ≡ cond s (b ∷ []) (37 ∷ encode_upper (b ∷ [])) ++ y → ⊥
unfolding encode_with
percent_alone true b y is e = apart true b y [] is (sym e)
percent_alone false b y is e = cc

pub name_back : (a b : List ℕ) → IsBytes a → IsBytes b → escaped a ≡ escaped b → a ≡ b
name_back [] [] of_a of_b same = refl
name_back [] (b ∷ bs) of_a of_b same = absurd (percent_alone (stands true b) b (escaped_bytes false bs) refl same)
name_back (a ∷ xs) [] of_a of_b same = absurd (percent_alone (stands true a) a (escaped_bytes false xs) refl (sym same))
name_back (a ∷ xs) (b ∷ bs) of_a of_b same = bytes_back true (a ∷ xs) (b ∷ bs) of_a of_b same

byte_has_none : (first : Bool) (b : ℕ) (s : Bool) → stands first b ≡ s → has_slash (cond s (b ∷ []) (37 ∷ encode_upper (b ∷ []))) ≡ false
unfolding encode_with
byte_has_none first b false is = rw (no_slash_digit (b / 16), no_slash_digit (b % 16)) refl
byte_has_none first b true is =
    elim (cases_Bool (nat_eq b 47)) [
      | inl t ↦ let e : b ≡ 47 = eqb-true b 47 t in let f : true ≡ false = sym is ∙ ap (stands first) e ∙ slash_is_escaped first in absurd cc
      | inr f ↦ rw f refl
    ]

bytes_have_none : (first : Bool) (bs : List ℕ) → has_slash (escaped_bytes first bs) ≡ false
bytes_have_none first [] = refl
bytes_have_none first (b ∷ bs) =
    list_any-append (λ x. nat_eq x 47) (escaped_byte first b) (escaped_bytes false bs)
    ∙ ap (λ (c : Bool). c || has_slash (escaped_bytes false bs)) (byte_has_none first b (stands first b) refl) ∙ bytes_have_none false bs

pub name_has_none : (name : List ℕ) → has_slash (escaped name) ≡ false
name_has_none [] = refl
name_has_none (b ∷ bs) = bytes_have_none true (b ∷ bs)

-- ---- folders

no_two_percents : (b : ℕ) (bs y : List ℕ) (s : Bool) → stands true b ≡ s → 37 ∷ 37 ∷ y ≡ cond s (b ∷ []) (37 ∷ encode_upper (b ∷ [])) ++ escaped_bytes false bs → ⊥
unfolding encode_with
no_two_percents b bs y true is e = apart true b (escaped_bytes false bs) (37 ∷ y) is (sym e)
no_two_percents b bs y false is e =
    let d : get_or upper_digits (b / 16) 0 ≡ 37 = cc in
    let f : true ≡ false = sym (ap (λ x. nat_eq x 37) d) ∙ no_percent_digit (b / 16) in cc

pub no_percents : (name y : List ℕ) → 37 ∷ 37 ∷ y ≡ escaped name → ⊥
no_percents [] y e = cc
no_percents (b ∷ bs) y e = no_two_percents b bs y (stands true b) refl e

home_apart : (own name : List ℕ) (s : Bool) → bytes_eq (escaped name) own ≡ s → own ≡ cond s (37 ∷ 37 ∷ escaped name) (escaped name) → ⊥
home_apart own name true is e =
    let longer : length (escaped name) ≡ length (37 ∷ 37 ∷ escaped name) = ap length ((bytes_eq-Decides (escaped name) own).0 is ∙ e) in omega arith
home_apart own name false is e =
    let f : true ≡ false = sym ((bytes_eq-Decides (escaped name) own).1 (sym e)) ∙ is in cc

others_apart : (a b : List ℕ) (s t : Bool) → IsBytes a → IsBytes b → cond s (37 ∷ 37 ∷ escaped a) (escaped a) ≡ cond t (37 ∷ 37 ∷ escaped b) (escaped b) → a ≡ b
others_apart a b true true of_a of_b e = name_back a b of_a of_b cc
others_apart a b true false of_a of_b e = absurd (no_percents b (escaped a) e)
others_apart a b false true of_a of_b e = absurd (no_percents a (escaped b) (sym e))
others_apart a b false false of_a of_b e = name_back a b of_a of_b e

-- ---- registries

both : (a b : Bool) → a ≡ true → b ≡ true → (a && b) ≡ true
both true b p q = q
both false b p q = absurd cc

-- numbers that are bytes by the test are bytes
pub bytes_by_test : (xs : List ℕ) → are_bytes xs ≡ true → IsBytes xs
bytes_by_test [] h i = omega arith
bytes_by_test (x ∷ xs) h zero = ltb-true x 256 (and_parts (nat_lt x 256) _ h).0
bytes_by_test (x ∷ xs) h (suc i) = bytes_by_test xs (and_parts (nat_lt x 256) _ h).1 i

-- and the other way round
pub bytes_pass : (xs : List ℕ) → IsBytes xs → are_bytes xs ≡ true
bytes_pass [] h = refl
bytes_pass (x ∷ xs) h = both _ _ (lt-ltb x 256 (h zero)) (bytes_pass xs (λ i. h (suc i)))

-- a text is bytes
pub text_bytes : (bs : List ℕ) → is_text bs ≡ true → IsBytes bs
text_bytes bs h = bytes_by_test bs (and_parts (are_bytes bs) (is_utf8 bs) h).0

pub folders_apart : (own : List ℕ) (a b : Registry) → is_named a ≡ true → is_named b ≡ true → folder_name own a ≡ folder_name own b → a ≡ b
folders_apart own None None of_a of_b e = refl
folders_apart own None (Some b) of_a of_b e = absurd (home_apart own b (bytes_eq (escaped b) own) refl e)
folders_apart own (Some a) None of_a of_b e = absurd (home_apart own a (bytes_eq (escaped a) own) refl (sym e))
folders_apart own (Some a) (Some b) of_a of_b e = ap Some (others_apart a b (bytes_eq (escaped a) own) (bytes_eq (escaped b) own) (text_bytes a of_a) (text_bytes b of_b) e)

-- the home registry's folder is no other's
pub no_other_home : (own name : List ℕ) → own ≡ folder_name own (Some name) → ⊥
no_other_home own name e = home_apart own name (bytes_eq (escaped name) own) refl e

rest_of : (a b : ℕ) (x y : List ℕ) → a ∷ x ≡ b ∷ y → x ≡ y
rest_of a b x y e = cc

pub paths_apart : (place : Place) (a b : Registry) → is_named a ≡ true → is_named b ≡ true → folder_path place a ≡ folder_path place b → a ≡ b
paths_apart place a b of_a of_b e = folders_apart place.own a b of_a of_b (rest_of 47 47 _ _ (append_cancel_left place.parent _ _ e))

pub folder_has_none : (own : List ℕ) (r : Registry) → has_slash own ≡ false → has_slash (folder_name own r) ≡ false
folder_has_none own None none = none
folder_has_none own (Some name) none = go (bytes_eq (escaped name) own)
  where
    go : (s : Bool) → has_slash (cond s (37 ∷ 37 ∷ escaped name) (escaped name)) ≡ false
    go true = name_has_none name
    go false = name_has_none name

-- ---- names of folders that can be registries'

or_left : (a b : Bool) → a ≡ true → (a || b) ≡ true
or_left true b e = refl
or_left false b e = absurd cc

or_right : (a b : Bool) → b ≡ true → (a || b) ≡ true
or_right true b e = refl
or_right false b e = e

-- what passes for all of some numbers passes at each place of them
at_within : (p : ℕ → Bool) (xs : List ℕ) → list_all p xs ≡ true → (i : ℕ) → i < length xs → p (get_or xs i 0) ≡ true
at_within p [] all i lt = absurd (omega arith)
at_within p (x ∷ xs) all zero lt = (and_parts (p x) (list_all p xs) all).0
at_within p (x ∷ xs) all (suc i) lt = at_within p xs (and_parts (p x) (list_all p xs) all).1 i (omega arith)

digit_passes : (i : ℕ) → i < 16 → is_of_name false (get_or upper_digits i 0) ≡ true
digit_passes i lt = at_within (λ c. is_of_name false c) upper_digits refl i lt

high_digit : (b : ℕ) → b < 256 → b / 16 < 16
high_digit b lt = omega arith

low_digit : (b : ℕ) → b % 16 < 16
low_digit b = omega arith

-- the digits of a byte, and what is behind them
digits_pass : (b : ℕ) (ys : List ℕ) → b < 256 → list_all (λ c. is_of_name false c) ys ≡ true → list_all (λ c. is_of_name false c) (encode_upper (b ∷ []) ++ ys) ≡ true
unfolding encode_with
digits_pass b ys lt rest = both _ _ (digit_passes (b / 16) (high_digit b lt)) (both _ _ (digit_passes (b % 16) (low_digit b)) rest)

byte_passes : (b : ℕ) (ys : List ℕ) (s : Bool) → stands false b ≡ s → b < 256 → list_all (λ c. is_of_name false c) ys ≡ true
    → list_all (λ c. is_of_name false c) (cond s (b ∷ []) (37 ∷ encode_upper (b ∷ [])) ++ ys) ≡ true
byte_passes b ys true is lt rest = both _ _ (or_left _ _ is) rest
byte_passes b ys false is lt rest = both _ _ refl (digits_pass b ys lt rest)

bytes_pass_escaped : (bs : List ℕ) → IsBytes bs → list_all (λ c. is_of_name false c) (escaped_bytes false bs) ≡ true
bytes_pass_escaped [] is = refl
bytes_pass_escaped (b ∷ bs) is = byte_passes b (escaped_bytes false bs) (stands false b) refl (is zero) (bytes_pass_escaped bs (rest_bytes b bs is))

first_passes : (b : ℕ) (ys : List ℕ) (s : Bool) → stands true b ≡ s → b < 256 → list_all (λ c. is_of_name false c) ys ≡ true → is_plain (cond s (b ∷ []) (37 ∷ encode_upper (b ∷ [])) ++ ys) ≡ true
first_passes b ys true is lt rest = both _ _ (or_left _ _ is) rest
first_passes b ys false is lt rest = both _ _ refl (digits_pass b ys lt rest)

escaped_plain : (name : List ℕ) → IsBytes name → is_plain (escaped name) ≡ true
escaped_plain [] is = refl
escaped_plain (b ∷ bs) is = first_passes b (escaped_bytes false bs) (stands true b) refl (is zero) (bytes_pass_escaped bs (rest_bytes b bs is))

-- what a first byte may be, each byte may be
or_more : (a b c d p : Bool) → ((a || (b || (c || false))) || p) ≡ true → ((a || (b || (c || d))) || p) ≡ true
or_more true b c d p e = refl
or_more false true c d p e = refl
or_more false false true d p e = refl
or_more false false false d p e = or_right d p e

plain_all : (name : List ℕ) → is_plain name ≡ true → list_all (λ c. is_of_name false c) name ≡ true
plain_all [] e = refl
plain_all (b ∷ bs) e =
    let parts = and_parts (is_of_name true b) _ e in both _ _ (or_more (is_ascii_alphanumeric b) (nat_eq b 45) (nat_eq b 95) (nat_eq b 46) (nat_eq b 37) parts.0) parts.1

named_plain : (name : List ℕ) (s : Bool) → IsBytes name → is_plain (cond s (37 ∷ 37 ∷ escaped name) (escaped name)) ≡ true
named_plain name true is = both _ _ refl (both _ _ refl (plain_all (escaped name) (escaped_plain name is)))
named_plain name false is = escaped_plain name is

-- the folder of a registry passes
pub folder_passes : (own : List ℕ) (r : Registry) → is_named r ≡ true → is_folder own (folder_name own r) ≡ true
folder_passes own None named = or_left _ _ (nat_list_eq_equiv.refl own)
folder_passes own (Some name) named = or_right _ _ (named_plain name (bytes_eq (escaped name) own) (text_bytes name named))
