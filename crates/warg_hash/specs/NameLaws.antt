-- What is known of package names: a label holds no colon, so the first colon parts the two labels.
use Rattle.std.proofs.Common.{◌≡◌, ℕ, ◌<◌, ◌+◌, ◌==◌, nat_lt, ◌||◌, not, Bool, true, List, [], ◌∷◌, ◌++◌, length, get_or, drop, suc, add-one, refl, sym, ap, ◌∙◌, arith}
use Rattle.std.specs.List.{list_all, slice_split, join_with_byte, before_first, after_first, position_or_len}
use Rattle.std.proofs.lemmas.Bool.{and_parts, and_from, eqb-true, lt-ltb, ltb-true}
use Rattle.std.proofs.lemmas.Bool.Decides.{nat_tests}
use Rattle.std.proofs.lemmas.List.{length-append, take_at}
use Rattle.std.proofs.lemmas.List.Sums.{split_at_first, passes_at_first}
use Rattle.std.proofs.lemmas.List.Splits.{join_with_byte-slice_split}
use Rattle.warg_hash.specs.Name.{is_lower, is_digit, is_word, is_label, is_colon, is_package_name, IsNameOf, IsPackageName}

abbrev no_colon : ℕ → Bool
no_colon b = not (is_colon b)

-- a weaker test passes where a stronger one does
list_all-weaker : (p q : ℕ → Bool) → ((b : ℕ) → p b ≡ true → q b ≡ true) → (xs : List ℕ) → list_all p xs ≡ true → list_all q xs ≡ true
list_all-weaker p q h [] all = refl
list_all-weaker p q h (x ∷ xs) all =
    let a = and_parts _ _ all in and_from _ _ (h x a.0) (list_all-weaker p q h xs a.1)

lower_is_no_colon : (b : ℕ) → is_lower b ≡ true → no_colon b ≡ true
lower_is_no_colon b h = grind (arith, nat_tests)

byte_is_no_colon : (b : ℕ) → (is_lower b || is_digit b) ≡ true → no_colon b ≡ true
byte_is_no_colon b h = grind (arith, nat_tests)

word_has_no_colon : (word : List ℕ) → is_word word ≡ true → list_all no_colon word ≡ true
word_has_no_colon [] h = refl
word_has_no_colon (b ∷ rest) h =
    let a = and_parts _ _ h in
    and_from _ _ (lower_is_no_colon b a.0) (list_all-weaker _ _ byte_is_no_colon rest a.1)

list_all-append : (p : ℕ → Bool) (xs ys : List ℕ) → list_all p xs ≡ true → list_all p ys ≡ true → list_all p (xs ++ ys) ≡ true
list_all-append p [] ys h k = k
list_all-append p (x ∷ xs) ys h k =
    let a = and_parts _ _ h in and_from _ _ a.0 (list_all-append p xs ys a.1 k)

words_have_no_colon : (words : List (List ℕ)) → list_all is_word words ≡ true → list_all no_colon (join_with_byte 45 words) ≡ true
words_have_no_colon [] h = refl
words_have_no_colon (word ∷ []) h = word_has_no_colon word (and_parts _ _ h).0
words_have_no_colon (word ∷ next ∷ words) h =
    let a = and_parts _ _ h in
    list_all-append no_colon word _ (word_has_no_colon word a.0) (words_have_no_colon (next ∷ words) a.1)

-- a label holds no colon
label_has_no_colon : (label : List ℕ) → is_label label ≡ true → list_all no_colon label ≡ true
label_has_no_colon label h =
    rw (join_with_byte-slice_split 45 label) at (words_have_no_colon (slice_split (λ b. b == 45) label) h)

-- the first colon stands behind a label
position-colon : (label rest : List ℕ) → list_all no_colon label ≡ true → position_or_len is_colon (label ++ 58 ∷ rest) ≡ length label
position-colon [] rest h = refl
position-colon (b ∷ label) rest h =
    let a = and_parts (no_colon b) (list_all no_colon label) h in
    rw a.0 (omega (arith, position-colon label rest a.1))

drop_past : (label rest : List ℕ) → drop (suc (length label)) (label ++ 58 ∷ rest) ≡ rest
drop_past [] rest = refl
drop_past (b ∷ label) rest = drop_past label rest

-- what is tested is the form
pub is_package_name-sound : (text : List ℕ) → is_package_name text ≡ true
    → IsNameOf text (before_first is_colon text) (after_first is_colon text)
is_package_name-sound text h =
    let a = and_parts _ _ h in
    let b = and_parts _ _ a.1 in
    let lt : position_or_len is_colon text < length text = ltb-true _ _ a.0 in
    let colon : get_or text (position_or_len is_colon text) 58 ≡ 58 = eqb-true _ _ (passes_at_first is_colon text 58 lt) in
    record {
      joined = split_at_first is_colon text 58 lt ∙ ap (λ (c : ℕ). before_first is_colon text ++ c ∷ after_first is_colon text) colon;
      namespace_is_label = b.0;
      name_is_label = b.1;
    }

first_colon : (text namespace name : List ℕ) → IsNameOf text namespace name → position_or_len is_colon text ≡ length namespace
first_colon text namespace name parts =
    ap (position_or_len is_colon) parts.joined ∙ position-colon namespace name (label_has_no_colon namespace parts.namespace_is_label)

-- the labels of a name stand before and after its first colon
pub labels_of : (text namespace name : List ℕ) → IsNameOf text namespace name → (namespace ≡ before_first is_colon text) × (name ≡ after_first is_colon text)
labels_of text namespace name parts =
    let place = first_colon text namespace name parts in
    let before : before_first is_colon text ≡ namespace = rw (place, parts.joined) (take_at namespace (58 ∷ name) (length namespace) refl) in
    let after : after_first is_colon text ≡ name = rw (place, parts.joined, add-one) (drop_past namespace name) in
    (sym before, sym after)

-- the form is what is tested
pub is_package_name-complete : (text : List ℕ) → IsPackageName text → is_package_name text ≡ true
is_package_name-complete text h =
    let parts = h.2 in
    let place = first_colon text h.0 h.1 parts in
    let len : length text ≡ length h.0 + suc (length h.1) = ap length parts.joined ∙ length-append h.0 (58 ∷ h.1) in
    let labels = labels_of text h.0 h.1 parts in
    let before : before_first is_colon text ≡ h.0 = sym labels.0 in
    let after : after_first is_colon text ≡ h.1 = sym labels.1 in
    let first : nat_lt (position_or_len is_colon text) (length text) ≡ true = lt-ltb (position_or_len is_colon text) (length text) (omega arith) in
    let namespace : is_label (before_first is_colon text) ≡ true = ap is_label before ∙ parts.namespace_is_label in
    let name : is_label (after_first is_colon text) ≡ true = ap is_label after ∙ parts.name_is_label in
    and_from _ _ first (and_from _ _ namespace name)

-- a name that is tested is a name
pub is_package_name-name : (text : List ℕ) → is_package_name text ≡ true → IsPackageName text
is_package_name-name text h = (before_first is_colon text, after_first is_colon text, is_package_name-sound text h)
