-- What is tested of a key's text is its form.
use Rattle.std.proofs.Common.{◌≡◌, ℕ, ◌<◌, ◌+◌, nat_lt, ◌&&◌, not, Bool, true, List, [], ◌∷◌, ◌++◌, length, get_or, drop, suc, add-one, is_ok, IsUtf8, refl, ap, ◌∙◌, arith}
use Rattle.std.specs.List.{list_all, before_first, after_first, position_or_len}
use Rattle.std.proofs.lemmas.Bool.{and_parts, and_from, eqb-true, lt-ltb, ltb-true}
use Rattle.std.proofs.lemmas.Bool.Decides.{nat_tests}
use Rattle.std.proofs.lemmas.List.{length-append, take_at}
use Rattle.std.proofs.lemmas.List.Sums.{split_at_first, passes_at_first}
use Rattle.base64.specs.Engines.{standard}
use Rattle.base64.specs.GeneralPurpose.{decode_of}
use Rattle.warg_hash.specs.Name.{is_colon}
use Rattle.warg_record.specs.Key.{is_kind_byte, is_key_text, IsKeyText}

abbrev no_colon : ℕ → Bool
no_colon b = not (is_colon b)

kind_byte_is_no_colon : (b : ℕ) → is_kind_byte b ≡ true → no_colon b ≡ true
kind_byte_is_no_colon b h = grind (arith, nat_tests)

-- the first colon stands behind the word
position-colon : (kind rest : List ℕ) → list_all is_kind_byte kind ≡ true → position_or_len is_colon (kind ++ 58 ∷ rest) ≡ length kind
position-colon [] rest h = refl
position-colon (b ∷ kind) rest h =
    let a = and_parts (is_kind_byte b) (list_all is_kind_byte kind) h in
    rw (kind_byte_is_no_colon b a.0) (omega (arith, position-colon kind rest a.1))

drop_past : (kind rest : List ℕ) → drop (suc (length kind)) (kind ++ 58 ∷ rest) ≡ rest
drop_past [] rest = refl
drop_past (b ∷ kind) rest = drop_past kind rest

-- the form is what is tested
pub is_key_text-complete : (text : List ℕ) → IsKeyText text → is_key_text text ≡ true
is_key_text-complete text h =
    let parts = h.2 in
    let place : position_or_len is_colon text ≡ length h.0 = ap (position_or_len is_colon) parts.joined ∙ position-colon h.0 h.1 parts.kind_is_word in
    let len : length text ≡ length h.0 + suc (length h.1) = ap length parts.joined ∙ length-append h.0 (58 ∷ h.1) in
    let before : before_first is_colon text ≡ h.0 = rw (place, parts.joined) (take_at h.0 (58 ∷ h.1) (length h.0) refl) in
    let after : after_first is_colon text ≡ h.1 = rw (place, parts.joined, add-one) (drop_past h.0 h.1) in
    let first : nat_lt (position_or_len is_colon text) (length text) ≡ true = lt-ltb (position_or_len is_colon text) (length text) (omega arith) in
    let there : nat_lt 0 (length (before_first is_colon text)) ≡ true = ap (λ (t : List ℕ). nat_lt 0 (length t)) before ∙ lt-ltb 0 (length h.0) parts.kind_is_there in
    let word : list_all is_kind_byte (before_first is_colon text) ≡ true = ap (list_all is_kind_byte) before ∙ parts.kind_is_word in
    let decodes : is_ok (decode_of standard (after_first is_colon text)) ≡ true = ap (λ (t : List ℕ). is_ok (decode_of standard t)) after ∙ parts.decodes in
    and_from _ _ first (and_from _ _ there (and_from _ _ word decodes))

-- what is tested of a text is its form
pub is_key_text-sound : (text : List ℕ) → IsUtf8 text → is_key_text text ≡ true → IsKeyText text
is_key_text-sound text is_text h =
    let kind = before_first is_colon text in
    let code = after_first is_colon text in
    let a = and_parts (nat_lt (position_or_len is_colon text) (length text)) (nat_lt 0 (length kind) && (list_all is_kind_byte kind && is_ok (decode_of standard code))) h in
    let b = and_parts (nat_lt 0 (length kind)) (list_all is_kind_byte kind && is_ok (decode_of standard code)) a.1 in
    let c = and_parts (list_all is_kind_byte kind) (is_ok (decode_of standard code)) b.1 in
    let lt : position_or_len is_colon text < length text = ltb-true _ _ a.0 in
    let colon : get_or text (position_or_len is_colon text) 58 ≡ 58 = eqb-true _ _ (passes_at_first is_colon text 58 lt) in (
      kind,
      code,
      record {
        is_text = is_text;
        joined = split_at_first is_colon text 58 lt ∙ ap (λ (x : ℕ). kind ++ x ∷ code) colon;
        kind_is_there = ltb-true _ _ b.0;
        kind_is_word = c.0;
        decodes = c.1;
      },
    )
