-- The way back: from a folder's name to that of its registry, from digits to an id, and from a path to a log.
use Rattle.std.proofs.Common.{◌≡◌, ◌<◌, ◌+◌, ◌/◌, ◌%◌, ℕ, zero, suc, Bool, true, false, true≢false, ◌&&◌, cond, nat_eq, codes, List, [], ◌∷◌, ◌++◌, get_or, bytes_eq, Option, Some, None, Ok, Err, Bor, refl, sym, ap, ◌∙◌, ◌⊎◌, inl, inr, arith, append_assoc}
use Rattle.std.specs.Char.{digit_value}
use Rattle.std.specs.Option.{MatchOption}
use Rattle.std.specs.Str.{is_utf8, IsUtf8}
use Rattle.std.specs.Str.Pattern.{FindsTextPrefix, StripsPrefix}
use Rattle.std.proofs.lemmas.Bool.{and_parts, cases_Bool, eqb-true}
use Rattle.std.proofs.lemmas.Bool.Decides.{nat_tests}
use Rattle.std.proofs.lemmas.List.{append_cancel_left}
use Rattle.std.proofs.lemmas.Str.{IsUtf8-from_is_utf8}
use Rattle.hex.specs.Hex.{IsBytes, decode_of, encode_lower, encode_upper, encode_with, upper_digits}
use Rattle.hex.specs.declared.error.FromHexError.{FromHexError}
use Rattle.hex.specs.declared.error.FromHexError.TheVariants.{OutOfMemory}
use Rattle.hex.proofs.HexLemmas.{decode_of-encode_lower, decode_of-same}
use Rattle.percent_encoding.specs.Percent.{percent_decode}
use Rattle.percent_encoding.proofs.PercentLemmas.{percent_decode-nil, percent_decode_escape, percent_decode_not_percent}
use Rattle.warg_store.specs.Held.{Package, Registry}
use Rattle.warg_registry_files.specs.Paths.{Place, are_bytes, escaped, escaped_bytes, folder_name, has_slash, is_log, is_named, is_text, package_path, stands}
use Rattle.warg_registry_files.proofs.FolderLaws.{apart, bytes_by_test, folder_has_none, name_back, no_percents, rest_bytes, text_bytes}
use Rattle.warg_registry_files.proofs.KeyLaws.{differ, first_part, log_name, package_at}
use Rattle.warg_registry_files.proofs.PathLaws.{slash_in, stripped}

-- ---- digits

-- whether the first digits have their values
digits_are : ℕ → Bool
digits_are zero = true
digits_are (suc n) = nat_eq (digit_value (get_or upper_digits n 0)) n && digits_are n

all_digits : digits_are 16 ≡ true
unfolding digits_are
all_digits = refl

below : (i n : ℕ) → i < suc n → nat_eq i n ≡ false → i < n
below i n lt f = grind (arith, nat_tests)

digit_is : (n i : ℕ) → digits_are n ≡ true → i < n → digit_value (get_or upper_digits i 0) ≡ i
unfolding digits_are
digit_is zero i h lt = absurd (omega arith)
digit_is (suc n) i h lt =
    let parts = and_parts (nat_eq (digit_value (get_or upper_digits n 0)) n) (digits_are n) h in
    elim (cases_Bool (nat_eq i n)) [
      | inl t ↦ let same : i ≡ n = eqb-true i n t in ap (λ (x : ℕ). digit_value (get_or upper_digits x 0)) same ∙ eqb-true (digit_value (get_or upper_digits n 0)) n parts.0 ∙ sym same
      | inr f ↦ digit_is n i parts.1 (below i n lt f)
    ]

digit_back : (i : ℕ) → i < 16 → digit_value (get_or upper_digits i 0) ≡ i
digit_back i lt = digit_is 16 i all_digits lt

-- ---- names

-- an escaped byte is the byte again
byte_decodes : (first : Bool) (b : ℕ) (rest : List ℕ) (s : Bool) → stands first b ≡ s → b < 256 → percent_decode (cond s (b ∷ []) (37 ∷ encode_upper (b ∷ [])) ++ rest) ≡ b ∷ percent_decode rest
unfolding encode_with
byte_decodes first b rest true is lt = percent_decode_not_percent b rest (λ e. apart first b [] [] is (ap (λ (x : ℕ). x ∷ []) e))
byte_decodes first b rest false is lt =
    let high = digit_back (b / 16) (omega arith) in
    let low = digit_back (b % 16) (omega arith) in
    percent_decode_escape 37 (get_or upper_digits (b / 16) 0) (get_or upper_digits (b % 16) 0) rest refl (omega (arith, high)) (omega (arith, low))
    ∙ ap (λ (n : ℕ). n ∷ percent_decode rest) (omega (arith, high, low))

bytes_decode : (first : Bool) (bs : List ℕ) → IsBytes bs → percent_decode (escaped_bytes first bs) ≡ bs
bytes_decode first [] is = percent_decode-nil
bytes_decode first (b ∷ bs) is =
    byte_decodes first b (escaped_bytes false bs) (stands first b) refl (is zero) ∙ ap (λ (l : List ℕ). b ∷ l) (bytes_decode false bs (rest_bytes b bs is))

-- an escaped name is the name again, but for the empty one
pub name_decodes : (name : List ℕ) → is_text name ≡ true → (escaped name ≡ 37 ∷ [] → ⊥) → percent_decode (escaped name) ≡ name
name_decodes [] is some = absurd (some refl)
name_decodes (b ∷ bs) is some = bytes_decode true (b ∷ bs) (text_bytes (b ∷ bs) is)

no_bytes : IsBytes []
no_bytes i = omega arith

pub empty_name : (name : List ℕ) → is_text name ≡ true → escaped name ≡ 37 ∷ [] → name ≡ []
empty_name name is e = name_back name [] (text_bytes name is) no_bytes e

pub text_utf8 : (name : List ℕ) → is_text name ≡ true → IsUtf8 name
text_utf8 name is = IsUtf8-from_is_utf8 name (and_parts (are_bytes name) (is_utf8 name) is).1

-- the name of a folder, without the mark
pub unmarked : (folder name found : List ℕ) → folder ≡ codes "%%" ++ found → (folder ≡ escaped name) ⊎ (folder ≡ 37 ∷ 37 ∷ escaped name) → found ≡ escaped name
unmarked folder name found is (inl e) = absurd (no_percents name found (sym is ∙ e))
unmarked folder name found is (inr e) = append_cancel_left (codes "%%") found (escaped name) (sym is ∙ e)

-- the folder of a registry that has a name has that, with the mark or without
pub marked_or_not : (own name : List ℕ) → (folder_name own (Some name) ≡ escaped name) ⊎ (folder_name own (Some name) ≡ 37 ∷ 37 ∷ escaped name)
marked_or_not own name = by (bytes_eq (escaped name) own)
  where
    by : (b : Bool) → (cond b (37 ∷ 37 ∷ escaped name) (escaped name) ≡ escaped name) ⊎ (cond b (37 ∷ 37 ∷ escaped name) (escaped name) ≡ 37 ∷ 37 ∷ escaped name)
    by true = inr refl
    by false = inl refl

marked : (own name folder : List ℕ) → folder ≡ folder_name own (Some name) → (folder_name own (Some name) ≡ escaped name) ⊎ (folder_name own (Some name) ≡ 37 ∷ 37 ∷ escaped name) → (folder ≡ escaped name) ⊎ (folder ≡ 37 ∷ 37 ∷ escaped name)
marked own name folder is (inl plain) = inl (is ∙ plain)
marked own name folder is (inr two) = inr (is ∙ two)

-- a folder's name is no registry's, where the one that it may be of has another
pub no_registry : (own folder plain : List ℕ) (o : Option (List ℕ)) → bytes_eq folder own ≡ false → ((name : List ℕ) → (folder ≡ escaped name) ⊎ (folder ≡ 37 ∷ 37 ∷ escaped name) → plain ≡ escaped name)
    → ((name : List ℕ) → is_text name ≡ true → plain ≡ escaped name → o ≡ Some name) → ((name : List ℕ) → o ≡ Some name → folder ≡ folder_name own (Some name) → ⊥) → (r : Registry) → is_named r ≡ true → folder ≡ folder_name own r → ⊥
no_registry own folder plain o other unmark decoded not None named is = differ folder own other is
no_registry own folder plain o other unmark decoded not (Some name) named is = not name (decoded name named (unmark name (marked own name folder is (marked_or_not own name)))) is

pub none_some : {X : Type 0} (x : X) → None ≡ Some x → ⊥
none_some x e = cc

-- ---- ids

-- what is behind a front
pub behind_front : (front text : List ℕ) (r : Option (Bor (List ℕ))) → MatchOption r (FindsTextPrefix front text None) (λ x. StripsPrefix (FindsTextPrefix front) text x.now) → MatchOption r ((rest : List ℕ) → text ≡ front ++ rest → ⊥) (λ x. text ≡ front ++ x.now)
behind_front front text None lacks = lacks
behind_front front text (Some x) h = stripped front text x.now h

pub no_id : (digits : List ℕ) (e : FromHexError) → (e ≡ OutOfMemory) ⊎ (decode_of digits ≡ Err e) → (e ≡ OutOfMemory → ⊥) → decode_of digits ≡ Err e
no_id digits e (inl wants) not = absurd (not wants)
no_id digits e (inr is) not = is

pub not_digits : (digits : List ℕ) (e : FromHexError) → decode_of digits ≡ Err e → (id : List ℕ) → are_bytes id ≡ true → digits ≡ encode_lower id → ⊥
not_digits digits e is id bytes same = failed (sym is ∙ ap decode_of same ∙ decode_of-encode_lower id (bytes_by_test id bytes))
  where
    failed : Err e ≡ Ok id → ⊥
    failed f = cc

pub other_digits : (digits found : List ℕ) → decode_of digits ≡ Ok found → (encode_lower found ≡ digits → ⊥) → (id : List ℕ) → are_bytes id ≡ true → digits ≡ encode_lower id → ⊥
other_digits digits found is other id bytes same =
    let one : found ≡ id = decode_of-same digits found id is (ap decode_of same ∙ decode_of-encode_lower id (bytes_by_test id bytes)) in
    other (ap (λ (x : List ℕ). encode_lower x) one ∙ sym same)

-- ---- paths of logs

pub both : (a b : Bool) → a ≡ true → b ≡ true → (a && b) ≡ true
both true b p q = q
both false b p q = absurd (true≢false (sym p))

module _ (place : Place) (path : List ℕ) where
  log_behind : (p : Package) → path ≡ package_path place p → path ≡ place.parent ++ 47 ∷ (folder_name place.own p.0 ++ 47 ∷ log_name p.1)
  log_behind p is = is ∙ package_at place p ∙ append_assoc place.parent (47 ∷ folder_name place.own p.0) (47 ∷ log_name p.1)

  pub no_log_outside : ((rest : List ℕ) → path ≡ place.parent ++ 47 ∷ rest → ⊥) → (p : Package) → is_log p ≡ true → path ≡ package_path place p → ⊥
  no_log_outside none p log is = none (folder_name place.own p.0 ++ 47 ∷ log_name p.1) (log_behind p is)

  module _ (inside : List ℕ) (is_behind : path ≡ place.parent ++ 47 ∷ inside) where
    log_inside : (p : Package) → path ≡ package_path place p → inside ≡ folder_name place.own p.0 ++ 47 ∷ log_name p.1
    log_inside p is = append_cancel_left (47 ∷ []) inside (folder_name place.own p.0 ++ 47 ∷ log_name p.1) (append_cancel_left place.parent (47 ∷ inside) (47 ∷ (folder_name place.own p.0 ++ 47 ∷ log_name p.1)) (sym is_behind ∙ log_behind p is))

    pub no_log_beside : has_slash inside ≡ false → (p : Package) → is_log p ≡ true → path ≡ package_path place p → ⊥
    no_log_beside none p log is = true≢false (sym (slash_in (folder_name place.own p.0) (log_name p.1)) ∙ ap has_slash (sym (log_inside p is)) ∙ none)

    module _ (single : has_slash place.own ≡ false) (folder entry : List ℕ) (parted : inside ≡ folder ++ 47 ∷ entry) (of_folder : has_slash folder ≡ false) where
      log_parts : (p : Package) → path ≡ package_path place p → (folder ≡ folder_name place.own p.0) × (entry ≡ log_name p.1)
      log_parts p is = first_part folder (folder_name place.own p.0) entry (log_name p.1) of_folder (folder_has_none place.own p.0 single) (sym parted ∙ log_inside p is)

      pub no_log_entry : ((rest : List ℕ) → entry ≡ codes "package-logs/sha256/" ++ rest → ⊥) → (p : Package) → is_log p ≡ true → path ≡ package_path place p → ⊥
      no_log_entry none p log is = none (encode_lower p.1) (log_parts p is).1

      module _ (digits : List ℕ) (of_log : entry ≡ codes "package-logs/sha256/" ++ digits) where
        pub no_log_digits : ((id : List ℕ) → are_bytes id ≡ true → digits ≡ encode_lower id → ⊥) → (p : Package) → is_log p ≡ true → path ≡ package_path place p → ⊥
        no_log_digits none p log is =
            none p.1 (and_parts (is_named p.0) (are_bytes p.1) log).1 (append_cancel_left (codes "package-logs/sha256/") digits (encode_lower p.1) (sym of_log ∙ (log_parts p is).1))

        pub no_log_folder : ((r : Registry) → is_named r ≡ true → folder ≡ folder_name place.own r → ⊥) → (p : Package) → is_log p ≡ true → path ≡ package_path place p → ⊥
        no_log_folder none p log is = none p.0 (and_parts (is_named p.0) (are_bytes p.1) log).0 (log_parts p is).0

        pub log_here : (r : Registry) (id : List ℕ) → is_named r ≡ true → folder ≡ folder_name place.own r → are_bytes id ≡ true → digits ≡ encode_lower id → (is_log (r, id) ≡ true) × (path ≡ package_path place (r, id))
        log_here r id named is_folder bytes is_id = (
          both (is_named r) (are_bytes id) named bytes,
          is_behind
              ∙ ap (λ (l : List ℕ). place.parent ++ 47 ∷ l) (parted ∙ ap (λ (l : List ℕ). l ++ 47 ∷ entry) is_folder ∙ ap (λ (l : List ℕ). folder_name place.own r ++ 47 ∷ l) (of_log ∙ ap (λ (l : List ℕ). codes "package-logs/sha256/" ++ l) is_id))
              ∙ sym (append_assoc place.parent (47 ∷ folder_name place.own r) (47 ∷ log_name id)) ∙ sym (package_at place (r, id)),
        )
