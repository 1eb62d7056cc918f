-- What the bodies of a client's requests mean.
use Rattle.std.proofs.Common.{◌≡◌, ◌<◌, ◌≤◌, ◌^◌, ◌∷◌, ◌++◌, [], ℕ, suc, max, List, Bool, true, Option, Some, None, Less, Equal, Greater, Ordering, codes, refl, sym, ◌∙◌, ap, subst, map, cond, arith}
use Rattle.std.proofs.lemmas.Str.{is_utf8-from_IsUtf8, IsUtf8-append, IsUtf8-from_ascii}
use Rattle.std.proofs.lemmas.Str.Ascii.{IsAscii-cons, IsAscii-nil}
use Rattle.hex.specs.Hex.{encode_lower, lower_digits}
use Rattle.hex.proofs.HexLemmas.{IsAscii-encode_with}
use Rattle.json.proofs.Printed.Utf8.{are_ascii, IsUtf8-are_ascii}
use Rattle.std.proofs.lemmas.Bool.{and_parts, ltb-true}
use Rattle.std.specs.Prelude.{Ok, fold, nat_lt, IfSome, IsAscii, IsUtf8}
use Rattle.std.specs.BTreeMap.{insert_entry}
use Rattle.std.specs.Cmp.Lexicographic.{slice_cmp}
use Rattle.std.specs.List.{AllByRecursion}
use Rattle.std.specs.Map.{keys_of}
use Rattle.std.specs.Ordering.{match_ordering, nat_cmp}
use Rattle.serde_json.specs.Data.{Data, Members, no_members, member, put, depth, items_depth, members_depth}
use Rattle.serde_json.specs.Read.{max_depth, read}
use Rattle.serde_json.specs.View.{items_of}
use Rattle.serde_json.specs.Written.{compact_text}
use Rattle.warg_values.specs.Reading.{◌>>=◌}
use Rattle.warg_hash.specs.Hash.{hash_text}
use Rattle.warg_exchange.specs.Body.{required, number_in, text_in, nullable_in, each_item, each_member, digest_in_text}
use Rattle.warg_exchange.specs.Requests.{token_data, logs_data, inclusion_data, consistency_data, whole_number}
use Rattle.warg_exchange.specs.declared.exchange.Method.TheVariants.{Post}
use Rattle.warg_reply.specs.Order.{by_text, ascending, NameThemselves}
use Rattle.warg_reply.specs.OrderLaws.{Entries, Ascend, AreRead, Reads, ascend_insert, read_put, read_all, members_nest}
use Rattle.warg_names.specs.Cut.{behind}
use Rattle.warg_names.specs.CutLaws.{behind-append}
use Rattle.warg_vectors.specs.Asked.{RegistryAsked, Logs, Inclusion, Consistency, OfRegistry, home, logs_in, inclusion_in, consistency_in, value_asked, meant_asked, asked_at}
use Rattle.warg_vectors.proofs.JsonLaws.{AllAbove, IsPlain, ItemsArePlain, MembersArePlain, is_text, read_back}

-- ---- tokens by the ids of their logs

abbrev Token : Type 0
Token = Option (List ℕ)

-- the members that are put for logs
abbrev put_all : Members → Entries Token → Members
put_all ms logs = fold (λ ms l. put (hash_text l.0) (token_data l.1) ms) ms logs

abbrev ordered : Entries Token → Entries Token → Entries Token
ordered sorted logs = fold (λ done e. insert_entry by_text done e.0 e.1) sorted logs

token_read : (t : Token) → Reads (nullable_in text_in) 0 (token_data t) t
token_read None = (refl, omega arith)
token_read (Some token) = (refl, omega arith)

-- each member that is put is read as its entry
all_read : (logs : Entries Token) (ms : Members) (es : Entries Token) → NameThemselves logs → Ascend es → AreRead (nullable_in text_in) 0 ms es → Ascend (ordered es logs) × AreRead (nullable_in text_in) 0 (put_all ms logs) (ordered es logs)
all_read [] ms es named up are = (up, are)
all_read (l ∷ logs) ms es named up are =
    all_read logs (put (hash_text l.0) (token_data l.1) ms) (insert_entry by_text es l.0 l.1) named.1 (ascend_insert es l.0 l.1 up) (read_put (nullable_in text_in) 0 ms es l.0 l.1 (token_data l.1) named.0 (token_read l.1) are)

-- ---- they are plain

-- tokens are UTF-8
abbrev pub AreTexts : Entries Token → Type 0
AreTexts logs = AllByRecursion (λ l. IfSome l.1 IsUtf8) logs

name : (text : List ℕ) → are_ascii text ≡ true → IsUtf8 text
name text ascii = IsUtf8-are_ascii text ascii

abbrev ValuesArePlain : Members → Type 0
ValuesArePlain no_members = Unit {0}
ValuesArePlain (member k d ms) = IsPlain d × ValuesArePlain ms

plain_at : (o : Ordering) (k : List ℕ) (d : Data) (name : List ℕ) (e : Data) (ms rest : Members) → IsPlain d → ValuesArePlain (member name e ms) → ValuesArePlain rest
    → ValuesArePlain (match_ordering o (member k d (member name e ms)) (member name d ms) (member name e rest))
plain_at Less k d name e ms rest plain all more = (plain, all)
plain_at Equal k d name e ms rest plain all more = (plain, all.1)
plain_at Greater k d name e ms rest plain all more = (all.0, more)

put_plain : (k : List ℕ) (d : Data) (ms : Members) → IsPlain d → ValuesArePlain ms → ValuesArePlain (put k d ms)
put_plain k d no_members plain all = (plain, tt)
put_plain k d (member name e ms) plain all = plain_at (slice_cmp nat_cmp k name) k d name e ms (put k d ms) plain all (put_plain k d ms plain all.1)

token_plain : (t : Token) → IfSome t IsUtf8 → IsPlain (token_data t)
token_plain None utf8 = tt
token_plain (Some token) utf8 = utf8

all_plain : (logs : Entries Token) (ms : Members) → AreTexts logs → ValuesArePlain ms → ValuesArePlain (put_all ms logs)
all_plain [] ms texts all = all
all_plain (l ∷ logs) ms texts all = all_plain logs (put (hash_text l.0) (token_data l.1) ms) texts.1 (put_plain (hash_text l.0) (token_data l.1) ms (token_plain l.1 texts.0) all)

all_ascii : (text : List ℕ) → are_ascii text ≡ true → IsAscii text
all_ascii [] ascii = IsAscii-nil
all_ascii (b ∷ text) ascii = let p = and_parts (nat_lt b 128) (are_ascii text) ascii in IsAscii-cons b text (ltb-true b 128 p.0) (all_ascii text p.1)

digits_are_ascii : IsAscii lower_digits
digits_are_ascii = all_ascii lower_digits refl

-- the text of a hash is ASCII
hash_is_text : (digest : List ℕ) → IsUtf8 (hash_text digest)
hash_is_text digest =
    IsUtf8-append (codes "sha256:") (encode_lower digest) (IsUtf8-are_ascii (codes "sha256:") refl) (IsUtf8-from_ascii (encode_lower digest) (IsAscii-encode_with lower_digits digest digits_are_ascii))

above_all : (k : List ℕ) (ms : Members) (es : Entries Token) → AreRead (nullable_in text_in) 0 ms es → AllByRecursion (λ l. by_text k l ≡ Less) (keys_of es) → AllAbove (hash_text k) ms
above_all k no_members [] are above = tt
above_all k no_members (e ∷ es) are above = absurd are
above_all k (member name d ms) [] are above = absurd are
above_all k (member name d ms) (e ∷ es) are above =
    (subst (λ (n : List ℕ). slice_cmp nat_cmp (hash_text k) n ≡ Less) (sym are.0) above.0, above_all k ms es are.3 above.1)

members_plain : (ms : Members) (es : Entries Token) → AreRead (nullable_in text_in) 0 ms es → Ascend es → ValuesArePlain ms → MembersArePlain ms
members_plain no_members es are up plain = tt
members_plain (member name d ms) [] are up plain = absurd are
members_plain (member name d ms) (e ∷ es) are up plain =
    (subst (λ (n : List ℕ). AllAbove n ms) (sym are.0) (above_all e.0 ms es are.3 up.0), subst IsUtf8 (sym are.0) (hash_is_text e.0), plain.0, members_plain ms es are.3 up.1 plain.1)

-- ---- a request with a body

post_read : (base path : List ℕ) (d : Data) (asked : RegistryAsked) → base ≡ home → IsPlain d → depth d ≤ max_depth → value_asked path d ≡ Ok asked
    → asked_at Post (behind home (base ++ path)) (compact_text d) ≡ OfRegistry asked
post_read base path d asked at plain shallow meant =
    let body = compact_text d in
    ap (λ (b : List ℕ). asked_at Post (behind home (b ++ path)) body) at
    ∙ ap (λ (o : Option (List ℕ)). asked_at Post o body) (behind-append home path)
    ∙ ap (λ (b : Bool). meant_asked (required (cond b (read body) None) >>= value_asked path)) (is_utf8-from_IsUtf8 body (is_text d plain))
    ∙ ap (λ (o : Option Data). meant_asked (required o >>= value_asked path)) (read_back d plain shallow)
    ∙ ap meant_asked meant

-- ---- logs

module _ (n : ℕ) (small : n < 2 ^ 64) (logs : Entries Token) (named : NameThemselves logs) (texts : AreTexts logs) where
  in_order : Ascend (ascending logs) × AreRead (nullable_in text_in) 0 (put_all no_members logs) (ascending logs)
  in_order = all_read logs no_members [] named tt tt

  plain_members : MembersArePlain (put_all no_members logs)
  plain_members = members_plain (put_all no_members logs) (ascending logs) in_order.1 in_order.0 (all_plain logs no_members texts tt)

  flat : members_depth (put_all no_members logs) ≡ 0
  flat = let le : members_depth (put_all no_members logs) ≤ 0 = members_nest (nullable_in text_in) 0 (put_all no_members logs) (ascending logs) in_order.1 in omega (arith, le)

  each : each_member digest_in_text (nullable_in text_in) [] (put_all no_members logs) ≡ Ok (ascending logs)
  each = read_all (nullable_in text_in) 0 (put_all no_members logs) (ascending logs) in_order.0 in_order.1

  logs_plain : (operator : Option (List ℕ)) → IfSome operator IsUtf8 → IsPlain (logs_data n operator logs)
  logs_plain None utf8 = ((refl, tt), name (codes "logLength") refl, small, (tt, name (codes "packages") refl, plain_members, tt))
  logs_plain (Some token) utf8 =
      ((refl, (refl, tt)), name (codes "logLength") refl, small, ((refl, tt), name (codes "operator") refl, utf8, (tt, name (codes "packages") refl, plain_members, tt)))

  logs_shallow : (operator : Option (List ℕ)) → depth (logs_data n operator logs) ≤ max_depth
  logs_shallow None = subst (λ (m : ℕ). suc (max 0 (max (suc m) 0)) ≤ max_depth) (sym flat) (omega arith)
  logs_shallow (Some token) = subst (λ (m : ℕ). suc (max 0 (max 0 (max (suc m) 0))) ≤ max_depth) (sym flat) (omega arith)

  pub logs_meant : (operator : Option (List ℕ)) → logs_in (logs_data n operator logs) ≡ Ok (Logs n operator (ascending logs))
  unfolding logs_in
  logs_meant None = rw each refl
  logs_meant (Some token) = rw each refl

  pub page_read : (base : List ℕ) (operator : Option (List ℕ)) → base ≡ home → IfSome operator IsUtf8
      → asked_at Post (behind home (base ++ codes "v1/fetch/logs")) (compact_text (logs_data n operator logs)) ≡ OfRegistry (Logs n operator (ascending logs))
  page_read base operator at utf8 =
      post_read base (codes "v1/fetch/logs") (logs_data n operator logs) (Logs n operator (ascending logs)) at (logs_plain operator utf8) (logs_shallow operator) (logs_meant operator)

-- ---- proofs

numbers_plain : (leafs : List ℕ) → AllByRecursion (λ l. l < 2 ^ 64) leafs → ItemsArePlain (items_of (map whole_number leafs))
numbers_plain [] small = tt
numbers_plain (l ∷ leafs) small = (small.0, numbers_plain leafs small.1)

numbers_flat : (leafs : List ℕ) → items_depth (items_of (map whole_number leafs)) ≡ 0
numbers_flat [] = refl
numbers_flat (l ∷ leafs) = ap (max 0) (numbers_flat leafs)

numbers_read : (leafs : List ℕ) → each_item number_in (items_of (map whole_number leafs)) ≡ Ok leafs
unfolding each_item
numbers_read [] = refl
numbers_read (l ∷ leafs) = rw (numbers_read leafs) refl

pub inclusion_read : (base : List ℕ) (n : ℕ) (leafs : List ℕ) → base ≡ home → n < 2 ^ 64 → AllByRecursion (λ l. l < 2 ^ 64) leafs
    → asked_at Post (behind home (base ++ codes "v1/proof/inclusion")) (compact_text (inclusion_data n leafs)) ≡ OfRegistry (Inclusion n leafs)
unfolding inclusion_in
inclusion_read base n leafs at small all_small =
    post_read base (codes "v1/proof/inclusion") (inclusion_data n leafs) (Inclusion n leafs) at ((refl, tt), name (codes "leafs") refl, numbers_plain leafs all_small, (tt, name (codes "logLength") refl, small, tt))
    (subst (λ (m : ℕ). suc (max (suc m) (max 0 0)) ≤ max_depth) (sym (numbers_flat leafs)) (omega arith)) (rw (numbers_read leafs) refl)

pub consistency_read : (base : List ℕ) (old new : ℕ) → base ≡ home → old < 2 ^ 64 → new < 2 ^ 64
    → asked_at Post (behind home (base ++ codes "v1/proof/consistency")) (compact_text (consistency_data old new)) ≡ OfRegistry (Consistency old new)
unfolding consistency_in
consistency_read base old new at small_old small_new =
    post_read base (codes "v1/proof/consistency") (consistency_data old new) (Consistency old new) at ((refl, tt), name (codes "from") refl, small_old, (tt, name (codes "to") refl, small_new, tt)) (omega arith) refl
