-- Values of texts and whole numbers are read back from their compact JSON (RFC 8259).
use Rattle.std.proofs.Common.{◌≡◌, ◌<◌, ◌≤◌, ◌^◌, max, ℕ, suc, Bool, true, false, List, [], ◌∷◌, ◌++◌, Some, Option, Less, Equal, Greater, Ordering, refl, sym, ◌∙◌, ap, ap₂, append-nil, arith}
use Rattle.std.specs.Prelude.{IsUtf8, option_map, option_and_then, decimal}
use Rattle.std.specs.Cmp.{IsTotalOrder}
use Rattle.std.specs.Cmp.Lexicographic.{slice_cmp}
use Rattle.std.specs.Ordering.{nat_cmp, match_ordering, ordering_reverse}
use Rattle.std.proofs.lemmas.Cmp.{nat_list_cmp_total}
use Rattle.std.proofs.lemmas.Fmt.{IsAscii-decimal}
use Rattle.std.proofs.lemmas.Str.{IsUtf8-append, IsUtf8-from_ascii, IsUtf8-nil}
use Rattle.json.specs.Print.{quoted}
use Rattle.json.specs.Token.{Token}
use Rattle.json.specs.Lex.{tokens}
use Rattle.json.specs.Json as json
use Rattle.json.specs.Tree as tree
use Rattle.json.proofs.Printed.Decimals.{IsNumber-decimal}
use Rattle.json.proofs.Printed.Tokens.{tokens-print}
use Rattle.json.proofs.Printed.Trees.{value-json_tokens, ArePrintable-json_tokens}
use Rattle.json.proofs.Printed.Utf8.{IsUtf8-are_ascii, IsUtf8-boolean, IsUtf8-quoted}
use Rattle.serde_json.specs.Data.{unsigned, negative, float, Data, null, boolean, number, string, array, object, Items, no_items, item, Members, no_members, member, put, depth, items_depth, members_depth}
use Rattle.serde_json.specs.Read.{of_json, of_items, of_members, max_depth, read}
use Rattle.serde_json.specs.Written.{outline, items_outline, members_outline, comma_if, compact_text, items_text, members_text}
use Rattle.serde_json.proofs.Numbers.{number_of-decimal}
use Rattle.serde_json.proofs.Texts.{print-outline}

-- each later name is above
abbrev pub AllAbove : List ℕ → Members → Type 0
AllAbove k no_members = Unit {0}
AllAbove k (member l d ms) = (slice_cmp nat_cmp k l ≡ Less) × AllAbove k ms

-- numbers are whole and fit 64 bits, texts are UTF-8, and the names of members ascend
abbrev mutual
  pub IsPlain : Data → Type 0
  IsPlain null = Unit {0}
  IsPlain (boolean b) = Unit {0}
  IsPlain (number (unsigned n)) = n < 2 ^ 64
  IsPlain (number (negative z)) = ⊥
  IsPlain (number (float x)) = ⊥
  IsPlain (string s) = IsUtf8 s
  IsPlain (array ds) = ItemsArePlain ds
  IsPlain (object ms) = MembersArePlain ms

  pub ItemsArePlain : Items → Type 0
  ItemsArePlain no_items = Unit {0}
  ItemsArePlain (item d ds) = IsPlain d × ItemsArePlain ds

  pub MembersArePlain : Members → Type 0
  MembersArePlain no_members = Unit {0}
  MembersArePlain (member k d ms) = AllAbove k ms × IsUtf8 k × IsPlain d × MembersArePlain ms

-- ---- what is printed

mutual
  has_numbers : (d : Data) → IsPlain d → tree.HasNumbers (outline d)
  has_numbers null plain = tt
  has_numbers (boolean b) plain = tt
  has_numbers (number (unsigned n)) plain = IsNumber-decimal n plain
  has_numbers (number (negative z)) plain = absurd plain
  has_numbers (number (float x)) plain = absurd plain
  has_numbers (string s) plain = tt
  has_numbers (array ds) plain = items_have_numbers ds plain
  has_numbers (object ms) plain = members_have_numbers ms plain

  items_have_numbers : (ds : Items) → ItemsArePlain ds → tree.ItemsHaveNumbers (items_outline ds)
  items_have_numbers no_items plain = tt
  items_have_numbers (item d ds) plain = (has_numbers d plain.0, items_have_numbers ds plain.1)

  members_have_numbers : (ms : Members) → MembersArePlain ms → tree.MembersHaveNumbers (members_outline ms)
  members_have_numbers no_members plain = tt
  members_have_numbers (member k d ms) plain = (has_numbers d plain.2, members_have_numbers ms plain.3)

comma_is_text : (later : Bool) → IsUtf8 (comma_if later)
comma_is_text true = IsUtf8-are_ascii (44 ∷ []) refl
comma_is_text false = IsUtf8-nil

mutual
  pub is_text : (d : Data) → IsPlain d → IsUtf8 (compact_text d)
  is_text null plain = IsUtf8-are_ascii (compact_text null) refl
  is_text (boolean b) plain = IsUtf8-boolean b
  is_text (number (unsigned n)) plain = IsUtf8-from_ascii (decimal n) (IsAscii-decimal n plain)
  is_text (number (negative z)) plain = absurd plain
  is_text (number (float x)) plain = absurd plain
  is_text (string s) plain = IsUtf8-quoted s plain
  is_text (array ds) plain = IsUtf8-append (91 ∷ []) (items_text false ds) (IsUtf8-are_ascii (91 ∷ []) refl) (items_are_text false ds plain)
  is_text (object ms) plain = IsUtf8-append (123 ∷ []) (members_text false ms) (IsUtf8-are_ascii (123 ∷ []) refl) (members_are_text false ms plain)

  items_are_text : (later : Bool) (ds : Items) → ItemsArePlain ds → IsUtf8 (items_text later ds)
  items_are_text later no_items plain = IsUtf8-are_ascii (93 ∷ []) refl
  items_are_text later (item d ds) plain =
      IsUtf8-append (comma_if later) (compact_text d ++ items_text true ds) (comma_is_text later) (IsUtf8-append (compact_text d) (items_text true ds) (is_text d plain.0) (items_are_text true ds plain.1))

  members_are_text : (later : Bool) (ms : Members) → MembersArePlain ms → IsUtf8 (members_text later ms)
  members_are_text later no_members plain = IsUtf8-are_ascii (125 ∷ []) refl
  members_are_text later (member k d ms) plain =
      let value = compact_text d ++ members_text true ms in
      IsUtf8-append (comma_if later) (quoted k ++ 58 ∷ value) (comma_is_text later)
      (IsUtf8-append (quoted k) (58 ∷ value) (IsUtf8-quoted k plain.1)
      (IsUtf8-append (58 ∷ []) value (IsUtf8-are_ascii (58 ∷ []) refl) (IsUtf8-append (compact_text d) (members_text true ms) (is_text d plain.2) (members_are_text true ms plain.3))))

mutual
  as_deep : (d : Data) → tree.depth (outline d) ≡ depth d
  as_deep null = refl
  as_deep (boolean b) = refl
  as_deep (number n) = refl
  as_deep (string s) = refl
  as_deep (array ds) = ap (λ (n : ℕ). suc n) (items_as_deep ds)
  as_deep (object ms) = ap (λ (n : ℕ). suc n) (members_as_deep ms)

  items_as_deep : (ds : Items) → tree.items_depth (items_outline ds) ≡ items_depth ds
  items_as_deep no_items = refl
  items_as_deep (item d ds) = ap₂ max (as_deep d) (items_as_deep ds)

  members_as_deep : (ms : Members) → tree.members_depth (members_outline ms) ≡ members_depth ms
  members_as_deep no_members = refl
  members_as_deep (member k d ms) = ap₂ max (as_deep d) (members_as_deep ms)

-- ---- members behind others

abbrev snoc : Members → List ℕ → Data → Members
snoc no_members k d = member k d no_members
snoc (member l e ms) k d = member l e (snoc ms k d)

abbrev join : Members → Members → Members
join no_members others = others
join (member l e ms) others = member l e (join ms others)

-- the names of the second are above those of the first
abbrev Under : Members → Members → Type 0
Under no_members ms = Unit {0}
Under (member l e found) ms = AllAbove l ms × Under found ms

under_rest : (found : Members) (k : List ℕ) (d : Data) (ms : Members) → Under found (member k d ms) → Under found ms
under_rest no_members k d ms under = tt
under_rest (member l e found) k d ms under = (under.0.1, under_rest found k d ms under.1)

under_more : (found : Members) (k : List ℕ) (d : Data) (ms : Members) → Under found ms → AllAbove k ms → Under (snoc found k d) ms
under_more no_members k d ms under above = (above, tt)
under_more (member l e found) k d ms under above = (under.0, under_more found k d ms under.1 above)

order : IsTotalOrder (slice_cmp nat_cmp)
order = nat_list_cmp_total

put_at : (o : Ordering) (a b c : Members) → o ≡ Greater → match_ordering o a b c ≡ c
put_at Less a b c is = absurd cc
put_at Equal a b c is = absurd cc
put_at Greater a b c is = refl

put_last : (k : List ℕ) (d : Data) (found ms : Members) → Under found (member k d ms) → put k d found ≡ snoc found k d
put_last k d no_members ms under = refl
put_last k d (member l e found) ms under =
    put_at (slice_cmp nat_cmp k l) (member k d (member l e found)) (member l d found) (member l e (put k d found)) (order.antisymm k l ∙ ap ordering_reverse under.0.0)
    ∙ ap (member l e) (put_last k d found ms under.1)

join_more : (found : Members) (k : List ℕ) (d : Data) (ms : Members) → join (snoc found k d) ms ≡ join found (member k d ms)
join_more no_members k d ms = refl
join_more (member l e found) k d ms = ap (member l e) (join_more found k d ms)

join_none : (found : Members) → found ≡ join found no_members
join_none no_members = refl
join_none (member l e found) = ap (member l e) (join_none found)

-- ---- what is read

mutual
  of_outline : (d : Data) → IsPlain d → of_json (outline d) ≡ Some d
  of_outline null plain = refl
  of_outline (boolean b) plain = refl
  of_outline (number (unsigned n)) plain = ap (option_map number) (number_of-decimal n plain)
  of_outline (number (negative z)) plain = absurd plain
  of_outline (number (float x)) plain = absurd plain
  of_outline (string s) plain = refl
  of_outline (array ds) plain = ap (option_map array) (of_items_outline ds plain)
  of_outline (object ms) plain = ap (option_map object) (of_members_outline no_members ms tt plain)

  of_items_outline : (ds : Items) → ItemsArePlain ds → of_items (items_outline ds) ≡ Some ds
  of_items_outline no_items plain = refl
  of_items_outline (item d ds) plain =
      ap (option_and_then (λ e. option_map (item e) (of_items (items_outline ds)))) (of_outline d plain.0) ∙ ap (option_map (item d)) (of_items_outline ds plain.1)

  of_members_outline : (found ms : Members) → Under found ms → MembersArePlain ms → of_members (members_outline ms) found ≡ Some (join found ms)
  of_members_outline found no_members under plain = ap (λ (ms : Members). Some ms) (join_none found)
  of_members_outline found (member k d ms) under plain =
      ap (option_and_then (λ e. of_members (members_outline ms) (put k e found))) (of_outline d plain.2)
      ∙ ap (λ (next : Members). of_members (members_outline ms) next) (put_last k d found ms under)
      ∙ of_members_outline (snoc found k d) ms (under_more found k d ms (under_rest found k d ms under) plain.0) plain.3
      ∙ ap (λ (all : Members). Some all) (join_more found k d ms)

-- the value that tokens are which were read as JSON
abbrev whole : Option (json.Json × List Token) → Option Data
whole o = option_and_then of_json (option_and_then (λ p. json.if_last p.0 p.1) o)

tokens_of : (d : Data) → IsPlain d → tokens (compact_text d) ≡ tree.json_tokens (outline d)
tokens_of d plain = ap tokens (sym (print-outline d)) ∙ tokens-print (tree.json_tokens (outline d)) (ArePrintable-json_tokens (outline d) (has_numbers d plain))

pub read_back : (d : Data) → IsPlain d → depth d ≤ max_depth → read (compact_text d) ≡ Some d
read_back d plain shallow =
    let j = outline d in
    let same : tree.depth j ≡ depth d = as_deep d in
    let deep : tree.depth j ≤ max_depth = omega (arith, same, shallow) in
    ap whole (ap (json.value max_depth) (tokens_of d plain ∙ sym (append-nil (tree.json_tokens j))) ∙ value-json_tokens j max_depth [] deep) ∙ of_outline d plain
