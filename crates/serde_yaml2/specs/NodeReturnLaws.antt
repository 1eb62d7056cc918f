-- What is written for a value of any kind that comes back is read as itself.
use Rattle.std.proofs.Common.{◌≡◌, ℕ, suc, ◌^◌, ◌<◌, ◌≤◌, ◌-◌, List, [], ◌∷◌, ◌++◌, drop, Bool, true, false, ◌&&◌, int_le, neg_ℤ, Option, Some, option_map, option_and_then, refl, sym, ap, ◌∙◌, subst, arith, ℤ, pos, negsuc, append_assoc, bytes_eq}
use Rattle.std.specs.Fmt.{decimal, signed_decimal}
use Rattle.std.specs.List.{IsDistinct}
use Rattle.std.specs.Map.{keys_of}
use Rattle.std.specs.Char.{digit_value}
use Rattle.std.specs.Str.Parse.{AllDigits}
use Rattle.std.proofs.lemmas.Fmt.{decimal_is_IsNumeral}
use Rattle.std.proofs.lemmas.Bool.{ne_eqb, le-leb}
use Rattle.std.proofs.lemmas.Int.{ints}
use Rattle.std.proofs.lemmas.List.{append-nil}
use Rattle.std.proofs.lemmas.Map.Keys.{IsDistinct-head, IsDistinct-tail}
use Rattle.indexmap.specs.IndexMap.{insert_entry}
use Rattle.yaml_small.specs.Data as tree
use Rattle.yaml_small.specs.Data.{Data, Items, Members, items_of, members_of}
use Rattle.yaml_small.specs.Places.{begins}
use Rattle.yaml_small.specs.Schema.{integer, signed, number, resolved_of}
use Rattle.yaml_text.specs.Written.{ReadsBack, ElementsReadBack, MembersReadBack, tree_of, trees_of, pairs_of}
use Rattle.yaml_read.specs.Any.{data_of, items_from, entries_from, kind_data, listed, mapped}
use Rattle.yaml_read.specs.Collections.{pushed}
use Rattle.yaml_read.specs.Nodes.{value_of}
use Rattle.yaml_read.specs.NumberLaws.{numeral_true}
use Rattle.serde_yaml2.specs.Nodes.{data_written, items_written, members_written}
use Rattle.serde_yaml2.specs.NodeReturns.{DataReturns, ItemsReturn, MembersReturn, entries_in}
use Rattle.serde_yaml2.specs.Returns.{IsBetween}
use Rattle.serde_yaml2.specs.ReturnLaws.{AreNew, none_new, still_new, insert_new, both, signed_reads_back}

-- what is written reads back
mutual
  pub data_reads_back : (d : Data) → DataReturns d → ReadsBack (data_written d)
  data_reads_back (tree.integer n) h = signed_reads_back (negsuc 9223372036854775807) (pos 9223372036854775807) n refl refl h
  data_reads_back (tree.text t) h = h.0
  data_reads_back (tree.boolean b) h = tt
  data_reads_back (tree.array ds) h = items_read_back ds h
  data_reads_back (tree.hash ms) h = members_read_back ms h.1
  data_reads_back tree.null h = tt

  pub items_read_back : (ds : Items) → ItemsReturn ds → ElementsReadBack (items_written ds)
  items_read_back tree.no_items h = tt
  items_read_back (tree.item d ds) h = (data_reads_back d h.0, items_read_back ds h.1)

  pub members_read_back : (ms : Members) → MembersReturn ms → MembersReadBack (members_written ms)
  members_read_back tree.no_members h = tt
  members_read_back (tree.member key d ms) h = (h.0, data_reads_back d h.1, members_read_back ms h.2)

-- digits begin with no letter and no sign
begins_none : (letter : ℕ) (ds : List ℕ) → (digit_value letter < 10 → ⊥) → AllDigits 10 ds → begins letter ds ≡ false
begins_none letter [] none h = refl
begins_none letter (c ∷ cs) none h = ne_eqb c letter (λ e. none (subst (λ (x : ℕ). digit_value x < 10) e h.0))

digits_behind : (ds : List ℕ) → AllDigits 10 ds → AllDigits 10 (drop 1 ds)
digits_behind [] h = tt
digits_behind (c ∷ cs) h = h.1

and_none : (a b : Bool) → b ≡ false → a && b ≡ false
and_none true b h = h
and_none false b h = refl

number_is : (limit n : ℕ) → n < 2 ^ 64 → n ≤ limit → number 10 limit (decimal n) ≡ Some n
number_is limit n fits le =
    let numeral = decimal_is_IsNumeral n fits in
    rw (numeral_true (decimal n) numeral.0, numeral.1, le-leb n limit le) refl

no_letter_x : digit_value 120 < 10 → ⊥
no_letter_x h = omega arith

no_letter_o : digit_value 111 < 10 → ⊥
no_letter_o h = omega arith

no_plus : digit_value 43 < 10 → ⊥
no_plus h = omega arith

no_minus : digit_value 45 < 10 → ⊥
no_minus h = omega arith

digits_integer : (ds : List ℕ) → AllDigits 10 ds → integer ds ≡ option_map pos (number 10 (2 ^ 63 - 1) ds)
unfolding integer signed
digits_integer ds h =
    rw (
      and_none (begins 48 ds) (begins 120 (drop 1 ds)) (begins_none 120 (drop 1 ds) no_letter_x (digits_behind ds h)),
      and_none (begins 48 ds) (begins 111 (drop 1 ds)) (begins_none 111 (drop 1 ds) no_letter_o (digits_behind ds h)),
      begins_none 43 ds no_plus h,
      begins_none 45 ds no_minus h,
    ) refl

minus_integer : (ds : List ℕ) → integer (45 ∷ ds) ≡ option_map (λ n. neg_ℤ (pos n)) (number 10 (2 ^ 63) ds)
unfolding integer signed
minus_integer ds = refl

-- the text of a number is taken for it
integer_is : (n : ℤ) → IsBetween (negsuc 9223372036854775807) (pos 9223372036854775807) n → integer (signed_decimal n) ≡ Some n
integer_is (pos n) h =
    both (int_le (negsuc 9223372036854775807) (pos n)) (int_le (pos n) (pos 9223372036854775807)) h (λ a b.
    let fits : n < 2 ^ 63 = omega (arith, ints) in
    let small : n < 2 ^ 64 = omega arith in
    let numeral = decimal_is_IsNumeral n small in
    digits_integer (decimal n) numeral.0.1 ∙ ap (option_map pos) (number_is (2 ^ 63 - 1) n small (omega arith)))
integer_is (negsuc n) h =
    both (int_le (negsuc 9223372036854775807) (negsuc n)) (int_le (negsuc n) (pos 9223372036854775807)) h (λ a b.
    let fits : n < 2 ^ 63 = omega (arith, ints) in
    let small : suc n < 2 ^ 64 = omega arith in
    minus_integer (decimal (suc n)) ∙ ap (option_map (λ (m : ℕ). neg_ℤ (pos m))) (number_is (2 ^ 63) (suc n) small (omega arith)))

truth_is : (b : Bool) → data_of (tree_of (data_written (tree.boolean b))) ≡ Some (tree.boolean b)
unfolding integer signed
truth_is true = refl
truth_is false = refl

nothing_is : data_of (tree_of (data_written tree.null)) ≡ Some tree.null
unfolding integer signed
nothing_is = refl

-- a list's values and a map's entries, and what holds them
abbrev values_in : Items → List Data
values_in tree.no_items = []
values_in (tree.item d ds) = d ∷ values_in ds

items_again : (ds : Items) → items_of (values_in ds) ≡ ds
items_again tree.no_items = refl
items_again (tree.item d ds) = ap (tree.item d) (items_again ds)

members_again : (ms : Members) → members_of (entries_in ms) ≡ ms
members_again tree.no_members = refl
members_again (tree.member key d ms) = ap (tree.member key d) (members_again ms)

-- what is read is the value
mutual
  pub data_comes_back : (d : Data) → DataReturns d → data_of (tree_of (data_written d)) ≡ Some d
  data_comes_back (tree.integer n) h = ap (λ (o : Option ℤ). value_of (kind_data (resolved_of o (signed_decimal n)) (signed_decimal n))) (integer_is n h)
  data_comes_back (tree.text t) h = ap (λ k. value_of (kind_data k t)) h.1
  data_comes_back (tree.boolean b) h = truth_is b
  data_comes_back (tree.array ds) h = ap (option_map listed) (items_come_back ds [] h) ∙ ap (λ (ds : Items). Some (tree.array ds)) (items_again ds)
  data_comes_back (tree.hash ms) h = ap (option_map mapped) (members_come_back ms [] h.1 h.0 (none_new Data (entries_in ms))) ∙ ap (λ (ms : Members). Some (tree.hash ms)) (members_again ms)
  data_comes_back tree.null h = nothing_is

  pub items_come_back : (ds : Items) (done : List Data) → ItemsReturn ds → items_from done (trees_of (items_written ds)) ≡ Some (done ++ values_in ds)
  items_come_back tree.no_items done h = ap Some (sym (append-nil done))
  items_come_back (tree.item d ds) done h =
      ap (option_and_then (λ v. items_from (pushed done v) (trees_of (items_written ds)))) (data_comes_back d h.0)
      ∙ items_come_back ds (pushed done d) h.1
      ∙ ap Some (append_assoc done (d ∷ []) (values_in ds))

  pub members_come_back : (ms : Members) (done : List (List ℕ × Data)) → MembersReturn ms → IsDistinct bytes_eq (keys_of (entries_in ms)) → AreNew (entries_in ms) done
      → entries_from done (pairs_of (members_written ms)) ≡ Some (done ++ entries_in ms)
  members_come_back tree.no_members done h distinct new = ap Some (sym (append-nil done))
  members_come_back (tree.member key d ms) done h distinct new =
      ap (option_and_then (λ v. entries_from (insert_entry bytes_eq done key v) (pairs_of (members_written ms)))) (data_comes_back d h.1)
      ∙ ap (λ (es : List (List ℕ × Data)). entries_from es (pairs_of (members_written ms))) (insert_new key d done new.0)
      ∙ members_come_back ms (done ++ ((key, d) ∷ [])) h.2 (IsDistinct-tail bytes_eq key (keys_of (entries_in ms)) distinct)
      (still_new key d (entries_in ms) done new.1 (IsDistinct-head bytes_eq key (keys_of (entries_in ms)) distinct))
      ∙ ap Some (append_assoc done ((key, d) ∷ []) (entries_in ms))
