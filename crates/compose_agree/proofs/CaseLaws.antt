-- Names that are like no earlier one.
use Rattle.std.proofs.Common.{◌≡◌, ℕ, ◌+◌, ◌<◌, ◌≤◌, Bool, true, false, cond, List, length, get_or, Option, Some, None, refl, sym, ap, subst, ◌∙◌, arith, inl, inr}
use Rattle.std.specs.Prelude.{◌⊎◌, MatchOption, slice_get, bytes_eq, map, option_map}
use Rattle.std.specs.Str.{str_to_ascii_lowercase}
use Rattle.std.specs.BTreeMap.{BTreeMap, get, Updates}
use Rattle.std.specs.Cmp.Lexicographic.{slice_cmp, texts_ties, nat_list_eq_equiv, same_text}
use Rattle.std.specs.Ordering.{nat_cmp, is_eq}
use Rattle.std.proofs.lemmas.Bool.{cases_lt}
use Rattle.std.proofs.lemmas.Option.{same_Some, slice_get-map, slice_get_read}
use Rattle.std.proofs.lemmas.List.{length-map}
use Rattle.warg_values.specs.declared.text.Text.{Text}
use Rattle.compose_agree.specs.LetterCase.{ApartBelow, NoneLike, IsFirstClash}
use Rattle.compose_agree.specs.Lowered.{FindsLowered, IsLowered, NoneLowered}

-- a number below one more is below, or is the last
below_or_last : (P : ℕ → Type 0) (i k : ℕ) → i < k + 1 → (i < k → P i) → P k → P i
below_or_last P i k lt below last = by (cases_lt i k)
  where
    by : (i < k) ⊎ (k ≤ i) → P i
    by (inl before) = below before
    by (inr from) = let same : k ≡ i = omega (arith, lt, from) in subst P same last

text_is : (a b : List ℕ) → bytes_eq a b ≡ true → a ≡ b
text_is a b e = same_text a b (sym e)

ties : (k q : List ℕ) → bytes_eq q k ≡ is_eq (slice_cmp nat_cmp k q)
ties k q = nat_list_eq_equiv.symm q k ∙ texts_ties k q

pub found_at : (places : BTreeMap Text ℕ) (names : List (List ℕ)) (end : ℕ) (lower : List ℕ) (o : Option ℕ) → FindsLowered places names end → get (slice_cmp nat_cmp) places lower ≡ o → MatchOption o (NoneLowered lower names end) (IsLowered lower names end)
found_at places names end lower o finds e = subst (λ x. MatchOption x (NoneLowered lower names end) (IsLowered lower names end)) e (finds lower)

none_more : (q : List ℕ) (names : List (List ℕ)) (end : ℕ) (name : List ℕ) → slice_get names end ≡ Some name → bytes_eq q (str_to_ascii_lowercase name) ≡ false → NoneLowered q names end → NoneLowered q names (end + 1)
none_more q names end name at apart none i a lt is =
    below_or_last (λ j. slice_get names j ≡ Some a → bytes_eq q (str_to_ascii_lowercase a) ≡ false) i end lt (λ below. none i a below)
    (λ there. ap (λ n. bytes_eq q (str_to_ascii_lowercase n)) (sym (same_Some name a (sym at ∙ there))) ∙ apart) is

still_found : (q : List ℕ) (names : List (List ℕ)) (end : ℕ) (name : List ℕ) → slice_get names end ≡ Some name → bytes_eq q (str_to_ascii_lowercase name) ≡ false
    → (o : Option ℕ) → MatchOption o (NoneLowered q names end) (IsLowered q names end) → MatchOption o (NoneLowered q names (end + 1)) (IsLowered q names (end + 1))
still_found q names end name at apart None none = none_more q names end name at apart none
still_found q names end name at apart (Some p) there =
    record {
      name = there.name;
      below = let lt = there.below in omega (arith, lt);
      there = there.there;
      is = there.is;
      first = there.first;
    }

-- a name that none before it is like is noted
pub noted : (old new : BTreeMap Text ℕ) (names : List (List ℕ)) (end : ℕ) (name : List ℕ) → FindsLowered old names end → slice_get names end ≡ Some name → NoneLowered (str_to_ascii_lowercase name) names end
    → Updates (slice_cmp nat_cmp) old new (str_to_ascii_lowercase name) (Some end) → FindsLowered new names (end + 1)
noted old new names end name finds at none updates q =
    subst (λ o. MatchOption o (NoneLowered q names (end + 1)) (IsLowered q names (end + 1))) (sym (updates.0 q ∙ ap (λ b. cond b (Some end) (get (slice_cmp nat_cmp) old q)) (sym (ties lower q)))) (by (bytes_eq q lower) refl)
  where
    lower : List ℕ
    lower = str_to_ascii_lowercase name

    by : (b : Bool) → bytes_eq q lower ≡ b → MatchOption (cond b (Some end) (get (slice_cmp nat_cmp) old q)) (NoneLowered q names (end + 1)) (IsLowered q names (end + 1))
    by true e =
        record {
          name = name;
          below = omega arith;
          there = at;
          is = e;
          first = subst (λ l. NoneLowered l names end) (sym (text_is q lower e)) none;
        }
    by false e = still_found q names end name at e (get (slice_cmp nat_cmp) old q) (finds q)

pub apart_more : (names : List (List ℕ)) (end : ℕ) (name : List ℕ) → slice_get names end ≡ Some name → NoneLowered (str_to_ascii_lowercase name) names end → ApartBelow names end → ApartBelow names (end + 1)
apart_more names end name at none apart j b lt is =
    below_or_last (λ k. slice_get names k ≡ Some b → NoneLike b names k) j end lt (λ below. apart j b below) (λ there. subst (λ n. NoneLike n names end) (same_Some name b (sym at ∙ there)) none) is

pub first_clash : (names : List (List ℕ)) (later : ℕ) (name : List ℕ) (earlier : ℕ) → slice_get names later ≡ Some name → ApartBelow names later → IsLowered (str_to_ascii_lowercase name) names later earlier → IsFirstClash names (record { earlier = earlier; later = later })
first_clash names later name earlier at apart found =
    record {
      name = name;
      like = found.name;
      later = at;
      earlier = found.there;
      in_order = found.below;
      alike = found.is;
      first = apart;
      none = found.first;
    }

pub name_at : {X : Type 0} (f : X → List ℕ) (xs : List X) (i : ℕ) (x : X) (name : List ℕ) → i < length xs → x ≡ get_or xs i x → name ≡ f x → slice_get (map f xs) i ≡ Some name
name_at f xs i x name within at is = slice_get-map f xs i ∙ ap (option_map f) (slice_get_read xs (length xs) i x refl within at) ∙ ap Some (sym is)

-- no name is like an earlier one of all of them
pub all_apart : {X : Type 0} (f : X → List ℕ) (xs : List X) (end : ℕ) → length xs ≤ end → ApartBelow (map f xs) end → ApartBelow (map f xs) (length (map f xs))
all_apart f xs end past apart j b lt = let count = length-map xs f in apart j b (omega (arith, lt, past, count))
