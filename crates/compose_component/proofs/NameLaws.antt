-- Maps that are filled from the last of some names to the first find the first place of each.
use Rattle.std.proofs.Common.{◌≡◌, ◌∙◌, ap, sym, refl, arith, ℕ, suc, ◌+◌, ◌<◌, Bool, true, false, cond, List, [], ◌∷◌, length, map, drop, drop-cons, slice_index_or, Option, Some, None}
use Rattle.std.specs.Prelude.{option_map, String}
use Rattle.std.specs.String.{string_bytes, string_cmp}
use Rattle.std.specs.Global.{Global}
use Rattle.std.specs.BTreeMap.{BTreeMap, Updates, get_by_text, is_at}
use Rattle.std.specs.Map.{lookup}
use Rattle.std.specs.Ordering.{nat_cmp}
use Rattle.std.specs.Cmp.Lexicographic.{slice_cmp, nat_list_eq_equiv}
use Rattle.std.specs.Str.{bytes_eq}
use Rattle.std.proofs.Math.Seq.{drop-length}
use Rattle.std.proofs.lemmas.Map.Text.{btree_map_updates_text}
use Rattle.compose_component.specs.Names.{name_place, FindsNames}

-- what is found from a place on
abbrev pub FindsFrom : ℕ → BTreeMap (String Global) ℕ → List (List ℕ) → Type 0
FindsFrom k places names = (name : List ℕ) → get_by_text places name ≡ option_map (λ i. k + i) (name_place name names)

counted : (b : Bool) (k : ℕ) (o : Option ℕ) → cond b (Some k) (option_map (λ i. suc k + i) o) ≡ option_map (λ i. k + i) (cond b (Some 0) (option_map suc o))
counted true k o = ap (λ (n : ℕ). Some n) (let e : k ≡ k + 0 = omega arith in e)
counted false k None = refl
counted false k (Some i) = ap (λ (n : ℕ). Some n) (let e : suc k + i ≡ k + suc i = omega arith in e)

from_start : (o : Option ℕ) → option_map (λ i. 0 + i) o ≡ o
from_start None = refl
from_start (Some i) = ap (λ (n : ℕ). Some n) (let e : 0 + i ≡ i = omega arith in e)

module _ {T : Type 0} (name : T → List ℕ) (xs : List T) where
  pub found_none : (k : ℕ) (places : BTreeMap (String Global) ℕ) → k ≡ length xs → places.entries ≡ [] → FindsFrom k places (map name (drop k xs))
  found_none k places e none q = (λ i. lookup (is_at (λ t. slice_cmp nat_cmp q (string_bytes t))) (none i)) ∙ ap (λ (ys : List T). option_map (λ i. k + i) (name_place q (map name ys))) (sym (ap (λ (n : ℕ). drop n xs) e ∙ drop-length xs))

  pub found_more : (k after : ℕ) (x : T) (old new : BTreeMap (String Global) ℕ) (key : String Global) → after ≡ suc k → k < length xs → x ≡ slice_index_or xs k x → string_bytes key ≡ name x → Updates string_cmp old new key (Some k)
      → FindsFrom after old (map name (drop after xs)) → FindsFrom k new (map name (drop k xs))
  found_more k after x old new key next lt is text u f q =
      btree_map_updates_text (string_bytes key) old new (Some k) u q
      ∙ (λ i. cond (bytes_eq (text i) q) (Some k) (get_by_text old q))
      ∙ (λ i. cond (nat_list_eq_equiv.symm (name x) q i) (Some k) (f q i))
      ∙ ap (λ (n : ℕ). cond (bytes_eq q (name x)) (Some k) (option_map (λ i. n + i) (name_place q (map name (drop n xs))))) next
      ∙ counted (bytes_eq q (name x)) k (name_place q (map name (drop (suc k) xs)))
      ∙ ap (λ (ys : List T). option_map (λ i. k + i) (name_place q (map name ys))) (ap (λ (y : T). y ∷ drop (suc k) xs) is ∙ sym (drop-cons xs k x lt))

  pub found_all : (k : ℕ) (places : BTreeMap (String Global) ℕ) → k ≡ 0 → FindsFrom k places (map name (drop k xs)) → FindsNames places (map name xs)
  found_all k places e f q = f q ∙ ap (λ (n : ℕ). option_map (λ i. n + i) (name_place q (map name (drop n xs)))) e ∙ from_start (name_place q (map name xs))
