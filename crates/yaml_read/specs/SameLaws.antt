-- Two values are the same exactly where they are equal, and the same values are fed alike.
use Rattle.std.proofs.Common.{◌≡◌, Bool, true, false, ◌&&◌, refl, ap, ◌∙◌, subst}
use Rattle.std.specs.Bool.{Decides}
use Rattle.std.specs.Cmp.{IsEquivalence, decided, signed_Decides, first_so, second_so}
use Rattle.std.specs.Cmp.Lexicographic.{bytes_decides}
use Rattle.std.specs.Hash.{Alike, same_Alike}
use mathlib.Core.Bool.{beq}
use Rattle.yaml_small.specs.Data.{Data, Items, Members, integer, text, boolean, array, hash, null, no_items, item, no_members, member}
use Rattle.yaml_read.specs.Same.{same_data, same_items, same_members}
use Rattle.yaml_read.specs.Fed.{fed_data}

truths_are : (a b : Bool) → beq a b ≡ true → a ≡ b
truths_are true true h = refl
truths_are false false h = refl
truths_are true false h = absurd cc
truths_are false true h = absurd cc

truth_itself : (a : Bool) → beq a a ≡ true
truth_itself true = refl
truth_itself false = refl

both : (a b : Bool) → a ≡ true → b ≡ true → a && b ≡ true
both a b is also = rw (is, also) refl

mutual
  data_are : (d e : Data) → same_data d e ≡ true → d ≡ e
  data_are (integer n) (integer m) h = ap integer ((signed_Decides n m).0 h)
  data_are (text t) (text u) h = ap text ((bytes_decides t u).0 h)
  data_are (boolean a) (boolean b) h = ap boolean (truths_are a b h)
  data_are (array ds) (array es) h = ap array (items_are ds es h)
  data_are (hash ms) (hash ns) h = ap hash (members_are ms ns h)
  data_are null null h = refl
  data_are d e h = absurd cc

  items_are : (ds es : Items) → same_items ds es ≡ true → ds ≡ es
  items_are no_items no_items h = refl
  items_are (item d ds) (item e es) h =
      ap (λ (x : Data). item x ds) (data_are d e (first_so (same_data d e) (same_items ds es) h)) ∙ ap (item e) (items_are ds es (second_so (same_data d e) (same_items ds es) h))
  items_are ds es h = absurd cc

  members_are : (ms ns : Members) → same_members ms ns ≡ true → ms ≡ ns
  members_are no_members no_members h = refl
  members_are (member key d ms) (member name e ns) h =
      let more = second_so _ (same_data d e && same_members ms ns) h in
      ap (λ k. member k d ms) ((bytes_decides key name).0 (first_so _ (same_data d e && same_members ms ns) h))
      ∙ ap (λ (x : Data). member name x ms) (data_are d e (first_so (same_data d e) (same_members ms ns) more))
      ∙ ap (member name e) (members_are ms ns (second_so (same_data d e) (same_members ms ns) more))
  members_are ms ns h = absurd cc

mutual
  data_itself : (d : Data) → same_data d d ≡ true
  data_itself (integer n) = (signed_Decides n n).1 refl
  data_itself (text t) = (bytes_decides t t).1 refl
  data_itself (boolean b) = truth_itself b
  data_itself (array ds) = items_themselves ds
  data_itself (hash ms) = members_themselves ms
  data_itself null = refl

  items_themselves : (ds : Items) → same_items ds ds ≡ true
  items_themselves no_items = refl
  items_themselves (item d ds) = both _ _ (data_itself d) (items_themselves ds)

  members_themselves : (ms : Members) → same_members ms ms ≡ true
  members_themselves no_members = refl
  members_themselves (member key d ms) = both _ _ ((bytes_decides key key).1 refl) (both _ _ (data_itself d) (members_themselves ms))

pub same_decides : (d e : Data) → Decides (same_data d e) (d ≡ e)
same_decides d e = (data_are d e, λ is. subst (λ (x : Data). same_data d x ≡ true) is (data_itself d))

pub data_equiv : IsEquivalence same_data
data_equiv = decided same_data same_decides

pub fed_alike : Alike same_data fed_data
fed_alike = same_Alike fed_data same_decides
