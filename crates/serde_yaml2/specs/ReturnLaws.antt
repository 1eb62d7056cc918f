-- What is written for a value that comes back is read as itself.
use Rattle.std.proofs.Common.{◌≡◌, ℕ, suc, ◌+◌, ◌^◌, ◌<◌, ◌≤◌, List, [], ◌∷◌, ◌++◌, map, drop, Bool, true, false, cond, ◌&&◌, ◌-◌, int_le, neg_ℤ, Option, Some, None, option_map, option_and_then, refl, sym, ap, ◌∙◌, subst, arith, ℤ, pos, negsuc, All, append_assoc, bytes_eq}
use Rattle.std.specs.Fmt.{decimal}
use Rattle.std.specs.List.{IsDistinct, AllByRecursion}
use Rattle.std.specs.Map.{keys_of}
use Rattle.std.specs.Char.{digit_value, is_ascii_alphanumeric, encode_utf8}
use Rattle.std.specs.Cmp.Lexicographic.{nat_list_eq_equiv}
use Rattle.std.specs.Str.Parse.{IsNumeral, digits_value, signed_digits_value, starts_with_minus, without_leading_plus, without_leading_sign}
use Rattle.std.proofs.lemmas.Fmt.{decimal_is_IsNumeral}
use Rattle.std.proofs.lemmas.Bool.{ne_eqb}
use Rattle.std.proofs.lemmas.Int.{ints}
use Rattle.std.proofs.lemmas.List.{append-nil}
use Rattle.std.proofs.lemmas.List.Elements.{All-tail}
use Rattle.std.proofs.lemmas.Map.Keys.{IsDistinct-head, IsDistinct-tail}
use Rattle.indexmap.specs.IndexMap.{insert_entry}
use Rattle.yaml_small.specs.Trees.{Tree, Leaf, Seq, Map}
use Rattle.yaml_text.specs.Written as spec
use Rattle.yaml_text.specs.Written.{Written, ReadsBack, MembersReadBack, magnitude, tree_of, trees_of, pairs_of, elements_of, members_of}
use Rattle.yaml_read.specs.Scalar.{truth, character, number_or, unsigned, signed}
use Rattle.yaml_read.specs.Collections.{pushed}
use Rattle.yaml_read.specs.Nodes.{value_of, plain_node, option_node, mapped_node, seq_as, map_as, pair_node, triple_node}
use Rattle.yaml_read.specs.Entries.{seen_entry}
use Rattle.yaml_read.specs.NumberLaws.{unsigned_is, signed_is}
use Rattle.serde_yaml2.specs.Values.{character_of, optional, list_of, map_of, pair_of, triple_of}
use Rattle.serde_yaml2.specs.Returns.{IsBetween, stands_for_nothing, OptionReturns, EntryReturns, MapReturns}

-- what may be missing
pub option_reads_back : {X : Type 0} (written : X → Written) (Returns : X → Type 0) → ((x : X) → Returns x → ReadsBack (written x)) → (o : Option X) → OptionReturns written Returns o → ReadsBack (optional written o)
option_reads_back written Returns law None h = tt
option_reads_back written Returns law (Some x) h = law x h.0

pub option_comes_back : {X S : Type 0} (written : X → Written) (seen : X → S) (of_node : Option Tree → Option S) (Returns : X → Type 0)
    → ((x : X) → Returns x → of_node (Some (tree_of (written x))) ≡ Some (seen x)) → (o : Option X) → OptionReturns written Returns o
    → option_node of_node (Some (tree_of (optional written o))) ≡ Some (option_map seen o)
option_comes_back written seen of_node Returns law None h = refl
option_comes_back {X} {S} written seen of_node Returns law (Some x) h = by_tree (tree_of (written x)) h.1 (law x h.0)
  where
    by_tree : (t : Tree) → stands_for_nothing t ≡ false → of_node (Some t) ≡ Some (seen x) → option_node of_node (Some t) ≡ Some (Some (seen x))
    by_tree (Leaf s) some is = ap (λ (b : Bool). cond b (Some None) (option_map Some (of_node (Some (Leaf s))))) some ∙ ap (option_map Some) is
    by_tree (Seq ts) some is = ap (option_map Some) is
    by_tree (Map ps) some is = ap (option_map Some) is

-- the items of a list
all_first : {X : Type 0} (P : X → Type 0) (x : X) (xs : List X) → All P (x ∷ xs) → P x
all_first P x xs h = h 0 x (omega arith)

pub list_reads_back : {X : Type 0} (written : X → Written) (Returns : X → Type 0) → ((x : X) → Returns x → ReadsBack (written x)) → (xs : List X) → All Returns xs → ReadsBack (list_of written xs)
list_reads_back written Returns law [] h = tt
list_reads_back written Returns law (x ∷ xs) h = (law x (all_first Returns x xs h), list_reads_back written Returns law xs (All-tail Returns x xs h))

abbrev item_of : {S : Type 0} → (Option Tree → Option S) → List S → ℕ → Option Tree → Option (List S)
item_of of_node xs at = mapped_node (pushed xs) of_node

items_come_back : {X S : Type 0} (written : X → Written) (seen : X → S) (of_node : Option Tree → Option S) (Returns : X → Type 0)
    → ((x : X) → Returns x → of_node (Some (tree_of (written x))) ≡ Some (seen x)) → (xs : List X) (at : ℕ) (done : List S) → All Returns xs
    → seq_as (item_of of_node) at done (trees_of (elements_of (map written xs))) ≡ Some (done ++ map seen xs)
items_come_back written seen of_node Returns law [] at done h = ap Some (sym (append-nil done))
items_come_back {X} {S} written seen of_node Returns law (x ∷ xs) at done h =
    ap (λ (o : Option S). option_and_then (λ y. seq_as (item_of of_node) (at + 1) y (trees_of (elements_of (map written xs)))) (option_map (pushed done) o)) (law x (all_first Returns x xs h))
    ∙ items_come_back written seen of_node Returns law xs (at + 1) (pushed done (seen x)) (All-tail Returns x xs h)
    ∙ ap Some (append_assoc done (seen x ∷ []) (map seen xs))

pub list_comes_back : {X S : Type 0} (written : X → Written) (seen : X → S) (of_node : Option Tree → Option S) (Returns : X → Type 0)
    → ((x : X) → Returns x → of_node (Some (tree_of (written x))) ≡ Some (seen x)) → (xs : List X) → All Returns xs
    → seq_as (item_of of_node) 0 [] (trees_of (elements_of (map written xs))) ≡ Some (map seen xs)
list_comes_back written seen of_node Returns law xs h = items_come_back written seen of_node Returns law xs 0 [] h

-- the entries of a map
pub map_reads_back : {X : Type 0} (written : X → Written) (Returns : X → Type 0) → ((x : X) → Returns x → ReadsBack (written x)) → (es : List (List ℕ × X)) → MapReturns Returns es → ReadsBack (map_of written es)
map_reads_back {X} written Returns law es h = members es h.1
  where
    members : (es : List (List ℕ × X)) → All (EntryReturns Returns) es → MembersReadBack (members_of (map (seen_entry written) es))
    members [] h = tt
    members (e ∷ es) h = let first = all_first (EntryReturns Returns) e es h in (first.0, law e.1 first.1, members es (All-tail (EntryReturns Returns) e es h))

-- a key that is new goes last
abbrev pub IsNew : {S : Type 0} → List ℕ → List (List ℕ × S) → Type 0
IsNew key es = AllByRecursion (λ e. bytes_eq key e.0 ≡ false) es

pub insert_new : {S : Type 0} (key : List ℕ) (v : S) (es : List (List ℕ × S)) → IsNew key es → insert_entry bytes_eq es key v ≡ es ++ ((key, v) ∷ [])
insert_new key v [] new = refl
insert_new {S} key v (e ∷ es) new =
    ap (λ (b : Bool). cond b ((e.0, v) ∷ es) (e ∷ insert_entry bytes_eq es key v)) new.0 ∙ ap (λ (x : List (List ℕ × S)). e ∷ x) (insert_new key v es new.1)

new_behind : {S : Type 0} (key : List ℕ) (es fs : List (List ℕ × S)) → IsNew key es → IsNew key fs → IsNew key (es ++ fs)
new_behind key [] fs new other = other
new_behind key (e ∷ es) fs new other = (new.0, new_behind key es fs new.1 other)

-- keys that are new to what was read before
abbrev pub AreNew : {X S : Type 0} → List (List ℕ × X) → List (List ℕ × S) → Type 0
AreNew es done = AllByRecursion (λ e. IsNew e.0 done) es

pub none_new : {X : Type 0} (S : Type 0) (es : List (List ℕ × X)) → AreNew {S = S} es []
none_new S [] = tt
none_new S (e ∷ es) = (tt, none_new S es)

pub still_new : {X S : Type 0} (key : List ℕ) (v : S) (es : List (List ℕ × X)) (done : List (List ℕ × S)) → AreNew es done → AllByRecursion (λ k. bytes_eq key k ≡ false) (keys_of es) → AreNew es (done ++ ((key, v) ∷ []))
still_new key v [] done new apart = tt
still_new key v (e ∷ es) done new apart =
    (new_behind e.0 done ((key, v) ∷ []) new.0 (nat_list_eq_equiv.symm e.0 key ∙ apart.0, tt), still_new key v es done new.1 apart.1)

abbrev entry_of : {S : Type 0} → (Option Tree → Option S) → List (List ℕ × S) → List ℕ → Option Tree → Option (List (List ℕ × S))
entry_of of_node es key = mapped_node (insert_entry bytes_eq es key) of_node

entries_come_back : {X S : Type 0} (written : X → Written) (seen : X → S) (of_node : Option Tree → Option S) (Returns : X → Type 0)
    → ((x : X) → Returns x → of_node (Some (tree_of (written x))) ≡ Some (seen x)) → (es : List (List ℕ × X)) (done : List (List ℕ × S)) → All (EntryReturns Returns) es
    → IsDistinct bytes_eq (keys_of es) → AreNew es done
    → map_as (entry_of of_node) done (pairs_of (members_of (map (seen_entry written) es))) ≡ Some (done ++ map (seen_entry seen) es)
entries_come_back written seen of_node Returns law [] done h distinct new = ap Some (sym (append-nil done))
entries_come_back {X} {S} written seen of_node Returns law (e ∷ es) done h distinct new =
    let first = all_first (EntryReturns Returns) e es h in
    let more = done ++ ((e.0, seen e.1) ∷ []) in
    ap (λ (o : Option S). option_and_then (λ y. map_as (entry_of of_node) y (pairs_of (members_of (map (seen_entry written) es)))) (option_map (insert_entry bytes_eq done e.0) o)) (law e.1 first.1)
    ∙ ap (λ (y : List (List ℕ × S)). map_as (entry_of of_node) y (pairs_of (members_of (map (seen_entry written) es)))) (insert_new e.0 (seen e.1) done new.0)
    ∙ entries_come_back written seen of_node Returns law es more (All-tail (EntryReturns Returns) e es h) (IsDistinct-tail bytes_eq e.0 (keys_of es) distinct)
    (still_new e.0 (seen e.1) es done new.1 (IsDistinct-head bytes_eq e.0 (keys_of es) distinct))
    ∙ ap Some (append_assoc done ((e.0, seen e.1) ∷ []) (map (seen_entry seen) es))

pub map_comes_back : {X S : Type 0} (written : X → Written) (seen : X → S) (of_node : Option Tree → Option S) (Returns : X → Type 0)
    → ((x : X) → Returns x → of_node (Some (tree_of (written x))) ≡ Some (seen x)) → (es : List (List ℕ × X)) → MapReturns Returns es
    → map_as (entry_of of_node) [] (pairs_of (members_of (map (seen_entry written) es))) ≡ Some (map (seen_entry seen) es)
map_comes_back {X} {S} written seen of_node Returns law es h = entries_come_back written seen of_node Returns law es [] h.1 h.0 (none_new S es)

-- lists of two and of three
pub pair_comes_back : {X Y : Type 0} (first : Option Tree → Option X) (second : Option Tree → Option Y) (v w : Written) (x : X) (y : Y)
    → first (Some (tree_of v)) ≡ Some x → second (Some (tree_of w)) ≡ Some y → pair_node first second (Some (tree_of (pair_of v w))) ≡ Some (x, y)
pair_comes_back {X} {Y} first second v w x y one two =
    ap (λ (o : Option X). option_and_then (λ a. option_map (λ b. (a, b)) (second (Some (tree_of w)))) o) one
    ∙ ap (λ (o : Option Y). option_map (λ b. (x, b)) o) two

pub triple_comes_back : {X Y Z : Type 0} (first : Option Tree → Option X) (second : Option Tree → Option Y) (third : Option Tree → Option Z) (v w u : Written) (x : X) (y : Y) (z : Z)
    → first (Some (tree_of v)) ≡ Some x → second (Some (tree_of w)) ≡ Some y → third (Some (tree_of u)) ≡ Some z
    → triple_node first second third (Some (tree_of (triple_of v w u))) ≡ Some (x, y, z)
triple_comes_back {X} {Y} {Z} first second third v w u x y z one two three =
    ap (λ (o : Option X). option_and_then (λ a. option_and_then (λ b. option_map (λ c. (a, b, c)) (third (Some (tree_of u)))) (second (Some (tree_of w)))) o) one
    ∙ ap (λ (o : Option Y). option_and_then (λ b. option_map (λ c. (x, b, c)) (third (Some (tree_of u)))) o) two
    ∙ ap (λ (o : Option Z). option_map (λ c. (x, y, c)) o) three

-- truth values
pub truth_comes_back : (b : Bool) → plain_node truth (Some (tree_of (spec.boolean b))) ≡ Some b
truth_comes_back true = refl
truth_comes_back false = refl

-- characters
pub character_reads_back : (c : ℕ) → is_ascii_alphanumeric c ≡ true → ReadsBack (character_of c)
character_reads_back c is = subst (λ (b : Bool). ReadsBack (cond b (spec.character c) (spec.text (encode_utf8 c)))) (sym is) is

pub character_comes_back : (c : ℕ) → is_ascii_alphanumeric c ≡ true → plain_node character (Some (tree_of (character_of c))) ≡ Some c
character_comes_back c is = ap (λ (b : Bool). plain_node character (Some (tree_of (cond b (spec.character c) (spec.text (encode_utf8 c)))))) is

-- numbers
plus_kept : (ds : List ℕ) → IsNumeral 10 ds → without_leading_plus ds ≡ ds
plus_kept [] h = refl
plus_kept (c ∷ cs) h =
    ap (λ (b : Bool). drop (cond b 1 0) (c ∷ cs)) (ne_eqb c 43 (λ e. let below : digit_value 43 < 10 = subst (λ (x : ℕ). digit_value x < 10) e h.1.0 in omega arith))

minus_none : (ds : List ℕ) → IsNumeral 10 ds → starts_with_minus ds ≡ false
minus_none [] h = let some : 0 < 0 = h.0 in absurd (omega arith)
minus_none (c ∷ cs) h = ne_eqb c 45 (λ e. let below : digit_value 45 < 10 = subst (λ (x : ℕ). digit_value x < 10) e h.1.0 in omega arith)

pub unsigned_comes_back : (most n : ℕ) → most < 2 ^ 64 → n ≤ most → plain_node (unsigned most) (Some (tree_of (spec.number (pos n)))) ≡ Some n
unsigned_comes_back most n fits le =
    let numeral = decimal_is_IsNumeral n (omega arith) in
    let kept = plus_kept (decimal n) numeral.0 in
    ap (λ (o : Option ℕ). value_of (number_or (decimal n) o))
    (unsigned_is most n (decimal n) (subst (λ (ds : List ℕ). IsNumeral 10 ds) (sym kept) numeral.0) (sym numeral.1 ∙ ap (digits_value 10) (sym kept)) le)

pub unsigned_reads_back : (most n : ℕ) → most < 2 ^ 64 → n ≤ most → magnitude (pos n) < 2 ^ 64
unsigned_reads_back most n fits le = omega arith

pub both : {P : Type 0} (a b : Bool) → a && b ≡ true → (a ≡ true → b ≡ true → P) → P
both true b h f = f refl h
both false b h f = absurd cc

pub signed_reads_back : (least most n : ℤ) → int_le (negsuc (2 ^ 63 - 1)) least ≡ true → int_le most (pos (2 ^ 63 - 1)) ≡ true → IsBetween least most n → magnitude n < 2 ^ 64
signed_reads_back least most (pos n) low high h = both (int_le least (pos n)) (int_le (pos n) most) h (λ a b. let fits : n < 2 ^ 63 = omega (arith, ints) in omega arith)
signed_reads_back least most (negsuc n) low high h = both (int_le least (negsuc n)) (int_le (negsuc n) most) h (λ a b. let fits : n < 2 ^ 63 = omega (arith, ints) in omega arith)

pub signed_comes_back : (least most n : ℤ) → int_le (negsuc (2 ^ 63 - 1)) least ≡ true → int_le most (pos (2 ^ 63 - 1)) ≡ true → IsBetween least most n
    → plain_node (signed least most) (Some (tree_of (spec.number n))) ≡ Some n
signed_comes_back least most (pos n) low high h =
    let reads = signed_reads_back least most (pos n) low high h in
    let small : n < 2 ^ 64 = reads in
    let numeral = decimal_is_IsNumeral n small in
    let bare : without_leading_sign (decimal n) ≡ decimal n =
    ap (λ (b : Bool). cond b (drop 1 (decimal n)) (without_leading_plus (decimal n))) (minus_none (decimal n) numeral.0) ∙ plus_kept (decimal n) numeral.0 in
    let value : pos n ≡ signed_digits_value 10 (decimal n) =
    sym (ap (λ (b : Bool). cond b (neg_ℤ (pos (digits_value 10 (without_leading_sign (decimal n))))) (pos (digits_value 10 (without_leading_sign (decimal n))))) (minus_none (decimal n) numeral.0)
    ∙ ap (λ (ds : List ℕ). pos (digits_value 10 ds)) bare ∙ ap pos numeral.1) in
    both (int_le least (pos n)) (int_le (pos n) most) h (λ a b.
    ap (λ (o : Option ℤ). value_of (number_or (decimal n) o)) (signed_is least most (pos n) (decimal n) (subst (λ (ds : List ℕ). IsNumeral 10 ds) (sym bare) numeral.0) value a b))
signed_comes_back least most (negsuc n) low high h =
    let reads = signed_reads_back least most (negsuc n) low high h in
    let small : suc n < 2 ^ 64 = omega (arith, reads) in
    let numeral = decimal_is_IsNumeral (suc n) small in
    let value : negsuc n ≡ signed_digits_value 10 (45 ∷ decimal (suc n)) = sym (ap (λ (m : ℕ). neg_ℤ (pos m)) numeral.1) in
    both (int_le least (negsuc n)) (int_le (negsuc n) most) h (λ a b.
    ap (λ (o : Option ℤ). value_of (number_or (45 ∷ decimal (suc n)) o)) (signed_is least most (negsuc n) (45 ∷ decimal (suc n)) numeral.0 value a b))

-- the limits of unsigned numbers
pub below_u8 : 255 < 2 ^ 64
below_u8 = omega arith

pub below_u16 : 65535 < 2 ^ 64
below_u16 = omega arith

pub below_u32 : 4294967295 < 2 ^ 64
below_u32 = omega arith

pub below_u64 : 18446744073709551615 < 2 ^ 64
below_u64 = omega arith
