-- How many items each index space numbers.
use Rattle.std.proofs.Common.{◌≡◌, ◌≢◌, ℕ, ◌+◌, ◌<◌, ◌≤◌, ◌^◌, cond, eqb, List, [], ◌∷◌, ◌++◌, length, refl, sym, ap, ◌∙◌, append_assoc, inl, inr, arith}
use Rattle.std.specs.Prelude.{Some, count_by, slice_index, slice_set}
use Rattle.std.specs.List.{AllByRecursion}
use Rattle.std.proofs.lemmas.Bool.{cases_Bool, eqb-true, eqb-false}
use Rattle.std.proofs.lemmas.List.{append-nil}
use Rattle.std.proofs.lemmas.List.Sums.{sum_by-append}
use Rattle.std.proofs.Common.{get_or-set_same, get_or-set_other}
use Rattle.comp_format.specs.declared.types.CoreSort.{CoreSort}
use Rattle.comp_format.specs.declared.types.CoreSort.TheVariants as core
use Rattle.comp_format.specs.declared.types.Sort.{Sort}
use Rattle.comp_format.specs.declared.types.Sort.TheVariants as sort
use Rattle.comp_format.specs.Items.{ItemTree}
use Rattle.comp_format.specs.Sections.{Section, ContentForm, section_id, section_items}
use Rattle.comp_format.specs.Spaces.{core_space, space_of}
use Rattle.comp_encoder.specs.Builder.{Kept, Item, Whole, IsKept, IsBuilt, IsBytesOf, item_of, entry_of, entries_of}
use Rattle.comp_encoder.specs.Writing.{Entry, Single, GivenSection, items_of, item_sort, numbers, numbered, next_index}
use Rattle.comp_encoder.proofs.SectionLaws.{entries_append}
use Rattle.comp_encoder.proofs.KeepLaws.{bytes_of_it}
use Rattle.comp_encoder.proofs.RawLaws.{section_read, section_kept}

pub items_append : (front back : List Entry) → items_of (front ++ back) ≡ items_of front ++ items_of back
items_append [] back = refl
items_append (Single item ∷ front) back = ap (λ (l : List ItemTree). item ∷ l) (items_append front back)
items_append (GivenSection id content items ∷ front) back = ap (λ (l : List ItemTree). items ++ l) (items_append front back) ∙ sym (append_assoc items (items_of front) (items_of back))

pub next_append : (kind : Sort) (front back : List Entry) → next_index kind (front ++ back) ≡ next_index kind front + next_index kind back
next_append kind front back = ap (count_by (λ item. numbers (space_of kind) (item_sort item))) (items_append front back) ∙ sum_by-append _ (items_of front) (items_of back)

core_below : (c : CoreSort) → core_space c < 11
core_below core.Func = omega arith
core_below core.Table = omega arith
core_below core.Memory = omega arith
core_below core.Global = omega arith
core_below core.Ty = omega arith
core_below core.Module = omega arith
core_below core.Instance = omega arith

pub space_below : (kind : Sort) → space_of kind < 11
space_below (sort.Core c) = core_below c
space_below sort.Func = omega arith
space_below sort.Ty = omega arith
space_below sort.Component = omega arith
space_below sort.Instance = omega arith

kept_push : (ks : List Kept) (k : Kept) → AllByRecursion IsKept ks → IsKept k → AllByRecursion IsKept (ks ++ k ∷ [])
kept_push [] k h is = (is, tt)
kept_push (j ∷ ks) k h is = (h.0, kept_push ks k h.1 is)

-- one item more, in the index space of its sort and in the others
pub one_sized : (sizes : List ℕ) (of kind : Sort) (item : ItemTree) (size : ℕ) → length sizes ≡ 11 → item_sort item ≡ Some of → size ≡ slice_index sizes (space_of of) + 1
    → slice_index (slice_set sizes (space_of of) size) (space_of kind) ≡ slice_index sizes (space_of kind) + cond (numbers (space_of kind) (item_sort item)) 1 0
one_sized sizes of kind item size long sorted next =
    elim (cases_Bool (eqb (space_of of) (space_of kind))) [
      | inl same ↦
          let equal : space_of of ≡ space_of kind = eqb-true (space_of of) (space_of kind) same in
          let within : space_of of < length sizes = omega (arith, space_below of, long) in
          let here : slice_index (slice_set sizes (space_of of) size) (space_of of) ≡ size = get_or-set_same sizes (space_of of) size 0 within in
          rw (sorted, same) (ap (slice_index (slice_set sizes (space_of of) size)) (sym equal) ∙ here ∙ next ∙ ap (λ s. slice_index sizes s + 1) equal)
      | inr apart ↦
          let differ : space_of kind ≢ space_of of = λ e. eqb-false (space_of of) (space_of kind) apart (sym e) in
          let there : slice_index (slice_set sizes (space_of of) size) (space_of kind) ≡ slice_index sizes (space_of kind) = get_or-set_other sizes (space_of of) (space_of kind) size 0 differ in
          rw (sorted, apart) (there ∙ omega arith)
    ]

-- sizes stay small
pub one_small : (sizes : List ℕ) (of kind : Sort) (size : ℕ) → length sizes ≡ 11 → ((k : Sort) → slice_index sizes (space_of k) < 2 ^ 32) → size < 2 ^ 32 → slice_index (slice_set sizes (space_of of) size) (space_of kind) < 2 ^ 32
one_small sizes of kind size long small fits =
    elim (cases_Bool (eqb (space_of of) (space_of kind))) [
      | inl same ↦
          let equal : space_of of ≡ space_of kind = eqb-true (space_of of) (space_of kind) same in
          let within : space_of of < length sizes = omega (arith, space_below of, long) in
          let here : slice_index (slice_set sizes (space_of of) size) (space_of of) ≡ size = get_or-set_same sizes (space_of of) size 0 within in
          omega (arith, ap (slice_index (slice_set sizes (space_of of) size)) (sym equal), here, fits)
      | inr apart ↦
          let differ : space_of kind ≢ space_of of = λ e. eqb-false (space_of of) (space_of kind) apart (sym e) in
          let there : slice_index (slice_set sizes (space_of of) size) (space_of kind) ≡ slice_index sizes (space_of kind) = get_or-set_other sizes (space_of of) (space_of kind) size 0 differ in
          omega (arith, there, small kind)
    ]

pub numbered_push : (kind : Sort) (items : List ItemTree) (item : ItemTree) → numbered kind (items ++ item ∷ []) ≡ numbered kind items + cond (numbers (space_of kind) (item_sort item)) 1 0
numbered_push kind items item = sum_by-append _ items (item ∷ []) ∙ omega arith

pub numbered_front : (kind : Sort) (front back : List ItemTree) → numbered kind front ≤ numbered kind (front ++ back)
numbered_front kind front back = omega (arith, sum_by-append (λ item. cond (numbers (space_of kind) (item_sort item)) 1 0) front back)

-- what is kept once an item is added
pub one_built : (ks : List Kept) (counts : List ℕ) (id : ℕ) (bytes : List ℕ) (of : Sort) (size : ℕ) → length counts ≡ 11 → IsBuilt ks counts → IsBytesOf (item_of id bytes) id bytes → item_sort (item_of id bytes) ≡ Some of → size ≡ next_index of (entries_of ks) + 1 → size < 2 ^ 32
    → IsBuilt (ks ++ Item id bytes ∷ []) (slice_set counts (space_of of) size)
unfolding entries_of entry_of
one_built ks counts id bytes of size long built is sorted next fits = record {
  small = λ kind. one_small counts of kind size long built.small fits;
  fit = kept_push ks (Item id bytes) built.fit is;
  counted = λ kind.
      one_sized counts of kind (item_of id bytes) size long sorted (next ∙ ap (λ n. n + 1) (sym (built.counted of)))
      ∙ ap (λ n. n + cond (numbers (space_of kind) (item_sort (item_of id bytes))) 1 0) (built.counted kind)
      ∙ sym (ap (next_index kind) (entries_append ks (Item id bytes ∷ [])) ∙ next_append kind (entries_of ks) (Single (item_of id bytes) ∷ []) ∙ omega arith);
}

-- what is kept once an item is added, whose sort is not asked
pub item_built : (ks : List Kept) (counts sizes : List ℕ) (item : ItemTree) (id : ℕ) (bytes : List ℕ) → IsBuilt ks counts → IsBytesOf item id bytes
    → ((kind : Sort) → slice_index sizes (space_of kind) ≡ slice_index counts (space_of kind) + numbered kind (item ∷ [])) → ((kind : Sort) → slice_index sizes (space_of kind) < 2 ^ 32) → IsBuilt (ks ++ Item id bytes ∷ []) sizes
unfolding entries_of entry_of
item_built ks counts sizes item id bytes built is counted small = record {
  small = small;
  fit = kept_push ks (Item id bytes) built.fit (bytes_of_it item id bytes is);
  counted = λ kind.
      counted kind ∙ ap (λ n. n + numbered kind (item ∷ [])) (built.counted kind)
      ∙ sym (
      ap (next_index kind) (entries_append ks (Item id bytes ∷ [])) ∙ next_append kind (entries_of ks) (Single (item_of id bytes) ∷ [])
      ∙ ap (λ (i : ItemTree). next_index kind (entries_of ks) + numbered kind (i ∷ [])) is.is
      );
}

-- what is kept once a section is added
pub section_built : (ks : List Kept) (counts sizes : List ℕ) (id : ℕ) (content : List ℕ) (s : Section) → IsBuilt ks counts → section_id s ≡ id → ContentForm s content
    → ((kind : Sort) → slice_index sizes (space_of kind) ≡ slice_index counts (space_of kind) + numbered kind (section_items s)) → ((kind : Sort) → slice_index sizes (space_of kind) < 2 ^ 32) → IsBuilt (ks ++ Whole id content ∷ []) sizes
unfolding entries_of entry_of
section_built ks counts sizes id content s built id_is form counted small = record {
  small = small;
  fit = kept_push ks (Whole id content) built.fit (section_kept id content s id_is form);
  counted = λ kind.
      counted kind ∙ ap (λ n. n + numbered kind (section_items s)) (built.counted kind)
      ∙ sym (
      ap (next_index kind) (entries_append ks (Whole id content ∷ [])) ∙ next_append kind (entries_of ks) (entry_of (Whole id content) ∷ [])
      ∙ ap (λ (items : List ItemTree). next_index kind (entries_of ks) + numbered kind (items ++ [])) (section_read id content s id_is form)
      ∙ ap (λ (items : List ItemTree). next_index kind (entries_of ks) + numbered kind items) (append-nil (section_items s))
      );
}

-- what is added, behind the others
pub entries_push : (ks : List Kept) (id : ℕ) (bytes : List ℕ) → entries_of (ks ++ Item id bytes ∷ []) ≡ entries_of ks ++ Single (item_of id bytes) ∷ []
unfolding entries_of entry_of
entries_push ks id bytes = entries_append ks (Item id bytes ∷ [])

-- the same, of an item that is known
pub entries_item : (ks : List Kept) (item : ItemTree) (id : ℕ) (bytes : List ℕ) → IsBytesOf item id bytes → entries_of (ks ++ Item id bytes ∷ []) ≡ entries_of ks ++ Single item ∷ []
entries_item ks item id bytes is = entries_push ks id bytes ∙ ap (λ (i : ItemTree). entries_of ks ++ Single i ∷ []) is.is

zero_at : (kind : Sort) → slice_index (0 ∷ 0 ∷ 0 ∷ 0 ∷ 0 ∷ 0 ∷ 0 ∷ 0 ∷ 0 ∷ 0 ∷ 0 ∷ []) (space_of kind) ≡ 0
zero_at (sort.Core core.Func) = refl
zero_at (sort.Core core.Table) = refl
zero_at (sort.Core core.Memory) = refl
zero_at (sort.Core core.Global) = refl
zero_at (sort.Core core.Ty) = refl
zero_at (sort.Core core.Module) = refl
zero_at (sort.Core core.Instance) = refl
zero_at sort.Func = refl
zero_at sort.Ty = refl
zero_at sort.Component = refl
zero_at sort.Instance = refl

-- nothing is kept
pub none_built : IsBuilt [] (0 ∷ 0 ∷ 0 ∷ 0 ∷ 0 ∷ 0 ∷ 0 ∷ 0 ∷ 0 ∷ 0 ∷ 0 ∷ [])
unfolding entries_of
none_built = record { fit = tt; counted = zero_at; small = λ kind. omega (arith, zero_at kind) }

pub none_entries : entries_of [] ≡ []
unfolding entries_of
none_entries = refl

pub entries_section : (ks : List Kept) (id : ℕ) (content : List ℕ) (s : Section) → section_id s ≡ id → ContentForm s content → entries_of (ks ++ Whole id content ∷ []) ≡ entries_of ks ++ GivenSection id content (section_items s) ∷ []
unfolding entries_of entry_of
entries_section ks id content s id_is form = entries_append ks (Whole id content ∷ []) ∙ ap (λ (items : List ItemTree). entries_of ks ++ GivenSection id content items ∷ []) (section_read id content s id_is form)
