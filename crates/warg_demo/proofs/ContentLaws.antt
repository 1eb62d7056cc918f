-- The items of a content.
use Rattle.std.proofs.Common.{◌≡◌, ℕ, suc, ◌+◌, ◌<◌, false, List, [], ◌∷◌, ◌++◌, map, length, take, get_or, codes, Some, refl, ap, sym, ◌∙◌, arith, append_assoc}
use Rattle.std.proofs.lemmas.List.{map-append, take_more}
use Rattle.std.proofs.lemmas.List.Sums.{sum_by-append}
use Rattle.std.specs.Prelude.{IfOk, Result, Ok, Err}
use Rattle.std.specs.List.{IsDistinct}
use Rattle.comp_format.specs.Items.{ItemTree}
use Rattle.comp_format.specs.Forms.{AreDecls, IsFunc}
use Rattle.comp_format.specs.declared.types.Primitive.TheVariants as primitive
use Rattle.comp_format.specs.declared.types.ValType.TheVariants as value
use Rattle.comp_format.specs.declared.types.Sort.TheVariants as sort
use Rattle.comp_encoder.specs.Writing.{Entry, Single, GivenSection, items_of, next_index, numbered}
use Rattle.warg_demo.specs.Content.{content_items, exporting, import_items, need_items, need_name, rest_items}

-- a function without parameters, and an instance that exports it under a name
no_labels : IsFunc (record { params = []; result = Some (value.Primitive primitive.U64) })
unfolding IsDistinct
no_labels = record { named = λ i d below. absurd (omega (arith, below)); differ = tt }

pub exports_form : (name : List ℕ) → 0 < length name → AreDecls false (exporting name)
exports_form name some = ((refl, no_labels), (some, tt))

plus_zero : (n : ℕ) → n + 0 ≡ n
plus_zero n = omega (arith)

one_on : (n m : ℕ) → (n + 1) + m ≡ n + suc m
one_on n m = omega (arith)

-- the import of one thing that is needed
got : ℕ → ℕ → List ItemTree
got index need = import_items index (need_name need) (codes "get")

-- one need more
pub need_items_more : (index : ℕ) (needs : List ℕ) (need : ℕ) → need_items index (needs ++ need ∷ []) ≡ need_items index needs ++ import_items (index + length needs) (need_name need) (codes "get")
unfolding got
need_items_more index [] need = ap (λ i. got i need) (sym (plus_zero index))
need_items_more index (first ∷ needs) need =
    ap (λ items. got index first ++ items) (need_items_more (index + 1) needs need ∙ ap (λ i. need_items (index + 1) needs ++ got i need) (one_on index (length needs)))

-- each import has one type
one_more : (n : ℕ) → 1 + n ≡ suc n
one_more n = omega (arith)

types_of : (index : ℕ) (needs : List ℕ) → numbered sort.Ty (need_items index needs) ≡ length needs
types_of index [] = refl
types_of index (first ∷ needs) =
    sum_by-append _ (import_items index (need_name first) (codes "get")) (need_items (index + 1) needs) ∙ ap (λ n. 1 + n) (types_of (index + 1) needs) ∙ one_more (length needs)

items_behind : (entries : List Entry) (items : List ItemTree) → items_of (entries ++ map Single items) ≡ items_of entries ++ items
items_behind [] [] = refl
items_behind [] (item ∷ items) = ap (λ rest. item ∷ rest) (items_behind [] items)
items_behind (Single item ∷ entries) items = ap (λ rest. item ∷ rest) (items_behind entries items)
items_behind (GivenSection id content given ∷ entries) items = ap (λ (rest : List ItemTree). given ++ rest) (items_behind entries items) ∙ sym (append_assoc given (items_of entries) items)

next_behind : (entries : List Entry) (index : ℕ) (needs : List ℕ) → next_index sort.Ty (entries ++ map Single (need_items index needs)) ≡ next_index sort.Ty entries + length needs
next_behind entries index needs =
    ap (numbered sort.Ty) (items_behind entries (need_items index needs)) ∙ sum_by-append _ (items_of entries) (need_items index needs)
    ∙ ap (λ n. next_index sort.Ty entries + n) (types_of index needs)

-- the imports of one need more stand behind those of the others
pub needs_step : (begun old new : List Entry) (needs : List ℕ) (i : ℕ) → i < length needs → old ≡ begun ++ map Single (need_items (next_index sort.Ty begun) (take i needs))
    → new ≡ old ++ map Single (import_items (next_index sort.Ty old) (need_name (get_or needs i 0)) (codes "get"))
    → new ≡ begun ++ map Single (need_items (next_index sort.Ty begun) (take (i + 1) needs))
needs_step begun old new needs i there before is =
    let index = next_index sort.Ty begun in
    let front = need_items index (take i needs) in
    let need = get_or needs i 0 in
    let count : next_index sort.Ty old ≡ index + length (take i needs) = ap (next_index sort.Ty) before ∙ next_behind begun index (take i needs) in
    let last = import_items (index + length (take i needs)) (need_name need) (codes "get") in
    is ∙ ap (λ n. old ++ map Single (import_items n (need_name need) (codes "get"))) count
    ∙ ap (λ (es : List Entry). es ++ map Single last) before
    ∙ append_assoc begun (map Single front) (map Single last)
    ∙ ap (λ (es : List Entry). begun ++ es) (sym (map-append Single front last))
    ∙ ap (λ items. begun ++ map Single items) (sym (need_items_more index (take i needs) need) ∙ ap (need_items index) (sym (take_more needs i 0 there)))

-- what holds of a value that is there, and more
pub ok_more : {X E : Type 0} (P Q : X → Type 0) (r : Result X E) → ((x : X) → P x → Q x) → IfOk r P → IfOk r Q
ok_more P Q (Ok x) more is = more x is
ok_more P Q (Err e) more is = tt

-- the clock's import, those of the needs, and the rest
pub content_made : (none first more all : List Entry) (needs version : List ℕ) → none ≡ []
    → first ≡ none ++ map Single (import_items (next_index sort.Ty none) (codes "demo:env/clock@1.0.0") (codes "now"))
    → more ≡ first ++ map Single (need_items (next_index sort.Ty first) needs) → all ≡ more ++ map Single (rest_items version)
    → all ≡ map Single (content_items needs version)
content_made none first more all needs version empty begun needed ended =
    let clock = import_items 0 (codes "demo:env/clock@1.0.0") (codes "now") in
    let others = need_items 1 needs in
    let rest = rest_items version in
    let one : first ≡ map Single clock = begun ∙ ap (λ (es : List Entry). es ++ map Single (import_items (next_index sort.Ty es) (codes "demo:env/clock@1.0.0") (codes "now"))) empty in
    let two : more ≡ map Single clock ++ map Single others = needed ∙ ap (λ (es : List Entry). es ++ map Single (need_items (next_index sort.Ty es) needs)) one in
    ended ∙ ap (λ (es : List Entry). es ++ map Single rest) two
    ∙ append_assoc (map Single clock) (map Single others) (map Single rest)
    ∙ ap (λ (es : List Entry). map Single clock ++ es) (sym (map-append Single others rest))
    ∙ sym (map-append Single clock (others ++ rest))
