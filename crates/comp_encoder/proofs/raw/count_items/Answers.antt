use Rattle.std.proofs.Common.{◌≡◌, ◌+◌, ◌≤◌, ◌^◌, ℕ, ◌<◌, List, Some, None, Result, Err, cond, length, map, refl, sym, ap, ◌∙◌, arith}
use Rattle.std.specs.Prelude.{slice_index, slice_set}
use Rattle.std.proofs.lemmas.Bool.{eq-eqb}
use Rattle.std.proofs.Math.ListN.{length-set}
use Rattle.comp_format.specs.declared.error.EncodeError.{EncodeError}
use Rattle.comp_format.specs.declared.error.EncodeError.TheVariants as encode_error
use Rattle.comp_format.specs.declared.types.Sort.{Sort}
use Rattle.comp_format.specs.Items.{item_tree}
use Rattle.comp_format.specs.Spaces.{space_of}
use Rattle.comp_encoder.specs.Writing.{item_sort, numbers, numbered}
use Rattle.comp_encoder.proofs.CountLaws.{one_sized, one_small}
use Rattle.comp_encoder.proofs.SizeLaws.{counted_more, front_counted}
use Rattle.comp_encoder.proofs.raw.count_items.Goals as goal
use Rattle.comp_encoder.proofs.raw.count_items.Goals.{in-Some+in-Some-checked_add, in_default}

abbrev failed : EncodeError → Result (List ℕ) EncodeError
failed x = Err x

size_is : (a b : ℕ) → failed (encode_error.TooLarge a) ≡ failed (encode_error.TooLarge b) → a ≡ b
size_is a b e = cc

pub loop-item-preserved : goal.loop-item-preserved
loop-item-preserved c =
    let items = c.args.items.now in
    let i = c.loop-item.item-index in
    let item = c.item-item.result in
    let sizes = c.loop-item.sizes in
    let before = c.loop-item.invariant in
    let total = λ (kind : Sort). counted_more kind items i item c.loop-item-test.true c.item-item.is in
    elim c.match-sort_of.branch [
      | in-Some+in-Some-checked_add w ↦
          let of = w.in-Some.sort in
          let size = w.in-Some-checked_add.size in
          let sorted : item_sort (item_tree item) ≡ Some of = sym c.sort_of.ensures ∙ w.in-Some.is in
          let new : c.match-sort_of.sizes ≡ slice_set sizes (space_of of) size = w.sizes-is ∙ ap (λ s. slice_set sizes s size) w.space_of-space.ensures.value in
          let fits : size < 2 ^ 32 = omega (arith, w.in-Some-checked_add.ensures.0, w.in-Some-checked_add.ensures.1) in
          let next : size ≡ slice_index sizes (space_of of) + 1 = w.in-Some-checked_add.ensures.1 ∙ ap (λ s. slice_index sizes s + 1) w.space_of-space.ensures.value in record {
            long = ap length new ∙ length-set sizes (space_of of) size ∙ before.long;
            small = λ kind. omega (arith, ap (λ (xs : List ℕ). slice_index xs (space_of kind)) new, one_small sizes of kind size before.long before.small fits);
            counted = λ kind.
                let here = ap (λ (xs : List ℕ). slice_index xs (space_of kind)) new ∙ one_sized sizes of kind (item_tree item) size before.long sorted next in
                omega (arith, here, before.counted kind, total kind);
          }
      | in_default w ↦
          let none : item_sort (item_tree item) ≡ None = sym c.sort_of.ensures ∙ w.in_default.is in record {
            long = ap length w.sizes-is ∙ before.long;
            small = λ kind. omega (arith, ap (λ (xs : List ℕ). slice_index xs (space_of kind)) w.sizes-is, before.small kind);
            counted = λ kind.
                let nothing : cond {A = ℕ} (numbers (space_of kind) (item_sort (item_tree item))) 1 0 ≡ 0 = rw none refl in
                omega (arith, ap (λ (xs : List ℕ). slice_index xs (space_of kind)) w.sizes-is, before.counted kind, total kind, nothing);
          }
    ]

pub returns-in-None-clause-too_large : goal.returns-in-None-clause-too_large
returns-in-None-clause-too_large c = λ n e.
    let items = c.args.items.now in
    let i = c.loop-item.item-index in
    let item = c.item-item.result in
    let sizes = c.loop-item.sizes in
    let of = c.in-Some.sort in
    let told : c.size_with.result ≡ n = size_is c.size_with.result n e in
    let size : n ≡ slice_index c.args.counts (space_of of) + numbered of (map item_tree items) =
    sym told ∙ c.size_with.ensures ∙ ap (λ s. slice_index c.args.counts s + numbered of (map item_tree items)) c.space_of-space.ensures.value in
    let sorted : item_sort (item_tree item) ≡ Some of = sym c.sort_of.ensures ∙ c.in-Some.is in
    let one : cond {A = ℕ} (numbers (space_of of) (item_sort (item_tree item))) 1 0 ≡ 1 = rw (sorted, eq-eqb (space_of of) (space_of of) refl) refl in
    let full : 2 ^ 32 ≤ slice_index sizes (space_of of) + 1 = omega (arith, c.in-None.ensures, ap (λ s. slice_index sizes s) c.space_of-space.ensures.value) in
    (omega (arith, size, full, c.loop-item.invariant.counted of, counted_more of items i item c.loop-item-test.true c.item-item.is, one, front_counted of items (i + 1)), (of, size))
