use Rattle.std.proofs.Common.{◌≡◌, ◌+◌, ℕ, List, Result, Ok, Err, map, sym, ap, subst, ◌∙◌, inr}
use Rattle.std.specs.Prelude.{IfOk, slice_index}
use Rattle.comp_format.specs.declared.error.EncodeError.{EncodeError}
use Rattle.comp_format.specs.Items.{ItemTree, item_tree}
use Rattle.comp_format.specs.Sections.{Reads, section_items}
use Rattle.comp_format.specs.SectionLaws.{reads_once}
use Rattle.comp_format.specs.Spaces.{space_of}
use Rattle.comp_encoder.specs.Writing.{numbered}
use Rattle.comp_encoder.proofs.RawLaws.{one_section}
use Rattle.comp_encoder.proofs.raw.count_section.Goals as goal

-- a component of one section reads as its items
pub items_of-requires : goal.items_of-requires
items_of-requires c =
    let is = c.requires.content.1 in
    let text = c.deref.ensures.value ∙ c.in_ok-component.ensures.text in
    let reads = one_section c.args.id c.args.content.now is.section is.id_is is.form c.in_ok-component.ensures.fits in
    (section_items is.section, subst (λ (bytes : List ℕ). Reads bytes (section_items is.section)) (sym text) reads)

if_ok : {P Q : List ℕ → Type 0} (r : Result (List ℕ) EncodeError) → ((sizes : List ℕ) → P sizes → Q sizes) → IfOk r P → IfOk r Q
if_ok (Ok sizes) f h = f sizes h
if_ok (Err e) f h = tt

pub returns-clause-counted : goal.returns-clause-counted
returns-clause-counted c = λ items is.
    let text = c.deref.ensures.value ∙ c.in_ok-component.ensures.text in
    let reads : Reads c.deref.result.now items = subst (λ (bytes : List ℕ). Reads bytes items) (sym text) (subst (Reads _) is.items_are (one_section c.args.id c.args.content.now is.section is.id_is is.form c.in_ok-component.ensures.fits)) in
    let same : map item_tree c.deref-2.result.now ≡ items = ap (map item_tree) c.deref-2.ensures.value ∙ reads_once c.deref.result.now _ items c.in_ok-items.ensures.reads reads in
    if_ok c.count_items.result (λ sizes counted kind. counted kind ∙ ap (λ (xs : List ItemTree). slice_index c.args.counts (space_of kind) + numbered kind xs) same) c.count_items.ensures.counted

pub returns-clause-too_large : goal.returns-clause-too_large
returns-clause-too_large c = λ items is n e.
    let text = c.deref.ensures.value ∙ c.in_ok-component.ensures.text in
    let reads : Reads c.deref.result.now items = subst (λ (bytes : List ℕ). Reads bytes items) (sym text) (subst (Reads _) is.items_are (one_section c.args.id c.args.content.now is.section is.id_is is.form c.in_ok-component.ensures.fits)) in
    let same : map item_tree c.deref-2.result.now ≡ items = ap (map item_tree) c.deref-2.ensures.value ∙ reads_once c.deref.result.now _ items c.in_ok-items.ensures.reads reads in
    let refused = c.count_items.ensures.too_large n e in
    (refused.0, inr (refused.1.0, subst (λ (xs : List ItemTree). n ≡ slice_index c.args.counts (space_of refused.1.0) + numbered refused.1.0 xs) same refused.1.1))
