use Rattle.std.proofs.Common.{◌≡◌, ◌+◌, ◌<◌, ◌^◌, ℕ, List, ◌∷◌, ◌++◌, [], length, Result, Err, sym, ap, subst, ◌∙◌, arith, inl, inr}
use Rattle.std.specs.Prelude.{◌⊎◌, slice_index}
use Rattle.std.proofs.lemmas.Result.{err_from_is_err_and}
use Rattle.comp_format.specs.declared.error.EncodeError.{EncodeError}
use Rattle.comp_format.specs.declared.error.EncodeError.TheVariants as encode_error
use Rattle.comp_format.specs.declared.types.Sort.{Sort}
use Rattle.comp_format.specs.Items.{ItemTree}
use Rattle.comp_format.specs.Spaces.{space_of}
use Rattle.comp_encoder.specs.Writing.{GivenSection, next_index, numbered}
use Rattle.comp_encoder.specs.Builder.{Kept, Whole, IsBuilt, entries_of}
use Rattle.comp_encoder.proofs.CountLaws.{section_built, entries_section}
use Rattle.comp_encoder.proofs.RawLaws.{section_kept}
use Rattle.comp_encoder.proofs.builder.ComponentBuilder.raw_section.Goals as goal

-- which number is too large, by what index spaces number in place of their counts
told : (length n : ℕ) (had has more : Sort → ℕ) → ((kind : Sort) → had kind ≡ has kind) → ((n ≡ length) ⊎ ((kind : Sort) × (n ≡ had kind + more kind)))
    → ((n ≡ length) ⊎ ((kind : Sort) × (n ≡ has kind + more kind)))
told length n had has more same (inl h) = inl h
told length n had has more same (inr h) = inr (h.0, omega (arith, h.1, same h.0))

abbrev failed : {A : Type 0} → EncodeError → Result A EncodeError
failed x = Err x

err_is : {A : Type 0} (x y : EncodeError) → failed {A = A} x ≡ failed y → x ≡ y
err_is x y e = cc

pub push_section-requires-clause-kept : goal.push_section-requires-clause-kept
push_section-requires-clause-kept c = let is = c.requires.1 in section_kept c.args.id c.args.content.now is.section is.id_is is.form

pub invariant_of-self-2 : goal.invariant_of-self-2
invariant_of-self-2 c =
    let is = c.requires.1 in
    let kepts : List Kept = c.self.inside.built in
    let built : IsBuilt (kepts ++ Whole c.args.id c.args.content.now ∷ []) c.in_ok-counts.counts =
    section_built kepts c.self.inside.counts c.in_ok-counts.counts c.args.id c.args.content.now is.section c.self.invariant is.id_is is.form
    (λ kind. c.in_ok-counts.ensures.counted c.requires.0 is kind ∙ ap (λ (items : List ItemTree). slice_index c.self.inside.counts (space_of kind) + numbered kind items) (sym is.items_are))
    c.in_ok-counts.ensures.small in
    subst (λ (ks : List Kept). IsBuilt ks c.in_ok-counts.counts) (sym c.in_ok-push_section.ensures.added) built

pub returns-clause-added : goal.returns-clause-added
returns-clause-added c = λ items is.
    let kepts : List Kept = c.self.inside.built in
    ap entries_of c.in_ok-push_section.ensures.added ∙ entries_section kepts c.args.id c.args.content.now is.section is.id_is is.form
    ∙ ap (λ (xs : List ItemTree). entries_of kepts ++ GivenSection c.args.id c.args.content.now xs ∷ []) is.items_are
    ∙ ap (λ (ks : List Kept). entries_of ks ++ GivenSection c.args.id c.args.content.now items ∷ []) c.self.view_is

pub returns-clause-small : goal.returns-clause-small
returns-clause-small c = λ kind.
    let built : IsBuilt c.push_section.new.self c.in_ok-counts.counts = invariant_of-self-2 c in
    subst (λ n. n < 2 ^ 32) (built.counted kind) (built.small kind)

pub returns-in_err-counts-clause-too_large : goal.returns-in_err-counts-clause-too_large
returns-in_err-counts-clause-too_large c = λ items is n e.
    let p = err_from_is_err_and c.from_residual.result c.from_residual.ensures.1 in
    let same : p.0 ≡ encode_error.TooLarge n = err_is p.0 (encode_error.TooLarge n) (sym p.1 ∙ e) in
    let refused = c.in_err-counts.ensures.too_large items is n (ap (λ (x : EncodeError). Err x) (sym p.2 ∙ same)) in
    let sizes = λ (kind : Sort). c.self.invariant.counted kind ∙ ap (λ (ks : List Kept). next_index kind (entries_of ks)) c.self.view_is in
    (refused.0, told (length c.args.content.now) n (λ kind. slice_index c.self.inside.counts (space_of kind)) (λ kind. next_index kind (entries_of c.args.self.now)) (λ kind. numbered kind items) sizes refused.1)
