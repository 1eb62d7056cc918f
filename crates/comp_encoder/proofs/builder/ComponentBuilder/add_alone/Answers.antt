use Rattle.std.proofs.Common.{◌≡◌, ◌+◌, ◌∷◌, ◌++◌, [], List, sym, ap, subst, ◌∙◌}
use Rattle.std.specs.Prelude.{slice_set}
use Rattle.comp_encoder.specs.Writing.{Single, next_index}
use Rattle.comp_encoder.specs.Builder.{Kept, Item, IsBuilt, item_of, entries_of}
use Rattle.comp_encoder.proofs.CountLaws.{one_built, entries_push}
use Rattle.comp_encoder.proofs.builder.ComponentBuilder.add_alone.Goals as goal

pub invariant_of-self-2 : goal.invariant_of-self-2
invariant_of-self-2 c =
    let kepts : List Kept = c.self.inside.built in
    let bytes : List _ = c.args.bytes.now in
    let next : c.args.size ≡ next_index c.args.sort (entries_of kepts) + 1 = c.requires.next ∙ ap (λ (ks : List Kept). next_index c.args.sort (entries_of ks) + 1) (sym c.self.view_is) in
    let counts : List _ = slice_set c.self.inside.counts c.space_of.result c.args.size in
    let built : IsBuilt (kepts ++ Item c.args.id bytes ∷ []) counts =
    subst (λ s. IsBuilt (kepts ++ Item c.args.id bytes ∷ []) (slice_set c.self.inside.counts s c.args.size)) (sym c.space_of.ensures.value)
    (one_built kepts c.self.inside.counts c.args.id bytes c.args.sort c.args.size c.self.told c.self.invariant c.requires.bytes c.requires.kind next c.ranges.size.fits) in
    subst (λ (ks : List Kept). IsBuilt ks counts) (sym c.in_ok-push_section.ensures.added) built

pub returns-clause-added : goal.returns-clause-added
returns-clause-added c =
    ap entries_of c.in_ok-push_section.ensures.added ∙ entries_push c.self.inside.built c.args.id c.args.bytes.now
    ∙ ap (λ (ks : List Kept). entries_of ks ++ Single (item_of c.args.id c.args.bytes.now) ∷ []) c.self.view_is
