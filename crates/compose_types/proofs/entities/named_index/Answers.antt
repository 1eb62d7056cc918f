use Rattle.std.proofs.Common.{rules, ◌≡◌, true, false, sym, ◌∙◌}
use Rattle.comp_entity.specs.Fits.{place_of}
use Rattle.comp_entity.specs.Names.{OfPlace}
use Rattle.comp_entity.specs.Views.{value_tree}
use Rattle.compose_writing.specs.Scopes.{knows}
use Rattle.compose_types.specs.Scopes.{scopes}
use Rattle.compose_types.proofs.EntityPossibleLaws.{named_known_possible, named_new_possible, no_name_possible}
use Rattle.compose_types.proofs.entities.named_index.Goals as goal

pub place_index-requires : goal.place_index-requires
place_index-requires c =
    let known : knows (scopes c.args.state.now) (OfPlace c.in-Some.place) ≡ true = search rules in
    named_known_possible (place_of (value_tree c.args.ty.now)) (value_tree c.args.ty.now) (scopes c.args.state.now) c.requires.possible c.in-Some.place (sym c.in-Some.is ∙ c.place_of.ensures) known

pub own_index-requires-clause-possible : goal.own_index-requires-clause-possible
own_index-requires-clause-possible c =
    let known : knows (scopes c.args.state.now) (OfPlace c.in-Some.place) ≡ false = search rules in
    named_new_possible (place_of (value_tree c.args.ty.now)) (value_tree c.args.ty.now) (scopes c.args.state.now) c.requires.possible c.in-Some.place (sym c.in-Some.is ∙ c.place_of.ensures) known

pub own_index-requires-in-None-clause-possible : goal.own_index-requires-in-None-clause-possible
own_index-requires-in-None-clause-possible c =
    no_name_possible (place_of (value_tree c.args.ty.now)) (value_tree c.args.ty.now) (scopes c.args.state.now) c.requires.possible (sym c.in-None.is ∙ c.place_of.ensures)
