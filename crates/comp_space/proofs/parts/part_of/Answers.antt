use Rattle.std.proofs.Common.{subst, refl, true}
use Rattle.comp_scope.specs.Spaces.{at_index}
use Rattle.comp_scope.specs.Values.{as_value, part_of}
use Rattle.comp_entity.specs.Entity.{Primitive}
use Rattle.comp_space.specs.Faults.{Finds}
use Rattle.comp_space.specs.Standings.{Shows}
use Rattle.comp_table.specs.Plain.{plain_entity, plain_value}
use Rattle.comp_space.specs.StandingLaws.{at_found, at_fails, fails_bind, fails_same, found_bind, number_there, passed_on}
use Rattle.comp_space.proofs.parts.part_of.Goals as goal

pub value_standing-requires : goal.value_standing-requires
value_standing-requires c = number_there c.args.table.now c.args.types.now c.in-Index.index c.in_ok-standing-in-Index.standing c.requires c.in_ok-standing-in-Index.ensures

pub returns-in_ok-number-in-Primitive-clause-found : goal.returns-in_ok-number-in-Primitive-clause-found
unfolding part_of
returns-in_ok-number-in-Primitive-clause-found c = λ s shows. rw c.in-Primitive.is (record {
  value = (Primitive c.in-Primitive.primitive, true);
  given_is = refl;
  shown = record { stands = c.in_ok-number-in-Primitive.ensures.number; named_is = refl };
})

pub returns-in_err-standing-in-Index-clause-found : goal.returns-in_err-standing-in-Index-clause-found
unfolding part_of
returns-in_err-standing-in-Index-clause-found c = λ s shows. rw c.in-Index.is
    (passed_on _ c.from_residual-in_err-standing-in-Index.result _ _ c.from_residual-in_err-standing-in-Index.ensures.1
    (fails_bind (at_index s.types c.in-Index.index) as_value _
    (fails_same (at_index c.args.types.now c.in-Index.index) _ _ (λ fault. at_fails c.args.table.now c.args.types.now s.types c.in-Index.index fault shows) c.in_err-standing-in-Index.ensures)))

pub returns-in_ok-standing-in-Index-clause-found : goal.returns-in_ok-standing-in-Index-clause-found
unfolding part_of
returns-in_ok-standing-in-Index-clause-found c = λ s shows.
    let f = at_found c.args.table.now c.args.types.now s.types c.in-Index.index c.in_ok-standing-in-Index.standing shows c.in_ok-standing-in-Index.ensures in
    rw c.in-Index.is
    (found_bind (Shows plain_entity c.args.table.now) (Shows plain_value c.args.table.now) c.in_ok-standing-in-Index.standing (at_index s.types c.in-Index.index) as_value c.value_standing.result f
    (subst (λ b. Finds (Shows plain_value c.args.table.now) c.value_standing.result (as_value (f.value.0, b))) f.shown.named_is (c.value_standing.ensures.found f.value.0 f.shown.stands)))
