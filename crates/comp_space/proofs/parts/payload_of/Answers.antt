use Rattle.std.proofs.Common.{refl, true}
use Rattle.comp_scope.specs.Values.{part_of, payload_of}
use Rattle.comp_entity.specs.Entity.{absent, present}
use Rattle.comp_space.specs.Standings.{Shows}
use Rattle.comp_table.specs.Plain.{plain_payload, plain_value}
use Rattle.comp_space.specs.StandingLaws.{finds_map}
use Rattle.comp_space.proofs.parts.payload_of.Goals as goal

pub returns-in-Some-clause-found : goal.returns-in-Some-clause-found
unfolding payload_of
returns-in-Some-clause-found c = λ s shows. rw c.in-Some.is
    (finds_map (Shows plain_value c.part_of.new.table) (Shows plain_payload c.part_of.new.table) (λ v. (present v.0, v.1)) c.part_of.result (part_of s c.in-Some.part)
    (λ x v shown. record { stands = shown.stands; named_is = shown.named_is }) (c.part_of.ensures.found s shows))

pub returns-in_ok-number-in-None-clause-found : goal.returns-in_ok-number-in-None-clause-found
unfolding payload_of
returns-in_ok-number-in-None-clause-found c = λ s shows. rw c.in-None.is (record {
  value = (absent, true);
  given_is = refl;
  shown = record { stands = c.in_ok-number-in-None.ensures.number; named_is = refl };
})
