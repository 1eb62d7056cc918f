use Rattle.std.proofs.Common.{◌≡◌, Result, Err, subst}
use Rattle.yaml_small.specs.declared.error.ScanError.{ScanError}
use Rattle.yaml_small.specs.declared.error.ScanError.TheVariants as errors
use Rattle.yaml_small.specs.declared.event.Event.{Event}
use Rattle.yaml_small.specs.declared.event.Marker.{Marker}
use Rattle.yaml_small.specs.Answers.{state_of, ScanGives}
use Rattle.yaml_small.specs.Scalars.{NotCarried}
use Rattle.yaml_small.specs.Stream.{State, next}
use Rattle.uses_components.proofs.documents.next_or_form.Goals as goal

refused : (at : State) (view : Event × Marker → Event × State) (result : Result (Event × Marker) ScanError) (mark : Marker) → result ≡ Err (errors.NotCarried mark) → ScanGives view result (next at) → next at ≡ Err NotCarried
refused at view result mark is gives = subst (λ (r : Result (Event × Marker) ScanError). ScanGives view r (next at)) is gives

pub returns : goal.returns
returns c mark is =
    c.not_carried_is_a_listed_form.ensures (state_of c.args.parser.now)
    (refused (state_of c.args.parser.now) (λ emitted. (emitted.0, state_of c.next_token.new.self)) c.next_token.result mark is c.next_token.ensures.emitted)
