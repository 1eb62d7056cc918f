-- What a step of the code stands for.
use Rattle.std.specs.Prelude.{ℕ, false, if◌then◌else◌, Result, Ok}
use Rattle.yaml_small.specs.declared.node.Step.{Step}
use Rattle.yaml_small.specs.Places.{At, over, is_colon}
use Rattle.yaml_small.specs.Scalars.{Fault, ScalarToken}
use Rattle.yaml_small.specs.Step.{Transition, transition, map_start, scalar_token_transition}
use Rattle.yaml_small.specs.Answers.{place_at}

abbrev pub step_view : Step → Transition
step_view s = transition s.event (place_at s.place) s.mode s.change

-- the map whose first key is a scalar, or that scalar
abbrev pub key_or_scalar : ℕ → At → ScalarToken → Result Transition Fault
key_or_scalar depth a w = if is_colon (over w.end).line then map_start depth a else Ok (scalar_token_transition false w)
