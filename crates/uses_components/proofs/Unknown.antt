-- A field that is called unknown.
use Rattle.std.proofs.Common.{◌≡◌, ℕ, List, inl, inr}
use Rattle.yaml_read.specs.Source.{Refusal, UnknownField, TooManyEvents}
use Rattle.yaml_causes.specs.Causes.{OrUncounted}

pub unknown : (Refuses : Refusal → Type 0) (name : List ℕ) → OrUncounted Refuses (UnknownField name) → Refuses (UnknownField name)
unknown Refuses name (inl many) = absurd cc
unknown Refuses name (inr told) = told
