-- Worked rows of the definitions.
use Rattle.std.proofs.Common.{Some, None, refl, inl, inr, codes}
use Rattle.yaml_small.specs.Trees.{Leaf, Map, pair, no_pairs, missing}
use Rattle.yaml_read.specs.Source.{UnknownField, MissingField, WrongScalar}
use Rattle.compose_config.specs.Plan.{scalar}
use Rattle.yaml_causes.specs.PlanCauses.{RefusesSettings}

-- `colour: ~`
unknown : RefusesSettings (Some (Map (pair (scalar (codes "colour")) missing no_pairs))) (UnknownField (codes "colour"))
unknown = inl (inr (refl, inr (refl, inr (refl, inr (refl, inr (refl, inr (refl, inr (refl, refl))))))))

-- `dependencies: {a: {}}`
lacking : RefusesSettings (Some (Map (pair (scalar (codes "dependencies")) (Map (pair (scalar (codes "a")) (Map no_pairs) no_pairs)) no_pairs))) (MissingField (codes "path"))
lacking = inl (inr (refl, inr (refl, inr (refl, inr (refl, inr (refl, inl (refl, inl (inr (None, refl, refl)))))))))

-- `skip-validation: maybe`
scalar_refused : RefusesSettings (Some (Map (pair (scalar (codes "skip-validation")) (Leaf (scalar (codes "maybe"))) no_pairs))) (WrongScalar (codes "maybe"))
scalar_refused = inl (inr (refl, inr (refl, inl (refl, inl (refl, refl)))))
