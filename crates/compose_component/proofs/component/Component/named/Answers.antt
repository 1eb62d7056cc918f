use Rattle.std.proofs.Common.{subst, map}
use Rattle.compose_component.proofs.component.Component.named.Goals as goal
use Rattle.compose_component.specs.Content.{content_bytes}
use Rattle.compose_component.specs.Names.{FindsNames}
use Rattle.compose_component.proofs.ComponentLaws.{is_component}

abbrev pub invariant_of-result-clause-is_component : goal.invariant_of-result-clause-is_component
invariant_of-result-clause-is_component c = is_component (content_bytes c.args.content) c.requires.read.items c.requires.read.reads

pub invariant_of-result-clause-read : goal.invariant_of-result-clause-read
invariant_of-result-clause-read c = ∣ c.requires.read.has_shape ∣₁

pub invariant_of-result-clause-finds_imports : goal.invariant_of-result-clause-finds_imports
invariant_of-result-clause-finds_imports c =
    subst (λ imports. FindsNames c.in_ok-import_places.import_places (map (λ i. i.name) imports)) c.deref.ensures.value c.in_ok-import_places.ensures

pub invariant_of-result-clause-finds_exports : goal.invariant_of-result-clause-finds_exports
invariant_of-result-clause-finds_exports c =
    subst (λ exports. FindsNames c.in_ok-export_places.export_places (map (λ e. e.name) exports)) c.deref-2.ensures.value c.in_ok-export_places.ensures
