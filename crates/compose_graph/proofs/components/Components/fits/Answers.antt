use Rattle.std.proofs.Common.{◌≡◌, rules, sym}
use Rattle.std.specs.Prelude.{None}
use Rattle.std.specs.BTreeMap.{get}
use Rattle.std.specs.Ordering.{nat_cmp}
use Rattle.std.specs.BTreeMap.{is_at}
use Rattle.compose_component.specs.Component.{shape_of}
use Rattle.compose_graph.proofs.PartLaws.{part_absent, part_loose, part_shape}
use Rattle.compose_graph.proofs.components.Components.fits.Goals as goal

pub returns-in_default : goal.returns-in_default
returns-in_default c = λ s t given asked source target gives asks.
    let none : get nat_cmp c.self.inside.parts c.args.source ≡ None = search rules in
    absurd (part_absent c.self.inside.parts.entries c.self.inside.next c.args.source c.args.self.now c.self.view_is s none source)

pub returns-in_default-get : goal.returns-in_default-get
returns-in_default-get c = λ s t given asked source target gives asks.
    let none : get nat_cmp c.self.inside.parts c.args.target ≡ None = search rules in
    absurd (part_absent c.self.inside.parts.entries c.self.inside.next c.args.target c.args.self.now c.self.view_is t none target)

pub is_fit-requires-clause-source : goal.is_fit-requires-clause-source
is_fit-requires-clause-source c =
    (shape_of c.in-Some.source.now.component, part_loose c.self.inside.table c.self.inside.parts.entries (is_at (nat_cmp c.args.source)) c.in-Some.source.now c.self.invariant.loosened (sym c.in-Some.ensures.value))

pub is_fit-requires-clause-target : goal.is_fit-requires-clause-target
is_fit-requires-clause-target c =
    (shape_of c.in-Some-get.target.now.component, part_loose c.self.inside.table c.self.inside.parts.entries (is_at (nat_cmp c.args.target)) c.in-Some-get.target.now c.self.invariant.loosened (sym c.in-Some-get.ensures.value))

pub returns : goal.returns
returns c = λ s t given asked source target gives asks.
    c.in_ok-fits.ensures s.shape t.shape given asked
    (part_shape c.self.inside.parts.entries c.self.inside.next c.args.source c.args.self.now c.self.view_is c.self.inside.table c.in-Some.source.now s c.self.invariant.loosened (sym c.in-Some.ensures.value) source)
    (part_shape c.self.inside.parts.entries c.self.inside.next c.args.target c.args.self.now c.self.view_is c.self.inside.table c.in-Some-get.target.now t c.self.invariant.loosened (sym c.in-Some-get.ensures.value) target)
    gives asks
