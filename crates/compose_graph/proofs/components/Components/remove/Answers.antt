use Rattle.std.proofs.Common.{subst, sym, List, ℕ}
use Rattle.std.specs.Prelude.{None}
use Rattle.std.specs.BTreeMap.{UpdatesBy}
use Rattle.std.specs.Cmp.Lexicographic.{slice_cmp}
use Rattle.std.specs.Ordering.{nat_cmp}
use Rattle.std.specs.String.{string_bytes, string_cmp}
use Rattle.compose_graph.proofs.PartLaws.{parts_removed, list_removed}
use Rattle.compose_graph.proofs.components.Components.remove.Goals as goal

pub invariant_of-self : goal.invariant_of-self
invariant_of-self c =
    parts_removed c.self.inside.parts.entries c.remove.new.self.entries c.self.inside.numbers c.remove-number.new.self c.self.inside.table c.self.inside.next c.args.id c.in-Some.part
    c.in-Some.ensures.entries (sym c.in-Some.ensures.value)
    (subst (λ (name : List ℕ). UpdatesBy string_cmp (λ k. slice_cmp nat_cmp name (string_bytes k)) c.self.inside.numbers c.remove-number.new.self None) c.name.ensures c.remove-number.ensures.updates)
    c.self.invariant

pub returns-in-Some : goal.returns-in-Some
returns-in-Some c = list_removed c.self.inside.parts.entries c.remove.new.self.entries c.self.inside.next c.args.id c.args.self.now c.self.invariant.ids c.in-Some.ensures.entries c.self.view_is

pub returns-in_default : goal.returns-in_default
returns-in_default c = list_removed c.self.inside.parts.entries c.remove.new.self.entries c.self.inside.next c.args.id c.args.self.now c.self.invariant.ids c.in_default.ensures.entries c.self.view_is
