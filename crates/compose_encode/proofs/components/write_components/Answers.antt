use Rattle.std.proofs.Common.{◌∙◌, ◌<◌, length, sym, ap, subst}
use Rattle.std.specs.Prelude.{OnOk}
use Rattle.std.specs.List.{AllByRecursion, fold}
use Rattle.compose_check.specs.Composition.{composition_tree}
use Rattle.compose_image.specs.Imports.{used}
use Rattle.compose_image.specs.Instances.{Written}
use Rattle.compose_encode.specs.Held.{Holds, begun, with_component}
use Rattle.compose_encode.specs.Numbers.{IsTooLarge}
use Rattle.compose_encode.proofs.HeldLaws.{components_fold}
use Rattle.compose_encode.proofs.LookLaws.{used_below}
use Rattle.compose_encode.proofs.components.write_components.Goals as goal

pub write_all-requires : goal.write_all-requires
write_all-requires c = subst (λ ns. AllByRecursion (λ n. n < length (composition_tree c.args.composition.now).components) ns) (sym c.requires) (used_below (composition_tree c.args.composition.now))

pub returns-then-define-clause-written : goal.returns-then-define-clause-written
returns-then-define-clause-written c = λ imports h.
    let k = composition_tree c.args.composition.now in
    let all = ap (λ ns. fold (with_component k) (begun imports) ns) c.requires ∙ components_fold k (used k) imports in
    rw c.if-define.true (subst (λ (v : Written). OnOk c.write_all.result (Holds imports c.write_all.new.output v)) all (c.write_all.ensures.written imports (begun imports) h))

pub returns-then-define-clause-index : goal.returns-then-define-clause-index
returns-then-define-clause-index c = λ imports h lt.
    let k = composition_tree c.args.composition.now in
    rw c.if-define.true (c.write_all.ensures.index imports (begun imports) h (subst (λ ns. 0 < length ns) (sym c.requires) lt))

pub returns-then-define-clause-too_large : goal.returns-then-define-clause-too_large
returns-then-define-clause-too_large c = λ imports n h e.
    let k = composition_tree c.args.composition.now in
    let all = ap (λ ns. fold (with_component k) (begun imports) ns) c.requires ∙ components_fold k (used k) imports in
    rw c.if-define.true (subst (λ (v : Written). IsTooLarge n imports v.items) all (c.write_all.ensures.too_large imports (begun imports) n h e))
