use Rattle.std.proofs.Common.{rules, ◌≡◌, ◌+◌, ◌∙◌, ap, sym, subst, arith}
use Rattle.std.specs.Prelude.{Some, None, slice_index_or}
use Rattle.comp_entity.specs.Names.{entries_by}
use Rattle.comp_entity.specs.Views.{entries_of}
use Rattle.compose_fit.specs.Seen.{IsGivenFound}
use Rattle.compose_fit.specs.Wires.{given_of, given_by}
use Rattle.compose_fit.specs.declared.wire.GivenNumber.TheVariants as numbered
use Rattle.compose_fit.proofs.EntryLaws.{seen_at, none_seen_at, given_is, none_given_by, export_given}
use Rattle.compose_fit.proofs.wire.given_by.Goals as goal

pub returns-then-wire-seen : goal.returns-then-wire-seen
returns-then-wire-seen c = λ ch shapes a.
    subst (IsGivenFound c.args.table.now (ch c.args.wire.source) None) (sym (none_given_by shapes c.args.wire (none_seen_at c.args.table.now ch 0 c.args.seen.now shapes c.args.wire.source a c.if-wire-seen.true))) tt

pub entry_in-requires : goal.entry_in-requires
entry_in-requires c =
    let known = c.requires in
    let same : 0 + c.args.wire.source ≡ c.args.wire.source = omega arith in
    let x = seen_at c.args.table.now known.0 0 c.args.seen.now known.1 c.args.wire.source c.args.wire.source (record { imports = 0; exports = 0 }) known.2 same c.if-wire-seen.false in
    (entries_by (known.0 c.args.wire.source) 0 (entries_of x.shape.exports), x.seen.exports)

pub returns-in_err-name-in-Some : goal.returns-in_err-name-in-Some
returns-in_err-name-in-Some c = λ ch shapes a.
    let same : 0 + c.args.wire.source ≡ c.args.wire.source = omega arith in
    let x = seen_at c.args.table.now ch 0 c.args.seen.now shapes c.args.wire.source c.args.wire.source (record { imports = 0; exports = 0 }) a same c.if-wire-seen.false in
    let none : c.from_residual.result ≡ None = search rules in
    subst (λ r. IsGivenFound c.args.table.now (ch c.args.wire.source) r (given_by shapes c.args.wire)) (sym none)
    (export_given c.args.table.now (ch c.args.wire.source) shapes c.args.wire x.shape c.in-Some.place None x.there c.in-Some.is (c.in_err-name-in-Some.ensures (ch c.args.wire.source) x.shape.exports x.seen.exports))

pub returns-in-None : goal.returns-in-None
returns-in-None c = λ ch shapes a.
    let same : 0 + c.args.wire.source ≡ c.args.wire.source = omega arith in
    let x = seen_at c.args.table.now ch 0 c.args.seen.now shapes c.args.wire.source c.args.wire.source (record { imports = 0; exports = 0 }) a same c.if-wire-seen.false in
    subst (IsGivenFound c.args.table.now (ch c.args.wire.source) (Some (numbered.Whole (slice_index_or c.args.seen.now c.args.wire.source (record { imports = 0; exports = 0 })).exports))) (sym (given_is shapes c.args.wire x.shape x.there ∙ ap (given_of x.shape) c.in-None.is)) x.seen.exports

pub returns-in_ok-name-in-Some : goal.returns-in_ok-name-in-Some
returns-in_ok-name-in-Some c = λ ch shapes a.
    let same : 0 + c.args.wire.source ≡ c.args.wire.source = omega arith in
    let x = seen_at c.args.table.now ch 0 c.args.seen.now shapes c.args.wire.source c.args.wire.source (record { imports = 0; exports = 0 }) a same c.if-wire-seen.false in
    export_given c.args.table.now (ch c.args.wire.source) shapes c.args.wire x.shape c.in-Some.place (Some (c.in_ok-name-in-Some.name, c.in_ok-name-in-Some.entity)) x.there c.in-Some.is (c.in_ok-name-in-Some.ensures (ch c.args.wire.source) x.shape.exports x.seen.exports)
