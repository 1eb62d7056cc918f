use Rattle.std.proofs.Common.{rules, ◌≡◌, ◌+◌, ◌∙◌, sym, arith, refl}
use Rattle.std.specs.Prelude.{Some, None, slice_get}
use Rattle.std.specs.BTreeMap.{get}
use Rattle.comp_entity.specs.Names.{entity_by, entries_by}
use Rattle.comp_entity.specs.Views.{entries_of}
use Rattle.compose_left.specs.Wired.{input_cmp}
use Rattle.compose_fit.specs.Seen.{compared_by, given_in}
use Rattle.compose_fit.specs.Wires.{given_by}
use Rattle.compose_fit.proofs.CauseLaws.{why_by, no_wire, no_given, no_asked, all_fits, is_misfit}
use Rattle.compose_fit.proofs.EntryLaws.{seen_at, none_entry, some_entry, none_given, some_given, asked_is}
use Rattle.compose_fit.proofs.SeenLaws.{entity_shown, shown_nth}
use Rattle.compose_fit.proofs.fit.import_misfit.Goals as goal

pub returns-in_default : goal.returns-in_default
returns-in_default c = λ ch w a finds.
    let absent : get input_cmp c.args.wires.now (record { target = c.args.target; import = c.args.import }) ≡ None = search rules in
    no_wire (compared_by ch) w c.args.target c.args.import (sym (finds (record { target = c.args.target; import = c.args.import })) ∙ absent)

pub returns-in_default-given_by : goal.returns-in_default-given_by
returns-in_default-given_by c = λ ch w a finds.
    let found : get input_cmp c.args.wires.now (record { target = c.args.target; import = c.args.import }) ≡ Some c.in-Some.wire.now = search rules in
    no_given (compared_by ch) w c.args.target c.args.import c.in-Some.wire.now (sym (finds (record { target = c.args.target; import = c.args.import })) ∙ found)
    (none_given c.args.table.now (ch c.in-Some.wire.now.source) (given_by w.shapes c.in-Some.wire.now) (c.in_default-given_by.ensures ch w.shapes a))

pub entry_in-requires : goal.entry_in-requires
entry_in-requires c =
    let known = c.requires.seen in
    let same : 0 + c.args.target ≡ c.args.target = omega arith in
    let x = seen_at c.args.table.now known.0 0 c.args.seen.now known.1 c.args.target c.args.target (record { imports = 0; exports = 0 }) known.2 same c.requires.target in
    (entries_by (known.0 c.args.target) 0 (entries_of x.shape.imports), x.seen.imports)

pub returns-in_default-entry_in : goal.returns-in_default-entry_in
returns-in_default-entry_in c = λ ch w a finds.
    let same : 0 + c.args.target ≡ c.args.target = omega arith in
    let x = seen_at c.args.table.now ch 0 c.args.seen.now w.shapes c.args.target c.args.target (record { imports = 0; exports = 0 }) a same c.requires.target in
    no_asked (compared_by ch) w c.args.target c.args.import
    (asked_is w.shapes c.args.target c.args.import x.shape x.there
    ∙ none_entry c.args.table.now (ch c.args.target) (slice_get x.shape.imports c.args.import) (c.in_default-entry_in.ensures (ch c.args.target) x.shape.imports x.seen.imports))

pub why_unfit-requires-clause-asked : goal.why_unfit-requires-clause-asked
why_unfit-requires-clause-asked c =
    let known = c.requires.seen in
    let same : 0 + c.args.target ≡ c.args.target = omega arith in
    let x = seen_at c.args.table.now known.0 0 c.args.seen.now known.1 c.args.target c.args.target (record { imports = 0; exports = 0 }) known.2 same c.requires.target in
    let item = some_entry c.args.table.now (known.0 c.args.target) (c.in-Some-entry_in.name, c.in-Some-entry_in.asked) (slice_get x.shape.imports c.args.import) (c.in-Some-entry_in.ensures (known.0 c.args.target) x.shape.imports x.seen.imports) in
    (entity_by (known.0 c.args.target) 0 item.item.1, item.stands, entity_shown (known.0 c.args.target) 0 item.item.1 (shown_nth x.shape.imports c.args.import item.item x.seen.shown item.is))

pub returns-in-None : goal.returns-in-None
returns-in-None c = λ ch w a finds.
    let found : get input_cmp c.args.wires.now (record { target = c.args.target; import = c.args.import }) ≡ Some c.in-Some.wire.now = search rules in
    let wire = c.in-Some.wire.now in
    let same : 0 + c.args.target ≡ c.args.target = omega arith in
    let x = seen_at c.args.table.now ch 0 c.args.seen.now w.shapes c.args.target c.args.target (record { imports = 0; exports = 0 }) a same c.requires.target in
    let g = some_given c.args.table.now (ch wire.source) c.in-Some-given_by.given (given_by w.shapes wire) (c.in-Some-given_by.ensures ch w.shapes a) in
    let item = some_entry c.args.table.now (ch c.args.target) (c.in-Some-entry_in.name, c.in-Some-entry_in.asked) (slice_get x.shape.imports c.args.import) (c.in-Some-entry_in.ensures (ch c.args.target) x.shape.imports x.seen.imports) in
    let shown = entity_shown (ch c.args.target) 0 item.item.1 (shown_nth x.shape.imports c.args.import item.item x.seen.shown item.is) in
    let why = c.in_ok-why_unfit.ensures (given_in (ch wire.source) g.0) (entity_by (ch c.args.target) 0 item.item.1) g.2 item.stands shown in
    all_fits (compared_by ch) w c.args.target c.args.import wire g.0 item.item (sym (finds (record { target = c.args.target; import = c.args.import })) ∙ found) g.1
    (asked_is w.shapes c.args.target c.args.import x.shape x.there ∙ item.is)
    (sym (why ∙ why_by ch wire.source c.args.target g.0 item.item.1) ∙ c.in-None.is)

pub returns-in_ok-try_clone-in-Some-2 : goal.returns-in_ok-try_clone-in-Some-2
returns-in_ok-try_clone-in-Some-2 c = λ ch w a finds.
    let found : get input_cmp c.args.wires.now (record { target = c.args.target; import = c.args.import }) ≡ Some c.in-Some.wire.now = search rules in
    let wire = c.in-Some.wire.now in
    let same : 0 + c.args.target ≡ c.args.target = omega arith in
    let x = seen_at c.args.table.now ch 0 c.args.seen.now w.shapes c.args.target c.args.target (record { imports = 0; exports = 0 }) a same c.requires.target in
    let g = some_given c.args.table.now (ch wire.source) c.in-Some-given_by.given (given_by w.shapes wire) (c.in-Some-given_by.ensures ch w.shapes a) in
    let item = some_entry c.args.table.now (ch c.args.target) (c.in-Some-entry_in.name, c.in-Some-entry_in.asked) (slice_get x.shape.imports c.args.import) (c.in-Some-entry_in.ensures (ch c.args.target) x.shape.imports x.seen.imports) in
    let shown = entity_shown (ch c.args.target) 0 item.item.1 (shown_nth x.shape.imports c.args.import item.item x.seen.shown item.is) in
    let why = c.in_ok-why_unfit.ensures (given_in (ch wire.source) g.0) (entity_by (ch c.args.target) 0 item.item.1) g.2 item.stands shown in
    is_misfit (compared_by ch) w c.args.target c.args.import wire g.0 item.item (sym (finds (record { target = c.args.target; import = c.args.import })) ∙ found) g.1
    (asked_is w.shapes c.args.target c.args.import x.shape x.there ∙ item.is)
    (record { target = c.args.target; import = c.in_ok-try_clone-in-Some-2.field-0; why = c.in-Some-2.why }) refl (c.in_ok-try_clone-in-Some-2.ensures ∙ item.name)
    (sym (why ∙ why_by ch wire.source c.args.target g.0 item.item.1) ∙ c.in-Some-2.is)
