-- The lines of an operator's log.
use Rattle.std.proofs.Common.{◌≡◌, ◌≤◌, None, sym, subst, rules}
use Rattle.serde_json.specs.Data.{Data, depth}
use Rattle.serde_json.specs.Read.{max_depth}
use Rattle.serde_json.specs.View.{view}
use Rattle.warg_record.specs.Record.{Operator}
use Rattle.warg_store.specs.Held.{operator_info}
use Rattle.warg_info_text.specs.StoredTexts.{info_data}
use Rattle.warg_info_text.proofs.InfoLaws.{IsLines, lines_text, operator_whole, operator_front, info_no_float, info_nests}
use Rattle.warg_info_text.proofs.RecordLaws.{log_reads_back}
use Rattle.warg_info_text.proofs.writing.write_operator.Goals as goal

pub returns-clause-text : goal.returns-clause-text
returns-clause-text c =
    let info = operator_info c.args.info.now in
    let means : view c.in_ok-value.value ≡ info_data None info = search rules in
    let is : IsLines c.in_ok-text.text.items (view c.in_ok-value.value) =
    record { layout = c.in_ok-text.ensures.layout; order = c.in_ok-text.ensures.order; json = c.in_ok-text.ensures.reads (subst (λ (e : Data). depth e ≤ max_depth) (sym means) (info_nests None info)) } in
    lines_text c.in_ok-text.text.items (info_data None info) (subst (IsLines c.in_ok-text.text.items) means is) (info_no_float None info)

pub returns-clause-whole : goal.returns-clause-whole
returns-clause-whole c =
    let info = operator_info c.args.info.now in
    let means : view c.in_ok-value.value ≡ info_data None info = search rules in
    let is : IsLines c.in_ok-text.text.items (view c.in_ok-value.value) =
    record { layout = c.in_ok-text.ensures.layout; order = c.in_ok-text.ensures.order; json = c.in_ok-text.ensures.reads (subst (λ (e : Data). depth e ≤ max_depth) (sym means) (info_nests None info)) } in
    let sound = c.requires in
    operator_whole c.in_ok-text.text.items info (subst (IsLines c.in_ok-text.text.items) means is) c.in_ok-value.ensures.writable (search rules)
    (log_reads_back c.key_texts_are_tested.ensures Operator info.log c.in_ok-value.ensures.writable sound.read sound.ascends sound.replay.lawful)

pub returns-clause-front : goal.returns-clause-front
returns-clause-front c n lt =
    let info = operator_info c.args.info.now in
    let means : view c.in_ok-value.value ≡ info_data None info = search rules in
    let is : IsLines c.in_ok-text.text.items (view c.in_ok-value.value) =
    record { layout = c.in_ok-text.ensures.layout; order = c.in_ok-text.ensures.order; json = c.in_ok-text.ensures.reads (subst (λ (e : Data). depth e ≤ max_depth) (sym means) (info_nests None info)) } in
    operator_front c.a_front_is_read_as_no_object.ensures c.in_ok-text.text.items info n (subst (IsLines c.in_ok-text.text.items) means is) lt
