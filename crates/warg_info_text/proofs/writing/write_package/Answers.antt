-- The lines of a package's log.
use Rattle.std.proofs.Common.{◌≡◌, ◌≤◌, Some, sym, subst, rules}
use Rattle.serde_json.specs.Data.{Data, depth}
use Rattle.serde_json.specs.Read.{max_depth}
use Rattle.serde_json.specs.View.{view}
use Rattle.warg_record.specs.Record.{Package}
use Rattle.warg_store.specs.Held.{package_info}
use Rattle.warg_info_text.specs.StoredTexts.{info_data}
use Rattle.warg_info_text.proofs.InfoLaws.{IsLines, lines_text, package_whole, package_front, info_no_float, info_nests}
use Rattle.warg_info_text.proofs.RecordLaws.{log_reads_back}
use Rattle.warg_info_text.proofs.writing.write_package.Goals as goal

pub returns-clause-text : goal.returns-clause-text
returns-clause-text c =
    let info = package_info c.args.info.now in
    let means : view c.in_ok-value.value ≡ info_data (Some c.args.info.now.name) info = search rules in
    let is : IsLines c.in_ok-text.text.items (view c.in_ok-value.value) =
    record { layout = c.in_ok-text.ensures.layout; order = c.in_ok-text.ensures.order; json = c.in_ok-text.ensures.reads (subst (λ (e : Data). depth e ≤ max_depth) (sym means) (info_nests (Some c.args.info.now.name) info)) } in
    lines_text c.in_ok-text.text.items (info_data (Some c.args.info.now.name) info) (subst (IsLines c.in_ok-text.text.items) means is) (info_no_float (Some c.args.info.now.name) info)

pub returns-clause-whole : goal.returns-clause-whole
returns-clause-whole c =
    let info = package_info c.args.info.now in
    let means : view c.in_ok-value.value ≡ info_data (Some c.args.info.now.name) info = search rules in
    let is : IsLines c.in_ok-text.text.items (view c.in_ok-value.value) =
    record { layout = c.in_ok-text.ensures.layout; order = c.in_ok-text.ensures.order; json = c.in_ok-text.ensures.reads (subst (λ (e : Data). depth e ≤ max_depth) (sym means) (info_nests (Some c.args.info.now.name) info)) } in
    let sound = c.requires in
    package_whole c.in_ok-text.text.items c.args.info.now.name info (subst (IsLines c.in_ok-text.text.items) means is) (search rules) c.in_ok-value.ensures.writable (search rules)
    (log_reads_back c.key_texts_are_tested.ensures Package info.log c.in_ok-value.ensures.writable sound.read sound.ascends sound.replay.lawful)

pub returns-clause-front : goal.returns-clause-front
returns-clause-front c n lt =
    let info = package_info c.args.info.now in
    let means : view c.in_ok-value.value ≡ info_data (Some c.args.info.now.name) info = search rules in
    let is : IsLines c.in_ok-text.text.items (view c.in_ok-value.value) =
    record { layout = c.in_ok-text.ensures.layout; order = c.in_ok-text.ensures.order; json = c.in_ok-text.ensures.reads (subst (λ (e : Data). depth e ≤ max_depth) (sym means) (info_nests (Some c.args.info.now.name) info)) } in
    package_front c.a_front_is_read_as_no_object.ensures c.in_ok-text.text.items c.args.info.now.name info n (subst (IsLines c.in_ok-text.text.items) means is) lt
