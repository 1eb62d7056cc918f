-- The lines of what is to be published.
use Rattle.std.proofs.Common.{◌≤◌, sym, subst}
use Rattle.serde_json.specs.Data.{Data, depth}
use Rattle.serde_json.specs.Read.{max_depth}
use Rattle.serde_json.specs.View.{view}
use Rattle.warg_publish.specs.Shown.{info_view}
use Rattle.warg_publish_text.proofs.InfoLaws.{info_front, info_nests, info_text, info_whole}
use Rattle.warg_publish_text.proofs.LinesLaws.{IsLines}
use Rattle.warg_publish_text.proofs.writing.write_publish.Goals as goal

pub returns-clause-text : goal.returns-clause-text
returns-clause-text c =
    let info = info_view c.args.info.now in
    let is : IsLines c.in_ok-text.text.items (view c.in_ok-value.value) =
    record { layout = c.in_ok-text.ensures.layout; order = c.in_ok-text.ensures.order; json = c.in_ok-text.ensures.reads (subst (λ (e : Data). depth e ≤ max_depth) (sym c.in_ok-value.ensures.data) (info_nests info)) } in
    info_text c.in_ok-text.text.items info (subst (IsLines c.in_ok-text.text.items) c.in_ok-value.ensures.data is)

pub returns-clause-whole : goal.returns-clause-whole
returns-clause-whole c =
    let info = info_view c.args.info.now in
    let is : IsLines c.in_ok-text.text.items (view c.in_ok-value.value) =
    record { layout = c.in_ok-text.ensures.layout; order = c.in_ok-text.ensures.order; json = c.in_ok-text.ensures.reads (subst (λ (e : Data). depth e ≤ max_depth) (sym c.in_ok-value.ensures.data) (info_nests info)) } in
    info_whole c.in_ok-text.text.items info (subst (IsLines c.in_ok-text.text.items) c.in_ok-value.ensures.data is)
    c.in_ok-value.ensures.entries c.in_ok-value.ensures.head c.in_ok-value.ensures.name

pub returns-clause-front : goal.returns-clause-front
returns-clause-front c n lt =
    let info = info_view c.args.info.now in
    let is : IsLines c.in_ok-text.text.items (view c.in_ok-value.value) =
    record { layout = c.in_ok-text.ensures.layout; order = c.in_ok-text.ensures.order; json = c.in_ok-text.ensures.reads (subst (λ (e : Data). depth e ≤ max_depth) (sym c.in_ok-value.ensures.data) (info_nests info)) } in
    info_front c.in_ok-text.text.items info (subst (IsLines c.in_ok-text.text.items) c.in_ok-value.ensures.data is) c.a_front_is_read_as_no_object.ensures n lt
