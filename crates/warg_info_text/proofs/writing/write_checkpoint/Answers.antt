-- The lines of a checkpoint.
use Rattle.std.proofs.Common.{◌≤◌, arith, refl, sym, subst}
use Rattle.serde_json.specs.Data.{Data, depth}
use Rattle.serde_json.specs.Read.{max_depth}
use Rattle.serde_json.specs.View.{view}
use Rattle.warg_exchange.specs.Replies.{checkpoint_in}
use Rattle.warg_exchange.specs.Requests.{checkpoint_data}
use Rattle.warg_info_text.proofs.InfoLaws.{IsLines, lines_text, lines_whole, lines_front, checkpoint_only}
use Rattle.warg_info_text.proofs.writing.write_checkpoint.Goals as goal

pub returns-clause-text : goal.returns-clause-text
returns-clause-text c =
    let d = checkpoint_data c.args.checkpoint.now in
    let is : IsLines c.in_ok-text.text.items (view c.in_ok-value.value) =
    record { layout = c.in_ok-text.ensures.layout; order = c.in_ok-text.ensures.order; json = c.in_ok-text.ensures.reads (subst (λ (e : Data). depth e ≤ max_depth) (sym c.in_ok-value.ensures.data) (omega arith)) } in
    lines_text c.in_ok-text.text.items d (subst (IsLines c.in_ok-text.text.items) c.in_ok-value.ensures.data is) refl

pub returns-clause-whole : goal.returns-clause-whole
returns-clause-whole c =
    let d = checkpoint_data c.args.checkpoint.now in
    let is : IsLines c.in_ok-text.text.items (view c.in_ok-value.value) =
    record { layout = c.in_ok-text.ensures.layout; order = c.in_ok-text.ensures.order; json = c.in_ok-text.ensures.reads (subst (λ (e : Data). depth e ≤ max_depth) (sym c.in_ok-value.ensures.data) (omega arith)) } in
    lines_whole checkpoint_in c.in_ok-text.text.items d c.args.checkpoint.now (subst (IsLines c.in_ok-text.text.items) c.in_ok-value.ensures.data is) refl c.in_ok-value.ensures.reads

pub returns-clause-front : goal.returns-clause-front
returns-clause-front c n lt =
    let d = checkpoint_data c.args.checkpoint.now in
    let is : IsLines c.in_ok-text.text.items (view c.in_ok-value.value) =
    record { layout = c.in_ok-text.ensures.layout; order = c.in_ok-text.ensures.order; json = c.in_ok-text.ensures.reads (subst (λ (e : Data). depth e ≤ max_depth) (sym c.in_ok-value.ensures.data) (omega arith)) } in
    lines_front c.a_front_is_read_as_no_object.ensures checkpoint_in checkpoint_only c.in_ok-text.text.items _ n (subst (IsLines c.in_ok-text.text.items) c.in_ok-value.ensures.data is) refl lt
