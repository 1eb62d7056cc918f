use Rattle.std.proofs.Common.{◌≡◌, ◌≤◌, ◌∙◌, arith, string_bytes, subst}
use Rattle.std.proofs.lemmas.Result.{err_from_is_err_and}
use Rattle.warg_replay.specs.ClientError.TheVariants as error
use Rattle.warg_replay.specs.Replay.{IsReplayFault, IsReplayable, accepts_listed}
use Rattle.warg_program.specs.World.{seen_files}
use Rattle.warg_program.specs.Assembly.{AtReplies, AtChecked, AtReplay}
use Rattle.warg_program.specs.declared.stop.Form.TheVariants as form
use Rattle.warg_program.proofs.SourceLaws.{checked_since, replay_cause, replies_since, source_since}
use Rattle.warg_program.proofs.assemble.assembled.Goals as goal

-- the replies are not read
pub returns-in_err-replies-clause-stopped : goal.returns-in_err-replies-clause-stopped
returns-in_err-replies-clause-stopped g c =
    let old = seen_files (g.F.Files.told c.args.files.now) (g.F.Files.faults c.args.files.now) in
    let mid = seen_files (g.F.Files.told c.read_plan.new.files) (g.F.Files.faults c.read_plan.new.files) in
    let q = err_from_is_err_and c.from_residual-in_err-replies.result c.from_residual-in_err-replies.ensures.1 in
    rw (q.1, q.2) (AtReplies (string_bytes c.in_ok-text.text) c.in_ok-text.ensures.found
    (source_since old mid (seen_files (g.F.Files.told c.recorded.new.files) (g.F.Files.faults c.recorded.new.files)) c.in_ok-text.ensures.kept c.in_ok-text.ensures.never_falls c.in_err-replies.field-0.0 c.args.sources.replies.now form.Replies c.in_err-replies.ensures.cause))

-- the signatures are not read
pub returns-in_err-checked-clause-stopped : goal.returns-in_err-checked-clause-stopped
returns-in_err-checked-clause-stopped g c =
    let old = seen_files (g.F.Files.told c.args.files.now) (g.F.Files.faults c.args.files.now) in
    let mid = seen_files (g.F.Files.told c.read_plan.new.files) (g.F.Files.faults c.read_plan.new.files) in
    let late = seen_files (g.F.Files.told c.recorded.new.files) (g.F.Files.faults c.recorded.new.files) in
    let kept = c.in_ok-replies.ensures.kept ∙ c.in_ok-text.ensures.kept in
    let rises : old.faults ≤ late.faults = omega (arith, c.in_ok-text.ensures.never_falls, c.in_ok-replies.ensures.never_falls) in
    let q = err_from_is_err_and c.from_residual-in_err-checked.result c.from_residual-in_err-checked.ensures.1 in
    rw (q.1, q.2) (AtChecked (string_bytes c.in_ok-text.text) c.in_ok-text.ensures.found c.in_ok-replies.replies.items
    (replies_since old mid late c.in_ok-text.ensures.kept c.in_ok-text.ensures.never_falls c.args.sources.replies.now c.in_ok-replies.replies.items c.in_ok-replies.ensures.found)
    (source_since old late (seen_files (g.F.Files.told c.checked.new.files) (g.F.Files.faults c.checked.new.files)) kept rises c.in_err-checked.field-0.0 c.args.sources.checked.now form.Signatures c.in_err-checked.ensures.cause))

-- nothing is assembled
pub returns-in-Err-clause-stopped : goal.returns-in-Err-clause-stopped
returns-in-Err-clause-stopped g c =
    let old = seen_files (g.F.Files.told c.args.files.now) (g.F.Files.faults c.args.files.now) in
    let mid = seen_files (g.F.Files.told c.read_plan.new.files) (g.F.Files.faults c.read_plan.new.files) in
    let late = seen_files (g.F.Files.told c.recorded.new.files) (g.F.Files.faults c.recorded.new.files) in
    let kept = c.in_ok-replies.ensures.kept ∙ c.in_ok-text.ensures.kept in
    let rises : old.faults ≤ late.faults = omega (arith, c.in_ok-text.ensures.never_falls, c.in_ok-replies.ensures.never_falls) in
    let text = string_bytes c.in_ok-text.text in
    let replies = c.in_ok-replies.replies.items in
    let listed = c.in_ok-checked.checked in
    let same : c.deref.result.now ≡ string_bytes c.in_ok-text.text = search in
    rw (c.refusal.ensures) (AtReplay text replies listed
    (record {
      plan = c.in_ok-text.ensures.found;
      replied = replies_since old mid late c.in_ok-text.ensures.kept c.in_ok-text.ensures.never_falls c.args.sources.replies.now replies c.in_ok-replies.ensures.found;
      checked = checked_since old late (seen_files (g.F.Files.told c.checked.new.files) (g.F.Files.faults c.checked.new.files)) kept rises c.args.sources.checked.now listed c.in_ok-checked.ensures.found;
    })
    (replay_cause c.in-Err.error text replies listed (subst (λ t. IsReplayFault (accepts_listed listed) replies c.in-Err.error t) same c.in-Err.ensures.cause)
    (subst (λ t. IsReplayable (accepts_listed listed) replies t → c.in-Err.error ≡ error.Memory) same c.in-Err.ensures.complete)))
