use Rattle.std.proofs.Common.{◌≡◌, List, ℕ, rules, subst}
use Rattle.http_header.specs.FieldValue.{FieldValue}
use Rattle.warg_request.proofs.UploadLaws.{IsReadied, none_yet, one_more, all_done, first_bad}
use Rattle.warg_request.proofs.upload.upload_headers.Goals as goal

pub loop-name-init : goal.loop-name-init
loop-name-init c = search (rules, none_yet)

pub loop-name-preserved : goal.loop-name-preserved
loop-name-preserved c =
    let entries = c.args.headers.now.entries in
    let rest = subst (IsReadied entries c.loop-name.sent) c.in-Some.ensures.steps c.loop-name.invariant in
    let header = rw c.in-Some-2.is at c.in_ok-header.ensures.header in
    let more = one_more entries c.next.new.self c.loop-name.sent (c.in-Some.name.now, c.in-Some.value.now) rest header.1 in
    rw (c.in_ok-push-in-Some-2.ensures.added, header.0) more

pub returns-in-None-2-clause-err : goal.returns-in-None-2-clause-err
returns-in-None-2-clause-err c = λ method.
    let entries = c.args.headers.now.entries in
    let rest = subst (IsReadied entries c.loop-name.sent) c.in-Some.ensures.steps c.loop-name.invariant in
    let bad = rw c.in-None-2.is at c.in_ok-header.ensures.none in
    let first = first_bad entries c.next.new.self c.loop-name.sent c.in-Some.name.now c.in-Some.value.now rest bad in
    rw (c.in_ok-try_clone-in-None-2.ensures, c.in_ok-try_clone-in-None-2-2.ensures) first

pub returns-clause-headers : goal.returns-clause-headers
returns-clause-headers c =
    let entries = c.args.headers.now.entries in
    all_done entries c.loop-name.sent (subst (IsReadied entries c.loop-name.sent) c.in-None.ensures.steps.0 c.loop-name.invariant)
