use Rattle.std.proofs.Common.{◌≡◌, [], Ok, ◌∙◌, ap, subst}
use Rattle.std.proofs.lemmas.Result.{err_from_is_err_and}
use Rattle.serde_json.specs.View.{members_view}
use Rattle.warg_exchange.specs.Body.{each_member, digest_in_text}
use Rattle.warg_json.specs.Answers.{BodyFails}
use Rattle.warg_json.proofs.MapLaws.{seen, seen_insert, all_read, key_ends, value_ends, member_read}
use Rattle.warg_json.proofs.map.each_hashed.Goals as goal

pub returns-in_err-hash : goal.returns-in_err-hash
returns-in_err-hash g c =
    let f = g.T.FromBody.meaning in
    let plain = g.T.FromBody.plain in
    let found = seen plain c.loop-name.found.entries in
    let whole = each_member digest_in_text f [] (members_view c.args.members.now.entries) in
    let p = err_from_is_err_and c.from_residual.result c.from_residual.ensures.1 in
    let fails = subst (λ t. BodyFails c.in_err-hash.field-0.0 (digest_in_text t)) c.as_str.ensures.value c.in_err-hash.ensures in
    rw (p.1, p.2) (key_ends digest_in_text f found whole c.loop-name.name-iterator c.next.new.self c.next.result c.next.ensures.steps c.loop-name.invariant (c.in-Some.name, c.in-Some.value) c.in-Some.is c.in_err-hash.field-0.0 fails)

pub returns-in_err-item : goal.returns-in_err-item
returns-in_err-item g c =
    let f = g.T.FromBody.meaning in
    let plain = g.T.FromBody.plain in
    let found = seen plain c.loop-name.found.entries in
    let whole = each_member digest_in_text f [] (members_view c.args.members.now.entries) in
    let named = subst (λ t. digest_in_text t ≡ Ok c.in_ok-hash.hash) c.as_str.ensures.value c.in_ok-hash.ensures in
    let p = err_from_is_err_and c.from_residual-in_err-item.result c.from_residual-in_err-item.ensures.1 in
    rw (p.1, p.2) (value_ends digest_in_text f found whole c.loop-name.name-iterator c.next.new.self c.next.result c.next.ensures.steps c.loop-name.invariant (c.in-Some.name, c.in-Some.value) c.in-Some.is c.in_ok-hash.hash named c.in_err-item.field-0.0 c.in_err-item.ensures)

pub loop-name-preserved-in_ok-insert : goal.loop-name-preserved-in_ok-insert
loop-name-preserved-in_ok-insert g c =
    let f = g.T.FromBody.meaning in
    let plain = g.T.FromBody.plain in
    let found = seen plain c.loop-name.found.entries in
    let whole = each_member digest_in_text f [] (members_view c.args.members.now.entries) in
    let named = subst (λ t. digest_in_text t ≡ Ok c.in_ok-hash.hash) c.as_str.ensures.value c.in_ok-hash.ensures in
    let entries = ap (seen plain) c.in_ok-insert.ensures.entries ∙ seen_insert plain c.loop-name.found.entries c.in_ok-hash.hash c.in_ok-item.item in
    rw entries (member_read digest_in_text f found whole c.loop-name.name-iterator c.next.new.self c.next.result c.next.ensures.steps c.loop-name.invariant (c.in-Some.name, c.in-Some.value) c.in-Some.is c.in_ok-hash.hash named (plain c.in_ok-item.item) c.in_ok-item.ensures)

pub loop-name-preserved : goal.loop-name-preserved
loop-name-preserved g c =
    let f = g.T.FromBody.meaning in
    let plain = g.T.FromBody.plain in
    let found = seen plain c.loop-name.found.entries in
    let whole = each_member digest_in_text f [] (members_view c.args.members.now.entries) in
    let named = subst (λ t. digest_in_text t ≡ Ok c.in_ok-hash.hash) c.as_str.ensures.value c.in_ok-hash.ensures in
    let entries = ap (seen plain) c.in_ok-insert.ensures.entries ∙ seen_insert plain c.loop-name.found.entries c.in_ok-hash.hash c.in_ok-item.item in
    rw entries (member_read digest_in_text f found whole c.loop-name.name-iterator c.next.new.self c.next.result c.next.ensures.steps c.loop-name.invariant (c.in-Some.name, c.in-Some.value) c.in-Some.is c.in_ok-hash.hash named (plain c.in_ok-item.item) c.in_ok-item.ensures)

pub returns : goal.returns
returns g c =
    let f = g.T.FromBody.meaning in
    let plain = g.T.FromBody.plain in
    let found = seen plain c.loop-name.found.entries in
    let whole = each_member digest_in_text f [] (members_view c.args.members.now.entries) in
    all_read digest_in_text f found whole c.loop-name.name-iterator c.next.new.self c.next.result c.next.ensures.steps c.loop-name.invariant c.in-None.is
