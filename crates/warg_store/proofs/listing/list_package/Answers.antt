-- The list of the registry has one log more, and each other one is as it was.
use Rattle.std.proofs.Common.{is_some, IsSome, sym, ap, ◌∙◌}
use Rattle.indexmap.specs.IndexMap.{get}
use Rattle.warg_store.specs.Held.{is_registry}
use Rattle.warg_store.proofs.ListingLaws.{infos_at, infos_more, pushed_on, some_more}
use Rattle.warg_store.proofs.listing.list_package.Goals as goal

pub returns-in-Some-clause-listed : goal.returns-in-Some-clause-listed
returns-in-Some-clause-listed c =
    let made = c.push.new.self in
    let old = get is_registry c.args.all.now in
    let there : IsSome (old c.args.registry) = ap is_some (sym c.in-Some.ensures.value) in
    infos_more old (get is_registry (c.get_mut.follows.lender made)) c.args.registry made c.args.info ((c.get_mut.follows.holds made).3 there).0
    (pushed_on made.items c.in-Some.list.now.items (old c.args.registry) c.args.info c.in_ok-push.ensures.items (ap infos_at c.in-Some.ensures.value))

pub returns-in-Some-clause-have_some : goal.returns-in-Some-clause-have_some
returns-in-Some-clause-have_some c =
    let made = c.push.new.self in
    let old = get is_registry c.args.all.now in
    let there : IsSome (old c.args.registry) = ap is_some (sym c.in-Some.ensures.value) in
    some_more old (get is_registry (c.get_mut.follows.lender made)) c.args.registry made c.args.info ((c.get_mut.follows.holds made).3 there).0
    (pushed_on made.items c.in-Some.list.now.items (old c.args.registry) c.args.info c.in_ok-push.ensures.items (ap infos_at c.in-Some.ensures.value))

pub returns-clause-listed : goal.returns-clause-listed
returns-clause-listed c =
    let old = get is_registry c.args.all.now in
    infos_more old (get is_registry c.insert.new.self) c.args.registry c.push-2.new.self c.args.info (rw c.get_mut.follows.holds-at-none at c.in_ok-insert.ensures.updates).0
    (pushed_on c.push-2.new.self.items c.new-list.result.items (old c.args.registry) c.args.info c.in_ok-push-2.ensures.items (c.new-list.ensures.items ∙ ap infos_at c.in_default.ensures.value))

pub returns-clause-have_some : goal.returns-clause-have_some
returns-clause-have_some c =
    let old = get is_registry c.args.all.now in
    some_more old (get is_registry c.insert.new.self) c.args.registry c.push-2.new.self c.args.info (rw c.get_mut.follows.holds-at-none at c.in_ok-insert.ensures.updates).0
    (pushed_on c.push-2.new.self.items c.new-list.result.items (old c.args.registry) c.args.info c.in_ok-push-2.ensures.items (c.new-list.ensures.items ∙ ap infos_at c.in_default.ensures.value))
