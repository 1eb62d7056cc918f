use Rattle.std.proofs.Common.{map, sym, ap, ◌∙◌, ◌++◌, ◌∷◌, []}
use Rattle.warg_learn.proofs.GroupLaws.{begins, group_at, joins}
use Rattle.warg_learn.proofs.group.join_group.Goals as goal

pub returns-in-Some : goal.returns-in-Some
returns-in-Some c =
    let made = c.push.new.self in
    record {
      joined = ap (map group_at) (c.get_mut.follows.holds made).0
          ∙ joins c.args.registry c.args.name made c.args.groups.now.entries c.in-Some.names.now (sym c.in-Some.ensures.value) c.in_ok-push.ensures.items;
    }

pub returns : goal.returns
returns c =
    let made = c.push-2.new.self in
    record {
      joined = ap (map group_at) (rw c.get_mut.follows.holds-at-none at c.in_ok-insert.ensures.entries)
          ∙ begins c.args.registry c.args.name made c.args.groups.now.entries (sym c.in_default.ensures.value) (c.in_ok-push-2.ensures.items ∙ ap (λ ns. ns ++ c.args.name ∷ []) c.new-names.ensures.items);
    }
