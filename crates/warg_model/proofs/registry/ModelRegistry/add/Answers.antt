use Rattle.std.proofs.Common.{rules, ◌≡◌, ◌+◌, ◌<◌, ◌^◌, ◌∷◌, ◌++◌, [], sym, subst, map, length}
use Rattle.std.proofs.lemmas.List.{map_push, length-map}
use Rattle.warg_record.specs.Record.{Package}
use Rattle.warg_record.specs.View.{envelope_view, package_entry_view}
use Rattle.warg_log.specs.Follows.{Follows}
use Rattle.warg_model.specs.Records.{accepted_by}
use Rattle.warg_model.specs.Held.{package_records}
use Rattle.warg_model.specs.State.{held, logged_view}
use Rattle.warg_model.proofs.ModelLaws.{next_of, held-more, log-more, model-added}
use Rattle.warg_model.proofs.registry.ModelRegistry.add.Goals as goal

pub returns-clause-follows : goal.returns-clause-follows
returns-clause-follows c follows =
    let h = held c.args.self.now in
    let name = c.args.name.now in
    let entry = package_entry_view c.args.entry in
    let s = envelope_view package_entry_view c.in_ok-envelope.envelope in
    let log = package_records h name in
    let made : s ≡ next_of h name entry = search (rules, c.in_ok-envelope.ensures.made log follows, length-map) in
    let more : map logged_view c.push.new.self.items ≡ h.published ++ (c.package_log-log_id.result, s) ∷ [] =
    rw c.in_ok-push.ensures.items (map_push logged_view c.args.self.now.records.items (record { log_id = c.package_log-log_id.result; envelope = c.in_ok-envelope.envelope })) in
    let is = held-more h name entry (map logged_view c.push.new.self.items) c.package_log-log_id.result s more c.package_log-log_id.ensures made in
    subst (Follows Package c.next_record.new.state) (sym (log-more h (record h { published = map logged_view c.push.new.self.items }) name entry s made is)) (c.in_ok-envelope.ensures.follows log follows)

pub returns-clause-sound : goal.returns-clause-sound
returns-clause-sound c follows form sound =
    let h = held c.args.self.now in
    let name = c.args.name.now in
    let entry = package_entry_view c.args.entry in
    let s = envelope_view package_entry_view c.in_ok-envelope.envelope in
    let log = package_records h name in
    let made : s ≡ next_of h name entry = search (rules, c.in_ok-envelope.ensures.made log follows, length-map) in
    let more : map logged_view c.push.new.self.items ≡ h.published ++ (c.package_log-log_id.result, s) ∷ [] =
    rw c.in_ok-push.ensures.items (map_push logged_view c.args.self.now.records.items (record { log_id = c.package_log-log_id.result; envelope = c.in_ok-envelope.envelope })) in
    let is = held-more h name entry (map logged_view c.push.new.self.items) c.package_log-log_id.result s more c.package_log-log_id.ensures made in
    let small : length h.published + 1 < 2 ^ 64 = search (rules, length-map, c.args.self.now.records.small) in
    model-added h (record h { published = map logged_view c.push.new.self.items }) name entry s
    (λ l t lawful obeys. (c.lawful_record_by_record.ensures.more Package (accepted_by h.key) l t).1 (lawful, obeys)) made (c.in_ok-envelope.ensures.obeys log follows) c.in_ok-envelope.ensures.read small form is sound
