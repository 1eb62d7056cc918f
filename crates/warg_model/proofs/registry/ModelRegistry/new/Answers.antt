use Rattle.std.proofs.Common.{◌≡◌, [], ap, map}
use Rattle.warg_record.specs.Record.{Package}
use Rattle.warg_record.specs.View.{envelope_view, operator_entry_view}
use Rattle.warg_model.specs.declared.key.SigningKey.{SigningKey}
use Rattle.warg_model.specs.Records.{accepted_by, record_at, signed_by}
use Rattle.warg_model.specs.Held.{init_of}
use Rattle.warg_model.specs.State.{logged_view}
use Rattle.warg_model.proofs.ModelLaws.{held-opened, new-model, init-made}
use Rattle.warg_model.proofs.registry.ModelRegistry.new.Goals as goal

pub returns-clause-held : goal.returns-clause-held
returns-clause-held c =
    let k : SigningKey = record { key = c.args.key; signature = c.args.signature } in
    let s = envelope_view operator_entry_view c.in_ok-opening.opening in
    let made : s ≡ signed_by k (record_at 0 [] (init_of k)) = init-made k c.in_ok-try_clone.field-0 c.in_ok-algorithm.field-0 s c.in_ok-try_clone.ensures c.in_ok-algorithm.ensures (c.in_ok-opening.ensures.made [] c.new-log.ensures) in
    held-opened k s (map logged_view c.new.result.items) c.new-2.result.items made (ap (map logged_view) c.new.ensures.items) c.new-2.ensures.items

pub returns-clause-sound : goal.returns-clause-sound
returns-clause-sound c =
    let k : SigningKey = record { key = c.args.key; signature = c.args.signature } in
    let s = envelope_view operator_entry_view c.in_ok-opening.opening in
    let made : s ≡ signed_by k (record_at 0 [] (init_of k)) = init-made k c.in_ok-try_clone.field-0 c.in_ok-algorithm.field-0 s c.in_ok-try_clone.ensures c.in_ok-algorithm.ensures (c.in_ok-opening.ensures.made [] c.new-log.ensures) in
    let is = held-opened k s (map logged_view c.new.result.items) c.new-2.result.items made (ap (map logged_view) c.new.ensures.items) c.new-2.ensures.items in
    new-model _ k s is made (c.in_ok-opening.ensures.obeys [] c.new-log.ensures) c.in_ok-opening.ensures.read c.have_form.ensures.key c.have_form.ensures.signature (c.lawful_record_by_record.ensures.none Package (accepted_by k))
