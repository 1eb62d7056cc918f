use Rattle.std.proofs.Common.{◌+◌, drop, option_map, bytes_eq, ap, sym, ◌∙◌, arith}
use Rattle.std.specs.List.{position_from}
use Rattle.std.specs.Map.{lookup}
use Rattle.std.specs.Option.{option_or}
use Rattle.std.proofs.lemmas.Bool.{false≢true}
use Rattle.comp_entity.specs.Views.{named_entities}
use Rattle.compose_files.specs.Choice.{is_instance_named}
use Rattle.compose_files.proofs.Offers.{added_next, kept_next, made_offer}
use Rattle.compose_files.proofs.define.add_offers.Goals as goal
use Rattle.compose_files.proofs.define.add_offers.Goals.{then-is_instance+then-not-contains_key+in_ok-try_clone+in_ok-insert, else-is_instance, else-is_instance-via-then-is_instance+else-not-contains_key, else-is_instance-via-else-is_instance}

pub loop-place-preserved : goal.loop-place-preserved
loop-place-preserved c = λ name.
    elim c.if-is_instance.branch [
      | then-is_instance+then-not-contains_key+in_ok-try_clone+in_ok-insert w ↦
          added_next c.args.id.0 c.loop-place.place c.types.result.now.exports.items c.index.result.now c.loop-place.offers.entries c.if-is_instance.offers.entries w.in_ok-try_clone.field-0 name
          (omega arith) c.index.ensures (sym c.is_instance.ensures ∙ w.if-is_instance.true) (sym w.contains_key.ensures ∙ w.if-not-contains_key.true) w.in_ok-try_clone.ensures
          (ap (λ m. m.entries) w.offers-is ∙ w.in_ok-insert.ensures.entries)
          ∙ c.loop-place.invariant name
      | else-is_instance w ↦
          elim w.else-is_instance.branch [
            | else-is_instance-via-then-is_instance+else-not-contains_key u ↦
                ap (λ m. option_or (lookup (bytes_eq name) m.entries) (option_map (made_offer c.args.id.0) (position_from (is_instance_named name) (c.loop-place.place + 1) (named_entities (drop (c.loop-place.place + 1) c.types.result.now.exports.items))))) w.offers-is
                ∙ kept_next c.args.id.0 c.loop-place.place c.types.result.now.exports.items c.index.result.now c.loop-place.offers.entries name (omega arith) c.index.ensures
                (λ instance. sym u.contains_key.ensures ∙ u.if-not-contains_key.false)
                ∙ c.loop-place.invariant name
            | else-is_instance-via-else-is_instance u ↦
                ap (λ m. option_or (lookup (bytes_eq name) m.entries) (option_map (made_offer c.args.id.0) (position_from (is_instance_named name) (c.loop-place.place + 1) (named_entities (drop (c.loop-place.place + 1) c.types.result.now.exports.items))))) w.offers-is
                ∙ kept_next c.args.id.0 c.loop-place.place c.types.result.now.exports.items c.index.result.now c.loop-place.offers.entries name (omega arith) c.index.ensures
                (λ instance. absurd (false≢true (sym u.if-is_instance.false ∙ c.is_instance.ensures ∙ instance)))
                ∙ c.loop-place.invariant name
          ]
    ]
