use Rattle.std.proofs.Common.{◌≡◌, ℕ, List, drop, option_map, bytes_eq}
use Rattle.std.specs.List.{position_from}
use Rattle.std.specs.Map.{lookup}
use Rattle.std.specs.Option.{option_or}
use Rattle.comp_entity.specs.Views.{named_entities}
use Rattle.compose_files.specs.Choice.{is_instance_named}
use Rattle.compose_files.proofs.define.add_offers.Given as goal

abbrev pub invariant-loop-place : goal.invariant-loop-place
invariant-loop-place l = (name : List ℕ) →
    option_or (lookup (bytes_eq name) l.offers.entries) (option_map (λ (export : ℕ). record { component = l.id.0; export = export }) (position_from (is_instance_named name) l.place (named_entities (drop l.place l.exports.items))))
    ≡ option_or (lookup (bytes_eq name) l.initial.offers.entries) (option_map (λ (export : ℕ). record { component = l.id.0; export = export }) (position_from (is_instance_named name) 0 (named_entities l.exports.items)))
