use Rattle.std.proofs.Common.{◌≡◌, [], drop}
use Rattle.comp_entity.specs.Views.{named_entities}
use Rattle.compose_left.specs.Numbers.{AreOrigins}
use Rattle.compose_left.specs.Wiring.{Wiring}
use Rattle.compose_needs.specs.Exports.{export_hides}
use Rattle.compose_needs.specs.Seen.{Holds, Things}
use Rattle.compose_needs.specs.Lefts.{lefts_of}
use Rattle.compose_needs.proofs.exports.export_needs.Given as goal

abbrev pub invariant-loop-export : goal.invariant-loop-export
invariant-loop-export l = (w : Wiring) → AreOrigins l.origins w
    → (s : Things) × Holds l.seen s × (export_hides (lefts_of w) s (named_entities (drop l.export-index l.exports)) ≡ export_hides (lefts_of w) [] (named_entities l.exports))
