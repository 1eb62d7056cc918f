-- What a component mentions in its imports and then in its exports.
use Rattle.std.specs.Prelude.{ℕ, suc, Bool, ◌&&◌, List, ◌++◌}
use Rattle.comp_entity.specs.Names.{Mention, in_entries}
use Rattle.comp_entity.specs.Views.{Sides}
use Rattle.compose_needs.specs.Tied.{are_sides_tied, entries_hold_tied}

abbrev pub in_sides : ℕ → Sides → List (ℕ × Mention)
in_sides d s = in_entries (suc (suc d)) s.imports ++ in_entries (suc (suc d)) s.exports

abbrev pub sides_hold_tied : Sides → Bool
sides_hold_tied s = are_sides_tied s.imports s.exports && (entries_hold_tied s.imports && entries_hold_tied s.exports)
