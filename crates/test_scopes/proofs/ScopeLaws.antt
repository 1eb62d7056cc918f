-- Laws of scopes to which an item was added.
use Rattle.std.specs.Prelude.{List, map, OnOk, Result, Ok, Err}
use Rattle.comp_declare.specs.declared.scope.Scope.{Scope}
use Rattle.comp_declare.specs.Scopes.{IsScope, ShowsScope, plain_entry}
use Rattle.comp_entity.specs.Bounds.{ShapeFault}
use Rattle.comp_scope.specs.Spaces.{Known, Spaces}
use Rattle.comp_scope.specs.Types.{with_spaces}
use Rattle.comp_space.specs.declared.error.ScopeError.{ScopeError}
use Rattle.comp_space.specs.declared.space.Space.{Space}
use Rattle.comp_space.specs.Faults.{Finds}
use Rattle.comp_space.specs.SpaceViews.{ShowsSpaces}
use Rattle.comp_table.specs.StandLaws.{all_kept}
use Rattle.comp_table.specs.Trees.{Extends, PlainTree}

-- one whose index spaces were changed shows something still
pub spaces_after : (ts us : List PlainTree) → Extends ts us → (part : Scope) (k : Known) (space : Space) (answer : Result (Unit {0}) ScopeError) (given : Result Spaces ShapeFault) → ShowsScope ts part k → Finds (λ u. ShowsSpaces us space) answer given → OnOk answer (IsScope us (record part { space = space }))
spaces_after ts us grown part k space (Ok u) given shows found = (
  with_spaces k found.value,
  record {
    spaces = found.shown;
    imports = record { stand = all_kept ts us grown part.imports.numbers.items (map plain_entry k.imports) shows.imports.stand; names_are = shows.imports.names_are };
    exports = record { stand = all_kept ts us grown part.exports.numbers.items (map plain_entry k.exports) shows.exports.stand; names_are = shows.exports.names_are };
  },
)
spaces_after ts us grown part k space (Err e) given shows found = tt

pub scope_after : (us : List PlainTree) (part : Scope) (answer : Result (Unit {0}) ScopeError) (given : Result Known ShapeFault) → Finds (λ u. ShowsScope us part) answer given → OnOk answer (IsScope us part)
scope_after us part (Ok u) given found = (found.value, found.shown)
scope_after us part (Err e) given found = tt
