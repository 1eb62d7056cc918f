-- Laws of imports and declared exports.
use Rattle.std.specs.Prelude.{◌≡◌, ℕ, Bool, true, false, cond, List, map, Result, Ok, Err, refl}
use Rattle.std.proofs.Common.{ap}
use Rattle.warg_values.specs.Reading.{◌>>=◌}
use Rattle.comp_entity.specs.Bounds.{ShapeFault, Index, bounded}
use Rattle.comp_entity.specs.Names as names
use Rattle.comp_format.specs.declared.types.TypeRef.{TypeRef}
use Rattle.comp_scope.specs.Descriptions.{described, new_brought, new_made, imported, declared_export, with_brought, with_made, with_import, with_export}
use Rattle.comp_scope.specs.Spaces as scope
use Rattle.comp_scope.specs.Spaces.{Spaces, Known, is_taken, if_new}
use Rattle.comp_space.specs.declared.space.Counts.{Counts}
use Rattle.comp_space.specs.declared.space.Space.{Space}
use Rattle.comp_space.specs.SpaceViews.{ShowsSpaces, counts}
use Rattle.comp_space.specs.SpaceLaws.{space_kept}
use Rattle.comp_declare.specs.declared.entries.Entries.{Entries}
use Rattle.comp_declare.specs.declared.scope.Scope.{Scope}
use Rattle.comp_declare.specs.Scopes.{ShowsEntries, ShowsScope, plain_entry}
use Rattle.comp_table.specs.StandLaws.{all_kept}
use Rattle.comp_table.specs.Trees.{Extends, PlainTree}

pub if_free : {X Y : Type 0} (name : List ℕ) (entries : List (List ℕ × X)) (r : Result Y ShapeFault) → is_taken name entries ≡ false → if_new name entries r ≡ r
if_free name entries r free = ap (λ b. cond b (Err Index) r) free

pub if_taken : {X Y : Type 0} (name : List ℕ) (entries : List (List ℕ × X)) (r : Result Y ShapeFault) → is_taken name entries ≡ true → if_new name entries r ≡ Err Index
if_taken name entries r taken = ap (λ b. cond b (Err Index) r) taken

-- the name is looked at first
first : {X Y : Type 0} (b : Bool) (r : Result X ShapeFault) (next : X → Result Y ShapeFault) → cond b (Err Index) (r >>= next) ≡ (cond b (Err Index) r >>= next)
first true r next = refl
first false r next = refl

pub import_is : (k : Known) (name : List ℕ) (ref : TypeRef) → imported bounded k name ref ≡ (if_new name k.imports (described k.spaces (new_brought k.spaces) ref) >>= λ d. with_brought bounded k.spaces d >>= λ spaces. Ok (with_import k name d.standing spaces))
unfolding imported
import_is k name ref = first (is_taken name k.imports) (described k.spaces (new_brought k.spaces) ref) (λ d. with_brought bounded k.spaces d >>= λ spaces. Ok (with_import k name d.standing spaces))

pub export_is : (k : Known) (name : List ℕ) (ref : TypeRef) → declared_export bounded k name ref ≡ (if_new name k.exports (described k.spaces (new_made k.spaces) ref) >>= λ d. with_made bounded k.spaces d >>= λ spaces. Ok (with_export k name d.standing spaces))
unfolding declared_export
export_is k name ref = first (is_taken name k.exports) (described k.spaces (new_made k.spaces) ref) (λ d. with_made bounded k.spaces d >>= λ spaces. Ok (with_export k name d.standing spaces))

-- other counts
module _ (ts : List PlainTree) (space : Space) (s : Spaces) (c : Counts) (n : names.Counts) (is : counts c ≡ n) where
  pub shows_brought : ShowsSpaces ts space s → ShowsSpaces ts (record space { brought = c }) (record s { brought = n })
  shows_brought shows = record {
    is_closed = shows.is_closed;
    core = shows.core;
    core_types = shows.core_types;
    modules = shows.modules;
    funcs = shows.funcs;
    types = shows.types;
    components = shows.components;
    instances = shows.instances;
    brought = is;
    made = shows.made;
  }

  pub shows_made : ShowsSpaces ts space s → ShowsSpaces ts (record space { made = c }) (record s { made = n })
  shows_made shows = record {
    is_closed = shows.is_closed;
    core = shows.core;
    core_types = shows.core_types;
    modules = shows.modules;
    funcs = shows.funcs;
    types = shows.types;
    components = shows.components;
    instances = shows.instances;
    brought = shows.brought;
    made = is;
  }

-- a table that grows shows the same
entries_kept : (ts us : List PlainTree) → Extends ts us → (part : Entries) (entries : List (List ℕ × scope.Standing)) → ShowsEntries ts part entries → ShowsEntries us part entries
entries_kept ts us grown part entries shows = record { stand = all_kept ts us grown part.numbers.items (map plain_entry entries) shows.stand; names_are = shows.names_are }

pub scope_kept : (ts us : List PlainTree) → Extends ts us → (part : Scope) (k : Known) → ShowsScope ts part k → ShowsScope us part k
scope_kept ts us grown part k shows = record {
  spaces = space_kept ts us grown part.space k.spaces shows.spaces;
  imports = entries_kept ts us grown part.imports k.imports shows.imports;
  exports = entries_kept ts us grown part.exports k.exports shows.exports;
}
