-- Laws of scopes, also in a table that has grown.
use Rattle.std.specs.Prelude.{◌≡◌, ℕ, suc, List, [], ◌∷◌, ◌++◌, map, length, refl, Vec}
use Rattle.std.specs.Global.{Global}
use Rattle.std.proofs.Common.{ap}
use Rattle.comp_declare.specs.declared.entries.Entries.{Entries}
use Rattle.comp_declare.specs.declared.scope.Scope.{Scope}
use Rattle.comp_declare.specs.Outer.{AllShowSpaces}
use Rattle.comp_declare.specs.Scopes.{ShowsEntries, ShowsScope, plain_entry}
use Rattle.comp_scope.specs.Aliases.{core_scopes}
use Rattle.comp_scope.specs.Spaces as scope
use Rattle.comp_scope.specs.Spaces.{Known, KnownCoreType, Spaces, with_core_type}
use Rattle.comp_scope.specs.Types.{with_spaces}
use Rattle.comp_space.specs.CoreLaws.{cores_are_there}
use Rattle.comp_space.specs.CoreStandings.{ScopesAreThere, ScopesShow, ShowsCore}
use Rattle.comp_space.specs.declared.core_types.CoreStanding.{CoreStanding}
use Rattle.comp_space.specs.declared.space.Space.{Space}
use Rattle.comp_space.specs.SpaceLaws.{space_kept}
use Rattle.comp_space.specs.SpaceViews.{ShowsSpaces}
use Rattle.comp_space.specs.StandingLaws.{pairwise_kept, pairwise_push}
use Rattle.comp_table.specs.StandLaws.{all_kept}
use Rattle.comp_table.specs.Trees.{Extends, PlainTree}

-- a table that grows shows the same
pub entries_kept : (ts us : List PlainTree) → Extends ts us → (part : Entries) (entries : List (List ℕ × scope.Standing)) → ShowsEntries ts part entries → ShowsEntries us part entries
entries_kept ts us grown part entries shows = record { stand = all_kept ts us grown part.numbers.items (map plain_entry entries) shows.stand; names_are = shows.names_are }

pub spaces_kept : (ts us : List PlainTree) → Extends ts us → (xs : List Space) (ss : List Spaces) → AllShowSpaces ts xs ss → AllShowSpaces us xs ss
spaces_kept ts us grown xs ss shows = pairwise_kept (ShowsSpaces ts) (ShowsSpaces us) (space_kept ts us grown) xs ss shows

-- the same scope with other index spaces
pub shows_with_spaces : (ts us : List PlainTree) → Extends ts us → (part : Scope) (k : Known) (space : Space) (s : Spaces) → ShowsScope ts part k → ShowsSpaces us space s → ShowsScope us (record part { space = space }) (with_spaces k s)
shows_with_spaces ts us grown part k space s shows spaces = record {
  spaces = spaces;
  imports = entries_kept ts us grown part.imports k.imports shows.imports;
  exports = entries_kept ts us grown part.exports k.exports shows.exports;
}

-- as many scopes are open as show some
pub as_many : {B : Type 0} (now : B → Space) (ts : List PlainTree) (xs : List B) (ss : List Spaces) → AllShowSpaces ts (map now xs) ss → length xs ≡ length ss
as_many now ts [] [] shows = refl
as_many now ts [] (s ∷ ss) shows = absurd shows
as_many now ts (x ∷ xs) [] shows = absurd shows
as_many now ts (x ∷ xs) (s ∷ ss) shows = ap suc (as_many now ts xs ss shows.1)

-- the core types of scopes
core_scopes_show : {B : Type 0} (now : B → Space) (ts : List PlainTree) (xs : List B) (ss : List Spaces) → AllShowSpaces ts (map now xs) ss → ScopesShow ts (map (λ x. (now x).core_types.items) xs) (core_scopes ss)
core_scopes_show now ts [] [] shows = tt
core_scopes_show now ts [] (s ∷ ss) shows = absurd shows
core_scopes_show now ts (x ∷ xs) [] shows = absurd shows
core_scopes_show now ts (x ∷ xs) (s ∷ ss) shows = (shows.0.core_types, core_scopes_show now ts xs ss shows.1)

pub own_core_scopes_show : {B : Type 0} (now : B → Space) (ts : List PlainTree) (own : Space) (s : Spaces) (xs : List B) (ss : List Spaces) → ShowsSpaces ts own s → AllShowSpaces ts (map now xs) ss → ScopesShow ts (own.core_types.items ∷ map (λ x. (now x).core_types.items) xs) (core_scopes (s ∷ ss))
own_core_scopes_show now ts own s xs ss shows around = (shows.core_types, core_scopes_show now ts xs ss around)

pub scopes_are_there : (ts : List PlainTree) (xss : List (List CoreStanding)) (scopes : List (List KnownCoreType)) → ScopesShow ts xss scopes → ScopesAreThere ts xss
scopes_are_there ts [] [] shows = tt
scopes_are_there ts [] (known ∷ scopes) shows = absurd shows
scopes_are_there ts (xs ∷ xss) [] shows = absurd shows
scopes_are_there ts (xs ∷ xss) (known ∷ scopes) shows = (cores_are_there ts xs known shows.0, scopes_are_there ts xss scopes shows.1)

-- one core type more
pub shows_one_core_type : (ts : List PlainTree) (space : Space) (s : Spaces) (v : Vec CoreStanding Global) (x : CoreStanding) (t : KnownCoreType) → ShowsSpaces ts space s → ShowsCore ts x t → v.items ≡ space.core_types.items ++ x ∷ [] → ShowsSpaces ts (record space { core_types = v }) (with_core_type s t)
shows_one_core_type ts space s v x t shows stands is = record {
  is_closed = shows.is_closed;
  core = shows.core;
  core_types = rw is (pairwise_push (ShowsCore ts) space.core_types.items s.core_types x t shows.core_types stands);
  modules = shows.modules;
  funcs = shows.funcs;
  types = shows.types;
  components = shows.components;
  instances = shows.instances;
  brought = shows.brought;
  made = shows.made;
}
