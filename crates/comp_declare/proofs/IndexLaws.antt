-- Laws of what is read at an index.
use Rattle.std.specs.Prelude.{◌≡◌, ℕ, List, Result, Ok, Err, IsErrAnd}
use Rattle.std.proofs.Common.{subst}
use Rattle.warg_values.specs.Answers.{Gives}
use Rattle.warg_values.specs.Reading.{◌>>=◌}
use Rattle.comp_entity.specs.Bounds.{ShapeFault}
use Rattle.comp_entity.specs.Entity.{EntityTree}
use Rattle.comp_scope.specs.Spaces as scope
use Rattle.comp_scope.specs.Spaces.{KnownCoreType, at_index}
use Rattle.comp_space.specs.declared.core_types.CoreStanding.{CoreStanding}
use Rattle.comp_space.specs.CoreStandings.{AllShowCore, ShowsCore}
use Rattle.comp_space.specs.declared.error.ScopeError.{ScopeError}
use Rattle.comp_space.specs.declared.standing.Standing.{Standing}
use Rattle.comp_space.specs.Faults.{Fails, Finds, fault_of}
use Rattle.comp_space.specs.Standings.{AllShow, Shows}
use Rattle.comp_space.specs.StandingLaws.{at_fails, at_found, fails_bind, fails_same, found_bind, pairwise_at, pairwise_fails, passed_on}
use Rattle.comp_table.specs.Plain.{plain_entity}
use Rattle.comp_table.specs.Trees.{PlainTree, Stands}

module _ {X Y : Type 0} (R : X → Y → Type 0) (ts : List PlainTree) (xs : List Standing) (es : List scope.Standing) (i : ℕ) (next : scope.Standing → Result Y ShapeFault) (answer : Result X ScopeError) (show : AllShow ts xs es) where
  pub index_fails : (error : ScopeError) → IsErrAnd answer (λ e. e ≡ error) → Fails error (at_index xs i) → Finds R answer (at_index es i >>= next)
  index_fails error is h =
      passed_on R answer error (at_index es i >>= next) is
      (fails_bind (at_index es i) next error (fails_same (at_index xs i) (at_index es i) error (λ fault. at_fails ts xs es i fault show) h))

  pub index_found : (x : Standing) → at_index xs i ≡ Ok x → ((e : EntityTree) → Stands ts x.number (plain_entity e) → Finds R answer (next (e, x.named))) → Finds R answer (at_index es i >>= next)
  index_found x is h =
      let f = at_found ts xs es i x show is in
      found_bind (Shows plain_entity ts) R x (at_index es i) next answer f
      (subst (λ b. Finds R answer (next (f.value.0, b))) f.shown.named_is (h f.value.0 f.shown.stands))

-- what stands at an index itself
pub item_found : (ts : List PlainTree) (xs : List Standing) (es : List scope.Standing) (i : ℕ) (answer : Result Standing ScopeError) → AllShow ts xs es → Gives fault_of (λ x. x) answer (at_index xs i) → Finds (Shows plain_entity ts) answer (at_index es i)
item_found ts xs es i (Ok x) show is = at_found ts xs es i x show is
item_found ts xs es i (Err error) show is = fails_same (at_index xs i) (at_index es i) error (λ fault. at_fails ts xs es i fault show) is

-- the core type of an index itself
pub core_found : (ts : List PlainTree) (xs : List CoreStanding) (known : List KnownCoreType) (i : ℕ) (answer : Result CoreStanding ScopeError) → AllShowCore ts xs known → Gives fault_of (λ x. x) answer (at_index xs i) → Finds (ShowsCore ts) answer (at_index known i)
core_found ts xs known i (Ok x) show is = pairwise_at (ShowsCore ts) xs known i x show is
core_found ts xs known i (Err error) show is = fails_same (at_index xs i) (at_index known i) error (λ fault. pairwise_fails (ShowsCore ts) xs known i fault show) is
