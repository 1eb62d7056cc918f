-- Laws of what is read at an index.
use Rattle.std.specs.Prelude.{◌≡◌, ℕ, List, Result, Ok, IsErrAnd}
use Rattle.std.proofs.Common.{subst}
use Rattle.warg_values.specs.Reading.{◌>>=◌}
use Rattle.comp_entity.specs.Bounds.{ShapeFault}
use Rattle.comp_entity.specs.Entity.{EntityTree}
use Rattle.comp_scope.specs.Spaces as scope
use Rattle.comp_scope.specs.Spaces.{at_index}
use Rattle.comp_space.specs.declared.error.ScopeError.{ScopeError}
use Rattle.comp_space.specs.declared.standing.Standing.{Standing}
use Rattle.comp_space.specs.Faults.{Fails, Finds}
use Rattle.comp_space.specs.Standings.{AllShow, Shows}
use Rattle.comp_space.specs.StandingLaws.{at_fails, at_found, fails_bind, fails_same, found_bind, passed_on}
use Rattle.comp_table.specs.Plain.{plain_entity}
use Rattle.comp_table.specs.Trees.{PlainTree, Stands}

module _ {X Y : Type 0} (R : X → Y → Type 0) (ts : List PlainTree) (xs : List Standing) (es : List scope.Standing) (i : ℕ) (next : scope.Standing → Result Y ShapeFault) (answer : Result X ScopeError) (show : AllShow ts xs es) where
  pub index_fails : (error : ScopeError) → IsErrAnd answer (λ e. e ≡ error) → Fails error (at_index xs i) → Finds R answer (at_index es i >>= next)
  index_fails error is h =
      passed_on R answer error (at_index es i >>= next) is
      (fails_bind (at_index es i) next error (fails_same (at_index xs i) (at_index es i) error (λ fault. at_fails ts xs es i fault show) h))

  pub index_found : (x : Standing) → at_index xs i ≡ Ok x → ((e : EntityTree) → Stands ts x.number (plain_entity e) → Finds R answer (next (e, x.named))) → Finds R answer (at_index es i >>= next)
  index_found x is h =
      let f = at_found ts xs es i x show is in
      found_bind (Shows plain_entity ts) R x (at_index es i) next answer f
      (subst (λ b. Finds R answer (next (f.value.0, b))) f.shown.named_is (h f.value.0 f.shown.stands))
