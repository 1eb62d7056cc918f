use Rattle.std.proofs.Common.{rules, ◌≡◌, [], sym, ap, subst, ◌∙◌}
use Rattle.comp_entity.specs.Entity.{IsComponent}
use Rattle.compose_meaning.specs.Keeps.{IsImported}
use Rattle.compose_writing.specs.WriteEntities.{write_import}
use Rattle.compose_types.specs.Scopes.{scope_of, scopes, scopes_in}
use Rattle.compose_types.proofs.EntityLaws.{component_imported}
use Rattle.compose_types.proofs.GrowLaws.{import_in_scopes}
use Rattle.compose_types.proofs.RefusalLaws.{told, not_refused}
use Rattle.compose_types.proofs.state.TypeState.import_component.Goals.{in-Some, in-None+in_ok-index-in-None}
use Rattle.compose_types.proofs.state.TypeState.import_component.Goals as goal

pub returns-clause-written : goal.returns-clause-written
returns-clause-written c = λ is es.
    elim c.match-pop.branch [
      | in-Some w ↦ rw w.result-is tt
      | in-None+in_ok-index-in-None w ↦
          let none : c.self.inside.inner.items ≡ [] = search rules in
          let rest : c.pop.new.self.items ≡ [] = search rules in
          let o = c.self.inside.outermost in
          let later = record o { declared = w.import.new.self } in
          rw (w.result-is, w.self-is)
          (component_imported is es c.args.name.now c.args.ty.now (scope_of o) (scope_of later) (scopes c.args.self.now)
          (scopes_in c.pop.new.self.items later) (ap scopes (sym c.self.view_is) ∙ ap (λ xs. scopes_in xs o) none)
          (ap (λ xs. scopes_in xs later) rest) (w.in_ok-index-in-None.ensures.named o.width o.known))
    ]

pub returns-in_err-index-in-None-clause-too_large :
    goal.returns-in_err-index-in-None-clause-too_large
returns-in_err-index-in-None-clause-too_large c = λ is es n e.
    let none : c.self.inside.inner.items ≡ [] = search rules in
    let o = c.self.inside.outermost in
    import_in_scopes n c.args.name.now (IsComponent is es) c.args.ty.now (scope_of o) (scopes c.args.self.now)
    (ap scopes (sym c.self.view_is) ∙ ap (λ xs. scopes_in xs o) none)
    (c.in_err-index-in-None.ensures.too_large o.width o.known n (told c.from_residual.result _ n c.from_residual.ensures.1 e))

pub returns-clause-reads_back : goal.returns-clause-reads_back
returns-clause-reads_back c = λ is es mean m k alone keeps meaning described apart.
    let name = c.args.name.now in
    let e = IsComponent is es in
    let ty = c.args.ty.now in
    not_refused _ _ c.match-pop.result
    (λ next. subst (λ next. IsImported mean m k next name e) (sym (next ∙ ap (write_import name e ty) alone))
    (c.an_import_reads_back.ensures mean m k name e ty keeps meaning described apart))
    (returns-clause-written c is es)
