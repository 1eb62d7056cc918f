use Rattle.std.proofs.Common.{ap, Ok}
use Rattle.warg_values.specs.Reading.{◌>>=◌}
use Rattle.comp_entity.specs.Bounds.{bounded}
use Rattle.comp_scope.specs.Descriptions.{with_export, with_made}
use Rattle.comp_space.specs.StandingLaws.{fails_bind, number_kept, on_err_always}
use Rattle.comp_instance.proofs.ExportLaws.{described_kept, entry_as_shown, scope_kept}
use Rattle.comp_instance.proofs.exports.add_export.Goals as goal

pub returns-in_err-number-clause-unchanged : goal.returns-in_err-number-clause-unchanged
returns-in_err-number-clause-unchanged c = λ k d shows shown free low.
    on_err_always c.from_residual.result (scope_kept c.args.table.now c.entry.new.table c.entry.ensures.extends c.args.scope.now k shows)

pub returns-in_err-push-clause-unchanged : goal.returns-in_err-push-clause-unchanged
returns-in_err-push-clause-unchanged c = λ k d shows shown free low.
    let kept = scope_kept c.args.table.now c.entry.new.table c.entry.ensures.extends c.args.scope.now k shows in
    on_err_always c.from_residual-in_err-push.result (record { spaces = kept.spaces; exports = c.in_err-push.ensures.unchanged c.entry.new.table k.exports kept.exports; imports = kept.imports })

pub add_made-requires : goal.add_made-requires
add_made-requires c = number_kept c.args.table.now c.entry.new.table c.entry.ensures.extends c.args.described.standing.number c.requires

pub returns-in-Ok-clause-found : goal.returns-in-Ok-clause-found
returns-in-Ok-clause-found c = λ k d shows shown free low.
    let kept = scope_kept c.args.table.now c.entry.new.table c.entry.ensures.extends c.args.scope.now k shows in
    let stands = entry_as_shown c.entry.new.table c.in_ok-number.number c.args.name.now c.args.described.standing.named d.standing shown.standing.named_is (c.in_ok-number.ensures.number d.standing.0 shown.standing.stands) in
    let g = c.in-Ok.ensures.found k.spaces d kept.spaces (described_kept c.args.table.now c.entry.new.table c.entry.ensures.extends c.args.described d shown) in
    record {
      value = with_export k c.args.name.now d.standing g.value;
      given_is = ap (λ r. r >>= λ spaces. Ok (with_export k c.args.name.now d.standing spaces)) g.given_is;
      shown = record {
        spaces = g.shown;
        exports = c.in_ok-push.ensures.pushed c.entry.new.table k.exports (c.args.name.now, d.standing) kept.exports free low stands;
        imports = kept.imports;
      };
    }

pub returns-in-Err-clause-found : goal.returns-in-Err-clause-found
returns-in-Err-clause-found c = λ k d shows shown free low.
    let kept = scope_kept c.args.table.now c.entry.new.table c.entry.ensures.extends c.args.scope.now k shows in
    fails_bind (with_made bounded k.spaces d) (λ spaces. Ok (with_export k c.args.name.now d.standing spaces)) c.in-Err.error
    (c.in-Err.ensures.found k.spaces d kept.spaces (described_kept c.args.table.now c.entry.new.table c.entry.ensures.extends c.args.described d shown))

pub returns-in-Err-clause-unchanged : goal.returns-in-Err-clause-unchanged
returns-in-Err-clause-unchanged c = λ k d shows shown free low.
    let kept = scope_kept c.args.table.now c.entry.new.table c.entry.ensures.extends c.args.scope.now k shows in
    let stands = entry_as_shown c.entry.new.table c.in_ok-number.number c.args.name.now c.args.described.standing.named d.standing shown.standing.named_is (c.in_ok-number.ensures.number d.standing.0 shown.standing.stands) in
    record {
      spaces = c.in-Err.ensures.unchanged k.spaces kept.spaces;
      exports = c.pop.ensures c.entry.new.table k.exports (c.args.name.now, d.standing) (c.in_ok-push.ensures.pushed c.entry.new.table k.exports (c.args.name.now, d.standing) kept.exports free low stands);
      imports = kept.imports;
    }
