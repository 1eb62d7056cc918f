use Rattle.std.proofs.Common.{ap, subst, sym, ◌∙◌, Bor, Ok, map, take}
use Rattle.std.specs.List.{list_any, sum}
use Rattle.warg_values.specs.Reading.{◌>>=◌}
use Rattle.comp_scope.specs.Aliases.{width}
use Rattle.comp_space.specs.declared.space.Space.{Space}
use Rattle.comp_space.specs.SpaceViews.{ShowsSpaces}
use Rattle.comp_declare.proofs.OuterLaws.{distance_is, leaves_is, outer_past, passed_show, scope_there}
use Rattle.comp_declare.proofs.outer.outer_scope.Goals as goal

pub returns-then-count-scopes : goal.returns-then-count-scopes
returns-then-count-scopes c = λ table ss shows. outer_past (λ (s : Bor Space). s.now) table c.args.scopes.now ss c.args.count shows c.if-count-scopes.true

pub returns : goal.returns
returns c = λ table ss shows.
    let f = scope_there (λ (s : Bor Space). s.now) table c.args.scopes.now ss c.args.count c.index-scopes-count.result shows c.if-count-scopes.false in
    let passed = passed_show (λ (s : Bor Space). s.now) table c.args.scopes.now ss c.args.count shows in
    record {
      value = record { spaces = f.value; distance = sum (map width (take c.args.count ss)); leaves_component = list_any (λ s. s.is_closed) (take c.args.count ss) };
      given_is = ap (λ r. r >>= λ spaces. Ok (record { spaces = spaces; distance = sum (map width (take c.args.count ss)); leaves_component = list_any (λ s. s.is_closed) (take c.args.count ss) })) f.given_is;
      shown = record {
        spaces = subst (λ (b : Bor Space). ShowsSpaces table b.now f.value) (sym c.index-scopes-count.is) f.shown;
        distance_is = c.in_ok-distance.ensures ∙ distance_is (λ (s : Bor Space). s.now) table (take c.args.count c.args.scopes.now) (take c.args.count ss) passed;
        leaves_is = c.leaves_component-leaves_component.ensures ∙ leaves_is (λ (s : Bor Space). s.now) table (take c.args.count c.args.scopes.now) (take c.args.count ss) passed;
      };
    }
