use Rattle.std.proofs.Common.{ap, sym, subst, ◌∙◌, true, Ok, refl}
use Rattle.warg_values.specs.Reading.{◌>>=◌}
use Rattle.comp_entity.specs.Entity.{IsInstance}
use Rattle.comp_entity.specs.Names.{changing, counts_at, entries_by}
use Rattle.comp_instance.specs.Renamed.{component_place, component_resource, fitted}
use Rattle.comp_instance.proofs.InstanceLaws.{change_is, instance_parts}
use Rattle.comp_scope.specs.Descriptions.{Described}
use Rattle.comp_scope.specs.Instances.{instantiating, mentions_of}
use Rattle.comp_scope.specs.Spaces.{counts_sum}
use Rattle.comp_space.specs.Faults.{Fails}
use Rattle.comp_space.specs.StandingLaws.{fails_bind, passed_on}
use Rattle.comp_table.specs.Changes.{tree_by}
use Rattle.comp_table.specs.Plain.{plain_entity}
use Rattle.comp_table.specs.StandLaws.{same_stands, stands_kept}
use Rattle.comp_instance.proofs.instances.component_instance.Goals as goal

pub instantiating-requires-clause-imports : goal.instantiating-requires-clause-imports
instantiating-requires-clause-imports c = let sides = c.requires.sides in (IsInstance sides.0, sides.2.imports)

pub instantiating-requires-clause-arguments : goal.instantiating-requires-clause-arguments
instantiating-requires-clause-arguments c = let given = c.requires.arguments in (IsInstance given.0, given.1)

pub fitted-requires-clause-given : goal.fitted-requires-clause-given
fitted-requires-clause-given c = let given = c.requires.arguments in (IsInstance given.0, given.1)

pub fitted-requires-clause-asked : goal.fitted-requires-clause-asked
fitted-requires-clause-asked c = let sides = c.requires.sides in (IsInstance sides.0, sides.2.imports)

pub renamed-requires : goal.renamed-requires
renamed-requires c = let sides = c.requires.sides in (stands_kept _ _ c.fitted.ensures.extends _ _ sides.2.exports).there

pub returns-in_err-fitted-clause-found : goal.returns-in_err-fitted-clause-found
returns-in_err-fitted-clause-found c = λ s imports exports given shows sides arguments.
    let names = c.in_ok-renaming.ensures s given imports shows arguments sides.imports in
    let change = change_is c.in_ok-renaming.renaming s c.in_ok-counts.counts imports exports given names (c.in_ok-counts.ensures imports exports sides) in
    passed_on _ c.from_residual-in_err-fitted.result c.in_err-fitted.field-0.0 _ c.from_residual-in_err-fitted.ensures.1
    (subst (Fails c.in_err-fitted.field-0.0) (sym (instance_parts s imports exports given))
    (fails_bind (fitted (instantiating s imports exports given) (IsInstance given) (IsInstance imports)) _ c.in_err-fitted.field-0.0
    (subst (λ ch. Fails c.in_err-fitted.field-0.0 (fitted ch (IsInstance given) (IsInstance imports))) change
    (c.in_err-fitted.ensures.found (IsInstance given) (IsInstance imports) arguments sides.imports))))

pub returns-clause-found : goal.returns-clause-found
returns-clause-found c = λ s imports exports given shows sides arguments.
    let names = c.in_ok-renaming.ensures s given imports shows arguments sides.imports in
    let counted = c.in_ok-counts.ensures imports exports sides in
    let change = change_is c.in_ok-renaming.renaming s c.in_ok-counts.counts imports exports given names counted in
    let f = c.in_ok-fitted.ensures.found (IsInstance given) (IsInstance imports) arguments sides.imports in
    let there = stands_kept _ _ c.fitted.ensures.extends _ _ sides.exports in
    let d : Described = record { standing = (IsInstance (entries_by (instantiating s imports exports given) 0 exports), true); brings = counts_sum (counts_at 0 (mentions_of imports exports)) (counts_at 1 (mentions_of imports exports)) } in
    record {
      value = d;
      given_is = instance_parts s imports exports given
          ∙ ap (λ r. r >>= λ e. Ok d) (ap (λ ch. fitted ch (IsInstance given) (IsInstance imports)) (sym change) ∙ f.given_is);
      shown = record {
        standing = record {
          stands = same_stands _ _ _ _ (ap (tree_by (changing (component_resource c.in_ok-renaming.renaming) (component_place c.in_ok-renaming.renaming)) 0) there.tree_is ∙ ap (λ ch. tree_by ch 0 (plain_entity (IsInstance exports))) change ∙ sym (c.changed_entities_have_changed_trees.ensures (instantiating s imports exports given) 0 (IsInstance exports))) c.in_ok-number.ensures.number;
          named_is = refl;
        };
        brings = counted.all;
      };
    }
