use Rattle.std.proofs.Common.{◌∙◌, ap, map, refl, subst}
use Rattle.warg_compose.specs.Held.{IsHeldOf, lent_content}
use Rattle.warg_compose.proofs.EntryLaws.{put_last}
use Rattle.warg_compose.proofs.releases.add_release.Goals as goal

pub returns-clause-added : goal.returns-clause-added
returns-clause-added c = record {
  contents = ap (map lent_content) c.in_ok-number.ensures.entries ∙ put_last c.args.releases.now.contents.entries c.args.name c.args.content c.requires.unknown;
  component = record { component = c.in_ok-component.component; held = subst (λ n. IsHeldOf n c.args.content.now c.in_ok-component.component) c.as_str.ensures c.in_ok-component.ensures; added = c.in_ok-push.ensures.items };
  instances = refl;
}
