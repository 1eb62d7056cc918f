-- A path has one name behind the folder that has the registries' folders.
use Rattle.std.proofs.Common.{◌++◌, ◌∷◌, sym, ap, ◌∙◌}
use Rattle.warg_registry_files.specs.Shown.{place_view}
use Rattle.warg_registry_files.proofs.KeyLaws.{kept_by, not_entry, not_folder, not_parted}
use Rattle.warg_registry_files.proofs.paths.Place.is_kept.Goals as goal

pub returns-in_default-parts-clause-other : goal.returns-in_default-parts-clause-other
returns-in_default-parts-clause-other c = λ none kept. not_parted (place_view c.args.self.now) c.args.path.now c.in-Some.inside.now (c.in-Some.ensures ∙ ap (λ l. l ++ 47 ∷ c.in-Some.inside.now) c.as_str.ensures) c.in_default-parts.ensures kept

pub returns-then-is_folder-clause-kept : goal.returns-then-is_folder-clause-kept
returns-then-is_folder-clause-kept c = λ t. kept_by (place_view c.args.self.now) c.args.path.now c.in-Some.inside.now c.in-Some-parts.name.now c.in-Some-parts.entry.now (c.in-Some.ensures ∙ ap (λ l. l ++ 47 ∷ c.in-Some.inside.now) c.as_str.ensures) c.in-Some-parts.ensures.0 c.in-Some-parts.ensures.1 (sym c.is_folder.ensures ∙ c.if-is_folder.true) (sym c.is_entry.ensures ∙ t)

pub returns-then-is_folder-clause-other : goal.returns-then-is_folder-clause-other
returns-then-is_folder-clause-other c = λ f kept. not_entry (place_view c.args.self.now) c.args.path.now c.in-Some.inside.now c.in-Some-parts.name.now c.in-Some-parts.entry.now (c.in-Some.ensures ∙ ap (λ l. l ++ 47 ∷ c.in-Some.inside.now) c.as_str.ensures) c.in-Some-parts.ensures.0 c.in-Some-parts.ensures.1 (sym c.is_entry.ensures ∙ f) kept

pub returns-else-is_folder-clause-other : goal.returns-else-is_folder-clause-other
returns-else-is_folder-clause-other c = λ f kept. not_folder (place_view c.args.self.now) c.args.path.now c.in-Some.inside.now c.in-Some-parts.name.now c.in-Some-parts.entry.now (c.in-Some.ensures ∙ ap (λ l. l ++ 47 ∷ c.in-Some.inside.now) c.as_str.ensures) c.in-Some-parts.ensures.0 c.in-Some-parts.ensures.1 (sym c.is_folder.ensures ∙ f) kept
