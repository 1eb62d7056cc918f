-- A path has the parts of a log's, or is none.
use Rattle.std.proofs.Common.{◌++◌, ◌∷◌, sym, ap, ◌∙◌}
use Rattle.warg_registry_files.specs.Shown.{place_view}
use Rattle.warg_registry_files.proofs.BackLaws.{log_here, no_log_beside, no_log_digits, no_log_entry, no_log_folder, no_log_outside}
use Rattle.warg_registry_files.proofs.paths.Place.log_at.Goals as goal

pub returns-in_default : goal.returns-in_default
returns-in_default c = no_log_outside (place_view c.args.self.now) c.args.path.now (λ rest e. c.in_default.ensures rest (e ∙ ap (λ l. l ++ 47 ∷ rest) (sym c.as_str.ensures)))

pub returns-in_default-parts : goal.returns-in_default-parts
returns-in_default-parts c = no_log_beside (place_view c.args.self.now) c.args.path.now c.in-Some.inside.now (c.in-Some.ensures ∙ ap (λ l. l ++ 47 ∷ c.in-Some.inside.now) c.as_str.ensures) c.in_default-parts.ensures

pub returns-in_default-digits_in : goal.returns-in_default-digits_in
returns-in_default-digits_in c =
    no_log_entry (place_view c.args.self.now) c.args.path.now c.in-Some.inside.now (c.in-Some.ensures ∙ ap (λ l. l ++ 47 ∷ c.in-Some.inside.now) c.as_str.ensures) c.args.self.now.single c.in-Some-parts.folder.now c.in-Some-parts.entry.now c.in-Some-parts.ensures.0 c.in-Some-parts.ensures.1
    c.in_default-digits_in.ensures

pub returns-in_default-2 : goal.returns-in_default-2
returns-in_default-2 c =
    no_log_digits (place_view c.args.self.now) c.args.path.now c.in-Some.inside.now (c.in-Some.ensures ∙ ap (λ l. l ++ 47 ∷ c.in-Some.inside.now) c.as_str.ensures) c.args.self.now.single c.in-Some-parts.folder.now c.in-Some-parts.entry.now c.in-Some-parts.ensures.0 c.in-Some-parts.ensures.1
    c.in-Some-digits_in.digits.now c.in-Some-digits_in.ensures (rw c.in_default-2.is at c.in_ok-id.ensures)

pub returns-in_default-3 : goal.returns-in_default-3
returns-in_default-3 c =
    no_log_folder (place_view c.args.self.now) c.args.path.now c.in-Some.inside.now (c.in-Some.ensures ∙ ap (λ l. l ++ 47 ∷ c.in-Some.inside.now) c.as_str.ensures) c.args.self.now.single c.in-Some-parts.folder.now c.in-Some-parts.entry.now c.in-Some-parts.ensures.0 c.in-Some-parts.ensures.1
    c.in-Some-digits_in.digits.now c.in-Some-digits_in.ensures (rw c.in_default-3.is at c.in_ok-registry.ensures)

pub returns : goal.returns
returns c =
    let id = rw c.in-Some-2.is at c.in_ok-id.ensures in
    let registry = rw c.in-Some-3.is at c.in_ok-registry.ensures in
    log_here (place_view c.args.self.now) c.args.path.now c.in-Some.inside.now (c.in-Some.ensures ∙ ap (λ l. l ++ 47 ∷ c.in-Some.inside.now) c.as_str.ensures) c.args.self.now.single c.in-Some-parts.folder.now c.in-Some-parts.entry.now c.in-Some-parts.ensures.0 c.in-Some-parts.ensures.1
    c.in-Some-digits_in.digits.now c.in-Some-digits_in.ensures c.in-Some-3.registry c.in-Some-2.id.items registry.0 registry.1 id.0 id.1
