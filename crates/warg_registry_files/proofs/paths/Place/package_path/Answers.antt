-- The folder, the folder of the packages' logs in it, and the digits.
use Rattle.std.proofs.Common.{◌++◌, List, ℕ, codes, ap, ap₂, ◌∙◌}
use Rattle.warg_registry_files.proofs.paths.Place.package_path.Goals as goal

pub returns-clause-path : goal.returns-clause-path
returns-clause-path c =
    c.new.ensures ∙ c.in_ok-push_str-2.ensures.bytes
    ∙ ap₂ (λ (a b : List ℕ). a ++ b) (c.in_ok-push_str.ensures.bytes ∙ ap (λ (l : List ℕ). l ++ codes "/package-logs/sha256/") c.in_ok-path.ensures.path) (c.deref.ensures ∙ c.in_ok-digits.ensures.digits)
