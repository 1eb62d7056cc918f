use Rattle.std.proofs.Common.{rules, not, ◌||◌, nat_eq, bytes_eq}
use Rattle.std.proofs.lemmas.Map.Made.{filter_same_pairs}
use Rattle.std.specs.List.{starts_with}
use Rattle.warg_base.proofs.memory_files.retain_outside.Goals as goal

pub returns : goal.returns
returns c =
    filter_same_pairs _ (λ e. not (bytes_eq e.0 c.args.path.now || starts_with nat_eq e.0 c.args.folder.now)) _ (λ k v b w f' t. search rules) _ _ c.retain.ensures.filtered
