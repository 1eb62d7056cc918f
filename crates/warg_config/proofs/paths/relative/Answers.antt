-- The names, joined.
use Rattle.std.proofs.Common.{◌≡◌, ap, ◌∙◌, rules}
use Rattle.std.specs.Path.{path_join}
use Rattle.warg_config.specs.Answers.{names_of}
use Rattle.warg_config.specs.Paths.{path_of, place_of}
use Rattle.warg_config.proofs.PathLaws.{joined_names, relative_is}
use Rattle.warg_config.proofs.paths.relative.Goals as goal

pub returns : goal.returns
returns c =
    let folder = c.args.folder.now in
    let path = c.args.path.now in
    let whole : c.as_str.result.now ≡ path_join folder path = search rules in
    let from : names_of c.deref.result.now ≡ place_of folder = ap names_of c.deref.ensures.value ∙ c.in_ok-from.ensures in
    let to : names_of c.deref-2.result.now ≡ place_of (path_join folder path) = ap names_of c.deref-2.ensures.value ∙ c.in_ok-to.ensures ∙ ap place_of whole in
    c.new.ensures ∙ c.in_ok-join.ensures.ok ∙ joined_names c.deref-3.result.now ∙ ap (λ l. path_of (names_of l)) c.deref-3.ensures.value
    ∙ relative_is _ _ _ folder path c.in_ok-names.ensures from to
