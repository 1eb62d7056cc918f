use Rattle.std.proofs.Common.{◌<◌, ◌++◌, ◌∷◌, [], List, rules, sym, ◌∙◌, ap, length}
use Rattle.std.proofs.lemmas.List.{get_or-map}
use Rattle.std.specs.Prelude.{Vec}
use Rattle.std.specs.Global.{Global}
use Rattle.comp_image.specs.declared.numbered.Indexed.{Indexed}
use Rattle.comp_image.proofs.NumberedLaws.{pushed}
use Rattle.comp_image.proofs.numbered.Numbered.push.Goals as goal

pub returns : goal.returns
returns c = λ es shows.
    let spaces = c.args.self.now.spaces.items in
    let there : c.space_of.result < length spaces = search rules in
    pushed spaces c.push.new.self c.space_of.result c.args.of es c.args.sort c.space_of.ensures.number there
    (c.in_ok-push.ensures.items ∙ ap (λ (l : List Indexed). l ++ c.args.of ∷ []) (ap (λ (v : Vec Indexed Global). v.items) c.index_mut-space.ensures.value ∙ sym (get_or-map (λ (v : Vec Indexed Global). v.items) spaces c.space_of.result c.index_mut-space.result.now [] there))) shows
