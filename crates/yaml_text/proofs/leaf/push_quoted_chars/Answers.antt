use Rattle.std.proofs.Common.{◌++◌, flat_map, string_bytes, sym, ap, ◌∙◌, map-id}
use Rattle.std.specs.Str.{chars}
use Rattle.std.proofs.lemmas.Iterator.{YieldsList-from_chars}
use Rattle.std.proofs.lemmas.Iterator.Consumers.{YieldsList-so_far, YieldsList-turn, YieldsList-end}
use Rattle.std.proofs.lemmas.Result.{err_from_is_err_and}
use Rattle.yaml_text.specs.Texts as spec
use Rattle.yaml_text.proofs.Fronts.{front_piece}
use Rattle.yaml_text.proofs.leaf.push_quoted_chars.Goals as goal

pub returns-in_err-push_quoted_char : goal.returns-in_err-push_quoted_char
returns-in_err-push_quoted_char c =
    let each = YieldsList-from_chars c.args.text.now c.utf8.text (cc) in
    let so_far = YieldsList-so_far each c.loop-c.yielded _ c.loop-c.yielded_by in
    let turn = YieldsList-turn each c.loop-c.yielded _ c.loop-c.yielded_by _ _ c.in-Some.c c.in-Some.is c.next.ensures.steps in
    let wrote = c.in_err-push_quoted_char.ensures in
    let p = err_from_is_err_and c.from_residual.result c.from_residual.ensures.1 in
    rw p.1 (front_piece (spec.quoted_char c.args.double) c.loop-c.yielded (chars c.args.text.now) c.in-Some.c _ _ _ (sym (map-id c.loop-c.yielded) ∙ so_far) turn.0 turn.1 c.loop-c.invariant wrote)

pub returns : goal.returns
returns c =
    let end = YieldsList-end (YieldsList-from_chars c.args.text.now c.utf8.text cc) c.loop-c.yielded _ c.loop-c.yielded_by _ _ c.in-None.is c.next.ensures.steps in
    c.loop-c.invariant ∙ ap (λ xs. string_bytes c.args.out.now ++ flat_map (spec.quoted_char c.args.double) xs) (sym (map-id c.loop-c.yielded) ∙ end.0)
