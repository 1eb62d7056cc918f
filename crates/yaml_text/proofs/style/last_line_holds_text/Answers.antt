use Rattle.std.proofs.Common.{◌≡◌, ℕ, ◌+◌, ◌<◌, List, length, get_or, take, not, ◌&&◌, ◌||◌, eqb, refl, sym, ap, ◌∙◌}
use Rattle.std.proofs.lemmas.List.{take_more}
use Rattle.std.proofs.lemmas.Bool.{ne_eqb}
use Rattle.yaml_text.specs.Texts as spec
use Rattle.yaml_text.proofs.LastLine.{holds_push}
use Rattle.yaml_text.proofs.style.last_line_holds_text.Goals as goal
use Rattle.yaml_text.proofs.style.last_line_holds_text.Goals.{then-byte-ne10+then-holds, then-byte-ne10+else-holds, else-byte-ne10}

holds_more : (xs : List ℕ) (i : ℕ) → i < length xs
    → spec.holds_text (spec.last_line (take (i + 1) xs)) ≡ not (eqb (get_or xs i 0) 10) && (spec.holds_text (spec.last_line (take i xs)) || not (eqb (get_or xs i 0) 32))
holds_more xs i less = ap (λ (ys : List ℕ). spec.holds_text (spec.last_line ys)) (take_more xs i 0 less) ∙ holds_push (take i xs) (get_or xs i 0)

pub loop-byte-preserved : goal.loop-byte-preserved
loop-byte-preserved c =
    let less : c.loop-byte.byte-index < length c.args.text.now = c.loop-byte-test.true in
    let more = holds_more c.args.text.now c.loop-byte.byte-index less in
    let so_far : spec.holds_text (spec.last_line (take c.loop-byte.byte-index c.args.text.now)) ≡ c.loop-byte.holds = sym c.loop-byte.invariant in
    elim c.if-byte-ne10.branch [
      | then-byte-ne10+then-holds w ↦ w.holds-is ∙ sym (rw (more, ne_eqb _ 10 w.if-byte-ne10.true, so_far, w.if-holds.true) refl)
      | then-byte-ne10+else-holds w ↦ w.holds-is ∙ sym (rw (more, ne_eqb _ 10 w.if-byte-ne10.true, so_far, w.if-holds.false) refl)
      | else-byte-ne10 w ↦ w.holds-is ∙ sym (rw (more, w.if-byte-ne10.false) refl)
    ]
