use Rattle.std.proofs.Common.{ℕ, ◌≡◌, ◌+◌, ◌-◌, ◌∷◌, suc, add-one, List, eqb, get_or, length, take, drop, ap, sym, ◌∙◌, arith}
use Rattle.std.proofs.lemmas.List.{take_rest}
use Rattle.yaml_scan.specs.Lines.{lines_of, without_return}
use Rattle.yaml_scan.proofs.Loops.{lines_cut, lines_last, not_so}
use Rattle.yaml_scan.proofs.lines.cut_line.Goals as goal

rest_is : (xs : List ℕ) (at : ℕ) → drop (suc at) xs ≡ take (length xs - (at + 1)) (drop (at + 1) xs)
rest_is xs at = sym (take_rest xs (at + 1) ∙ ap (λ (n : ℕ). drop n xs) (add-one at))

pub returns-in-Some-clause-lines : goal.returns-in-Some-clause-lines
returns-in-Some-clause-lines c =
    let found = c.in-Some.ensures in
    let at = c.in-Some.at in
    let text = c.args.text.now in
    lines_cut text at found.0.high found.1 (λ k lt. not_so (eqb (get_or text k 0) 10) (found.0.before k (omega arith) lt))
    ∙ ap (λ (rest : List ℕ). without_return (take at text) ∷ lines_of rest) (rest_is text at)
    ∙ ap (λ (line : List ℕ). line ∷ lines_of (take (length text - (at + 1)) (drop (at + 1) text))) (sym c.without_return.ensures.front)

pub returns-in-None-clause-lines : goal.returns-in-None-clause-lines
returns-in-None-clause-lines c = lines_last c.args.text.now (λ k lt. not_so (eqb (get_or c.args.text.now k 0) 10) (c.in-None.ensures k (omega arith) lt))
