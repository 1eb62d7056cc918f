use Rattle.std.proofs.Common.{◌≡◌, ◌≢◌, ◌++◌, ◌∙◌, ◌<◌, List, ℕ, Option, Bor, sym, ap, length, arith, option_copied}
use Rattle.std.proofs.lemmas.Bool.{eqb-false}
use Rattle.yaml_scan.specs.Lines.{lines_behind}
use Rattle.yaml_scan.proofs.Blocks.{progress_line, fewer_bytes, bytes_behind}
use Rattle.yaml_scan.proofs.block.joined_lines.Goals as goal

pub loop-rest-preserved : goal.loop-rest-preserved
loop-rest-preserved c =
    let p = c.loop-rest.invariant.0 in
    let gives : length c.content-piece.result.now ≢ 0 = eqb-false (length c.content-piece.result.now) 0 (sym c.is_empty.ensures ∙ c.if-is_empty.false) in
    let some : 0 < length c.in-Some.left.now = omega (arith, c.cut_line.ensures.within, c.content-piece.ensures.within) in
    let less = fewer_bytes (length c.in-Some.left.now) c.cut_line.result.1 some c.cut_line.ensures.shorter in
    let left : bytes_behind (option_copied c.loop-rest.rest) ≡ length c.in-Some.left.now = ap (λ (rest : Option (Bor (List ℕ))). bytes_behind (option_copied rest)) c.in-Some.is in (
      progress_line c.args.folded c.loop-rest.joined c.is_joined-joins.result c.args.indent c.loop-rest.ends _ _ _ c.cut_line.result.0.now c.content-piece.result.now _ _ p
          (ap (λ (rest : Option (Bor (List ℕ))). lines_behind (option_copied rest)) c.in-Some.is ∙ c.cut_line.ensures.lines)
          (sym c.is_inside.ensures ∙ c.if-not-is_inside.false) (sym c.is_clean.ensures ∙ c.if-not-is_clean.false) c.content-piece.ensures.text
          gives c.is_joined-joins.ensures
          (c.in_ok-extend_from_slice.ensures.items ∙ ap (λ (text : List ℕ). text ++ c.content-piece.result.now) c.in_ok-push_between.ensures),
      omega (arith, less, left, c.loop-rest.invariant.1),
    )
