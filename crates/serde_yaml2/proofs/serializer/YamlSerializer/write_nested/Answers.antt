use Rattle.std.proofs.Common.{ℕ, ◌+◌, ap, subst}
use Rattle.std.proofs.lemmas.Result.{err_from_is_err_and}
use Rattle.yaml_small.specs.Trees.{depth}
use Rattle.yaml_text.specs.Written.{new_line, tree_of}
use Rattle.serde_yaml2.specs.Output.{Output, Pushes, output_of, below}
use Rattle.serde_yaml2.specs.PieceLaws.{puts_first, puts_last}
use Rattle.serde_yaml2.proofs.serializer.YamlSerializer.write_nested.Goals as goal

pub returns-in_err-write_below : goal.returns-in_err-write_below
returns-in_err-write_below g c =
    let p = err_from_is_err_and c.from_residual.result c.from_residual.ensures.1 in
    let level = c.args.self.now.level.depth in
    let w = g.T.WriteYaml.written c.args.value.now in
    rw (p.1, p.2) (puts_first c.in_err-write_below.field-0.0 (output_of c.args.self.now) (output_of c.write_below.new.self) (below level w) (new_line level) (depth (tree_of w) + 1) c.in_err-write_below.ensures)

pub returns : goal.returns
returns g c =
    let level = c.args.self.now.level.depth in
    let w = g.T.WriteYaml.written c.args.value.now in
    let middle = output_of c.write_below.new.self in
    let end = output_of c.new_line.new.self in
    puts_last c.new_line.result (output_of c.args.self.now) middle end (below level w) (new_line level) (depth (tree_of w) + 1) c.in_ok-write_below.ensures.0 c.in_ok-write_below.ensures.1
    (subst (λ (l : ℕ). Pushes c.new_line.result middle (new_line l) end) (ap (λ (o : Output). o.level) c.in_ok-write_below.ensures.0) c.new_line.ensures)
