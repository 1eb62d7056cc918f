use Rattle.std.proofs.Common.{rules, [], ◌∷◌}
use Rattle.std.proofs.lemmas.Result.{err_from_is_err_and, IfErr-at_err}
use Rattle.serde_yaml2.specs.Output.{output_of, list_output, IsCut}
use Rattle.serde_yaml2.specs.ListLaws.{list_refused, item_done, item_refused}
use Rattle.serde_yaml2.proofs.impls.Tuple3WriteYaml.write_yaml.Goals as goal

pub returns-in_err-list : goal.returns-in_err-list
returns-in_err-list g c =
    let p = err_from_is_err_and c.from_residual.result c.from_residual.ensures.1 in
    let before = output_of c.args.ser.now in
    let first = g.A.WriteYaml.written c.args.self.now.0 in
    let second = g.B.WriteYaml.written c.args.self.now.1 in
    let third = g.C.WriteYaml.written c.args.self.now.2 in
    let after = output_of c.seq.follows.lender-at-none in
    rw (p.1, p.2)
    (list_refused c.in_err-list.field-0.0 before after (first ∷ second ∷ third ∷ []) (IfErr-at_err (λ _. IsCut before [] after) c.in_err-list.was c.seq.follows.holds-at-none) c.in_err-list.ensures.refused)

pub returns-in_err-element : goal.returns-in_err-element
returns-in_err-element g c =
    let p = err_from_is_err_and c.from_residual-in_err-element.result c.from_residual-in_err-element.ensures.1 in
    let before = output_of c.args.ser.now in
    let first = g.A.WriteYaml.written c.args.self.now.0 in
    let second = g.B.WriteYaml.written c.args.self.now.1 in
    let third = g.C.WriteYaml.written c.args.self.now.2 in
    let refused = item_refused c.in_err-element.field-0.0 before (list_output c.in_ok-list.list) (list_output c.element.new.self) [] first (second ∷ third ∷ []) c.in_ok-list.ensures.begun.0 c.in_err-element.ensures.puts in
    rw (p.1, p.2) (search (rules, refused))

pub returns-in_err-element-2 : goal.returns-in_err-element-2
returns-in_err-element-2 g c =
    let p = err_from_is_err_and c.from_residual-in_err-element-2.result c.from_residual-in_err-element-2.ensures.1 in
    let before = output_of c.args.ser.now in
    let first = g.A.WriteYaml.written c.args.self.now.0 in
    let second = g.B.WriteYaml.written c.args.self.now.1 in
    let third = g.C.WriteYaml.written c.args.self.now.2 in
    let done = item_done before (list_output c.in_ok-list.list) (list_output c.element.new.self) [] first c.in_ok-list.ensures.begun.0 c.in_ok-element.ensures.puts.0 in
    let refused = item_refused c.in_err-element-2.field-0.0 before (list_output c.element.new.self) (list_output c.element-2.new.self) (first ∷ []) second (third ∷ []) done c.in_err-element-2.ensures.puts in
    rw (p.1, p.2) (search (rules, refused))

pub returns-in_err-element-3 : goal.returns-in_err-element-3
returns-in_err-element-3 g c =
    let p = err_from_is_err_and c.from_residual-in_err-element-3.result c.from_residual-in_err-element-3.ensures.1 in
    let before = output_of c.args.ser.now in
    let first = g.A.WriteYaml.written c.args.self.now.0 in
    let second = g.B.WriteYaml.written c.args.self.now.1 in
    let third = g.C.WriteYaml.written c.args.self.now.2 in
    let done = item_done before (list_output c.in_ok-list.list) (list_output c.element.new.self) [] first c.in_ok-list.ensures.begun.0 c.in_ok-element.ensures.puts.0 in
    let more = item_done before (list_output c.element.new.self) (list_output c.element-2.new.self) (first ∷ []) second done c.in_ok-element-2.ensures.puts.0 in
    let refused = item_refused c.in_err-element-3.field-0.0 before (list_output c.element-2.new.self) (list_output c.element-3.new.self) (first ∷ second ∷ []) third [] more c.in_err-element-3.ensures.puts in
    rw (p.1, p.2) (search (rules, refused))
