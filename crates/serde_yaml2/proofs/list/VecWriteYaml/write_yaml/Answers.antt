use Rattle.std.proofs.Common.{rules, ◌≡◌, ℕ, ◌<◌, length, map, get_or, sym, ap, ◌∙◌, subst, arith}
use Rattle.std.proofs.lemmas.Result.{err_from_is_err_and, IfErr-at_err}
use Rattle.std.proofs.lemmas.List.{length-map}
use Rattle.serde_yaml2.specs.Output.{Output, output_of, list_output, list_head, IsCut}
use Rattle.serde_yaml2.specs.ListLaws.{list_refused, each_done, each_fits, each_refused}
use Rattle.serde_yaml2.proofs.list.VecWriteYaml.write_yaml.Goals as goal

pub returns-in_err-list : goal.returns-in_err-list
returns-in_err-list g c =
    let p = err_from_is_err_and c.from_residual.result c.from_residual.ensures.1 in
    let before = output_of c.args.ser.now in
    let after = output_of c.seq.follows.lender-at-none in
    let ws = map g.T.WriteYaml.written c.args.self.now.items in
    let count : c.len.result ≡ length c.args.self.now.items = omega arith in
    let len = count ∙ sym (length-map c.args.self.now.items g.T.WriteYaml.written) in
    let cut = IfErr-at_err (λ _. IsCut before (list_head c.len.result) after) c.in_err-list.was c.seq.follows.holds-at-none in
    rw (p.1, p.2) (list_refused c.in_err-list.field-0.0 before after ws (subst (λ (n : ℕ). IsCut before (list_head n) after) len cut) c.in_err-list.ensures.refused)

pub returns-in_err-element : goal.returns-in_err-element
returns-in_err-element g c =
    let p = err_from_is_err_and c.from_residual-in_err-element.result c.from_residual-in_err-element.ensures.1 in
    let items = c.args.self.now.items in
    let index = c.loop-item.item-index in
    let here : get_or items index c.item-item.result ≡ c.item-item.result = (cc) in
    let within : index < length items = omega (arith, ap length c.deref-item-items.ensures.value) in
    let refused = each_refused g.T.WriteYaml.written c.in_err-element.field-0.0 (output_of c.args.ser.now) (list_output c.loop-item.list) (list_output c.element.new.self) items index c.item-item.result within here c.loop-item.invariant.done c.in_err-element.ensures.puts in
    rw (p.1, p.2) (search (rules, refused))

pub loop-item-preserved : goal.loop-item-preserved
loop-item-preserved g c =
    let items = c.args.self.now.items in
    let index = c.loop-item.item-index in
    let before = output_of c.args.ser.now in
    let middle = list_output c.loop-item.list in
    let here : get_or items index c.item-item.result ≡ c.item-item.result = (cc) in
    let within : index < length items = omega (arith, ap length c.deref-item-items.ensures.value) in
    let level : middle.level ≡ before.level = ap (λ (o : Output). o.level) c.loop-item.invariant.done in
    record {
      same = c.in_ok-element.ensures.same ∙ c.loop-item.invariant.same;
      done = each_done g.T.WriteYaml.written before middle (list_output c.element.new.self) items index c.item-item.result within here c.loop-item.invariant.done c.in_ok-element.ensures.puts.0;
      fits = each_fits g.T.WriteYaml.written before.level items index c.item-item.result within here c.loop-item.invariant.fits (rw level at c.in_ok-element.ensures.puts.1);
    }
