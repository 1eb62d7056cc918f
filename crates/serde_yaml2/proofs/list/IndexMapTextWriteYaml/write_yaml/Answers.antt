use Rattle.std.proofs.Common.{rules, ◌≡◌, sym, ap, ◌∙◌, arith}
use Rattle.std.proofs.lemmas.Result.{err_from_is_err_and}
use Rattle.serde_yaml2.specs.Output.{Output, output_of, map_output, map_name}
use Rattle.serde_yaml2.specs.MapLaws.{each_done, each_fits, each_key_refused, each_value_refused, none_there}
use Rattle.serde_yaml2.proofs.list.IndexMapTextWriteYaml.write_yaml.Goals as goal
use Rattle.serde_yaml2.proofs.list.IndexMapTextWriteYaml.write_yaml.Goals.{in-Some+in_ok-key+in_ok-value, in_default}

pub returns-in_err-key : goal.returns-in_err-key
returns-in_err-key g c =
    let p = err_from_is_err_and c.from_residual-in_err-key.result c.from_residual-in_err-key.ensures.1 in
    let refused = each_key_refused g.V.WriteYaml.written c.in_err-key.field-0.0 (output_of c.args.ser.now) (map_output c.loop-index.map) (map_output c.key.new.self) c.args.self.now.entries c.loop-index.index
    (c.in-Some.name.now, c.in-Some.item.now) (sym c.in-Some.ensures.entry) c.loop-index.invariant.done (rw c.as_str.ensures at c.in_err-key.ensures.pushes) in
    rw (p.1, p.2) (search (rules, refused))

pub returns-in_err-value : goal.returns-in_err-value
returns-in_err-value g c =
    let p = err_from_is_err_and c.from_residual-in_err-value.result c.from_residual-in_err-value.ensures.1 in
    let refused = each_value_refused g.V.WriteYaml.written c.in_err-value.field-0.0 (output_of c.args.ser.now) (map_output c.loop-index.map) (map_output c.key.new.self) (map_output c.value.new.self)
    c.args.self.now.entries c.loop-index.index (c.in-Some.name.now, c.in-Some.item.now) (sym c.in-Some.ensures.entry) c.loop-index.invariant.done (rw c.as_str.ensures at c.in_ok-key.ensures.pushes) c.in_err-value.ensures.puts in
    rw (p.1, p.2) (search (rules, refused))

pub loop-index-preserved : goal.loop-index-preserved
loop-index-preserved g c =
    elim c.match-get_index.branch [
      | in-Some+in_ok-key+in_ok-value w ↦
          let written = g.V.WriteYaml.written in
          let before = output_of c.args.ser.now in
          let middle = map_output c.loop-index.map in
          let entries = c.args.self.now.entries in
          let index = c.loop-index.index in
          let here = sym w.in-Some.ensures.entry in
          let key = rw w.as_str.ensures at w.in_ok-key.ensures.pushes in
          let level : (map_output w.key.new.self).level ≡ before.level = ap (λ (o : Output). o.level) w.in_ok-key.ensures.pushes ∙ ap (λ (o : Output). o.level) c.loop-index.invariant.done in
          record {
            same = ap map_name w.map-is ∙ w.in_ok-value.ensures.same ∙ w.in_ok-key.ensures.same ∙ c.loop-index.invariant.same;
            done = ap map_output w.map-is ∙ each_done written before middle (map_output w.key.new.self) (map_output w.value.new.self) entries index (w.in-Some.name.now, w.in-Some.item.now) here c.loop-index.invariant.done key w.in_ok-value.ensures.puts.0;
            fits = each_fits written before.level entries index (w.in-Some.name.now, w.in-Some.item.now) here c.loop-index.invariant.fits (rw level at w.in_ok-value.ensures.puts.1);
          }
      | in_default w ↦ absurd (none_there c.args.self.now.entries c.loop-index.index (omega arith) (sym w.in_default.ensures.entry))
    ]
