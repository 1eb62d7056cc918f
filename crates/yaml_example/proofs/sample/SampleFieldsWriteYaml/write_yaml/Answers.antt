use Rattle.std.proofs.Common.{rules, ◌≡◌, [], ◌∷◌, codes, Result, Ok, Err, refl}
use Rattle.std.specs.Result.{IsOk}
use Rattle.std.proofs.lemmas.Result.{err_from_is_err_and, IfErr-at_err}
use Rattle.yaml_text.specs.Written as spec
use Rattle.serde_yaml2.specs.declared.error.Errors.{Errors}
use Rattle.serde_yaml2.specs.Output.{output_of, map_output, IsCut}
use Rattle.serde_yaml2.specs.MapLaws.{map_refused, key_refused, value_refused, entry_done}
use Rattle.yaml_example.proofs.sample.SampleFieldsWriteYaml.write_yaml.Goals as goal

end_is : (r : Result (Unit {0}) Errors) → IsOk r → r ≡ Ok tt
end_is (Ok x) h = refl
end_is (Err e) h = absurd cc

pub returns-in_err-map : goal.returns-in_err-map
returns-in_err-map c =
    let p = err_from_is_err_and c.from_residual.result c.from_residual.ensures.1 in
    let before = output_of c.args.ser.now in
    let after = output_of c.map.follows.lender-at-none in
    rw (p.1, p.2)
    (map_refused c.in_err-map.field-0.0 before after ((codes "x", spec.number c.args.self.now.x) ∷ (codes "y", spec.text c.args.self.now.y.now) ∷ [])
    (IfErr-at_err (λ _. IsCut before [] after) c.in_err-map.was c.map.follows.holds-at-none) c.in_err-map.ensures.refused)

pub returns-in_err-key : goal.returns-in_err-key
returns-in_err-key c =
    let p = err_from_is_err_and c.from_residual-in_err-key.result c.from_residual-in_err-key.ensures.1 in
    let refused = key_refused c.in_err-key.field-0.0 (output_of c.args.ser.now) (map_output c.in_ok-map.map) (map_output c.key.new.self) [] (codes "x", spec.number c.args.self.now.x)
    ((codes "y", spec.text c.args.self.now.y.now) ∷ []) c.in_ok-map.ensures.begun.0 c.in_err-key.ensures.pushes in
    rw (p.1, p.2) (search (rules, refused))

pub returns-in_err-value : goal.returns-in_err-value
returns-in_err-value c =
    let p = err_from_is_err_and c.from_residual-in_err-value.result c.from_residual-in_err-value.ensures.1 in
    let refused = value_refused c.in_err-value.field-0.0 (output_of c.args.ser.now) (map_output c.in_ok-map.map) (map_output c.key.new.self) (map_output c.value.new.self) [] (codes "x", spec.number c.args.self.now.x)
    ((codes "y", spec.text c.args.self.now.y.now) ∷ []) c.in_ok-map.ensures.begun.0 c.in_ok-key.ensures.pushes c.in_err-value.ensures.puts in
    rw (p.1, p.2) (search (rules, refused))

pub returns-in_err-key-2 : goal.returns-in_err-key-2
returns-in_err-key-2 c =
    let p = err_from_is_err_and c.from_residual-in_err-key-2.result c.from_residual-in_err-key-2.ensures.1 in
    let done = entry_done (output_of c.args.ser.now) (map_output c.in_ok-map.map) (map_output c.key.new.self) (map_output c.value.new.self) [] (codes "x", spec.number c.args.self.now.x)
    c.in_ok-map.ensures.begun.0 c.in_ok-key.ensures.pushes c.in_ok-value.ensures.puts.0 in
    let refused = key_refused c.in_err-key-2.field-0.0 (output_of c.args.ser.now) (map_output c.value.new.self) (map_output c.key-2.new.self) ((codes "x", spec.number c.args.self.now.x) ∷ [])
    (codes "y", spec.text c.args.self.now.y.now) [] done c.in_err-key-2.ensures.pushes in
    rw (p.1, p.2) (search (rules, refused))

pub returns-in_err-value-2 : goal.returns-in_err-value-2
returns-in_err-value-2 c =
    let p = err_from_is_err_and c.from_residual-in_err-value-2.result c.from_residual-in_err-value-2.ensures.1 in
    let done = entry_done (output_of c.args.ser.now) (map_output c.in_ok-map.map) (map_output c.key.new.self) (map_output c.value.new.self) [] (codes "x", spec.number c.args.self.now.x)
    c.in_ok-map.ensures.begun.0 c.in_ok-key.ensures.pushes c.in_ok-value.ensures.puts.0 in
    let refused = value_refused c.in_err-value-2.field-0.0 (output_of c.args.ser.now) (map_output c.value.new.self) (map_output c.key-2.new.self) (map_output c.value-2.new.self) ((codes "x", spec.number c.args.self.now.x) ∷ [])
    (codes "y", spec.text c.args.self.now.y.now) [] done c.in_ok-key-2.ensures.pushes c.in_err-value-2.ensures.puts in
    rw (p.1, p.2) (search (rules, refused))

pub returns : goal.returns
returns c =
    let first = entry_done (output_of c.args.ser.now) (map_output c.in_ok-map.map) (map_output c.key.new.self) (map_output c.value.new.self) [] (codes "x", spec.number c.args.self.now.x)
    c.in_ok-map.ensures.begun.0 c.in_ok-key.ensures.pushes c.in_ok-value.ensures.puts.0 in
    let done = entry_done (output_of c.args.ser.now) (map_output c.value.new.self) (map_output c.key-2.new.self) (map_output c.value-2.new.self) ((codes "x", spec.number c.args.self.now.x) ∷ [])
    (codes "y", spec.text c.args.self.now.y.now) first c.in_ok-key-2.ensures.pushes c.in_ok-value-2.ensures.puts.0 in
    let fits = c.in_ok-map.ensures.begun.2 in
    rw (end_is c.end.result c.end.ensures.ok) (search (rules, done, fits))
