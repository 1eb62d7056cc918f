-- Names of value types that are changed.
use Rattle.std.proofs.Common.{◌≡◌, true, None, refl, sym, ◌∙◌}
use Rattle.comp_entity.specs.Entity.{Name, ValueTree}
use Rattle.comp_entity.specs.Names.{Change, changing, outside, value_by, without_places}
use Rattle.comp_entity.specs.NameLaws.{value_twice}
use Rattle.comp_coherence.specs.Coherence.{Names, bare_value}

-- which places named types may be set aside before names are changed or behind
pub bare_changed : (f g : Name → Name) (t : ValueTree) → bare_value (value_by (changing f g) 0 t) ≡ value_by (changing f g) 0 (bare_value t)
bare_changed f g t =
    let c : Change = record { resource = outside f; place = λ d n. None; mark = λ m. true } in
    value_twice without_places (changing f g) c (record { resource = λ d n. refl; place = λ d n. refl; mark = λ m. refl }) 0 t
    ∙ sym (value_twice (changing f g) without_places c (record { resource = λ d n. refl; place = λ d n. refl; mark = λ m. refl }) 0 t)
