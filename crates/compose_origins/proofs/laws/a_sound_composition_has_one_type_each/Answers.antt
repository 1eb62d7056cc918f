use Rattle.compose_check.specs.Composition.{wiring}
use Rattle.compose_origins.proofs.Begin.{wires_begin}
use Rattle.compose_origins.proofs.laws.a_sound_composition_has_one_type_each.Goals as goal

pub returns : goal.returns
returns c = λ composition order out is sound named.
    c.one_number_stands_for_one_type.ensures (wiring composition) sound.no_circle sound.fit (wires_begin composition is) named sound.agree.merges
