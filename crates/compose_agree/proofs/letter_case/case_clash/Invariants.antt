use Rattle.std.specs.Prelude.{map}
use Rattle.compose_agree.specs.LetterCase.{ApartBelow}
use Rattle.compose_agree.specs.Lowered.{FindsLowered}
use Rattle.compose_agree.proofs.letter_case.case_clash.Given as goal

abbrev pub invariant-loop-later : goal.invariant-loop-later
invariant-loop-later g l =
    let names = map (λ n. g.N.Named.name n) l.named in
    record {
      finds : FindsLowered l.places names l.later;
      apart : ApartBelow names l.later;
    }
