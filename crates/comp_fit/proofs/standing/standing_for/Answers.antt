use Rattle.comp_entity.specs.Fits.{stands}
use Rattle.comp_fit.proofs.StandingLaws.{found_is_all}
use Rattle.comp_fit.proofs.standing.standing_for.Goals as goal

pub returns : goal.returns
returns c = λ given asked s u.
    found_is_all (record { resources = c.new.result; places = c.new-2.result }) c.note_entity.new.found (stands given asked) c.new.ensures.empty c.new-2.ensures.empty (c.in_ok-note_entity.ensures.adds given asked s u)
