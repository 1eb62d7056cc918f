-- Facts of single scans.
use Rattle.std.proofs.Common.{◌≡◌, ℕ, List, [], ◌∷◌, Bool, true, false, cond, eqb, ◌&&◌, refl}
use Rattle.yaml_scan.specs.Lines.{lines_of, lengthened, begins_feed}
use Rattle.yaml_small.specs.Scalars.{NotCarried, open_fault}

lengthened-open : (c : ℕ) (lines : List (List ℕ)) → open_fault (lengthened c lines) ≡ NotCarried
lengthened-open c [] = refl
lengthened-open c (line ∷ lines) = refl

either_open : (a b : Bool) (c : ℕ) (lines : List (List ℕ)) → open_fault lines ≡ NotCarried → open_fault (cond a ([] ∷ lines) (cond b lines (lengthened c lines))) ≡ NotCarried
either_open true b c lines e = refl
either_open false true c lines e = e
either_open false false c lines e = lengthened-open c lines

-- a text has a line
pub lines_of-open : (text : List ℕ) → open_fault (lines_of text) ≡ NotCarried
lines_of-open [] = refl
lines_of-open (c ∷ cs) = either_open (eqb c 10) (eqb c 13 && begins_feed cs) c (lines_of cs) (lines_of-open cs)

pub ruleset lines_open = (lines_of-open)
