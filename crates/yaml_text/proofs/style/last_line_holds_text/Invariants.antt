use Rattle.std.proofs.Common.{◌≡◌, take}
use Rattle.yaml_text.specs.Texts as spec
use Rattle.yaml_text.proofs.style.last_line_holds_text.Given as goal

abbrev pub invariant-loop-byte : goal.invariant-loop-byte
invariant-loop-byte l = l.holds ≡ spec.holds_text (spec.last_line (take l.byte-index l.text))
