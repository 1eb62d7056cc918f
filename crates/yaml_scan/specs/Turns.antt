-- Where the code stands in a double-quoted scalar, in the scan's words.
use Rattle.std.specs.Prelude.{Option, Some, None}
use Rattle.yaml_scan.specs.declared.quoted.Inside.{Inside}
use Rattle.yaml_scan.specs.declared.quoted.Inside.TheVariants as inside
use Rattle.yaml_scan.specs.QuotedScan.{Standing, Text, Backslash, Hex}

abbrev pub standing : Inside → Standing
standing inside.Text = Text
standing inside.Backslash = Backslash
standing (inside.Hex wanted value) = Hex wanted value

abbrev pub next_standing : Option Inside → Option Standing
next_standing None = None
next_standing (Some next) = Some (standing next)
