-- The statuses that the program ends with, and the lines that it prints, where it stops.
use Rattle.std.specs.Prelude.{ℕ, List, ◌++◌, codes}
use Rattle.warg_program.specs.ComposerVariants.{composer_variant, config_variant}
use Rattle.warg_program.specs.Variants.{variant}
use Rattle.warg_program.specs.declared.stop.Stop.{Stop}
use Rattle.warg_program.specs.declared.stop.Stop.TheVariants as stop

abbrev pub status_of : Stop → ℕ
status_of stop.Usage = 2
status_of (stop.Missing path) = 3
status_of (stop.Fault access) = 4
status_of (stop.Bad path form) = 5
status_of (stop.BadComponent path error) = 6
status_of (stop.Incompatible path why) = 6
status_of (stop.TooLarge path number) = 6
status_of (stop.BadConfig path refusal) = 6
status_of (stop.NotComposed error) = 6
status_of (stop.Unread error) = 4
status_of (stop.Refused error) = 6
status_of stop.Memory = 7

abbrev pub line_of : Stop → List ℕ
line_of stop.Usage = codes "usage\n"
line_of (stop.Missing path) = codes "missing " ++ path.now ++ codes "\n"
line_of (stop.Fault access) = codes "fault\n"
line_of (stop.Bad path form) = codes "bad " ++ path.now ++ codes "\n"
line_of (stop.BadComponent path error) = codes "refused BadComponent\n"
line_of (stop.Incompatible path why) = codes "refused Incompatible\n"
line_of (stop.TooLarge path number) = codes "refused TooLarge\n"
line_of (stop.BadConfig path refusal) = codes "refused " ++ config_variant refusal.error ++ codes "\n"
line_of (stop.NotComposed error) = codes "refused " ++ composer_variant error ++ codes "\n"
line_of (stop.Unread error) = codes "fault\n"
line_of (stop.Refused error) = codes "refused " ++ variant error ++ codes "\n"
line_of stop.Memory = codes "memory\n"
