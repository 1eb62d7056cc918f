use Rattle.warg_update.proofs.InclusionLaws.{head-in-log, head-in-map}
use Rattle.warg_update.proofs.laws.proved_records_are_included.Goals as goal

pub returns-clause-log : goal.returns-clause-log
returns-clause-log c accepts a start xs logs checkpoint entries l k p has last bytes len roots =
    head-in-log (record { log = c.inclusion.ensures; map = c.map_inclusion.ensures; entries = c.leaves_are_bytes.ensures.entries; values = c.leaves_are_bytes.ensures.values })
    accepts a start xs logs checkpoint entries l k p has last bytes len roots

pub returns-clause-map : goal.returns-clause-map
returns-clause-map c accepts a start xs logs checkpoint m l k p has last is_map roots =
    head-in-map (record { log = c.inclusion.ensures; map = c.map_inclusion.ensures; entries = c.leaves_are_bytes.ensures.entries; values = c.leaves_are_bytes.ensures.values })
    accepts a start xs logs checkpoint m l k p has last is_map roots
