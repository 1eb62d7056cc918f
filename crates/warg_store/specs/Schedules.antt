-- What the schedule of a store in memory holds.
use Rattle.warg_store.specs.Faults.{Schedule}
use Rattle.warg_store.specs.declared.schedule.StoreSchedule.{StoreSchedule}

abbrev pub schedule_of : StoreSchedule → Schedule
schedule_of s = record { calls = s.calls; failing = s.failing.items; faults = s.faults }
