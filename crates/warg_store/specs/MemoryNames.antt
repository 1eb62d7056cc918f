-- What a store of namespaces in memory holds.
use Rattle.warg_store.specs.declared.memory_namespaces.MemoryNamespaces.{MemoryNamespaces}
use Rattle.warg_store.specs.declared.memory_namespaces.NameSlot.{NameSlot}
use Rattle.warg_store.specs.declared.memory_namespaces.NameSlot.TheVariants as slot
use Rattle.warg_store.specs.Entry.{Entry, Absent, Whole, Unreadable}
use Rattle.warg_store.specs.Faults.{Schedule}
use Rattle.warg_store.specs.Namespaces.{Names}
use Rattle.warg_store.specs.Schedules.{schedule_of}

abbrev pub names_entry : NameSlot → Entry Names
names_entry slot.Absent = Absent
names_entry (slot.Whole names) = Whole names.entries
names_entry slot.Unreadable = Unreadable

abbrev pub names_in : MemoryNamespaces → Entry Names
names_in store = names_entry store.names

abbrev pub names_schedule : MemoryNamespaces → Schedule
names_schedule store = schedule_of store.schedule
