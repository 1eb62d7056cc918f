-- The slots that were passed are listed.
use Rattle.warg_store.specs.Listed.{AreSoundLists, HaveSome, listed_in}
use Rattle.warg_store.proofs.ListingLaws.{SoFar}
use Rattle.warg_store.proofs.memory_registry.load_all.Given as goal

abbrev pub invariant-loop-key : goal.invariant-loop-key
invariant-loop-key l = record {
  so_far : SoFar l.packages.slots.entries l.key-iterator (listed_in l.all);
  sound : AreSoundLists l.all;
  have_some : HaveSome l.all;
}
