-- The events behind those of a tree.
use Rattle.std.proofs.Common.{◌≡◌, List, ◌∷◌}
use Rattle.yaml_small.specs.declared.event.Event.{Event}
use Rattle.yaml_small.specs.declared.event.Event.TheVariants as events
use Rattle.yaml_small.specs.Trees.{Tree, Leaf, Seq, Map, Trees, none, more, Pairs, no_pairs, pair, scalar_event, emitted, each_emitted, pairs_emitted}

behind_one : (e d : Event) (es fs : List Event) → e ∷ es ≡ d ∷ fs → es ≡ fs
behind_one e d es fs h = cc

mutual
  pub tails : (t u : Tree) (es fs : List Event) → emitted t es ≡ emitted u fs → es ≡ fs
  tails (Leaf s) (Leaf r) es fs h = behind_one (scalar_event s) (scalar_event r) es fs h
  tails (Leaf s) (Seq us) es fs h = absurd cc
  tails (Leaf s) (Map qs) es fs h = absurd cc
  tails (Seq ts) (Leaf r) es fs h = absurd cc
  tails (Seq ts) (Seq us) es fs h = each_tails ts us es fs (behind_one events.SequenceStart events.SequenceStart _ _ h)
  tails (Seq ts) (Map qs) es fs h = absurd cc
  tails (Map ps) (Leaf r) es fs h = absurd cc
  tails (Map ps) (Seq us) es fs h = absurd cc
  tails (Map ps) (Map qs) es fs h = pairs_tails ps qs es fs (behind_one events.MappingStart events.MappingStart _ _ h)

  each_tails : (ts us : Trees) (es fs : List Event) → each_emitted ts (events.SequenceEnd ∷ es) ≡ each_emitted us (events.SequenceEnd ∷ fs) → es ≡ fs
  each_tails none none es fs h = behind_one events.SequenceEnd events.SequenceEnd es fs h
  each_tails none (more (Leaf r) us) es fs h = absurd cc
  each_tails none (more (Seq vs) us) es fs h = absurd cc
  each_tails none (more (Map qs) us) es fs h = absurd cc
  each_tails (more (Leaf s) ts) none es fs h = absurd cc
  each_tails (more (Seq vs) ts) none es fs h = absurd cc
  each_tails (more (Map qs) ts) none es fs h = absurd cc
  each_tails (more t ts) (more u us) es fs h = each_tails ts us es fs (tails t u (each_emitted ts (events.SequenceEnd ∷ es)) (each_emitted us (events.SequenceEnd ∷ fs)) h)

  pairs_tails : (ps qs : Pairs) (es fs : List Event) → pairs_emitted ps (events.MappingEnd ∷ es) ≡ pairs_emitted qs (events.MappingEnd ∷ fs) → es ≡ fs
  pairs_tails no_pairs no_pairs es fs h = behind_one events.MappingEnd events.MappingEnd es fs h
  pairs_tails no_pairs (pair key t qs) es fs h = absurd cc
  pairs_tails (pair key t ps) no_pairs es fs h = absurd cc
  pairs_tails (pair key t ps) (pair other u qs) es fs h =
      pairs_tails ps qs es fs (tails t u (pairs_emitted ps (events.MappingEnd ∷ es)) (pairs_emitted qs (events.MappingEnd ∷ fs)) (behind_one (scalar_event key) (scalar_event other) _ _ h))
