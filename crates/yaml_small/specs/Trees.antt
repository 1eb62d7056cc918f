-- What a YAML document stands for: a tree of lists, maps with every pair, repeated keys too, and scalars, each
-- with its text and style; and the events that tell it (YAML 1.2.2, sections 3.1.1 and 3.2).
use Rattle.std.specs.Prelude.{ℕ, zero, suc, max, List, [], ◌∷◌, codes, Option, Some, None}
use Rattle.yaml_small.specs.declared.event.Event.{Event}
use Rattle.yaml_small.specs.declared.event.Event.TheVariants as events
use Rattle.yaml_small.specs.declared.event.Style.{Style}
use Rattle.yaml_small.specs.declared.event.Style.TheVariants as styles

pub record Scalar : Type 0 where
  pub text : List ℕ
  pub style : Style

mutual
  pub data Tree : Type 0 where
    Leaf : Scalar → Tree
    Seq : Trees → Tree
    Map : Pairs → Tree

  pub data Trees : Type 0 where
    none : Trees
    more : Tree → Trees → Trees

  pub data Pairs : Type 0 where
    no_pairs : Pairs
    pair : Scalar → Tree → Pairs → Pairs

-- what stands for a node that is missing: the plain scalar ~
abbrev pub tilde : Scalar
tilde = record { text = codes "~"; style = styles.Plain }

abbrev pub missing : Tree
missing = Leaf tilde

abbrev pub scalar_event : Scalar → Event
scalar_event s = events.Scalar s.text s.style

-- how deep lists and maps are nested
abbrev mutual
  pub depth : Tree → ℕ
  depth (Leaf s) = 0
  depth (Seq ts) = suc (depths ts)
  depth (Map ps) = suc (pair_depths ps)

  pub depths : Trees → ℕ
  depths none = 0
  depths (more t ts) = max (depth t) (depths ts)

  pub pair_depths : Pairs → ℕ
  pair_depths no_pairs = 0
  pair_depths (pair key t ps) = max (depth t) (pair_depths ps)

-- the events of a tree, in front of those that follow
abbrev mutual
  pub emitted : Tree → List Event → List Event
  emitted (Leaf s) es = scalar_event s ∷ es
  emitted (Seq ts) es = events.SequenceStart ∷ each_emitted ts (events.SequenceEnd ∷ es)
  emitted (Map ps) es = events.MappingStart ∷ pairs_emitted ps (events.MappingEnd ∷ es)

  pub each_emitted : Trees → List Event → List Event
  each_emitted none es = es
  each_emitted (more t ts) es = emitted t (each_emitted ts es)

  pub pairs_emitted : Pairs → List Event → List Event
  pairs_emitted no_pairs es = es
  pairs_emitted (pair key t ps) es = scalar_event key ∷ emitted t (pairs_emitted ps es)

-- the events of a stream of one document, or of none, in front of those that follow
abbrev pub stream_emitted : Option Tree → List Event → List Event
stream_emitted None es = events.StreamStart ∷ events.StreamEnd ∷ es
stream_emitted (Some t) es =
    events.StreamStart ∷ events.DocumentStart ∷ emitted t (events.DocumentEnd ∷ events.StreamEnd ∷ es)

-- the stream's end, emitted n times more
abbrev pub ends_again : ℕ → List Event
ends_again zero = []
ends_again (suc n) = events.StreamEnd ∷ ends_again n
