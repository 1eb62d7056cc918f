-- Runs of trees, one behind the other.
use Rattle.std.proofs.Common.{◌≡◌, List, [], ◌∷◌, ◌++◌, false, Ok, refl, sym, ap, ◌∙◌, subst}
use Rattle.yaml_small.specs.declared.event.Event.{Event}
use Rattle.yaml_small.specs.declared.event.Event.TheVariants as events
use Rattle.yaml_small.specs.Trees.{Tree, Leaf, Seq, Map, Trees, none, more, Pairs, no_pairs, pair, scalar_event, emitted, each_emitted, pairs_emitted}
use Rattle.yaml_small.specs.Stream.{State, next, Runs}
use Rattle.yaml_read.specs.declared.bracket.Bracket.TheVariants as brackets
use Rattle.yaml_read.specs.Collections.{is_bracket, is_stream_end}

mutual
  emitted_front : (t : Tree) (es fs : List Event) → emitted t (es ++ fs) ≡ emitted t es ++ fs
  emitted_front (Leaf s) es fs = refl
  emitted_front (Seq ts) es fs = ap (λ (x : List Event). events.SequenceStart ∷ x) (each_front ts (events.SequenceEnd ∷ es) fs)
  emitted_front (Map ps) es fs = ap (λ (x : List Event). events.MappingStart ∷ x) (pairs_front ps (events.MappingEnd ∷ es) fs)

  each_front : (ts : Trees) (es fs : List Event) → each_emitted ts (es ++ fs) ≡ each_emitted ts es ++ fs
  each_front none es fs = refl
  each_front (more t ts) es fs = ap (emitted t) (each_front ts es fs) ∙ emitted_front t (each_emitted ts es) fs

  pairs_front : (ps : Pairs) (es fs : List Event) → pairs_emitted ps (es ++ fs) ≡ pairs_emitted ps es ++ fs
  pairs_front no_pairs es fs = refl
  pairs_front (pair key t ps) es fs =
      ap (λ (x : List Event). scalar_event key ∷ x) (ap (emitted t) (pairs_front ps es fs) ∙ emitted_front t (pairs_emitted ps es) fs)

runs_join : (s : State) (es : List Event) (m : State) (fs : List Event) (z : State) → Runs s es m → Runs m fs z → Runs s (es ++ fs) z
runs_join s [] m fs z a b = subst (λ (x : State). Runs x fs z) (sym a) b
runs_join s (e ∷ es) m fs z a b = (a.0, a.1, runs_join a.0 es m fs z a.2 b)

runs_cut : (s : State) (es fs : List Event) (z : State) → Runs s (es ++ fs) z → (m : State) × Runs s es m × Runs m fs z
runs_cut s [] fs z a = (s, refl, a)
runs_cut s (e ∷ es) fs z a = let b = runs_cut a.0 es fs z a.2 in (b.0, (a.0, a.1, b.1), b.2)

-- a tree and what follows it
pub emitted_join : (s : State) (t : Tree) (m : State) (es : List Event) (z : State) → Runs s (emitted t []) m → Runs m es z → Runs s (emitted t es) z
emitted_join s t m es z a b = subst (λ (x : List Event). Runs s x z) (sym (emitted_front t [] es)) (runs_join s (emitted t []) m es z a b)

pub emitted_cut : (s : State) (t : Tree) (es : List Event) (z : State) → Runs s (emitted t es) z → (m : State) × Runs s (emitted t []) m × Runs m es z
emitted_cut s t es z a = runs_cut s (emitted t []) es z (subst (λ (x : List Event). Runs s x z) (emitted_front t [] es) a)

-- the first event of a tree, which ends nothing
pub record Begins (s : State) : Type 0 where
  pub event : Event
  pub behind : State
  pub here : next s ≡ Ok (event, behind)
  pub continues : is_stream_end event ≡ false
  pub list : is_bracket brackets.ListEnd event ≡ false
  pub map : is_bracket brackets.MapEnd event ≡ false

pub begins_of : (s : State) (t : Tree) (es : List Event) (z : State) → Runs s (emitted t es) z → Begins s
begins_of s (Leaf sc) es z a = record { event = scalar_event sc; behind = a.0; here = a.1; continues = refl; list = refl; map = refl }
begins_of s (Seq ts) es z a = record { event = events.SequenceStart; behind = a.0; here = a.1; continues = refl; list = refl; map = refl }
begins_of s (Map ps) es z a = record { event = events.MappingStart; behind = a.0; here = a.1; continues = refl; list = refl; map = refl }
