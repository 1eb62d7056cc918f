-- What holds of each import of each instance, and is kept where numbers are placed and where needs are merged, holds of
-- all that is left open.
use Rattle.std.proofs.Common.{ℕ, suc, Bool, true, false, cond, List, [], ◌∷◌}
use Rattle.std.specs.Prelude.{bytes_eq, is_none}
use Rattle.std.specs.List.{AllByRecursion, fold}
use Rattle.comp_entity.specs.Entity.{EntityTree, ShapeTree}
use Rattle.compose_left.specs.Merging.{union}
use Rattle.compose_left.specs.Origins.{placed}
use Rattle.compose_left.specs.Wiring.{Wiring, wire_into}
use Rattle.compose_order.specs.Needs.{LeftTree}
use Rattle.compose_check.specs.Open.{Asked, asked_by, asked_by_all, asked_from, left_open, lefts, merged_with, with_asked}
use Rattle.compose_settled.proofs.Settling.{front_and_behind}

module _ (P : EntityTree → Type 0) (w : Wiring) (is_placed : (i : ℕ) (e : EntityTree) → P e → P (placed w i e)) (is_merged : (e f : EntityTree) → P e → P f → P (union e f)) where
  abbrev Holds : Asked → Type 0
  Holds x = P x.1

  abbrev pub HoldsOf : LeftTree → Type 0
  HoldsOf l = P l.entity

  import_keeps : (i j : ℕ) (e : Asked) → P e.1 → AllByRecursion Holds (asked_by w i j e)
  import_keeps i j e h = by (is_none (wire_into w.wires i j))
    where
      by : (b : Bool) → AllByRecursion Holds (cond b ((e.0, placed w i e.1) ∷ []) [])
      by true = (is_placed i e.1 h, tt)
      by false = tt

  instance_keeps : (i j : ℕ) (es : List Asked) → AllByRecursion Holds es → AllByRecursion Holds (asked_from w i j es)
  instance_keeps i j [] h = tt
  instance_keeps i j (e ∷ es) h = front_and_behind Holds (asked_by w i j e) (asked_from w i (suc j) es) (import_keeps i j e h.0) (instance_keeps i (suc j) es h.1)

  all_keep : (i : ℕ) (ss : List ShapeTree) → AllByRecursion (λ (s : ShapeTree). AllByRecursion Holds s.imports) ss → AllByRecursion Holds (asked_by_all w i ss)
  all_keep i [] h = tt
  all_keep i (s ∷ ss) h = front_and_behind Holds (asked_from w i 0 s.imports) (asked_by_all w (suc i) ss) (instance_keeps i 0 s.imports h.0) (all_keep (suc i) ss h.1)

  asked_keeps : (ls : List LeftTree) (x : Asked) → AllByRecursion HoldsOf ls → P x.1 → AllByRecursion HoldsOf (with_asked ls x)
  asked_keeps [] x h k = (k, tt)
  asked_keeps (l ∷ ls) x h k = by (bytes_eq x.0 l.name) (asked_keeps ls x h.1 k)
    where
      by : (b : Bool) → AllByRecursion HoldsOf (with_asked ls x) → AllByRecursion HoldsOf (cond b (merged_with l x.1 ∷ ls) (l ∷ with_asked ls x))
      by true rest = (is_merged l.entity x.1 h.0 k, h.1)
      by false rest = (h.0, rest)

  merged_keeps : (xs : List Asked) (ls : List LeftTree) → AllByRecursion HoldsOf ls → AllByRecursion Holds xs → AllByRecursion HoldsOf (fold with_asked ls xs)
  merged_keeps [] ls h k = h
  merged_keeps (x ∷ xs) ls h k = merged_keeps xs (with_asked ls x) (asked_keeps ls x h k.0) k.1

  pub lefts_keep : AllByRecursion (λ (s : ShapeTree). AllByRecursion Holds s.imports) w.shapes → AllByRecursion HoldsOf (lefts w)
  lefts_keep h = merged_keeps (left_open w) [] tt (all_keep 0 w.shapes h)
