-- Laws of exports by number, and of the first under each name, as far as a loop has come.
use Rattle.std.specs.Prelude.{◌≡◌, ℕ, zero, suc, ◌+◌, ◌<◌, Bool, true, false, List, [], ◌∷◌, map, drop, length, slice_index_or, Option, Some, None, refl, cond}
use Rattle.std.specs.BTreeMap.{BTreeMap, get, Updates, is_at}
use Rattle.std.specs.Cmp.Lexicographic.{slice_cmp, nat_list_eq_equiv}
use Rattle.std.specs.Map.{lookup}
use Rattle.std.specs.Option.{option_map_or}
use Rattle.std.specs.Ordering.{nat_cmp}
use Rattle.std.specs.Str.{bytes_eq}
use Rattle.std.proofs.Common.{sym, ◌∙◌, ap, subst, arith}
use Rattle.std.proofs.lemmas.Map.Text.{is_eq-slice_cmp}
use Rattle.comp_entity.specs.Entity.{EntityTree, Entries, no_entry, entry}
use Rattle.comp_entity.specs.Fits.{fits_with, same_name, under}
use Rattle.comp_fit.specs.Known.{IsUnder, AreNames}
use Rattle.comp_table.specs.declared.head.Head.TheVariants as head
use Rattle.comp_table.specs.Codes.{first_tree}
use Rattle.comp_table.specs.Plain.{around, plain_entity, plain_entries}
use Rattle.comp_table.specs.Trees.{PlainTree, PlainTrees, none, more, tree_at, trees_of, Stands}

unfoldable pub other_trees : PlainTrees → PlainTrees
other_trees none = none
other_trees (more t ts) = ts

-- numbers of which the first stands for an entry
pub record IsNext (ts : List PlainTree) (p : ℕ) (ps : List ℕ) (es : Entries) : Type 0 where
  pub name : List ℕ
  pub mark : Bool
  pub item : EntityTree
  pub rest : Entries
  pub is : es ≡ entry name item mark rest
  pub here : tree_at ts p ≡ around (head.Entry mark name) (plain_entity item)
  pub later : trees_of (map (tree_at ts) ps) ≡ plain_entries rest

module _ (ts : List PlainTree) where
  pub next : (p : ℕ) (ps : List ℕ) (es : Entries) → trees_of (map (tree_at ts) (p ∷ ps)) ≡ plain_entries es → IsNext ts p ps es
  unfolding other_trees
  next p ps no_entry e = absurd cc
  next p ps (entry name item mark rest) e = record { name = name; mark = mark; item = item; rest = rest; is = refl; here = ap first_tree e; later = ap other_trees e }

  pub none_left : (es : Entries) → none ≡ plain_entries es → es ≡ no_entry
  none_left no_entry e = refl
  none_left (entry name item mark rest) e = absurd cc

  pub found_is : (n : ℕ) (u : Option (EntityTree × Bool)) → IsUnder ts (Some n) u → (e : EntityTree) × Stands ts n (plain_entity e)
  found_is n None h = absurd h
  found_is n (Some e) h = (e.0, h)

  -- an entry among some numbers
  pub entry_among : (ps : List ℕ) (es : Entries) (i d : ℕ) → i < length ps → trees_of (map (tree_at ts) ps) ≡ plain_entries es → (name : List ℕ) × (mark : Bool) × (t : PlainTree) × (tree_at ts (slice_index_or ps i d) ≡ around (head.Entry mark name) t)
  entry_among [] es i d lt e = absurd (omega (arith, lt))
  entry_among (p ∷ ps) es zero d lt e = let x = next p ps es e in (x.name, x.mark, plain_entity x.item, x.here)
  entry_among (p ∷ ps) es (suc i) d lt e = let x = next p ps es e in entry_among ps x.rest i d (omega (arith, lt)) x.later

dropped_at : (ps : List ℕ) (i d : ℕ) → i < length ps → drop i ps ≡ slice_index_or ps i d ∷ drop (suc i) ps
dropped_at [] i d lt = absurd (omega (arith, lt))
dropped_at (p ∷ ps) zero d lt = refl
dropped_at (p ∷ ps) (suc i) d lt = dropped_at ps i d (omega (arith, lt))

pub dropped : (ps : List ℕ) (i d : ℕ) → i < length ps → drop i ps ≡ slice_index_or ps i d ∷ drop (i + 1) ps
dropped ps i d lt = let later : suc i ≡ i + 1 = omega arith in dropped_at ps i d lt ∙ ap (λ j. slice_index_or ps i d ∷ drop j ps) later

pub nothing_left : (ps : List ℕ) (i : ℕ) → i ≡ length ps → drop i ps ≡ []
nothing_left [] zero e = refl
nothing_left [] (suc i) e = absurd (omega (arith, e))
nothing_left (p ∷ ps) zero e = absurd (omega (arith, e))
nothing_left (p ∷ ps) (suc i) e = nothing_left ps i (omega (arith, e))
