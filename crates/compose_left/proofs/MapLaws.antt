-- Maps that are filled from the last item of a list to the first find the first one.
use Rattle.std.proofs.Common.{◌≡◌, Bool, true, false, cond, List, [], ◌∷◌, ◌++◌, Option, Some, None, refl, sym, ap, ◌∙◌}
use Rattle.std.specs.Prelude.{find, option_map}
use Rattle.std.specs.Option.{option_or}
use Rattle.std.specs.BTreeMap.{BTreeMap, get}
use Rattle.std.specs.Cmp.{both_tied, unsigned_ties}
use Rattle.std.specs.Cmp.Lexicographic.{slice_cmp, lists_ties, texts_ties}
use Rattle.std.specs.Ordering.{nat_cmp, bool_cmp, ordering_then, is_eq}
use Rattle.std.specs.declared.cmp.Ordering.{Ordering}
use Rattle.std.proofs.lemmas.List.Folds.{find-append}
use Rattle.comp_entity.specs.Fits.{same_truth}
use Rattle.compose_left.specs.declared.spots.Thing.{Thing}
use Rattle.compose_left.specs.declared.spots.Spot.{Spot}
use Rattle.compose_left.specs.declared.places.Place.{Place}
use Rattle.compose_left.specs.Origins.{same_thing, is_exported_at}
use Rattle.compose_left.specs.declared.wiring.Input.{Input}
use Rattle.compose_left.specs.declared.wiring.Wire.{Wire}
use Rattle.compose_left.specs.Wiring.{is_into}
use Rattle.compose_left.specs.Wired.{thing_cmp, place_cmp, input_cmp}

or_one : {X Y : Type 0} (f : X → Y) (a : Option X) (b : Bool) (x : X) (old : Option Y) → option_or (option_map f a) (cond b (Some (f x)) old) ≡ option_or (option_map f (option_or a (cond b (Some x) None))) old
or_one f None true x old = refl
or_one f None false x old = refl
or_one f (Some y) b x old = refl

module _ {X Y K : Type 0} (cmp : K → K → Ordering) (f : X → Y) (p : X → Bool) (q : K) where
  -- the last item has gone into the map
  pub gone_in : (all rest : List X) (x : X) (k : K) (old new : BTreeMap K Y) → all ≡ rest ++ x ∷ [] → p x ≡ is_eq (cmp k q) → get cmp new q ≡ cond (is_eq (cmp k q)) (Some (f x)) (get cmp old q)
      → option_or (option_map f (find p rest)) (get cmp new q) ≡ option_or (option_map f (find p all)) (get cmp old q)
  gone_in all rest x k old new is same n =
      ap (λ (o : Option Y). option_or (option_map f (find p rest)) o) (n ∙ ap (λ (b : Bool). cond b (Some (f x)) (get cmp old q)) (sym same))
      ∙ or_one f (find p rest) (p x) x (get cmp old q)
      ∙ ap (λ (o : Option X). option_or (option_map f o) (get cmp old q)) (sym (find-append p rest (x ∷ [])) ∙ ap (λ (xs : List X). find p xs) (sym is))

pub truth_ties : (a b : Bool) → same_truth a b ≡ is_eq (bool_cmp a b)
truth_ties true true = refl
truth_ties true false = refl
truth_ties false true = refl
truth_ties false false = refl

pub thing_ties : (a b : Thing) → same_thing a b ≡ is_eq (thing_cmp a b)
thing_ties a b =
    both_tied _ _ (bool_cmp a.is_type b.is_type) (ordering_then (nat_cmp a.out b.out) (nat_cmp a.number b.number)) (truth_ties a.is_type b.is_type)
    (both_tied _ _ (nat_cmp a.out b.out) (nat_cmp a.number b.number) (unsigned_ties a.out b.out) (unsigned_ties a.number b.number))

pub place_ties : (s : Spot) (k p : Place) → k ≡ record { is_type = s.what.is_type; path = s.name ∷ s.path } → is_exported_at p.is_type p.path s ≡ is_eq (place_cmp k p)
place_ties s k p e =
    both_tied _ _ (bool_cmp s.what.is_type p.is_type) (slice_cmp (slice_cmp nat_cmp) (s.name ∷ s.path) p.path) (truth_ties s.what.is_type p.is_type) (lists_ties (slice_cmp nat_cmp) texts_ties (s.name ∷ s.path) p.path)
    ∙ ap (λ (j : Place). is_eq (place_cmp j p)) (sym e)

pub map_same : {X : Type 0} (o : Option X) → option_map (λ (x : X). x) o ≡ o
map_same None = refl
map_same (Some x) = refl

pub input_ties : (x : Wire) (q : Input) → is_into q.target q.import x ≡ is_eq (input_cmp (record { target = x.target; import = x.import }) q)
input_ties x q = both_tied _ _ (nat_cmp x.target q.target) (nat_cmp x.import q.import) (unsigned_ties x.target q.target) (unsigned_ties x.import q.import)
