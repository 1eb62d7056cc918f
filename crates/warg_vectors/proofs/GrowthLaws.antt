-- Growths of registries in order.
use Rattle.std.proofs.Common.{◌≡◌, ◌<◌, ◌+◌, ◌∷◌, ◌++◌, [], ℕ, suc, List, Some, refl, sym, ◌∙◌, ap, subst, length, map, set, append_assoc, append-nil, arith}
use Rattle.std.specs.Prelude.{slice_get, option_map}
use Rattle.std.specs.List.{AllByRecursion}
use Rattle.std.proofs.lemmas.List.{map-set, length-map, length-append}
use Rattle.std.proofs.lemmas.Option.{same_Some, slice_get-map}
use Rattle.warg_model.specs.Growths.{IsGrowthOf}
use Rattle.warg_model.specs.declared.growth.Growth.{Growth}
use Rattle.warg_vectors.specs.World.{Named, AreGrowthsOf, grown_one}
use Rattle.warg_vectors.specs.State.{named_view, IsSoundNamed}
use Rattle.warg_vectors.specs.declared.registry.NamedRegistry.{NamedRegistry}
use Rattle.warg_vectors.proofs.ListLaws.{all-set, all-at}

pub growths-more : (rs : List Named) (gs : List Growth) (r : Named) (g : Growth) → AreGrowthsOf rs gs → IsGrowthOf r.held g → AreGrowthsOf (rs ++ r ∷ []) (gs ++ g ∷ [])
growths-more [] [] r g all is = (is, tt)
growths-more [] (h ∷ gs) r g all is = absurd all
growths-more (x ∷ rs) [] r g all is = absurd all
growths-more (x ∷ rs) (h ∷ gs) r g all is = (all.0, growths-more rs gs r g all.1 is)

-- the last growth is that of the last registry
record HasLast (rs : List Named) (gs : List Growth) (g : Growth) : Type 0 where
  front : List Named
  last : Named
  are : rs ≡ front ++ last ∷ []
  growths : AreGrowthsOf front gs
  grows : IsGrowthOf last.held g
  count : length front ≡ length gs

growth-last : (rs : List Named) (gs : List Growth) (g : Growth) → AreGrowthsOf rs (gs ++ g ∷ []) → HasLast rs gs g
growth-last [] [] g all = absurd all
growth-last [] (h ∷ gs) g all = absurd all
growth-last (r ∷ []) [] g all = record { front = []; last = r; are = refl; growths = tt; grows = all.0; count = refl }
growth-last (r ∷ x ∷ rs) [] g all = absurd all.1
growth-last (r ∷ rs) (h ∷ gs) g all =
    let l = growth-last rs gs g all.1 in
    record {
      front = r ∷ l.front;
      last = l.last;
      are = ap (λ (xs : List Named). r ∷ xs) l.are;
      growths = (all.0, l.growths);
      grows = l.grows;
      count = ap suc l.count;
    }

-- the registries behind those whose growths are left have taken up theirs
pub record AreTakenUp (old new : List NamedRegistry) (left : List Growth) : Type 0 where
  pub front : List Named
  pub back : List Named
  pub were : map named_view old ≡ front ++ back
  pub are : map named_view new ≡ front ++ map grown_one back
  pub growths : AreGrowthsOf front left
  pub sound : AllByRecursion IsSoundNamed old → AllByRecursion IsSoundNamed new

pub none-taken-up : (old : List NamedRegistry) (growths : List Growth) → AreGrowthsOf (map named_view old) growths → AreTakenUp old old growths
none-taken-up old growths all = record {
  front = map named_view old;
  back = [];
  were = sym (append-nil (map named_view old));
  are = sym (append-nil (map named_view old));
  growths = all;
  sound = λ is. is;
}

-- the item at the end of a front
item-there : {X : Type 0} (xs ys : List X) (y : X) → slice_get (xs ++ y ∷ ys) (length xs) ≡ Some y
item-there [] ys y = refl
item-there (x ∷ xs) ys y = item-there xs ys y

set-there : {X : Type 0} (xs ys : List X) (y z : X) → set (xs ++ y ∷ ys) (length xs) z ≡ xs ++ z ∷ ys
set-there [] ys y z = refl
set-there {X = X} (x ∷ xs) ys y z = ap (λ (l : List X). x ∷ l) (set-there xs ys y z)

-- the last registry whose growth is left
taken-up-seen : (old new : List NamedRegistry) (gs : List Growth) (g : Growth) (t : AreTakenUp old new (gs ++ g ∷ [])) (l : HasLast t.front gs g) → map named_view new ≡ l.front ++ l.last ∷ map grown_one t.back
taken-up-seen old new gs g t l = t.are ∙ ap (λ (xs : List Named). xs ++ map grown_one t.back) l.are ∙ append_assoc l.front (l.last ∷ []) (map grown_one t.back)

pub taken-up-below : (old new : List NamedRegistry) (gs : List Growth) (g : Growth) → AreTakenUp old new (gs ++ g ∷ []) → length gs < length new
taken-up-below old new gs g t =
    let l = growth-last t.front gs g t.growths in
    let long : length new ≡ length l.front + suc (length (map grown_one t.back)) =
    sym (length-map new named_view) ∙ ap length (taken-up-seen old new gs g t l) ∙ length-append l.front (l.last ∷ map grown_one t.back) in
    omega (arith, long, l.count)

-- the next one has a place among the registries
pub next-below : (old new : List NamedRegistry) (all gs : List Growth) (g : Growth) → all ≡ gs ++ g ∷ [] → AreTakenUp old new all → length gs < length new
next-below old new all gs g is t = taken-up-below old new gs g (subst (AreTakenUp old new) is t)

pub one-more-taken-up : (old new : List NamedRegistry) (gs : List Growth) (g : Growth) (p q : NamedRegistry) → AreTakenUp old new (gs ++ g ∷ []) → slice_get new (length gs) ≡ Some p
    → (IsGrowthOf (named_view p).held g → named_view q ≡ grown_one (named_view p)) → (IsGrowthOf (named_view p).held g → IsSoundNamed p → IsSoundNamed q)
    → AreTakenUp old (set new (length gs) q) gs
one-more-taken-up old new gs g p q t there grown sound =
    let l = growth-last t.front gs g t.growths in
    let seen = taken-up-seen old new gs g t l in
    let at : slice_get (map named_view new) (length gs) ≡ Some l.last =
    ap (λ (xs : List Named). slice_get xs (length gs)) seen ∙ ap (slice_get (l.front ++ l.last ∷ map grown_one t.back)) (sym l.count) ∙ item-there l.front (map grown_one t.back) l.last in
    let one : named_view p ≡ l.last = same_Some (named_view p) l.last (sym (slice_get-map named_view new (length gs) ∙ ap (option_map named_view) there) ∙ at) in
    let grows : IsGrowthOf (named_view p).held g = subst (λ (r : Named). IsGrowthOf r.held g) (sym one) l.grows in
    record {
      front = l.front;
      back = l.last ∷ t.back;
      were = t.were ∙ ap (λ (xs : List Named). xs ++ t.back) l.are ∙ append_assoc l.front (l.last ∷ []) t.back;
      are = map-set named_view new (length gs) q
          ∙ ap (set (map named_view new) (length gs)) (grown grows ∙ ap grown_one one)
          ∙ ap (λ (xs : List Named). set xs (length gs) (grown_one l.last)) seen
          ∙ ap (λ (n : ℕ). set (l.front ++ l.last ∷ map grown_one t.back) n (grown_one l.last)) (sym l.count)
          ∙ set-there l.front (map grown_one t.back) l.last (grown_one l.last);
      growths = l.growths;
      sound = λ all. let now = t.sound all in all-set IsSoundNamed new (length gs) q now (sound grows (all-at IsSoundNamed new (length gs) p now there));
    }

-- where none is left, each has taken up its growth
pub all-taken-up : (old new : List NamedRegistry) → AreTakenUp old new [] → map named_view new ≡ map grown_one (map named_view old)
all-taken-up old new t =
    let none = none-in-front t.front t.growths in
    t.are ∙ ap (λ (xs : List Named). xs ++ map grown_one t.back) none ∙ ap (map grown_one) (sym (t.were ∙ ap (λ (xs : List Named). xs ++ t.back) none))
  where
    none-in-front : (front : List Named) → AreGrowthsOf front [] → front ≡ []
    none-in-front [] all = refl
    none-in-front (r ∷ front) all = absurd all
