-- What the walk finds is a plan, and where there is one, the walk refuses nothing.
use Rattle.std.proofs.Common.{◌≡◌, ℕ, ◌≤◌, Bool, true, false, ◌||◌, List, [], ◌∷◌, ◌++◌, length, Ok, Err, refl, ap, ◌∙◌, inl, inr}
use Rattle.std.specs.Prelude.{◌⊎◌}
use Rattle.compose_config.specs.Plan.{Settings}
use Rattle.warg_plan.specs.Keys.{Key, same_key}
use Rattle.warg_plan.specs.Walk.{Facts, Stop, Entry, keys, has_key, node_of, walk}
use Rattle.warg_plan.specs.Plan.{EachAfter, IsPlan, post, post_all, taken_by}
use Rattle.warg_plan.specs.Known.{Extends, IsNeed, IsBelow}
use Rattle.warg_plan.specs.KeyLaws.{same_itself}
use Rattle.warg_plan.specs.WalkLaws.{walk_each}
use Rattle.warg_plan.specs.OrderLaws.{walk_in_order}
use Rattle.warg_plan.specs.EntryLaws.{each_in_words, each_from_words}
use Rattle.warg_plan.specs.FactLaws.{node_below, visit_below}
use Rattle.warg_plan.specs.GoesOnLaws.{plan_walks, walk_goes_on}

-- what the walk finds is a plan
pub walk_is_plan : (s : Settings) (f : Facts) (n : ℕ) (root : Key) (es : List Entry) → walk (node_of s f) n root ≡ Ok es → IsPlan s f root es
walk_is_plan s f n root es e = record {
  each = each_in_words s f [] es (walk_each (node_of s f) n root es e);
  in_order = walk_in_order (node_of s f) n root es e;
}

-- over more that is known the walk answers the same, or it asked first for something that is known then
pub walk_below : (s : Settings) (less more : Facts) → Extends less more → (n : ℕ) (root : Key) → IsBelow more (walk (node_of s less) n root) (walk (node_of s more) n root)
walk_below s less more ext n root = visit_below more (node_of s less) (node_of s more) (node_below s less more ext) n [] [] root

last_there : (ks : List Key) (k : Key) → has_key (ks ++ k ∷ []) k ≡ true
last_there [] k = ap (λ b. b || false) (same_itself k)
last_there (j ∷ ks) k = by (same_key k j) (last_there ks k)
  where
    by : (b : Bool) → has_key (ks ++ k ∷ []) k ≡ true → (b || has_key (ks ++ k ∷ []) k) ≡ true
    by true h = refl
    by false h = h

-- a plan has its root
pub root_there : (s : Settings) (f : Facts) (root : Key) (es : List Entry) → IsPlan s f root es → has_key (keys es) root ≡ true
unfolding post
root_there s f root es plan = ap (λ l. has_key l root) plan.in_order ∙ last_there (post_all (post (taken_by es es) (length es)) (taken_by es es root) []) root

-- Where there is a plan, the walk over some of what is known finds one, or asks for something that is known.
pub plan_found : (s : Settings) (less more : Facts) → Extends less more → (root : Key) (es : List Entry) → IsPlan s more root es → (n : ℕ) → length es ≤ n
    → ((found : List Entry) × (walk (node_of s less) n root ≡ Ok found) × (walk (node_of s more) n root ≡ Ok found)) ⊎ ((stop : Stop) × (walk (node_of s less) n root ≡ Err stop) × IsNeed more stop)
unfolding EachAfter
plan_found s less more ext root es plan n le =
    let v = plan_walks (node_of s more) root es (each_from_words s more [] es (record {}) plan.each) (root_there s more root es plan) n le in
    by v.0 v.1 (walk_goes_on s less more ext n root v.0 v.1)
  where
    by : (found : List Entry) → walk (node_of s more) n root ≡ Ok found → (walk (node_of s less) n root ≡ Ok found) ⊎ ((stop : Stop) × (walk (node_of s less) n root ≡ Err stop) × IsNeed more stop)
        → ((found : List Entry) × (walk (node_of s less) n root ≡ Ok found) × (walk (node_of s more) n root ≡ Ok found)) ⊎ ((stop : Stop) × (walk (node_of s less) n root ≡ Err stop) × IsNeed more stop)
    by found is (inl e) = inl (found, e, is)
    by found is (inr e) = inr e
