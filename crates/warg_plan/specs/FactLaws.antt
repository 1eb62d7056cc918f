-- A walk over more that is known goes the same way, or goes on where something was asked for.
use Rattle.std.proofs.Common.{◌≡◌, ℕ, zero, suc, Bool, true, false, cond, List, [], ◌∷◌, bytes_eq, Option, Some, None, Result, Ok, Err, refl, sym, ap, subst, ◌∙◌, inl, inr}
use Rattle.std.specs.Map.{lookup}
use Rattle.indexmap.specs.IndexMap.{insert_entry}
use Rattle.warg_values.specs.Reading.{◌>>=◌}
use Rattle.warg_values.specs.ReadingLaws.{never}
use Rattle.compose_config.specs.Plan.{Settings}
use Rattle.warg_plan.specs.Keys.{Key, Release, asked, choice_for}
use Rattle.warg_plan.specs.Walk.{Facts, Content, Stop, NeedsLog, NeedsContent, NoPackage, NoRelease, Cycle, Wire, Open, To, Node, Entry, keys, has_key, or_stop, log_in, content_in, node_of, along_one, along, visit}
use Rattle.warg_plan.specs.Known.{IsNeed, IsBelow, Extends, with_log, with_content}

module _ {X Y : Type 0} (all : Facts) where
  bind_below : (r q : Result X Stop) (h k : X → Result Y Stop) → IsBelow all r q → ((x : X) → IsBelow all (h x) (k x)) → IsBelow all (r >>= h) (q >>= k)
  bind_below r q h k (inr e) f = inr (e.0, ap (λ o. o >>= h) e.1, e.2)
  bind_below r q h k (inl e) f = by r e
    where
      by : (r : Result X Stop) → r ≡ q → IsBelow all (r >>= h) (q >>= k)
      by (Ok x) e = subst (λ o. IsBelow all (h x) (o >>= k)) e (f x)
      by (Err s) e = subst (λ o. IsBelow all (Err s) (o >>= k)) e (inl refl)

-- what is found of what is known is found of more
need_below : {X : Type 0} (all : Facts) (s : Stop) (o p : Option X) → ((x : X) → p ≡ Some x → IsNeed all s) → ((x : X) → o ≡ Some x → p ≡ Some x) → IsBelow all (or_stop s o) (or_stop s p)
need_below all s None None need f = inl refl
need_below all s None (Some y) need f = inr (s, refl, need y refl)
need_below all s (Some x) p need f = inl (sym (ap (or_stop s) (f x refl)))

pub node_below : (s : Settings) (less more : Facts) → Extends less more → (k : Key) → IsBelow more (node_of s less k) (node_of s more k)
unfolding node_of
node_below s less more ext k =
    bind_below more (or_stop (NoPackage k) (asked s k)) (or_stop (NoPackage k) (asked s k)) _ _ (inl refl) (λ i.
    bind_below more _ _ _ _ (need_below more (NeedsLog i.name) (log_in less i.name) (log_in more i.name) (λ log is. (log, is)) (ext.logs i.name)) (λ log.
    bind_below more (or_stop (NoRelease i.name) (choice_for i log)) (or_stop (NoRelease i.name) (choice_for i log)) _ _ (inl refl) (λ r.
    bind_below more _ _ _ _ (need_below more (NeedsContent i.name r.1) (content_in less r.1) (content_in more r.1) (λ c is. (c, is)) (ext.contents r.1)) (λ c. inl refl))))

module _ (all : Facts) (f g : Key → Result Node Stop) (below : (k : Key) → IsBelow all (f k) (g k)) where
  one_below : (a b : List Entry → Key → Result (List Entry) Stop) → ((es : List Entry) (k : Key) → IsBelow all (a es k) (b es k)) → (es : List Entry) (w : Wire) → IsBelow all (along_one a es w) (along_one b es w)
  one_below a b law es Open = inl refl
  one_below a b law es (To k) = law es k

  along_below : (a b : List Entry → Key → Result (List Entry) Stop) → ((es : List Entry) (k : Key) → IsBelow all (a es k) (b es k)) → (ws : List (List ℕ × Wire)) (es : List Entry) → IsBelow all (along a es ws) (along b es ws)
  unfolding along
  along_below a b law [] es = inl refl
  along_below a b law (w ∷ ws) es = bind_below all _ _ _ _ (one_below a b law es w.1) (λ more. along_below a b law ws more)

  if_below : (b : Bool) (r p q : Result (List Entry) Stop) → IsBelow all p q → IsBelow all (cond b r p) (cond b r q)
  if_below true r p q h = inl refl
  if_below false r p q h = h

  pub visit_below : (n : ℕ) (path : List Key) (es : List Entry) (k : Key) → IsBelow all (visit f n path es k) (visit g n path es k)
  unfolding visit
  visit_below zero path es k = inl refl
  visit_below (suc n) path es k = if_below (has_key (keys es) k) (Ok es) _ _ (if_below (has_key path k) (Err (Cycle k)) _ _ (bind_below all (f k) (g k) _ _ (below k) (λ x.
      bind_below all _ _ _ _ (along_below (visit f n (k ∷ path)) (visit g n (k ∷ path)) (λ es k'. visit_below n (k ∷ path) es k') x.wires es) (λ more. inl refl))))

-- what the walk found, and what it refused, stays where more is known
pub found_stays : {X : Type 0} (all : Facts) (r q : Result X Stop) (x : X) → IsBelow all r q → r ≡ Ok x → q ≡ Ok x
found_stays all r q x (inl e) h = sym e ∙ h
found_stays all r q x (inr e) h = never e.0 x (sym e.1 ∙ h)

-- ---- what is known more

pub extends_itself : (f : Facts) → Extends f f
extends_itself f = record { logs = λ name log is. is; contents = λ digest c is. is }

pub extends_twice : (f g h : Facts) → Extends f g → Extends g h → Extends f h
extends_twice f g h a b = record {
  logs = λ name log is. b.logs name log (a.logs name log is);
  contents = λ digest c is. b.contents digest c (a.contents digest c is);
}

-- what is found among entries is found among them and a new one
found_with : {X : Type 0} (q k : List ℕ) (es : List (List ℕ × X)) (x y : X) → lookup (λ p. bytes_eq k p) es ≡ None → lookup (λ p. bytes_eq q p) es ≡ Some y → lookup (λ p. bytes_eq q p) (insert_entry bytes_eq es k x) ≡ Some y
found_with q k [] x y new is = absurd cc
found_with {X} q k (e ∷ es) x y new is = by (bytes_eq k e.0) new (found_with q k es x y)
  where
    behind : (there : Bool) → cond there (Some e.1) (lookup (λ p. bytes_eq q p) es) ≡ Some y → (lookup (λ p. bytes_eq q p) es ≡ Some y → lookup (λ p. bytes_eq q p) (insert_entry bytes_eq es k x) ≡ Some y)
        → cond there (Some e.1) (lookup (λ p. bytes_eq q p) (insert_entry bytes_eq es k x)) ≡ Some y
    behind true is later = is
    behind false is later = later is

    by : (here : Bool) → cond here (Some e.1) (lookup (λ p. bytes_eq k p) es) ≡ None → (lookup (λ p. bytes_eq k p) es ≡ None → lookup (λ p. bytes_eq q p) es ≡ Some y → lookup (λ p. bytes_eq q p) (insert_entry bytes_eq es k x) ≡ Some y)
        → lookup (λ p. bytes_eq q p) (cond here ((e.0, x) ∷ es) (e ∷ insert_entry bytes_eq es k x)) ≡ Some y
    by true new later = absurd cc
    by false new later = behind (bytes_eq q e.0) is (later new)

-- with a log that was not known
pub log_more : (f : Facts) (name : List ℕ) (log : List Release) → log_in f name ≡ None → Extends f (with_log f name log)
log_more f name log new = record { logs = λ q l is. found_with q name f.logs log l new is; contents = λ digest c is. is }

-- with a content that was not known
pub content_more : (f : Facts) (digest : List ℕ) (c : Content) → content_in f digest ≡ None → Extends f (with_content f digest c)
content_more f digest c new = record { logs = λ name log is. is; contents = λ q d is. found_with q digest f.contents c d new is }
