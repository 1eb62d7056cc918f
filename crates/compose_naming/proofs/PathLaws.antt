-- What is called at paths, one more each time.
use Rattle.std.proofs.Common.{◌≡◌, ◌∙◌, Bool, true, false, cond, List, [], ◌∷◌, ◌++◌, ◌+◌, ◌<◌, ℕ, length, map, take, get_or, Some, refl, sym, ap}
use Rattle.std.specs.Prelude.{filter, bytes_eq, Vec}
use Rattle.std.specs.Ordering.{is_eq, nat_cmp}
use Rattle.std.specs.BTreeMap.{BTreeMap, Updates, get}
use Rattle.std.specs.Global.{Global}
use Rattle.std.specs.Cmp.Lexicographic.{slice_cmp, lists_ties, same_text, texts_ties}
use Rattle.std.proofs.lemmas.Bool.{and_parts}
use Rattle.std.proofs.lemmas.List.{append-nil, map-append, take_more}
use Rattle.std.proofs.lemmas.List.Elements.{filter-append}
use Rattle.compose_left.specs.Origins.{same_path}
use Rattle.compose_left.specs.declared.path.Path.{Path}
use Rattle.compose_left.specs.declared.spots.Spot.{Spot}
use Rattle.compose_left.specs.declared.spots.Thing.{Thing}
use Rattle.compose_order.specs.Known.{NamePath, path_cmp, things_at, things_in}
use Rattle.compose_order.specs.Needs.{called_at, is_at, thing_of}
use Rattle.compose_naming.specs.Names.{FindsCalls}

pub path_ties : (a b : NamePath) → same_path a b ≡ is_eq (path_cmp a b)
path_ties a b = lists_ties (slice_cmp nat_cmp) texts_ties a b

pub same_paths : (a b : NamePath) → same_path a b ≡ true → a ≡ b
same_paths [] [] e = refl
same_paths [] (y ∷ b) e = absurd cc
same_paths (x ∷ a) [] e = absurd cc
same_paths (x ∷ a) (y ∷ b) e =
    let parts = and_parts (bytes_eq x y) (same_path a b) e in
    λ i. same_text x y (sym parts.0) i ∷ same_paths a b parts.1 i

called_push : (calls : List Spot) (call : Spot) (p : NamePath) → called_at (calls ++ call ∷ []) p
    ≡ cond (same_path call.path p) (called_at calls p ++ call.what ∷ []) (called_at calls p)
called_push calls call p =
    ap (map thing_of) (filter-append (is_at p) calls (call ∷ []))
    ∙ map-append thing_of (filter (is_at p) calls) (filter (is_at p) (call ∷ []))
    ∙ one (same_path call.path p)
  where
    one : (b : Bool) → called_at calls p ++ map thing_of (cond b (call ∷ []) [])
        ≡ cond b (called_at calls p ++ call.what ∷ []) (called_at calls p)
    one true = refl
    one false = append-nil (called_at calls p)

-- one call more
pub calls_more : (old mid new : BTreeMap Path (Vec Thing Global)) (calls : List Spot) (call : Spot) (key : NamePath)
    (things : Vec Thing Global)
    → key ≡ call.path
    → ((p : NamePath) → things_at mid p ≡ cond (is_eq (path_cmp call.path p)) [] (things_at old p))
    → things.items ≡ things_at old call.path ++ call.what ∷ [] → Updates path_cmp mid new key (Some things)
    → FindsCalls old calls → FindsCalls new (calls ++ call ∷ [])
calls_more old mid new calls call key things is taken put u h p =
    ap things_in (u.0 p ∙ (λ i. cond (is_eq (path_cmp (is i) p)) (Some things) (get path_cmp mid p)))
    ∙ one (is_eq (path_cmp call.path p)) refl
    ∙ ap (λ b. cond b (called_at calls p ++ call.what ∷ []) (called_at calls p)) (sym (path_ties call.path p))
    ∙ sym (called_push calls call p)
  where
    one : (b : Bool) → is_eq (path_cmp call.path p) ≡ b → things_in (cond b (Some things) (get path_cmp mid p))
        ≡ cond b (called_at calls p ++ call.what ∷ []) (called_at calls p)
    one true e =
        put ∙ ap (λ q. things_at old q ++ call.what ∷ []) (same_paths call.path p (path_ties call.path p ∙ e))
        ∙ ap (λ ts. ts ++ call.what ∷ []) (h p)
    one false e = taken p ∙ (λ i. cond (e i) [] (things_at old p)) ∙ h p

pub calls_step : (m : BTreeMap Path (Vec Thing Global)) (calls : List Spot) (i : ℕ) (call : Spot) → i < length calls
    → call ≡ get_or calls i call → FindsCalls m (take i calls ++ call ∷ []) → FindsCalls m (take (i + 1) calls)
calls_step m calls i call lt is h p =
    h p ∙ ap (λ cs. called_at cs p)
    (ap (λ (x : Spot). take i calls ++ x ∷ []) is ∙ sym (take_more calls i call lt))
