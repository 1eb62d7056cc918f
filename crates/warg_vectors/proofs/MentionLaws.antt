-- What becomes of registries where one is mentioned, and where the registry of a name changes.
use Rattle.std.proofs.Common.{◌≡◌, ◌<◌, ◌∷◌, ◌++◌, [], ℕ, List, Bool, true, false, cond, Option, Some, None, refl, sym, ◌∙◌, ap, subst, length, map, set, take, slice_index_or, arith}
use Rattle.std.specs.Prelude.{find, is_some, slice_get, option_map, IfSome, IsSome}
use Rattle.std.proofs.lemmas.List.{map-set, set-get_or, take_all, take-append-le, length-map}
use Rattle.std.proofs.lemmas.Option.{same_Some, slice_get-map, slice_get_read, get_or_from_slice_get}
use Rattle.semver.specs.Parse.{Parts}
use Rattle.warg_model.specs.declared.key.SigningKey.{SigningKey}
use Rattle.warg_model.specs.Held.{Held, opened, release_in}
use Rattle.warg_model.specs.Records.{records_of}
use Rattle.warg_vectors.specs.Named.{key_of, same_name}
use Rattle.warg_vectors.specs.World.{Named, registry_in, place_in, mentioned, changed}
use Rattle.warg_vectors.specs.State.{named_view}
use Rattle.warg_vectors.specs.declared.registry.NamedRegistry.{NamedRegistry}
use Rattle.warg_vectors.proofs.PlaceLaws.{StandsAt, place-stands, place-below, same-own}

-- ---- a mention

-- a new registry of a name, of the next number
abbrev newcomer : Option (List ℕ) → List Named → Named
newcomer name rs = record { name = name; held = opened (key_of (length rs)) }

pub mentioned-there : (name : Option (List ℕ)) (rs : List Named) (h : Held) → registry_in rs name ≡ Some h → mentioned rs name ≡ rs
mentioned-there name rs h is = ap (λ (o : Option Held). cond (is_some o) rs (rs ++ newcomer name rs ∷ [])) is

pub mentioned-new : (name : Option (List ℕ)) (rs : List Named) → registry_in rs name ≡ None → mentioned rs name ≡ rs ++ newcomer name rs ∷ []
mentioned-new name rs none = ap (λ (o : Option Held). cond (is_some o) rs (rs ++ newcomer name rs ∷ [])) none

-- a registry that is put behind the others is that of its name, which none of them has
registry-behind : (name : Option (List ℕ)) (rs : List Named) (r : Named) → registry_in rs name ≡ None → r.name ≡ name → registry_in (rs ++ r ∷ []) name ≡ Some r.held
registry-behind name [] r none is = rw (ap (λ (n : Option (List ℕ)). same_name n name) is ∙ same-own name) refl
registry-behind name (x ∷ rs) r none is = by-name (same_name x.name name) (λ (e : registry_in rs name ≡ None). registry-behind name rs r e is) none
  where
    by-name : (b : Bool) → (registry_in rs name ≡ None → registry_in (rs ++ r ∷ []) name ≡ Some r.held)
        → option_map (λ (y : Named). y.held) (cond b (Some x) (find (λ (y : Named). same_name y.name name) rs)) ≡ None
        → option_map (λ (y : Named). y.held) (cond b (Some x) (find (λ (y : Named). same_name y.name name) (rs ++ r ∷ []))) ≡ Some r.held
    by-name true last e = absurd cc
    by-name false last e = last e

-- what holds of the registry of a name once it is mentioned holds of the one that was there
pub mentioned-holds : (name : Option (List ℕ)) (rs : List Named) (h : Held) (P : Held → Type 0) → registry_in (mentioned rs name) name ≡ Some h → P h → IfSome (registry_in rs name) P
mentioned-holds name rs h P is holds = by-there (registry_in rs name) refl
  where
    by-there : (o : Option Held) → registry_in rs name ≡ o → IfSome o P
    by-there None e = tt
    by-there (Some k) e = subst P (same_Some h k (sym is ∙ ap (λ (l : List Named). registry_in l name) (mentioned-there name rs k e) ∙ e)) holds

-- one that is not new was there
pub mentioned-was : (name : Option (List ℕ)) (rs : List Named) (h : Held) → registry_in (mentioned rs name) name ≡ Some h → (h ≡ opened (key_of (length rs)) → ⊥) → registry_in rs name ≡ Some h
mentioned-was name rs h is older = by-there (registry_in rs name) refl
  where
    by-there : (o : Option Held) → registry_in rs name ≡ o → registry_in rs name ≡ Some h
    by-there None e = absurd (older (same_Some h (opened (key_of (length rs))) (sym is ∙ ap (λ (l : List Named). registry_in l name) (mentioned-new name rs e) ∙ registry-behind name rs (newcomer name rs) e refl)))
    by-there (Some k) e = sym (ap (λ (l : List Named). registry_in l name) (mentioned-there name rs k e)) ∙ is

-- the others stay in front
pub mentioned-front : (name : Option (List ℕ)) (rs : List Named) → take (length rs) (mentioned rs name) ≡ rs
mentioned-front name rs = by-there (registry_in rs name)
  where
    by-there : (o : Option Held) → take (length rs) (cond (is_some o) rs (rs ++ newcomer name rs ∷ [])) ≡ rs
    by-there None = take-append-le (length rs) rs (newcomer name rs ∷ []) (omega arith) ∙ take_all (length rs) rs (omega arith)
    by-there (Some k) = take_all (length rs) rs (omega arith)

-- a new registry has no release
pub opened-none : (k : SigningKey) (name : List ℕ) (version : Parts) → IsSome (release_in (opened k) name version) → ⊥
unfolding records_of
opened-none k name version some = absurd cc

-- ---- a change

-- what a search of the same registries gives is the place of the name
pub called : {rs searched : List NamedRegistry} {name asked : Option (List ℕ)} {o : Option ℕ} → o ≡ place_in (map named_view searched) asked → searched ≡ rs → asked ≡ name → place_in (map named_view rs) name ≡ o
called found same one = sym (found ∙ (λ k. place_in (map named_view (same k)) (one k)))

-- a place is one of the list
pub within : (name : Option (List ℕ)) (rs : List NamedRegistry) (place : ℕ) → place_in (map named_view rs) name ≡ Some place → place < length rs
within name rs place stands = subst (λ (n : ℕ). place < n) (length-map rs named_view) (place-below name (map named_view rs) place stands)

-- what stands there is what is lent of it
pub lent-at : (name : Option (List ℕ)) (rs : List NamedRegistry) (place : ℕ) (p : NamedRegistry) → place_in (map named_view rs) name ≡ Some place → p ≡ slice_index_or rs place p → slice_get rs place ≡ Some p
lent-at name rs place p stands is = slice_get_read rs (length rs) place p refl (within name rs place stands) is

-- the registry of a name is the one at its place
view-at : (name : Option (List ℕ)) (rs : List NamedRegistry) (place : ℕ) (p : NamedRegistry) (s : StandsAt (map named_view rs) name place)
    → slice_get rs place ≡ Some p → s.named ≡ named_view p
view-at name rs place p s there = same_Some s.named (named_view p) (sym s.at ∙ slice_get-map named_view rs place ∙ ap (option_map named_view) there)

pub registry-at : (name : Option (List ℕ)) (rs : List NamedRegistry) (place : ℕ) (p : NamedRegistry) → place_in (map named_view rs) name ≡ Some place
    → slice_get rs place ≡ Some p → registry_in (map named_view rs) name ≡ Some (named_view p).held
registry-at name rs place p stands there =
    let s = place-stands name (map named_view rs) place stands in
    s.is ∙ ap (λ (r : Named). Some r.held) (view-at name rs place p s there)

-- so it is among registries that are the same
pub called-at : (name : Option (List ℕ)) (rs : List NamedRegistry) (named : List Named) (place : ℕ) (p : NamedRegistry) → place_in (map named_view rs) name ≡ Some place → p ≡ slice_index_or rs place p → map named_view rs ≡ named
    → registry_in named name ≡ Some (named_view p).held
called-at name rs named place p stands is same = subst (λ (l : List Named). registry_in l name ≡ Some (named_view p).held) same (registry-at name rs place p stands (lent-at name rs place p stands is))

pub changed-at : (name : Option (List ℕ)) (rs : List NamedRegistry) (place : ℕ) (p q : NamedRegistry) (f : Held → Held) → place_in (map named_view rs) name ≡ Some place
    → slice_get rs place ≡ Some p → named_view q ≡ record (named_view p) { held = f (named_view p).held } → map named_view (set rs place q) ≡ changed f name (map named_view rs)
changed-at name rs place p q f stands there is =
    let s = place-stands name (map named_view rs) place stands in
    let same : named_view q ≡ record s.named { held = f s.named.held } = is ∙ ap (λ (r : Named). record r { held = f r.held }) (sym (view-at name rs place p s there)) in
    map-set named_view rs place q ∙ ap (set (map named_view rs) place) same ∙ sym (s.change f)

-- where its view stays the same, nothing changes
pub unchanged-at : (rs : List NamedRegistry) (place : ℕ) (p q : NamedRegistry) → slice_get rs place ≡ Some p → named_view q ≡ named_view p → map named_view (set rs place q) ≡ map named_view rs
unchanged-at rs place p q there is =
    let v = named_view p in
    let seen : slice_get (map named_view rs) place ≡ Some v = slice_get-map named_view rs place ∙ ap (option_map named_view) there in
    map-set named_view rs place q ∙ ap (set (map named_view rs) place) (is ∙ sym (get_or_from_slice_get (map named_view rs) place v v seen)) ∙ set-get_or (map named_view rs) place v
