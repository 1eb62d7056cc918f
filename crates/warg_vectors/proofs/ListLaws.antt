-- Laws of registries and contents in lists: how they are found, and where they stand.
use Rattle.std.proofs.Common.{◌≡◌, ◌∷◌, ◌++◌, [], ℕ, List, Bool, true, false, cond, Option, Some, None, refl, sym, ◌∙◌, ap, subst, map, set, take, zero, suc}
use Rattle.std.specs.Prelude.{find, bytes_eq, slice_get, option_map, is_some, IfSome, Result, Ok, Err, IfOk, OnOk, OnErr}
use Rattle.std.specs.Borrow.{Bor}
use Rattle.std.specs.List.{AllByRecursion}
use Rattle.sha2.specs.Sha256.{sha256}
use Rattle.warg_model.specs.State.{held}
use Rattle.warg_vectors.specs.Named.{same_name}
use Rattle.warg_vectors.specs.World.{Named, registry_in, content_in, kept}
use Rattle.warg_vectors.specs.State.{named_view, content_view}
use Rattle.warg_vectors.specs.declared.registry.NamedRegistry.{NamedRegistry}
use Rattle.warg_vectors.specs.declared.registry.Content.{Content}

-- the registry of a name, among what clauses see of registries
pub registry-seen : (name : Option (List ℕ)) (rs : List NamedRegistry) → registry_in (map named_view rs) name ≡ option_map (λ (r : NamedRegistry). held r.registry) (find (λ (r : NamedRegistry). same_name r.name name) rs)
registry-seen name [] = refl
registry-seen name (r ∷ rs) = by-name (same_name r.name name) (find (λ (x : Named). same_name x.name name) (map named_view rs)) (find (λ (x : NamedRegistry). same_name x.name name) rs) (registry-seen name rs)
  where
    by-name : (b : Bool) (xs : Option Named) (ys : Option NamedRegistry) → option_map (λ (x : Named). x.held) xs ≡ option_map (λ (y : NamedRegistry). held y.registry) ys
        → option_map (λ (x : Named). x.held) (cond b (Some (named_view r)) xs) ≡ option_map (λ (y : NamedRegistry). held y.registry) (cond b (Some r) ys)
    by-name true xs ys same = refl
    by-name false xs ys same = same

-- the content of a digest, among what clauses see of contents
pub content-seen : (digest : List ℕ) (cs : List Content) → content_in (map content_view cs) digest ≡ option_map (λ (c : Content). c.bytes) (find (λ (c : Content). bytes_eq c.digest digest) cs)
content-seen digest [] = refl
content-seen digest (c ∷ cs) = by-digest (bytes_eq c.digest digest) (find (λ (x : List ℕ × List ℕ). bytes_eq x.0 digest) (map content_view cs)) (find (λ (x : Content). bytes_eq x.digest digest) cs) (content-seen digest cs)
  where
    by-digest : (b : Bool) (xs : Option (List ℕ × List ℕ)) (ys : Option Content) → option_map (λ (x : List ℕ × List ℕ). x.1) xs ≡ option_map (λ (y : Content). y.bytes) ys
        → option_map (λ (x : List ℕ × List ℕ). x.1) (cond b (Some (content_view c)) xs) ≡ option_map (λ (y : Content). y.bytes) (cond b (Some c) ys)
    by-digest true xs ys same = refl
    by-digest false xs ys same = same

some-mapped : (o : Option Content) → is_some (option_map (λ (c : Content). c.bytes) o) ≡ is_some o
some-mapped None = refl
some-mapped (Some c) = refl

-- what is found is one of those of which something holds
pub found-holds : {X : Type 0} (P : X → Type 0) (test : X → Bool) (xs : List X) (x : X) → AllByRecursion P xs → find test xs ≡ Some x → P x
found-holds {X = X} P test [] x all is = absurd (none-here x is)
  where
    none-here : (y : X) → None ≡ Some y → ⊥
    none-here y e = cc
found-holds {X = X} P test (y ∷ xs) x all is = by-test (test y) all.0 (λ more. found-holds P test xs x all.1 more) is
  where
    by-test : (b : Bool) → P y → (find test xs ≡ Some x → P x) → cond b (Some y) (find test xs) ≡ Some x → P x
    by-test true here later e = subst P (one-is y x e) here
      where
        one-is : (a c : X) → Some a ≡ Some c → a ≡ c
        one-is a c e = cc e
    by-test false here later e = later e

-- the same of what is lent
pub found-lent : {X K : Type 0} (P : X → Type 0) (test : X → Bool) (xs : List X) (o : Option (Bor X)) → (K → AllByRecursion P xs) → option_map (λ (r : Bor X). r.now) o ≡ find test xs → IfSome o (λ r. K → P r.now)
found-lent P test xs None all is = tt
found-lent P test xs (Some r) all is = λ known. found-holds P test xs r.now (all known) (sym is)

pub mapped-lent : {X Y : Type 0} (f : X → Y) (o : Option (Bor X)) → option_map (λ (r : Bor X). f r.now) o ≡ option_map f (option_map (λ (r : Bor X). r.now) o)
mapped-lent f None = refl
mapped-lent f (Some r) = refl

pub some-lent : {X : Type 0} (o : Option (Bor X)) → is_some (option_map (λ (r : Bor X). r.now) o) ≡ is_some o
some-lent None = refl
some-lent (Some r) = refl

-- a content is kept once
pub kept-there : (cs : List Content) (content : List ℕ) → is_some (find (λ (c : Content). bytes_eq c.digest (sha256 content)) cs) ≡ true → kept (map content_view cs) content ≡ map content_view cs
kept-there cs content there =
    ap (λ (o : Option (List ℕ)). cond (is_some o) (map content_view cs) (map content_view cs ++ (sha256 content, content) ∷ [])) (content-seen (sha256 content) cs)
    ∙ ap (λ (b : Bool). cond b (map content_view cs) (map content_view cs ++ (sha256 content, content) ∷ [])) (some-mapped (find (λ (c : Content). bytes_eq c.digest (sha256 content)) cs) ∙ there)

pub kept-new : (cs : List Content) (content : List ℕ) → is_some (find (λ (c : Content). bytes_eq c.digest (sha256 content)) cs) ≡ false → kept (map content_view cs) content ≡ map content_view cs ++ (sha256 content, content) ∷ []
kept-new cs content new =
    ap (λ (o : Option (List ℕ)). cond (is_some o) (map content_view cs) (map content_view cs ++ (sha256 content, content) ∷ [])) (content-seen (sha256 content) cs)
    ∙ ap (λ (b : Bool). cond b (map content_view cs) (map content_view cs ++ (sha256 content, content) ∷ [])) (some-mapped (find (λ (c : Content). bytes_eq c.digest (sha256 content)) cs) ∙ new)

-- ---- of results

-- what follows from what holds
pub on-ok : {X E : Type 0} {P Q : Type 0} (r : Result X E) → (P → Q) → OnOk r P → OnOk r Q
on-ok (Ok x) more is = more is
on-ok (Err e) more is = tt

pub on-err : {X E : Type 0} {P Q : Type 0} (r : Result X E) → (P → Q) → OnErr r P → OnErr r Q
on-err (Ok x) more is = tt
on-err (Err e) more is = more is

-- what holds of a value that is there, and more
pub when-ok : {X E : Type 0} (P Q : X → Type 0) (r : Result X E) → ((x : X) → P x → Q x) → IfOk r P → IfOk r Q
when-ok P Q (Ok x) more is = more x is
when-ok P Q (Err e) more is = tt

pub when-all-ok : {X E : Type 0} (P A B Q : X → Type 0) (r : Result X E) → ((x : X) → P x → A x → B x → Q x) → IfOk r P → IfOk r A → IfOk r B → IfOk r Q
when-all-ok P A B Q (Ok x) more is first second = more x is first second
when-all-ok P A B Q (Err e) more is first second = tt

-- ---- what holds of each of a list

pub all-set : {X : Type 0} (P : X → Type 0) (xs : List X) (i : ℕ) (y : X) → AllByRecursion P xs → P y → AllByRecursion P (set xs i y)
all-set P [] i y all is = tt
all-set P (x ∷ xs) zero y all is = (is, all.1)
all-set P (x ∷ xs) (suc i) y all is = (all.0, all-set P xs i y all.1 is)

pub all-at : {X : Type 0} (P : X → Type 0) (xs : List X) (i : ℕ) (x : X) → AllByRecursion P xs → slice_get xs i ≡ Some x → P x
all-at {X = X} P [] i x all is = absurd cc
all-at {X = X} P (y ∷ xs) zero x all is = subst P (one-is y x is) all.0
  where
    one-is : (a c : X) → Some a ≡ Some c → a ≡ c
    one-is a c e = cc e
all-at {X = X} P (y ∷ xs) (suc i) x all is = all-at P xs i x all.1 is

pub all-take : {X : Type 0} (P : X → Type 0) (xs : List X) (n : ℕ) → AllByRecursion P xs → AllByRecursion P (take n xs)
all-take P [] zero all = tt
all-take P [] (suc n) all = tt
all-take P (x ∷ xs) zero all = tt
all-take P (x ∷ xs) (suc n) all = (all.0, all-take P xs n all.1)

pub all-more : {X : Type 0} (P : X → Type 0) (xs : List X) (y : X) → AllByRecursion P xs → P y → AllByRecursion P (xs ++ y ∷ [])
all-more P [] y all is = (is, tt)
all-more P (x ∷ xs) y all is = (all.0, all-more P xs y all.1 is)
