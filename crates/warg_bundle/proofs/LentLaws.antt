-- The contents of releases by names, one more at a time, and what they are bundled to.
use Rattle.std.proofs.Common.{◌≡◌, ◌∙◌, ◌⊎◌, ◌+◌, ◌<◌, ℕ, zero, suc, Bool, Bor, true, false, cond, List, length, take, get_or, arith, [], ◌∷◌, ◌++◌, map, Option, Some, None, Result, Ok, refl, sym, ap, subst, inl, inr}
use Rattle.std.specs.Prelude.{bytes_eq, option_map, option_and_then}
use Rattle.std.specs.List.{AllByRecursion}
use Rattle.std.specs.Result.{result_ok}
use Rattle.std.proofs.lemmas.List.{map-append, take_more}
use Rattle.std.proofs.lemmas.Slice.Eq.{bytes_eq-Decides}
use Rattle.comp_format.specs.Items.{ItemTree, Component, Import}
use Rattle.comp_format.specs.declared.types.TypeRef.{TypeRef}
use Rattle.comp_format.specs.declared.types.TypeRef.TheVariants as description
use Rattle.compose_bundle.specs.Bundled.{bundled, bundled_import, bundled_item, in_place}
use Rattle.warg_names.specs.Import.{ImportTree}
use Rattle.warg_names.specs.View.{import_tree}
use Rattle.warg_plan.specs.Walk.{Content, Facts, Stop}
use Rattle.warg_bundle.specs.Asked.{asked_by, asked_under, release_asked, releases_asked, with_asked}
use Rattle.warg_bundle.specs.Contents.{content_of, release_content}
use Rattle.warg_bundle.specs.Lent.{AreLent, AskFor}
use Rattle.warg_bundle.specs.View.{asked_view}
use Rattle.warg_bundle.specs.declared.asked.Asked.{Asked as Release}

abbrev Asked : Type 0
Asked = List ℕ × ImportTree

-- ---- lists

front_of : {X : Type 0} (P : X → Type 0) (xs ys : List X) → AllByRecursion P (xs ++ ys) → AllByRecursion P xs
front_of P [] ys all = record {}
front_of P (x ∷ xs) ys all = (all.0, front_of P xs ys all.1)

back_of : {X : Type 0} (P : X → Type 0) (xs ys : List X) → AllByRecursion P (xs ++ ys) → AllByRecursion P ys
back_of P [] ys all = all
back_of P (x ∷ xs) ys all = back_of P xs ys all.1

all_more : {X : Type 0} (P : X → Type 0) (xs : List X) (x : X) → AllByRecursion P xs → P x → AllByRecursion P (xs ++ x ∷ [])
all_more P [] x all one = (one, record {})
all_more P (y ∷ xs) x all one = (all.0, all_more P xs x all.1 one)

each_by : {X : Type 0} (P Q : X → Type 0) → ((x : X) → P x → Q x) → (xs : List X) → AllByRecursion P xs → AllByRecursion Q xs
each_by P Q by [] all = record {}
each_by P Q by (x ∷ xs) all = (by x all.0, each_by P Q by xs all.1)

-- ---- one content more

module _ (f : Facts) where
  -- a name that asks for a release stands for the release's content
  pub content_under : (name : List ℕ) (i : ImportTree) (c : Content) → release_asked name ≡ Some i → content_of f i ≡ Ok c → release_content f name ≡ Some c.bytes
  content_under name i c asks gives =
      ap (λ (o : Option ImportTree). option_map (λ (c : Content). c.bytes) (option_and_then (λ j. result_ok (content_of f j)) o)) asks
      ∙ ap (λ (r : Result Content Stop). option_map (λ (c : Content). c.bytes) (result_ok r)) gives

  -- and one that asks for none stands for nothing
  nothing_under : (name : List ℕ) → release_asked name ≡ None → release_content f name ≡ None
  nothing_under name asks = ap (λ (o : Option ImportTree). option_map (λ (c : Content). c.bytes) (option_and_then (λ j. result_ok (content_of f j)) o)) asks

  module _ (name bytes : List ℕ) (stands : release_content f name ≡ Some bytes) (old new : List ℕ → Option (List ℕ)) (updates : (q : List ℕ) → new q ≡ cond (bytes_eq name q) (Some bytes) (old q)) where
    same_name : (q : List ℕ) → bytes_eq name q ≡ true → release_content f q ≡ Some bytes
    same_name q is = ap (release_content f) (sym ((bytes_eq-Decides name q).0 is)) ∙ stands

    stands_still : (q : List ℕ) → old q ≡ release_content f q → new q ≡ release_content f q
    stands_still q was = by (bytes_eq name q) refl
      where
        by : (b : Bool) → bytes_eq name q ≡ b → new q ≡ release_content f q
        by true is = updates q ∙ ap (λ (b : Bool). cond b (Some bytes) (old q)) is ∙ sym (same_name q is)
        by false is = updates q ∙ ap (λ (b : Bool). cond b (Some bytes) (old q)) is ∙ was

    only_still : (q : List ℕ) → (old q ≡ None) ⊎ (old q ≡ release_content f q) → (new q ≡ None) ⊎ (new q ≡ release_content f q)
    only_still q (inr was) = inr (stands_still q was)
    only_still q (inl none) = by (bytes_eq name q) refl
      where
        by : (b : Bool) → bytes_eq name q ≡ b → (new q ≡ None) ⊎ (new q ≡ release_content f q)
        by true is = inr (updates q ∙ ap (λ (b : Bool). cond b (Some bytes) (old q)) is ∙ sym (same_name q is))
        by false is = inl (updates q ∙ ap (λ (b : Bool). cond b (Some bytes) (old q)) is ∙ none)

    itself : bytes_eq name name ≡ true
    itself = (bytes_eq-Decides name name).1 refl

    pub lent_more : (i : ImportTree) (asked : List Asked) → AreLent f asked old → AreLent f (asked ++ (name, i) ∷ []) new
    lent_more i asked are = record {
      each = all_more (λ (a : Asked). new a.0 ≡ release_content f a.0) asked (name, i) (each_by (λ (a : Asked). old a.0 ≡ release_content f a.0) (λ (a : Asked). new a.0 ≡ release_content f a.0) (λ a was. stands_still a.0 was) asked are.each)
          (updates name ∙ ap (λ (b : Bool). cond b (Some bytes) (old name)) itself ∙ sym stands);
      only = λ q. only_still q (are.only q);
    }

  -- ---- what they are bundled to

  module _ (content : List ℕ → Option (List ℕ)) (only : (name : List ℕ) → (content name ≡ None) ⊎ (content name ≡ release_content f name)) where
    named_same : (name : List ℕ) (o : Option ImportTree) → release_asked name ≡ o → AllByRecursion (λ (a : Asked). content a.0 ≡ release_content f a.0) (with_asked name o) → content name ≡ release_content f name
    named_same name (Some i) asks all = all.0
    named_same name None asks all = by (only name)
      where
        by : (content name ≡ None) ⊎ (content name ≡ release_content f name) → content name ≡ release_content f name
        by (inl none) = none ∙ sym (nothing_under name asks)
        by (inr is) = is

    import_same : (name : List ℕ) (ty : TypeRef) → AllByRecursion (λ (a : Asked). content a.0 ≡ release_content f a.0) (asked_under name ty)
        → bundled_import content (record { name = name; ty = ty }) ty ≡ bundled_import (release_content f) (record { name = name; ty = ty }) ty
    import_same name (description.Component t) all = ap (in_place (Import (record { name = name; ty = description.Component t }))) (named_same name (release_asked name) refl all)
    import_same name ty all = refl

    item_same : (item : ItemTree) → AllByRecursion (λ (a : Asked). content a.0 ≡ release_content f a.0) (asked_by item) → bundled_item content item ≡ bundled_item (release_content f) item
    item_same (Import i) all = import_same i.name i.ty all
    item_same item all = refl

    pub bundled_same : (items : List ItemTree) → AllByRecursion (λ (a : Asked). content a.0 ≡ release_content f a.0) (releases_asked items) → bundled content items ≡ bundled (release_content f) items
    bundled_same [] all = refl
    bundled_same (item ∷ items) all =
        ap (λ (x : ItemTree). x ∷ bundled content items) (item_same item (front_of _ (asked_by item) (releases_asked items) all))
        ∙ ap (λ (xs : List ItemTree). bundled_item (release_content f) item ∷ xs) (bundled_same items (back_of _ (asked_by item) (releases_asked items) all))

-- the names among items ask for what stands beside them
asked_one : (name : List ℕ) (o : Option ImportTree) → release_asked name ≡ o → AskFor (with_asked name o)
asked_one name (Some i) asks = (asks, record {})
asked_one name None asks = record {}

all_both : {X : Type 0} (P : X → Type 0) (xs ys : List X) → AllByRecursion P xs → AllByRecursion P ys → AllByRecursion P (xs ++ ys)
all_both P [] ys a b = b
all_both P (x ∷ xs) ys a b = (a.0, all_both P xs ys a.1 b)

asked_import : (name : List ℕ) (ty : TypeRef) → AskFor (asked_under name ty)
asked_import name (description.Component t) = asked_one name (release_asked name) refl
asked_import name ty = record {}

asked_item : (item : ItemTree) → AskFor (asked_by item)
asked_item (Import i) = asked_import i.name i.ty
asked_item item = record {}

pub they_ask : (items : List ItemTree) → AskFor (releases_asked items)
they_ask [] = record {}
they_ask (item ∷ items) = all_both _ (asked_by item) (releases_asked items) (asked_item item) (they_ask items)

-- ---- releases by their places

ask_at : (asked : List Release) (i : ℕ) (a : Release) → i < length asked → a ≡ get_or asked i a → AskFor (map asked_view asked) → release_asked a.name.now ≡ Some (import_tree a.import)
ask_at [] i a lt is all = absurd (omega arith)
ask_at (x ∷ asked) zero a lt is all = subst (λ (b : Release). release_asked b.name.now ≡ Some (import_tree b.import)) (sym is) all.0
ask_at (x ∷ asked) (suc i) a lt is all = ask_at asked i a (omega (arith, lt)) is all.1

-- what a map lends under a key, where a pair was inserted
pub lends : (old new : List ℕ → Option (Bor (List ℕ))) (name : List ℕ) (lent : Bor (List ℕ)) → ((q : List ℕ) → new q ≡ cond (bytes_eq name q) (Some lent) (old q)) → (q : List ℕ)
    → option_map (λ (b : Bor (List ℕ)). b.now) (new q) ≡ cond (bytes_eq name q) (Some lent.now) (option_map (λ (b : Bor (List ℕ)). b.now) (old q))
lends old new name lent updates q = ap (option_map (λ (b : Bor (List ℕ)). b.now)) (updates q) ∙ by (bytes_eq name q)
  where
    by : (b : Bool) → option_map (λ (x : Bor (List ℕ)). x.now) (cond b (Some lent) (old q)) ≡ cond b (Some lent.now) (option_map (λ (x : Bor (List ℕ)). x.now) (old q))
    by true = refl
    by false = refl

-- the contents of the first so many releases, with the next
pub lent_next : (f : Facts) (asked : List Release) (i : ℕ) (a : Release) (c : Content) (old new : List ℕ → Option (List ℕ)) → i < length asked → a ≡ get_or asked i a → AskFor (map asked_view asked) → content_of f (import_tree a.import) ≡ Ok c
    → ((q : List ℕ) → new q ≡ cond (bytes_eq a.name.now q) (Some c.bytes) (old q)) → AreLent f (map asked_view (take i asked)) old → AreLent f (map asked_view (take (i + 1) asked)) new
lent_next f asked i a c old new lt is all gives updates are =
    subst (λ (views : List Asked). AreLent f views new)
    (sym (ap (map asked_view) (take_more asked i a lt) ∙ map-append asked_view (take i asked) (get_or asked i a ∷ []) ∙ ap (λ (b : Release). map asked_view (take i asked) ++ asked_view b ∷ []) (sym is)))
    (lent_more f a.name.now c.bytes (content_under f a.name.now (import_tree a.import) c (ask_at asked i a lt is all) gives) old new updates (import_tree a.import) (map asked_view (take i asked)) are)
