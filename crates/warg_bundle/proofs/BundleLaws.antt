-- A component bundled with the contents of releases, from its parts.
use Rattle.std.proofs.Common.{◌≡◌, ◌∙◌, ◌⊎◌, ℕ, List, [], ◌∷◌, map, Option, Some, None, Result, Ok, Err, refl, sym, ap, subst, inl, inr}
use Rattle.std.specs.Prelude.{fold, option_and_then, option_map}
use Rattle.std.specs.List.{AllByRecursion}
use Rattle.std.specs.Result.{result_ok}
use Rattle.comp_encoder.specs.Writing.{IsTooLongAmong, component_text, sections_of}
use Rattle.comp_entity.specs.Entity.{ShapeTree}
use Rattle.comp_format.specs.Fits.{IsComponent}
use Rattle.comp_format.specs.Items.{ItemTree}
use Rattle.comp_format.specs.Sections.{Reads, items_in}
use Rattle.comp_shape.specs.Shape.{HasShape}
use Rattle.compose_bundle.specs.Bundled.{AreComponents, IsBundled, bundled, singles}
use Rattle.compose_bundle.specs.Refusing.{IsAmong, IsTooLarge}
use Rattle.warg_values.specs.ReadingLaws.{bind_ok}
use Rattle.warg_names.specs.Import.{ImportTree}
use Rattle.warg_names.specs.View.{import_tree}
use Rattle.warg_plan.specs.Keys.{Parsed, choice_for, of_package}
use Rattle.warg_plan.specs.Walk.{Content, Facts, Stop, NeedsContent, NeedsLog, NoPackage, NoRelease, content_in, log_in, nothing_known, or_stop}
use Rattle.warg_compose.specs.Wired.{AreOfComponents}
use Rattle.warg_bundle.specs.Asked.{release_asked, releases_asked}
use Rattle.warg_bundle.specs.Contents.{AreLearnt, HasLearnt, content_of, release_content}
use Rattle.warg_bundle.specs.Lent.{AreLent}
use Rattle.warg_bundle.specs.View.{asked_view, imports_of}
use Rattle.warg_bundle.specs.declared.asked.Asked.{Asked}
use Rattle.warg_bundle.proofs.ContentLaws.{by_log, by_package, by_release, some_by}
use Rattle.warg_bundle.proofs.LentLaws.{bundled_same}

-- ---- the imports of what is asked

asked_imports : (asked : List Asked) → imports_of asked ≡ map (λ a. a.1) (map asked_view asked)
asked_imports [] = refl
asked_imports (a ∷ asked) = ap (λ (is : List ImportTree). import_tree a.import ∷ is) (asked_imports asked)

-- what is answered for the imports is what is answered for the items
pub same_contents : (items : List ItemTree) (asked : List Asked) → map asked_view asked ≡ releases_asked items → imports_of asked ≡ map (λ a. a.1) (releases_asked items)
same_contents items asked is = asked_imports asked ∙ ap (map (λ (a : List ℕ × ImportTree). a.1)) is

-- ---- contents that are components

known_content : (f : Facts) (i : ImportTree) (c : Content) → content_of f i ≡ Ok c → (digest : List ℕ) × (content_in f digest ≡ Some c)
unfolding content_of
known_content f i c e =
    let a = bind_ok (or_stop (NoPackage (Parsed i)) (of_package i)) (by_package f) c e in
    let j = a.0 in
    let b = bind_ok (or_stop (NeedsLog j.name) (log_in f j.name)) (by_log f j) c a.2 in
    let d = bind_ok (or_stop (NoRelease j.name) (choice_for j b.0)) (by_release f j) c b.2 in
    (d.0.1, some_by (NeedsContent j.name d.0.1) (content_in f d.0.1) c d.2)

-- the bytes that a name stands for are those of a content that is known
known_bytes : (f : Facts) (name bytes : List ℕ) → release_content f name ≡ Some bytes → (digest : List ℕ) × (c : Content) × (content_in f digest ≡ Some c) × (c.bytes ≡ bytes)
known_bytes f name bytes e = by (release_asked name) e
  where
    some_is : (a b : List ℕ) → Some a ≡ Some b → a ≡ b
    some_is a b e = cc

    read : (i : ImportTree) (r : Result Content Stop) → content_of f i ≡ r → option_map (λ (c : Content). c.bytes) (result_ok r) ≡ Some bytes → (digest : List ℕ) × (c : Content) × (content_in f digest ≡ Some c) × (c.bytes ≡ bytes)
    read i (Ok c) is e = let k = known_content f i c is in (k.0, c, k.1, some_is c.bytes bytes e)
    read i (Err stop) is e = absurd cc

    by : (o : Option ImportTree) → option_map (λ (c : Content). c.bytes) (option_and_then (λ i. result_ok (content_of f i)) o) ≡ Some bytes → (digest : List ℕ) × (c : Content) × (content_in f digest ≡ Some c) × (c.bytes ≡ bytes)
    by (Some i) e = read i (content_of f i) refl e
    by None e = absurd cc

is_read : (bytes : List ℕ) (s : ShapeTree) → HasShape bytes s → IsComponent bytes
is_read bytes s shape = (items_in shape.has_parts.0, (shape.has_parts.0, refl, shape.has_parts.2))

pub lent_components : (f : Facts) (asked : List (List ℕ × ImportTree)) (content : List ℕ → Option (List ℕ)) → AreOfComponents f → AreLent f asked content → AreComponents content
lent_components f asked content are lent = λ name bytes found. by name bytes found (lent.only name)
  where
    none_some : {P : Type 0} (o : Option (List ℕ)) (bytes : List ℕ) → o ≡ None → o ≡ Some bytes → P
    none_some o bytes a b = cc

    by : (name bytes : List ℕ) → content name ≡ Some bytes → (content name ≡ None) ⊎ (content name ≡ release_content f name) → IsComponent bytes
    by name bytes found (inl none) = none_some (content name) bytes none found
    by name bytes found (inr is) =
        let k = known_bytes f name bytes (sym is ∙ found) in
        let component = are.components k.0 k.1 k.2 in
        is_read bytes component.tree (subst (λ bs. HasShape bs component.tree) k.3 component.has_shape)

pub none_known : AreOfComponents nothing_known
none_known = record { digests = λ digest c e. absurd cc; components = λ digest c e. absurd cc }

module _ {T P X : Type 0} (teaches : Facts → P → Facts) (Learns : T → Stop → P → T → Type 0) (answer : Facts → Result X Stop)
    (components : (f : Facts) (old new : T) (asked : Stop) (lesson : P) → Learns old asked lesson new → AreOfComponents f → AreOfComponents (teaches f lesson)) where
  all_components : (f : Facts) (old new : T) (ps : List P) → AreOfComponents f → AreLearnt teaches answer Learns f old ps new → AreOfComponents (fold teaches f ps)
  unfolding AreLearnt
  all_components f old new [] are learnt = are
  all_components f old new (p ∷ ps) are learnt = all_components (teaches f p) learnt.0 new ps (components f old learnt.0 learnt.1.stop p learnt.1.learns are) learnt.2

  pub learnt_components : (g : Facts) (old new : T) → HasLearnt teaches answer Learns nothing_known old g new → AreOfComponents g
  learnt_components g old new h = subst AreOfComponents (sym h.knows) (all_components nothing_known old new h.lessons none_known h.are)

-- ---- what is bundled

module _ (f : Facts) (items : List ItemTree) (content : List ℕ → Option (List ℕ)) (lent : AreLent f (releases_asked items) content) (bytes : List ℕ) (read : Reads bytes items)
    (one_reading : (bytes : List ℕ) (a b : List ItemTree) → Reads bytes a → Reads bytes b → a ≡ b) where
  same_items : (others : List ItemTree) → Reads bytes others → bundled content others ≡ bundled (release_content f) others
  same_items others r = bundled_same f content lent.only others (subst (λ is. AllByRecursion (λ a. content a.0 ≡ release_content f a.0) (releases_asked is)) (one_reading bytes items others read r) lent.each)

  pub bundled_contents : (out : List ℕ) → IsBundled content bytes out → IsBundled (release_content f) bytes out
  bundled_contents out b =
      let same = same_items b.items b.read in
      record {
        items = b.items;
        read = b.read;
        text = b.text ∙ ap (λ (is : List ItemTree). component_text (singles is)) same;
        reads = subst (Reads out) same b.reads;
        once = λ others r. b.once others r ∙ same;
      }

  pub large_contents : (n : ℕ) → IsTooLarge n content bytes → IsTooLarge n (release_content f) bytes
  large_contents n t = record {
    items = t.items;
    read = t.read;
    large = t.large;
    among = subst (λ is. IsAmong n is ⊎ IsTooLongAmong n (sections_of (singles is))) (same_items t.items t.read) t.among;
  }
