-- The releases of a plan, one entry further.
use Rattle.std.proofs.Common.{◌≡◌, ◌+◌, ◌∙◌, sym, ap, subst, refl, ℕ, Bool, true, false, cond, not, List, [], ◌∷◌, ◌++◌, map, Bor, Result, Ok, Err}
use Rattle.std.specs.Prelude.{OnOk, bytes_eq, fold}
use Rattle.std.specs.List.{AllByRecursion, position_or_len}
use Rattle.std.specs.Map.{keys_of}
use Rattle.std.proofs.lemmas.List.{map-append}
use Rattle.indexmap.specs.IndexMap.{insert_entry, keys}
use Rattle.compose_check.specs.Composition.{ComponentTree}
use Rattle.compose_component.specs.declared.component.Component.{Component}
use Rattle.compose_config.specs.MapLaws.{insert_new}
use Rattle.warg_plan.specs.Walk.{Entry}
use Rattle.warg_compose.specs.Composed.{AreComponentsOf, IsComponentOf, named_content, release_name, release_names, release_place, releases, with_release}
use Rattle.warg_compose.specs.Held.{AreReleases, HasRelease, IsHeldOf, held_component, is_known, lent_content, number_of}
use Rattle.warg_compose.specs.declared.releases.Releases.{Releases}
use Rattle.warg_compose.proofs.NameLaws.{each_named, has, itself, map_same, names_with, or_false, place_with}

-- ---- lists

fold_more : (rs es : List Entry) (v : Entry) → fold with_release rs (es ++ v ∷ []) ≡ with_release (fold with_release rs es) v
fold_more rs [] v = refl
fold_more rs (e ∷ es) v = fold_more (with_release rs e) es v

releases_more : (es : List Entry) (v : Entry) → releases (es ++ v ∷ []) ≡ with_release (releases es) v
unfolding releases
releases_more es v = fold_more [] es v

-- a name that is not there would be the last one
place_last : (ns : List (List ℕ)) (n : List ℕ) → has ns n ≡ false → position_or_len (bytes_eq n) (ns ++ n ∷ []) ≡ position_or_len (bytes_eq n) ns
place_last [] n none = ap (λ b. cond (not b) 1 0) (itself n)
place_last (x ∷ ns) n none =
    let parts = or_false (bytes_eq n x) (has ns n) none in
    ap (λ k. cond (not (bytes_eq n x)) (1 + k) 0) (place_last ns n parts.1)

components_more : (rs : List Entry) (cs : List ComponentTree) (v : Entry) (c : ComponentTree) → AreComponentsOf rs cs → IsComponentOf v c → AreComponentsOf (rs ++ v ∷ []) (cs ++ c ∷ [])
components_more [] [] v c are is = (is, tt)
components_more [] (k ∷ cs) v c are is = absurd are
components_more (r ∷ rs) [] v c are is = absurd are
components_more (r ∷ rs) (k ∷ cs) v c are is = (are.0, components_more rs cs v c are.1 is)

of_held : (v : Entry) (k : Component) → IsHeldOf (release_name v) v.content k → IsComponentOf v (held_component k)
of_held v k held = record { named = held.named; bytes = held.bytes; has_shape = held.has_shape }

-- ---- names of contents

lent_names : (cs : List (List ℕ × Bor (List ℕ))) → keys_of (map lent_content cs) ≡ keys_of cs
lent_names [] = refl
lent_names (c ∷ cs) = ap (λ ns. c.0 ∷ ns) (lent_names cs)

release_keys : (es : List Entry) → keys_of (map named_content es) ≡ release_names es
release_keys [] = refl
release_keys (e ∷ es) = ap (λ ns. release_name e ∷ ns) (release_keys es)

names_are : (r : Releases) (es : List Entry) → AreReleases r es → keys r.contents ≡ release_names (releases es)
names_are r es are = sym (lent_names r.contents.entries) ∙ ap keys_of are.contents ∙ release_keys (releases es)

-- a content whose name is not there goes last
pub put_last : (cs : List (List ℕ × Bor (List ℕ))) (name : List ℕ) (content : Bor (List ℕ)) → has (keys_of cs) name ≡ false
    → map lent_content (insert_entry bytes_eq cs name content) ≡ map lent_content cs ++ (name, content.now) ∷ []
put_last cs name content none = ap (map lent_content) (insert_new bytes_eq cs name content none) ∙ map-append lent_content cs ((name, content) ∷ [])

pub on_ok : {X E P Q : Type 0} (r : Result X E) → (P → Q) → OnOk r P → OnOk r Q
on_ok (Ok x) f p = f p
on_ok (Err e) f p = p

-- ---- one entry more

pub none_yet : (r : Releases) → r.contents.entries ≡ [] → r.components.items ≡ [] → r.instances.items ≡ [] → AreReleases r []
unfolding releases
none_yet r contents components instances =
    record { contents = ap (map lent_content) contents; components = subst (λ (ks : List Component). AreComponentsOf [] (map held_component ks)) (sym components) tt; instances = instances }

module _ (es : List Entry) (v : Entry) where
  place_of_last : release_place (es ++ v ∷ []) v ≡ position_or_len (bytes_eq (release_name v)) (release_names (releases es))
  place_of_last =
      ap (λ rs. position_or_len (bytes_eq (release_name v)) (release_names rs)) (releases_more es v)
      ∙ by (has (release_names (releases es)) (release_name v)) refl
    where
      n : List ℕ
      n = release_name v

      by : (b : Bool) → has (release_names (releases es)) (release_name v) ≡ b → position_or_len (bytes_eq (release_name v)) (release_names (with_release (releases es) v)) ≡ position_or_len (bytes_eq (release_name v)) (release_names (releases es))
      by true there = place_with release_name (releases es) v (release_name v) there
      by false none =
          ap (position_or_len (bytes_eq (release_name v))) (names_with release_name (releases es) v ∙ ap (λ b. cond b (release_names (releases es)) (release_names (releases es) ++ release_name v ∷ [])) none)
          ∙ place_last (release_names (releases es)) (release_name v) none

  places_kept : map (release_place (es ++ v ∷ [])) es ≡ map (release_place es) es
  unfolding releases
  places_kept = map_same (release_place (es ++ v ∷ [])) (release_place es) es (each es (each_named release_name [] es))
    where
      each : (xs : List Entry) → AllByRecursion (λ x. has (release_names (releases es)) (release_name x) ≡ true) xs → AllByRecursion (λ x. release_place (es ++ v ∷ []) x ≡ release_place es x) xs
      each [] all = tt
      each (x ∷ xs) all =
          (ap (λ rs. position_or_len (bytes_eq (release_name x)) (release_names rs)) (releases_more es v) ∙ place_with release_name (releases es) v (release_name x) all.0, each xs all.1)

  module _ (old mid new : Releases) (are : AreReleases old es) (has_release : HasRelease v old mid)
      (contents : new.contents ≡ mid.contents) (components : new.components ≡ mid.components)
      (number : new.instances.items ≡ mid.instances.items ++ number_of old (release_name v) ∷ []) where
    names : keys old.contents ≡ release_names (releases es)
    names = names_are old es are

    -- whether the release is there
    known : is_known old (release_name v) ≡ has (release_names (releases es)) (release_name v)
    known = ap (λ ns. has ns (release_name v)) names

    kept : is_known old (release_name v) ≡ true → releases (es ++ v ∷ []) ≡ releases es
    kept there = releases_more es v ∙ ap (λ b. cond b (releases es) (releases es ++ v ∷ [])) (sym known ∙ there)

    added : is_known old (release_name v) ≡ false → releases (es ++ v ∷ []) ≡ releases es ++ v ∷ []
    added none = releases_more es v ∙ ap (λ b. cond b (releases es) (releases es ++ v ∷ [])) (sym known ∙ none)

    contents_are : map lent_content mid.contents.entries ≡ map named_content (releases (es ++ v ∷ []))
    contents_are = by (is_known old (release_name v)) refl
      where
        by : (b : Bool) → is_known old (release_name v) ≡ b → map lent_content mid.contents.entries ≡ map named_content (releases (es ++ v ∷ []))
        by true there =
            ap (λ (r : Releases). map lent_content r.contents.entries) (has_release.kept there) ∙ are.contents ∙ ap (map named_content) (sym (kept there))
        by false none =
            (has_release.added none).contents
            ∙ ap (λ cs. cs ++ named_content v ∷ []) are.contents
            ∙ sym (map-append named_content (releases es) (v ∷ []))
            ∙ ap (map named_content) (sym (added none))

    components_are : AreComponentsOf (releases (es ++ v ∷ [])) (map held_component mid.components.items)
    components_are = by (is_known old (release_name v)) refl
      where
        by : (b : Bool) → is_known old (release_name v) ≡ b → AreComponentsOf (releases (es ++ v ∷ [])) (map held_component mid.components.items)
        by true there =
            subst (λ rs. AreComponentsOf rs (map held_component mid.components.items)) (sym (kept there))
            (subst (λ (r : Releases). AreComponentsOf (releases es) (map held_component r.components.items)) (sym (has_release.kept there)) are.components)
        by false none =
            let one = (has_release.added none).component in
            subst (λ rs. AreComponentsOf rs (map held_component mid.components.items)) (sym (added none))
            (subst (AreComponentsOf (releases es ++ v ∷ [])) (sym (ap (map held_component) one.added ∙ map-append held_component old.components.items (one.component ∷ [])))
            (components_more (releases es) (map held_component old.components.items) v (held_component one.component) are.components (of_held v one.component one.held)))

    instances_kept : mid.instances ≡ old.instances
    instances_kept = by (is_known old (release_name v)) refl
      where
        by : (b : Bool) → is_known old (release_name v) ≡ b → mid.instances ≡ old.instances
        by true there = ap (λ (r : Releases). r.instances) (has_release.kept there)
        by false none = (has_release.added none).instances

    pub one_more : AreReleases new (es ++ v ∷ [])
    one_more = record {
      contents = (λ i. map lent_content (contents i).entries) ∙ contents_are;
      components = subst (λ (ks : List Component). AreComponentsOf (releases (es ++ v ∷ [])) (map held_component ks)) (λ i. (sym components i).items) components_are;
      instances =
          number
          ∙ (λ i. (instances_kept i).items ++ number_of old (release_name v) ∷ [])
          ∙ (λ i. are.instances i ++ position_or_len (bytes_eq (release_name v)) (names i) ∷ [])
          ∙ (λ i. sym places_kept i ++ sym place_of_last i ∷ [])
          ∙ sym (map-append (release_place (es ++ v ∷ [])) es (v ∷ []));
    }
