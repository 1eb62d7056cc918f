-- Components found by their names, of which no two are one.
use Rattle.std.proofs.Common.{◌≡◌, ◌∙◌, ap, sym, refl, arith, ℕ, suc, ◌≤◌, Bool, true, false, cond, List, [], ◌∷◌, ◌++◌, map, Option, Some, None}
use Rattle.std.specs.Prelude.{◌==◌, not, filter, find, option_map, String}
use Rattle.std.specs.Option.{option_or}
use Rattle.std.specs.BTreeMap.{BTreeMap, Updates, UpdatesBy, get_by_text}
use Rattle.std.specs.Cmp.{nat_eq_equiv}
use Rattle.std.specs.Cmp.Lexicographic.{slice_cmp, nat_list_eq_equiv, same_text}
use Rattle.std.specs.Global.{Global}
use Rattle.std.specs.Ordering.{nat_cmp}
use Rattle.std.specs.Str.{bytes_eq}
use Rattle.std.specs.String.{string_bytes, string_cmp}
use Rattle.std.proofs.lemmas.List.Folds.{find-append}
use Rattle.std.proofs.lemmas.Map.Entries.{option_filter}
use Rattle.std.proofs.lemmas.Map.Text.{btree_map_updates_text}
use Rattle.std.proofs.lemmas.Option.{same_Some}
use Rattle.compose_graph.specs.Graph.{ComponentEntry, component_at, component_named}
use Rattle.compose_graph.specs.Kept.{CountUp, HaveOwnNames}
use Rattle.compose_graph.specs.Parts.{FindsComponents}
use Rattle.compose_graph.proofs.CountLaws.{apart}
use Rattle.compose_graph.proofs.ListLaws.{same_number, find_skip, find_none, or_none}

abbrev ids : List ComponentEntry → List ℕ
ids cs = map (λ (c : ComponentEntry). c.id) cs

text_is : (a b : List ℕ) → bytes_eq a b ≡ true → a ≡ b
text_is a b e = same_text a b (sym e)

-- ---- what is found

-- what a test finds passes it
pub passes : {X : Type 0} (test : X → Bool) (xs : List X) (x : X) → find test xs ≡ Some x → test x ≡ true
passes test [] x e = absurd cc
passes test (y ∷ xs) x e = one (test y) refl e (passes test xs x)
  where
    one : (b : Bool) → test y ≡ b → cond b (Some y) (find test xs) ≡ Some x → (find test xs ≡ Some x → test x ≡ true) → test x ≡ true
    one true h e rest = ap test (sym (same_Some y x e)) ∙ h
    one false h e rest = rest e

found_low : (low next : ℕ) (test : ComponentEntry → Bool) (cs : List ComponentEntry) (c : ComponentEntry) → CountUp low (ids cs) next → find test cs ≡ Some c → low ≤ c.id
found_low low next test [] c up e = absurd cc
found_low low next test (d ∷ cs) c up e = one (test d) e (found_low (suc d.id) next test cs c up.1)
  where
    one : (b : Bool) → cond b (Some d) (find test cs) ≡ Some c → (find test cs ≡ Some c → suc d.id ≤ c.id) → low ≤ c.id
    one true e rest = let same = ap (λ (x : ComponentEntry). x.id) (same_Some d c e) in let h = up.0 in omega (arith, same, h)
    one false e rest = let above = rest e in let h = up.0 in omega (arith, above, h)

-- what is found by its name is found by its number
pub at_named : (low next : ℕ) (cs : List ComponentEntry) (name : List ℕ) (c : ComponentEntry) → CountUp low (ids cs) next → component_named cs name ≡ Some c → component_at cs c.id ≡ Some c
at_named low next [] name c up e = absurd cc
at_named low next (d ∷ cs) name c up e = one (bytes_eq name d.name) e (at_named (suc d.id) next cs name c up.1) (found_low (suc d.id) next (λ (x : ComponentEntry). bytes_eq name x.name) cs c up.1)
  where
    one : (b : Bool) → cond b (Some d) (component_named cs name) ≡ Some c → (component_named cs name ≡ Some c → component_at cs c.id ≡ Some c) → (component_named cs name ≡ Some c → suc d.id ≤ c.id) → component_at (d ∷ cs) c.id ≡ Some c
    one true e rest above =
        let same = same_Some d c e in
        (λ i. cond (((λ j. c.id == (same j).id) ∙ nat_eq_equiv.refl c.id) i) (Some d) (component_at cs c.id)) ∙ ap (λ (x : ComponentEntry). Some x) same
    one false e rest above =
        let lt = above e in
        (λ i. cond ((nat_eq_equiv.symm c.id d.id ∙ apart d.id c.id (omega (arith, lt))) i) (Some d) (component_at cs c.id)) ∙ rest e

-- what is found by its number is found by its name
pub named_at : (cs : List ComponentEntry) (id : ℕ) (c : ComponentEntry) → HaveOwnNames cs → component_at cs id ≡ Some c → component_named cs c.name ≡ Some c
named_at [] id c own e = absurd cc
named_at (d ∷ cs) id c own e = one (id == d.id) e (named_at cs id c own.1) (bytes_eq c.name d.name) refl
  where
    one : (b : Bool) → cond b (Some d) (component_at cs id) ≡ Some c → (component_at cs id ≡ Some c → component_named cs c.name ≡ Some c) → (t : Bool) → bytes_eq c.name d.name ≡ t → component_named (d ∷ cs) c.name ≡ Some c
    one true e rest t h =
        let same = same_Some d c e in
        (λ i. cond (((λ j. bytes_eq c.name (same j).name) ∙ nat_list_eq_equiv.refl c.name) i) (Some d) (component_named cs c.name)) ∙ ap (λ (x : ComponentEntry). Some x) same
    one false e rest true h = absurd (let both : Some c ≡ None = sym (rest e) ∙ ap (component_named cs) (text_is c.name d.name h) ∙ own.0 in cc)
    one false e rest false h = (λ i. cond (h i) (Some d) (component_named cs c.name)) ∙ rest e

-- ---- components that are taken out

pub names_kept : (p : ComponentEntry → Bool) (cs : List ComponentEntry) → HaveOwnNames cs → HaveOwnNames (filter p cs)
names_kept p [] own = tt
names_kept p (c ∷ cs) own = one (p c) (names_kept p cs own.1)
  where
    one : (b : Bool) → HaveOwnNames (filter p cs) → HaveOwnNames (cond b (c ∷ filter p cs) (filter p cs))
    one true rest = (find_none (λ (x : ComponentEntry). bytes_eq c.name x.name) p cs own.0, rest)
    one false rest = rest

pub named_kept : (p : ComponentEntry → Bool) (cs : List ComponentEntry) (name : List ℕ) → HaveOwnNames cs → component_named (filter p cs) name ≡ option_filter p (component_named cs name)
named_kept p [] name own = refl
named_kept p (c ∷ cs) name own = one (bytes_eq name c.name) refl (named_kept p cs name own.1)
  where
    here : (b : Bool) → bytes_eq name c.name ≡ true → component_named (cond b (c ∷ filter p cs) (filter p cs)) name ≡ cond b (Some c) None
    here true h = λ i. cond (h i) (Some c) (component_named (filter p cs) name)
    here false h = find_none (λ (x : ComponentEntry). bytes_eq name x.name) p cs (ap (component_named cs) (text_is name c.name h) ∙ own.0)

    one : (b : Bool) → bytes_eq name c.name ≡ b → component_named (filter p cs) name ≡ option_filter p (component_named cs name) → component_named (filter p (c ∷ cs)) name ≡ option_filter p (component_named (c ∷ cs) name)
    one true h rest = here (p c) h ∙ (λ i. option_filter p (cond (sym h i) (Some c) (component_named cs name)))
    one false h rest = find_skip (λ (x : ComponentEntry). bytes_eq name x.name) c (p c) (filter p cs) h ∙ rest ∙ (λ i. option_filter p (cond (sym h i) (Some c) (component_named cs name)))

module _ (cs : List ComponentEntry) (next id : ℕ) (r : ComponentEntry) (up : CountUp 0 (ids cs) next) (own : HaveOwnNames cs) (there : component_at cs id ≡ Some r) where
  removed_is : (c : ComponentEntry) (q : List ℕ) → component_named cs q ≡ Some c → (b : Bool) → (id == c.id) ≡ b → bytes_eq r.name q ≡ not (not b)
  removed_is c q e true h =
      let same : r ≡ c = same_Some r c (sym there ∙ ap (component_at cs) (same_number id c.id h) ∙ at_named 0 next cs q c up e) in
      (λ i. bytes_eq (same i).name q) ∙ nat_list_eq_equiv.symm c.name q ∙ passes (λ (x : ComponentEntry). bytes_eq q x.name) cs c e
  removed_is c q e false h = one (bytes_eq r.name q) refl
    where
      one : (t : Bool) → bytes_eq r.name q ≡ t → bytes_eq r.name q ≡ false
      one false k = k
      one true k =
          absurd
          (let same : r ≡ c = same_Some r c (sym (named_at cs id r own there) ∙ ap (component_named cs) (text_is r.name q k) ∙ e) in
          let yes : (id == c.id) ≡ true = (λ i. id == (sym same i).id) ∙ passes (λ (x : ComponentEntry). id == x.id) cs r there in
          let both : true ≡ false = sym yes ∙ h in cc)

  pub found_removed : (m n : BTreeMap (String Global) ℕ) → UpdatesBy string_cmp (λ k. slice_cmp nat_cmp r.name (string_bytes k)) m n None → FindsComponents m cs → FindsComponents n (filter (λ (c : ComponentEntry). not (id == c.id)) cs)
  found_removed m n u found q =
      btree_map_updates_text r.name m n None u q
      ∙ (λ i. cond (bytes_eq r.name q) None (found q i))
      ∙ one (component_named cs q) refl
      ∙ ap (λ (o : Option ComponentEntry). option_map (λ (c : ComponentEntry). c.id) o) (sym (named_kept (λ (c : ComponentEntry). not (id == c.id)) cs q own))
    where
      none : (b : Bool) → cond b None None ≡ option_map (λ (c : ComponentEntry). c.id) None
      none true = refl
      none false = refl

      some : (c : ComponentEntry) (b : Bool) → (id == c.id) ≡ b → bytes_eq r.name q ≡ not (not b)
          → cond (bytes_eq r.name q) None (Some c.id) ≡ option_map (λ (c : ComponentEntry). c.id) (cond (not (id == c.id)) (Some c) None)
      some c true h k = (λ i. cond (k i) None (Some c.id)) ∙ (λ i. option_map (λ (c : ComponentEntry). c.id) (cond (not (sym h i)) (Some c) None))
      some c false h k = (λ i. cond (k i) None (Some c.id)) ∙ (λ i. option_map (λ (c : ComponentEntry). c.id) (cond (not (sym h i)) (Some c) None))

      one : (o : Option ComponentEntry) → component_named cs q ≡ o
          → cond (bytes_eq r.name q) None (option_map (λ (c : ComponentEntry). c.id) (component_named cs q)) ≡ option_map (λ (c : ComponentEntry). c.id) (option_filter (λ (c : ComponentEntry). not (id == c.id)) (component_named cs q))
      one None e =
          (λ i. cond (bytes_eq r.name q) None (option_map (λ (c : ComponentEntry). c.id) (e i))) ∙ none (bytes_eq r.name q)
          ∙ (λ i. option_map (λ (c : ComponentEntry). c.id) (option_filter (λ (c : ComponentEntry). not (id == c.id)) (sym e i)))
      one (Some c) e =
          (λ i. cond (bytes_eq r.name q) None (option_map (λ (c : ComponentEntry). c.id) (e i))) ∙ some c (id == c.id) refl (removed_is c q e (id == c.id) refl)
          ∙ (λ i. option_map (λ (c : ComponentEntry). c.id) (option_filter (λ (c : ComponentEntry). not (id == c.id)) (sym e i)))

-- ---- a component that is added

module _ (cs : List ComponentEntry) (c : ComponentEntry) (free : component_named cs c.name ≡ None) where
  pub found_added : (m n : BTreeMap (String Global) ℕ) (key : String Global) → string_bytes key ≡ c.name → Updates string_cmp m n key (Some c.id) → FindsComponents m cs → FindsComponents n (cs ++ c ∷ [])
  found_added m n key text u found q =
      btree_map_updates_text (string_bytes key) m n (Some c.id) u q
      ∙ (λ i. cond (bytes_eq (text i) q) (Some c.id) (get_by_text m q))
      ∙ (λ i. cond (nat_list_eq_equiv.symm c.name q i) (Some c.id) (found q i))
      ∙ one (bytes_eq q c.name) refl
      ∙ ap (λ (o : Option ComponentEntry). option_map (λ (c : ComponentEntry). c.id) o) (sym (find-append (λ (x : ComponentEntry). bytes_eq q x.name) cs (c ∷ [])))
    where
      one : (b : Bool) → bytes_eq q c.name ≡ b
          → cond (bytes_eq q c.name) (Some c.id) (option_map (λ (c : ComponentEntry). c.id) (component_named cs q)) ≡ option_map (λ (c : ComponentEntry). c.id) (option_or (component_named cs q) (component_named (c ∷ []) q))
      one true h =
          let gone : component_named cs q ≡ None = ap (component_named cs) (text_is q c.name h) ∙ free in
          (λ i. cond (h i) (Some c.id) (option_map (λ (c : ComponentEntry). c.id) (component_named cs q)))
          ∙ (λ i. option_map (λ (c : ComponentEntry). c.id) (option_or (sym gone i) (cond (sym h i) (Some c) None)))
      one false h =
          (λ i. cond (h i) (Some c.id) (option_map (λ (c : ComponentEntry). c.id) (component_named cs q)))
          ∙ ap (λ (o : Option ComponentEntry). option_map (λ (c : ComponentEntry). c.id) o) (sym (or_none (component_named cs q)))
          ∙ (λ i. option_map (λ (c : ComponentEntry). c.id) (option_or (component_named cs q) (cond (sym h i) (Some c) None)))

pub names_added : (cs : List ComponentEntry) (c : ComponentEntry) → component_named cs c.name ≡ None → HaveOwnNames cs → HaveOwnNames (cs ++ c ∷ [])
names_added [] c free own = (refl, tt)
names_added (d ∷ cs) c free own = one (bytes_eq c.name d.name) refl free (λ e. names_added cs c e own.1)
  where
    one : (b : Bool) → bytes_eq c.name d.name ≡ b → cond b (Some d) (component_named cs c.name) ≡ None → (component_named cs c.name ≡ None → HaveOwnNames (cs ++ c ∷ [])) → HaveOwnNames (d ∷ (cs ++ c ∷ []))
    one true h e rest = absurd cc
    one false h e rest = (
      find-append (λ (x : ComponentEntry). bytes_eq d.name x.name) cs (c ∷ [])
          ∙ (λ i. option_or (own.0 i) (cond ((nat_list_eq_equiv.symm d.name c.name ∙ h) i) (Some c) None)),
      rest e,
    )

-- the component of a name stands under its number
pub named_there : (next : ℕ) (cs : List ComponentEntry) (name : List ℕ) (id : ℕ) → CountUp 0 (ids cs) next → Some id ≡ option_map (λ (c : ComponentEntry). c.id) (component_named cs name) → component_at cs id ≡ component_named cs name
named_there next cs name id up e = one (component_named cs name) refl e
  where
    one : (o : Option ComponentEntry) → component_named cs name ≡ o → Some id ≡ option_map (λ (c : ComponentEntry). c.id) o → component_at cs id ≡ component_named cs name
    one None h e = absurd cc
    one (Some c) h e = ap (component_at cs) (same_Some id c.id e) ∙ at_named 0 next cs name c up h ∙ sym h
