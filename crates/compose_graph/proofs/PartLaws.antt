-- Components as they lie in memory, as one is added and one is taken out.
use Rattle.std.proofs.Common.{◌≡◌, ◌∙◌, ap, sym, subst, refl, ℕ, suc, Bool, true, false, cond, List, [], ◌∷◌, ◌++◌, map, Some, None}
use Rattle.std.specs.Prelude.{◌==◌, not, filter, option_map, String}
use Rattle.std.specs.BTreeMap.{BTreeMap, Updates, UpdatesBy, is_at}
use Rattle.std.specs.Cmp.Lexicographic.{slice_cmp}
use Rattle.std.specs.Global.{Global}
use Rattle.std.specs.List.{AllByRecursion}
use Rattle.std.specs.Map.{lookup, keys_of, remove_entry}
use Rattle.std.specs.Ordering.{nat_cmp}
use Rattle.std.specs.String.{string_bytes, string_cmp}
use Rattle.std.proofs.lemmas.List.{map-append}
use Rattle.std.proofs.lemmas.Option.{same_Some}
use Rattle.comp_table.specs.Trees.{PlainTree, Extends}
use Rattle.compose_component.specs.Component.{name_of, shape_of}
use Rattle.compose_graph.specs.Graph.{ComponentEntry, component_at, component_named}
use Rattle.compose_graph.specs.Kept.{CountUp, HaveOwnNames}
use Rattle.compose_graph.specs.Listed.{HeldComponent, ComponentList, held_component, component_entry, component_entries}
use Rattle.compose_graph.specs.Loose.{IsLoosened}
use Rattle.compose_graph.specs.Parts.{held_part, held, held_list, FindsComponents, AreParts}
use Rattle.compose_graph.specs.declared.part.Part.{Part}
use Rattle.compose_graph.proofs.CountLaws.{count_added, count_kept}
use Rattle.compose_graph.proofs.EntryLaws.{removed, find_entry}
use Rattle.compose_graph.proofs.ListLaws.{all_push, all_kept, all_weaker, filter_mapped}
use Rattle.compose_graph.proofs.LooseLaws.{loosened_kept}
use Rattle.compose_graph.proofs.NameLaws.{names_added, names_kept, found_added, found_removed}

pub twice : {X Y Z : Type 0} (f : Y → Z) (g : X → Y) (xs : List X) → map f (map g xs) ≡ map (λ x. f (g x)) xs
twice f g [] = refl
twice f g (x ∷ xs) = λ i. f (g x) ∷ twice f g xs i

abbrev pub IsLoosePart : List PlainTree → ℕ × Part → Type 0
IsLoosePart ts e = IsLoosened ts e.1.loose (shape_of e.1.component)

pub part_at : (es : List (ℕ × Part)) (id : ℕ) → component_at (component_entries (held es)) id ≡ option_map (λ (p : Part). component_entry (held_component id p.component)) (lookup (is_at (nat_cmp id)) es)
part_at es id =
    ap (λ (cs : List ComponentEntry). component_at cs id) (twice component_entry held_part es)
    ∙ find_entry (λ (e : ℕ × Part). component_entry (held_part e)) (λ (c : ComponentEntry). id == c.id) id (λ (p : Part). component_entry (held_component id p.component)) (λ e. refl) (λ v. refl) es

keys_are : (es : List (ℕ × Part)) → keys_of es ≡ map (λ (c : ComponentEntry). c.id) (component_entries (held es))
keys_are [] = refl
keys_are (e ∷ es) = λ i. e.0 ∷ keys_are es i

held_last : (es : List (ℕ × Part)) (id : ℕ) (part : Part) → component_entries (held (es ++ (id, part) ∷ [])) ≡ component_entries (held es) ++ component_entry (held_component id part.component) ∷ []
held_last [] id part = refl
held_last (e ∷ es) id part = λ i. component_entry (held_part e) ∷ held_last es id part i

pub entries_filtered : (id : ℕ) (cs : List HeldComponent) → component_entries (filter (λ (c : HeldComponent). not (id == c.id)) cs) ≡ filter (λ (c : ComponentEntry). not (id == c.id)) (component_entries cs)
entries_filtered id cs = sym (filter_mapped component_entry (λ (c : ComponentEntry). not (id == c.id)) cs)

pub held_filtered : (id : ℕ) (es : List (ℕ × Part)) → held (filter (λ e. not (id == e.0)) es) ≡ filter (λ (c : HeldComponent). not (id == c.id)) (held es)
held_filtered id es = sym (filter_mapped held_part (λ (c : HeldComponent). not (id == c.id)) es)

pub parts_added : (es fs : List (ℕ × Part)) (m n : BTreeMap (String Global) ℕ) (ts : List PlainTree) (id : ℕ) (part : Part) (key : String Global)
    → fs ≡ es ++ (id, part) ∷ [] → Updates string_cmp m n key (Some id) → AreParts es m ts id → component_named (component_entries (held es)) (name_of part.component) ≡ None → string_bytes key ≡ name_of part.component → IsLoosened ts part.loose (shape_of part.component) → AreParts fs n ts (suc id)
parts_added es fs m n ts id part key is u parts free text loose =
    let c = component_entry (held_component id part.component) in
    let cs = component_entries (held es) in
    let entries : component_entries (held fs) ≡ cs ++ c ∷ [] = ap (λ (gs : List (ℕ × Part)). component_entries (held gs)) is ∙ held_last es id part in
    record {
      ids = subst (λ (ks : List ℕ). CountUp 0 ks (suc id)) (sym (ap keys_of is ∙ map-append (λ (e : ℕ × Part). e.0) es ((id, part) ∷ []))) (count_added 0 id (keys_of es) parts.ids);
      own_names = subst HaveOwnNames (sym entries) (names_added cs c free parts.own_names);
      found = subst (FindsComponents n) (sym entries) (found_added cs c free m n key text u parts.found);
      loosened = subst (AllByRecursion (IsLoosePart ts)) (sym is) (all_push (IsLoosePart ts) es (id, part) parts.loosened loose);
    }

pub parts_again : (es fs : List (ℕ × Part)) (m n : BTreeMap (String Global) ℕ) (ts : List PlainTree) (next : ℕ) → fs ≡ es → n.entries ≡ m.entries → AreParts es m ts next → AreParts fs n ts next
parts_again es fs m n ts next is same parts =
    subst (λ (gs : List (ℕ × Part)). AreParts gs n ts next) (sym is)
    (record {
      ids = parts.ids;
      own_names = parts.own_names;
      found = λ q. ap (λ (ns : List (String Global × ℕ)). lookup (is_at (λ k. slice_cmp nat_cmp q (string_bytes k))) ns) same ∙ parts.found q;
      loosened = parts.loosened;
    })

pub parts_grown : (es : List (ℕ × Part)) (m : BTreeMap (String Global) ℕ) (ts us : List PlainTree) (next : ℕ) → Extends ts us → AreParts es m ts next → AreParts es m us next
parts_grown es m ts us next grown parts = record {
  ids = parts.ids;
  own_names = parts.own_names;
  found = parts.found;
  loosened = all_weaker (IsLoosePart ts) (IsLoosePart us) (λ e l. loosened_kept ts us grown e.1.loose (shape_of e.1.component) l) es parts.loosened;
}

pub parts_removed : (es fs : List (ℕ × Part)) (m n : BTreeMap (String Global) ℕ) (ts : List PlainTree) (next id : ℕ) (part : Part)
    → fs ≡ remove_entry (is_at (nat_cmp id)) es → lookup (is_at (nat_cmp id)) es ≡ Some part → UpdatesBy string_cmp (λ k. slice_cmp nat_cmp (name_of part.component) (string_bytes k)) m n None → AreParts es m ts next → AreParts fs n ts next
parts_removed es fs m n ts next id part is there u parts =
    let cs = component_entries (held es) in
    let kept : fs ≡ filter (λ (e : ℕ × Part). not (id == e.0)) es = is ∙ removed id 0 next es parts.ids in
    let entries : component_entries (held fs) ≡ filter (λ (c : ComponentEntry). not (id == c.id)) cs =
    ap (λ (gs : List (ℕ × Part)). component_entries (held gs)) kept ∙ ap component_entries (held_filtered id es) ∙ entries_filtered id (held es) in
    let at : component_at cs id ≡ Some (component_entry (held_component id part.component)) = part_at es id ∙ ap (option_map (λ (p : Part). component_entry (held_component id p.component))) there in
    record {
      ids = subst (λ (gs : List (ℕ × Part)). CountUp 0 (keys_of gs) next) (sym kept) (count_kept (λ (e : ℕ × Part). e.0) 0 next (λ (e : ℕ × Part). not (id == e.0)) es parts.ids);
      own_names = subst HaveOwnNames (sym entries) (names_kept (λ (c : ComponentEntry). not (id == c.id)) cs parts.own_names);
      found = subst (FindsComponents n) (sym entries)
          (found_removed cs next id (component_entry (held_component id part.component)) (subst (λ (ks : List ℕ). CountUp 0 ks next) (keys_are es) parts.ids) parts.own_names at m n u parts.found);
      loosened = subst (AllByRecursion (IsLoosePart ts)) (sym kept) (all_kept (IsLoosePart ts) (λ (e : ℕ × Part). not (id == e.0)) es parts.loosened);
    }

-- what was found is one of the components
pub part_loose : (ts : List PlainTree) (es : List (ℕ × Part)) (test : ℕ → Bool) (part : Part) → AllByRecursion (IsLoosePart ts) es → lookup test es ≡ Some part → IsLoosened ts part.loose (shape_of part.component)
part_loose ts [] test part all e = absurd cc
part_loose ts (x ∷ es) test part all e = one (test x.0) e (part_loose ts es test part all.1)
  where
    one : (b : Bool) → cond b (Some x.1) (lookup test es) ≡ Some part → (lookup test es ≡ Some part → IsLoosened ts part.loose (shape_of part.component)) → IsLoosened ts part.loose (shape_of part.component)
    one true e rest = subst (λ (p : Part). IsLoosened ts p.loose (shape_of p.component)) (same_Some x.1 part e) all.0
    one false e rest = rest e

-- ---- what is found, in the list that is seen

module _ (es : List (ℕ × Part)) (next id : ℕ) (l : ComponentList) (seen : held_list es next ≡ l) where
  pub at_seen : component_at (component_entries l.entries) id ≡ option_map (λ (p : Part). component_entry (held_component id p.component)) (lookup (is_at (nat_cmp id)) es)
  at_seen = ap (λ (m : ComponentList). component_at (component_entries m.entries) id) (sym seen) ∙ part_at es id

  pub part_absent : (s : ComponentEntry) → lookup (is_at (nat_cmp id)) es ≡ None → component_at (component_entries l.entries) id ≡ Some s → ⊥
  part_absent s none at = let both : None ≡ Some s = sym (at_seen ∙ ap (option_map (λ (p : Part). component_entry (held_component id p.component))) none) ∙ at in cc

  pub part_shape : (ts : List PlainTree) (part : Part) (s : ComponentEntry) → AllByRecursion (IsLoosePart ts) es → lookup (is_at (nat_cmp id)) es ≡ Some part → component_at (component_entries l.entries) id ≡ Some s → IsLoosened ts part.loose s.shape
  part_shape ts part s all found at =
      let same : component_entry (held_component id part.component) ≡ s =
      same_Some (component_entry (held_component id part.component)) s
      (sym (at_seen ∙ ap (option_map (λ (p : Part). component_entry (held_component id p.component))) found) ∙ at) in
      subst (λ (x : ComponentEntry). IsLoosened ts part.loose x.shape) same (part_loose ts es (is_at (nat_cmp id)) part all found)

pub list_removed : (es fs : List (ℕ × Part)) (next id : ℕ) (l : ComponentList) → CountUp 0 (keys_of es) next → fs ≡ remove_entry (is_at (nat_cmp id)) es → held_list es next ≡ l
    → held_list fs next ≡ record { entries = filter (λ (c : HeldComponent). not (id == c.id)) l.entries; next = l.next }
list_removed es fs next id l up is seen =
    ap (λ (gs : List (ℕ × Part)). held_list gs next) (is ∙ removed id 0 next es up)
    ∙ (λ i. record { entries = held_filtered id es i; next = next })
    ∙ ap (λ (m : ComponentList). let n : ComponentList = record { entries = filter (λ (c : HeldComponent). not (id == c.id)) m.entries; next = m.next } in n) seen

pub list_added : (es fs : List (ℕ × Part)) (next more : ℕ) (part : Part) (l : ComponentList) → fs ≡ es ++ (next, part) ∷ [] → more ≡ suc next → held_list es next ≡ l
    → held_list fs more ≡ record { entries = l.entries ++ held_component l.next part.component ∷ []; next = suc l.next }
list_added es fs next more part l is up seen =
    (λ i. held_list (is i) (up i))
    ∙ (λ i. record { entries = map-append held_part es ((next, part) ∷ []) i; next = suc next })
    ∙ ap (λ (m : ComponentList). let n : ComponentList = record { entries = m.entries ++ held_component m.next part.component ∷ []; next = suc m.next } in n) seen
