-- How what is asked under a name merges with what was asked under it before.
use Rattle.std.proofs.Common.{◌≡◌, ℕ, zero, suc, ◌<◌, get_or, Bool, true, false, cond, List, [], ◌∷◌, ◌++◌, length, refl, sym, ap, subst, ◌∙◌, arith, set}
use Rattle.std.specs.Prelude.{◌&&◌, Option, Some, None, option_map, slice_get, bytes_eq, find, fold, All, Vec}
use Rattle.std.specs.Global.{Global}
use Rattle.std.specs.Option.{option_map_or, option_or}
use Rattle.std.specs.Ordering.{is_eq, nat_cmp}
use Rattle.std.specs.BTreeMap.{BTreeMap, Updates, get}
use Rattle.std.specs.Cmp.Lexicographic.{nat_list_eq_equiv, same_text, slice_cmp, texts_ties}
use Rattle.std.proofs.lemmas.Bool.{and_parts}
use Rattle.std.proofs.lemmas.List.{append-nil, append_assoc, length-map, map-append, map-set}
use Rattle.std.proofs.lemmas.List.Elements.{All-push}
use Rattle.std.proofs.lemmas.List.Sums.{fold-append}
use Rattle.comp_entity.specs.Entity.{EntityTree}
use Rattle.std.proofs.lemmas.Option.{slice_get-map, slice_get_read, slice_get_within}
use Rattle.compose_left.specs.Merged.{IsDisagreement as IsDifference, IsMerged, calls, import_name, merged, name_cmp}
use Rattle.compose_left.specs.Merging.{agree, union}
use Rattle.compose_left.specs.Spots.{spots_in}
use Rattle.compose_left.specs.declared.merge.MergedImport.{MergedImport}
use Rattle.compose_order.specs.Known.{FindsImports, merged_left}
use Rattle.compose_order.specs.Needs.{LeftTree, place_named}
use Rattle.warg_values.specs.declared.text.Text.{Text}
use Rattle.compose_check.specs.Merging.{AreMerged, AreMerging, Differs, MergesAt, Takes, lefts_in}
use Rattle.compose_check.specs.declared.open.Merging.{Merging}
use Rattle.compose_check.specs.Open.{Asked, IsDisagreement, agrees, all_agree, is_named, left_alone, merged_all, merged_with, with_asked}

no_truth : {A : Type 0} → true ≡ false → A
no_truth h = absurd cc

-- ---- one more is asked

-- an import of this name stands at this place
pub record IsFound (ls : List LeftTree) (x : Asked) (place : ℕ) : Type 0 where
  pub import : LeftTree
  pub named : x.0 ≡ import.name
  pub there : slice_get ls place ≡ Some import
  pub agrees_so : agrees ls x ≡ agree import.entity x.1
  pub merges_so : with_asked ls x ≡ set ls place (merged_with import x.1)

same_place : (a b : ℕ) → Some a ≡ Some b → a ≡ b
same_place a b e = cc

pub found : (ls : List LeftTree) (x : Asked) (place : ℕ) → place_named ls x.0 ≡ Some place → IsFound ls x place
found [] x place e = absurd cc
found (l ∷ ls) x place e = by (bytes_eq x.0 l.name) refl (found ls x)
  where
    at_head : bytes_eq x.0 l.name ≡ true → IsFound (l ∷ ls) x 0
    at_head is = record {
      import = l;
      named = same_text x.0 l.name (sym is);
      there = refl;
      agrees_so = ap (λ b. option_map_or (λ (m : LeftTree). agree m.entity x.1) (cond b (Some l) (find (is_named x.0) ls)) true) is;
      merges_so = ap (λ b. cond b (merged_with l x.1 ∷ ls) (l ∷ with_asked ls x)) is;
    }

    later : bytes_eq x.0 l.name ≡ false → (j : ℕ) → IsFound ls x j → IsFound (l ∷ ls) x (suc j)
    later is j f = record {
      import = f.import;
      named = f.named;
      there = f.there;
      agrees_so = ap (λ b. option_map_or (λ (m : LeftTree). agree m.entity x.1) (cond b (Some l) (find (is_named x.0) ls)) true) is ∙ f.agrees_so;
      merges_so = ap (λ b. cond b (merged_with l x.1 ∷ ls) (l ∷ with_asked ls x)) is ∙ ap (λ ms. l ∷ ms) f.merges_so;
    }

    deeper : bytes_eq x.0 l.name ≡ false → (o : Option ℕ) → place_named ls x.0 ≡ o → option_map suc o ≡ Some place → ((j : ℕ) → place_named ls x.0 ≡ Some j → IsFound ls x j) → IsFound (l ∷ ls) x place
    deeper is None at same further = absurd cc
    deeper is (Some j) at same further = subst (IsFound (l ∷ ls) x) (same_place (suc j) place same) (later is j (further j at))

    by : (b : Bool) → bytes_eq x.0 l.name ≡ b → ((j : ℕ) → place_named ls x.0 ≡ Some j → IsFound ls x j) → IsFound (l ∷ ls) x place
    by true is further = subst (IsFound (l ∷ ls) x) (same_place 0 place (sym (ap (λ b. cond b (Some 0) (option_map suc (place_named ls x.0))) is) ∙ e)) (at_head is)
    by false is further = deeper is (place_named ls x.0) refl (sym (ap (λ b. cond b (Some 0) (option_map suc (place_named ls x.0))) is) ∙ e) further

-- no import has this name
pub record IsNew (ls : List LeftTree) (x : Asked) : Type 0 where
  pub agrees_so : agrees ls x ≡ true
  pub stands_last : with_asked ls x ≡ ls ++ left_alone x ∷ []

pub not_found : (ls : List LeftTree) (x : Asked) → place_named ls x.0 ≡ None → IsNew ls x
not_found [] x e = record { agrees_so = refl; stands_last = refl }
not_found (l ∷ ls) x e = by (bytes_eq x.0 l.name) refl (not_found ls x)
  where
    none : (o : Option ℕ) → option_map suc o ≡ None → o ≡ None
    none None f = refl
    none (Some j) f = absurd cc

    by : (b : Bool) → bytes_eq x.0 l.name ≡ b → (place_named ls x.0 ≡ None → IsNew ls x) → IsNew (l ∷ ls) x
    by true is later = absurd (let bad : Some 0 ≡ None = sym (ap (λ b. cond b (Some 0) (option_map suc (place_named ls x.0))) is) ∙ e in cc)
    by false is later =
        let new = later (none (place_named ls x.0) (sym (ap (λ b. cond b (Some 0) (option_map suc (place_named ls x.0))) is) ∙ e)) in
        record {
          agrees_so = ap (λ b. option_map_or (λ (m : LeftTree). agree m.entity x.1) (cond b (Some l) (find (is_named x.0) ls)) true) is ∙ new.agrees_so;
          stands_last = ap (λ b. cond b (merged_with l x.1 ∷ ls) (l ∷ with_asked ls x)) is ∙ ap (λ ms. l ∷ ms) new.stands_last;
        }

-- ---- places by names

-- an import that merges keeps its name
place_kept : (ls : List LeftTree) (place : ℕ) (l : LeftTree) (e : EntityTree) (name : List ℕ) → slice_get ls place ≡ Some l → place_named (set ls place (merged_with l e)) name ≡ place_named ls name
place_kept [] place l e name at = absurd cc
place_kept (m ∷ ls) zero l e name at =
    let same : m ≡ l = cc in
    ap (λ (n : LeftTree). cond (bytes_eq name n.name) (Some 0) (option_map suc (place_named ls name))) (sym same)
place_kept (m ∷ ls) (suc place) l e name at = ap (λ o. cond (bytes_eq name m.name) (Some 0) (option_map suc o)) (place_kept ls place l e name at)

pub places_kept : (places : BTreeMap Text ℕ) (ls : List LeftTree) (place : ℕ) (l : LeftTree) (e : EntityTree) → FindsImports places ls → slice_get ls place ≡ Some l → FindsImports places (set ls place (merged_with l e))
places_kept places ls place l e finds at name = finds name ∙ sym (place_kept ls place l e name at)

place_push : (ls : List LeftTree) (l : LeftTree) (name : List ℕ) → place_named (ls ++ l ∷ []) name ≡ option_or (place_named ls name) (cond (bytes_eq name l.name) (Some (length ls)) None)
place_push [] l name = by (bytes_eq name l.name)
  where
    by : (b : Bool) → cond b (Some 0) None ≡ option_or {T = ℕ} None (cond b (Some 0) None)
    by true = refl
    by false = refl
place_push (m ∷ ls) l name = ap (λ o. cond (bytes_eq name m.name) (Some 0) (option_map suc o)) (place_push ls l name) ∙ by (bytes_eq name m.name) (place_named ls name) (bytes_eq name l.name)
  where
    by : (b : Bool) (o : Option ℕ) (d : Bool) → cond b (Some 0) (option_map suc (option_or o (cond d (Some (length ls)) None))) ≡ option_or (cond b (Some 0) (option_map suc o)) (cond d (Some (suc (length ls))) None)
    by true o d = refl
    by false None true = refl
    by false None false = refl
    by false (Some j) d = refl

ties : (k q : List ℕ) → bytes_eq q k ≡ is_eq (slice_cmp nat_cmp k q)
ties k q = nat_list_eq_equiv.symm q k ∙ texts_ties k q

-- a new import is found by its name
pub place_added : (old new : BTreeMap Text ℕ) (ls : List LeftTree) (l : LeftTree) → FindsImports old ls → get name_cmp old l.name ≡ None → Updates name_cmp old new l.name (Some (length ls)) → FindsImports new (ls ++ l ∷ [])
place_added old new ls l finds none updates q =
    updates.0 q ∙ (λ i. cond (sym (ties l.name q) i) (Some (length ls)) (finds q i)) ∙ by (bytes_eq q l.name) (place_named ls q) refl refl ∙ sym (place_push ls l q)
  where
    by : (b : Bool) (o : Option ℕ) → bytes_eq q l.name ≡ b → place_named ls q ≡ o → cond b (Some (length ls)) o ≡ option_or o (cond b (Some (length ls)) None)
    by true None is at = refl
    by true (Some j) is at = absurd (let bad : Some j ≡ None = sym at ∙ ap (place_named ls) (same_text q l.name (sym is)) ∙ sym (finds l.name) ∙ none in cc)
    by false None is at = refl
    by false (Some j) is at = refl

-- ---- imports in memory

left_is : (list : List MergedImport) (place : ℕ) (old : MergedImport) (l : LeftTree) → place < length list → old ≡ get_or list place old → slice_get (lefts_in list) place ≡ Some l → merged_left old ≡ l
left_is list place old l there is at =
    let same : Some (merged_left old) ≡ Some l = sym (slice_get-map merged_left list place ∙ ap (option_map merged_left) (slice_get_read list (length list) place old refl there is)) ∙ at in
    cc

-- what is asked was merged into the import of this place
pub merges_at : (list : List MergedImport) (place : ℕ) (old new : MergedImport) (l : LeftTree) (e : EntityTree) → place < length list → old ≡ get_or list place old → slice_get (lefts_in list) place ≡ Some l
    → import_name new ≡ import_name old → merged new ≡ union (merged old) e → calls new ≡ calls old ++ spots_in 0 (import_name old) [] e → agree (merged old) e ≡ true
    → MergesAt (lefts_in list) (lefts_in (set list place new)) place l e
merges_at list place old new l e there is at name entity called agreed =
    subst (λ (m : LeftTree). MergesAt (lefts_in list) (lefts_in (set list place new)) place m e) (left_is list place old l there is at) (record {
      lefts = map-set merged_left list place new ∙ (λ i. set (lefts_in list) place (record { name = name i; entity = entity i; calls = called i }));
      agree = agreed;
    })

-- what is asked under a name that no import has
pub record AreAdded (old new : Merging) (x : Asked) : Type 0 where
  pub merging : AreMerging new
  pub takes : Takes (lefts_in old.list.items) (lefts_in new.list.items) x

pub added : (old new : Merging) (x : Asked) (import : MergedImport) (noted : List ℕ) (place : ℕ) → AreMerging old → get name_cmp old.places x.0 ≡ None → new.list.items ≡ old.list.items ++ import ∷ [] → merged_left import ≡ left_alone x → IsMerged import
    → noted ≡ x.0 → place ≡ length old.list.items → Updates name_cmp old.places new.places noted (Some place) → AreAdded old new x
added old new x import noted place are none list is made name last updates = record {
  merging = record {
    places = subst (FindsImports new.places) (sym lefts_are) (place_added old.places new.places ls (left_alone x) are.places none noted_there);
    merged = subst (All IsMerged) (sym list) (All-push IsMerged old.list.items import are.merged made);
  };
  takes = record {
    lefts = lefts_are ∙ sym new_there.stands_last;
    agrees = new_there.agrees_so;
  };
}
  where
    ls : List LeftTree
    ls = lefts_in old.list.items

    noted_there : Updates name_cmp old.places new.places x.0 (Some (length ls))
    noted_there = subst (λ k. Updates name_cmp old.places new.places x.0 (Some k)) (last ∙ sym (length-map old.list.items merged_left)) (subst (λ n. Updates name_cmp old.places new.places n (Some place)) name updates)

    lefts_are : lefts_in new.list.items ≡ ls ++ left_alone x ∷ []
    lefts_are = ap lefts_in list ∙ map-append merged_left old.list.items (import ∷ []) ∙ ap (λ l. ls ++ l ∷ []) is

    new_there : IsNew ls x
    new_there = not_found ls x (sym (are.places x.0) ∙ none)

-- what is asked under a name that an import has
pub found_in : (m : Merging) (x : Asked) (place : ℕ) → AreMerging m → get name_cmp m.places x.0 ≡ Some place → IsFound (lefts_in m.list.items) x place
found_in m x place are at = found (lefts_in m.list.items) x place (sym (are.places x.0) ∙ at)

pub place_within : (list : List MergedImport) (x : Asked) (place : ℕ) → IsFound (lefts_in list) x place → place < length list
place_within list x place f = let size = length-map list merged_left in let within = slice_get_within (lefts_in list) place f.import f.there in omega (arith, size, within)

pub still_merging : (m : Merging) (list : Vec MergedImport Global) (x : Asked) (place : ℕ) → AreMerging m → (f : IsFound (lefts_in m.list.items) x place) → MergesAt (lefts_in m.list.items) (lefts_in list.items) place f.import x.1 → All IsMerged list.items
    → AreMerging (record { list = list; places = m.places })
still_merging m list x place are f merges made = record {
  places = subst (FindsImports m.places) (sym merges.lefts) (places_kept m.places (lefts_in m.list.items) place f.import x.1 are.places f.there);
  merged = made;
}

pub takes_at : (old new : List LeftTree) (x : Asked) (place : ℕ) → (f : IsFound old x place) → MergesAt old new place f.import x.1 → Takes old new x
takes_at old new x place f merges = record { lefts = merges.lefts ∙ sym f.merges_so; agrees = f.agrees_so ∙ merges.agree }

pub differs_at : (old : List LeftTree) (x : Asked) (place : ℕ) (name : List ℕ) → (f : IsFound old x place) → IsDifference f.import.name name (agree f.import.entity x.1) → Differs old x name
differs_at old x place name f d = record { named = d.named ∙ sym f.named; differs = f.agrees_so ∙ d.differ }

-- ---- one after the other

all_agree_push : (ls : List LeftTree) (xs : List Asked) (x : Asked) → all_agree ls xs ≡ true → agrees (fold with_asked ls xs) x ≡ true → all_agree ls (xs ++ x ∷ []) ≡ true
all_agree_push ls [] x a b = ap (λ c. c && true) b
all_agree_push ls (y ∷ xs) x a b =
    let parts = and_parts (agrees ls y) (all_agree (with_asked ls y) xs) a in
    (λ i. parts.0 i && all_agree_push (with_asked ls y) xs x parts.1 b i)

pub merged_more : (all rest : List Asked) (x : Asked) (old new : List LeftTree) → AreMerged all (x ∷ rest) old → new ≡ with_asked old x → agrees old x ≡ true → AreMerged all rest new
merged_more all rest x old new m is agreed = record {
  before = m.before ++ x ∷ [];
  whole = m.whole ∙ sym (append_assoc m.before (x ∷ []) rest);
  lefts = is ∙ ap (λ ls. with_asked ls x) m.lefts ∙ sym (fold-append with_asked [] m.before (x ∷ []));
  agree = all_agree_push [] m.before x m.agree (ap (λ ls. agrees ls x) (sym m.lefts) ∙ agreed);
}

pub disagreement : (all rest : List Asked) (x : Asked) (lefts : List LeftTree) (name : List ℕ) → AreMerged all (x ∷ rest) lefts → Differs lefts x name → IsDisagreement all name
disagreement all rest x lefts name m d = record {
  before = m.before;
  asked = x;
  after = rest;
  all = m.whole;
  agreed = m.agree;
  differs = ap (λ ls. agrees ls x) (sym m.lefts) ∙ d.differs;
  named = d.named;
}

pub all_merged : (all : List Asked) (lefts : List LeftTree) → AreMerged all [] lefts → (lefts ≡ merged_all all) × (all_agree [] all ≡ true)
all_merged all lefts m =
    let same = sym (m.whole ∙ append-nil m.before) in
    (m.lefts ∙ ap merged_all same, ap (all_agree []) (sym same) ∙ m.agree)
