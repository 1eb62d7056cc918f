-- What exports mention can be had, or the first that mentions something else is found.
use Rattle.std.proofs.Common.{◌≡◌, ℕ, Bool, true, false, true≢false, cond, List, [], ◌∷◌, ◌++◌, refl, sym, ap, subst, ◌∙◌, append_assoc, flat_map, Option, Some, None}
use Rattle.std.specs.Prelude.{◌&&◌, ◌↔◌}
use Rattle.std.specs.List.{AllByRecursion, list_all}
use Rattle.std.proofs.lemmas.Bool.{and_parts}
use Rattle.std.proofs.lemmas.Grind.{flat_map-append}
use Rattle.std.proofs.lemmas.List.{append-nil}
use Rattle.std.proofs.lemmas.Option.{same_Some}
use Rattle.comp_entity.specs.Entity.{EntityTree}
use Rattle.compose_left.specs.declared.spots.Thing.{Thing}
use Rattle.compose_needs.specs.declared.place.Place.{Place}
use Rattle.compose_needs.specs.Exports.{NamedEntities, NamedEntity, export_hides, given_places, is_side_tied, own_places, side_hides}
use Rattle.compose_needs.specs.Hiding.{EntitiesAreHad, ExportsAreHad, HoldsEachTied, IsFirstHiding, entity_places, export_places}
use Rattle.compose_needs.specs.Lefts.{Lefts}
use Rattle.compose_needs.specs.Mentioned.{has}
use Rattle.compose_needs.specs.ThingLaws.{both}
use Rattle.compose_needs.specs.Tied.{are_tied, entity_holds_tied, named_in}
use Rattle.compose_needs.proofs.ComponentLaws.{holds_is}
use Rattle.compose_needs.proofs.TiedLaws.{tied_is}

and_assoc : (a b c : Bool) → (a && (b && c)) ≡ ((a && b) && c)
and_assoc true b c = refl
and_assoc false b c = refl

tied_append : (seen : List Thing) (ps qs : List Place) → are_tied seen (ps ++ qs) ≡ (are_tied seen ps && are_tied (seen ++ named_in ps) qs)
tied_append seen [] qs = ap (λ ts. are_tied ts qs) (sym (append-nil seen))
tied_append seen (p ∷ ps) qs =
    ap (λ b. list_all (has (seen ++ p.named)) p.asked && b) (tied_append (seen ++ p.named) ps qs ∙ ap (λ ts. are_tied (seen ++ p.named) ps && are_tied ts qs) (append_assoc seen p.named (named_in ps)))
    ∙ and_assoc (list_all (has (seen ++ p.named)) p.asked) (are_tied (seen ++ p.named) ps) (are_tied (seen ++ (p.named ++ named_in ps)) qs)

-- Some are gone over in turn: each has places, and may be refused for another reason too.
module _ (places : EntityTree → List Place) (more : EntityTree → Bool) where
  abbrev pub all_places : NamedEntities → List Place
  all_places es = flat_map (λ (e : NamedEntity). places e.1) es

  abbrev pub all_more : NamedEntities → Bool
  all_more es = list_all (λ (e : NamedEntity). more e.1) es

  abbrev pub passes : List Thing → NamedEntity → Bool
  passes seen e = are_tied seen (places e.1) && more e.1

  -- the first that is refused
  abbrev pub hides : List Thing → NamedEntities → Option (List ℕ)
  hides seen [] = None
  hides seen (e ∷ es) = cond (passes seen e) (hides (seen ++ named_in (places e.1)) es) (Some e.0)

  -- whether none is
  abbrev pub are_had : List Thing → NamedEntities → Bool
  are_had seen es = are_tied seen (all_places es) && all_more es

  had_step : (seen : List Thing) (e : NamedEntity) (es : NamedEntities) → are_had seen (e ∷ es) ≡ (passes seen e && are_had (seen ++ named_in (places e.1)) es)
  had_step seen e es =
      ap (λ b. b && (more e.1 && all_more es)) (tied_append seen (places e.1) (all_places es))
      ∙ turned (are_tied seen (places e.1)) (are_tied (seen ++ named_in (places e.1)) (all_places es)) (more e.1) (all_more es)
    where
      turned : (a b c d : Bool) → ((a && b) && (c && d)) ≡ ((a && c) && (b && d))
      turned true true true d = refl
      turned true true false d = refl
      turned true false true d = refl
      turned true false false d = refl
      turned false b c d = refl

  pub none_had : (seen : List Thing) (es : NamedEntities) → hides seen es ≡ None → are_had seen es ≡ true
  none_had seen [] e = nothing seen
    where
      nothing : (seen : List Thing) → are_had seen [] ≡ true
      nothing seen = refl
  none_had seen (x ∷ es) e = one (passes seen x) refl e (none_had (seen ++ named_in (places x.1)) es)
    where
      one : (b : Bool) → passes seen x ≡ b → cond b (hides (seen ++ named_in (places x.1)) es) (Some x.0) ≡ None → (hides (seen ++ named_in (places x.1)) es ≡ None → are_had (seen ++ named_in (places x.1)) es ≡ true) → are_had seen (x ∷ es) ≡ true
      one true h e rest = had_step seen x es ∙ both (passes seen x) (are_had (seen ++ named_in (places x.1)) es) h (rest e)
      one false h e rest = absurd cc

  pub had_none : (seen : List Thing) (es : NamedEntities) → are_had seen es ≡ true → hides seen es ≡ None
  had_none seen [] e = refl
  had_none seen (x ∷ es) e =
      let parts = and_parts (passes seen x) (are_had (seen ++ named_in (places x.1)) es) (sym (had_step seen x es) ∙ e) in
      (λ i. cond (parts.0 i) (hides (seen ++ named_in (places x.1)) es) (Some x.0)) ∙ had_none (seen ++ named_in (places x.1)) es parts.1

  had_more : (seen : List Thing) (done : NamedEntities) (x : NamedEntity) → are_had seen (done ++ x ∷ []) ≡ (are_had seen done && passes (seen ++ named_in (all_places done)) x)
  had_more seen [] x = had_step seen x [] ∙ alone seen x
    where
      and_true : (b : Bool) → (b && true) ≡ b
      and_true true = refl
      and_true false = refl

      alone : (seen : List Thing) (x : NamedEntity) → (passes seen x && are_had (seen ++ named_in (places x.1)) []) ≡ (are_had seen [] && passes (seen ++ named_in (all_places [])) x)
      alone seen x = and_true (passes seen x) ∙ ap (λ ts. passes ts x) (sym (append-nil seen))
  had_more seen (y ∷ done) x =
      had_step seen y (done ++ x ∷ [])
      ∙ ap (λ b. passes seen y && b) (had_more (seen ++ named_in (places y.1)) done x)
      ∙ and_assoc (passes seen y) (are_had (seen ++ named_in (places y.1)) done) (passes ((seen ++ named_in (places y.1)) ++ named_in (all_places done)) x)
      ∙ (λ i. sym (had_step seen y done) i && passes (behind i) x)
    where
      behind : ((seen ++ named_in (places y.1)) ++ named_in (all_places done)) ≡ seen ++ named_in (all_places (y ∷ done))
      behind = append_assoc seen (named_in (places y.1)) (named_in (all_places done)) ∙ ap (λ ts. seen ++ ts) (sym (flat_map-append (λ (p : Place). p.named) (places y.1) (all_places done)))

  pub record FirstRefused (es : NamedEntities) (n : List ℕ) : Type 0 where
    pub before : NamedEntities
    pub entity : NamedEntity
    pub after : NamedEntities
    pub all : es ≡ before ++ entity ∷ after
    pub had : are_had [] before ≡ true
    pub hidden : are_had [] (before ++ entity ∷ []) ≡ false
    pub named : n ≡ entity.0

  pub first_refused : (done es : NamedEntities) (n : List ℕ) → are_had [] done ≡ true → hides (named_in (all_places done)) es ≡ Some n → FirstRefused (done ++ es) n
  first_refused done [] n had e = absurd cc
  first_refused done (x ∷ es) n had e = one (passes (named_in (all_places done)) x) refl e (λ h k. first_refused (done ++ x ∷ []) es n h k)
    where
      with_it : (b : Bool) → passes (named_in (all_places done)) x ≡ b → are_had [] (done ++ x ∷ []) ≡ b
      with_it b h = had_more [] done x ∙ (λ i. had i && h i) ∙ itself b
        where
          itself : (b : Bool) → (true && b) ≡ b
          itself b = refl

      seen_then : named_in (all_places done) ++ named_in (places x.1) ≡ named_in (all_places (done ++ x ∷ []))
      seen_then =
          sym (ap named_in (flat_map-append (λ (e : NamedEntity). places e.1) done (x ∷ []) ∙ ap (λ ps. all_places done ++ ps) (append-nil (places x.1))) ∙ flat_map-append (λ (p : Place). p.named) (all_places done) (places x.1))

      one : (b : Bool) → passes (named_in (all_places done)) x ≡ b → cond b (hides (named_in (all_places done) ++ named_in (places x.1)) es) (Some x.0) ≡ Some n
          → (are_had [] (done ++ x ∷ []) ≡ true → hides (named_in (all_places (done ++ x ∷ []))) es ≡ Some n → FirstRefused ((done ++ x ∷ []) ++ es) n)
          → FirstRefused (done ++ x ∷ es) n
      one true h e rest =
          subst (λ (all : NamedEntities). FirstRefused all n) (append_assoc done (x ∷ []) es)
          (rest (with_it true h) (ap (λ ts. hides ts es) (sym seen_then) ∙ e))
      one false h e rest = record { before = done; entity = x; after = es; all = refl; had = had; hidden = with_it false h; named = sym (same_Some x.0 n e) }

-- ---- exports of an instance

abbrev nothing_more : EntityTree → Bool
nothing_more e = true

exports_are : (left : Lefts) (seen : List Thing) (es : NamedEntities) → export_hides left seen es ≡ hides (given_places left) nothing_more seen es
exports_are left seen [] = refl
exports_are left seen (e ∷ es) = (λ i. cond (plain (are_tied seen (given_places left e.1)) i) (exports_are left (seen ++ named_in (given_places left e.1)) es i) (Some e.0))
  where
    plain : (b : Bool) → b ≡ (b && true)
    plain true = refl
    plain false = refl

had_exports : (left : Lefts) (es : NamedEntities) → are_had (given_places left) nothing_more [] es ≡ are_tied [] (export_places left es)
had_exports left es = ap (λ b. are_tied [] (export_places left es) && b) (all_pass es) ∙ plain (are_tied [] (export_places left es))
  where
    all_pass : (es : NamedEntities) → list_all (λ (e : NamedEntity). true) es ≡ true
    all_pass [] = refl
    all_pass (e ∷ es) = all_pass es

    plain : (b : Bool) → (b && true) ≡ b
    plain true = refl
    plain false = refl

pub exports_had : (left : Lefts) (es : NamedEntities) → (export_hides left [] es ≡ None) ↔ ExportsAreHad left es
exports_had left es = (
  λ e. (tied_is (export_places left es)).0 (sym (had_exports left es) ∙ none_had (given_places left) nothing_more [] es (sym (exports_are left [] es) ∙ e)),
  λ h. exports_are left [] es ∙ had_none (given_places left) nothing_more [] es (had_exports left es ∙ (tied_is (export_places left es)).1 h),
)

pub exports_hide : (left : Lefts) (es : NamedEntities) (n : List ℕ) → export_hides left [] es ≡ Some n → IsFirstHiding (ExportsAreHad left) es n
exports_hide left es n e =
    let f = first_refused (given_places left) nothing_more [] es n (empty (given_places left)) (sym (exports_are left [] es) ∙ e) in
    record {
      before = f.before;
      entity = f.entity;
      after = f.after;
      all = f.all;
      had = (tied_is (export_places left f.before)).0 (sym (had_exports left f.before) ∙ f.had);
      hidden = λ h. true≢false (sym (had_exports left (f.before ++ f.entity ∷ []) ∙ (tied_is (export_places left (f.before ++ f.entity ∷ []))).1 h) ∙ f.hidden);
      named = f.named;
    }
  where
    empty : (places : EntityTree → List Place) → are_had places nothing_more [] [] ≡ true
    empty places = refl

-- ---- imports and exports of a component

sides_are : (seen : List Thing) (es : NamedEntities) → side_hides seen es ≡ hides own_places entity_holds_tied seen es
sides_are seen [] = refl
sides_are seen (e ∷ es) = ap (λ o. cond (is_side_tied seen e.1) o (Some e.0)) (sides_are (seen ++ named_in (own_places e.1)) es)

each_holds : (es : NamedEntities) → list_all (λ (e : NamedEntity). entity_holds_tied e.1) es ≡ true → AllByRecursion HoldsEachTied es
each_holds [] h = tt
each_holds (e ∷ es) h = let parts = and_parts (entity_holds_tied e.1) (list_all (λ (e : NamedEntity). entity_holds_tied e.1) es) h in ((holds_is e.1).0 parts.0, each_holds es parts.1)

holds_each : (es : NamedEntities) → AllByRecursion HoldsEachTied es → list_all (λ (e : NamedEntity). entity_holds_tied e.1) es ≡ true
holds_each [] h = refl
holds_each (e ∷ es) h = both (entity_holds_tied e.1) (list_all (λ (e : NamedEntity). entity_holds_tied e.1) es) ((holds_is e.1).1 h.0) (holds_each es h.1)

had_sides : (es : NamedEntities) → (are_had own_places entity_holds_tied [] es ≡ true) ↔ EntitiesAreHad es
had_sides es = (
  λ h. let parts = and_parts (are_tied [] (entity_places es)) (list_all (λ (e : NamedEntity). entity_holds_tied e.1) es) h in record { tied = (tied_is (entity_places es)).0 parts.0; within = each_holds es parts.1 },
  λ h. both (are_tied [] (entity_places es)) (list_all (λ (e : NamedEntity). entity_holds_tied e.1) es) ((tied_is (entity_places es)).1 h.tied) (holds_each es h.within),
)

pub sides_had : (es : NamedEntities) → (side_hides [] es ≡ None) ↔ EntitiesAreHad es
sides_had es = (
  λ e. (had_sides es).0 (none_had own_places entity_holds_tied [] es (sym (sides_are [] es) ∙ e)),
  λ h. sides_are [] es ∙ had_none own_places entity_holds_tied [] es ((had_sides es).1 h),
)

pub sides_hide : (es : NamedEntities) (n : List ℕ) → side_hides [] es ≡ Some n → IsFirstHiding EntitiesAreHad es n
sides_hide es n e =
    let f = first_refused own_places entity_holds_tied [] es n empty (sym (sides_are [] es) ∙ e) in
    record {
      before = f.before;
      entity = f.entity;
      after = f.after;
      all = f.all;
      had = (had_sides f.before).0 f.had;
      hidden = λ h. true≢false (sym ((had_sides (f.before ++ f.entity ∷ [])).1 h) ∙ f.hidden);
      named = f.named;
    }
  where
    empty : are_had own_places entity_holds_tied [] [] ≡ true
    empty = refl
