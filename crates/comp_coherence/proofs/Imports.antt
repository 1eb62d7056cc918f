-- Imports, and declared exports, keep one name for one type.
use Rattle.std.proofs.Common.{◌≡◌, ℕ, ◌+◌, ◌-◌, Bool, true, false, cond, List, [], ◌∷◌, ◌++◌, Option, Some, Result, Ok, refl, sym, subst, ◌∙◌, arith}
use Rattle.std.specs.Prelude.{nat_lt, ◌==◌}
use Rattle.warg_values.specs.Reading.{◌>>=◌}
use Rattle.warg_values.specs.ReadingLaws.{bind_ok, ok_is, guard_ok}
use Rattle.comp_format.specs.declared.types.TypeRef.{TypeRef}
use Rattle.comp_entity.specs.Entity.{Name, ValueTree}
use Rattle.comp_entity.specs.Names.{Counts}
use Rattle.comp_entity.specs.Bounds.{ShapeFault, Index, Bounds}
use Rattle.comp_scope.specs.Spaces.{Spaces, Known, Standing, is_taken, counts_sum}
use Rattle.comp_scope.specs.Descriptions.{new_brought, new_made, Described, described, with_brought, with_made, with_import, with_export, imported, declared_export}
use Rattle.comp_coherence.specs.Coherence.{Names, Coheres}
use Rattle.comp_coherence.proofs.Values.{mentions}
use Rattle.comp_coherence.proofs.Changes.{Grows, grown, joined}
use Rattle.comp_coherence.proofs.Scopes.{seen_through, AllKept, Holds, HoldsAll, FurtherAll, ListKept, kept_grown, list_grown, added_holds, extended, first}
use Rattle.comp_coherence.proofs.NewNames as new
use Rattle.comp_coherence.proofs.Described.{settled, kept_is, with_new, NewSide, Keeping, described_keeps}

-- the names that were there, without what is asked of them
unsettled : (names : Names) (side base count resources : ℕ) (f : ℕ → Option ValueTree) → Grows (extended (settled names) side base count resources f) (extended names side base count resources f)
unsettled names side base count resources f = record { resource = λ r h. h; tree = λ n t h. of n t (n.out == side) (nat_lt n.number base) h }
  where
    of : (n : Name) (t : ValueTree) (b c : Bool)
        → cond b (cond c ((settled names).tree n) (first names side base count resources f (n.number - base))) ((settled names).tree n) ≡ Some t
        → cond b (cond c (names.tree n) (first names side base count resources f (n.number - base))) (names.tree n) ≡ Some t
    of n t true true h = kept_is (mentions names.resource) (names.tree n) t h
    of n t true false h = h
    of n t false c h = kept_is (mentions names.resource) (names.tree n) t h

-- the same index spaces beside other counts
pub with_counts : (names : Names) (s : Spaces) (makes brings : Counts) → AllKept names s → AllKept names (record s { made = makes; brought = brings })
with_counts names s makes brings k = record { modules = k.modules; funcs = k.funcs; types = k.types; components = k.components; instances = k.instances; only_modules = k.only_modules; only_types = k.only_types; only_components = k.only_components }

one_more : (names : Names) (es : List (List ℕ × Standing)) (name : List ℕ) (e : Standing) → ListKept names es → Coheres names e.0 → ListKept names (es ++ (name, e) ∷ [])
one_more names es name e h k = joined (λ e. Coheres names e.1.0) es ((name, e) ∷ []) h (k, tt)

module _ (b : Bounds) (is_closed : Bool) (names around : Names) where
  -- ---- what an import brings

  module _ (s : Spaces) (h : Holds is_closed s names around) (closed : is_closed ≡ true) where
    brought_side : NewSide is_closed s.made s.brought names (seen_through is_closed around) h.scope 1 s.brought.places (λ c. 0) (new_brought s)
    brought_side = record {
      place = λ j. refl;
      resource = λ c j lt. h.scope.brought_resource closed (s.brought.resources + j);
      free = h.scope.brought_free closed;
    }

    abbrev Brings : Described → Type 0
    Brings d = Keeping is_closed s.made s.brought names (seen_through is_closed around) h.scope 1 s.brought.places (λ c. 0) (new_brought s) d

    module _ (d : Described) (k : Brings d) where
      abbrev brought_names : Names
      brought_names = new.with_brought is_closed s.made s.brought names (seen_through is_closed around) h.scope d.brings k.trees

      brought_grows : Grows names brought_names
      brought_grows = new.brought_grows is_closed s.made s.brought names (seen_through is_closed around) h.scope d.brings k.trees closed

      brought_keeps : Coheres brought_names d.standing.0
      brought_keeps = grown _ brought_names (unsettled names 1 s.brought.places d.brings.places (s.made.resources + 0) k.trees) d.standing.0 k.keeps

      brought_holds : (after : Spaces) → with_brought b s d ≡ Ok after → Holds is_closed after brought_names around
      brought_holds after is =
          added_holds brought_names is_closed around (record s { brought = counts_sum s.brought d.brings })
          (record {
            closed = h.closed;
            scope = new.brought_scope is_closed s.made s.brought names (seen_through is_closed around) h.scope d.brings k.trees closed;
            kept = with_counts brought_names s s.made (counts_sum s.brought d.brings) (kept_grown names brought_names brought_grows s h.kept);
          })
          b d.standing.0 d.standing.1 after brought_keeps is

  pub import_kept : (k : Known) → HoldsAll is_closed k names around → is_closed ≡ true → (name : List ℕ) (ref : TypeRef) (after : Known) → imported b k name ref ≡ Ok after → FurtherAll is_closed after names around
  unfolding imported
  import_kept k h closed name ref after is =
      let fresh = guard_ok (is_taken name k.imports) Index _ after is in
      let d = bind_ok (described k.spaces (new_brought k.spaces) ref) _ after fresh.1 in
      let s = bind_ok (with_brought b k.spaces d.0) _ after d.2 in
      let keeping = described_keeps is_closed k.spaces.made k.spaces.brought names (seen_through is_closed around) h.spaces.scope 1 k.spaces.brought.places (λ c. 0) (new_brought k.spaces)
      (brought_side k.spaces h.spaces closed) k.spaces h.spaces.kept ref d.0 d.1 in
      let later : Names = brought_names k.spaces h.spaces closed d.0 keeping in
      let grows = brought_grows k.spaces h.spaces closed d.0 keeping in
      subst (λ k. FurtherAll is_closed k names around) (ok_is {F = ShapeFault} (with_import k name d.0.standing s.0) after s.2)
      (record {
        later = later;
        grows = grows;
        holds = record {
          spaces = brought_holds k.spaces h.spaces closed d.0 keeping s.0 s.1;
          imports = one_more later k.imports name d.0.standing (list_grown names later grows k.imports h.imports) (brought_keeps k.spaces h.spaces closed d.0 keeping);
          exports = list_grown names later grows k.exports h.exports;
        };
      })

  -- ---- what an export makes

  module _ (s : Spaces) (h : Holds is_closed s names around) where
    pub made_side : NewSide is_closed s.made s.brought names (seen_through is_closed around) h.scope 0 s.made.places (λ c. c) (new_made s)
    made_side = record { place = λ j. refl; resource = λ c j lt. grind arith; free = h.scope.made_free }

    module _ (brings : Counts) (trees : ℕ → Option ValueTree) where
      abbrev pub made_names : Names
      made_names = new.with_made is_closed s.made s.brought names (seen_through is_closed around) h.scope brings trees

      pub made_grows : Grows names made_names
      made_grows = new.made_grows is_closed s.made s.brought names (seen_through is_closed around) h.scope brings trees

      pub made_counts : Holds is_closed (record s { made = counts_sum s.made brings }) made_names around
      made_counts = record {
        closed = h.closed;
        scope = new.made_scope is_closed s.made s.brought names (seen_through is_closed around) h.scope brings trees;
        kept = with_counts made_names s (counts_sum s.made brings) s.brought (kept_grown names made_names made_grows s h.kept);
      }

    pub made_keeps : (d : Described) (trees : ℕ → Option ValueTree) → Coheres (with_new is_closed s.made s.brought names (seen_through is_closed around) h.scope 0 s.made.places (λ c. c) (new_made s) d.brings trees) d.standing.0 → Coheres (made_names d.brings trees) d.standing.0
    made_keeps d trees k = grown _ (made_names d.brings trees) (unsettled names 0 s.made.places d.brings.places (s.made.resources + d.brings.resources) trees) d.standing.0 k

  module _ (k : Known) (h : HoldsAll is_closed k names around) (name : List ℕ) (after : Known) (d : Described) (trees : ℕ → Option ValueTree) (keeps : Coheres (made_names k.spaces h.spaces d.brings trees) d.standing.0) where
    pub export_kept : (r : Result Known ShapeFault) → r ≡ (with_made b k.spaces d >>= λ spaces. Ok (with_export k name d.standing spaces)) → r ≡ Ok after → FurtherAll is_closed after names around
    export_kept r same is =
        let s = bind_ok (with_made b k.spaces d) _ after (sym same ∙ is) in
        let later : Names = made_names k.spaces h.spaces d.brings trees in
        let grows = made_grows k.spaces h.spaces d.brings trees in
        subst (λ k. FurtherAll is_closed k names around) (ok_is {F = ShapeFault} (with_export k name d.standing s.0) after s.2)
        (record {
          later = later;
          grows = grows;
          holds = record {
            spaces = added_holds later is_closed around (record k.spaces { made = counts_sum k.spaces.made d.brings }) (made_counts k.spaces h.spaces d.brings trees) b d.standing.0 d.standing.1 s.0 keeps s.1;
            imports = list_grown names later grows k.imports h.imports;
            exports = one_more later k.exports name d.standing (list_grown names later grows k.exports h.exports) keeps;
          };
        })

  pub declared_kept : (k : Known) → HoldsAll is_closed k names around → (name : List ℕ) (ref : TypeRef) (after : Known) → declared_export b k name ref ≡ Ok after → FurtherAll is_closed after names around
  unfolding declared_export
  declared_kept k h name ref after is =
      let fresh = guard_ok (is_taken name k.exports) Index _ after is in
      let d = bind_ok (described k.spaces (new_made k.spaces) ref) _ after fresh.1 in
      let keeping = described_keeps is_closed k.spaces.made k.spaces.brought names (seen_through is_closed around) h.spaces.scope 0 k.spaces.made.places (λ c. c) (new_made k.spaces)
      (made_side k.spaces h.spaces) k.spaces h.spaces.kept ref d.0 d.1 in
      export_kept k h name after d.0 keeping.trees (made_keeps k.spaces h.spaces d.0 keeping.trees keeping.keeps) _ refl d.2
