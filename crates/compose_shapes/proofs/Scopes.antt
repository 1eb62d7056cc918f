-- What imports and exports of a scope mention, and what outer aliases and changes of names bring into it.
use Rattle.std.proofs.Common.{◌≡◌, ◌||◌, ◌+◌, ◌-◌, ℕ, zero, suc, Bool, true, false, List, [], ◌∷◌, ◌++◌, map, Option, Some, None, Result, Ok, Err, refl, sym, ap, subst, ◌∙◌, arith}
use Rattle.std.specs.Prelude.{◌&&◌, IfOk, IfSome, is_some, not, sum, take, unwrap_or, ◌==◌, if◌then◌else◌}
use Rattle.std.specs.List.{AllByRecursion}
use Rattle.std.specs.Str.{bytes_eq, str_eq_ignore_ascii_case, str_to_ascii_lowercase}
use Rattle.std.specs.Cmp.Lexicographic.{same_text}
use Rattle.std.proofs.lemmas.Cmp.{nat_list_eq_equiv}
use Rattle.std.proofs.lemmas.List.{append_assoc, append-nil}
use Rattle.std.proofs.lemmas.List.Sums.{sum_by-cons}
use Rattle.comp_entity.specs.Bounds.{ShapeFault}
use Rattle.comp_entity.specs.Entity.{Name, made, brought, EntityTree, Entries}
use Rattle.comp_entity.specs.Fits.{Stands, resource_for, place_for, under}
use Rattle.comp_entity.specs.Names.{changing, Counts, entries_by, in_entity, in_entries}
use Rattle.comp_scope.specs.Aliases.{Outer, outer_scope, width}
use Rattle.comp_scope.specs.Closing.{renumbered, closed}
use Rattle.comp_scope.specs.Exports.{fitted_resource, fitted_place, is_new}
use Rattle.comp_scope.specs.Instances.{or_made, resource_in, place_in}
use Rattle.comp_scope.specs.Spaces.{Spaces, Standing, at_index, entries_in, is_taken}
use Rattle.compose_left.specs.declared.spots.Thing.{Thing}
use Rattle.compose_left.specs.Merging.{is_absent}
use Rattle.compose_needs.specs.Mentioned.{mentioned, outwards}
use Rattle.compose_known.specs.Placed.{HasPlaces, HavePlaces}
use Rattle.compose_shapes.proofs.Known.{AllGood, Beyond, IsKnown, IsThere, Scope, scope, place_there, plain_by, resource_there, entries_changed}
use Rattle.compose_shapes.proofs.Mentions.{called, Further, entries_out, outwards-append}
use Rattle.compose_shapes.proofs.Standing.{SpacesGood}
use Rattle.compose_shapes.proofs.Things.{front, back, joined, weaker}
use Rattle.compose_shapes.proofs.Tied.{AllTied, Tied, AreOrdered, Ordered, names_of, names_among, entries_ordered}
use Rattle.compose_shapes.proofs.Values.{then_ok}

-- ---- one import or export more

abbrev pub Listed : Type 0
Listed = List (List ℕ × Standing)

pub names_more : (xs : Listed) (x : List ℕ × Standing)
    → names_among (entries_in (xs ++ x ∷ [])) ≡ names_among (entries_in xs) ++ names_of x.1.0
names_more [] x = append-nil (names_of x.1.0)
names_more (y ∷ xs) x =
    ap (λ ns. names_of y.1.0 ++ ns) (names_more xs x)
    ∙ sym (append_assoc (names_of y.1.0) (names_among (entries_in xs)) (names_of x.1.0))

module _ (P : Thing → Type 0) where
  pub mentions_more : (xs : Listed) (x : List ℕ × Standing) → AllByRecursion P (outwards (in_entries 0 (entries_in xs)))
      → AllByRecursion P (mentioned x.1.0) → AllByRecursion P (outwards (in_entries 0 (entries_in (xs ++ x ∷ []))))
  mentions_more [] x h k =
      subst (AllByRecursion P) (sym (outwards-append (in_entity 0 x.1.0) [])) (joined P (mentioned x.1.0) [] k tt)
  mentions_more (y ∷ xs) x h k =
      let parts = subst (AllByRecursion P) (outwards-append (in_entity 0 y.1.0) (in_entries 0 (entries_in xs))) h in
      subst (AllByRecursion P) (sym (outwards-append (in_entity 0 y.1.0) (in_entries 0 (entries_in (xs ++ x ∷ [])))))
      (joined P (mentioned y.1.0) (outwards (in_entries 0 (entries_in (xs ++ x ∷ []))))
      (front P (mentioned y.1.0) (outwards (in_entries 0 (entries_in xs))) parts)
      (mentions_more xs x (back P (mentioned y.1.0) (outwards (in_entries 0 (entries_in xs))) parts) k))

pub tied_more : (own : Thing → Bool) (seen : List Thing) (xs : Listed) (x : List ℕ × Standing)
    → AllTied own seen (entries_in xs) → Tied own (seen ++ names_among (entries_in xs)) x.1.0
    → AllTied own seen (entries_in (xs ++ x ∷ []))
tied_more own seen [] x h k = (subst (λ ns. Tied own ns x.1.0) (append-nil seen) k, tt)
tied_more own seen (y ∷ xs) x h k = (
  h.0,
  tied_more own (seen ++ names_of y.1.0) xs x h.1
      (subst (λ ns. Tied own ns x.1.0) (sym (append_assoc seen (names_of y.1.0) (names_among (entries_in xs)))) k),
)

pub placed_more : (xs : Listed) (x : List ℕ × Standing) → HavePlaces (entries_in xs) → HasPlaces x.1.0
    → HavePlaces (entries_in (xs ++ x ∷ []))
placed_more [] x h k = (k, tt)
placed_more (y ∷ xs) x h k = (h.0, placed_more xs x h.1 k)

name_is : (l k : List ℕ) → bytes_eq l k ≡ true → l ≡ k
name_is l k e = same_text l k (sym e)

-- names differ where they do with letter case set aside
differs : (name n : List ℕ) → str_eq_ignore_ascii_case name n ≡ false → bytes_eq n name ≡ false
differs name n h = one (bytes_eq n name) refl
  where
    one : (b : Bool) → bytes_eq n name ≡ b → b ≡ false
    one false e = refl
    one true e =
        let same : n ≡ name = name_is n name e in
        let itself : str_eq_ignore_ascii_case name name ≡ true = nat_list_eq_equiv.refl (str_to_ascii_lowercase name) in
        let other : str_eq_ignore_ascii_case name name ≡ false = ap (str_eq_ignore_ascii_case name) (sym same) ∙ h in
        let wrong : true ≡ false = sym itself ∙ other in
        absurd cc

absent_more : (n : List ℕ) (xs : Listed) (x : List ℕ × Standing) → bytes_eq n x.0 ≡ false
    → is_absent n (entries_in xs) ≡ true → is_absent n (entries_in (xs ++ x ∷ [])) ≡ true
absent_more n [] x d h = one (bytes_eq n x.0) d
  where
    one : (b : Bool) → b ≡ false → not (is_some {T = EntityTree × Bool} (if b then Some (x.1.0, x.1.1) else None))
        ≡ true
    one false e = refl
    one true e = absurd cc
absent_more n (y ∷ xs) x d h = one (bytes_eq n y.0) (absent_more n xs x d) h
  where
    one : (b : Bool) → (is_absent n (entries_in xs) ≡ true → is_absent n (entries_in (xs ++ x ∷ [])) ≡ true)
        → not (is_some {T = EntityTree × Bool} (if b then Some (y.1.0, y.1.1) else under n (entries_in xs))) ≡ true
        → not (is_some {T = EntityTree × Bool} (if b then Some (y.1.0, y.1.1) else under n (entries_in (xs ++ x ∷ []))))
        ≡ true
    one true rest k = k
    one false rest k = rest k

or_parts : (a b : Bool) → a || b ≡ false → (a ≡ false) × (b ≡ false)
or_parts false b h = (refl, h)
or_parts true b h = absurd cc

pub ordered_more : (xs : Listed) (x : List ℕ × Standing) → is_taken x.0 xs ≡ false → AreOrdered (entries_in xs)
    → Ordered x.1.0 → AreOrdered (entries_in (xs ++ x ∷ []))
ordered_more [] x free h k = (refl, k, tt)
ordered_more (y ∷ xs) x free h k =
    let parts = or_parts (str_eq_ignore_ascii_case x.0 y.0) (is_taken x.0 xs) free in
    (absent_more y.0 xs x (differs x.0 y.0 parts.0) h.0, h.1, ordered_more xs x parts.1 h.2 k)

-- ---- scopes around

abbrev pub AroundGood : List Scope → List Spaces → Type 0
AroundGood [] [] = Unit {0}
AroundGood (c ∷ cs) (s ∷ ss) = SpacesGood c.is_closed c.seen cs s × AroundGood cs ss
AroundGood [] (s ∷ ss) = ⊥
AroundGood (c ∷ cs) [] = ⊥

-- a thing as it is called so much further in
abbrev pub inward : ℕ → Thing → Thing
inward distance t = record t { out = t.out + distance }

-- a scope further out, of which all things may be mentioned within the scopes
pub record Outward (cs : List Scope) (distance : ℕ) (s : Spaces) : Type 0 where
  pub is_closed : Bool
  pub seen : List Thing
  pub rest : List Scope
  pub spaces : SpacesGood is_closed seen rest s
  pub known : (t : Thing) → IsKnown (scope is_closed seen ∷ rest) t → IsKnown cs (inward distance t)

-- things one scope further in
one_more : (c : Bool) (seen : List Thing) (cs : List Scope) (s : Spaces) → s.is_closed ≡ c → (distance : ℕ) (t : Thing)
    → IsKnown cs (inward distance t) → IsKnown (scope c seen ∷ cs) (inward (width s + distance) t)
one_more true seen cs s closed distance t h =
    let two : width s ≡ 2 = ap (λ b. if b then 2 else 1) closed in
    subst (λ w. IsKnown (scope true seen ∷ cs) (inward (w + distance) t)) (sym two) (
      (λ o. absurd (far t.is_type o)),
      (λ k e l f.
          let out : l ≡ t.out + distance = omega (arith, e, f) in
          subst (λ out. IsKnown cs (record { is_type = t.is_type; out = out; number = t.number })) (sym out) h),
    )
  where
    far : (b : Bool) → (b && (t.out + (2 + distance) == 1)) ≡ true → ⊥
    far true o = grind arith
    far false o = absurd cc
one_more false seen cs s closed distance t h =
    let one : width s ≡ 1 = ap (λ b. if b then 2 else 1) closed in
    subst (λ w. IsKnown (scope false seen ∷ cs) (inward (w + distance) t)) (sym one) (
      (λ o. absurd (far o)),
      (λ k e.
          let out : k ≡ t.out + distance = omega (arith, e) in
          subst (λ out. IsKnown cs (record { is_type = t.is_type; out = out; number = t.number })) (sym out) h),
    )
  where
    far : (t.out + (1 + distance) == 0) ≡ true → ⊥
    far o = grind arith

outward_at : (cs : List Scope) (ss : List Spaces) (count : ℕ) → AroundGood cs ss
    → IfOk (at_index ss count) (Outward cs (sum (map width (take count ss))))
outward_at [] [] count h = tt
outward_at (c ∷ cs) (s ∷ ss) zero h = record {
  is_closed = c.is_closed;
  seen = c.seen;
  rest = cs;
  spaces = h.0;
  known =
      λ t k. let same : t.out ≡ t.out + 0 = omega arith in
      subst (λ out. IsKnown (c ∷ cs) (record { is_type = t.is_type; out = out; number = t.number })) same k;
}
outward_at (c ∷ cs) (s ∷ ss) (suc count) h =
    subst (λ d. IfOk (at_index ss count) (Outward (c ∷ cs) d))
    (sym (sum_by-cons (λ x. x) (width s) (map width (take count ss))))
    (one (at_index ss count) (outward_at cs ss count h.1))
  where
    one : (r : Result Spaces ShapeFault) → IfOk r (Outward cs (sum (map width (take count ss))))
        → IfOk r (Outward (c ∷ cs) (width s + sum (map width (take count ss))))
    one (Err e) k = tt
    one (Ok x) k = record {
      is_closed = k.is_closed;
      seen = k.seen;
      rest = k.rest;
      spaces = k.spaces;
      known = λ t l. one_more c.is_closed c.seen cs s h.0.closed (sum (map width (take count ss))) t (k.known t l);
    }
outward_at [] (s ∷ ss) count h = absurd h
outward_at (c ∷ cs) [] count h = absurd h

abbrev pub OuterGood : List Scope → Outer → Type 0
OuterGood cs o = Outward cs o.distance o.spaces

pub outer_good : (cs : List Scope) (ss : List Spaces) (count : ℕ) → AroundGood cs ss
    → IfOk (outer_scope ss count) (OuterGood cs)
outer_good cs ss count h =
    then_ok (Outward cs (sum (map width (take count ss)))) (OuterGood cs) (at_index ss count) _
    (outward_at cs ss count h) (λ s k. k)

-- ---- changes of the names of a component

module _ (seen : List Thing) (ss : List Scope) where
  abbrev Here : Thing → Type 0
  Here = IsKnown (scope true seen ∷ ss)

  -- what a component makes may be mentioned in it
  pub made_here : (b : Bool) (n : ℕ) → Here (called b (made n))
  made_here true n = ((λ o. absurd cc), (λ k e l f. absurd cc))
  made_here false n = ((λ o. absurd cc), (λ k e l f. absurd cc))

  pub brought_beyond : (b : Bool) (n : ℕ) → Beyond true (IsKnown ss) (called b (brought n))
  brought_beyond b n = λ k e l f. absurd cc

  module _ (s : Spaces) (there : List Stands) (h : AllByRecursion (IsThere Here) there) where
    fitted : (t : Thing) → Here t → Here (plain_by (fitted_resource s there) (fitted_place s there) t)
    fitted t k = of t.is_type refl
      where
        as_resource : (b : Bool) (r : Option Name) → t.is_type ≡ false → IfSome r (λ r. Here (called false r))
            → Here (called false (if b then unwrap_or r (record { out = t.out; number = t.number })
            else record { out = t.out; number = t.number }))
        as_resource false r is l = subst (λ b. Here (record { is_type = b; out = t.out; number = t.number })) is k
        as_resource true None is l = subst (λ b. Here (record { is_type = b; out = t.out; number = t.number })) is k
        as_resource true (Some r) is l = l

        as_place : (b : Bool) (p : Option (Option Name)) → t.is_type ≡ true
            → IfSome p (λ p. IfSome p (λ n. Here (called true n)))
            → Here (called true (if b then unwrap_or (unwrap_or p None) (record { out = t.out; number = t.number })
            else record { out = t.out; number = t.number }))
        as_place false p is l = subst (λ b. Here (record { is_type = b; out = t.out; number = t.number })) is k
        as_place true None is l = subst (λ b. Here (record { is_type = b; out = t.out; number = t.number })) is k
        as_place true (Some None) is l = subst (λ b. Here (record { is_type = b; out = t.out; number = t.number })) is k
        as_place true (Some (Some p)) is l = l

        of : (b : Bool) → t.is_type ≡ b → Here (plain_by (fitted_resource s there) (fitted_place s there) t)
        of true is =
            subst (λ b. Here (called b (if b then fitted_place s there (record { out = t.out; number = t.number })
            else fitted_resource s there (record { out = t.out; number = t.number })))) (sym is)
            (as_place (is_new s.made.places (record { out = t.out; number = t.number }))
            (place_for there (record { out = t.out; number = t.number })) is
            (place_there Here there (record { out = t.out; number = t.number }) h))
        of false is =
            subst (λ b. Here (called b (if b then fitted_place s there (record { out = t.out; number = t.number })
            else fitted_resource s there (record { out = t.out; number = t.number })))) (sym is)
            (as_resource (is_new s.made.resources (record { out = t.out; number = t.number }))
            (resource_for there (record { out = t.out; number = t.number })) is
            (resource_there Here there (record { out = t.out; number = t.number }) h))

    pub fitted_good : (t : Thing) → Here t → Here (plain_by (fitted_resource s there) (fitted_place s there) t)
    fitted_good = fitted

    pub instance_good : (makes : Counts) (t : Thing) → Further (Further Here) t
        → Here (plain_by (resource_in s makes there) (place_in s makes there) t)
    instance_good makes t k = of t.is_type refl t.out refl
      where
        resource_of : (r : Option Name) (n : ℕ) → IfSome r (λ r. Here (called false r))
            → Here (called false (unwrap_or r (made n)))
        resource_of None n l = made_here false n
        resource_of (Some r) n l = l

        place_of : (p : Option (Option Name)) (n : ℕ) → IfSome p (λ p. IfSome p (λ n. Here (called true n)))
            → Here (called true (or_made n p))
        place_of None n l = made_here true n
        place_of (Some None) n l = made_here true n
        place_of (Some (Some p)) n l = l

        of : (b : Bool) → t.is_type ≡ b → (out : ℕ) → t.out ≡ out
            → Here (plain_by (resource_in s makes there) (place_in s makes there) t)
        of true is zero e = rw (is, e) (made_here true (s.made.places + t.number))
        of true is (suc zero) e =
            rw (is, e) (place_of (place_for there (brought t.number)) (s.made.places + makes.places + t.number)
            (place_there Here there (brought t.number) h))
        of true is (suc (suc out)) e =
            let zeroth : (suc (suc out) == 0) ≡ false = grind arith in
            let first : (suc (suc out) == 1) ≡ false = grind arith in
            let less : suc (suc out) - 2 ≡ out = omega arith in
            rw (is, e, zeroth, first, less) (subst (λ b. Here (record { is_type = b; out = out; number = t.number })) is
            (k (suc out) e out refl))
        of false is zero e = rw (is, e) (made_here false (s.made.resources + t.number))
        of false is (suc zero) e =
            rw (is, e) (resource_of (resource_for there (brought t.number))
            (s.made.resources + makes.resources + t.number) (resource_there Here there (brought t.number) h))
        of false is (suc (suc out)) e =
            let zeroth : (suc (suc out) == 0) ≡ false = grind arith in
            let first : (suc (suc out) == 1) ≡ false = grind arith in
            let less : suc (suc out) - 2 ≡ out = omega arith in
            rw (is, e, zeroth, first, less) (subst (λ b. Here (record { is_type = b; out = out; number = t.number })) is
            (k (suc out) e out refl))

  -- what a component makes is numbered anew where it closes
  renumbered_good : (resources places : List ℕ) (t : Thing) → Here t
      → Here (plain_by (renumbered resources) (renumbered places) t)
  renumbered_good resources places t k = of t.is_type refl
    where
      one : (b c : Bool) (n : ℕ) → t.is_type ≡ b
          → Here (called b (if c then made n else record { out = t.out; number = t.number }))
      one b true n is = made_here b n
      one b false n is = subst (λ b. Here (record { is_type = b; out = t.out; number = t.number })) is k

      of : (b : Bool) → t.is_type ≡ b → Here (plain_by (renumbered resources) (renumbered places) t)
      of true is =
          subst (λ b. Here (called b (if b then renumbered places (record { out = t.out; number = t.number })
          else renumbered resources (record { out = t.out; number = t.number })))) (sym is)
          (one true (t.out == 0) _ is)
      of false is =
          subst (λ b. Here (called b (if b then renumbered places (record { out = t.out; number = t.number })
          else renumbered resources (record { out = t.out; number = t.number })))) (sym is)
          (one false (t.out == 0) _ is)

  pub entries_closed : (resources places : List ℕ) (es : Entries) → AllGood (scope true seen ∷ ss) es
      → AllGood (scope true seen ∷ ss) (entries_by (changing (renumbered resources) (renumbered places)) 0 es)
  entries_closed resources places es h = (
    entries_changed (renumbered resources) (renumbered places) (λ m. m) Here Here (renumbered_good resources places) es
        h.0,
    entries_ordered (renumbered resources) (renumbered places) (λ m. m) 0 es h.1,
  )

  -- and then mentions what may be mentioned around it
  pub around_closed : (es : Entries) → AllByRecursion Here (outwards (in_entries 0 es))
      → AllByRecursion (IsKnown ss) (outwards (in_entries 2 es))
  around_closed es h =
      entries_out (IsKnown ss) 1 es (entries_out (Further (IsKnown ss)) 0 es
      (weaker Here (Beyond true (IsKnown ss)) (λ t k. k.1) (outwards (in_entries 0 es)) h))
