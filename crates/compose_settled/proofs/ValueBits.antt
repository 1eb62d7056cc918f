-- The naming bits of types, where those of the places in them are so.
use Rattle.std.proofs.Common.{◌≡◌, ℕ, Bool, true, List, [], ◌∷◌, Option, Some, None, refl, sym, ap, ◌∙◌}
use Rattle.std.specs.Prelude.{◌&&◌, option_map}
use Rattle.std.specs.List.{list_all}
use Rattle.std.proofs.lemmas.Bool.{and_parts}
use Rattle.std.proofs.lemmas.Option.{same_Some}
use Rattle.comp_entity.specs.Entity.{Name, ValueTree, Primitive, TupleOf, RecordOf, VariantOf, ListOf, FlagsOf, EnumOf, OptionOf, ResultOf, Own, Borrow, ValueTrees, none, more, Cases, no_case, labelled, Payload, absent, present, FuncTree}
use Rattle.comp_entity.specs.Fits.{place_of}
use Rattle.comp_scope.specs.Spaces.{is_named}
use Rattle.compose_meaning.specs.Meaning as meaning
use Rattle.compose_naming.specs.Bits.{Bits, both, cases_bit, func_has_bit, has_bit, is_set, own_bit, param_has_bit, part_bit, parts_bit, payload_bit, place_bit, result_has_bit, value_bit}

-- both are known, where it is known of both
record AreBoth (a b : Option Bool) (c : Bool) : Type 0 where
  one : Bool
  other : Bool
  one_is : a ≡ Some one
  other_is : b ≡ Some other
  is : c ≡ (one && other)

are_both : (a b : Option Bool) (c : Bool) → both a b ≡ Some c → AreBoth a b c
are_both (Some x) (Some y) c h = record { one = x; other = y; one_is = refl; other_is = refl; is = sym (same_Some (x && y) c h) }
are_both (Some x) None c h = absurd cc
are_both None b c h = absurd cc

record IsMapped (f : Bool → Bool) (o : Option Bool) (c : Bool) : Type 0 where
  before : Bool
  before_is : o ≡ Some before
  is : c ≡ f before

mapped : (f : Bool → Bool) (o : Option Bool) (c : Bool) → option_map f o ≡ Some c → IsMapped f o c
mapped f None c h = absurd cc
mapped f (Some b) c h = record { before = b; before_is = refl; is = sym (same_Some (f b) c h) }

module _ (bits : Bits) (bit : Name → Bool) (so : (n : Name) (b : Bool) → bits n ≡ Some b → bit n ≡ b) where
  part_so : (t : ValueTree) (own : Bool) (x : Bool) → ((y : Bool) → own_bit bits t ≡ Some y → own ≡ y)
      → part_bit bits t (own_bit bits t) ≡ Some x → meaning.part_bit bit t own ≡ x
  part_so t own x h = one (place_of t)
    where
      one : (o : Option Name) → place_bit bits o (option_map (λ b. b && is_named t) (own_bit bits t)) ≡ Some x
          → meaning.place_bit bit o (own && is_named t) ≡ x
      one (Some n) e = so n x e
      one None e =
          let m = mapped (λ b. b && is_named t) (own_bit bits t) x e in
          ap (λ b. b && is_named t) (h m.before m.before_is) ∙ sym m.is

  and_so : (a b : Option Bool) (c d x : Bool) → ((y : Bool) → a ≡ Some y → c ≡ y) → ((y : Bool) → b ≡ Some y → d ≡ y)
      → both a b ≡ Some x → (c && d) ≡ x
  and_so a b c d x first second h =
      let parts = are_both a b x h in
      (λ i. first parts.one parts.one_is i && second parts.other parts.other_is i) ∙ sym parts.is

  mutual
    unfolding meaning.own_bit meaning.parts_bit meaning.cases_bit meaning.payload_bit

    pub own_so : (t : ValueTree) (x : Bool) → own_bit bits t ≡ Some x → meaning.own_bit bit t ≡ x
    own_so (Primitive p) x h = same_Some true x h
    own_so (TupleOf parts) x h = parts_so parts x h
    own_so (RecordOf place fields) x h = cases_so fields x h
    own_so (VariantOf place cases) x h = cases_so cases x h
    own_so (ListOf t) x h = part_so t (meaning.own_bit bit t) x (λ y e. own_so t y e) h
    own_so (FlagsOf place labels) x h = same_Some true x h
    own_so (EnumOf place labels) x h = same_Some true x h
    own_so (OptionOf t) x h = part_so t (meaning.own_bit bit t) x (λ y e. own_so t y e) h
    own_so (ResultOf ok err) x h =
        and_so (payload_bit bits ok) (payload_bit bits err) (meaning.payload_bit bit ok) (meaning.payload_bit bit err) x
        (λ y e. payload_so ok y e) (λ y e. payload_so err y e) h
    own_so (Own r) x h = same_Some true x h
    own_so (Borrow r) x h = same_Some true x h

    parts_so : (ts : ValueTrees) (x : Bool) → parts_bit bits ts ≡ Some x → meaning.parts_bit bit ts ≡ x
    parts_so none x h = same_Some true x h
    parts_so (more t ts) x h =
        and_so (part_bit bits t (own_bit bits t)) (parts_bit bits ts) (meaning.part_bit bit t (meaning.own_bit bit t)) (meaning.parts_bit bit ts) x
        (λ y e. part_so t (meaning.own_bit bit t) y (λ z f. own_so t z f) e) (λ y e. parts_so ts y e) h

    cases_so : (cs : Cases) (x : Bool) → cases_bit bits cs ≡ Some x → meaning.cases_bit bit cs ≡ x
    cases_so no_case x h = same_Some true x h
    cases_so (labelled label payload cases) x h =
        and_so (payload_bit bits payload) (cases_bit bits cases) (meaning.payload_bit bit payload) (meaning.cases_bit bit cases) x
        (λ y e. payload_so payload y e) (λ y e. cases_so cases y e) h

    payload_so : (p : Payload) (x : Bool) → payload_bit bits p ≡ Some x → meaning.payload_bit bit p ≡ x
    payload_so absent x h = same_Some true x h
    payload_so (present t) x h = part_so t (meaning.own_bit bit t) x (λ y e. own_so t y e) h

  set_is : (o : Option Bool) → is_set o ≡ true → o ≡ Some true
  set_is None e = absurd cc
  set_is (Some b) e = ap Some e

  value_so : (t : ValueTree) → has_bit bits t ≡ true → meaning.value_bit bit t ≡ true
  value_so t h = part_so t (meaning.own_bit bit t) true (λ y e. own_so t y e) (set_is (value_bit bits t) h)

  both_true : (a b : Bool) → a ≡ true → b ≡ true → (a && b) ≡ true
  both_true a b p q = (λ i. p i && q i)

  params_so : (ps : List (List ℕ × ValueTree)) → list_all (param_has_bit bits) ps ≡ true → meaning.params_bit bit ps ≡ true
  unfolding meaning.params_bit
  params_so [] h = refl
  params_so (p ∷ ps) h =
      let parts = and_parts (has_bit bits p.1) (list_all (param_has_bit bits) ps) h in
      both_true (meaning.value_bit bit p.1) (meaning.params_bit bit ps) (value_so p.1 parts.0) (params_so ps parts.1)

  result_so : (r : Option ValueTree) → result_has_bit bits r ≡ true → meaning.result_bit bit r ≡ true
  result_so None h = refl
  result_so (Some t) h = value_so t h

  pub func_so : (f : FuncTree) → func_has_bit bits f ≡ true → meaning.func_bit bit f ≡ true
  func_so f h =
      let parts = and_parts (list_all (param_has_bit bits) f.params) (result_has_bit bits f.result) h in
      both_true (meaning.params_bit bit f.params) (meaning.result_bit bit f.result) (params_so f.params parts.0) (result_so f.result parts.1)
