-- Two instances ask for one named type under one name of an import, each by a number of its own: a composition that can
-- be checked, of which what is left open can't be written.
use Rattle.std.proofs.Common.{◌≡◌, ℕ, zero, suc, List, [], ◌∷◌, Some, None, refl, sym, ◌∙◌, true, false, arith}
use Rattle.std.proofs.lemmas.Option.{same_Some}
use Rattle.comp_format.specs.declared.types.DefinedType.TheVariants as defined
use Rattle.comp_format.specs.declared.types.TypeRef.TheVariants as description
use Rattle.comp_format.specs.Definitions as tree
use Rattle.comp_format.specs.Definitions.{decls_of}
use Rattle.comp_entity.specs.Entity.{made, brought, Name, ValueTree, EnumOf, Value, EntityTree, IsType, IsFunc, IsInstance, no_entry, entry, ShapeTree}
use Rattle.comp_entity.specs.Names.{OfPlace}
use Rattle.compose_agree.specs.LetterCase.{AreApart, is_like}
use Rattle.compose_fit.specs.Fit.{Comparison, EachFits}
use Rattle.compose_left.specs.declared.wiring.Wire.{Wire}
use Rattle.compose_left.specs.Origins.{origin_within}
use Rattle.compose_left.specs.Wiring.{Wiring}
use Rattle.compose_needs.specs.Lefts.{lefts_of}
use Rattle.compose_order.specs.Needs.{LeftTree, needs}
use Rattle.compose_writing.specs.Conditions.{is_known}
use Rattle.compose_writing.specs.Keys.{InInstance}
use Rattle.compose_writing.specs.Scopes.{WrittenScope, outermost, along, brought as brought_in, change_top, closed, knows, on_top, standing, type_index}
use Rattle.compose_writing.specs.WriteValues.{write_defined, write_func, write_params, write_result}
use Rattle.compose_writing.specs.WriteEntities.{note_all, note_here, with_named, write_entity}
use Rattle.compose_check.specs.Checked.{IsSound}
use Rattle.compose_check.specs.Composition.{ComponentTree, CompositionTree, wiring}
use Rattle.compose_check.specs.Open.{lefts}
use Rattle.compose_image.specs.Imports.{all_called, write_left, write_lefts}
use Rattle.compose_image.specs.Writable.{AreWritable}

abbrev pub t : List ℕ
t = 0x74 ∷ []

abbrev pub p : List ℕ
p = 0x70 ∷ []

abbrev pub r : List ℕ
r = 0x72 ∷ []

abbrev pub f : List ℕ
f = 0x66 ∷ []

abbrev pub g : List ℕ
g = 0x67 ∷ []

abbrev letters : Name → ValueTree
letters n = EnumOf (Some n) ((0x65 ∷ []) ∷ [])

abbrev pub a_type : Name → EntityTree
a_type n = IsType (Value (letters n))

abbrev pub takes : Name → EntityTree
takes n = IsFunc (record { params = (0x78 ∷ [], letters n) ∷ []; result = None })

-- it imports t with an enum r, and p with that enum as r and a function f of it
abbrev pub shape_a : ShapeTree
shape_a = record {
  imports =
      (t, IsInstance (entry r (a_type (brought 0)) true no_entry))
      ∷ (p, IsInstance (entry r (a_type (brought 0)) true (entry f (takes (brought 0)) true no_entry)))
      ∷ [];
  exports = [];
}

-- it imports p with an enum r, and a function g of it
abbrev pub shape_b : ShapeTree
shape_b = record {
  imports = (p, IsInstance (entry r (a_type (brought 0)) true (entry g (takes (brought 0)) true no_entry))) ∷ [];
  exports = [];
}

abbrev pub component_of : List ℕ → ShapeTree → ComponentTree
component_of name s = record { name = name; bytes = []; shape = s }

-- an instance of each, with nothing wired
abbrev pub two : CompositionTree
two = record {
  components = component_of (0x61 ∷ []) shape_a ∷ component_of (0x62 ∷ []) shape_b ∷
      [];
  instances = 0 ∷ 1 ∷ [];
  wires = [];
}

abbrev pub left_t : LeftTree
left_t = record {
  name = t;
  entity = IsInstance (entry r (a_type (made 2)) true no_entry);
  calls = record { number = 0; name = t; path = r ∷ []; what = record { is_type = true; out = 0; number = 2 } } ∷ [];
}

-- f mentions the enum by the number of t's r, and g by that of p's
abbrev pub left_p : LeftTree
left_p = record {
  name = p;
  entity = IsInstance (entry r (a_type (made 2)) true
      (entry f (takes (made 2)) true (entry g (takes (made 5)) true no_entry)));
  calls =
      record { number = 0; name = p; path = r ∷ []; what = record { is_type = true; out = 0; number = 2 } }
      ∷ record { number = 0; name = p; path = r ∷ []; what = record { is_type = true; out = 0; number = 5 } }
      ∷ [];
}

lefts_row : lefts (wiring two) ≡ left_t ∷ left_p ∷ []
unfolding origin_within
lefts_row = refl

needs_row : needs (lefts_of (wiring two)) left_p ≡ []
unfolding origin_within
needs_row = refl

-- ---- it can be checked

pub no_wire : {P : Type 0} (w : Wire) → None ≡ Some w → P
no_wire w e = absurd cc

nothing_wired : (c : Comparison) → EachFits c (wiring two)
nothing_wired c target import j = no_wire j.wire j.wired

pub unlike : (x y b a : List ℕ) → Some x ≡ Some b → Some y ≡ Some a → is_like x y ≡ false → is_like b a ≡ false
unlike x y b a h k e = sym (λ i. is_like (same_Some x b h i) (same_Some y a k i)) ∙ e

names_apart : AreApart (t ∷ p ∷ [])
names_apart zero b lt h i a below k = absurd (omega (arith, below))
names_apart (suc zero) b lt h zero a below k = unlike p t b a h k refl
names_apart (suc zero) b lt h (suc i) a below k = absurd (omega (arith, below))
names_apart (suc (suc j)) b lt h i a below k = absurd (omega (arith, lt))

one_apart : AreApart (r ∷ [])
one_apart zero b lt h i a below k = absurd (omega (arith, below))
one_apart (suc j) b lt h i a below k = absurd (omega (arith, lt))

three_apart : AreApart (r ∷ f ∷ g ∷ [])
three_apart zero b lt h i a below k = absurd (omega (arith, below))
three_apart (suc zero) b lt h zero a below k = unlike f r b a h k refl
three_apart (suc zero) b lt h (suc i) a below k = absurd (omega (arith, below))
three_apart (suc (suc zero)) b lt h zero a below k = unlike g r b a h k refl
three_apart (suc (suc zero)) b lt h (suc zero) a below k = unlike g f b a h k refl
three_apart (suc (suc zero)) b lt h (suc (suc i)) a below k = absurd (omega (arith, below))
three_apart (suc (suc (suc j))) b lt h i a below k = absurd (omega (arith, lt))

sound_row : IsSound two (0 ∷ 1 ∷ []) (left_t ∷ left_p ∷ [])
unfolding origin_within
sound_row = record {
  in_order = ([], 1 ∷ [], refl, tt, refl, ([], [], refl, tt, refl, refl));
  no_circle = record { place = λ i. 0; behind = λ target import wire h. no_wire wire h; within = λ i. omega arith };
  fit = record { loosely = nothing_wired _; in_place = nothing_wired _ };
  agree = record {
    merges = refl;
    apart = (names_apart, (one_apart, (three_apart, tt)));
    ordered = record {
      order = 0 ∷ 1 ∷ [];
      numbered = record {
        brought = (refl, (refl, tt));
        in_order =
            ([], 1 ∷ [], refl, tt, refl, ([], [], refl, tt, refl, refl));
      };
      written = refl;
    };
    bits = record { scopes = _; are = refl };
  };
}

-- ---- and what it leaves open can't be written

after_t : WrittenScope
after_t = record outermost {
  decls = decls_of
      (tree.Ty (tree.Instance (decls_of (tree.Ty (tree.Defined (defined.EnumOf ((0x65 ∷ []) ∷ []))) ∷ tree.Export r
      (description.TyEqual 0) ∷ [])))
      ∷ tree.Import t (description.Instance 0)
      ∷ []);
  types = 1;
  instances = 1;
  known = (OfPlace (made 2), InInstance 0 (r ∷ [])) ∷ [];
}

after_row : write_left left_t (outermost ∷ []) ≡ Some (after_t ∷ [])
unfolding after_t all_called write_entity write_defined note_all note_here with_named closed on_top change_top
    type_index standing brought_in along knows
after_row = refl

unknown_row : is_known (knows (after_t ∷ [])) left_p.entity ≡ false
unfolding after_t knows
unknown_row = refl

not_writable : AreWritable (left_t ∷ left_p ∷ []) (outermost ∷ []) → ⊥
not_writable h = no (sym unknown_row ∙ (h.1 (after_t ∷ []) after_row).0.known)
  where
    no : false ≡ true → ⊥
    no e = absurd cc

-- nothing is written at all, in either order of the instances
nothing_row : write_lefts (left_t ∷ left_p ∷ []) (outermost ∷ []) ≡ None
unfolding write_lefts all_called write_entity write_defined write_func write_params write_result note_all note_here
    with_named closed on_top change_top type_index standing brought_in along knows
nothing_row = refl

abbrev pub turned : Wiring
turned = record { shapes = shape_b ∷ shape_a ∷ []; wires = [] }

turned_row : write_lefts (lefts turned) (outermost ∷ []) ≡ None
unfolding origin_within write_lefts all_called write_entity write_defined write_func write_params write_result note_all
    note_here with_named closed on_top change_top type_index standing brought_in along knows
turned_row = refl
