-- Members of objects that may be missing.
use Rattle.std.proofs.Common.{◌≡◌, ◌≤◌, ℕ, Bool, false, ◌||◌, List, Option, Some, None, refl, ap, ◌∙◌}
use Rattle.std.specs.Prelude.{IfSome}
use Rattle.std.proofs.Math.Nat.{max-le}
use Rattle.std.specs.Ordering.{nat_cmp, match_ordering}
use Rattle.std.specs.Cmp.Lexicographic.{slice_cmp}
use Rattle.std.specs.declared.cmp.Ordering.{Ordering}
use Rattle.std.specs.declared.cmp.Ordering.TheVariants.{Less, Equal, Greater}
use Rattle.serde_json.specs.Data.{Data, Members, no_members, member, put, depth, members_depth}
use Rattle.serde_json.specs.Find.{get_member}
use Rattle.serde_json.specs.Written.{has_float, members_have_float}
use Rattle.warg_info_text.specs.StoredTexts.{optional_member}
use Rattle.warg_info_text.specs.Writable.{put_optional}

abbrev cmp : List ℕ → List ℕ → Ordering
cmp a b = slice_cmp nat_cmp a b

-- ---- in order

-- a name is less than the first of these members'
abbrev pub IsBefore : List ℕ → Members → Type 0
IsBefore name no_members = Unit {0}
IsBefore name (member other d ms) = cmp name other ≡ Less

pub before_optional : (name other : List ℕ) (o : Option Data) (ms : Members) → cmp name other ≡ Less → IsBefore name ms → IsBefore name (optional_member other o ms)
before_optional name other None ms less before = before
before_optional name other (Some d) ms less before = less

put_first : (name : List ℕ) (d : Data) (ms : Members) → IsBefore name ms → put name d ms ≡ member name d ms
put_first name d no_members before = refl
put_first name d (member other e ms) before =
    ap (λ (o : Ordering). match_ordering o (member name d (member other e ms)) (member other d ms) (member other e (put name d ms))) before

pub put_in_order : (name : List ℕ) (o : Option Data) (ms : Members) → IsBefore name ms → put_optional name o ms ≡ optional_member name o ms
put_in_order name None ms before = refl
put_in_order name (Some d) ms before = put_first name d ms before

-- ---- looking for one

abbrev IsOther : Ordering → Type 0
IsOther Less = Unit {0}
IsOther Equal = ⊥
IsOther Greater = Unit {0}

other_of : (o : Ordering) (x y : Option Data) → IsOther o → match_ordering o x y x ≡ x
other_of Less x y h = refl
other_of Equal x y h = absurd h
other_of Greater x y h = refl

pub passed : (name other : List ℕ) (o : Option Data) (ms : Members) → IsOther (cmp name other) → get_member name (optional_member other o ms) ≡ get_member name ms
passed name other None ms h = refl
passed name other (Some d) ms h = other_of (cmp name other) (get_member name ms) (Some d) h

pub found : (name : List ℕ) (o : Option Data) (ms : Members) → cmp name name ≡ Equal → get_member name ms ≡ None → get_member name (optional_member name o ms) ≡ o
found name None ms same none = none
found name (Some d) ms same none = ap (λ (o : Ordering). match_ordering o (get_member name ms) (Some d) (get_member name ms)) same

-- ---- what all of them are

pub no_floats : (name : List ℕ) (o : Option Data) (ms : Members) → IfSome o (λ d. has_float d ≡ false) → members_have_float ms ≡ false → members_have_float (optional_member name o ms) ≡ false
no_floats name None ms here rest = rest
no_floats name (Some d) ms here rest = ap (λ (b : Bool). b || members_have_float ms) here ∙ rest

pub nests : (n : ℕ) (name : List ℕ) (o : Option Data) (ms : Members) → IfSome o (λ d. depth d ≤ n) → members_depth ms ≤ n → members_depth (optional_member name o ms) ≤ n
nests n name None ms here rest = rest
nests n name (Some d) ms here rest = max-le here rest
