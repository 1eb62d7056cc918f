-- Laws of reading objects as maps.
use Rattle.std.proofs.Common.{◌≡◌, ◌∷◌, [], List, ℕ, Bool, true, false, cond, Option, Some, None, Bor, refl, sym, ◌∙◌, ap, subst}
use Rattle.std.specs.Prelude.{Ok, Err, bytes_eq, map, String, string_bytes}
use Rattle.std.specs.Global.{Global}
use Rattle.std.specs.Map.Iter.{deref_pair, TakesFirst}
use Rattle.std.proofs.lemmas.Map.Iter.{rest_more, rest_all}
use Rattle.indexmap.specs.IndexMap.{insert_entry}
use Rattle.serde_json.specs.declared.value.Value.{Value}
use Rattle.serde_json.specs.Data.{Data, Members, no_members, member as member_of}
use Rattle.serde_json.specs.View.{view, members_view}
use Rattle.warg_exchange.specs.Body.{Meaning, BodyFault, each_member, Unexpected, NoHash}
use Rattle.warg_json.specs.Answers.{BodyFails}
use Rattle.warg_json.specs.declared.error.BodyError.{BodyError}
use Rattle.warg_json.specs.declared.error.BodyError.TheVariants as error

abbrev pub Entries : Type 0 → Type 0
Entries X = List (List ℕ × X)

-- what a member's name and its value are read as
module _ {X : Type 0} (key : List ℕ → Meaning (List ℕ)) (f : Data → Meaning X) where
  no_key : (found : Entries X) (name : List ℕ) (d : Data) (ms : Members) (e : BodyFault)
      → key name ≡ Err e → each_member key f found (member_of name d ms) ≡ Err e
  unfolding each_member
  no_key found name d ms e is = rw is refl

  no_value : (found : Entries X) (name k : List ℕ) (d : Data) (ms : Members) (e : BodyFault)
      → key name ≡ Ok k → f d ≡ Err e → each_member key f found (member_of name d ms) ≡ Err e
  unfolding each_member
  no_value found name k d ms e is are = rw (is, are) refl

  goes_on : (found : Entries X) (name k : List ℕ) (d : Data) (ms : Members) (x : X)
      → key name ≡ Ok k → f d ≡ Ok x → each_member key f found (member_of name d ms) ≡ each_member key f (insert_entry bytes_eq found k x) ms
  unfolding each_member
  goes_on found name k d ms x is are = rw (is, are) refl

  is_done : (found : Entries X) → each_member key f found no_members ≡ Ok found
  unfolding each_member
  is_done found = refl

  -- one turn of the loop, which takes the first of the members that are left
  module _ (found : Entries X) (whole : Meaning (Entries X)) (left rest : List (String Global × Value)) (taken : Option (Bor (String Global) × Bor Value))
      (takes : TakesFirst deref_pair left taken rest) (so_far : each_member key f found (members_view left) ≡ whole) where
    Leaves : List (String Global × Value) → Type 0
    Leaves members = each_member key f found (members_view members) ≡ whole

    pub all_read : taken ≡ None → whole ≡ Ok found
    unfolding Leaves
    all_read is = sym (subst Leaves (rest_all deref_pair left rest taken is takes) so_far) ∙ is_done found

    module _ (m : Bor (String Global) × Bor Value) (is : taken ≡ Some m) where
      first : each_member key f found (member_of (string_bytes m.0.now) (view m.1.now) (members_view rest)) ≡ whole
      unfolding Leaves
      first = subst Leaves (rest_more deref_pair left rest taken m is takes) so_far

      -- the member's name has no meaning
      pub key_ends : (e : BodyError) → BodyFails e (key (string_bytes m.0.now)) → BodyFails e whole
      key_ends error.Unexpected fails = sym first ∙ no_key found (string_bytes m.0.now) (view m.1.now) (members_view rest) Unexpected fails
      key_ends (error.NoHash t) fails = sym first ∙ no_key found (string_bytes m.0.now) (view m.1.now) (members_view rest) (NoHash t) fails
      key_ends error.Memory fails = tt

      module _ (k : List ℕ) (named : key (string_bytes m.0.now) ≡ Ok k) where
        -- its value has no meaning
        pub value_ends : (e : BodyError) → BodyFails e (f (view m.1.now)) → BodyFails e whole
        value_ends error.Unexpected fails = sym first ∙ no_value found (string_bytes m.0.now) k (view m.1.now) (members_view rest) Unexpected named fails
        value_ends (error.NoHash t) fails = sym first ∙ no_value found (string_bytes m.0.now) k (view m.1.now) (members_view rest) (NoHash t) named fails
        value_ends error.Memory fails = tt

        -- the member was read
        pub member_read : (x : X) → f (view m.1.now) ≡ Ok x → each_member key f (insert_entry bytes_eq found k x) (members_view rest) ≡ whole
        member_read x are = sym (goes_on found (string_bytes m.0.now) k (view m.1.now) (members_view rest) x named are) ∙ first

-- what clauses see of entries
abbrev pub seen : {X Y : Type 0} → (X → Y) → Entries X → Entries Y
seen plain es = map (λ e. (e.0, plain e.1)) es

seen_choice : {X Y : Type 0} (plain : X → Y) (b : Bool) (xs ys : Entries X) → seen plain (cond b xs ys) ≡ cond b (seen plain xs) (seen plain ys)
seen_choice plain true xs ys = refl
seen_choice plain false xs ys = refl

-- an entry is inserted before or after it is seen
pub seen_insert : {X Y : Type 0} (plain : X → Y) (es : Entries X) (k : List ℕ) (x : X) → seen plain (insert_entry bytes_eq es k x) ≡ insert_entry bytes_eq (seen plain es) k (plain x)
seen_insert plain [] k x = refl
seen_insert {Y = Y} plain (e ∷ es) k x =
    seen_choice plain (bytes_eq k e.0) ((e.0, x) ∷ es) (e ∷ insert_entry bytes_eq es k x)
    ∙ ap (λ (rest : Entries Y). cond (bytes_eq k e.0) ((e.0, plain x) ∷ seen plain es) ((e.0, plain e.1) ∷ rest)) (seen_insert plain es k x)
