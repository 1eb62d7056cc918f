-- Scopes in a vector, the innermost last, and what is noted in the innermost.
use Rattle.std.proofs.Common.{◌≡◌, ◌<◌, ◌≤◌, ◌-◌, ◌+◌, ℕ, Bool, true, false, cond, List, [], ◌∷◌, ◌++◌, get_or, take, length, map, Some, None, sym, ap, ◌∙◌, arith}
use Rattle.std.specs.Prelude.{nat_lt, reverse}
use Rattle.std.specs.BTreeMap.{BTreeMap, Updates, get}
use Rattle.std.proofs.lemmas.List.{map_push, reverse-append, take_all, take_more}
use Rattle.comp_entity.specs.Entity.{Name}
use Rattle.comp_entity.specs.Fits.{same_name}
use Rattle.compose_left.specs.Spots.{named_type}
use Rattle.compose_left.specs.Wired.{thing_cmp}
use Rattle.compose_left.specs.declared.spots.Thing.{Thing}
use Rattle.compose_naming.specs.Bits.{Scope, closed, noted, with_bit}
use Rattle.compose_naming.specs.Scopes.{scope_of, scopes_in}
use Rattle.compose_naming.specs.Settled.{name_in}
use Rattle.compose_naming.specs.declared.scopes.Open.{Open}
use Rattle.compose_naming.proofs.NameLaws.{found_by_name}

pub scopes_push : (os : List Open) (o : Open) → scopes_in (os ++ o ∷ []) ≡ scope_of o ∷ scopes_in os
scopes_push os o = ap reverse (map_push scope_of os o) ∙ reverse-append (map scope_of os) (scope_of o ∷ [])

pub last_cut : (xs : List Open) (d : Open) → 1 ≤ length xs → d ≡ get_or xs (length xs - 1) d
    → xs ≡ take (length xs - 1) xs ++ d ∷ []
last_cut xs d some is =
    sym (take_all (length xs - 1 + 1) xs (omega (arith, some))) ∙ take_more xs (length xs - 1) d (omega (arith, some))
    ∙ ap (λ z. take (length xs - 1) xs ++ z ∷ []) (sym is)

less : (a b : ℕ) → a < b → nat_lt a b ≡ true
less a b h = grind (arith, h)

not_less : (a b : ℕ) → b ≤ a → nat_lt a b ≡ false
not_less a b h = grind (arith, h)

-- ---- bits that are noted

bits_with : (old new : BTreeMap Thing Bool) (t : Thing) (b : Bool) (n : Name) → t.is_type ≡ true
    → Updates thing_cmp old new t (Some b)
    → get thing_cmp new (named_type n) ≡ cond (same_name (name_in t) n) (Some b) (get thing_cmp old (named_type n))
bits_with old new t b n is u = u.0 (named_type n) ∙ (λ i. cond (found_by_name t n is i) (Some b) (get thing_cmp old (named_type n)))

pub noted_here : (old rest new : List Open) (o later : Open) (t : Thing) (b : Bool) → t.is_type ≡ true
    → old ≡ rest ++ o ∷ [] → new ≡ rest ++ later ∷ [] → t.out < o.width → later.width ≡ o.width
    → Updates thing_cmp o.bits later.bits t (Some b)
    → noted (name_in t) b (scopes_in old) ≡ Some (scopes_in new)
noted_here old rest new o later t b is was now lt same u =
    (λ i. noted (name_in t) b ((ap scopes_in was ∙ scopes_push rest o) i))
    ∙ (λ i. cond (less t.out o.width lt i) (Some (with_bit (name_in t) b (scope_of o) ∷ scopes_in rest)) None)
    ∙ ap (λ (s : Scope). Some (s ∷ scopes_in rest)) (λ i. record { width = sym same i; bits = λ n. sym (bits_with o.bits later.bits t b n is u) i })
    ∙ ap Some (sym (ap scopes_in now ∙ scopes_push rest later))

pub noted_not : (old rest : List Open) (o : Open) (t : Thing) (b : Bool) → old ≡ rest ++ o ∷ [] → o.width ≤ t.out
    → noted (name_in t) b (scopes_in old) ≡ None
noted_not old rest o t b was ge =
    (λ i. noted (name_in t) b ((ap scopes_in was ∙ scopes_push rest o) i))
    ∙ (λ i. cond (not_less t.out o.width ge i) (Some (with_bit (name_in t) b (scope_of o) ∷ scopes_in rest)) None)

pub noted_nowhere : (old : List Open) (t : Thing) (b : Bool) → old ≡ [] → noted (name_in t) b (scopes_in old) ≡ None
noted_nowhere old t b was = ap (λ os. noted (name_in t) b (scopes_in os)) was

pub closed_one : (old rest : List Open) (o : Open) → old ≡ rest ++ o ∷ [] → closed (scopes_in old) ≡ Some (scopes_in rest)
closed_one old rest o was = ap closed (ap scopes_in was ∙ scopes_push rest o)

pub closed_none : (old : List Open) → old ≡ [] → closed (scopes_in old) ≡ None
closed_none old was = ap (λ os. closed (scopes_in os)) was
