-- The bodies of requests have no floats.
use Rattle.std.proofs.Common.{◌≡◌, ◌∷◌, [], List, ℕ, Bool, true, false, ◌||◌, refl}
use Rattle.std.specs.Prelude.{fold, map, Option, Some, None}
use Rattle.std.specs.Ordering.{nat_cmp, match_ordering}
use Rattle.std.specs.Cmp.Lexicographic.{slice_cmp}
use Rattle.std.specs.declared.cmp.Ordering.{Ordering}
use Rattle.std.specs.declared.cmp.Ordering.TheVariants.{Less, Equal, Greater}
use Rattle.serde_json.specs.Data.{Data, Members, no_members, member, put, string}
use Rattle.serde_json.specs.Written.{has_float, members_have_float, items_have_float}
use Rattle.serde_json.specs.View.{items_of}
use Rattle.warg_hash.specs.Hash.{hash_text}
use Rattle.warg_exchange.specs.Requests.{token_data, logs_data, ids_data, inclusion_data, whole_number}

or_none : (a b : Bool) → (a || b) ≡ false → (a ≡ false) × (b ≡ false)
or_none false b e = (refl, e)
or_none true b e = absurd cc

put_by : (o : Ordering) (k l : List ℕ) (d e : Data) (ms more : Members) → has_float d ≡ false → has_float e ≡ false → members_have_float ms ≡ false → members_have_float more ≡ false
    → members_have_float (match_ordering o (member k d (member l e ms)) (member l d ms) (member l e more)) ≡ false
put_by Less k l d e ms more a b c f = rw (a, b, c) refl
put_by Equal k l d e ms more a b c f = rw (a, c) refl
put_by Greater k l d e ms more a b c f = rw (b, f) refl

pub float-put : (k : List ℕ) (d : Data) (ms : Members) → has_float d ≡ false → members_have_float ms ≡ false → members_have_float (put k d ms) ≡ false
float-put k d no_members a b = rw a refl
float-put k d (member l e ms) a b =
    let parts = or_none (has_float e) (members_have_float ms) b in
    put_by (slice_cmp nat_cmp k l) k l d e ms (put k d ms) a parts.0 parts.1 (float-put k d ms a parts.1)

token_plain : (t : Option (List ℕ)) → has_float (token_data t) ≡ false
token_plain None = refl
token_plain (Some t) = refl

tokens_plain : (ls : List (List ℕ × Option (List ℕ))) (ms : Members) → members_have_float ms ≡ false → members_have_float (fold (λ ms l. put (hash_text l.0) (token_data l.1) ms) ms ls) ≡ false
tokens_plain [] ms a = a
tokens_plain (l ∷ ls) ms a = tokens_plain ls (put (hash_text l.0) (token_data l.1) ms) (float-put (hash_text l.0) (token_data l.1) ms (token_plain l.1) a)

pub logs_plain : (n : ℕ) (operator : Option (List ℕ)) (packages : List (List ℕ × Option (List ℕ))) → has_float (logs_data n operator packages) ≡ false
logs_plain n None packages = rw (tokens_plain packages no_members refl) refl
logs_plain n (Some t) packages = rw (tokens_plain packages no_members refl) refl

ids_plain : (ids : List (List ℕ)) → items_have_float (items_of (map (λ id. string (hash_text id)) ids)) ≡ false
ids_plain [] = refl
ids_plain (id ∷ ids) = ids_plain ids

pub names_plain : (ids : List (List ℕ)) → has_float (ids_data ids) ≡ false
names_plain ids = rw (ids_plain ids) refl

leafs_plain : (leafs : List ℕ) → items_have_float (items_of (map whole_number leafs)) ≡ false
leafs_plain [] = refl
leafs_plain (leaf ∷ leafs) = leafs_plain leafs

pub inclusion_plain : (n : ℕ) (leafs : List ℕ) → has_float (inclusion_data n leafs) ≡ false
inclusion_plain n leafs = rw (leafs_plain leafs) refl
