-- The braces of a text: for each, whether it opens an object.
use Rattle.std.proofs.Common.{◌≡◌, ℕ, zero, suc, Bool, true, false, List, [], ◌∷◌, ◌++◌, Option, Some, None, refl, sym, ap, ◌∙◌, append_assoc, append-nil}
use Rattle.json.specs.Token.{Token}
use Rattle.json.specs.Json.{Json, null, boolean, number, string, array, object, Items, no_items, item, Members, no_members, member}
use Rattle.json.specs.Tree.{json_tokens, items_tokens, members_tokens}

abbrev pub brace_of : Token → List Bool
brace_of Token.begin_object = true ∷ []
brace_of Token.end_object = false ∷ []
brace_of t = []

abbrev pub braces_of : List Token → List Bool
braces_of [] = []
braces_of (t ∷ ts) = brace_of t ++ braces_of ts

pub braces_of-append : (ts us : List Token) → braces_of (ts ++ us) ≡ braces_of ts ++ braces_of us
braces_of-append [] us = refl
braces_of-append (t ∷ ts) us =
    ap (λ bs. brace_of t ++ bs) (braces_of-append ts us) ∙ sym (append_assoc (brace_of t) (braces_of ts) (braces_of us))

-- what follows, once as many objects were closed as are open
abbrev pub closed : ℕ → List Bool → Option (List Bool)
closed zero bs = Some bs
closed (suc n) [] = None
closed (suc n) (true ∷ bs) = closed (suc (suc n)) bs
closed (suc n) (false ∷ bs) = closed n bs

absurd_none : {A P : Type 0} (a : A) → None ≡ Some a → P
absurd_none a e = cc

-- more behind plays no part
pub closed-append : (n : ℕ) (bs more rest : List Bool) → closed n bs ≡ Some rest → closed n (bs ++ more) ≡ Some (rest ++ more)
closed-append zero bs more rest e = ap (λ (o : Option (List Bool)). added o) e
  where
    added : Option (List Bool) → Option (List Bool)
    added None = None
    added (Some xs) = Some (xs ++ more)
closed-append (suc n) [] more rest e = absurd_none rest e
closed-append (suc n) (true ∷ bs) more rest e = closed-append (suc (suc n)) bs more rest e
closed-append (suc n) (false ∷ bs) more rest e = closed-append n bs more rest e

-- ---- of a value's tokens

mutual
  pub closed-json : (j : Json) (n : ℕ) (ts : List Token) → closed (suc n) (braces_of (json_tokens j ++ ts)) ≡ closed (suc n) (braces_of ts)
  closed-json null n ts = refl
  closed-json (boolean b) n ts = refl
  closed-json (number s) n ts = refl
  closed-json (string s) n ts = refl
  closed-json (array js) n ts = closed-items js n ts
  closed-json (object ms) n ts = closed-members ms (suc n) ts

  pub closed-items : (js : Items) (n : ℕ) (ts : List Token) → closed (suc n) (braces_of (items_tokens js ++ ts)) ≡ closed (suc n) (braces_of ts)
  closed-items no_items n ts = refl
  closed-items (item j js) n ts =
      ap (λ l. closed (suc n) (braces_of l)) (append_assoc (json_tokens j) (items_tokens js) ts)
      ∙ closed-json j n (items_tokens js ++ ts) ∙ closed-items js n ts

  pub closed-members : (ms : Members) (n : ℕ) (ts : List Token) → closed (suc n) (braces_of (members_tokens ms ++ ts)) ≡ closed n (braces_of ts)
  closed-members no_members n ts = refl
  closed-members (member k j ms) n ts =
      ap (λ l. closed (suc n) (braces_of l)) (append_assoc (json_tokens j) (members_tokens ms) ts)
      ∙ closed-json j n (members_tokens ms ++ ts) ∙ closed-members ms n ts

-- the braces of an object close where the object ends
pub object_closes : (ms : Members) → closed 1 (braces_of (members_tokens ms)) ≡ Some []
object_closes ms = ap (λ l. closed 1 (braces_of l)) (sym (append-nil (members_tokens ms))) ∙ closed-members ms 0 []

some_is : {A : Type 0} (a b : A) → Some a ≡ Some b → a ≡ b
some_is a b e = cc

abbrev behind : List Bool → List Bool
behind [] = []
behind (b ∷ bs) = bs

-- nothing follows an object's braces in an object's braces
pub nothing_follows : (whole front : Members) (more : List Bool) → braces_of (json_tokens (object whole)) ≡ braces_of (json_tokens (object front)) ++ more → more ≡ []
nothing_follows whole front more e =
    let inner : braces_of (members_tokens whole) ≡ braces_of (members_tokens front) ++ more = ap behind e in
    some_is more [] (sym (closed-append 1 (braces_of (members_tokens front)) more [] (object_closes front)) ∙ ap (closed 1) (sym inner) ∙ object_closes whole)
