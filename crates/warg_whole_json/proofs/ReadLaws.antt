-- The same of texts that are read as data.
use Rattle.std.proofs.Common.{◌≡◌, ◌<◌, ℕ, List, [], ◌∷◌, length, take, Option, Some, None, option_map, option_and_then, refl, sym, ap, subst, ◌∙◌, append-nil, arith}
use Rattle.json.specs.Json as json
use Rattle.json.specs.Token.{Token}
use Rattle.json.specs.Lex.{tokens}
use Rattle.json.specs.Layout.{pretty}
use Rattle.json.specs.Tree.{json_tokens, depth, HasNumbers}
use Rattle.json.proofs.Numbered.{ArePrintableOrBad-tokens, value-HasNumbers}
use Rattle.json.proofs.Printed.Trees.{value-json_tokens}
use Rattle.json.proofs.Unique.Spelling.{value-json_tokens_back}
use Rattle.serde_json.specs.Data.{Num, number, array, object, Items, Members}
use Rattle.serde_json.specs.Read.{read, of_json, of_items, max_depth, number_of}
use Rattle.serde_json.specs.Written.{IsInOrder, blank, members_outline}
use Rattle.warg_whole_json.proofs.FrontLaws.{front_in_lines}

-- ---- what is an object

from_blank : (j : json.Json) (os : json.Members) → blank j ≡ json.object os → (ms : json.Members) × (j ≡ json.object ms)
from_blank json.null os e = absurd cc
from_blank (json.boolean b) os e = absurd cc
from_blank (json.number s) os e = absurd cc
from_blank (json.string s) os e = absurd cc
from_blank (json.array js) os e = absurd cc
from_blank (json.object ms) os e = (ms, refl)

no_number : (o : Option Num) (front : Members) → option_map number o ≡ Some (object front) → ⊥
no_number None front e = cc
no_number (Some n) front e = cc

no_array : (o : Option Items) (front : Members) → option_map array o ≡ Some (object front) → ⊥
no_array None front e = cc
no_array (Some js) front e = cc

from_data : (j : json.Json) (front : Members) → of_json j ≡ Some (object front) → (ms : json.Members) × (j ≡ json.object ms)
from_data json.null front e = absurd cc
from_data (json.boolean b) front e = absurd cc
from_data (json.number s) front e = absurd (no_number (number_of s) front e)
from_data (json.string s) front e = absurd cc
from_data (json.array js) front e = absurd (no_array (of_items js) front e)
from_data (json.object ms) front e = (ms, refl)

-- ---- the tokens of a text that is read as an object

read_tokens : (ts : List Token) (o : Option (json.Json × List Token)) (front : Members) → json.value max_depth ts ≡ o
    → option_and_then of_json (option_and_then (λ p. json.if_last p.0 p.1) o) ≡ Some (object front) → (ms : json.Members) × (ts ≡ json_tokens (json.object ms))
read_tokens ts None front is e = absurd cc
read_tokens ts (Some (j, t ∷ rest)) front is e = absurd cc
read_tokens ts (Some (j, [])) front is e =
    let found = from_data j front e in
    (found.0, value-json_tokens_back max_depth ts [] j is ∙ append-nil (json_tokens j) ∙ ap json_tokens found.1)

have_numbers : (text : List ℕ) (j : json.Json) → tokens text ≡ json_tokens j → HasNumbers j
have_numbers text j e =
    value-HasNumbers (depth j) (tokens text) [] j (ArePrintableOrBad-tokens text)
    (ap (json.value (depth j)) (e ∙ sym (append-nil (json_tokens j))) ∙ value-json_tokens j (depth j) [] (omega arith))

whole_object : (text : List ℕ) (front : Members) (n : ℕ) (j : json.Json) (whole : json.Members) → text ≡ pretty (tokens text) → tokens text ≡ json_tokens j → j ≡ json.object whole
    → n < length text → read (take n text) ≡ Some (object front) → ⊥
whole_object text front n j whole laid seen is lt e =
    let all : tokens text ≡ json_tokens (json.object whole) = seen ∙ ap json_tokens is in
    let lines : text ≡ pretty (json_tokens (json.object whole)) = laid ∙ ap pretty all in
    let found = read_tokens (tokens (take n text)) (json.value max_depth (tokens (take n text))) front refl e in
    front_in_lines whole found.0 n (have_numbers text (json.object whole) all) (subst (λ (t : List ℕ). n < length t) lines lt)
    (ap (λ t. tokens (take n t)) (sym lines) ∙ found.1)

pub no_front_is_read : (text : List ℕ) (whole front : Members) (n : ℕ) → text ≡ pretty (tokens text) → IsInOrder text (object whole) → n < length text → read (take n text) ≡ Some (object front) → ⊥
no_front_is_read text whole front n laid (j, seen, is) lt e =
    let found = from_blank j (members_outline whole) is in
    whole_object text front n j found.0 laid seen found.1 lt e
