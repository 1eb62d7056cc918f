-- No proper front of an object's text is one.
use Rattle.std.proofs.Common.{◌≡◌, ◌<◌, ℕ, Bool, true, false, cond, ◌&&◌, List, [], ◌∷◌, ◌++◌, length, take, drop, fold, refl, sym, ap, subst, ◌∙◌, arith, append_assoc, append-nil, length-append, take-append-drop}
use Rattle.std.proofs.lemmas.List.{take-append-le}
use Rattle.json.specs.Token.{Token}
use Rattle.json.specs.Json.{Json, null, boolean, number, string, array, object, Items, no_items, item, Members, no_members, member}
use Rattle.json.specs.Tree.{json_tokens, items_tokens, members_tokens, HasNumbers}
use Rattle.json.specs.Print.{ends, print, ArePrintable}
use Rattle.json.specs.Layout.{nothing, gap, depth_at, step, pretty, is_value}
use Rattle.json.specs.Lex.{Mode, tokens, between}
use Rattle.json.proofs.Printed.Tokens.{tokens-print, print_from_push, pretty_from_push}
use Rattle.json.proofs.Printed.Trees.{ArePrintable-json_tokens}
use Rattle.warg_whole_json.proofs.Braces.{braces_of, braces_of-append, nothing_follows}
use Rattle.warg_whole_json.proofs.LexLaws.{AreGood, braces_in, mode_behind, braces_behind, braces_of_text, gap_has_none}
use Rattle.warg_whole_json.proofs.PrettyLaws.{tokens-pretty, gap_is_gap}

-- ---- the last token of an object

ended : (ms : Members) → (ts : List Token) × (members_tokens ms ≡ ts ++ Token.end_object ∷ [])
ended no_members = ([], refl)
ended (member k j ms) =
    let rest = ended ms in
    (Token.key k ∷ (json_tokens j ++ rest.0), ap (λ l. Token.key k ∷ (json_tokens j ++ l)) rest.1 ∙ ap (λ l. Token.key k ∷ l) (sym (append_assoc (json_tokens j) rest.0 (Token.end_object ∷ []))))

-- the tokens of an object without the last one
inner : Members → List Token
inner ms = Token.begin_object ∷ (ended ms).0

inner_is : (ms : Members) → json_tokens (object ms) ≡ inner ms ++ Token.end_object ∷ []
unfolding inner
inner_is ms = ap (λ l. Token.begin_object ∷ l) (ended ms).1

front_printable : (ts us : List Token) → ArePrintable (ts ++ us) → ArePrintable ts
unfolding ArePrintable
front_printable [] us h = tt
front_printable (t ∷ ts) us h = (h.0, front_printable ts us h.1)

inner_printable : (ms : Members) → HasNumbers (object ms) → ArePrintable (inner ms)
inner_printable ms h = front_printable (inner ms) _ (subst ArePrintable (inner_is ms) (ArePrintable-json_tokens (object ms) h))

-- ---- good tokens

printable_are_good : (ts : List Token) → ArePrintable ts → AreGood ts
unfolding ArePrintable
printable_are_good [] h = tt
printable_are_good (Token.begin_object ∷ ts) h = printable_are_good ts h.1
printable_are_good (Token.end_object ∷ ts) h = printable_are_good ts h.1
printable_are_good (Token.begin_array ∷ ts) h = printable_are_good ts h.1
printable_are_good (Token.end_array ∷ ts) h = printable_are_good ts h.1
printable_are_good (Token.key s ∷ ts) h = printable_are_good ts h.1
printable_are_good (Token.string s ∷ ts) h = printable_are_good ts h.1
printable_are_good (Token.number s ∷ ts) h = printable_are_good ts h.1
printable_are_good (Token.boolean b ∷ ts) h = printable_are_good ts h.1
printable_are_good (Token.null ∷ ts) h = printable_are_good ts h.1
printable_are_good (Token.bad ∷ ts) h = absurd h.0

mutual
  json_good : (j : Json) (ts : List Token) → AreGood ts → AreGood (json_tokens j ++ ts)
  json_good null ts h = h
  json_good (boolean b) ts h = h
  json_good (number s) ts h = h
  json_good (string s) ts h = h
  json_good (array js) ts h = items_good js ts h
  json_good (object ms) ts h = members_good ms ts h

  items_good : (js : Items) (ts : List Token) → AreGood ts → AreGood (items_tokens js ++ ts)
  items_good no_items ts h = h
  items_good (item j js) ts h = subst AreGood (sym (append_assoc (json_tokens j) (items_tokens js) ts)) (json_good j (items_tokens js ++ ts) (items_good js ts h))

  members_good : (ms : Members) (ts : List Token) → AreGood ts → AreGood (members_tokens ms ++ ts)
  members_good no_members ts h = h
  members_good (member k j ms) ts h = subst AreGood (sym (append_assoc (json_tokens j) (members_tokens ms) ts)) (json_good j (members_tokens ms ++ ts) (members_good ms ts h))

object_good : (ms : Members) → AreGood (json_tokens (object ms))
object_good ms = subst AreGood (append-nil (json_tokens (object ms))) (json_good (object ms) [] tt)

-- ---- fronts

not_nothing : (bs : List Bool) → bs ++ false ∷ [] ≡ [] → ⊥
not_nothing [] e = cc
not_nothing (b ∷ bs) e = cc

-- an object's text without the last brace, but with white space before that, has no front that is an object
no_front : (whole front : Members) (text white : List ℕ) (n : ℕ) → HasNumbers (object whole) → tokens text ≡ inner whole
    → ((m : Mode) → braces_in m white ≡ []) → tokens (take n (text ++ white)) ≡ json_tokens (object front) → ⊥
no_front whole front text white n numbers is blank seen =
    let all = text ++ white in
    let a = take n all in
    let rest = braces_in (mode_behind between a) (drop n all) in
    let of_text : braces_of (inner whole) ≡ braces_in between text =
    ap braces_of (sym is) ∙ braces_of_text text (subst AreGood (sym is) (printable_are_good (inner whole) (inner_printable whole numbers))) in
    let of_all : braces_in between all ≡ braces_in between text =
    braces_behind between text white ∙ ap (λ bs. braces_in between text ++ bs) (blank (mode_behind between text)) ∙ append-nil (braces_in between text) in
    let of_front : braces_of (json_tokens (object front)) ≡ braces_in between a =
    ap braces_of (sym seen) ∙ braces_of_text a (subst AreGood (sym seen) (object_good front)) in
    let parts : braces_in between all ≡ braces_of (json_tokens (object front)) ++ rest =
    ap (braces_in between) (sym (take-append-drop n all)) ∙ braces_behind between a (drop n all) ∙ ap (λ bs. bs ++ rest) (sym of_front) in
    let whole_is : braces_of (json_tokens (object whole)) ≡ braces_of (json_tokens (object front)) ++ (rest ++ false ∷ []) =
    ap braces_of (inner_is whole) ∙ braces_of-append (inner whole) (Token.end_object ∷ [])
    ∙ ap (λ bs. bs ++ false ∷ []) (of_text ∙ sym of_all ∙ parts) ∙ append_assoc (braces_of (json_tokens (object front))) rest (false ∷ []) in
    not_nothing rest (nothing_follows whole front (rest ++ false ∷ []) whole_is)

no_comma : (b : Bool) → cond {A = List ℕ} (b && false) (44 ∷ []) [] ≡ []
no_comma true = refl
no_comma false = refl

-- a proper front of a text without its last byte
shorter : (text : List ℕ) (last n : ℕ) → n < length (text ++ last ∷ []) → take n (text ++ last ∷ []) ≡ take n text
shorter text last n lt = take-append-le n text (last ∷ []) (omega (arith, length-append text (last ∷ [])))

pub compact_front : (whole front : Members) (n : ℕ) → HasNumbers (object whole) → n < length (print (json_tokens (object whole)))
    → tokens (take n (print (json_tokens (object whole)))) ≡ json_tokens (object front) → ⊥
compact_front whole front n numbers lt seen =
    let text = print (inner whole) in
    let split : print (json_tokens (object whole)) ≡ text ++ 125 ∷ [] =
    ap print (inner_is whole) ∙ print_from_push false (inner whole) Token.end_object ∙ ap (λ l. text ++ (l ++ 125 ∷ [])) (no_comma (fold (λ _ u. ends u) false (inner whole))) in
    let cut : take n (print (json_tokens (object whole))) ≡ take n (text ++ []) =
    ap (take n) split ∙ shorter text 125 n (subst (λ l. n < length l) split lt) ∙ ap (take n) (sym (append-nil text)) in
    no_front whole front text [] n numbers (tokens-print (inner whole) (inner_printable whole numbers)) (λ m. nothing_in m) (ap tokens (sym cut) ∙ seen)
  where
    nothing_in : (m : Mode) → braces_in m [] ≡ []
    nothing_in m = gap_has_none m [] tt

pub front_in_lines : (whole front : Members) (n : ℕ) → HasNumbers (object whole) → n < length (pretty (json_tokens (object whole)))
    → tokens (take n (pretty (json_tokens (object whole)))) ≡ json_tokens (object front) → ⊥
front_in_lines whole front n numbers lt seen =
    let text = pretty (inner whole) in
    let s = fold step (nothing, 0) (inner whole) in
    let white = gap s.0 false (depth_at s.1 Token.end_object) in
    let split : pretty (json_tokens (object whole)) ≡ (text ++ white) ++ 125 ∷ [] =
    ap pretty (inner_is whole) ∙ pretty_from_push (nothing, 0) (inner whole) Token.end_object
    ∙ ap (λ l. text ++ (l ++ (white ++ 125 ∷ []))) (no_comma (is_value s.0)) ∙ sym (append_assoc text white (125 ∷ [])) in
    let cut : take n (pretty (json_tokens (object whole))) ≡ take n (text ++ white) =
    ap (take n) split ∙ shorter (text ++ white) 125 n (subst (λ l. n < length l) split lt) in
    no_front whole front text white n numbers (tokens-pretty (inner whole) (inner_printable whole numbers))
    (λ m. gap_has_none m white (gap_is_gap s.0 false (depth_at s.1 Token.end_object))) (ap tokens (sym cut) ∙ seen)
