-- Names that are written are read back, and no proper front of what is written is read.
use Rattle.std.proofs.Common.{◌≡◌, ◌≤◌, ℕ, Bool, true, false, cond, List, [], ◌∷◌, ◌++◌, take, bytes_eq, Option, Some, None, option_map, option_and_then, refl, sym, ap, subst, ◌∙◌, arith, append_assoc, append-nil}
use Rattle.std.specs.Cmp.Lexicographic.{nat_list_eq_equiv}
use Rattle.std.specs.List.{AllByRecursion, IsDistinct}
use Rattle.std.specs.Map.{keys_of}
use Rattle.std.specs.Str.{IsUtf8, is_utf8}
use Rattle.std.proofs.lemmas.Str.{IsUtf8-from_is_utf8, is_utf8-from_IsUtf8}
use Rattle.std.proofs.lemmas.Map.Keys.{IsDistinct-head, IsDistinct-tail}
use Rattle.indexmap.specs.IndexMap.{insert_all, insert_entry}
use Rattle.json.specs.Json.{Json, null, boolean, number, string, array, object, Members, member, document}
use Rattle.json.specs.Find.{as_str}
use Rattle.json.specs.Lex.{tokens}
use Rattle.json.specs.Tree.{json_tokens, members_depth, HasNumbers, MembersHaveNumbers}
use Rattle.json.proofs.Printed.Trees.{document-print}
use Rattle.json.proofs.Unique.Spelling.{tokens-document}
use Rattle.warg_store.specs.Namespaces.{Names}
use Rattle.warg_namespace_files.specs.NamespaceFile.{texts_of, object_texts, names_in, members_of, names_text}

-- ---- keys that are inserted behind others

-- what is so of all keys is so of one in the midst
at_key : (P : List ℕ → Type 0) (es rest : Names) (k v : List ℕ) → AllByRecursion P (keys_of (es ++ (k, v) ∷ rest)) → P k
at_key P [] rest k v h = h.0
at_key P (e ∷ es) rest k v h = at_key P es rest k v h.1

-- a key behind others, of which none is equal to it, goes last
insert_last : (es rest : Names) (k v : List ℕ) → IsDistinct bytes_eq (keys_of (es ++ (k, v) ∷ rest)) → insert_entry bytes_eq es k v ≡ es ++ (k, v) ∷ []
insert_last [] rest k v h = refl
insert_last (e ∷ es) rest k v h =
    ap (λ (b : Bool). cond b ((e.0, v) ∷ es) (e ∷ insert_entry bytes_eq es k v))
    (nat_list_eq_equiv.symm k e.0 ∙ at_key (λ x. bytes_eq e.0 x ≡ false) es rest k v (IsDistinct-head bytes_eq e.0 _ h))
    ∙ ap (λ l. e ∷ l) (insert_last es rest k v (IsDistinct-tail bytes_eq e.0 _ h))

-- distinct keys are inserted in turn
all_inserted : (es rest : Names) → IsDistinct bytes_eq (keys_of (es ++ rest)) → insert_all bytes_eq es rest ≡ es ++ rest
all_inserted es [] h = sym (append-nil es)
all_inserted es (p ∷ ps) h =
    ap (λ (done : Names). insert_all bytes_eq done ps) (insert_last es ps p.0 p.1 h)
    ∙ all_inserted (es ++ p ∷ []) ps (subst (λ (l : Names). IsDistinct bytes_eq (keys_of l)) (sym (append_assoc es (p ∷ []) ps)) h)
    ∙ append_assoc es (p ∷ []) ps

-- ---- the whole text

texts_back : (names : Names) → texts_of (members_of names) ≡ Some names
texts_back [] = refl
texts_back (name ∷ names) = ap (option_map (λ texts. (name.0, name.1) ∷ texts)) (texts_back names)

no_numbers : (names : Names) → MembersHaveNumbers (members_of names)
no_numbers [] = tt
no_numbers (name ∷ names) = (tt, no_numbers names)

flat : (names : Names) → members_depth (members_of names) ≤ 0
flat [] = omega arith
flat (name ∷ names) = let rest = flat names in omega arith

pub whole_reads_back : (names : Names) → IsDistinct bytes_eq (keys_of names) → is_utf8 (names_text names) ≡ true → names_in (names_text names) ≡ Some names
whole_reads_back names distinct utf8 =
    let shallow = flat names in
    let read = document-print (object (members_of names)) (no_numbers names) (omega arith) in
    ap (λ (b : Bool). cond b (option_map (insert_all bytes_eq []) (option_and_then object_texts (document (names_text names)))) None) utf8
    ∙ ap (λ (o : Option Json). option_map (insert_all bytes_eq []) (option_and_then object_texts o)) read
    ∙ ap (option_map (insert_all bytes_eq [])) (texts_back names)
    ∙ ap Some (all_inserted [] names distinct)

-- ---- fronts

no_texts : (o : Option Json) → ((ms : Members) → o ≡ Some (object ms) → ⊥) → option_and_then object_texts o ≡ None
no_texts None never = refl
no_texts (Some null) never = refl
no_texts (Some (boolean b)) never = refl
no_texts (Some (number s)) never = refl
no_texts (Some (string s)) never = refl
no_texts (Some (array js)) never = refl
no_texts (Some (object ms)) never = absurd (never ms refl)

unread : (b : Bool) (o : Option Names) → o ≡ None → cond b (option_map (insert_all bytes_eq []) o) None ≡ None
unread true o e = ap (option_map (insert_all bytes_eq [])) e
unread false o e = refl

-- where a proper front of an object's text is no object's text
pub front_is_unread : (names : Names) (n : ℕ) → ((front : Members) → tokens (take n (names_text names)) ≡ json_tokens (object front) → ⊥) → names_in (take n (names_text names)) ≡ None
front_is_unread names n never =
    unread (is_utf8 (take n (names_text names))) _ (no_texts (document (take n (names_text names))) (λ ms e. never ms (tokens-document (take n (names_text names)) (object ms) e)))

pub have_no_numbers : (names : Names) → HasNumbers (object (members_of names))
have_no_numbers names = no_numbers names

-- ---- members read one after the other

some_is : {A : Type 0} (a b : A) → Some a ≡ Some b → a ≡ b
some_is a b e = cc

module _ (es : Names) (name : List ℕ) (ms : Members) where
  one_text : (texts : Option Names) (text : List ℕ) → option_map (insert_all bytes_eq es) (option_map (λ (l : Names). (name, text) ∷ l) texts) ≡ option_map (insert_all bytes_eq (insert_entry bytes_eq es name text)) texts
  one_text None text = refl
  one_text (Some texts) text = refl

  -- a member whose value is a text
  pub one_member : (value : Json) (text : List ℕ) → Some text ≡ as_str value → option_map (insert_all bytes_eq es) (texts_of (member name value ms)) ≡ option_map (insert_all bytes_eq (insert_entry bytes_eq es name text)) (texts_of ms)
  one_member null text e = absurd cc
  one_member (boolean b) text e = absurd cc
  one_member (number s) text e = absurd cc
  one_member (string s) text e = ap (λ t. option_map (insert_all bytes_eq es) (texts_of (member name (string t) ms))) (sym (some_is text s e)) ∙ one_text (texts_of ms) text
  one_member (array js) text e = absurd cc
  one_member (object others) text e = absurd cc

  -- a member whose value is none
  pub no_member : (value : Json) → None ≡ as_str value → option_map (insert_all bytes_eq es) (texts_of (member name value ms)) ≡ None
  no_member null e = refl
  no_member (boolean b) e = refl
  no_member (number s) e = refl
  no_member (string s) e = absurd cc
  no_member (array js) e = refl
  no_member (object others) e = refl

-- ---- bytes that are a value, or are none

pub read_value : (bytes : List ℕ) (value : Json) → IsUtf8 bytes → document bytes ≡ Some value → option_map (insert_all bytes_eq []) (object_texts value) ≡ names_in bytes
read_value bytes value utf8 is =
    ap (λ (o : Option Json). option_map (insert_all bytes_eq []) (option_and_then object_texts o)) (sym is)
    ∙ ap (λ (b : Bool). cond b (option_map (insert_all bytes_eq []) (option_and_then object_texts (document bytes))) None) (sym (is_utf8-from_IsUtf8 bytes utf8))

pub no_value : (bytes : List ℕ) → (IsUtf8 bytes → document bytes ≡ None) → None ≡ names_in bytes
no_value bytes none = go (is_utf8 bytes) refl
  where
    go : (b : Bool) → is_utf8 bytes ≡ b → None ≡ cond b (option_map (insert_all bytes_eq []) (option_and_then object_texts (document bytes))) None
    go true is = sym (ap (λ (o : Option Json). option_map (insert_all bytes_eq []) (option_and_then object_texts o)) (none (IsUtf8-from_is_utf8 bytes is)))
    go false is = refl
