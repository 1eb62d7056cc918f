-- What is written at level 0 is a carried document.
use Rattle.std.proofs.Common.{◌≡◌, ℕ, ◌≤◌, List, [], ◌∷◌, ◌++◌, Bool, true, false, cond, flat_map, Some, None, inl, inr, refl, sym, ap, ◌∙◌, subst, append_assoc, append-nil, arith}
use Rattle.std.specs.Str.{chars}
use Rattle.std.proofs.lemmas.Bool.{cases_Bool, ne_eqb}
use Rattle.yaml_scan.specs.Lines.{lines_of, is_dashes}
use Rattle.yaml_small.specs.Trees.{depth}
use Rattle.yaml_small.specs.Places.{At, next_at, is_end, begins, at_dashes}
use Rattle.yaml_small.specs.Grammar.{Document, Closed, without_mark, first_at, Carried}
use Rattle.yaml_text.specs.Texts.{quote, quoted_char, quoted, is_double, is_block, block_indent, block, text_at}
use Rattle.yaml_text.specs.Written.{Written, number, boolean, null, character, text, list, map, unit_variant, empty_variant, variant, no_elements, element, no_members, member, written, tree_of, ReadsBack}
use Rattle.yaml_text.proofs.Lines.{opens, opens_is, line_of, line_of-append, line_of-opens, at_text, after, next_spaces}
use Rattle.yaml_text.proofs.Levels.{follows_nothing}
use Rattle.yaml_text.proofs.Plain.{PlainText, number_plain, boolean_plain, tilde_plain, character_plain, name_plain}
use Rattle.yaml_text.proofs.Leaves.{tokens_inline}
use Rattle.yaml_text.proofs.Trees.{element_is, member_is, variant_is, written_opens, node_carried}

-- no document mark begins what is written
plain_dashes : (w rest : List ℕ) → PlainText w → is_dashes (line_of (w ++ rest)) ≡ false
plain_dashes w rest p = rw (line_of-append w rest (tokens_inline w p.tokens)) (p.dashes (line_of rest))

quoted_dashes : (t rest : List ℕ) → is_dashes (line_of (quoted t ++ rest)) ≡ false
unfolding quoted
quoted_dashes t rest = either (is_double t) ((flat_map (quoted_char (is_double t)) (chars t) ++ (quote (is_double t) ∷ [])) ++ rest)
  where
    either : (double : Bool) (cs : List ℕ) → is_dashes (line_of (cond double 34 39 ∷ cs)) ≡ false
    either true cs = rw (line_of-append (34 ∷ []) cs refl) refl
    either false cs = rw (line_of-append (39 ∷ []) cs refl) refl

block_dashes : (level : ℕ) (t rest : List ℕ) → is_dashes (line_of (block level t ++ rest)) ≡ false
unfolding block
block_dashes level t rest = bar ((45 ∷ flat_map (λ line. block_indent level ++ line) (lines_of t)) ++ rest)
  where
    bar : (cs : List ℕ) → is_dashes (line_of (124 ∷ cs)) ≡ false
    bar cs = rw (line_of-append (124 ∷ []) cs refl) refl

written_dashes : (w : Written) (level : ℕ) (k : List ℕ) → ReadsBack w → is_dashes (line_of (written level w ++ k)) ≡ false
unfolding text_at
written_dashes (number n) level k r = plain_dashes _ k (number_plain n r)
written_dashes (boolean b) level k r = plain_dashes _ k (boolean_plain b)
written_dashes null level k r = plain_dashes _ k tilde_plain
written_dashes (character c) level k r = plain_dashes _ k (character_plain c r)
written_dashes (text t) level k r = elim (cases_Bool (is_block t)) [
  | inl is ↦ rw is (block_dashes level t k)
  | inr other ↦ rw other (quoted_dashes t k)
]
written_dashes (list no_elements) level k r = rw (line_of-append (91 ∷ 93 ∷ []) k refl) refl
written_dashes (list (element w ws)) level k r = subst (λ (xs : List ℕ). is_dashes (line_of xs) ≡ false) (sym (element_is level w ws k)) refl
written_dashes (map no_members) level k r = rw (line_of-append (123 ∷ 125 ∷ []) k refl) refl
written_dashes (map (member key w ms)) level k r = rw (member_is level key w ms k) (quoted_dashes key _)
written_dashes (unit_variant name) level k r = rw (append_assoc name (58 ∷ 32 ∷ 126 ∷ []) k) (plain_dashes name _ (name_plain name r))
written_dashes (empty_variant name) level k r = rw (append_assoc name (58 ∷ 32 ∷ 91 ∷ 93 ∷ []) k) (plain_dashes name _ (name_plain name r))
written_dashes (variant name w) level k r = rw (variant_is level name w k) (plain_dashes name _ (name_plain name r.0))

-- content begins where the text does
no_mark : (t : List ℕ) → opens t ≡ true → without_mark t ≡ t
no_mark [] e = absurd cc
no_mark (c ∷ cs) e = rw (ne_eqb 239 c (λ f. omega (arith, (opens_is c cs e).high))) refl

first_is : (t : List ℕ) → opens t ≡ true → first_at t ≡ at_text 0 t
first_is t e = ap (λ (xs : List ℕ). next_at (lines_of xs)) (no_mark t e) ∙ next_spaces 0 t e

is_there : (t : List ℕ) → opens t ≡ true → (is_end (at_text 0 t) ≡ false) × (begins 37 (line_of t) ≡ false)
is_there [] e = absurd cc
is_there (c ∷ cs) e = let o = opens_is c cs e in rw (line_of-opens c cs o) (refl, o.percent)

closed_end : Closed (after [])
unfolding next_at
closed_end = inl refl

pub document_carried : (w : Written) → ReadsBack w → depth (tree_of w) ≤ 64 → Carried (written 0 w) (Some (tree_of w))
document_carried w r deep =
    let t = written 0 w in
    let whole : t ++ [] ≡ t = append-nil t in
    let begin : opens t ≡ true = subst (λ (xs : List ℕ). opens xs ≡ true) whole (written_opens w 0 [] r) in
    let dashes : at_dashes (at_text 0 t) ≡ false = subst (λ (xs : List ℕ). is_dashes (line_of xs) ≡ false) whole (written_dashes w 0 [] r) in
    let there = is_there t begin in
    let form = subst (λ (xs : List ℕ). Document (tree_of w) (at_text 0 xs) (after [])) whole
    (inr (written_dashes w 0 [] r, subst (λ (xs : List ℕ). begins 37 (line_of xs) ≡ false) (sym whole) there.1, node_carried w 0 None [] r refl follows_nothing)) in
    subst (λ (a : At). (b : At) × (is_end a ≡ false) × Document (tree_of w) a b × Closed b × (depth (tree_of w) ≤ 64)) (sym (first_is t begin))
    (after [], there.0, form, closed_end, deep)
