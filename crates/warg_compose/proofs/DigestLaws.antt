-- The name of a release has its digest, and is that of no interface.
use Rattle.std.proofs.Common.{◌≡◌, ◌+◌, ◌∙◌, sym, ap, arith, ℕ, suc, true, false, true≢false, List, [], ◌∷◌, ◌++◌, length, codes, Some, append_assoc, length-append}
use Rattle.hex.specs.Hex.{encode_lower, lower_digits}
use Rattle.hex.proofs.HexLemmas.{length-encode_with}
use Rattle.semver.specs.Identifiers.{parts_text}
use Rattle.semver.specs.Parse.{Parts}
use Rattle.warg_hash.specs.Hash.{IsDigest}
use Rattle.warg_names.specs.Cut.{behind, closed_by}
use Rattle.warg_names.specs.CutLaws.{closed_by-append, map_some, then_some}
use Rattle.warg_names.specs.Import.{ImportTree, angle, import_of, integrity_of, locked, locked_at, locked_mark, locked_of, other_of, release_of}
use Rattle.warg_names.specs.Mark.{digest_marked, mark_text}
use Rattle.warg_names.specs.MarkLaws.{digest_marked-again}
use Rattle.warg_names.specs.Texts.{locked_text, versioned_name}
use Rattle.warg_plan.specs.Keys.{is_interface}

suffix : (xs us ys vs : List ℕ) → length ys ≡ length vs → xs ++ ys ≡ us ++ vs → ys ≡ vs
suffix [] [] ys vs l e = e
suffix [] (u ∷ us) ys vs l e =
    let n : length ys ≡ suc (length us + length vs) = ap length e ∙ ap suc (length-append us vs) in
    absurd (omega (arith, n, l))
suffix (x ∷ xs) [] ys vs l e =
    let n : suc (length xs + length ys) ≡ length vs = ap suc (sym (length-append xs ys)) ∙ ap length e in
    absurd (omega (arith, n, l))
suffix (x ∷ xs) (u ∷ us) ys vs l e = suffix xs us ys vs l (tails e)
  where
    tails : x ∷ (xs ++ ys) ≡ u ∷ (us ++ vs) → xs ++ ys ≡ us ++ vs
    tails h = cc

some_is : {X : Type 0} (x y : X) → Some x ≡ Some y → x ≡ y
some_is x y e = cc

-- what stands in front of a release's mark
front_of : List ℕ → Parts → List ℕ
front_of name version = codes "locked-dep=<" ++ (versioned_name name (parts_text version) ++ codes ">,integrity=<")

in_front : (name : List ℕ) (version : Parts) (digest : List ℕ) → locked_text name version digest ≡ front_of name version ++ (mark_text digest ++ codes ">")
unfolding front_of
in_front name version digest =
    ap (λ t. codes "locked-dep=<" ++ t) (sym (append_assoc (versioned_name name (parts_text version)) (codes ">,integrity=<") (mark_text digest ++ codes ">")))
    ∙ sym (append_assoc (codes "locked-dep=<") (versioned_name name (parts_text version) ++ codes ">,integrity=<") (mark_text digest ++ codes ">"))

mark_length : (d : List ℕ) → length d ≡ 32 → length (mark_text d ++ codes ">") ≡ 72
mark_length d l =
    let all = length-append (mark_text d) (codes ">") in
    let mark = length-append (codes "sha256-") (encode_lower d) in
    let digits = length-encode_with lower_digits d in
    omega (arith, all, mark, digits, l)

-- releases of one name have one digest
pub one_digest : (n m : List ℕ) (v w : Parts) (d e : List ℕ) → IsDigest d → IsDigest e → locked_text n v d ≡ locked_text m w e → d ≡ e
one_digest n m v w d e of_d of_e same =
    let ends : mark_text d ++ codes ">" ≡ mark_text e ++ codes ">" = suffix (front_of n v) (front_of m w) (mark_text d ++ codes ">") (mark_text e ++ codes ">") (mark_length d of_d.0 ∙ sym (mark_length e of_e.0)) (sym (in_front n v d) ∙ same ∙ in_front m w e) in
    let marks : mark_text d ≡ mark_text e = some_is (mark_text d) (mark_text e) (sym (closed_by-append angle (mark_text d)) ∙ ap (closed_by angle) ends ∙ closed_by-append angle (mark_text e)) in
    some_is d e (sym (digest_marked-again d of_d) ∙ ap digest_marked marks ∙ digest_marked-again e of_e)

-- a release is no interface
locked_kind : (text : List ℕ) (i : ImportTree) → locked_of text ≡ Some i → is_interface i.kind ≡ false
unfolding locked_of
locked_kind text i e =
    let cut = then_some locked_at _ i e in
    let release = then_some _ (release_of cut.0.0) i cut.2 in
    let is = map_some (locked release.0.0 release.0.1) (integrity_of cut.0.1) i release.2 in
    ap (λ (j : ImportTree). is_interface j.kind) (sym is.2)

pub locked_import : (rest : List ℕ) (i : ImportTree) → import_of (locked_mark ++ rest) ≡ Some i → is_interface i.kind ≡ true → ⊥
unfolding import_of other_of behind
locked_import rest i e h = true≢false (sym h ∙ locked_kind rest i e)

pub no_interface : (n : List ℕ) (v : Parts) (d : List ℕ) (i : ImportTree) → import_of (locked_text n v d) ≡ Some i → is_interface i.kind ≡ true → ⊥
no_interface n v d i e h = locked_import (codes "<" ++ (versioned_name n (parts_text v) ++ (codes ">,integrity=<" ++ (mark_text d ++ codes ">")))) i e h
