-- Imports are the same exactly where they are equal.
use Rattle.std.proofs.Common.{◌≡◌, ℕ, Bool, true, List, [], ◌∷◌, Option, Some, None, refl, ap, ◌∙◌}
use Rattle.std.specs.Prelude.{bytes_eq, nat_eq, ◌==◌}
use Rattle.std.specs.Option.{option_eq}
use Rattle.std.specs.Cmp.Lexicographic.{pointwise}
use Rattle.std.proofs.lemmas.Bool.{and_parts, and_from, eqb-true, eq-eqb}
use Rattle.std.proofs.lemmas.Slice.Eq.{bytes_eq-Decides}
use Rattle.semver.specs.Parse.{Held, Parts}
use Rattle.semver.specs.declared.Op.{Op}
use Rattle.semver.specs.declared.Op.TheVariants as op
use Rattle.warg_log.specs.History.{same_version}
use Rattle.warg_names.specs.Import.{KindTree, Locked, Unlocked, Interface, ImportTree}
use Rattle.warg_names.specs.Same.{same_kind, op_number, same_held, same_import}

-- a test of two values passes exactly where they are equal
abbrev pub Exact : {X : Type 0} → (X → X → Bool) → Type 0
Exact {X} E = ((x : X) → E x x ≡ true) × ((x y : X) → E x y ≡ true → x ≡ y)

nats : Exact nat_eq
nats = (itself, λ x y e. eqb-true x y e)
  where
    itself : (x : ℕ) → nat_eq x x ≡ true
    itself x = eq-eqb x x refl

texts : Exact bytes_eq
texts = (λ x. (bytes_eq-Decides x x).1 refl, λ x y e. (bytes_eq-Decides x y).0 e)

options : {X : Type 0} (E : X → X → Bool) → Exact E → Exact (option_eq E)
options {X} E exact = (itself, same)
  where
    itself : (o : Option X) → option_eq E o o ≡ true
    itself None = refl
    itself (Some x) = exact.0 x

    same : (o p : Option X) → option_eq E o p ≡ true → o ≡ p
    same None None e = refl
    same (Some x) (Some y) e = ap Some (exact.1 x y e)
    same o p e = absurd cc

lists_itself : {X : Type 0} (E : X → X → Bool) → Exact E → (xs : List X) → pointwise E xs xs ≡ true
lists_itself E exact [] = refl
lists_itself E exact (x ∷ xs) = and_from (E x x) (pointwise E xs xs) (exact.0 x) (lists_itself E exact xs)

lists_same : {X : Type 0} (E : X → X → Bool) → Exact E → (xs ys : List X) → pointwise E xs ys ≡ true → xs ≡ ys
lists_same E exact [] [] e = refl
lists_same E exact (x ∷ xs) (y ∷ ys) e = let a = and_parts (E x y) (pointwise E xs ys) e in ap (λ z. z ∷ xs) (exact.1 x y a.0) ∙ ap (λ zs. y ∷ zs) (lists_same E exact xs ys a.1)
lists_same E exact xs ys e = absurd cc

version : ℕ → ℕ → ℕ → List ℕ → List ℕ → Parts
version a b c d e = (a, b, c, d, e)

versions : Exact same_version
unfolding version
versions = (itself, same)
  where
    itself : (v : Parts) → same_version v v ≡ true
    itself v = and_from _ _ (nats.0 v.0) (and_from _ _ (nats.0 v.1) (and_from _ _ (nats.0 v.2) (and_from _ _ (texts.0 v.3) (texts.0 v.4))))

    same : (v w : Parts) → same_version v w ≡ true → v ≡ w
    same v w e =
        let a = and_parts (v.0 == w.0) _ e in
        let b = and_parts (v.1 == w.1) _ a.1 in
        let c = and_parts (v.2 == w.2) _ b.1 in
        let d = and_parts (bytes_eq v.3 w.3) _ c.1 in
        ap (λ n. version n v.1 v.2 v.3 v.4) (nats.1 v.0 w.0 a.0) ∙ ap (λ n. version w.0 n v.2 v.3 v.4) (nats.1 v.1 w.1 b.0) ∙ ap (λ n. version w.0 w.1 n v.3 v.4) (nats.1 v.2 w.2 c.0)
        ∙ ap (λ n. version w.0 w.1 w.2 n v.4) (texts.1 v.3 w.3 d.0) ∙ ap (λ n. version w.0 w.1 w.2 w.3 n) (texts.1 v.4 w.4 d.1)

op_same : (a b : Op) → op_number a ≡ op_number b → a ≡ b
op_same op.Exact op.Exact e = refl
op_same op.Greater op.Greater e = refl
op_same op.GreaterEq op.GreaterEq e = refl
op_same op.Less op.Less e = refl
op_same op.LessEq op.LessEq e = refl
op_same op.Tilde op.Tilde e = refl
op_same op.Caret op.Caret e = refl
op_same op.Wildcard op.Wildcard e = refl
op_same a b e = absurd cc

held : Op → ℕ → Option ℕ → Option ℕ → List ℕ → Held
held a b c d e = (a, b, c, d, e)

helds : Exact same_held
unfolding held
helds = (itself, same)
  where
    numbers : Exact (option_eq nat_eq)
    numbers = options nat_eq nats

    itself : (v : Held) → same_held v v ≡ true
    itself v = and_from _ _ (nats.0 (op_number v.0)) (and_from _ _ (nats.0 v.1) (and_from _ _ (numbers.0 v.2) (and_from _ _ (numbers.0 v.3) (texts.0 v.4))))

    same : (v w : Held) → same_held v w ≡ true → v ≡ w
    same v w e =
        let a = and_parts (nat_eq (op_number v.0) (op_number w.0)) _ e in
        let b = and_parts (nat_eq v.1 w.1) _ a.1 in
        let c = and_parts (option_eq nat_eq v.2 w.2) _ b.1 in
        let d = and_parts (option_eq nat_eq v.3 w.3) _ c.1 in
        ap (λ n. held n v.1 v.2 v.3 v.4) (op_same v.0 w.0 (nats.1 _ _ a.0)) ∙ ap (λ n. held w.0 n v.2 v.3 v.4) (nats.1 v.1 w.1 b.0) ∙ ap (λ n. held w.0 w.1 n v.3 v.4) (numbers.1 v.2 w.2 c.0)
        ∙ ap (λ n. held w.0 w.1 w.2 n v.4) (numbers.1 v.3 w.3 d.0) ∙ ap (λ n. held w.0 w.1 w.2 w.3 n) (texts.1 v.4 w.4 d.1)

kinds : Exact same_kind
kinds = (itself, same)
  where
    marks : Exact (option_eq bytes_eq)
    marks = options bytes_eq texts

    itself : (k : KindTree) → same_kind k k ≡ true
    itself (Locked m) = marks.0 m
    itself Unlocked = refl
    itself (Interface v) = marks.0 v

    same : (a b : KindTree) → same_kind a b ≡ true → a ≡ b
    same (Locked a) (Locked b) e = ap Locked (marks.1 a b e)
    same Unlocked Unlocked e = refl
    same (Interface a) (Interface b) e = ap Interface (marks.1 a b e)
    same a b e = absurd cc

import_with : List ℕ → List Held → KindTree → Option Parts → ImportTree
import_with a b c d = record { name = a; requirement = b; kind = c; exact = d }

-- imports are the same exactly where they are equal
pub imports : Exact same_import
unfolding import_with same_import
imports = (itself, same)
  where
    exacts : Exact (option_eq same_version)
    exacts = options same_version versions

    itself : (i : ImportTree) → same_import i i ≡ true
    itself i = and_from _ _ (texts.0 i.name) (and_from _ _ (lists_itself same_held helds i.requirement) (and_from _ _ (kinds.0 i.kind) (exacts.0 i.exact)))

    same : (i j : ImportTree) → same_import i j ≡ true → i ≡ j
    same i j e =
        let a = and_parts (bytes_eq i.name j.name) _ e in
        let b = and_parts (pointwise same_held i.requirement j.requirement) _ a.1 in
        let c = and_parts (same_kind i.kind j.kind) _ b.1 in
        ap (λ n. import_with n i.requirement i.kind i.exact) (texts.1 i.name j.name a.0) ∙ ap (λ n. import_with j.name n i.kind i.exact) (lists_same same_held helds i.requirement j.requirement b.0)
        ∙ ap (λ n. import_with j.name j.requirement n i.exact) (kinds.1 i.kind j.kind c.0) ∙ ap (λ n. import_with j.name j.requirement j.kind n) (exacts.1 i.exact j.exact c.1)
