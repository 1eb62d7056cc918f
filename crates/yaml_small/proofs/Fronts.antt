-- No carried document begins with a refused text and a line feed.
use Rattle.std.proofs.Common.{◌≡◌, ℕ, List, [], ◌∷◌, ◌++◌, Bool, true, false, cond, ◌&&◌, eqb, Option, refl, sym, ap, ◌∙◌}
use Rattle.std.specs.Cmp.Lexicographic.{pointwise}
use Rattle.std.specs.Prelude.{nat_eq}
use Rattle.yaml_scan.specs.Lines.{lines_of, lengthened}
use Rattle.yaml_small.specs.Trees.{Tree}
use Rattle.yaml_small.specs.Scalars.{Fault, NotCarried, open_fault}
use Rattle.yaml_small.specs.Grammar.{without_mark, Carried}
use Rattle.yaml_small.specs.Stream.{Refuses, IsFinal, ends_return}
use Rattle.yaml_small.specs.ScanLaws.{lines_of-open}
use Rattle.yaml_small.specs.MarkLaws.{and_false}
use Rattle.yaml_small.proofs.Final.{refused_for_good}

lengthened-more : (c : ℕ) (lines more : List (List ℕ)) → open_fault lines ≡ NotCarried → lengthened c (lines ++ more) ≡ lengthened c lines ++ more
lengthened-more c [] more some = absurd cc
lengthened-more c (line ∷ lines) more some = refl

joined : (c : ℕ) (a b : Bool) (lines longer more : List (List ℕ)) → longer ≡ lines ++ more → open_fault lines ≡ NotCarried
    → cond a ([] ∷ longer) (cond b longer (lengthened c longer)) ≡ cond a ([] ∷ lines) (cond b lines (lengthened c lines)) ++ more
joined c true b lines longer more e some = ap (λ (x : List (List ℕ)). [] ∷ x) e
joined c false true lines longer more e some = e
joined c false false lines longer more e some = ap (lengthened c) e ∙ lengthened-more c lines more some

-- the lines of a text, and then those behind a line feed
lines_behind_feed : (text rest : List ℕ) → ends_return text ≡ false → lines_of (text ++ (10 ∷ rest)) ≡ lines_of text ++ lines_of rest
lines_behind_feed [] rest e = refl
lines_behind_feed (c ∷ []) rest e = single (eqb c 10) (eqb c 13) e
  where
    single : (a b : Bool) → b ≡ false → cond a ([] ∷ ([] ∷ lines_of rest)) (cond (b && true) ([] ∷ lines_of rest) ((c ∷ []) ∷ lines_of rest)) ≡ cond a ([] ∷ ([] ∷ [])) (cond (b && false) ([] ∷ []) ((c ∷ []) ∷ [])) ++ lines_of rest
    single true b e = refl
    single false true e = absurd cc
    single false false e = refl
lines_behind_feed (c ∷ d ∷ cs) rest e =
    joined c (eqb c 10) (eqb c 13 && eqb d 10) (lines_of (d ∷ cs)) (lines_of ((d ∷ cs) ++ (10 ∷ rest))) (lines_of rest) (lines_behind_feed (d ∷ cs) rest e) (lines_of-open (d ∷ cs))

record Marked (text rest : List ℕ) : Type 0 where
  same : without_mark (text ++ (10 ∷ rest)) ≡ without_mark text ++ (10 ∷ rest)
  return : ends_return (without_mark text) ≡ false

-- a test that does not hold
unmarked : (b : Bool) (x y : List ℕ) → b ≡ false → cond b x y ≡ y
unmarked b x y e = ap (λ (t : Bool). cond t x y) e

marked : (text rest : List ℕ) → ends_return text ≡ false → Marked text rest
marked [] rest e = record { same = refl; return = refl }
marked (a ∷ []) rest e = record {
  same = unmarked (eqb 239 a && false) _ _ (and_false (eqb 239 a)) ∙ ap (λ (x : List ℕ). x ++ (10 ∷ rest)) (sym (unmarked (eqb 239 a && false) _ _ (and_false (eqb 239 a))));
  return = ap ends_return (unmarked (eqb 239 a && false) _ _ (and_false (eqb 239 a))) ∙ e;
}
marked (a ∷ b ∷ []) rest e =
    let none : eqb 239 a && (eqb 187 b && false) ≡ false = ap (λ (t : Bool). eqb 239 a && t) (and_false (eqb 187 b)) ∙ and_false (eqb 239 a) in
    record {
      same = unmarked (eqb 239 a && (eqb 187 b && false)) _ _ none ∙ ap (λ (x : List ℕ). x ++ (10 ∷ rest)) (sym (unmarked (eqb 239 a && (eqb 187 b && false)) _ _ none));
      return = ap ends_return (unmarked (eqb 239 a && (eqb 187 b && false)) _ _ none) ∙ e;
    }
marked (a ∷ b ∷ c ∷ ds) rest e = record { same = either (test a b c); return = ending (test a b c) ds e }
  where
    test : ℕ → ℕ → ℕ → Bool
    test a b c = pointwise nat_eq (239 ∷ 187 ∷ 191 ∷ []) (a ∷ b ∷ c ∷ [])

    either : (t : Bool) → cond t (ds ++ (10 ∷ rest)) (a ∷ b ∷ c ∷ (ds ++ (10 ∷ rest))) ≡ cond t ds (a ∷ b ∷ c ∷ ds) ++ (10 ∷ rest)
    either true = refl
    either false = refl

    ending : (t : Bool) (ds : List ℕ) → ends_return (a ∷ b ∷ c ∷ ds) ≡ false → ends_return (cond t ds (a ∷ b ∷ c ∷ ds)) ≡ false
    ending true [] e = refl
    ending true (d ∷ ds) e = e
    ending false ds e = e

pub refused_front : (text rest : List ℕ) (fault : Fault) (o : Option Tree) → Refuses text fault → IsFinal fault → ends_return text ≡ false → Carried (text ++ (10 ∷ rest)) o → ⊥
refused_front text rest fault o refuses final return carried =
    let m = marked text rest return in
    refused_for_good text (text ++ (10 ∷ rest)) (lines_of rest) fault o refuses final (ap lines_of m.same ∙ lines_behind_feed (without_mark text) rest m.return) carried
