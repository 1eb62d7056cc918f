use Rattle.std.proofs.Common.{rules, ◌≡◌, ◌==◌, ◌∷◌, [], List, ℕ, Bool, true, refl, sym, ◌∙◌, ap, subst, length, arith}
use Rattle.std.specs.Str.{IsUtf8}
use Rattle.std.proofs.lemmas.Bool.{false≢true, eqb-true}
use Rattle.warg_hint.specs.Hint.{IsHint}
use Rattle.warg_hint.proofs.CutLaws.{cut-none, cut-some, cut-parts}
use Rattle.warg_hint.proofs.hint.read_hint.Goals.{then-is_empty-via-then-is_empty, then-is_empty-via-else-is_empty+then-is_empty-2}
use Rattle.warg_hint.proofs.hint.read_hint.Goals as goal

no-items : (xs : List ℕ) (b : Bool) → b ≡ (length xs == 0) → b ≡ true → xs ≡ []
no-items [] b is found = refl
no-items (x ∷ xs) b is found = let none : length (x ∷ xs) ≡ 0 = eqb-true (length (x ∷ xs)) 0 (sym is ∙ found) in absurd (omega (arith, none))

some-items : (xs : List ℕ) (b : Bool) → b ≡ (length xs == 0) → (b ≡ true → ⊥) → xs ≡ [] → ⊥
some-items xs b is found none = found (is ∙ ap (λ (l : List ℕ). length l == 0) none)

pub returns-in_default-split_once : goal.returns-in_default-split_once
returns-in_default-split_once c namespace registry hint =
    let same : c.in-Ok.text.now ≡ c.args.value.now.bytes = c.in-Ok.ensures.cases.0 ∙ c.as_bytes.ensures.value in
    cut-none c.in-Ok.text.now c.split_once.result c.split_once.ensures.cases (search rules) namespace registry (subst (λ (t : List ℕ). IsHint t namespace registry) (sym same) hint)

pub returns-then-is_empty : goal.returns-then-is_empty
returns-then-is_empty c namespace registry hint =
    let same : c.in-Ok.text.now ≡ c.args.value.now.bytes = c.in-Ok.ensures.cases.0 ∙ c.as_bytes.ensures.value in
    let parts = cut-some c.in-Ok.text.now c.split_once.result (c.in-Some.namespace, c.in-Some.registry) c.split_once.ensures.cases c.in-Some.is namespace registry (subst (λ (t : List ℕ). IsHint t namespace registry) (sym same) hint) in
    elim c.then-is_empty.branch [
      | then-is_empty-via-then-is_empty w ↦ hint.has_namespace (sym parts.0 ∙ no-items c.in-Some.namespace.now c.is_empty.result c.is_empty.ensures w.if-is_empty.true)
      | then-is_empty-via-else-is_empty+then-is_empty-2 w ↦ hint.has_registry (sym parts.1 ∙ no-items c.in-Some.registry.now w.is_empty-else-is_empty.result w.is_empty-else-is_empty.ensures w.if-is_empty-2.true)
    ]

pub returns : goal.returns
returns c =
    let same : c.in-Ok.text.now ≡ c.args.value.now.bytes = c.in-Ok.ensures.cases.0 ∙ c.as_bytes.ensures.value in
    let parts = cut-parts c.in-Ok.text.now c.split_once.result (c.in-Some.namespace, c.in-Some.registry) c.split_once.ensures.cases c.in-Some.is in
    record {
      is_text = subst IsUtf8 c.as_bytes.ensures.value c.in-Ok.ensures.cases.1;
      parts = sym same ∙ parts.0;
      first = parts.1;
      has_namespace = some-items c.in-Some.namespace.now c.is_empty.result c.is_empty.ensures (λ e. false≢true (sym c.if-is_empty.false ∙ e));
      has_registry = some-items c.in-Some.registry.now c.is_empty-else-is_empty.result c.is_empty-else-is_empty.ensures (λ e. false≢true (sym c.if-is_empty-2.false ∙ e));
    }
