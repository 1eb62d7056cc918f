use Rattle.std.proofs.Common.{◌≡◌, ◌<◌, ◌∷◌, [], List, ℕ, zero, suc, Bool, true, false, Some, refl, rules, sym, ◌∙◌, ap, length, arith, get_or}
use Rattle.std.specs.Prelude.{is_some, slice_get, if◌then◌else◌}
use Rattle.std.specs.Map.{lookup}
use Rattle.std.proofs.lemmas.Option.{slice_get_within, get_or_from_slice_get}
use Rattle.warg_page.proofs.listed.is_listed.Goals as goal

-- where a look-up finds an entry, it is there
entry-there : {V : Type 0} (t : List ℕ → Bool) (es : List (List ℕ × V)) (id : List ℕ) → ((x : List ℕ) → t x ≡ true → id ≡ x) → is_some (lookup t es) ≡ true → (i : ℕ) × (v : V) × (slice_get es i ≡ Some (id, v))
entry-there t [] id sound found = absurd cc
entry-there {V = V} t (e ∷ es) id sound found = by_test (t e.0) refl found (λ any. entry-there t es id sound any)
  where
    by_test : (b : Bool) → t e.0 ≡ b → is_some (if b then Some e.1 else lookup t es) ≡ true → (is_some (lookup t es) ≡ true → (i : ℕ) × (v : V) × (slice_get es i ≡ Some (id, v)))
        → (i : ℕ) × (v : V) × (slice_get (e ∷ es) i ≡ Some (id, v))
    by_test true is any rest = (0, e.1, ap (λ (k : List ℕ). Some (k, e.1)) (sym (sound e.0 is)))
    by_test false is any rest = let there = rest any in (suc there.0, there.1, there.2)

-- where a look-up finds none, no entry has the key
entry-absent : {V : Type 0} (t : List ℕ → Bool) (es : List (List ℕ × V)) (e : List ℕ × V) (i : ℕ) → t e.0 ≡ true → is_some (lookup t es) ≡ false → i < length es → get_or es i e ≡ e → ⊥
entry-absent t [] e i holds none lt is = absurd (omega (arith, lt))
entry-absent {V = V} t (x ∷ es) e i holds none lt is = by_test (t x.0) refl none i lt is (λ rest j less same. entry-absent t es e j holds rest less same)
  where
    by_test : (b : Bool) → t x.0 ≡ b → is_some (if b then Some x.1 else lookup t es) ≡ false → (j : ℕ) → j < length (x ∷ es) → get_or (x ∷ es) j e ≡ e
        → (is_some (lookup t es) ≡ false → (k : ℕ) → k < length es → get_or es k e ≡ e → ⊥) → ⊥
    by_test true known found j less same deeper = absurd cc
    by_test false known found zero less same deeper = absurd (true-false (sym holds ∙ ap (λ (y : List ℕ × V). t y.0) (sym same) ∙ known))
      where
        true-false : true ≡ false → ⊥
        true-false q = absurd cc
    by_test false known found (suc j) less same deeper = deeper found j (omega (arith, less)) same

pub returns-clause-listed : goal.returns-clause-listed
returns-clause-listed c known =
    let es = c.args.listed.now.entries in
    let id = c.args.id.now in
    let there = entry-there _ es id (λ x e. search rules) (sym c.contains_key.ensures ∙ known) in
    (there.1, (there.0, slice_get_within es there.0 (id, there.1) there.2, get_or_from_slice_get es there.0 (id, there.1) (id, there.1) there.2))

pub returns-clause-absent : goal.returns-clause-absent
returns-clause-absent c known records there =
    let es = c.args.listed.now.entries in
    let id = c.args.id.now in
    entry-absent _ es (id, records) there.0 (search rules) (sym c.contains_key.ensures ∙ known) there.1 there.2
