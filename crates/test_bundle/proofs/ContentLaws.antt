-- Maps of contents, one more each time.
use Rattle.std.proofs.Common.{◌≡◌, ◌∙◌, ℕ, Bool, true, false, cond, List, Some, None, Bor, refl, sym, ap, subst}
use Rattle.std.specs.HashMap.{HashMap}
use Rattle.std.specs.Prelude.{[], bytes_eq, option_map}
use Rattle.comp_format.specs.Fits.{IsComponent}
use Rattle.indexmap.specs.IndexMap.{get}
use Rattle.compose_bundle.specs.Bundled.{AreComponents, content_in}

abbrev Contents : Type 0 → Type 0
Contents S = HashMap (List ℕ) (Bor (List ℕ)) S

pub one_more : {S : Type 0} (old new : Contents S) (key : List ℕ) (lent : Bor (List ℕ))
    → ((name : List ℕ) → get bytes_eq new name ≡ cond (bytes_eq key name) (Some lent) (get bytes_eq old name))
    → IsComponent lent.now
    → AreComponents (content_in old)
    → AreComponents (content_in new)
one_more old new key lent updates here there = λ name bytes found. by name bytes found (bytes_eq key name) refl
  where
    by : (name bytes : List ℕ) → content_in new name ≡ Some bytes → (b : Bool) → bytes_eq key name ≡ b → IsComponent bytes
    by name bytes found true e =
        let is = ap (option_map (λ (b : Bor (List ℕ)). b.now))
        (updates name ∙ ap (λ b. cond b (Some lent) (get bytes_eq old name)) e) in
        let same : lent.now ≡ bytes = cc in
        subst IsComponent same here
    by name bytes found false e =
        there name bytes (sym (ap (option_map (λ (b : Bor (List ℕ)). b.now))
        (updates name ∙ ap (λ b. cond b (Some lent) (get bytes_eq old name)) e)) ∙ found)
