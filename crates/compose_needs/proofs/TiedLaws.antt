-- What is mentioned is named there or earlier.
use Rattle.std.proofs.Common.{◌≡◌, Bool, true, false, List, [], ◌∷◌, ◌++◌, refl, sym, ap, subst, ◌∙◌, append_assoc}
use Rattle.std.specs.Prelude.{◌||◌, ◌↔◌}
use Rattle.std.specs.List.{list_all}
use Rattle.std.proofs.lemmas.Bool.{and_parts}
use Rattle.compose_left.specs.declared.spots.Thing.{Thing}
use Rattle.compose_left.specs.Origins.{same_thing}
use Rattle.compose_needs.specs.declared.place.Place.{Place}
use Rattle.compose_needs.specs.Mentioned.{has}
use Rattle.compose_needs.specs.Tied.{AreTied, are_tied, named_in}
use Rattle.compose_needs.specs.ThingLaws.{both, same_itself, same_things}

-- behind what was seen, in the words of the rule
TiedBehind : List Thing → List Place → Type 0
TiedBehind seen ps = (before after : List Place) (p : Place) (t : Thing) → ps ≡ before ++ p ∷ after → has p.asked t ≡ true → has (seen ++ named_in (before ++ p ∷ [])) t ≡ true

or_parts : {A : Type 0} (a b : Bool) → (a || b) ≡ true → (a ≡ true → A) → (b ≡ true → A) → A
or_parts true b e f g = f refl
or_parts false b e f g = g e

all_has : (ns ts : List Thing) (t : Thing) → list_all (has ns) ts ≡ true → has ts t ≡ true → has ns t ≡ true
all_has ns [] t all h = absurd cc
all_has ns (x ∷ ts) t all h =
    let parts = and_parts (has ns x) (list_all (has ns) ts) all in
    or_parts (same_thing x t) (has ts t) h (λ e. ap (has ns) (sym (same_things x t e)) ∙ parts.0) (λ e. all_has ns ts t parts.1 e)

no_more : (ts : List Thing) → ts ++ [] ≡ ts
no_more [] = refl
no_more (t ∷ ts) = ap (λ us. t ∷ us) (no_more ts)

tied_sound : (seen : List Thing) (ps : List Place) → are_tied seen ps ≡ true → TiedBehind seen ps
unfolding TiedBehind
tied_sound seen [] h [] after p t e a = absurd cc
tied_sound seen [] h (b ∷ before) after p t e a = absurd cc
tied_sound seen (q ∷ ps) h [] after p t e a =
    let parts = and_parts (list_all (has (seen ++ q.named)) q.asked) (are_tied (seen ++ q.named) ps) h in
    let same : q ≡ p = cc in
    subst (λ (r : Place). has (seen ++ named_in (r ∷ [])) t ≡ true) same
    (ap (λ ts. has (seen ++ ts) t) (no_more q.named) ∙ all_has (seen ++ q.named) q.asked t parts.0 (ap (λ (r : Place). has r.asked t) same ∙ a))
tied_sound seen (q ∷ ps) h (b ∷ before) after p t e a =
    let parts = and_parts (list_all (has (seen ++ q.named)) q.asked) (are_tied (seen ++ q.named) ps) h in
    let same : q ≡ b = cc in
    let rest : ps ≡ before ++ p ∷ after = cc in
    subst (λ (r : Place). has (seen ++ (r.named ++ named_in (before ++ p ∷ []))) t ≡ true) same
    (ap (λ ts. has ts t) (sym (append_assoc seen q.named (named_in (before ++ p ∷ [])))) ∙ tied_sound (seen ++ q.named) ps parts.1 before after p t rest a)

or_left : (a b : Bool) → a ≡ true → (a || b) ≡ true
or_left true b e = refl
or_left false b e = absurd cc

or_right : (a b : Bool) → b ≡ true → (a || b) ≡ true
or_right true b e = refl
or_right false b e = e

has_all : (ns ts : List Thing) → ((t : Thing) → has ts t ≡ true → has ns t ≡ true) → list_all (has ns) ts ≡ true
has_all ns [] h = refl
has_all ns (t ∷ ts) h = both (has ns t) (list_all (has ns) ts) (h t (or_left (same_thing t t) (has ts t) (same_itself t))) (has_all ns ts (λ u e. h u (or_right (same_thing t u) (has ts u) e)))

tied_complete : (seen : List Thing) (ps : List Place) → TiedBehind seen ps → are_tied seen ps ≡ true
unfolding TiedBehind
tied_complete seen [] h = refl
tied_complete seen (q ∷ ps) h =
    both (list_all (has (seen ++ q.named)) q.asked) (are_tied (seen ++ q.named) ps)
    (has_all (seen ++ q.named) q.asked (λ t e. ap (λ ts. has (seen ++ ts) t) (sym (no_more q.named)) ∙ h [] ps q t refl e))
    (tied_complete (seen ++ q.named) ps (λ before after p t e a. ap (λ ts. has ts t) (append_assoc seen q.named (named_in (before ++ p ∷ []))) ∙ h (q ∷ before) after p t (ap (λ rs. q ∷ rs) e) a))

pub tied_is : (ps : List Place) → (are_tied [] ps ≡ true) ↔ AreTied ps
unfolding TiedBehind
tied_is ps = (tied_sound [] ps, tied_complete [] ps)
