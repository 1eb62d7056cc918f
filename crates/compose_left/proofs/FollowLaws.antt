-- Following wires.
use Rattle.std.proofs.Common.{◌≡◌, ℕ, ◌+◌, ◌≤◌, Bool, true, false, List, [], ◌∷◌, ◌++◌, length, Option, Some, refl, sym, ap, subst, ◌∙◌, arith, inl, inr}
use Rattle.std.specs.Prelude.{◌⊎◌, ◌||◌, ◌&&◌, is_some}
use Rattle.std.specs.List.{list_any, AllByRecursion}
use Rattle.std.specs.BTreeMap.{BTreeMap, get}
use Rattle.std.specs.Cmp.{nat_eq_equiv}
use Rattle.std.proofs.lemmas.List.Folds.{list_any-append}
use Rattle.comp_entity.specs.Fits.{same_truth}
use Rattle.compose_left.proofs.ListLaws.{all_push, or_left, or_right}
use Rattle.compose_left.specs.declared.origin.Origin.{Origin}
use Rattle.compose_left.specs.declared.origin.Held.{Held}
use Rattle.compose_left.specs.declared.origin.Step.TheVariants as step
use Rattle.compose_left.specs.declared.numbering.Followed.{Followed}
use Rattle.compose_left.specs.declared.numbering.Reached.TheVariants as reached
use Rattle.compose_left.specs.Wiring.{Wiring, HasNoCircle}
use Rattle.compose_left.specs.Origins.{origin, step_from, follow}
use Rattle.compose_left.specs.Numbers.{same_held, held_cmp, IsFollowed, IsReached}
use Rattle.compose_left.proofs.OriginLaws.{origin_step, goes_down}

-- so many wires were passed, from one thing to another, over these
pub record Following (w : Wiring) (from held : Held) (trail : List Held) (passed : ℕ) : Type 0 where
  pub same : origin w held ≡ origin w from
  pub alike : AllByRecursion (λ h. origin w h ≡ origin w from) trail
  pub begun : (list_any (λ t. same_held t from) trail ≡ true) ⊎ (held ≡ from)
  pub room : (n : HasNoCircle w) → n.place held.instance + passed ≤ length w.shapes

pub follow_begins : (w : Wiring) (from : Held) → Following w from from [] 0
follow_begins w from = record { same = refl; alike = tt; begun = inr refl; room = λ n. let le = n.within from.instance in omega (arith, le) }

truth_itself : (b : Bool) → same_truth b b ≡ true
truth_itself true = refl
truth_itself false = refl

pub held_itself : (h : Held) → same_held h h ≡ true
held_itself h = λ i. nat_eq_equiv.refl h.instance i && (truth_itself h.thing.is_type i && (nat_eq_equiv.refl h.thing.out i && nat_eq_equiv.refl h.thing.number i))

module _ (w : Wiring) (from held : Held) (trail : List Held) (passed : ℕ) (f : Following w from held trail passed) where
  pushed_alike : AllByRecursion (λ h. origin w h ≡ origin w from) (trail ++ held ∷ [])
  pushed_alike = all_push (λ h. origin w h ≡ origin w from) trail held f.alike f.same

  pushed_noted : list_any (λ t. same_held t from) (trail ++ held ∷ []) ≡ true
  pushed_noted = list_any-append (λ t. same_held t from) trail (held ∷ []) ∙ one f.begun
    where
      one : (list_any (λ t. same_held t from) trail ≡ true) ⊎ (held ≡ from) → (list_any (λ t. same_held t from) trail || (same_held held from || false)) ≡ true
      one (inl e) = or_left _ _ e
      one (inr e) = or_right (list_any (λ t. same_held t from) trail) _ (or_left (same_held held from) false (ap (λ (h : Held). same_held held h) (sym e) ∙ held_itself held))

  pub known : (numbers : BTreeMap Held ℕ) (k : ℕ) → get held_cmp numbers held ≡ Some k → (items : List Held) → items ≡ trail → (made : Followed) → made.reached ≡ reached.Known k → made.trail.items ≡ items → IsFollowed w numbers from made
  known numbers k e items same made is its = record {
    alike = subst (AllByRecursion (λ h. origin w h ≡ origin w from)) (sym (its ∙ same)) f.alike;
    noted = ap (λ (ts : List Held). list_any (λ t. same_held t from) ts || is_some (get held_cmp numbers from)) (its ∙ same) ∙ one f.begun;
    reached = subst (IsReached w numbers (origin w from)) (sym is) (held, e, f.same);
  }
    where
      one : (list_any (λ t. same_held t from) trail ≡ true) ⊎ (held ≡ from) → (list_any (λ t. same_held t from) trail || is_some (get held_cmp numbers from)) ≡ true
      one (inl a) = or_left _ _ a
      one (inr a) = or_right (list_any (λ t. same_held t from) trail) _ (ap (λ (h : Held). is_some (get held_cmp numbers h)) (sym a) ∙ ap (λ (o : Option ℕ). is_some o) e)

  pub ended : (n : HasNoCircle w) (numbers : BTreeMap Held ℕ) (o : Origin) → step.Ends o ≡ step_from w held → (made : Followed) → made.reached ≡ reached.Ends o → made.trail.items ≡ trail ++ held ∷ [] → IsFollowed w numbers from made
  ended n numbers o e made is its = record {
    alike = subst (AllByRecursion (λ h. origin w h ≡ origin w from)) (sym its) pushed_alike;
    noted = or_left _ _ (ap (λ (ts : List Held). list_any (λ t. same_held t from) ts) its ∙ pushed_noted);
    reached = subst (IsReached w numbers (origin w from)) (sym is) (ap (follow (origin w)) e ∙ sym (origin_step w n held) ∙ f.same);
  }

  pub goes_on : (n : HasNoCircle w) (next : Held) (items : List Held) → step.Goes next ≡ step_from w held → items ≡ trail ++ held ∷ [] → Following w from next items (passed + 1)
  goes_on n next items e its = record {
    same = ap (follow (origin w)) e ∙ sym (origin_step w n held) ∙ f.same;
    alike = subst (AllByRecursion (λ h. origin w h ≡ origin w from)) (sym its) pushed_alike;
    begun = inl (ap (λ (ts : List Held). list_any (λ t. same_held t from) ts) its ∙ pushed_noted);
    room = λ m. let lt = goes_down w m held next (sym e) in let le = f.room m in omega (arith, lt, le);
  }
