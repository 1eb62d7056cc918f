-- By what a composition is refused.
use Rattle.std.proofs.Common.{◌≡◌, ℕ, List, [], ◌∷◌, ◌++◌, true, false, inl, inr, refl, sym, ap, subst, ◌∙◌}
use Rattle.std.specs.Prelude.{◌⊎◌, IfErr, IfOk, Result, Ok, Err, fold}
use Rattle.std.proofs.lemmas.Bool.{and_parts}
use Rattle.compose_fit.specs.Fit.{IsMisfit, WiresFit}
use Rattle.compose_fit.specs.declared.misfit.Misfit.{Misfit}
use Rattle.compose_order.specs.Agreed.{AllBrought, AreOrdered, HasNoPlace, IsCaseClash, IsUnbrought, NoClash}
use Rattle.compose_order.specs.Needs.{LeftTree}
use Rattle.compose_needs.specs.Lefts.{Lefts, lefts_of}
use Rattle.compose_left.specs.Wiring.{HasNoCircle, Wiring}
use Rattle.compose_check.specs.Bits.{IsBitRefusal, IsOrdered}
use Rattle.compose_naming.specs.Bits.{HaveBits, IsFirstWithoutBit}
use Rattle.compose_check.specs.Checked.{IsAgreement, IsCheckRefusal, IsIncompatible, IsSound, IsUnfitWire, IsUnfounded}
use Rattle.compose_check.specs.Composition.{CompositionTree, IsComposition, wiring}
use Rattle.compose_check.specs.declared.error.CheckError.{CheckError}
use Rattle.compose_check.specs.declared.error.CheckError.TheVariants as refusal
use Rattle.compose_check.proofs.InstanceLaws.{no_circle_has_none}
use Rattle.compose_check.specs.Open.{Asked, IsDisagreement, agrees, all_agree, left_open, lefts, with_asked}
use Rattle.compose_check.specs.declared.error.Why.{Why}
use Rattle.compose_check.specs.declared.error.Why.TheVariants as why

-- a wire that does not fit is what does not go together
pub unfit_refuses : (w : Wiring) (reason : Why) (m : Misfit) → IsMisfit w m → IsUnfitWire reason m → IsIncompatible w reason
unfit_refuses w (why.NotInstance import) m is cause = (m, is, cause)
unfit_refuses w (why.Unfit export import) m is cause = (m, is, cause)
unfit_refuses w (why.Disagree name) m is cause = absurd cause
unfit_refuses w (why.CaseClash earlier later) m is cause = absurd cause
unfit_refuses w (why.NeedsUnbrought name) m is cause = absurd cause
unfit_refuses w (why.Circle name) m is cause = absurd cause
unfit_refuses w (why.ExportNeeds name) m is cause = absurd cause

-- what merges, and has an order
pub in_order : (w : Wiring) (ls out : List LeftTree) → ls ≡ lefts w → all_agree [] (left_open w) ≡ true → NoClash ls → AreOrdered (lefts_of w) ls out → IsOrdered w out
in_order w ls out is merges apart ordered = record {
  merges = merges;
  apart = subst NoClash is apart;
  ordered = subst (λ (ms : List LeftTree). AreOrdered (lefts_of w) ms out) is ordered;
}

pub ok_then : {X E : Type 0} (r : Result X E) (P Q : X → Type 0) → ((x : X) → P x → Q x) → IfOk r P → IfOk r Q
ok_then (Ok x) P Q f h = f x h
ok_then (Err e) P Q f h = tt

pub err_then : {X E : Type 0} (r : Result X E) (P Q : E → Type 0) → ((e : E) → P e → Q e) → IfErr r P → IfErr r Q
err_then (Ok x) P Q f h = tt
err_then (Err e) P Q f h = f e h

pub founded : (A B C : Type 0) → A × B → A × (B ⊎ C)
founded A B C h = (h.0, inl h.1)

-- agrees where its functions have the naming bit
pub agreement : (w : Wiring) (out with_bits : List LeftTree) → with_bits ≡ out → IsOrdered w out → HaveBits with_bits → IsAgreement w with_bits
agreement w out with_bits same o bits = record {
  merges = o.merges;
  apart = o.apart;
  ordered = subst (λ (out : List LeftTree). AreOrdered (lefts_of w) (lefts w) out) (sym same) o.ordered;
  bits = bits;
}

-- left imports in order that have a function without the naming bit
pub bits_refuse : (c : CompositionTree) (out : List LeftTree) (e : CheckError) → IsOrdered (wiring c) out → HasNoCircle (wiring c)
    → WiresFit (wiring c) → IsBitRefusal out e → IsCheckRefusal c e
bits_refuse c out (refusal.Incompatible (why.NeedsUnbrought name)) o no_circle fit lacks = record {
  no_circle = no_circle;
  cause = record {
    fit = fit;
    merges = o.merges;
    cause = (o.apart, inr (record { out = out; ordered = o.ordered; lacks = lacks }));
  };
}
bits_refuse c out refusal.Memory o no_circle fit lacks = tt
bits_refuse c out (refusal.Cycle instance name) o no_circle fit lacks = absurd lacks
bits_refuse c out (refusal.Incompatible (why.NotInstance import)) o no_circle fit lacks = absurd lacks
bits_refuse c out (refusal.Incompatible (why.Unfit export import)) o no_circle fit lacks = absurd lacks
bits_refuse c out (refusal.Incompatible (why.Disagree name)) o no_circle fit lacks = absurd lacks
bits_refuse c out (refusal.Incompatible (why.CaseClash earlier later)) o no_circle fit lacks = absurd lacks
bits_refuse c out (refusal.Incompatible (why.Circle name)) o no_circle fit lacks = absurd lacks
bits_refuse c out (refusal.Incompatible (why.ExportNeeds name)) o no_circle fit lacks = absurd lacks

-- what all agrees differs nowhere
agrees_at : (ls : List LeftTree) (before : List Asked) (x : Asked) (after : List Asked) → all_agree ls (before ++ x ∷ after) ≡ true → agrees (fold with_asked ls before) x ≡ true
agrees_at ls [] x after all = (and_parts (agrees ls x) (all_agree (with_asked ls x) after) all).0
agrees_at ls (y ∷ before) x after all = agrees_at (with_asked ls y) before x after (and_parts (agrees ls y) (all_agree (with_asked ls y) (before ++ x ∷ after)) all).1

pub no_disagreement : (xs : List Asked) (name : List ℕ) → all_agree [] xs ≡ true → IsDisagreement xs name → ⊥
no_disagreement xs name all d = absurd (let bad : true ≡ false = sym (agrees_at [] d.before d.asked d.after (ap (all_agree []) (sym d.all) ∙ all)) ∙ d.differs in cc)

-- laws of what fits, and of what left imports need
pub record Laws : Type 0 where
  pub fit : (w : Wiring) (m : Misfit) → IsMisfit w m → WiresFit w → ⊥
  pub clash : (ls : List LeftTree) (a b : List ℕ) → NoClash ls → IsCaseClash ls a b → ⊥
  pub unbrought : (left : Lefts) (ls : List LeftTree) (n : List ℕ) → AllBrought left ls → IsUnbrought left ls n → ⊥
  pub ordered : (left : Lefts) (ls xs ys : List LeftTree) → AreOrdered left ls xs → AreOrdered left ls ys → xs ≡ ys
  pub bits : (ls : List LeftTree) (n : ℕ) → HaveBits ls → IsFirstWithoutBit ls n → ⊥
  pub circle : (left : Lefts) (ls out : List LeftTree) (n : List ℕ) → AreOrdered left ls out → HasNoPlace left ls n → ⊥

unfounded : Laws → (w : Wiring) (out : List LeftTree) (name : List ℕ) → IsAgreement w out → IsUnfounded (lefts_of w) (lefts w) name → ⊥
unfounded l w out name agree (inl h) = l.unbrought (lefts_of w) (lefts w) name agree.ordered.numbered.brought h
unfounded l w out name agree (inr h) =
    l.bits h.out h.lacks.number (subst HaveBits (l.ordered (lefts_of w) (lefts w) out h.out agree.ordered h.ordered) agree.bits) h.lacks.first

incompatible : Laws → (w : Wiring) (out : List LeftTree) (reason : Why) → WiresFit w → IsAgreement w out → IsIncompatible w reason → ⊥
incompatible l w out (why.NotInstance import) fit agree cause = l.fit w cause.0 cause.1 fit
incompatible l w out (why.Unfit export import) fit agree cause = l.fit w cause.0 cause.1 fit
incompatible l w out (why.Disagree name) fit agree cause = no_disagreement (left_open w) name agree.merges cause.cause
incompatible l w out (why.CaseClash earlier later) fit agree cause = l.clash (lefts w) earlier later agree.apart cause.cause
incompatible l w out (why.NeedsUnbrought name) fit agree cause = unfounded l w out name agree cause.cause.1
incompatible l w out (why.Circle name) fit agree cause = l.circle (lefts_of w) (lefts w) out name agree.ordered cause.cause.1
incompatible l w out (why.ExportNeeds name) fit agree cause = cause

pub not_refused : Laws → (c : CompositionTree) (order : List ℕ) (out : List LeftTree) (e : CheckError) → IsComposition c → IsSound c order out → IsCheckRefusal c e → e ≡ refusal.Memory
not_refused l c order out (refusal.Cycle instance name) made sound cause = absurd (no_circle_has_none c made sound.no_circle instance cause.last.on)
not_refused l c order out (refusal.Incompatible reason) made sound cause = absurd (incompatible l (wiring c) out reason sound.fit sound.agree cause.cause)
not_refused l c order out refusal.Memory made sound cause = refl
