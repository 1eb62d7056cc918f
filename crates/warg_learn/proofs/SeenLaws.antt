-- What is known by a learner after a part, and what is left where nothing was asked.
use Rattle.std.proofs.Common.{◌≡◌, ℕ, ◌≤◌, cond, List, [], ◌∷◌, Option, Some, bytes_eq, IfSome, drop, length, ◌++◌, refl, sym, ap, subst, ◌∙◌, arith, append-nil}
use Rattle.std.proofs.Math.Seq.{drop-append_seam}
use Rattle.std.specs.Cmp.Lexicographic.{nat_list_eq_equiv}
use Rattle.std.specs.Map.{lookup}
use Rattle.warg_exchange.specs.declared.exchange.Exchange.{Exchange}
use Rattle.warg_exchange.specs.Requests.{Asker}
use Rattle.warg_session.specs.Proved.{Start, AreAsked}
use Rattle.warg_session.specs.Recording.{Transcript}
use Rattle.warg_session.specs.Updating.{IsBegun}
use Rattle.warg_store.specs.Contents.{Contents}
use Rattle.warg_store.specs.Held.{Registry}
use Rattle.warg_assemble.specs.Known.{Known}
use Rattle.warg_fetch.specs.Stored.{KnowsContents}
use Rattle.warg_learn.specs.Seen.{Seen, IsSame, NeverFalls}

pub if_some : {X : Type 0} (P : X → Type 0) (o : Option X) (x : X) → o ≡ Some x → P x → IfSome o P
if_some P o x e p = subst (λ o. IfSome o P) (sym e) p

pub at_most : {a b : ℕ} → a ≡ b → a ≤ b
at_most e = omega arith

-- ---- exchanges

-- the exchanges since a moment
abbrev pub since : {T : Type 0} → Transcript T → Transcript T → List Exchange
since begun now = drop (length begun.exchanges) now.exchanges

pub since_is : {T : Type 0} (begun now : Transcript T) (xs : List Exchange) → now.exchanges ≡ begun.exchanges ++ xs → since begun now ≡ xs
since_is begun now xs e = ap (drop (length begun.exchanges)) e ∙ drop-append_seam begun.exchanges xs

none_asked : (a : Asker) (start : Start) → AreAsked a start []
none_asked a start n x e = absurd cc

-- nothing was asked
pub nothing_begun : {T : Type 0} (a : Asker) (start : Start) (now : Transcript T) → IsBegun a start now now
nothing_begun a start now = record { exchanges = []; kept = sym (append-nil now.exchanges); asked = none_asked a start }

-- ---- what is known

-- a store that tells the same knows the same contents
pub knows_contents : (old new : Option Contents) (known later : Known) → new ≡ old → ((digest : List ℕ) → known.contents digest ≡ later.contents digest) → KnowsContents old known → KnowsContents new later
knows_contents old new known later told same k = record {
  held = k.held;
  tells = told ∙ k.tells;
  contents = λ digest. k.contents digest ∙ same digest;
}

-- the registry of a package that was updated last is looked up first
pub noted_first : (old new : List (List ℕ × Registry)) (known : List (List ℕ × Registry)) (name key : List ℕ) (registry : Registry) → key ≡ name
    → ((q : List ℕ) → lookup (λ n. bytes_eq q n) new ≡ cond (bytes_eq key q) (Some registry) (lookup (λ n. bytes_eq q n) old))
    → ((q : List ℕ) → lookup (λ n. bytes_eq q n) known ≡ lookup (λ n. bytes_eq q n) old)
    → (q : List ℕ) → lookup (λ n. bytes_eq q n) ((name, registry) ∷ known) ≡ lookup (λ n. bytes_eq q n) new
noted_first old new known name key registry is noted same q =
    ap (λ b. cond b (Some registry) (lookup (λ n. bytes_eq q n) known)) (nat_list_eq_equiv.symm q name ∙ ap (λ n. bytes_eq n q) (sym is))
    ∙ ap (λ o. cond (bytes_eq key q) (Some registry) o) (same q) ∙ sym (noted q)

-- ---- what stays

module _ {T D : Type 0} where
  pub same_seen : (s : Seen T D) → IsSame s s
  same_seen s = record { accepts = refl; asker = refl }

  pub none_falls : (s : Seen T D) → NeverFalls s s
  none_falls s = record { link = omega arith; registries = omega arith; contents = omega arith; names = omega arith }
