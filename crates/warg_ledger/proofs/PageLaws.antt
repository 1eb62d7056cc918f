-- An honest registry's page is taken, list by list.
use Rattle.std.proofs.Common.{◌≡◌, ◌<◌, ◌++◌, ◌∷◌, [], inl, inr, List, ℕ, Bool, zero, suc, refl, sym, ◌∙◌, ap, subst, length, take, append_assoc, append-nil, arith, get_or}
use Rattle.std.specs.Prelude.{Contains, bytes_eq, if◌then◌else◌}
use Rattle.std.proofs.lemmas.Slice.Eq.{bytes_eq-Decides}
use Rattle.warg_hash.specs.Hash.{operator_log_id, package_log_id}
use Rattle.warg_record.specs.Record.{Kind, Package, Operator}
use Rattle.warg_log.specs.Rules.{Accepts}
use Rattle.warg_exchange.specs.Views.{Page}
use Rattle.warg_exchange.specs.declared.logs.PublishedRecord.{PublishedRecord}
use Rattle.warg_info.specs.declared.error.TakeError.{TakeError}
use Rattle.warg_info.specs.declared.error.TakeError.TheVariants as fault
use Rattle.warg_info.specs.Faults.{FirstFault}
use Rattle.warg_info.specs.Info.{IsLawfulLog}
use Rattle.warg_info.specs.Kept.{Kept, AreKeptAs, Ascends, Grows}
use Rattle.warg_page.specs.Logs.{Logs, EachGrows, brought}
use Rattle.warg_page.specs.PageFaults.{IsListedFault, FirstListedFault, IsPageFault}
use Rattle.warg_page.specs.declared.page.PageError.{PageError}
use Rattle.warg_page.specs.declared.page.PageError.TheVariants as error
use Rattle.warg_ledger.specs.Registry.{Registry, IsRegistry, log_below, BringsBehind, IsPageOf}
use Rattle.warg_ledger.proofs.AscendLaws.{log-ascends, honest-grows}
use Rattle.warg_ledger.proofs.TakenLaws.{Laws, never-refused}

-- ---- published records in two parts

pub record AreParts (kind : Kind) (p q : List PublishedRecord) (next : List Kept) : Type 0 where
  pub first : List Kept
  pub rest : List Kept
  pub parts : next ≡ first ++ rest
  pub are_first : AreKeptAs kind p first
  pub are_rest : AreKeptAs kind q rest

in-parts : (kind : Kind) (p q : List PublishedRecord) (next : List Kept) → AreKeptAs kind (p ++ q) next → AreParts kind p q next
in-parts kind [] q next are = record { first = []; rest = next; parts = refl; are_first = tt; are_rest = are }
in-parts kind (x ∷ p) q [] are = absurd are
in-parts kind (x ∷ p) q (k ∷ next) are =
    let deeper = in-parts kind p q next are.1 in
    record { first = k ∷ deeper.first; rest = deeper.rest; parts = ap (λ (l : List Kept). k ∷ l) deeper.parts; are_first = (are.0, deeper.are_first); are_rest = deeper.are_rest }

-- what a log is made of, so that what is published of it is taken
pub record IsTold (kind : Kind) (accepts : Accepts) (log : List Kept) : Type 0 where
  pub lawful : IsLawfulLog kind accepts log
  pub ascends : Ascends log

-- behind what was published first, the rest follows
pub goes-on : Laws → (kind : Kind) (accepts : Accepts) (log before after : List Kept) (p q : List PublishedRecord) (more : Bool) → IsTold kind accepts log → BringsBehind kind log before (p ++ q) more
    → Grows kind before p after → BringsBehind kind log after q more
goes-on laws kind accepts log before after p q more told b grows =
    let parts = in-parts kind p q b.next b.published in
    let next_is : b.next ++ b.after ≡ parts.first ++ (parts.rest ++ b.after) = ap (λ (l : List Kept). l ++ b.after) parts.parts ∙ append_assoc parts.first parts.rest b.after in
    let whole : log ≡ before ++ (parts.first ++ (parts.rest ++ b.after)) = b.parts ∙ ap (λ (l : List Kept). before ++ l) next_is in
    let grown : Grows kind before p (before ++ parts.first) = honest-grows kind before parts.first (parts.rest ++ b.after) p (subst Ascends whole told.ascends) parts.are_first in
    let after_is : after ≡ before ++ parts.first = laws.one kind before after (before ++ parts.first) p grows grown in
    record {
      next = parts.rest;
      after = b.after;
      parts = whole ∙ sym (append_assoc before parts.first (parts.rest ++ b.after)) ∙ ap (λ (l : List Kept). l ++ (parts.rest ++ b.after)) (sym after_is);
      published = parts.are_rest;
      all_of_it = b.all_of_it;
    }

-- what is published first has no fault
pub first-taken : Laws → (e : TakeError) (kind : Kind) (accepts : Accepts) (log before : List Kept) (p q : List PublishedRecord) (more : Bool) (kept : List Kept) → IsTold kind accepts log
    → BringsBehind kind log before (p ++ q) more → FirstFault e kind accepts before p kept → e ≡ fault.Memory
first-taken laws e kind accepts log before p q more kept told b f =
    let parts = in-parts kind p q b.next b.published in
    let next_is : b.next ++ b.after ≡ parts.first ++ (parts.rest ++ b.after) = ap (λ (l : List Kept). l ++ b.after) parts.parts ∙ append_assoc parts.first parts.rest b.after in
    let whole : log ≡ before ++ (parts.first ++ (parts.rest ++ b.after)) = b.parts ∙ ap (λ (l : List Kept). before ++ l) next_is in
    never-refused laws e kind accepts before parts.first (parts.rest ++ b.after) p kept (subst (IsLawfulLog kind accepts) whole told.lawful) (subst Ascends whole told.ascends) parts.are_first f

-- ---- lists of a page

-- each package's log begins the registry's, and what is still listed follows; only these packages are listed
pub record AreBehind (w : Registry) (n : ℕ) (packages : List (List ℕ × List Kept)) (listed : List (List ℕ × List PublishedRecord)) (more : Bool) : Type 0 where
  pub each : (name : List ℕ) (log : List Kept) → Contains packages (name, log) → BringsBehind Package (log_below w n (package_log_id name)) log (brought (package_log_id name) listed) more
  pub only : (id : List ℕ) (records : List PublishedRecord) → Contains listed (id, records) → (name : List ℕ) × (log : List Kept) × Contains packages (name, log) × (package_log_id name ≡ id)

-- a package behind a page's list was there before, and grew
pub record HasGrown (listed : List (List ℕ × List PublishedRecord)) (packages : List (List ℕ × List Kept)) (name : List ℕ) (after : List Kept) : Type 0 where
  pub log : List Kept
  pub there : Contains packages (name, log)
  pub grows : Grows Package log (brought (package_log_id name) listed) after

further : {A : Type 0} (x y : A) (xs : List A) → Contains xs y → Contains (x ∷ xs) y
further x y xs there = let lt = there.1 in (suc there.0, omega (arith, lt), there.2)

pub grown-at : (listed : List (List ℕ × List PublishedRecord)) (ps qs : List (List ℕ × List Kept)) (name : List ℕ) (after : List Kept) (i : ℕ) → EachGrows listed ps qs → i < length qs → get_or qs i (name, after) ≡ (name, after)
    → HasGrown listed ps name after
grown-at listed [] [] name after i each lt is = absurd (omega (arith, lt))
grown-at listed [] (q ∷ qs) name after i each lt is = absurd each
grown-at listed (p ∷ ps) [] name after i each lt is = absurd each
grown-at listed (p ∷ ps) (q ∷ qs) name after zero each lt is =
    let named : p.0 ≡ name = sym each.0 ∙ ap (λ (l : List ℕ × List Kept). l.0) is in
    let log_is : q.1 ≡ after = ap (λ (l : List ℕ × List Kept). l.1) is in
    record {
      log = p.1;
      there = (0, omega arith, ap (λ (m : List ℕ). (m, p.1)) named);
      grows = subst (λ (m : List ℕ). Grows Package p.1 (brought (package_log_id m) listed) after) named (subst (λ (l : List Kept). Grows Package p.1 (brought (package_log_id p.0) listed) l) log_is each.1);
    }
grown-at listed (p ∷ ps) (q ∷ qs) name after (suc i) each lt is =
    let deeper = grown-at listed ps qs name after i each.2 (omega (arith, lt)) is in
    record { log = deeper.log; there = further p (name, deeper.log) ps deeper.there; grows = deeper.grows }

-- a package that was there is there behind a page's list
pub kept-at : (listed : List (List ℕ × List PublishedRecord)) (ps qs : List (List ℕ × List Kept)) (name : List ℕ) (log : List Kept) (i : ℕ) → EachGrows listed ps qs → i < length ps → get_or ps i (name, log) ≡ (name, log)
    → (after : List Kept) × Contains qs (name, after)
kept-at listed [] qs name log i each lt is = absurd (omega (arith, lt))
kept-at listed (p ∷ ps) [] name log i each lt is = absurd each
kept-at listed (p ∷ ps) (q ∷ qs) name log zero each lt is =
    let named : q.0 ≡ name = each.0 ∙ ap (λ (l : List ℕ × List Kept). l.0) is in
    (q.1, (0, omega arith, ap (λ (m : List ℕ). (m, q.1)) named))
kept-at listed (p ∷ ps) (q ∷ qs) name log (suc i) each lt is =
    let deeper = kept-at listed ps qs name log i each.2 (omega (arith, lt)) is in
    (deeper.0, further q (name, deeper.0) qs deeper.1)

-- what the first list brings, and what the others bring
brought-more : (id : List ℕ) (l : List ℕ × List PublishedRecord) (listed : List (List ℕ × List PublishedRecord)) → brought id (l ∷ listed) ≡ brought id (l ∷ []) ++ brought id listed
brought-more id l listed = ap (λ (ps : List PublishedRecord). ps ++ brought id listed) (sym (append-nil (if bytes_eq l.0 id then l.1 else [])))

pub own-list : (id : List ℕ) (ps : List PublishedRecord) (listed : List (List ℕ × List PublishedRecord)) → brought id ((id, ps) ∷ listed) ≡ ps ++ brought id listed
own-list id ps listed = ap (λ (b : Bool). (if b then ps else []) ++ brought id listed) ((bytes_eq-Decides id id).1 refl)

pub package-told : (accepts : Accepts) (w : Registry) (n : ℕ) (name : List ℕ) → IsRegistry accepts w → IsTold Package accepts (log_below w n (package_log_id name))
package-told accepts w n name registry = record {
  lawful = registry.lawful Package (package_log_id name) n (inr (refl, name, refl));
  ascends = log-ascends w.token (package_log_id name) (take n w.entries);
}

still-behind : Laws → (accepts : Accepts) (w : Registry) (n : ℕ) (packages mid : List (List ℕ × List Kept)) (l : List ℕ × List PublishedRecord) (listed : List (List ℕ × List PublishedRecord)) (more : Bool) → IsRegistry accepts w
    → AreBehind w n packages (l ∷ listed) more → EachGrows (l ∷ []) packages mid → AreBehind w n mid listed more
still-behind laws accepts w n packages mid l listed more registry are each = record {
  each = λ name after there.
      let id = package_log_id name in
      let grown = grown-at (l ∷ []) packages mid name after there.0 each there.1 there.2 in
      let b : BringsBehind Package (log_below w n id) grown.log (brought id (l ∷ []) ++ brought id listed) more =
      subst (λ (ps : List PublishedRecord). BringsBehind Package (log_below w n id) grown.log ps more) (brought-more id l listed) (are.each name grown.log grown.there) in
      goes-on laws Package accepts (log_below w n id) grown.log after (brought id (l ∷ [])) (brought id listed) more (package-told accepts w n name registry) b grown.grows;
  only = λ id records there.
      let known = are.only id records (further l (id, records) listed there) in
      let kept = kept-at (l ∷ []) packages mid known.0 known.1 known.2.0 each known.2.1 known.2.2 in
      (known.0, kept.0, kept.1, known.3);
}

list-taken : Laws → (e : PageError) (accepts : Accepts) (w : Registry) (n : ℕ) (packages : List (List ℕ × List Kept)) (l : List ℕ × List PublishedRecord) (listed : List (List ℕ × List PublishedRecord)) (more : Bool) → IsRegistry accepts w
    → AreBehind w n packages (l ∷ listed) more → IsListedFault e accepts packages l → e ≡ error.Memory
list-taken laws (error.Operator e) accepts w n packages l listed more registry are bad = absurd bad
list-taken laws (error.UnknownLog id) accepts w n packages l listed more registry are bad =
    let known = are.only l.0 l.1 (0, omega arith, refl) in
    absurd (bad.2 (known.0, known.1) known.2 (known.3 ∙ sym bad.0))
list-taken laws (error.Package name e) accepts w n packages l listed more registry are bad =
    let id = package_log_id name in
    let b : BringsBehind Package (log_below w n id) bad.1 (brought id ((id, l.1) ∷ listed)) more = subst (λ (k : List ℕ). BringsBehind Package (log_below w n id) bad.1 (brought id ((k, l.1) ∷ listed)) more) (sym bad.3) (are.each name bad.1 bad.2) in
    let own : BringsBehind Package (log_below w n id) bad.1 (l.1 ++ brought id listed) more = subst (λ (ps : List PublishedRecord). BringsBehind Package (log_below w n id) bad.1 ps more) (own-list id l.1 listed) b in
    absurd (bad.0 (first-taken laws e Package accepts (log_below w n id) bad.1 l.1 (brought id listed) more bad.4 (package-told accepts w n name registry) own bad.5))
list-taken laws error.Memory accepts w n packages l listed more registry are bad = refl

lists-taken : Laws → (e : PageError) (accepts : Accepts) (w : Registry) (n : ℕ) (packages : List (List ℕ × List Kept)) (listed : List (List ℕ × List PublishedRecord)) (more : Bool) → IsRegistry accepts w
    → AreBehind w n packages listed more → FirstListedFault e accepts packages listed → e ≡ error.Memory
lists-taken laws e accepts w n packages [] more registry are bad = absurd bad
lists-taken laws e accepts w n packages (l ∷ listed) more registry are (inl here) = list-taken laws e accepts w n packages l listed more registry are here
lists-taken laws e accepts w n packages (l ∷ listed) more registry are (inr later) =
    lists-taken laws e accepts w n later.0 listed more registry (still-behind laws accepts w n packages later.0 l listed more registry are later.1) later.2

-- ---- a page

pub page-taken : Laws → (e : PageError) (accepts : Accepts) (w : Registry) (n : ℕ) (logs : Logs) (page : Page) → IsRegistry accepts w → IsPageOf w n logs page → IsPageFault e accepts logs page → e ≡ error.Memory
page-taken laws (error.Operator e) accepts w n logs page registry is bad =
    let b = is.operator_records in
    let whole = log_below w n operator_log_id in
    absurd (bad.0 (never-refused laws e Operator accepts logs.operator b.next b.after page.operator bad.1 (subst (IsLawfulLog Operator accepts) b.parts (registry.lawful Operator operator_log_id n (inl (refl, refl))))
    (subst Ascends b.parts (log-ascends w.token operator_log_id (take n w.entries))) b.published bad.2))
page-taken laws (error.UnknownLog id) accepts w n logs page registry is bad =
    lists-taken laws (error.UnknownLog id) accepts w n logs.packages page.packages page.more registry (record { each = is.package_records; only = is.only_asked }) bad.2
page-taken laws (error.Package name e) accepts w n logs page registry is bad =
    lists-taken laws (error.Package name e) accepts w n logs.packages page.packages page.more registry (record { each = is.package_records; only = is.only_asked }) bad.2
page-taken laws error.Memory accepts w n logs page registry is bad = refl
