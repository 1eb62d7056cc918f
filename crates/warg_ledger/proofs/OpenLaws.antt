-- What honest exchanges of an update have left: the checkpoint that came, and with the last page the whole logs.
use Rattle.std.proofs.Common.{◌≡◌, ◌++◌, ◌∷◌, [], inl, inr, List, ℕ, suc, Bool, true, false, Ok, refl, sym, ◌∙◌, ap, subst, append_assoc, append-nil, arith}
use Rattle.std.specs.Prelude.{Contains, Result}
use Rattle.std.specs.List.{AllByRecursion}
use Rattle.std.proofs.lemmas.Bool.{false≢true}
use Rattle.serde_json.specs.Data.{Data}
use Rattle.warg_hash.specs.Hash.{operator_log_id, package_log_id}
use Rattle.warg_log.specs.Rules.{Accepts}
use Rattle.warg_exchange.specs.Body.{Meaning}
use Rattle.warg_exchange.specs.declared.exchange.Exchange.{Exchange}
use Rattle.warg_exchange.specs.declared.exchange.Reply.{Reply}
use Rattle.warg_exchange.specs.declared.checkpoint.SignedCheckpoint.{SignedCheckpoint}
use Rattle.warg_exchange.specs.Replies.{says, checkpoint_in, page_in}
use Rattle.warg_exchange.specs.Requests.{Asker}
use Rattle.warg_exchange.specs.Views.{Page}
use Rattle.warg_info.specs.Kept.{Kept}
use Rattle.warg_page.specs.Logs.{Logs, Brings}
use Rattle.warg_update.specs.Proved.{AsksCheckpoint, Turns, Pages, Start, Opens}
use Rattle.warg_ledger.specs.Registry.{Registry, IsRegistry, IsPageOf, Begins, log_below}
use Rattle.warg_ledger.specs.Replies.{AreWhole}
use Rattle.warg_ledger.specs.Honest.{IsHonestCheckpoint, HaveRecords, AreHonest}
use Rattle.warg_ledger.proofs.LeftLaws.{operator-left, package-left}
use Rattle.warg_ledger.proofs.PageLaws.{grown-at}
use Rattle.warg_ledger.proofs.TakenLaws.{Laws}

-- that exchanges come in turn
pub record TurnLaws : Type 0 where
  pub first : (a : Asker) (start : Start) (x : Exchange) (c : SignedCheckpoint) → AsksCheckpoint a x c → Opens a start (x ∷ []) c start.logs true
  pub more : (a : Asker) (start : Start) (xs : List Exchange) (c : SignedCheckpoint) (mid after : Logs) (x : Exchange) (more : Bool) → Opens a start xs c mid true → Turns a c.contents.log_length mid x after more → Opens a start (xs ++ x ∷ []) c after more

pub one-value : {Y : Type 0} (f : Data → Meaning Y) (reply : Reply) (x y : Y) → says f reply ≡ Ok x → says f reply ≡ Ok y → x ≡ y
one-value f reply x y is also = let same : ◌≡◌ {A = Result _ _} (Ok x) (Ok y) = sym is ∙ also in cc

-- ---- the checkpoint

pub honest-checkpoint : (accepts : Accepts) (w : Registry) (a : Asker) (start : Start) (xs : List Exchange) (c : SignedCheckpoint) (logs : Logs) (more : Bool) → AreHonest accepts w a start xs → Opens a start xs c logs more
    → IsHonestCheckpoint accepts w start.stored c
honest-checkpoint accepts w a start xs c logs more honest opens =
    let g = (honest [] opens.pages opens.first opens.in_turn).checkpoint refl in
    subst (IsHonestCheckpoint accepts w start.stored) (one-value checkpoint_in opens.first.reply g.checkpoint c g.came opens.asks_checkpoint.came) g.honest

pub honest-front : (accepts : Accepts) (w : Registry) (a : Asker) (start : Start) (xs ys : List Exchange) → AreHonest accepts w a start (xs ++ ys) → AreHonest accepts w a start xs
honest-front accepts w a start xs ys honest before after x is = honest before (after ++ ys) x (ap (λ (l : List Exchange). l ++ ys) is ∙ append_assoc before (x ∷ after) ys)

-- ---- what a last page leaves

pub whole-log : (whole log : List Kept) → Begins whole log false → log ≡ whole
whole-log whole log b = sym (b.parts ∙ ap (λ (l : List Kept). log ++ l) (b.all_of_it refl) ∙ append-nil log)

pub further : {A : Type 0} (x y : A) (xs : List A) → Contains xs y → Contains (x ∷ xs) y
further x y xs there = let lt = there.1 in (suc there.0, omega (arith, lt), there.2)

pub all-contained : {A : Type 0} (P : A → Type 0) (xs : List A) → ((x : A) → Contains xs x → P x) → AllByRecursion P xs
all-contained P [] each = tt
all-contained P (x ∷ xs) each = (each x (0, omega arith, refl), all-contained P xs (λ y there. each y (further x y xs there)))

pub last-whole : Laws → (accepts : Accepts) (w : Registry) (n : ℕ) (before after : Logs) (page : Page) → IsRegistry accepts w → IsPageOf w n before page → Brings before page after → page.more ≡ false → AreWhole w n after
last-whole laws accepts w n before after page registry is brings last = record {
  operator = whole-log (log_below w n operator_log_id) after.operator (subst (Begins (log_below w n operator_log_id) after.operator) last (operator-left laws accepts w n before page after registry is brings));
  packages = all-contained (λ (p : List ℕ × List Kept). p.1 ≡ log_below w n (package_log_id p.0)) after.packages (λ p there.
      whole-log (log_below w n (package_log_id p.0)) p.1 (subst (Begins (log_below w n (package_log_id p.0)) p.1) last (package-left laws accepts w n before page after p.0 p.1 registry is brings there)));
}

-- the packages are the same ones, so each log that was asked for has a record still
last-records : (w : Registry) (n : ℕ) (before after : Logs) (page : Page) → HaveRecords w n before → Brings before page after → HaveRecords w n after
last-records w n before after page there brings = record {
  operator = there.operator;
  packages = λ name log has.
      let grown = grown-at page.packages before.packages after.packages name log has.0 brings.packages has.1 has.2 in
      there.packages name grown.log grown.there;
}

-- ---- the last page of an update

-- these logs are what a registry's last page leaves
record AreLeft (w : Registry) (n : ℕ) (logs : Logs) : Type 0 where
  before : Logs
  page : Page
  is : IsPageOf w n before page
  there : HaveRecords w n before
  brings : Brings before page logs
  last : page.more ≡ false

last-page : TurnLaws → (accepts : Accepts) (w : Registry) (a : Asker) (start : Start) (done rest : List Exchange) (c : SignedCheckpoint) (mid logs : Logs) → AreHonest accepts w a start (done ++ rest) → Opens a start done c mid true
    → Pages a c.contents.log_length mid rest logs false → AreLeft w c.contents.log_length logs
last-page turns accepts w a start done [] c mid logs honest opens pages = absurd (false≢true pages.1)
last-page turns accepts w a start done (x ∷ rest) c mid logs honest opens (inl step) =
    let joined : (done ++ x ∷ []) ++ rest ≡ done ++ x ∷ rest = append_assoc done (x ∷ []) rest in
    last-page turns accepts w a start (done ++ x ∷ []) rest c step.0 logs (subst (λ (l : List Exchange). AreHonest accepts w a start l) (sym joined) honest) (turns.more a start done c mid step.0 x true opens step.1) step.2
last-page turns accepts w a start done (x ∷ rest) c mid logs honest opens (inr last) =
    let n = c.contents.log_length in
    let g = (honest done rest x refl).page c mid opens in
    let same : g.page ≡ last.0.page = one-value page_in x.reply g.page last.0.page g.came last.0.came in
    record { before = mid; page = last.0.page; is = subst (IsPageOf w n mid) same g.is; there = g.there; brings = last.0.brings; last = last.0.said }

logs-left : TurnLaws → (accepts : Accepts) (w : Registry) (a : Asker) (start : Start) (xs : List Exchange) (c : SignedCheckpoint) (logs : Logs) → AreHonest accepts w a start xs → Opens a start xs c logs false → AreLeft w c.contents.log_length logs
logs-left turns accepts w a start xs c logs honest opens =
    last-page turns accepts w a start (opens.first ∷ []) opens.pages c start.logs logs (subst (λ (l : List Exchange). AreHonest accepts w a start l) opens.in_turn honest) (turns.first a start opens.first c opens.asks_checkpoint) opens.asks_pages

pub whole-logs : Laws → TurnLaws → (accepts : Accepts) (w : Registry) (a : Asker) (start : Start) (xs : List Exchange) (c : SignedCheckpoint) (logs : Logs) → IsRegistry accepts w → AreHonest accepts w a start xs → Opens a start xs c logs false
    → AreWhole w c.contents.log_length logs
whole-logs laws turns accepts w a start xs c logs registry honest opens =
    let left = logs-left turns accepts w a start xs c logs honest opens in
    last-whole laws accepts w c.contents.log_length left.before logs left.page registry left.is left.brings left.last

pub records-there : TurnLaws → (accepts : Accepts) (w : Registry) (a : Asker) (start : Start) (xs : List Exchange) (c : SignedCheckpoint) (logs : Logs) → AreHonest accepts w a start xs → Opens a start xs c logs false → HaveRecords w c.contents.log_length logs
records-there turns accepts w a start xs c logs honest opens =
    let left = logs-left turns accepts w a start xs c logs honest opens in
    last-records w c.contents.log_length left.before logs left.page left.there left.brings
