-- The update of one package proves the log of one package.
use Rattle.std.proofs.Common.{◌≡◌, ℕ, Bool, true, false, List, [], ◌∷◌, refl, ap, subst, ◌∙◌, inl, inr}
use Rattle.std.specs.Prelude.{map}
use Rattle.warg_log.specs.Rules.{Accepts}
use Rattle.warg_exchange.specs.declared.exchange.Exchange.{Exchange}
use Rattle.warg_exchange.specs.declared.checkpoint.SignedCheckpoint.{SignedCheckpoint}
use Rattle.warg_exchange.specs.declared.logs.PublishedRecord.{PublishedRecord}
use Rattle.warg_exchange.specs.Requests.{Asker}
use Rattle.warg_info.specs.Kept.{Kept}
use Rattle.warg_info.specs.declared.package.PackageInfo.{PackageInfo}
use Rattle.warg_page.specs.Logs.{Logs, EachGrows}
use Rattle.warg_page.specs.Views.{package_view}
use Rattle.warg_session.specs.Proved.{Turns, Pages, Start, Proves}
use Rattle.warg_fetch.specs.Fetched.{IsSingle}

-- these are the logs of one package, of this name
abbrev pub IsOne : List ℕ → Logs → Type 0
IsOne name logs = (log : List Kept) × (logs.packages ≡ (name, log) ∷ [])

grown_one : (listed : List (List ℕ × List PublishedRecord)) (name : List ℕ) (log : List Kept) (after : List (List ℕ × List Kept)) → EachGrows listed ((name, log) ∷ []) after → (more : List Kept) × (after ≡ (name, more) ∷ [])
grown_one listed name log [] g = absurd g
grown_one listed name log (q ∷ []) g = (q.1, ap (λ n. (n, q.1) ∷ []) g.0)
grown_one listed name log (q ∷ r ∷ qs) g = absurd g.2

turn_one : (a : Asker) (n : ℕ) (name : List ℕ) (before : Logs) (x : Exchange) (after : Logs) (more : Bool) → IsOne name before → Turns a n before x after more → IsOne name after
turn_one a n name before x after more one t =
    grown_one t.page.packages name one.0 after.packages (subst (λ ps. EachGrows t.page.packages ps after.packages) one.1 t.brings.packages)

pages_one : (a : Asker) (n : ℕ) (name : List ℕ) (before : Logs) (xs : List Exchange) (after : Logs) (more : Bool) → IsOne name before → Pages a n before xs after more → IsOne name after
pages_one a n name before [] after more one p = (one.0, ap (λ (l : Logs). l.packages) p.0 ∙ one.1)
pages_one a n name before (x ∷ xs) after more one (inl p) = pages_one a n name p.0 xs after more (turn_one a n name before x p.0 true one p.1) p.2
pages_one a n name before (x ∷ xs) after more one (inr p) = turn_one a n name before x after false one p.0

pub proves_one : (accepts : Accepts) (a : Asker) (start : Start) (xs : List Exchange) (logs : Logs) (c : SignedCheckpoint) (name : List ℕ) → IsOne name start.logs → Proves accepts a start xs logs c → IsOne name logs
proves_one accepts a start xs logs c name one p = pages_one a c.contents.log_length name start.logs p.pages logs false one p.asks_pages

abbrev pub first_name : List (List ℕ × List Kept) → List ℕ
first_name [] = []
first_name (p ∷ ps) = p.0

-- infos with one log are those of one package
pub single_by : (infos : List PackageInfo) (name : List ℕ) (log : List Kept) → map package_view infos ≡ (name, log) ∷ [] → (s : IsSingle infos) × (s.info.name ≡ name)
single_by [] name log e = absurd cc
single_by (i ∷ []) name log e = (record { info = i; is = refl }, ap first_name e)
single_by (i ∷ j ∷ infos) name log e = absurd cc
