-- A whole update of one package with an honest registry proves its logs.
use Rattle.std.proofs.Common.{◌≡◌, ℕ, Bool, true, false, List, [], ◌∷◌, Ok, Result, refl, sym, ◌∙◌, ap, subst, inl, inr}
use Rattle.std.specs.List.{AllByRecursion}
use Rattle.warg_hash.specs.Hash.{package_log_id}
use Rattle.warg_log.specs.Rules.{Accepts}
use Rattle.warg_exchange.specs.declared.checkpoint.SignedCheckpoint.{SignedCheckpoint}
use Rattle.warg_exchange.specs.declared.exchange.Exchange.{Exchange}
use Rattle.warg_exchange.specs.declared.exchange.Request.{Request}
use Rattle.warg_exchange.specs.declared.logs.PublishedRecord.{PublishedRecord}
use Rattle.warg_exchange.specs.Requests.{Asker}
use Rattle.warg_info.specs.Kept.{Kept}
use Rattle.warg_page.specs.Logs.{Logs, EachGrows}
use Rattle.warg_update.specs.Proved.{Start, Turns, Pages, Proves, Asks, AreAsked}
use Rattle.warg_store.specs.Held.{Registry}
use Rattle.warg_assemble.specs.Known.{Known}
use Rattle.warg_assemble.specs.Parts.{Update, start_of, logs_of}
use Rattle.warg_ledger.specs.Registry.{Registry as Ledger, IsRegistry, log_below}
use Rattle.warg_ledger.specs.Replies.{AreWhole}
use Rattle.warg_ledger.specs.Honest.{AreHonest, ProveWhole}
use Rattle.warg_honest.specs.HonestSession.{IsHonestUpdate}

-- ---- the law that is used

abbrev pub WholeLaw : Type 0
WholeLaw = (accepts : Accepts) (w : Ledger) (a : Asker) (start : Start) (xs : List Exchange) → IsRegistry accepts w → AreAsked a start xs → AreHonest accepts w a start xs → ((r : Request) → Asks a start xs r → ⊥) → ProveWhole accepts w a start xs

-- ---- the logs of one package stay those of one package

abbrev IsOne : List ℕ → List (List ℕ × List Kept) → Type 0
IsOne name packages = (log : List Kept) × (packages ≡ (name, log) ∷ [])

grown-one : (listed : List (List ℕ × List PublishedRecord)) (name : List ℕ) (log : List Kept) (after : List (List ℕ × List Kept)) → EachGrows listed ((name, log) ∷ []) after → IsOne name after
grown-one listed name log [] g = absurd g
grown-one listed name log (q ∷ []) g = (q.1, ap (λ n. (n, q.1) ∷ []) g.0)
grown-one listed name log (q ∷ r ∷ qs) g = absurd g.2

pages-one : (a : Asker) (n : ℕ) (name : List ℕ) (before : Logs) (xs : List Exchange) (after : Logs) (more : Bool) → IsOne name before.packages → Pages a n before xs after more → IsOne name after.packages
pages-one a n name before [] after more one p = (one.0, ap (λ (l : Logs). l.packages) p.0 ∙ one.1)
pages-one a n name before (x ∷ xs) after more one p = elim p [
  | inl p ↦ pages-one a n name p.0 xs after more (turned p.0 true p.1) p.2
  | inr p ↦ turned after false p.0
]
  where
    turned : (next : Logs) (more : Bool) → Turns a n before x next more → IsOne name next.packages
    turned next more t = grown-one t.page.packages name one.0 next.packages (subst (λ ps. EachGrows t.page.packages ps next.packages) one.1 t.brings.packages)

-- ---- the update

module _ (law : WholeLaw) (accepts : Accepts) (asker : Registry → Asker) (world : Registry → Ledger) (known : Known) (u : Update) where
  abbrev pub Prove : Logs → SignedCheckpoint → Type 0
  Prove = Proves accepts (asker u.registry) (start_of known u.registry u.name) u.exchanges

  abbrev AreWholeBelow : ℕ → Logs → Type 0
  AreWholeBelow = AreWhole (world u.registry)

  abbrev make : List Kept → List (List ℕ × List Kept) → Logs
  make operator packages = record { operator = operator; packages = packages }

  -- whole logs of the one package are the update's
  logs-are : (logs : Logs) → IsHonestUpdate accepts asker world known u → AreWholeBelow u.checkpoint.contents.log_length logs → IsOne u.name logs.packages → logs ≡ logs_of u
  logs-are logs h whole one =
      let is = subst (AllByRecursion (λ p. p.1 ≡ log_below (world u.registry) u.checkpoint.contents.log_length (package_log_id p.0))) one.1 whole.packages in
      ap (λ (l : List Kept). make l logs.packages) (whole.operator ∙ sym h.operator) ∙ ap (make u.operator) (one.1 ∙ ap (λ l. (u.name, l) ∷ []) (is.0 ∙ sym h.log))

  pub update-proves : IsRegistry accepts (world u.registry) → IsHonestUpdate accepts asker world known u → Prove (logs_of u) u.checkpoint
  update-proves registry h =
      let p = law accepts (world u.registry) (asker u.registry) (start_of known u.registry u.name) u.exchanges registry h.asked h.honest h.over in
      let came : ◌≡◌ {A = Result _ _} (Ok p.checkpoint) (Ok u.checkpoint) = sym p.proves.asks_checkpoint.came ∙ h.came p.proves.first _ p.proves.in_turn in
      let same : p.checkpoint ≡ u.checkpoint = cc came in
      let one = pages-one (asker u.registry) p.checkpoint.contents.log_length u.name (start_of known u.registry u.name).logs p.proves.pages p.logs false ([], refl) p.proves.asks_pages in
      let whole = subst (λ (c : SignedCheckpoint). AreWholeBelow c.contents.log_length p.logs) same p.whole in
      subst (λ logs. Prove logs u.checkpoint) (logs-are p.logs h whole one) (subst (Prove p.logs) same p.proves)
