-- That over a link which gives the replies of a part a stop of the walk is served by this part alone.
use Rattle.std.proofs.Common.{◌≡◌, ◌++◌, ◌∷◌, [], List, ℕ, Option, Some, None, sym, ◌∙◌, ap, subst}
use Rattle.std.proofs.lemmas.List.{append_cancel_left}
use Rattle.comp_entity.specs.Entity.{ShapeTree}
use Rattle.comp_shape.specs.Shape.{HasShape}
use Rattle.warg_log.specs.Rules.{Accepts}
use Rattle.warg_exchange.specs.declared.exchange.Exchange.{Exchange}
use Rattle.warg_exchange.specs.declared.checkpoint.SignedCheckpoint.{SignedCheckpoint}
use Rattle.warg_exchange.specs.Requests.{Asker}
use Rattle.warg_info.specs.Kept.{Kept}
use Rattle.warg_api.specs.Download.{Downloads}
use Rattle.warg_api.specs.Link.{Asked, Exchanges}
use Rattle.warg_page.specs.Logs.{Logs}
use Rattle.warg_update.specs.Proved.{Start, AreAsked, Proves}
use Rattle.warg_learn.specs.Recording.{Transcript, AreKept}
use Rattle.warg_learn.specs.Updating.{IsUpdated}
use Rattle.warg_store.specs.Held.{Registry}
use Rattle.warg_plan.specs.Walk.{Content, Stop, NeedsLog, NeedsContent}
use Rattle.warg_assemble.specs.Known.{Known}
use Rattle.warg_assemble.specs.Parts.{Update, Load, Part, Updated, Loaded, exchanges_in, start_of, logs_of, Comes, IsUpdate, IsLoad, IsPart}
use Rattle.warg_assemble.specs.Session.{Serves}
use Rattle.warg_compose.specs.Read.{IsComponent, names_in}
use Rattle.warg_course.specs.Replies.{GivesReplies}

-- that exchanges which prove logs are asked for; that over a link which gives their replies just these logs are proved, by
-- just these exchanges; that over one which gives a content's replies just this content comes; and that it has one shape
pub record PartLaws {T : Type 0} (Steps : T → Asked → T → Type 0) : Type 0 where
  pub asked : (accepts : Accepts) (a : Asker) (start : Start) (xs : List Exchange) (logs : Logs) (c : SignedCheckpoint) → Proves accepts a start xs logs c → AreAsked a start xs
  pub proved : (accepts : Accepts) (a : Asker) (start : Start) (ys : List Exchange) (logs other : Logs) (c d : SignedCheckpoint) (begun now : Transcript T) → Proves accepts a start ys logs c → GivesReplies Steps begun.link ys
      → IsUpdated accepts a start Steps begun now other d → (now.exchanges ≡ begun.exchanges ++ ys) × (other ≡ logs) × (d ≡ c)
  pub downloaded : (a : Asker) (digest : List ℕ) (xs ys : List Exchange) (other bytes : List ℕ) (old new : T) → Downloads a digest ys bytes → GivesReplies Steps old ys → Exchanges Steps old xs new → Downloads a digest xs other
      → (xs ≡ ys) × (other ≡ bytes)
  pub shape : (bytes : List ℕ) (a b : ShapeTree) → HasShape bytes a → HasShape bytes b → a ≡ b

-- ---- updates

log-is : (n m : List ℕ) (x y : List Kept) → ◌≡◌ {A = List (List ℕ × List Kept)} ((n, x) ∷ []) ((m, y) ∷ []) → x ≡ y
log-is n m x y e = let first : ◌≡◌ {A = List ℕ × List Kept} (n, x) (m, y) = cc e in ap (λ (p : List ℕ × List Kept). p.1) first

pub one-update : {T : Type 0} (Steps : T → Asked → T → Type 0) → PartLaws Steps → (accepts : Accepts) (asker : Registry → Asker) (known : Known) (u v : Update) (begun now : Transcript T) → u.name ≡ v.name → u.registry ≡ v.registry
    → IsUpdate accepts asker IsComponent known u → IsUpdate accepts asker IsComponent known v → AreKept Steps begun u.exchanges now → GivesReplies Steps begun.link v.exchanges → u ≡ v
one-update Steps laws accepts asker known u v begun now name registry p q kept gives =
    let a : Asker = asker v.registry in
    let start : Start = start_of known v.registry v.name in
    let under : Proves accepts (asker v.registry) (start_of known v.registry u.name) u.exchanges (logs_of u) u.checkpoint =
    subst (λ (k : Registry). Proves accepts (asker k) (start_of known k u.name) u.exchanges (logs_of u) u.checkpoint) registry p in
    let moved : Proves accepts a start u.exchanges (logs_of u) u.checkpoint = subst (λ (n : List ℕ). Proves accepts a (start_of known v.registry n) u.exchanges (logs_of u) u.checkpoint) name under in
    let up : IsUpdated accepts a start Steps begun now (logs_of u) u.checkpoint =
    record { exchanges = u.exchanges; kept = kept; asked = laws.asked accepts a start u.exchanges (logs_of u) u.checkpoint moved; proves = moved } in
    let one = laws.proved accepts a start v.exchanges (logs_of v) (logs_of u) v.checkpoint u.checkpoint begun now q gives up in
    let same : u.exchanges ≡ v.exchanges = append_cancel_left begun.exchanges u.exchanges v.exchanges (sym kept.exchanges ∙ one.0) in
    let log : u.log ≡ v.log = log-is u.name v.name u.log v.log (ap (λ (l : Logs). l.packages) one.1) in
    ap (λ (k : Registry). make k u.name u.exchanges u.operator u.log u.checkpoint) registry
    ∙ ap (λ (n : List ℕ). make v.registry n u.exchanges u.operator u.log u.checkpoint) name
    ∙ ap (λ (l : List Exchange). make v.registry v.name l u.operator u.log u.checkpoint) same
    ∙ ap (λ (l : Logs). make v.registry v.name v.exchanges l.operator u.log u.checkpoint) one.1
    ∙ ap (λ (l : List Kept). make v.registry v.name v.exchanges v.operator l u.checkpoint) log
    ∙ ap (λ (c : SignedCheckpoint). make v.registry v.name v.exchanges v.operator v.log c) one.2
  where
    make : Registry → List ℕ → List Exchange → List Kept → List Kept → SignedCheckpoint → Update
    make registry name exchanges operator log checkpoint = record { registry = registry; name = name; exchanges = exchanges; operator = operator; log = log; checkpoint = checkpoint }

-- ---- contents

-- a content comes in one way
pub comes-once : {T : Type 0} (Steps : T → Asked → T → Type 0) → PartLaws Steps → (a : Asker) (held : Option (List ℕ)) (digest : List ℕ) (xs ys : List Exchange) (bytes other : List ℕ) (old new : T) → Comes a held digest xs bytes → Comes a held digest ys other
    → Exchanges Steps old xs new → GivesReplies Steps old ys → (xs ≡ ys) × (bytes ≡ other)
comes-once Steps laws a (Some stored) digest xs ys bytes other old new p q passed gives = (p.1 ∙ sym q.1, p.0 ∙ sym q.0)
comes-once Steps laws a None digest xs ys bytes other old new p q passed gives = laws.downloaded a digest xs ys bytes other old new q gives passed p

-- bytes are read as one component
one-content : {T : Type 0} (Steps : T → Asked → T → Type 0) → PartLaws Steps → (c d : Content) → c.bytes ≡ d.bytes → IsComponent c → IsComponent d → c ≡ d
one-content Steps laws c d same p q =
    let tree : p.tree ≡ q.tree = laws.shape d.bytes p.tree q.tree (subst (λ (b : List ℕ). HasShape b p.tree) same p.has_shape) q.has_shape in
    let imports : c.imports ≡ d.imports = p.imports ∙ ap (λ (t : ShapeTree). names_in t.imports) tree ∙ sym q.imports in
    let exports : c.exports ≡ d.exports = p.exports ∙ ap (λ (t : ShapeTree). names_in t.exports) tree ∙ sym q.exports in
    ap (λ (b : List ℕ). make b c.imports c.exports) same ∙ ap (λ (l : List (List ℕ)). make d.bytes l c.exports) imports ∙ ap (λ (l : List (List ℕ)). make d.bytes d.imports l) exports
  where
    make : List ℕ → List (List ℕ) → List (List ℕ) → Content
    make bytes imports exports = record { bytes = bytes; imports = imports; exports = exports }

pub some-is : {A : Type 0} (x y : A) → Some x ≡ Some y → x ≡ y
some-is x y e = cc e

pub one-load : {T : Type 0} (Steps : T → Asked → T → Type 0) → PartLaws Steps → (accepts : Accepts) (asker : Registry → Asker) (known : Known) (l m : Load) (old new : T) → l.digest ≡ m.digest → l.registry ≡ m.registry → IsLoad accepts asker IsComponent known l
    → IsLoad accepts asker IsComponent known m → Exchanges Steps old l.exchanges new → GivesReplies Steps old m.exchanges → l ≡ m
one-load Steps laws accepts asker known l m old new digest registry p q passed gives =
    let under : Comes (asker m.registry) (known.contents l.digest) l.digest l.exchanges l.content.bytes =
    subst (λ (k : Registry). Comes (asker k) (known.contents l.digest) l.digest l.exchanges l.content.bytes) registry p.comes in
    let moved : Comes (asker m.registry) (known.contents m.digest) m.digest l.exchanges l.content.bytes = subst (λ (d : List ℕ). Comes (asker m.registry) (known.contents d) d l.exchanges l.content.bytes) digest under in
    let one = comes-once Steps laws (asker m.registry) (known.contents m.digest) m.digest l.exchanges m.exchanges l.content.bytes m.content.bytes old new moved q.comes passed gives in
    let content : l.content ≡ m.content = one-content Steps laws l.content m.content one.1 p.reads q.reads in
    ap (λ (k : Registry). make k l.digest l.exchanges l.content) registry
    ∙ ap (λ (d : List ℕ). make m.registry d l.exchanges l.content) digest
    ∙ ap (λ (x : List Exchange). make m.registry m.digest x l.content) one.0
    ∙ ap (λ (c : Content). make m.registry m.digest m.exchanges c) content
  where
    make : Registry → List ℕ → List Exchange → Content → Load
    make registry digest exchanges content = record { registry = registry; digest = digest; exchanges = exchanges; content = content }

-- ---- parts

pub one-part : {T : Type 0} (Steps : T → Asked → T → Type 0) → PartLaws Steps → (accepts : Accepts) (asker : Registry → Asker) (known : Known) (stop : Stop) (p q : Part) (begun now : Transcript T) → Serves known stop p → Serves known stop q
    → IsPart accepts asker IsComponent known p → IsPart accepts asker IsComponent known q → AreKept Steps begun (exchanges_in p) now → GivesReplies Steps begun.link (exchanges_in q) → p ≡ q
one-part Steps laws accepts asker known (NeedsLog name) (Updated u) (Updated v) begun now s t p q kept gives =
    ap Updated (one-update Steps laws accepts asker known u v begun now (s.0 ∙ sym t.0) (s.1 ∙ sym t.1) p q kept gives)
one-part Steps laws accepts asker known (NeedsLog name) (Updated u) (Loaded m) begun now s t p q kept gives = absurd t
one-part Steps laws accepts asker known (NeedsContent name digest) (Loaded l) (Loaded m) begun now s t p q kept gives =
    ap Loaded (one-load Steps laws accepts asker known l m begun.link now.link (s.0 ∙ sym t.0) (some-is l.registry m.registry (sym s.1 ∙ t.1)) p q kept.passed gives)
one-part Steps laws accepts asker known (NeedsContent name digest) (Loaded l) (Updated v) begun now s t p q kept gives = absurd t
one-part Steps laws accepts asker known stop p q begun now s t pp qq kept gives = absurd s
