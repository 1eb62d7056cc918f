-- The releases of lists of envelopes that are as they are read.
use Rattle.std.proofs.Common.{ℕ, Bool, true, false, cond, map, List, [], ◌∷◌, ◌++◌, Option, Some, None}
use Rattle.std.specs.Prelude.{IfSome}
use Rattle.std.specs.List.{All, AllByRecursion}
use Rattle.std.proofs.lemmas.List.Elements.{All-from_recursion}
use Rattle.semver.specs.Grammar.{IsValid}
use Rattle.semver.specs.Parse.{Parts}
use Rattle.warg_hash.specs.Hash.{IsDigest}
use Rattle.warg_record.specs.Envelope.{Signed}
use Rattle.warg_record.specs.Record.{Kind, Package, Operator, PlainEntry, Init, GrantFlat, RevokeFlat, Release, Yank, DefineNamespace, ImportNamespace, IsEntry}
use Rattle.warg_log.specs.History.{released, is_yanked, standing, releases_of}
use Rattle.warg_log.specs.Lawful.{AreRead}
use Rattle.warg_log.specs.Rules.{entries_of}

all_both : {A : Type 0} (P : A → Type 0) (xs ys : List A) → AllByRecursion P xs → AllByRecursion P ys → AllByRecursion P (xs ++ ys)
all_both P [] ys h k = k
all_both P (x ∷ xs) ys h k = (h.0, all_both P xs ys h.1 k)

-- the entries of records that were read have their form
entries_formed : (kind : Kind) (log : List Signed) → AreRead kind log → AllByRecursion (IsEntry kind) (entries_of log)
entries_formed kind [] read = tt
entries_formed kind (s ∷ log) read = all_both (IsEntry kind) s.rec.entries (entries_of log) read.0.message.form.entries (entries_formed kind log read.1)

-- a version and a digest
abbrev IsRelease : Parts × List ℕ → Type 0
IsRelease r = IsValid r.0 × IsDigest r.1

released_formed : (kind : Kind) (past : List PlainEntry) → AllByRecursion (IsEntry kind) past → AllByRecursion IsRelease (released past)
released_formed kind [] h = tt
released_formed kind (Init key algorithm ∷ past) h = released_formed kind past h.1
released_formed kind (GrantFlat key permissions ∷ past) h = released_formed kind past h.1
released_formed kind (RevokeFlat key_id permissions ∷ past) h = released_formed kind past h.1
released_formed Package (Release version content ∷ past) h = (h.0, released_formed Package past h.1)
released_formed Operator (Release version content ∷ past) h = absurd h.0
released_formed kind (Yank version ∷ past) h = released_formed kind past h.1
released_formed kind (DefineNamespace namespace ∷ past) h = released_formed kind past h.1
released_formed kind (ImportNamespace namespace registry ∷ past) h = released_formed kind past h.1

-- a release as it stands has its digest, or none
abbrev IsStanding : Parts × Option (List ℕ) → Type 0
IsStanding r = IsValid r.0 × IfSome r.1 IsDigest

content_formed : (b : Bool) (content : List ℕ) → IsDigest content → IfSome (cond b None (Some content)) IsDigest
content_formed true content is = tt
content_formed false content is = is

standing_formed : (past : List PlainEntry) (rs : List (Parts × List ℕ)) → AllByRecursion IsRelease rs → AllByRecursion IsStanding (map (standing past) rs)
standing_formed past [] h = tt
standing_formed past (r ∷ rs) h = ((h.0.0, content_formed (is_yanked r.0 past) r.1 h.0.1), standing_formed past rs h.1)

pub releases-formed : (kind : Kind) (log : List Signed) → AreRead kind log → All IsStanding (releases_of (entries_of log))
releases-formed kind log read =
    let past = entries_of log in
    All-from_recursion IsStanding (releases_of past) (standing_formed past (released past) (released_formed kind past (entries_formed kind log read)))
