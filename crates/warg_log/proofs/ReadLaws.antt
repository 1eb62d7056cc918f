-- Lists of envelopes that are as they are read.
use Rattle.std.proofs.Common.{◌≡◌, ◌<◌, ◌^◌, ◌++◌, ℕ, List, [], ◌∷◌, length, map, refl, sym, ap, subst, ◌∙◌}
use Rattle.warg_record.specs.Envelope.{Signed, IsMessageOf}
use Rattle.warg_record.specs.Record.{Kind, PlainRecord}
use Rattle.warg_log.specs.Lawful.{AreRead}
use Rattle.warg_log.specs.Rules.{entries_of}

-- contents are the message of one record at most
abbrev pub OneRecord : Type 0
OneRecord = (kind : Kind) (contents : List ℕ) (r s : PlainRecord) → length contents < 2 ^ 64 → IsMessageOf kind contents r → IsMessageOf kind contents s → r ≡ s

heads_are : {A : Type 0} (x y : A) (xs ys : List A) → x ∷ xs ≡ y ∷ ys → x ≡ y
heads_are x y xs ys e = cc

tails_are : {A : Type 0} (x y : A) (xs ys : List A) → x ∷ xs ≡ y ∷ ys → xs ≡ ys
tails_are x y xs ys e = cc

pub same_entries : OneRecord → (kind : Kind) (log other : List Signed) → AreRead kind log → AreRead kind other
    → map (λ (s : Signed). s.contents) log ≡ map (λ (s : Signed). s.contents) other → entries_of log ≡ entries_of other
same_entries one kind [] [] read read' e = refl
same_entries one kind [] (t ∷ other) read read' e = absurd cc
same_entries one kind (s ∷ log) [] read read' e = absurd cc
same_entries one kind (s ∷ log) (t ∷ other) read read' e =
    let contents : s.contents ≡ t.contents = heads_are s.contents t.contents _ _ e in
    let message : IsMessageOf kind s.contents t.rec = subst (λ c. IsMessageOf kind c t.rec) (sym contents) read'.0.message in
    let rec : s.rec ≡ t.rec = one kind s.contents s.rec t.rec read.0.short read.0.message message in
    let rest = same_entries one kind log other read.1 read'.1 (tails_are s.contents t.contents _ _ e) in
    ap (λ (r : PlainRecord). r.entries ++ entries_of log) rec ∙ ap (λ es. t.rec.entries ++ es) rest
