-- That what a page brings is taken.
use Rattle.std.proofs.Common.{◌≡◌, ◌≢◌, ◌<◌, ◌++◌, ◌∷◌, [], inl, inr, List, ℕ, zero, suc, sym, ◌∙◌, ap, subst, length, arith, get_or, refl}
use Rattle.std.specs.Prelude.{Contains, bytes_eq, cond}
use Rattle.std.specs.List.{AllByRecursion}
use Rattle.std.proofs.lemmas.Grind.{flat_map-append}
use Rattle.std.proofs.lemmas.List.{map-append}
use Rattle.warg_hash.specs.Hash.{package_log_id}
use Rattle.warg_record.specs.Record.{Kind, Package, Operator}
use Rattle.warg_record.specs.Envelope.{Signed}
use Rattle.warg_log.specs.Lawful.{IsLawful}
use Rattle.warg_log.specs.Rules.{Accepts}
use Rattle.warg_exchange.specs.declared.logs.PublishedRecord.{PublishedRecord}
use Rattle.warg_exchange.specs.Views.{Page}
use Rattle.warg_info.specs.declared.error.TakeError.{TakeError}
use Rattle.warg_info.specs.declared.error.TakeError.TheVariants as take
use Rattle.warg_info.specs.Faults.{FirstFault}
use Rattle.warg_info.specs.Info.{IsLawfulLog}
use Rattle.warg_info.specs.Kept.{Kept, Grows, signed_log}
use Rattle.warg_page.specs.Logs.{Logs, brought, IsOfPackage, EachGrows, Brings, EachIsLawful}
use Rattle.warg_page.specs.PageFaults.{IsListedFault, FirstListedFault, IsPageFault}
use Rattle.warg_page.specs.declared.page.PageError.{PageError}
use Rattle.warg_page.specs.declared.page.PageError.TheVariants as error
use Rattle.warg_page.proofs.ListedLaws.{brought_here}

-- ---- the laws that are used

abbrev pub OneLaw : Type 0
OneLaw = (kind : Kind) (old new other : List Kept) (ps : List PublishedRecord) → Grows kind old ps new → Grows kind old ps other → new ≡ other

abbrev pub ApartLaw : Type 0
ApartLaw = (kind : Kind) (old new : List Kept) (ps qs : List PublishedRecord) → Grows kind old (ps ++ qs) new → (mid : List Kept) × Grows kind old ps mid × Grows kind mid qs new

abbrev pub TakenLaw : Type 0
TakenLaw = (kind : Kind) (accepts : Accepts) (old new : List Kept) (ps : List PublishedRecord) (e : TakeError) (kept : List Kept) → Grows kind old ps new → IsLawfulLog kind accepts new → FirstFault e kind accepts old ps kept → e ≡ take.Memory

abbrev pub FrontLaw : Type 0
FrontLaw = (kind : Kind) (accepts : Accepts) (log more : List Signed) → IsLawful kind accepts (log ++ more) → IsLawful kind accepts log

-- ---- one way

same-pair : (p q : List ℕ × List Kept) → p.0 ≡ q.0 → p.1 ≡ q.1 → p ≡ q
same-pair p q name log = ap (λ (n : List ℕ). (n, p.1)) name ∙ ap (λ (l : List Kept). (q.0, l)) log

pub each-once : OneLaw → (listed : List (List ℕ × List PublishedRecord)) (olds news others : List (List ℕ × List Kept)) → EachGrows listed olds news → EachGrows listed olds others → news ≡ others
each-once law listed [] [] [] each also = refl
each-once law listed [] (q ∷ news) others each also = absurd each
each-once law listed [] [] (r ∷ others) each also = absurd also
each-once law listed (p ∷ olds) [] others each also = absurd each
each-once law listed (p ∷ olds) (q ∷ news) [] each also = absurd also
each-once law listed (p ∷ olds) (q ∷ news) (r ∷ others) each also =
    ap (λ (x : List ℕ × List Kept). x ∷ news) (same-pair q r (each.0 ∙ sym also.0) (law Package p.1 q.1 r.1 (brought (package_log_id p.0) listed) each.1 also.1))
    ∙ ap (λ (l : List (List ℕ × List Kept)). r ∷ l) (each-once law listed olds news others each.2 also.2)

same-logs : (x y : Logs) → x.operator ≡ y.operator → x.packages ≡ y.packages → x ≡ y
same-logs x y operator packages =
    ap (λ (l : List Kept). record { operator = l; packages = x.packages }) operator ∙ ap (λ (l : List (List ℕ × List Kept)). record { operator = y.operator; packages = l }) packages

pub brings-once : OneLaw → (before after other : Logs) (page : Page) → Brings before page after → Brings before page other → after ≡ other
brings-once law before after other page b c =
    same-logs after other (law Operator before.operator after.operator other.operator page.operator b.operator c.operator)
    (each-once law page.packages before.packages after.packages other.packages b.packages c.packages)

-- ---- lawful logs

front : FrontLaw → (kind : Kind) (accepts : Accepts) (old new : List Kept) (ps : List PublishedRecord) → Grows kind old ps new → IsLawfulLog kind accepts new → IsLawfulLog kind accepts old
front law kind accepts old new ps grows lawful =
    law kind accepts (signed_log old) (signed_log grows.more) (subst (IsLawful kind accepts) (ap signed_log grows.parts ∙ map-append (λ (k : Kept). k.signed) old grows.more) lawful)

pub each-front : FrontLaw → (accepts : Accepts) (listed : List (List ℕ × List PublishedRecord)) (olds news : List (List ℕ × List Kept)) → EachGrows listed olds news → AllByRecursion (λ p. IsLawfulLog Package accepts p.1) news
    → AllByRecursion (λ p. IsLawfulLog Package accepts p.1) olds
each-front law accepts listed [] news each lawful = tt
each-front law accepts listed (p ∷ olds) [] each lawful = absurd each
each-front law accepts listed (p ∷ olds) (q ∷ news) each lawful =
    (front law Package accepts p.1 q.1 (brought (package_log_id p.0) listed) each.1 lawful.0, each-front law accepts listed olds news each.2 lawful.1)

pub brings-lawful : FrontLaw → (accepts : Accepts) (before after : Logs) (page : Page) → Brings before page after → EachIsLawful accepts after → EachIsLawful accepts before
brings-lawful law accepts before after page b lawful = record {
  operator = front law Operator accepts before.operator after.operator page.operator b.operator lawful.operator;
  packages = each-front law accepts page.packages before.packages after.packages b.packages lawful.packages;
}

-- ---- the lists of a page, one after the other

brought-more : (id : List ℕ) (l : List ℕ × List PublishedRecord) (listed : List (List ℕ × List PublishedRecord)) → brought id (l ∷ listed) ≡ brought id (l ∷ []) ++ brought id listed
brought-more id l listed = flat_map-append (λ (m : List ℕ × List PublishedRecord). cond (bytes_eq m.0 id) m.1 []) (l ∷ []) listed

-- the logs behind the first list, and then behind the others
pub each-apart : ApartLaw → (l : List ℕ × List PublishedRecord) (listed : List (List ℕ × List PublishedRecord)) (olds news : List (List ℕ × List Kept)) → EachGrows (l ∷ listed) olds news
    → (mids : List (List ℕ × List Kept)) × EachGrows (l ∷ []) olds mids × EachGrows listed mids news
each-apart law l listed [] [] each = ([], tt, tt)
each-apart law l listed [] (q ∷ news) each = absurd each
each-apart law l listed (p ∷ olds) [] each = absurd each
each-apart law l listed (p ∷ olds) (q ∷ news) each =
    let id = package_log_id p.0 in
    let one = law Package p.1 q.1 (brought id (l ∷ [])) (brought id listed) (subst (λ (ps : List PublishedRecord). Grows Package p.1 ps q.1) (brought-more id l listed) each.1) in
    let rest = each-apart law l listed olds news each.2 in
    ((p.0, one.0) ∷ rest.0, (refl, one.1, rest.1), (each.0, one.2, rest.2))

further : {A : Type 0} (x y : A) (xs : List A) → Contains xs y → Contains (x ∷ xs) y
further x y xs there = let lt = there.1 in (suc there.0, omega (arith, lt), there.2)

-- a package's log as a page leaves it
record IsGrown (listed : List (List ℕ × List PublishedRecord)) (news : List (List ℕ × List Kept)) (p : List ℕ × List Kept) : Type 0 where
  log : List Kept
  there : Contains news (p.0, log)
  grows : Grows Package p.1 (brought (package_log_id p.0) listed) log

grown-from : (listed : List (List ℕ × List PublishedRecord)) (olds news : List (List ℕ × List Kept)) (p : List ℕ × List Kept) (i : ℕ) → EachGrows listed olds news → i < length olds → get_or olds i p ≡ p → IsGrown listed news p
grown-from listed [] news p i each lt is = absurd (omega (arith, lt))
grown-from listed (o ∷ olds) [] p i each lt is = absurd each
grown-from listed (o ∷ olds) (q ∷ news) p zero each lt is =
    subst (IsGrown listed (q ∷ news)) is (record { log = q.1; there = (0, omega arith, ap (λ (n : List ℕ). (n, q.1)) each.0); grows = each.1 })
grown-from listed (o ∷ olds) (q ∷ news) p (suc i) each lt is =
    let deeper = grown-from listed olds news p i each.2 (omega (arith, lt)) is in
    record { log = deeper.log; there = further q (p.0, deeper.log) news deeper.there; grows = deeper.grows }

grows-to : (listed : List (List ℕ × List PublishedRecord)) (olds news : List (List ℕ × List Kept)) (p : List ℕ × List Kept) → EachGrows listed olds news → Contains olds p → IsGrown listed news p
grows-to listed olds news p each there = grown-from listed olds news p there.0 each there.1 there.2

-- the package of a log that a page leaves
was-there : (listed : List (List ℕ × List PublishedRecord)) (olds news : List (List ℕ × List Kept)) (q : List ℕ × List Kept) (i : ℕ) → EachGrows listed olds news → i < length news → get_or news i q ≡ q
    → (p : List ℕ × List Kept) × Contains olds p × (p.0 ≡ q.0)
was-there listed [] [] q i each lt is = absurd (omega (arith, lt))
was-there listed [] (r ∷ news) q i each lt is = absurd each
was-there listed (p ∷ olds) [] q i each lt is = absurd each
was-there listed (p ∷ olds) (r ∷ news) q zero each lt is = (p, (0, omega arith, refl), sym each.0 ∙ ap (λ (x : List ℕ × List Kept). x.0) is)
was-there listed (p ∷ olds) (r ∷ news) q (suc i) each lt is =
    let deeper = was-there listed olds news q i each.2 (omega (arith, lt)) is in
    (deeper.0, further p deeper.0 olds deeper.1, deeper.2)

-- a page leaves the packages that there were
pub of-package-before : (listed : List (List ℕ × List PublishedRecord)) (olds news : List (List ℕ × List Kept)) (l : List ℕ × List PublishedRecord) → EachGrows listed olds news → IsOfPackage news l → IsOfPackage olds l
of-package-before listed olds news l each is some =
    let found = is some in
    let was = was-there listed olds news found.0 found.1.0 each found.1.1 found.1.2 in
    (was.0, was.1, ap package_log_id was.2 ∙ found.2)

of-package-after : (listed : List (List ℕ × List PublishedRecord)) (olds news : List (List ℕ × List Kept)) (l : List ℕ × List PublishedRecord) → EachGrows listed olds news → IsOfPackage olds l → IsOfPackage news l
of-package-after listed olds news l each is some =
    let found = is some in
    let grown = grows-to listed olds news found.0 each found.1 in
    ((found.0.0, grown.log), grown.there, found.2)

pub all-before : (listed : List (List ℕ × List PublishedRecord)) (olds news : List (List ℕ × List Kept)) (ls : List (List ℕ × List PublishedRecord)) → EachGrows listed olds news → AllByRecursion (IsOfPackage news) ls
    → AllByRecursion (IsOfPackage olds) ls
all-before listed olds news [] each are = tt
all-before listed olds news (l ∷ ls) each are = (of-package-before listed olds news l each are.0, all-before listed olds news ls each are.1)

all-after : (listed : List (List ℕ × List PublishedRecord)) (olds news : List (List ℕ × List Kept)) (ls : List (List ℕ × List PublishedRecord)) → EachGrows listed olds news → AllByRecursion (IsOfPackage olds) ls
    → AllByRecursion (IsOfPackage news) ls
all-after listed olds news [] each are = tt
all-after listed olds news (l ∷ ls) each are = (of-package-after listed olds news l each are.0, all-after listed olds news ls each are.1)

-- ---- faults

at-place : {A : Type 0} (P : A → Type 0) (xs : List A) (x : A) (i : ℕ) → AllByRecursion P xs → i < length xs → get_or xs i x ≡ x → P x
at-place P [] x i all lt is = absurd (omega (arith, lt))
at-place P (y ∷ xs) x zero all lt is = subst P is all.0
at-place P (y ∷ xs) x (suc i) all lt is = at-place P xs x i all.1 (omega (arith, lt)) is

some-record : (ps : List PublishedRecord) → 0 < length ps → ps ≢ []
some-record [] lt none = absurd (omega (arith, lt))
some-record (p ∷ ps) lt none = absurd cc

list-taken : TakenLaw → (e : PageError) (accepts : Accepts) (l : List ℕ × List PublishedRecord) (olds mids : List (List ℕ × List Kept)) → EachGrows (l ∷ []) olds mids → AllByRecursion (λ p. IsLawfulLog Package accepts p.1) mids
    → IsOfPackage olds l → IsListedFault e accepts olds l → e ≡ error.Memory
list-taken law (error.Operator e) accepts l olds mids each lawful is bad = absurd bad
list-taken law (error.UnknownLog id) accepts l olds mids each lawful is bad =
    let found = is (some-record l.1 bad.1) in
    absurd (bad.2 found.0 found.1 (found.2 ∙ sym bad.0))
list-taken law (error.Package name e) accepts l olds mids each lawful is bad =
    let grown = grows-to (l ∷ []) olds mids (name, bad.1) each bad.2 in
    let own : Grows Package bad.1 l.1 grown.log = subst (λ (ps : List PublishedRecord). Grows Package bad.1 ps grown.log) (brought_here l.0 (package_log_id name) l.1 (sym bad.3)) grown.grows in
    let good : IsLawfulLog Package accepts grown.log = at-place (λ (p : List ℕ × List Kept). IsLawfulLog Package accepts p.1) mids (name, grown.log) grown.there.0 lawful grown.there.1 grown.there.2 in
    absurd (bad.0 (law Package accepts bad.1 grown.log l.1 e bad.4 own good bad.5))
list-taken law error.Memory accepts l olds mids each lawful is bad = refl

lists-taken : OneLaw → ApartLaw → TakenLaw → FrontLaw → (e : PageError) (accepts : Accepts) (listed : List (List ℕ × List PublishedRecord)) (olds news : List (List ℕ × List Kept)) → EachGrows listed olds news
    → AllByRecursion (λ p. IsLawfulLog Package accepts p.1) news → AllByRecursion (IsOfPackage olds) listed → FirstListedFault e accepts olds listed → e ≡ error.Memory
lists-taken one apart taken fronts e accepts [] olds news each lawful are bad = absurd bad
lists-taken one apart taken fronts e accepts (l ∷ listed) olds news each lawful are (inl here) =
    let parts = each-apart apart l listed olds news each in
    list-taken taken e accepts l olds parts.0 parts.1 (each-front fronts accepts listed parts.0 news parts.2 lawful) are.0 here
lists-taken one apart taken fronts e accepts (l ∷ listed) olds news each lawful are (inr later) =
    let parts = each-apart apart l listed olds news each in
    let same : parts.0 ≡ later.0 = each-once one (l ∷ []) olds parts.0 later.0 parts.1 later.1 in
    lists-taken one apart taken fronts e accepts listed later.0 news (subst (λ (m : List (List ℕ × List Kept)). EachGrows listed m news) same parts.2) lawful (all-after (l ∷ []) olds later.0 listed later.1 are.1) later.2

pub page-taken : OneLaw → ApartLaw → TakenLaw → FrontLaw → (e : PageError) (accepts : Accepts) (before after : Logs) (page : Page) → Brings before page after → EachIsLawful accepts after → IsPageFault e accepts before page → e ≡ error.Memory
page-taken one apart taken fronts (error.Operator e) accepts before after page b lawful bad =
    absurd (bad.0 (taken Operator accepts before.operator after.operator page.operator e bad.1 b.operator lawful.operator bad.2))
page-taken one apart taken fronts (error.UnknownLog id) accepts before after page b lawful bad =
    lists-taken one apart taken fronts (error.UnknownLog id) accepts page.packages before.packages after.packages b.packages lawful.packages b.asked bad.2
page-taken one apart taken fronts (error.Package name e) accepts before after page b lawful bad =
    lists-taken one apart taken fronts (error.Package name e) accepts page.packages before.packages after.packages b.packages lawful.packages b.asked bad.2
page-taken one apart taken fronts error.Memory accepts before after page b lawful bad = refl
