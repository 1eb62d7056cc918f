-- The lists of a page: of each log that is asked for, where it has records behind its token.
use Rattle.std.proofs.Common.{◌≡◌, ◌≢◌, ◌<◌, ◌∷◌, ◌++◌, [], ◌⊎◌, inl, inr, List, ℕ, zero, suc, Bool, true, false, Option, refl, sym, ◌∙◌, ap, subst, map, append-nil, arith}
use Rattle.std.specs.Prelude.{bytes_eq, cond, Contains, if◌then◌else◌, slice_index_or, length}
use Rattle.std.specs.List.{AllByRecursion, IsDistinct}
use Rattle.std.proofs.lemmas.Slice.Eq.{bytes_eq-Decides}
use Rattle.indexmap.specs.IndexMap.{insert_entry}
use Rattle.warg_hash.specs.Hash.{package_log_id}
use Rattle.warg_exchange.specs.declared.logs.PublishedRecord.{PublishedRecord}
use Rattle.warg_info.specs.Kept.{Kept, last_token}
use Rattle.warg_page.specs.Logs.{brought, tokens_of}
use Rattle.warg_ledger.specs.Registry.{Registry}
use Rattle.warg_model.specs.Pages.{AreBehind, AreLists, with_list}

abbrev pub Asked : Type 0
Asked = List ℕ × Option (List ℕ)

abbrev pub Listed : Type 0
Listed = List ℕ × List PublishedRecord

abbrev pub asked-ids : List Asked → List (List ℕ)
asked-ids asked = map (λ a. a.0) asked

-- ---- items of a list

pub further : {A : Type 0} (x y : A) (xs : List A) → Contains xs y → Contains (x ∷ xs) y
further x y xs there = let lt = there.1 in (suc there.0, omega (arith, lt), there.2)

place-of : {A : Type 0} (x y : A) (xs : List A) (k : ℕ) → k < length (x ∷ xs) → slice_index_or (x ∷ xs) k y ≡ y → (x ≡ y) ⊎ Contains xs y
place-of x y xs zero lt is = inl is
place-of x y xs (suc k) lt is = inr (k, omega (arith, lt), is)

pub first-or-further : {A : Type 0} (x y : A) (xs : List A) → Contains (x ∷ xs) y → (x ≡ y) ⊎ Contains xs y
first-or-further x y xs there = place-of x y xs there.0 there.1 there.2

none-in : {A : Type 0} (y : A) → Contains [] y → ⊥
none-in y there = let lt = there.1 in absurd (omega (arith, lt))

pub no-items : {A : Type 0} (xs : List A) → length xs ≡ 0 → xs ≡ []
no-items [] none = refl
no-items (x ∷ xs) none = absurd (omega (arith, none))

-- ---- one log more

append-list : (id : List ℕ) (records : List PublishedRecord) (others more : List Listed) → with_list id records others ++ more ≡ with_list id records (others ++ more)
append-list id [] others more = refl
append-list id (r ∷ records) others more = refl

pub lists-more : (w : Registry) (n : ℕ) (asked : List Asked) (listed : List Listed) (a : Asked) (records : List PublishedRecord) → AreLists w n asked listed → AreBehind w n a.0 a.1 records → AreLists w n (asked ++ a ∷ []) (listed ++ with_list a.0 records [])
lists-more w n [] listed a records are behind = (records, [], behind, refl, ap (λ (l : List Listed). l ++ with_list a.0 records []) are)
lists-more w n (b ∷ asked) listed a records are behind =
    let others = are.1 in
    let more = with_list a.0 records [] in
    (are.0, others ++ more, are.2, lists-more w n asked others a records are.3 behind, ap (λ (l : List Listed). l ++ more) are.4 ∙ append-list b.0 are.0 others more)

-- ---- ids of which no two are equal

all-middle : (P : List ℕ → Type 0) (front : List Asked) (a : Asked) (rest : List Asked) → AllByRecursion P (asked-ids (front ++ a ∷ rest)) → P a.0
all-middle P [] a rest all = all.0
all-middle P (b ∷ front) a rest all = all-middle P front a rest all.1

-- an id stands at one place
pub not-in-front : (front : List Asked) (a : Asked) (rest : List Asked) → IsDistinct bytes_eq (asked-ids (front ++ a ∷ rest)) → AllByRecursion (λ b. b.0 ≢ a.0) front
unfolding IsDistinct
not-in-front [] a rest distinct = tt
not-in-front (b ∷ front) a rest distinct =
    let other : bytes_eq b.0 a.0 ≡ false = all-middle (λ y. bytes_eq b.0 y ≡ false) front a rest distinct.0 in
    ((λ same. let is : bytes_eq b.0 a.0 ≡ true = (bytes_eq-Decides b.0 a.0).1 same in absurd cc), not-in-front front a rest distinct.1)

-- ---- a new list goes last

insert-listed : (eq : List ℕ → List ℕ → Bool) (b id : List ℕ) (records v : List PublishedRecord) (others : List Listed) → ((x : List ℕ) → eq id x ≡ true → id ≡ x) → b ≢ id → insert_entry eq others id v ≡ others ++ (id, v) ∷ []
    → insert_entry eq (with_list b records others) id v ≡ with_list b records others ++ (id, v) ∷ []
insert-listed eq b id [] v others sound other rest = rest
insert-listed eq b id (r ∷ records) v others sound other rest = by_test (eq id b) refl
  where
    by_test : (t : Bool) → eq id b ≡ t → (if t then (b, v) ∷ others else (b, r ∷ records) ∷ insert_entry eq others id v) ≡ (b, r ∷ records) ∷ (others ++ (id, v) ∷ [])
    by_test true is = absurd (other (sym (sound b is)))
    by_test false is = ap (λ (l : List Listed). (b, r ∷ records) ∷ l) rest

pub goes-last : (eq : List ℕ → List ℕ → Bool) (w : Registry) (n : ℕ) (asked : List Asked) (listed : List Listed) (id : List ℕ) (v : List PublishedRecord) → ((x : List ℕ) → eq id x ≡ true → id ≡ x) → AllByRecursion (λ b. b.0 ≢ id) asked
    → AreLists w n asked listed → insert_entry eq listed id v ≡ listed ++ (id, v) ∷ []
goes-last eq w n [] listed id v sound other are = ap (λ (l : List Listed). insert_entry eq l id v) are ∙ sym (ap (λ (l : List Listed). l ++ (id, v) ∷ []) are)
goes-last eq w n (b ∷ asked) listed id v sound other are =
    ap (λ (l : List Listed). insert_entry eq l id v) are.4
    ∙ insert-listed eq b.0 id are.0 v are.1 sound other.0 (goes-last eq w n asked are.1 id v sound other.1 are.3)
    ∙ sym (ap (λ (l : List Listed). l ++ (id, v) ∷ []) are.4)

-- ---- what is brought for a log

brought-with : (t : Bool) (id b : List ℕ) (records : List PublishedRecord) (others : List Listed) → bytes_eq b id ≡ t → brought id (with_list b records others) ≡ cond t records [] ++ brought id others
brought-with true id b [] others is = refl
brought-with false id b [] others is = refl
brought-with t id b (r ∷ records) others is = ap (λ (u : Bool). cond u (r ∷ records) [] ++ brought id others) is

differs : (b id : List ℕ) → b ≢ id → bytes_eq b id ≡ false
differs b id other = by_test (bytes_eq b id) refl
  where
    by_test : (t : Bool) → bytes_eq b id ≡ t → t ≡ false
    by_test true is = absurd (other ((bytes_eq-Decides b id).0 is))
    by_test false is = refl

none-brought : (w : Registry) (n : ℕ) (asked : List Asked) (listed : List Listed) (id : List ℕ) → AllByRecursion (λ y. bytes_eq id y ≡ false) (asked-ids asked) → AreLists w n asked listed → brought id listed ≡ []
none-brought w n [] listed id other are = ap (brought id) are
none-brought w n (b ∷ asked) listed id other are =
    let is : bytes_eq b.0 id ≡ false = differs b.0 id (λ same. let back : bytes_eq id b.0 ≡ true = (bytes_eq-Decides id b.0).1 (sym same) in absurd cc) in
    ap (brought id) are.4 ∙ brought-with false id b.0 are.0 are.1 is ∙ none-brought w n asked are.1 id other.1 are.3

all-at : (P : List ℕ → Type 0) (asked : List Asked) (a : Asked) → AllByRecursion P (asked-ids asked) → Contains asked a → P a.0
all-at P [] a all there = absurd (none-in a there)
all-at P (b ∷ asked) a all there = elim (first-or-further b a asked there) [
  | inl same ↦ subst (λ (c : Asked). P c.0) same all.0
  | inr rest ↦ all-at P asked a all.1 rest
]

-- they are the records behind the log's token
pub brought-behind : (w : Registry) (n : ℕ) (asked : List Asked) (listed : List Listed) (a : Asked) → IsDistinct bytes_eq (asked-ids asked) → AreLists w n asked listed → Contains asked a → AreBehind w n a.0 a.1 (brought a.0 listed)
unfolding IsDistinct
brought-behind w n [] listed a distinct are there = absurd (none-in a there)
brought-behind w n (b ∷ asked) listed a distinct are there = elim (first-or-further b a asked there) [
  | inl same ↦ subst (λ (c : Asked). AreBehind w n c.0 c.1 (brought c.0 listed)) same (subst (λ (rs : List PublishedRecord). AreBehind w n b.0 b.1 rs)
      (sym (ap (brought b.0) are.4 ∙ brought-with true b.0 b.0 are.0 are.1 ((bytes_eq-Decides b.0 b.0).1 refl) ∙ ap (λ (l : List PublishedRecord). are.0 ++ l) (none-brought w n asked are.1 b.0 distinct.0 are.3) ∙ append-nil are.0)) are.2)
  | inr rest ↦ subst (λ (rs : List PublishedRecord). AreBehind w n a.0 a.1 rs)
      (sym (ap (brought a.0) are.4 ∙ brought-with false a.0 b.0 are.0 are.1 (all-at (λ y. bytes_eq b.0 y ≡ false) asked a distinct.0 rest))) (brought-behind w n asked are.1 a distinct.1 are.3 rest)
]

-- ---- which logs are listed

abbrev IsAskedList : List Asked → Listed → Type 0
IsAskedList asked l = ((token : Option (List ℕ)) × Contains asked (l.0, token)) × (l.1 ≢ [])

listed-step : (b : Asked) (asked : List Asked) (records : List PublishedRecord) (others : List Listed) (l : Listed) → (Contains others l → IsAskedList asked l) → Contains (with_list b.0 records others) l → IsAskedList (b ∷ asked) l
listed-step b asked [] others l rest there = let was = rest there in ((was.0.0, further b (l.0, was.0.0) asked was.0.1), was.1)
listed-step b asked (r ∷ records) others l rest there = elim (first-or-further (b.0, r ∷ records) l others there) [
  | inl same ↦ ((b.1, (0, omega arith, ap (λ (id : List ℕ). (id, b.1)) (ap (λ (x : Listed). x.0) same))), (λ none. absurd (cons≢nil (ap (λ (x : Listed). x.1) same ∙ none))))
  | inr later ↦ let was = rest later in ((was.0.0, further b (l.0, was.0.0) asked was.0.1), was.1)
]
  where
    cons≢nil : r ∷ records ≢ []
    cons≢nil e = absurd cc

-- a list is of a log that is asked for, and has a record
pub listed-asked : (w : Registry) (n : ℕ) (asked : List Asked) (listed : List Listed) (l : Listed) → AreLists w n asked listed → Contains listed l → IsAskedList asked l
listed-asked w n [] listed l are there = absurd (none-in l (subst (λ (ls : List Listed). Contains ls l) are there))
listed-asked w n (b ∷ asked) listed l are there = listed-step b asked are.0 are.1 l (λ later. listed-asked w n asked are.1 l are.3 later) (subst (λ (ls : List Listed). Contains ls l) are.4 there)

-- ---- the packages that a request names

pub package-asked : (packages : List (List ℕ × List Kept)) (p : List ℕ × List Kept) → Contains packages p → Contains (tokens_of packages) (package_log_id p.0, last_token p.1)
package-asked [] p there = absurd (none-in p there)
package-asked (q ∷ packages) p there = elim (first-or-further q p packages there) [
  | inl same ↦ (0, omega arith, ap (λ (x : List ℕ × List Kept). (package_log_id x.0, last_token x.1)) same)
  | inr rest ↦ further (package_log_id q.0, last_token q.1) (package_log_id p.0, last_token p.1) (tokens_of packages) (package-asked packages p rest)
]

pub asked-package : (packages : List (List ℕ × List Kept)) (a : Asked) → Contains (tokens_of packages) a → (name : List ℕ) × (log : List Kept) × Contains packages (name, log) × (package_log_id name ≡ a.0)
asked-package [] a there = absurd (none-in a there)
asked-package (q ∷ packages) a there = elim (first-or-further (package_log_id q.0, last_token q.1) a (tokens_of packages) there) [
  | inl same ↦ (q.0, q.1, (0, omega arith, refl), ap (λ (x : Asked). x.0) same)
  | inr rest ↦ let was = asked-package packages a rest in (was.0, was.1, further q (was.0, was.1) packages was.2, was.3)
]

-- ---- the loop over the logs that are asked for

-- the lists are those of the logs in front of these
abbrev pub Fills : Registry → ℕ → List Asked → List Asked → List Listed → Type 0
Fills w n all rest listed = (front : List Asked) × (all ≡ front ++ rest) × AreLists w n front listed

move-one : (front : List Asked) (a : Asked) (rest : List Asked) → (front ++ a ∷ []) ++ rest ≡ front ++ a ∷ rest
move-one [] a rest = refl
move-one (b ∷ front) a rest = ap (λ (l : List Asked). b ∷ l) (move-one front a rest)

with-one : (w : Registry) (n : ℕ) (all left rest : List Asked) (listed : List Listed) (a : Asked) (records : List PublishedRecord) → (fills : Fills w n all left listed) → left ≡ a ∷ rest → AreBehind w n a.0 a.1 records
    → Fills w n all rest (listed ++ with_list a.0 records [])
with-one w n all left rest listed a records fills next behind =
    (fills.0 ++ a ∷ [], fills.1 ∙ ap (λ (l : List Asked). fills.0 ++ l) next ∙ sym (move-one fills.0 a rest), lists-more w n fills.0 listed a records fills.2 behind)

-- a log without records behind its token has no list
pub fills-none : (w : Registry) (n : ℕ) (all left rest : List Asked) (listed : List Listed) (a : Asked) (records : List PublishedRecord) → Fills w n all left listed → left ≡ a ∷ rest → AreBehind w n a.0 a.1 records → records ≡ []
    → Fills w n all rest listed
fills-none w n all left rest listed a records fills next behind none =
    subst (Fills w n all rest) (ap (λ (rs : List PublishedRecord). listed ++ with_list a.0 rs []) none ∙ append-nil listed) (with-one w n all left rest listed a records fills next behind)

one-list : (id : List ℕ) (records : List PublishedRecord) → records ≢ [] → with_list id records [] ≡ (id, records) ∷ []
one-list id [] some = absurd (some refl)
one-list id (r ∷ records) some = refl

-- one with records has its list behind the others
pub fills-some : (eq : List ℕ → List ℕ → Bool) (w : Registry) (n : ℕ) (all left rest : List Asked) (listed news : List Listed) (a : Asked) (records list : List PublishedRecord) → news ≡ insert_entry eq listed a.0 list → list ≡ records
    → ((x : List ℕ) → eq a.0 x ≡ true → a.0 ≡ x) → IsDistinct bytes_eq (asked-ids all) → Fills w n all left listed → left ≡ a ∷ rest → AreBehind w n a.0 a.1 records → records ≢ [] → Fills w n all rest news
fills-some eq w n all left rest listed news a records list is same sound distinct fills next behind some =
    let apart = not-in-front fills.0 a rest (subst (λ (l : List Asked). IsDistinct bytes_eq (asked-ids l)) (fills.1 ∙ ap (λ (l : List Asked). fills.0 ++ l) next) distinct) in
    let last : news ≡ listed ++ (a.0, records) ∷ [] = is ∙ goes-last eq w n fills.0 listed a.0 list sound apart fills.2 ∙ ap (λ (rs : List PublishedRecord). listed ++ (a.0, rs) ∷ []) same in
    subst (Fills w n all rest) (ap (λ (l : List Listed). listed ++ l) (one-list a.0 records some) ∙ sym last) (with-one w n all left rest listed a records fills next behind)
