-- Sections that are written one by one, and the items of the one that is open.
use Rattle.std.proofs.Common.{◌≡◌, ℕ, ◌+◌, ◌-◌, ◌<◌, ◌^◌, true, false, List, [], ◌∷◌, ◌++◌, length, drop, Option, Some, None, Vec, refl, sym, ap, subst, ◌∙◌, append_assoc, inl, inr, arith}
use Rattle.std.specs.Global.{Global}
use Rattle.std.specs.List.{flat_map, AllByRecursion}
use Rattle.std.proofs.lemmas.Bool.{cases_Bool}
use Rattle.std.proofs.lemmas.List.{append-nil, length-append, length-map, map-append, drop-append-le}
use Rattle.std.proofs.lemmas.List.Concat.{flat_map-append}
use Rattle.std.proofs.lemmas.List.Elements.{Contains-append_left, Contains-append_right}
use Rattle.comp_format.specs.Numbers.{number_text}
use Rattle.comp_format.specs.Sections.{header}
use Rattle.comp_encoder.specs.declared.built.Kind.{Kind}
use Rattle.comp_encoder.specs.declared.built.Kind.TheVariants as kind
use Rattle.comp_encoder.specs.declared.built.Place.{Place}
use Rattle.comp_encoder.specs.Builder.{Kept, Item, Whole, IsKept, IsItem, IsAlone, EndsRun, IsEnded, IsRunShort, IsRunLong, IsLaid, seen, begun, kept, kind_id, kepts_of, kept_bytes, item_of, entries_of, first_section, shared_section, run_content, run_text, run_sections}
use Rattle.comp_encoder.specs.Writing.{WrittenSection, IsShort, IsTooLongAmong, is_shared, is_plain, sections_of, content_text, section_text}
use Rattle.comp_encoder.proofs.SectionLaws.{run_is, alone_first, shared_content, plain_content, plain_apart, whole_counted}

-- ---- the history

-- the last bytes are those that were added
pub last_bytes : (front back : List ℕ) → drop (length (front ++ back) - length back) (front ++ back) ≡ back
last_bytes front back =
    let at : length (front ++ back) - length back ≡ length front = omega (arith, length-append front back) in
    ap (λ n. drop n (front ++ back)) at ∙ drop-append-le (length front) front back (omega arith) ∙ ap (λ (t : List ℕ). t ++ back) (none_left front)
  where
    none_left : (xs : List ℕ) → drop (length xs) xs ≡ []
    none_left [] = refl
    none_left (x ∷ xs) = none_left xs

-- one pair more
pub history_push : (history new : List (Place × Vec ℕ Global)) (k : Kind) (len : ℕ) (front back : List ℕ) (vec : Vec ℕ Global) → new ≡ history ++ (record { kind = k; len = len }, vec) ∷ [] → len ≡ length back → vec.items ≡ front ++ back
    → kepts_of new ≡ kepts_of history ++ kept k back ∷ []
history_push history new k len front back vec new_is len_is items =
    let last : drop (length vec.items - len) vec.items ≡ back =
    ap (λ n. drop (length vec.items - n) vec.items) len_is ∙ ap (λ (t : List ℕ). drop (length t - length back) t) items ∙ last_bytes front back in
    ap kepts_of new_is ∙ map-append seen history ((record { kind = k; len = len }, vec) ∷ []) ∙ ap (λ (t : List ℕ). kepts_of history ++ kept k t ∷ []) last

-- ---- the section of a run

all_push : {X : Type 0} (P : X → Type 0) (xs : List X) (x : X) → AllByRecursion P xs → P x → AllByRecursion P (xs ++ x ∷ [])
all_push P [] x h is = (is, tt)
all_push P (y ∷ xs) x h is = (h.0, all_push P xs x h.1 is)

all_append : {X : Type 0} (P : X → Type 0) (front back : List X) → AllByRecursion P front → AllByRecursion P back → AllByRecursion P (front ++ back)
all_append P [] back f b = b
all_append P (x ∷ front) back f b = (f.0, all_append P front back f.1 b)

-- the section of a run, in front of what does not join it
run_first : (id : ℕ) (run rest : List Kept) → is_shared id ≡ true → AllByRecursion IsKept run → AllByRecursion IsKept rest → AllByRecursion (IsItem id) run → EndsRun id rest → sections_of (entries_of (run ++ rest)) ≡ run_sections id run ++ sections_of (entries_of rest)
run_first id [] rest shared fit rest_fit alike ends = refl
run_first id (Item i bytes ∷ ks) rest shared fit rest_fit alike ends =
    let same : i ≡ id = alike.0 in
    let back : (P : ℕ → Type 0) → P id → P i = λ P. subst P (sym same) in
    run_is i bytes ks rest (back (λ n. is_shared n ≡ true) shared) fit rest_fit (back (λ n. AllByRecursion (IsItem n) ks) alike.1) (back (λ n. EndsRun n rest) ends)
    ∙ ap (λ n. shared_section n (Item i bytes ∷ ks) ∷ sections_of (entries_of rest)) same
run_first id (Whole i content ∷ ks) rest shared fit rest_fit alike ends = absurd alike.0

-- what is shared is a vector
shared_vector : (id : ℕ) → is_shared id ≡ true → is_plain id ≡ false
shared_vector id shared =
    elim (cases_Bool (is_plain id)) [
      | inl plain ↦ absurd (shut (sym shared ∙ plain_apart id plain))
      | inr vector ↦ vector
    ]
  where
    shut : true ≡ false → ⊥
    shut e = cc

content_is : (id : ℕ) (run : List Kept) → is_shared id ≡ true → AllByRecursion IsKept run → AllByRecursion (IsItem id) run → content_text (shared_section id run) ≡ run_content (length run) (flat_map kept_bytes run)
content_is id run shared fit alike = shared_content id run (shared_vector id shared) fit alike

run_written : (id : ℕ) (run : List Kept) → is_shared id ≡ true → AllByRecursion IsKept run → AllByRecursion (IsItem id) run → flat_map section_text (run_sections id run) ≡ run_text id (length run) (flat_map kept_bytes run)
run_written id [] shared fit alike = refl
run_written id (k ∷ ks) shared fit alike =
    append-nil (section_text (shared_section id (k ∷ ks))) ∙ ap (λ (t : List ℕ). id ∷ (number_text (length t) ++ t)) (content_is id (k ∷ ks) shared fit alike)

run_short : (id : ℕ) (run : List Kept) → is_shared id ≡ true → AllByRecursion IsKept run → AllByRecursion (IsItem id) run → (0 < length run → IsRunShort (length run) (flat_map kept_bytes run)) → AllByRecursion IsShort (run_sections id run)
run_short id [] shared fit alike short = tt
run_short id (k ∷ ks) shared fit alike short =
    let is = short (omega arith) in
    let counted : length (shared_section id (k ∷ ks)).items ≡ length (k ∷ ks) = length-map (k ∷ ks) (λ j. item_of id (kept_bytes j)) in (
      record {
        count = subst (λ n. n < 2 ^ 32) (sym counted) is.few;
        bytes = subst (λ (t : List ℕ). length t < 2 ^ 32) (sym (content_is id (k ∷ ks) shared fit alike)) is.short;
      },
      tt,
    )

run_long : (n id : ℕ) (run : List Kept) → is_shared id ≡ true → AllByRecursion IsKept run → AllByRecursion (IsItem id) run → IsRunLong n (length run) (flat_map kept_bytes run) → IsTooLongAmong n (run_sections id run)
run_long n id [] shared fit alike long = absurd (omega (arith, long.some))
run_long n id (k ∷ ks) shared fit alike long =
    let g : WrittenSection = shared_section id (k ∷ ks) in
    let counted : length g.items ≡ length (k ∷ ks) = length-map (k ∷ ks) (λ j. item_of id (kept_bytes j)) in
    let text : content_text g ≡ run_content (length (k ∷ ks)) (flat_map kept_bytes (k ∷ ks)) = content_is id (k ∷ ks) shared fit alike in (
      g,
      (0, omega arith, refl),
      record {
        above = long.above;
        which = elim long.which [
          | inl is ↦ inl (is ∙ sym counted)
          | inr is ↦ inr (is ∙ sym (ap length text))
        ];
      },
    )

-- ---- what is laid down

long_left : (n : ℕ) (front back : List WrittenSection) → IsTooLongAmong n front → IsTooLongAmong n (front ++ back)
long_left n front back long = (long.0, Contains-append_left front back long.0 long.1, long.2)

long_right : (n : ℕ) (front back : List WrittenSection) → IsTooLongAmong n back → IsTooLongAmong n (front ++ back)
long_right n front back long = (long.0, Contains-append_right front back long.0 long.1, long.2)

-- The section that was open is whole: what comes begins another.
pub record IsCut (kepts : List Kept) (id : ℕ) (out : List ℕ) (fault : Option ℕ) : Type 0 where
  pub sections : List WrittenSection
  pub cut : (rest : List Kept) → AllByRecursion IsKept rest → EndsRun id rest → sections_of (entries_of (kepts ++ rest)) ≡ sections ++ sections_of (entries_of rest)
  pub text : fault ≡ None → out ≡ header ++ flat_map section_text sections
  pub short : fault ≡ None → AllByRecursion IsShort sections
  pub long : (n : ℕ) → fault ≡ Some n → IsTooLongAmong n sections

no_fault : (n : ℕ) → Some n ≡ None → ⊥
no_fault n e = cc

fault_is : (n m : ℕ) → Some n ≡ Some m → n ≡ m
fault_is n m e = cc

pub cut_is : (kepts : List Kept) (out : List ℕ) (id count : ℕ) (bytes : List ℕ) (told : Option ℕ) (new : List ℕ) (fault : Option ℕ) → IsLaid kepts out id count bytes told → IsEnded id count bytes out told new fault → IsCut kepts id new fault
cut_is kepts out id count bytes told new fault laid ended =
    let run : List Kept = laid.run in
    let last : List WrittenSection = run_sections id run in
    let at : (P : ℕ → List ℕ → Type 0) → P count bytes → P (length run) (flat_map kept_bytes run) = λ P h. subst (λ (t : List ℕ). P (length run) t) (sym laid.bytes_are) (subst (λ n. P n bytes) (sym laid.counted) h) in record {
      sections = laid.before ++ last;
      cut = λ rest fit ends.
          laid.cut rest fit ∙ ap (λ (gs : List WrittenSection). laid.before ++ gs) (run_first id run rest laid.shared laid.fit fit laid.alike ends) ∙ sym (append_assoc laid.before last (sections_of (entries_of rest)));
      text = λ none. elim ended [
        | inl w ↦
            w.1 ∙ ap (λ (t : List ℕ). t ++ run_text id count bytes) (laid.text (sym w.0 ∙ none))
            ∙ append_assoc header (flat_map section_text laid.before) (run_text id count bytes)
            ∙ ap (λ (t : List ℕ). header ++ (flat_map section_text laid.before ++ t)) (text_at (run_text id) count bytes laid.counted laid.bytes_are ∙ sym (run_written id run laid.shared laid.fit laid.alike))
            ∙ ap (λ (t : List ℕ). header ++ t) (sym (flat_map-append section_text laid.before last))
        | inr w ↦ absurd (no_fault w.0 (sym w.1 ∙ none))
      ];
      short = λ none. elim ended [
        | inl w ↦ all_append IsShort laid.before last (laid.short (sym w.0 ∙ none)) (run_short id run laid.shared laid.fit laid.alike (at (λ n t. 0 < n → IsRunShort n t) w.2))
        | inr w ↦ absurd (no_fault w.0 (sym w.1 ∙ none))
      ];
      long = λ n is. elim ended [
        | inl w ↦ long_left n laid.before last (laid.long n (sym w.0 ∙ is))
        | inr w ↦ long_right n laid.before last (run_long n id run laid.shared laid.fit laid.alike (at (IsRunLong n) (subst (λ m. IsRunLong m count bytes) (fault_is w.0 n (sym w.1 ∙ is)) w.2)))
      ];
    }
  where
    text_at : (f : ℕ → List ℕ → List ℕ) (n : ℕ) (t : List ℕ) → length laid.run ≡ n → flat_map kept_bytes laid.run ≡ t → f n t ≡ f (length laid.run) (flat_map kept_bytes laid.run)
    text_at f n t counted is = ap (λ m. f m t) (sym counted) ∙ ap (f (length laid.run)) (sym is)

-- nothing was added
pub laid_none : IsLaid [] [] 7 0 [] None
laid_none = record {
  before = [];
  run = [];
  cut = λ rest fit. refl;
  fit = tt;
  alike = tt;
  shared = refl;
  counted = refl;
  bytes_are = refl;
  text = λ none. refl;
  short = λ none. tt;
  long = λ n e. absurd (no_fault n (sym e));
}

-- an item more in the section that is open
pub laid_joins : (kepts : List Kept) (out : List ℕ) (id count : ℕ) (bytes : List ℕ) (fault : Option ℕ) (new : List ℕ) → IsLaid kepts out id count bytes fault → IsKept (Item id new) → IsLaid (kepts ++ Item id new ∷ []) out id (count + 1) (bytes ++ new) fault
laid_joins kepts out id count bytes fault new laid is =
    let k : Kept = Item id new in record {
      before = laid.before;
      run = laid.run ++ k ∷ [];
      cut = λ rest fit.
          ap (λ (ks : List Kept). sections_of (entries_of ks)) (append_assoc kepts (k ∷ []) rest) ∙ laid.cut (k ∷ rest) (is, fit)
          ∙ ap (λ (ks : List Kept). laid.before ++ sections_of (entries_of ks)) (sym (append_assoc laid.run (k ∷ []) rest));
      fit = all_push IsKept laid.run k laid.fit is;
      alike = all_push (IsItem id) laid.run k laid.alike refl;
      shared = laid.shared;
      counted = length-append laid.run (k ∷ []) ∙ ap (λ n. n + 1) laid.counted;
      bytes_are = flat_map-append kept_bytes laid.run (k ∷ []) ∙ ap (λ (t : List ℕ). t ++ (new ++ [])) laid.bytes_are ∙ ap (λ (t : List ℕ). bytes ++ t) (append-nil new);
      text = laid.text;
      short = laid.short;
      long = laid.long;
    }

-- the same, of what is kept then
pub joins_laid : (kepts new_kepts : List Kept) (out : List ℕ) (id new_id i count new_count : ℕ) (bytes new_bytes : List ℕ) (fault : Option ℕ) (new : List ℕ) → IsLaid kepts out id count bytes fault → IsKept (Item i new)
    → new_kepts ≡ kepts ++ Item i new ∷ [] → i ≡ id → new_id ≡ id → new_count ≡ count + 1 → new_bytes ≡ bytes ++ new → IsLaid new_kepts out new_id new_count new_bytes fault
joins_laid kepts new_kepts out id new_id i count new_count bytes new_bytes fault new laid is kepts_are i_is id_is count_is bytes_are =
    let k : IsKept (Item id new) = subst (λ n. IsKept (Item n new)) i_is is in
    rw (kepts_are, i_is, id_is, count_is, bytes_are) (laid_joins kepts out id count bytes fault new laid k)

-- a component that was begun stays so
begun_is : (t out : List ℕ) → out ≡ header ++ t → begun out ≡ header ++ t
begun_is t out is = ap begun is

-- an item that begins the next section
pub laid_begins : (kepts : List Kept) (out : List ℕ) (id next : ℕ) (fault : Option ℕ) (new : List ℕ) → IsCut kepts id out fault → IsKept (Item next new) → is_shared next ≡ true → (next ≡ id → ⊥) → IsLaid (kepts ++ Item next new ∷ []) out next 1 new fault
laid_begins kepts out id next fault new whole is shared apart =
    let k : Kept = Item next new in record {
      before = whole.sections;
      run = k ∷ [];
      cut = λ rest fit. ap (λ (ks : List Kept). sections_of (entries_of ks)) (append_assoc kepts (k ∷ []) rest) ∙ whole.cut (k ∷ rest) (is, fit) apart;
      fit = (is, tt);
      alike = (refl, tt);
      shared = shared;
      counted = refl;
      bytes_are = append-nil new;
      text = λ none. begun_is (flat_map section_text whole.sections) out (whole.text none);
      short = whole.short;
      long = whole.long;
    }

-- ---- what has a section of its own

shut : true ≡ false → ⊥
shut e = cc

same_item : (i j : ℕ) (a b : List ℕ) → Item i a ≡ Item j b → i ≡ j
same_item i j a b e = cc

not_whole : (i j : ℕ) (a b : List ℕ) → Whole i a ≡ Item j b → ⊥
not_whole i j a b e = cc

alone_apart : (k : Kind) (content : List ℕ) → IsAlone k → (id : ℕ) (bytes : List ℕ) → kept k content ≡ Item id bytes → is_shared id ≡ false
alone_apart (kind.Item i) content alone id bytes e = subst (λ n. is_shared n ≡ false) (same_item i id content bytes e) (plain_apart i alone)
alone_apart (kind.Section i) content alone id bytes e = absurd (not_whole i id content bytes e)

-- it joins no run
alone_ends : (k : Kind) (content : List ℕ) (id : ℕ) (rest : List Kept) → IsAlone k → is_shared id ≡ true → EndsRun id (kept k content ∷ rest)
alone_ends (kind.Item i) content id rest alone shared = λ same. shut (sym shared ∙ ap is_shared (sym same) ∙ plain_apart i alone)
alone_ends (kind.Section i) content id rest alone shared = λ same. same

-- its section is its content
alone_text : (k : Kind) (content : List ℕ) → IsAlone k → IsKept (kept k content) → section_text (first_section (kept k content ∷ [])) ≡ kind_id k ∷ (number_text (length content) ++ content)
alone_text (kind.Item i) content alone is = ap (λ (t : List ℕ). i ∷ (number_text (length t) ++ t)) (plain_content i content alone is)
alone_text (kind.Section i) content alone is = refl

alone_short : (k : Kind) (content : List ℕ) → IsAlone k → IsKept (kept k content) → length content < 2 ^ 32 → IsShort (first_section (kept k content ∷ []))
alone_short (kind.Item i) content alone is short = record { count = omega arith; bytes = subst (λ (t : List ℕ). length t < 2 ^ 32) (sym (plain_content i content alone is)) short }
alone_short (kind.Section i) content alone is short = record { count = whole_counted i content is; bytes = short }

pub laid_alone : (kepts : List Kept) (mid : List ℕ) (id : ℕ) (fault : Option ℕ) (k : Kind) (content new : List ℕ) → IsCut kepts id mid fault → is_shared id ≡ true → IsKept (kept k content) → IsAlone k → new ≡ mid ++ (kind_id k ∷ (number_text (length content) ++ content)) → length content < 2 ^ 32 → IsLaid (kepts ++ kept k content ∷ []) new id 0 [] fault
laid_alone kepts mid id fault k content new whole shared is alone text short =
    let one : Kept = kept k content in
    let g : WrittenSection = first_section (one ∷ []) in record {
      before = whole.sections ++ g ∷ [];
      run = [];
      cut = λ rest fit.
          ap (λ (ks : List Kept). sections_of (entries_of ks)) (append_assoc kepts (one ∷ []) rest) ∙ whole.cut (one ∷ rest) (is, fit) (alone_ends k content id rest alone shared)
          ∙ ap (λ (gs : List WrittenSection). whole.sections ++ gs) (alone_first one rest (is, fit) (alone_apart k content alone)) ∙ sym (append_assoc whole.sections (g ∷ []) (sections_of (entries_of rest)));
      fit = tt;
      alike = tt;
      shared = shared;
      counted = refl;
      bytes_are = refl;
      text = λ none.
          begun_is (flat_map section_text (whole.sections ++ g ∷ [])) new (
          text ∙ ap (λ (t : List ℕ). t ++ (kind_id k ∷ (number_text (length content) ++ content))) (whole.text none)
          ∙ append_assoc header (flat_map section_text whole.sections) (kind_id k ∷ (number_text (length content) ++ content))
          ∙ ap (λ (t : List ℕ). header ++ (flat_map section_text whole.sections ++ t)) (sym (append-nil (section_text g) ∙ alone_text k content alone is))
          ∙ ap (λ (t : List ℕ). header ++ t) (sym (flat_map-append section_text whole.sections (g ∷ [])))
          );
      short = λ none. all_push IsShort whole.sections g (whole.short none) (alone_short k content alone is short);
      long = λ n e. long_left n whole.sections (g ∷ []) (whole.long n e);
    }

-- ---- the whole

none_left : (gs : List WrittenSection) → gs ++ sections_of (entries_of []) ≡ gs
unfolding entries_of
none_left gs = append-nil gs

-- nothing comes any more
module _ (kepts all : List Kept) (id : ℕ) (out : List ℕ) (fault : Option ℕ) (whole : IsCut kepts id out fault) (all_is : kepts ≡ all) where
  sections_are : sections_of (entries_of all) ≡ whole.sections
  sections_are = ap (λ (ks : List Kept). sections_of (entries_of ks)) (sym all_is ∙ sym (append-nil kepts)) ∙ whole.cut [] tt tt ∙ none_left whole.sections

  pub all_text : fault ≡ None → out ≡ header ++ flat_map section_text (sections_of (entries_of all))
  all_text none = whole.text none ∙ ap (λ (gs : List WrittenSection). header ++ flat_map section_text gs) (sym sections_are)

  pub all_short : fault ≡ None → AllByRecursion IsShort (sections_of (entries_of all))
  all_short none = subst (AllByRecursion IsShort) (sym sections_are) (whole.short none)

  pub all_long : (n : ℕ) → fault ≡ Some n → IsTooLongAmong n (sections_of (entries_of all))
  all_long n is = subst (IsTooLongAmong n) (sym sections_are) (whole.long n is)
