-- Entries ascend by the texts of their hashes, and are read from an object's members in that order.
use Rattle.std.proofs.Common.{◌≡◌, ◌≤◌, ◌∷◌, [], ◌++◌, ℕ, List, Bool, true, false, Less, Equal, Greater, Ordering, refl, sym, ap, ◌∙◌, subst, arith}
use Rattle.std.specs.Prelude.{Ok, bytes_eq}
use Rattle.std.specs.Ordering.{match_ordering, ordering_reverse}
use Rattle.std.specs.Cmp.{IsTotalOrder}
use Rattle.std.specs.List.{AllByRecursion}
use Rattle.std.specs.Map.{keys_of}
use Rattle.std.specs.BTreeMap.{insert_entry}
use Rattle.std.proofs.Math.Nat.{max-le}
use Rattle.std.proofs.lemmas.Cmp.{nat_list_cmp_total, tied_itself, on_total}
use Rattle.std.proofs.lemmas.List.{append_assoc, append-nil}
use Rattle.std.proofs.lemmas.Slice.Eq.{bytes_eq-Decides}
use Rattle.indexmap.specs.IndexMap.{insert_entry as insert_last}
use Rattle.serde_json.specs.Data.{Data, Members, depth, members_depth, no_members, member as member_of, put}
use Rattle.warg_hash.specs.Hash.{hash_text}
use Rattle.warg_exchange.specs.Body.{Meaning, each_member, digest_in_text}
use Rattle.warg_reply.specs.Order.{by_text, NamesItself, NameThemselves}

abbrev pub Entries : Type 0 → Type 0
Entries X = List (List ℕ × X)

total : IsTotalOrder by_text
total = on_total hash_text nat_list_cmp_total

-- each later key is above
abbrev Above : List ℕ → List ℕ → Type 0
Above k l = by_text k l ≡ Less

-- entries ascend strictly
abbrev pub Ascend : {X : Type 0} → Entries X → Type 0
Ascend [] = Unit {0}
Ascend (e ∷ es) = AllByRecursion (λ l. Above e.0 l) (keys_of es) × Ascend es

apart_at : (b : Bool) (k l : List ℕ) → bytes_eq k l ≡ b → Above l k → b ≡ false
apart_at false k l is above = refl
apart_at true k l is above =
    let same : k ≡ l = (bytes_eq-Decides k l).0 is in
    let less : by_text l l ≡ Less = subst (λ (m : List ℕ). by_text l m ≡ Less) same above in
    absurd (cc (less, tied_itself total l))

-- one more entry behind others
pub named_behind : {X : Type 0} (entries : Entries X) (k : List ℕ) (x : X) → NameThemselves entries → NamesItself k → NameThemselves (entries ++ (k, x) ∷ [])
named_behind [] k x all named = (named, tt)
named_behind (e ∷ entries) k x all named = (all.0, named_behind entries k x all.1 named)

module _ {X : Type 0} where
  all_above : (k l : List ℕ) (es : Entries X) → Above k l → AllByRecursion (λ m. Above l m) (keys_of es) → AllByRecursion (λ m. Above k m) (keys_of es)
  all_above k l [] first rest = tt
  all_above k l (e ∷ es) first rest = (total.trans k l e.0 first rest.0, all_above k l es first rest.1)

  still_above_at : (o : Ordering) (l k : List ℕ) (x : X) (e : List ℕ × X) (es : Entries X) → Above l k → AllByRecursion (λ m. Above l m) (keys_of (e ∷ es))
      → AllByRecursion (λ m. Above l m) (keys_of (insert_entry by_text es k x))
      → AllByRecursion (λ m. Above l m) (keys_of (match_ordering o ((k, x) ∷ e ∷ es) ((e.0, x) ∷ es) (e ∷ insert_entry by_text es k x)))
  still_above_at Less l k x e es first all rest = (first, all)
  still_above_at Equal l k x e es first all rest = all
  still_above_at Greater l k x e es first all rest = (all.0, rest)

  -- what is above a key is above it behind an insert
  still_above : (l k : List ℕ) (x : X) (es : Entries X) → Above l k → AllByRecursion (λ m. Above l m) (keys_of es) → AllByRecursion (λ m. Above l m) (keys_of (insert_entry by_text es k x))
  still_above l k x [] first all = (first, tt)
  still_above l k x (e ∷ es) first all = still_above_at (by_text k e.0) l k x e es first all (still_above l k x es first all.1)

  ascend_at : (o : Ordering) (k : List ℕ) (x : X) (e : List ℕ × X) (es : Entries X) → by_text k e.0 ≡ o → Ascend (e ∷ es) → Ascend (insert_entry by_text es k x)
      → Ascend (match_ordering o ((k, x) ∷ e ∷ es) ((e.0, x) ∷ es) (e ∷ insert_entry by_text es k x))
  ascend_at Less k x e es is all rest = ((is, all_above k e.0 es is all.0), all)
  ascend_at Equal k x e es is all rest = all
  ascend_at Greater k x e es is all rest = (still_above e.0 k x es (total.antisymm e.0 k ∙ ap ordering_reverse is) all.0, rest)

  -- an insert keeps the order
  pub ascend_insert : (es : Entries X) (k : List ℕ) (x : X) → Ascend es → Ascend (insert_entry by_text es k x)
  ascend_insert [] k x all = (tt, tt)
  ascend_insert (e ∷ es) k x all = ascend_at (by_text k e.0) k x e es refl all (ascend_insert es k x all.1)

  -- ---- members, and the entries that they are read as

  -- a value means x, and does not nest deeper than n
  abbrev pub Reads : (Data → Meaning X) → ℕ → Data → X → Type 0
  Reads f n d x = (f d ≡ Ok x) × (depth d ≤ n)

  module _ (f : Data → Meaning X) (n : ℕ) where
    -- each member is an entry: by its name a hash's text, and by its value
    abbrev pub AreRead : Members → Entries X → Type 0
    AreRead no_members [] = Unit {0}
    AreRead no_members (e ∷ es) = ⊥
    AreRead (member_of name d ms) [] = ⊥
    AreRead (member_of name d ms) (e ∷ es) = (name ≡ hash_text e.0) × NamesItself e.0 × Reads f n d e.1 × AreRead ms es

    put_at : (o : Ordering) (k : List ℕ) (x : X) (d : Data) (name : List ℕ) (g : Data) (ms : Members) (e : List ℕ × X) (es : Entries X) → NamesItself k → Reads f n d x
        → AreRead (member_of name g ms) (e ∷ es) → AreRead (put (hash_text k) d ms) (insert_entry by_text es k x)
        → AreRead (match_ordering o (member_of (hash_text k) d (member_of name g ms)) (member_of name d ms) (member_of name g (put (hash_text k) d ms)))
        (match_ordering o ((k, x) ∷ e ∷ es) ((e.0, x) ∷ es) (e ∷ insert_entry by_text es k x))
    put_at Less k x d name g ms e es named is all rest = (refl, named, is, all)
    put_at Equal k x d name g ms e es named is all rest = (all.0, all.1, is, all.3)
    put_at Greater k x d name g ms e es named is all rest = (all.0, all.1, all.2, rest)

    -- a member is put where its entry is inserted
    pub read_put : (ms : Members) (es : Entries X) (k : List ℕ) (x : X) (d : Data) → NamesItself k → Reads f n d x → AreRead ms es → AreRead (put (hash_text k) d ms) (insert_entry by_text es k x)
    read_put no_members [] k x d named is all = (refl, named, is, tt)
    read_put no_members (e ∷ es) k x d named is all = absurd all
    read_put (member_of name g ms) [] k x d named is all = absurd all
    read_put (member_of name g ms) (e ∷ es) k x d named is all =
        rw all.0 (put_at (by_text k e.0) k x d (hash_text e.0) g ms e es named is (refl, all.1, all.2, all.3) (read_put ms es k x d named is all.3))

    pub members_nest : (ms : Members) (es : Entries X) → AreRead ms es → members_depth ms ≤ n
    members_nest no_members es all = omega arith
    members_nest (member_of name d ms) [] all = absurd all
    members_nest (member_of name d ms) (e ∷ es) all = max-le all.2.1 (members_nest ms es all.3)

  above_middle : (k : List ℕ) (found : Entries X) (e : List ℕ × X) (es : Entries X) → AllByRecursion (λ m. Above k m) (keys_of (found ++ e ∷ es)) → Above k e.0
  above_middle k [] e es all = all.0
  above_middle k (g ∷ found) e es all = above_middle k found e es all.1

  -- an entry above the others goes last
  goes_last : (found : Entries X) (e : List ℕ × X) (es : Entries X) → Ascend (found ++ e ∷ es) → insert_last bytes_eq found e.0 e.1 ≡ found ++ e ∷ []
  goes_last [] e es up = refl
  goes_last (g ∷ found) e es up =
      rw (apart_at (bytes_eq e.0 g.0) e.0 g.0 refl (above_middle g.0 found e es up.0)) (ap (λ (l : Entries X). g ∷ l) (goes_last found e es up.1))

  module _ (f : Data → Meaning X) (n : ℕ) where
    read_behind : (found : Entries X) (ms : Members) (es : Entries X) → Ascend (found ++ es) → AreRead f n ms es → each_member digest_in_text f found ms ≡ Ok (found ++ es)
    unfolding each_member
    read_behind found no_members [] up all = ap Ok (sym (append-nil found))
    read_behind found no_members (e ∷ es) up all = absurd all
    read_behind found (member_of name d ms) [] up all = absurd all
    read_behind found (member_of name d ms) (e ∷ es) up all =
        let moved : (found ++ e ∷ []) ++ es ≡ found ++ e ∷ es = append_assoc found (e ∷ []) es in
        rw (all.0, all.1, all.2.0, goes_last found e es up)
        (read_behind (found ++ e ∷ []) ms es (subst Ascend (sym moved) up) all.3 ∙ ap Ok moved)

    -- members in order are read as their entries
    pub read_all : (ms : Members) (es : Entries X) → Ascend es → AreRead f n ms es → each_member digest_in_text f [] ms ≡ Ok es
    read_all ms es up all = read_behind [] ms es up all
