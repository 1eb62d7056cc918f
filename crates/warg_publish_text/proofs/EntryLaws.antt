-- Entries that are written are read as they were.
use Rattle.std.proofs.Common.{◌≡◌, ◌<◌, ◌≤◌, ℕ, true, false, List, [], ◌∷◌, ◌++◌, length, map, refl, arith}
use Rattle.std.specs.Prelude.{Ok, Result, Err, OnOk, IsTrue}
use Rattle.std.specs.List.{AllByRecursion}
use Rattle.std.proofs.Math.Nat.{max-le}
use Rattle.semver.specs.Parse.{Parts}
use Rattle.semver.proofs.Grammar.{version_parts-complete}
use Rattle.serde_json.specs.Data.{string, items_depth, depth}
use Rattle.serde_json.specs.View.{items_of}
use Rattle.serde_json.specs.Written.{has_float, items_have_float}
use Rattle.warg_record.specs.Key.{is_key_text}
use Rattle.warg_record.specs.Record.{Package, is_permission}
use Rattle.warg_record.specs.View.{package_permission_text}
use Rattle.warg_record.specs.declared.package.Permission.{Permission}
use Rattle.warg_record.specs.declared.package.Permission.TheVariants as permission
use Rattle.warg_exchange.specs.Body.{each_item}
use Rattle.warg_publish.specs.Publish.{PlainPublishEntry, IsPublishableEntry, Init, Release, Yank, Grant, Revoke}
use Rattle.warg_publish_text.specs.PublishText.{entry_data, entry_in, grant_in, permission_in, permissions_data, permissions_in, release_in, revoke_in, yank_in}
use Rattle.warg_publish_text.specs.ReadsBack.{NamesItself, ReadsBack}

-- ---- permissions

-- they are permissions that keys can hold
abbrev pub Stand : List (List ℕ) → Type 0
Stand permissions = AllByRecursion (λ p. IsTrue (is_permission Package p)) permissions

pub permissions_stand : (ps : List Permission) → Stand (map package_permission_text ps)
permissions_stand [] = tt
permissions_stand (permission.Release ∷ ps) = (refl, permissions_stand ps)
permissions_stand (permission.Yank ∷ ps) = (refl, permissions_stand ps)

each_read : (ps : List (List ℕ)) → Stand ps → each_item permission_in (items_of (map string ps)) ≡ Ok ps
unfolding each_item
each_read [] are = refl
each_read (p ∷ ps) are = rw (are.0, each_read ps are.1) refl

permissions_read : (ps : List (List ℕ)) → Stand ps → 0 < length ps → permissions_in (permissions_data ps) ≡ Ok ps
permissions_read [] are some = absurd (omega (arith, some))
permissions_read (p ∷ ps) are some = rw (each_read (p ∷ ps) are) refl

-- ---- each entry

pub init_read : ReadsBack Init
unfolding entry_in
init_read can = refl

pub release_read : (version : Parts) (content : List ℕ) → NamesItself content → ReadsBack (Release version content)
unfolding entry_in release_in
release_read version content names valid = rw (names, version_parts-complete version valid) refl

pub yank_read : (version : Parts) → ReadsBack (Yank version)
unfolding entry_in yank_in
yank_read version valid = rw (version_parts-complete version valid) refl

pub grant_read : (key : List ℕ) (ps : List (List ℕ)) → is_key_text key ≡ true → Stand ps → ReadsBack (Grant key ps)
unfolding entry_in grant_in
grant_read key ps is are some = rw (is, permissions_read ps are some) refl

pub revoke_read : (key_id : List ℕ) (ps : List (List ℕ)) → NamesItself key_id → Stand ps → ReadsBack (Revoke key_id ps)
unfolding entry_in revoke_in
revoke_read key_id ps names are some = rw (names, permissions_read ps are some) refl

-- ---- all entries

pub entries_read : (es : List PlainPublishEntry) → AllByRecursion ReadsBack es → AllByRecursion IsPublishableEntry es → each_item entry_in (items_of (map entry_data es)) ≡ Ok es
unfolding each_item
entries_read [] read can = refl
entries_read (e ∷ es) read can = rw (read.0 can.0, entries_read es read.1 can.1) refl

texts_no_float : (ps : List (List ℕ)) → items_have_float (items_of (map string ps)) ≡ false
texts_no_float [] = refl
texts_no_float (p ∷ ps) = texts_no_float ps

entry_no_float : (e : PlainPublishEntry) → has_float (entry_data e) ≡ false
entry_no_float Init = refl
entry_no_float (Release version content) = refl
entry_no_float (Yank version) = refl
entry_no_float (Grant key ps) = rw (texts_no_float ps) refl
entry_no_float (Revoke key_id ps) = rw (texts_no_float ps) refl

pub entries_no_float : (es : List PlainPublishEntry) → items_have_float (items_of (map entry_data es)) ≡ false
entries_no_float [] = refl
entries_no_float (e ∷ es) = rw (entry_no_float e, entries_no_float es) refl

texts_nest : (ps : List (List ℕ)) → items_depth (items_of (map string ps)) ≤ 0
texts_nest [] = omega arith
texts_nest (p ∷ ps) = max-le (omega arith) (texts_nest ps)

entry_nests : (e : PlainPublishEntry) → depth (entry_data e) ≤ 2
entry_nests Init = omega arith
entry_nests (Release version content) = omega arith
entry_nests (Yank version) = omega arith
entry_nests (Grant key ps) = omega (arith, texts_nest ps)
entry_nests (Revoke key_id ps) = omega (arith, texts_nest ps)

pub entries_nest : (es : List PlainPublishEntry) → items_depth (items_of (map entry_data es)) ≤ 2
entries_nest [] = omega arith
entries_nest (e ∷ es) = max-le (entry_nests e) (entries_nest es)

-- ---- one more

pub all_push : {X : Type 0} (P : X → Type 0) (xs : List X) (x : X) → AllByRecursion P xs → P x → AllByRecursion P (xs ++ x ∷ [])
all_push P [] x all here = (here, tt)
all_push P (y ∷ xs) x all here = (all.0, all_push P xs x all.1 here)

-- what is so is so of an answer
pub on_ok_too : {X E P : Type 0} (r : Result X E) → P → OnOk r P
on_ok_too (Ok x) p = p
on_ok_too (Err e) p = tt
