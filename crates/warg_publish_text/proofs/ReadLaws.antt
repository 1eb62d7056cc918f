-- Each entry that is read can be published.
use Rattle.std.proofs.Common.{◌≡◌, ◌<◌, ℕ, Bool, true, false, cond, List, [], ◌∷◌, length, Option, Some, None, bytes_eq, codes, ap, subst, arith}
use Rattle.std.specs.Prelude.{Result, Ok, Err}
use Rattle.std.specs.Result.{result_ok}
use Rattle.std.specs.List.{AllByRecursion}
use Rattle.semver.specs.Grammar.{IsValid}
use Rattle.semver.specs.Parse.{Parts, version_parts}
use Rattle.semver.proofs.Grammar.{version_parts-sound}
use Rattle.serde_json.specs.Data.{Data, Items, no_items, item}
use Rattle.serde_json.specs.Find.{as_array}
use Rattle.warg_values.specs.ReadingLaws.{bind_ok, ok_is}
use Rattle.warg_hash.specs.Name.{is_package_name}
use Rattle.warg_record.specs.Key.{is_key_text}
use Rattle.warg_exchange.specs.Body.{required, member, member_as, optional_as, text_in, formed_in, hash_in, each_item, list_in}
use Rattle.warg_publish.specs.Publish.{PlainPublishEntry, PlainPublishInfo, IsPublishableEntry, Init, Release, Yank, Grant, Revoke}
use Rattle.warg_publish_text.specs.PublishText.{version_in, permission_in, some_of, permissions_in, release_in, yank_in, grant_in, revoke_in, entry_of, entry_in, publish_in}

some_is : {A : Type 0} (x y : A) → Some x ≡ Some y → x ≡ y
some_is x y e = cc

-- what has to be there is there
is_there : {X : Type 0} (o : Option X) (x : X) → required o ≡ Ok x → o ≡ Some x
is_there None x e = absurd cc
is_there (Some y) x e = ap Some (ok_is y x e)

-- what is read well is read well in the one way or the other
either : {A P : Type 0} (b : Bool) (x y z : A) → cond b x y ≡ z → (x ≡ z → P) → (y ≡ z → P) → P
either true x y z e one other = one e
either false x y z e one other = other e

read_well : {X E : Type 0} (r : Result X E) (x : X) → result_ok r ≡ Some x → r ≡ Ok x
read_well (Ok y) x e = ap Ok (some_is y x e)
read_well (Err fault) x e = absurd cc

version_is_valid : (d : Data) (version : Parts) → version_in d ≡ Ok version → IsValid version
version_is_valid d version e =
    let a = bind_ok (text_in d) _ _ e in
    (version_parts-sound a.0 version (read_well (version_parts a.0) version (is_there _ version a.2))).1

some_are : (ps qs : List (List ℕ)) → some_of ps ≡ Ok qs → 0 < length qs
some_are [] qs e = absurd cc
some_are (p ∷ ps) qs e = subst (λ (l : List (List ℕ)). 0 < length l) (ok_is (p ∷ ps) qs e) (omega arith)

permissions_are : (d : Data) (ps : List (List ℕ)) → permissions_in d ≡ Ok ps → 0 < length ps
permissions_are d ps e = let a = bind_ok (list_in permission_in d) _ _ e in some_are a.0 ps a.2

release_can : (d : Data) (e : PlainPublishEntry) → release_in d ≡ Ok e → IsPublishableEntry e
unfolding release_in
release_can d e is =
    let a = bind_ok (member_as (codes "content") hash_in d) _ _ is in
    let b = bind_ok (member_as (codes "version") version_in d) _ _ a.2 in
    let c = bind_ok (member (codes "version") d) _ _ b.1 in
    subst IsPublishableEntry (ok_is (Release b.0 a.0) e b.2) (version_is_valid c.0 b.0 c.2)

yank_can : (d : Data) (e : PlainPublishEntry) → yank_in d ≡ Ok e → IsPublishableEntry e
unfolding yank_in
yank_can d e is =
    let b = bind_ok (member_as (codes "version") version_in d) _ _ is in
    let c = bind_ok (member (codes "version") d) _ _ b.1 in
    subst IsPublishableEntry (ok_is (Yank b.0) e b.2) (version_is_valid c.0 b.0 c.2)

grant_can : (d : Data) (e : PlainPublishEntry) → grant_in d ≡ Ok e → IsPublishableEntry e
unfolding grant_in
grant_can d e is =
    let a = bind_ok (member_as (codes "key") (formed_in is_key_text) d) _ _ is in
    let b = bind_ok (member_as (codes "permissions") permissions_in d) _ _ a.2 in
    let c = bind_ok (member (codes "permissions") d) _ _ b.1 in
    subst IsPublishableEntry (ok_is (Grant a.0 b.0) e b.2) (permissions_are c.0 b.0 c.2)

revoke_can : (d : Data) (e : PlainPublishEntry) → revoke_in d ≡ Ok e → IsPublishableEntry e
unfolding revoke_in
revoke_can d e is =
    let a = bind_ok (member_as (codes "keyId") hash_in d) _ _ is in
    let b = bind_ok (member_as (codes "permissions") permissions_in d) _ _ a.2 in
    let c = bind_ok (member (codes "permissions") d) _ _ b.1 in
    subst IsPublishableEntry (ok_is (Revoke a.0 b.0) e b.2) (permissions_are c.0 b.0 c.2)

of_kind_can : (kind : List ℕ) (d : Data) (e : PlainPublishEntry) → entry_of kind d ≡ Ok e → IsPublishableEntry e
of_kind_can kind d e is =
    either (bytes_eq kind (codes "init")) _ _ _ is (λ h. subst IsPublishableEntry (ok_is Init e h) tt)
    (λ is. either (bytes_eq kind (codes "release")) _ _ _ is (release_can d e)
    (λ is. either (bytes_eq kind (codes "yank")) _ _ _ is (yank_can d e)
    (λ is. either (bytes_eq kind (codes "grant")) _ _ _ is (grant_can d e)
    (λ is. either (bytes_eq kind (codes "revoke")) _ _ _ is (revoke_can d e) (λ h. absurd cc)))))

entry_can : (d : Data) (e : PlainPublishEntry) → entry_in d ≡ Ok e → IsPublishableEntry e
unfolding entry_in
entry_can d e is = let a = bind_ok (member_as (codes "type") text_in d) _ _ is in of_kind_can a.0 d e a.2

entries_can : (ds : Items) (es : List PlainPublishEntry) → each_item entry_in ds ≡ Ok es → AllByRecursion IsPublishableEntry es
unfolding each_item
entries_can no_items es is = subst (AllByRecursion IsPublishableEntry) (ok_is [] es is) tt
entries_can (item d ds) es is =
    let a = bind_ok (entry_in d) _ _ is in
    let b = bind_ok (each_item entry_in ds) _ _ a.2 in
    subst (AllByRecursion IsPublishableEntry) (ok_is (a.0 ∷ b.0) es b.2) (entry_can d a.0 a.1, entries_can ds b.0 b.1)

pub info_can : (d : Data) (info : PlainPublishInfo) → publish_in d ≡ Ok info → AllByRecursion IsPublishableEntry info.entries
unfolding publish_in
info_can d info is =
    let a = bind_ok (member_as (codes "entries") (list_in entry_in) d) _ _ is in
    let b = bind_ok (optional_as (codes "head") hash_in d) _ _ a.2 in
    let c = bind_ok (member_as (codes "name") (formed_in is_package_name) d) _ _ b.2 in
    let m = bind_ok (member (codes "entries") d) _ _ a.1 in
    let l = bind_ok (required (as_array m.0)) _ _ m.2 in
    subst (λ (i : PlainPublishInfo). AllByRecursion IsPublishableEntry i.entries) (ok_is _ info c.2) (entries_can l.0 a.0 l.2)
