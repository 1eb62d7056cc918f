-- The entries of a record that is made have the form of such.
use Rattle.std.proofs.Common.{◌≡◌, ℕ, nat_lt, Bool, true, ◌||◌, List, [], ◌∷◌, ◌++◌, map, codes, refl, ap, arith}
use Rattle.std.specs.Prelude.{IsTrue}
use Rattle.std.specs.List.{AllByRecursion, list_all, list_any}
use Rattle.std.specs.Str.{IsAscii}
use Rattle.std.proofs.lemmas.Bool.{and_parts, ltb-true}
use Rattle.std.proofs.lemmas.Str.{IsUtf8-from_ascii}
use Rattle.std.proofs.lemmas.Str.Ascii.{IsAscii-cons, IsAscii-nil}
use Rattle.warg_record.specs.Record.{IsEntry, IsText, Package, is_permission}
use Rattle.warg_record.specs.View.{package_permission_text}
use Rattle.warg_record.specs.declared.package.Permission.{Permission}
use Rattle.warg_record.specs.declared.package.Permission.TheVariants as permission
use Rattle.warg_publish.specs.Formed.{IsFormed}
use Rattle.warg_publish.specs.Publish.{PlainPublishEntry, IsPublishableEntry, record_entry}

-- a test of views finds what the test of what is seen finds
pub any_seen : {X V : Type 0} (view : X → V) (test : V → Bool) (xs : List X) → list_any (λ x. test (view x)) xs ≡ list_any test (map view xs)
any_seen view test [] = refl
any_seen view test (x ∷ xs) = ap (λ (b : Bool). test (view x) || b) (any_seen view test xs)

are_ascii : (text : List ℕ) → list_all (λ b. nat_lt b 128) text ≡ true → IsAscii text
are_ascii [] h = IsAscii-nil
are_ascii (b ∷ rest) h =
    let a = and_parts (nat_lt b 128) (list_all (λ c. nat_lt c 128) rest) h in
    IsAscii-cons b rest (ltb-true b 128 a.0) (are_ascii rest a.1)

-- the hash algorithm is a text
pub algorithm_is_text : IsText (codes "sha256")
algorithm_is_text = (IsUtf8-from_ascii (codes "sha256") (are_ascii (codes "sha256") refl), omega arith)

-- what keys can hold in packages' logs are permissions
pub permissions_stand : (ps : List Permission) → AllByRecursion (λ p. IsTrue (is_permission Package p)) (map package_permission_text ps)
permissions_stand [] = tt
permissions_stand (permission.Release ∷ ps) = (refl, permissions_stand ps)
permissions_stand (permission.Yank ∷ ps) = (refl, permissions_stand ps)

-- one more
pub all_push : {X : Type 0} (P : X → Type 0) (xs : List X) (x : X) → AllByRecursion P xs → P x → AllByRecursion P (xs ++ x ∷ [])
all_push P [] x all here = (here, tt)
all_push P (y ∷ xs) x all here = (all.0, all_push P xs x all.1 here)

-- all entries of the record
pub all_formed : (signer : List ℕ) (es : List PlainPublishEntry) → AllByRecursion (IsFormed signer) es → AllByRecursion IsPublishableEntry es → AllByRecursion (IsEntry Package) (map (record_entry signer) es)
all_formed signer [] formed can = tt
all_formed signer (e ∷ es) formed can = (formed.0 can.0, all_formed signer es formed.1 can.1)
