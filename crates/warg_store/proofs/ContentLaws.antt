-- What a refused store of a content leaves.
use Rattle.std.proofs.Common.{◌-◌, ℕ, List, length, take, Option, Some, None, Result, Ok, Err, OnOk, OnErr, refl, inl, inr, arith}
use Rattle.std.proofs.lemmas.List.{take_all}
use Rattle.sha2.specs.Sha256.{sha256}
use Rattle.warg_store.specs.declared.after.After.{After}
use Rattle.warg_store.specs.declared.after.After.TheVariants as after
use Rattle.warg_store.specs.Contents.{Contents, SameContents, AreContentsAfter, LeavesContent, with_content}

-- contents that stay
pub left_same : (held now : Contents) (bytes : List ℕ) → SameContents now held → LeavesContent (Some now) held bytes
left_same held now bytes same = inl (record { now = now; tells = refl; same = same })

-- a front of the bytes
left_front : (held now : Contents) (bytes : List ℕ) (n : ℕ) → SameContents now (with_content held (sha256 bytes) (take n bytes)) → LeavesContent (Some now) held bytes
left_front held now bytes n same = inr (n, record { now = now; tells = refl; same = same })

-- all of the bytes
left_all : (held now : Contents) (bytes : List ℕ) → SameContents now (with_content held (sha256 bytes) bytes) → LeavesContent (Some now) held bytes
left_all held now bytes same =
    left_front held now bytes (length bytes) (rw (take_all (length bytes) bytes (omega arith)) same)

-- what a store that may be to fail leaves
left_after : (failing : Option After) (held now : Contents) (bytes : List ℕ) → AreContentsAfter failing held (sha256 bytes) bytes now → LeavesContent (Some now) held bytes
left_after None held now bytes same = left_all held now bytes same
left_after (Some after.Old) held now bytes same = left_same held now bytes same
left_after (Some after.New) held now bytes same = left_all held now bytes same
left_after (Some after.Unreadable) held now bytes same = left_front held now bytes (length bytes - 1) same

-- whether there was memory for it or not
pub left_by_store : {X E : Type 0} (r : Result X E) (failing : Option After) (held now : Contents) (bytes : List ℕ) → OnOk r (AreContentsAfter failing held (sha256 bytes) bytes now) → OnErr r (SameContents now held) → LeavesContent (Some now) held bytes
left_by_store (Ok x) failing held now bytes done same = left_after failing held now bytes done
left_by_store (Err e) failing held now bytes done same = left_same held now bytes same

-- what is so is so of a refusal
pub on_err_too : {X E P : Type 0} (r : Result X E) → P → OnErr r P
on_err_too (Ok x) p = tt
on_err_too (Err e) p = p
