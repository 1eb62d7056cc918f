-- Checkpoints that are written are read as they were.
use Rattle.std.proofs.Common.{◌≡◌, List, ℕ, Some, true, refl}
use Rattle.std.specs.Prelude.{Result, Ok, Err, OnOk}
use Rattle.warg_hash.specs.Hash.{digest_of, hash_text}
use Rattle.warg_record.specs.Key.{is_key_text}
use Rattle.warg_exchange.specs.Replies.{contents_in, checkpoint_in}
use Rattle.warg_exchange.specs.Requests.{contents_data, checkpoint_data}
use Rattle.warg_exchange.specs.declared.checkpoint.Checkpoint.{Checkpoint}
use Rattle.warg_exchange.specs.declared.checkpoint.SignedCheckpoint.{SignedCheckpoint}

-- a digest's text names the digest
abbrev pub NamesItself : List ℕ → Type 0
NamesItself digest = digest_of (hash_text digest) ≡ Some digest

pub contents_read : (c : Checkpoint) → NamesItself c.log_root → NamesItself c.map_root → contents_in (contents_data c) ≡ Ok c
unfolding contents_in
contents_read c log map = rw (log, map) refl

pub checkpoint_read : (c : SignedCheckpoint) → contents_in (contents_data c.contents) ≡ Ok c.contents → NamesItself c.key_id → is_key_text c.signature ≡ true → checkpoint_in (checkpoint_data c) ≡ Ok c
unfolding checkpoint_in
checkpoint_read c contents key signature = rw (contents, key, signature) refl

-- what is so is so of an answer
pub on_ok_too : {X E P : Type 0} (r : Result X E) → P → OnOk r P
on_ok_too (Ok x) p = p
on_ok_too (Err e) p = tt
