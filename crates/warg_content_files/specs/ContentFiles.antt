-- Contents in files, each in one that is named by its digest.
use Rattle.std.specs.Prelude.{ℕ, nat_eq, nat_lt, Bool, ◌&&◌, if◌then◌else◌, List, ◌++◌, length, codes, None}
use Rattle.std.specs.List.{list_all}
use Rattle.hex.specs.Hex.{encode_lower}
use Rattle.warg_base.specs.Files.{FileMap, file_at}
use Rattle.warg_store.specs.Contents.{Contents}

-- the folder of contents, which is `sha256` below a base folder. The empty text is the folder in which a program runs
abbrev pub content_folder : List ℕ → List ℕ
content_folder base = if nat_eq (length base) 0 then codes "sha256" else base ++ codes "/sha256"

-- the path that a store locks: `.lock` in a base folder
abbrev pub lock_path : List ℕ → List ℕ
lock_path base = if nat_eq (length base) 0 then codes ".lock" else base ++ codes "/.lock"

-- where a content is: in the folder of contents, by the lower-case hexadecimal digits of its digest
abbrev pub content_path : List ℕ → List ℕ → List ℕ
content_path folder digest = folder ++ codes "/" ++ encode_lower digest

-- a digest is 32 bytes
abbrev pub is_digest : List ℕ → Bool
is_digest digest = nat_eq (length digest) 32 && list_all (λ b. nat_lt b 256) digest

-- the contents that are held where these files stand: those of the files that digests name
abbrev pub contents_in : List ℕ → FileMap → Contents
contents_in folder files digest = if is_digest digest then file_at files (content_path folder digest) else None
