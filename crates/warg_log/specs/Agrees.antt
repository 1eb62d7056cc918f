-- What is kept of a log is what its entries say.
use Rattle.std.specs.Prelude.{◌≡◌, ℕ, false, List, option_map}
use Rattle.semver.specs.Parse.{Parts}
use Rattle.warg_record.specs.Record.{Kind, PlainEntry}
use Rattle.warg_log.specs.declared.keys.KeyFacts.{KeyFacts}
use Rattle.warg_log.specs.History.{key_with, holds, is_released, is_yanked, releases_of, namespace_of}
use Rattle.warg_log.specs.Places.{AreDistinct, versions_of}
use Rattle.warg_log.specs.Facts.{PlainFacts, is_held}

-- keys, permissions, releases and namespaces are those of the entries; no version was released twice, and
-- none was yanked that was not released
pub record Agrees (kind : Kind) (k : PlainFacts) (past : List PlainEntry) : Type 0 where
  pub key : (id : List ℕ) → option_map (λ (f : KeyFacts). f.key) (k.keys id) ≡ key_with id past
  pub held : (id q : List ℕ) → is_held k id q ≡ holds kind id q past
  pub releases : k.releases ≡ releases_of past
  pub distinct : AreDistinct (versions_of k.releases)
  pub yanked : (v : Parts) → is_released v past ≡ false → is_yanked v past ≡ false
  pub spaces : (n : List ℕ) → k.namespaces n ≡ namespace_of n past
