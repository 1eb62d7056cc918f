-- What comes of a text that is refused.
use Rattle.std.proofs.Common.{◌≡◌, ap, ℕ, Bool, true, false, List, Some, Result, Ok, Err}
use Rattle.std.proofs.lemmas.Bool.{false≢true}
use Rattle.std.specs.Str.{IsUtf8}
use Rattle.warg_base.specs.Files.{FileMap, file_at}
use Rattle.compose_config.specs.Plan.{settings_at}
use Rattle.yaml_read.specs.Answers.{ReadFails}
use Rattle.yaml_read.specs.Source.{Refusal}
use Rattle.yaml_read.specs.Whole.{whole_at}
use Rattle.yaml_read.specs.declared.error.DeError.{DeError}
use Rattle.yaml_read.specs.declared.error.DeError.TheVariants as yaml
use Rattle.yaml_small.specs.declared.error.ScanError.TheVariants as scans
use Rattle.compose_files.specs.Read.{IsConfigRefusal, IsConfigShort, refusal_of}

ok_err : {A : Type 0} {P : Type 0} (x : A) (e : Refusal) → ◌≡◌ {A = Result A Refusal} (Ok x) (Err e) → P
ok_err x e same = absurd cc

-- a text that holds something is refused for want of memory alone
pub refused_short : {A : Type 0} (e : DeError) (x : A) → ReadFails e (Ok x) → IsConfigShort (refusal_of e)
refused_short yaml.Memory x fails = tt
refused_short (yaml.Scan scans.Memory) x fails = absurd fails
refused_short (yaml.Scan (scans.Form marker)) x fails = absurd (false≢true fails)
refused_short (yaml.Scan (scans.NotCarried marker)) x fails = ok_err x _ fails
refused_short (yaml.Scan (scans.TooDeep marker)) x fails = ok_err x _ fails
refused_short _ x fails = ok_err x _ fails

abbrev is_memory : DeError → Bool
is_memory yaml.Memory = true
is_memory _ = false

-- and one that holds nothing by its cause
pub refused_text : (files : FileMap) (path text : List ℕ) (e : DeError) → file_at files path ≡ Some text → IsUtf8 text → ReadFails e (whole_at settings_at text) → IsConfigRefusal files path (refusal_of e)
refused_text files path text yaml.Memory found is_text fails = tt
refused_text files path text e found is_text fails = record { text = text; found = found; is_text = is_text; refused = fails; not_for_memory = λ same. false≢true (ap is_memory same) }
