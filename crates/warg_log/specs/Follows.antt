-- The state of a log follows a list of records.
use Rattle.std.specs.Prelude.{◌≡◌, List}
use Rattle.warg_record.specs.Record.{Kind}
use Rattle.warg_record.specs.Envelope.{Signed}
use Rattle.warg_log.specs.declared.state.LogState.{LogState}
use Rattle.warg_log.specs.Agrees.{Agrees}
use Rattle.warg_log.specs.Facts.{known_by}
use Rattle.warg_log.specs.Lawful.{IsLawful}
use Rattle.warg_log.specs.Rules.{any_signature, head_of, entries_of}

-- the head is the list's, and what is kept is what the list's entries say
pub record Follows {E : Type 0} (kind : Kind) (state : LogState E) (log : List Signed) : Type 0 where
  pub head : state.head ≡ head_of log
  pub agrees : Agrees kind (known_by state.facts) (entries_of log)

-- the state is the replay of these records: they obey every rule but that of the signature, and it is what they say
pub record IsReplayOf {E : Type 0} (kind : Kind) (state : LogState E) (log : List Signed) : Type 0 where
  pub lawful : IsLawful kind any_signature log
  pub follows : Follows kind state log
