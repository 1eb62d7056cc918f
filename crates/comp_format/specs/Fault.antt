-- Why bytes are not read.
pub data Fault : Type 0 where
  -- no form of the format stands here
  Form : Fault
  -- a form stands here that is not carried
  NotCarried : Fault
  -- more scopes are open here than were to be read
  TooDeep : Fault
