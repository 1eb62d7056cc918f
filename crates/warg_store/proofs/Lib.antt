mod ContentLaws
mod CopyLaws
mod HeldLaws
mod ListingLaws
mod ResetLaws
mod TellingLaws
